-- The pages of the mainframe in the areas of words and marks: a copy and a twin are rows of words, a dirty mark is one place, and each
-- stored anew is that one replaced. Assumes nothing.
use Prim.Native.Nat.{ℕ, ◌+◌, ◌*◌, ◌≤◌, ◌<◌}
use native.Mathlib.Omega.{arith}
use mathlib.Core.Path.{◌≡◌, sym, ap, ◌∙◌}
use mathlib.Core.Bool.{Bool, cond, ◌&&◌}
use mathlib.Core.List.{List, []}
use lib.ListN.{length, get_or, set}
use lib.Seq.{sets}
use lib.Dec.{eqb}
use Rattle.lists.specs.Tables.{cell, put_cell}
use Rattle.limits.specs.Limits.{page_limit, page_width, processor_limit}
use Rattle.limits.specs.inner.Sizes.{mark_area, word_area}
use Rattle.rules.specs.Fetch.{with_copy}
use Rattle.rules.specs.State.{mainframe, copy_of, twin_of}
use Rattle.layout.specs.Layout.{row_of}
use Rattle.layout.specs.Areas.{copy_row, twin_row, dirty_place, pages_in}
use Rattle.layout.proofs.Stores.{get_set, eqb_pair}
use Rattle.layout.proofs.RowLaws.{row_of_sets_other, row_of_sets, get_page, page_table_same, put_page}

-- ---- the rows and places lie within the areas

-- the row of a copy
pub copy_row_there : (p g : ℕ) → 1 ≤ p → p ≤ processor_limit → g < page_limit → page_width * copy_row mainframe p g + page_width ≤ word_area
unfolding copy_row mainframe
copy_row_there p g h k b = omega arith

-- the row of a twin
pub twin_row_there : (p g : ℕ) → 1 ≤ p → p ≤ processor_limit → g < page_limit → page_width * twin_row mainframe p g + page_width ≤ word_area
unfolding twin_row copy_row mainframe
twin_row_there p g h k b = omega arith

-- ---- reading

module _ (w m : List ℕ) (p g : ℕ) (h : 1 ≤ p) (k : p ≤ processor_limit) (b : g < page_limit) where
  -- a copy is its row
  pub copy_read : copy_of (pages_in mainframe w m) p g ≡ row_of page_width w (copy_row mainframe p g)
  unfolding copy_of pages_in mainframe
  copy_read = get_page [] processor_limit page_limit (λ q j. row_of page_width w (copy_row mainframe q j)) p g h k b

  -- a twin is its row
  pub twin_read : twin_of (pages_in mainframe w m) p g ≡ row_of page_width w (twin_row mainframe p g)
  unfolding twin_of pages_in mainframe
  twin_read = get_page [] processor_limit page_limit (λ q j. row_of page_width w (twin_row mainframe q j)) p g h k b

  -- a dirty mark stands at its place
  pub dirty_read : cell 0 (pages_in mainframe w m).dirty p g ≡ get_or m (dirty_place mainframe p g) 0
  unfolding pages_in mainframe
  dirty_read = get_page 0 processor_limit page_limit (λ q j. get_or m (dirty_place mainframe q j) 0) p g h k b

-- ---- a copy or a twin stored anew

module _ (w m page : List ℕ) (p g : ℕ) (there : length w ≡ word_area) (e : length page ≡ page_width) (h : 1 ≤ p) (k : p ≤ processor_limit) (b : g < page_limit) where
  -- the row of a copy stored anew is that copy replaced
  pub copy_written : pages_in mainframe (sets w (page_width * copy_row mainframe p g) page) m ≡ with_copy (pages_in mainframe w m) p g page
  unfolding pages_in with_copy mainframe copy_row twin_row
  copy_written =
      λ i. record {
        copies =
            (page_table_same processor_limit page_limit (λ q j. row_of page_width (sets w (page_width * copy_row mainframe p g) page) (copy_row mainframe q j))
            (λ q j. cond (eqb q p && eqb j g) page (row_of page_width w (copy_row mainframe q j)))
            (λ q j x y z.
            row_of_sets page_width w page (copy_row mainframe p g) (copy_row mainframe q j) e (omega arith)
            ∙ ap (λ (t : Bool). cond t page (row_of page_width w (copy_row mainframe q j)))
            (eqb_pair (copy_row mainframe q j) (copy_row mainframe p g) q p j g (λ s. (omega arith, omega arith)) (λ s r. rw (s, r))))
            ∙ sym (put_page [] processor_limit page_limit (λ q j. row_of page_width w (copy_row mainframe q j)) p g page h k b)) i;
        twins =
            page_table_same processor_limit page_limit (λ q j. row_of page_width (sets w (page_width * copy_row mainframe p g) page) (twin_row mainframe q j))
            (λ q j. row_of page_width w (twin_row mainframe q j))
            (λ q j x y z. row_of_sets_other page_width w page (copy_row mainframe p g) (twin_row mainframe q j) (omega arith) (λ s. omega arith)) i;
        dirty = (pages_in mainframe w m).dirty;
      }

  -- the row of a twin stored anew is that twin replaced
  pub twin_written : pages_in mainframe (sets w (page_width * twin_row mainframe p g) page) m
      ≡ record { copies = (pages_in mainframe w m).copies; twins = put_cell [] (pages_in mainframe w m).twins p g page; dirty = (pages_in mainframe w m).dirty }
  unfolding pages_in mainframe copy_row twin_row
  twin_written =
      λ i. record {
        copies =
            page_table_same processor_limit page_limit (λ q j. row_of page_width (sets w (page_width * twin_row mainframe p g) page) (copy_row mainframe q j))
            (λ q j. row_of page_width w (copy_row mainframe q j))
            (λ q j x y z. row_of_sets_other page_width w page (twin_row mainframe p g) (copy_row mainframe q j) (omega arith) (λ s. omega arith)) i;
        twins =
            (page_table_same processor_limit page_limit (λ q j. row_of page_width (sets w (page_width * twin_row mainframe p g) page) (twin_row mainframe q j))
            (λ q j. cond (eqb q p && eqb j g) page (row_of page_width w (twin_row mainframe q j)))
            (λ q j x y z.
            row_of_sets page_width w page (twin_row mainframe p g) (twin_row mainframe q j) e (omega arith)
            ∙ ap (λ (t : Bool). cond t page (row_of page_width w (twin_row mainframe q j)))
            (eqb_pair (twin_row mainframe q j) (twin_row mainframe p g) q p j g (λ s. (omega arith, omega arith)) (λ s r. rw (s, r))))
            ∙ sym (put_page [] processor_limit page_limit (λ q j. row_of page_width w (twin_row mainframe q j)) p g page h k b)) i;
        dirty = (pages_in mainframe w m).dirty;
      }

-- ---- dirty marks

-- a dirty mark stored anew is that mark replaced
pub dirty_written : (w m : List ℕ) (p g x : ℕ) → length m ≡ mark_area → 1 ≤ p → p ≤ processor_limit → g < page_limit
    → pages_in mainframe w (set m (dirty_place mainframe p g) x)
    ≡ record { copies = (pages_in mainframe w m).copies; twins = (pages_in mainframe w m).twins; dirty = put_cell 0 (pages_in mainframe w m).dirty p g x }
unfolding pages_in mainframe dirty_place
dirty_written w m p g x there h k b =
    λ i. record {
      copies = (pages_in mainframe w m).copies;
      twins = (pages_in mainframe w m).twins;
      dirty =
          (page_table_same processor_limit page_limit (λ q j. get_or (set m (dirty_place mainframe p g) x) (dirty_place mainframe q j) 0)
          (λ q j. cond (eqb q p && eqb j g) x (get_or m (dirty_place mainframe q j) 0))
          (λ q j y z c.
          get_set m (dirty_place mainframe p g) (dirty_place mainframe q j) x (omega arith)
          ∙ ap (λ (t : Bool). cond t x (get_or m (dirty_place mainframe q j) 0))
          (eqb_pair (dirty_place mainframe q j) (dirty_place mainframe p g) q p j g (λ s. (omega arith, omega arith)) (λ s r. rw (s, r))))
          ∙ sym (put_page 0 processor_limit page_limit (λ q j. get_or m (dirty_place mainframe q j) 0) p g x h k b)) i;
    }
