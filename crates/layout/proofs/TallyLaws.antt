-- The tallies of the mainframe in the area of words: where they stand, that pages and tallies leave each other alone, and what a stored add, and a round's
-- posting, come to. Assumes nothing.
use Prim.Native.Nat.{ℕ, ◌+◌, ◌*◌, ◌≤◌, ◌<◌}
use native.Mathlib.Omega.{arith}
use mathlib.Core.Path.{◌≡◌, sym, ap, ◌∙◌, fun_ext}
use mathlib.Core.Bool.{Bool, cond, ◌&&◌}
use mathlib.Core.List.{List}
use lib.ListN.{length, get_or, set}
use lib.Seq.{ext_get_or, sets, get_or-set_other}
use lib.Dec.{eqb}
use Rattle.lists.specs.Tables.{put_cell, tabulate}
use Rattle.lists.proofs.Tabulated.{length_tabulate, get_tabulate, tabulate_same, map_tabulate}
use Rattle.limits.specs.Limits.{processor_limit, page_limit, page_width, tally_limit, job_limit}
use Rattle.limits.specs.inner.Sizes.{first_tally, first_job_value, word_area}
use Rattle.rules.specs.State.{mainframe, Shared, posted_of, adds_of, with_shared}
use Rattle.rules.specs.Tallies.{total_after, posting}
use Rattle.layout.specs.Areas.{copy_row, twin_row, word_rows, tally_place, value_place, pages_in, shared_in, state_in}
use Rattle.layout.specs.Layout.{row_of, per_processor}
use Rattle.layout.proofs.Stores.{get_set, get_sets_behind, eqb_pair}
use Rattle.layout.proofs.RowLaws.{length_row, get_row, get_page, page_table_same, put_page, map_per_processor}

-- ---- where they stand

-- the place of a tally, by numbers
pub tally_at : (k t : ℕ) → tally_place mainframe k t ≡ first_tally + tally_limit * k + t
unfolding tally_place word_rows mainframe
tally_at k t = omega arith

-- it lies within the area
pub tally_there : (k t : ℕ) → k ≤ processor_limit → t < tally_limit → tally_place mainframe k t < word_area
tally_there k t h l = omega (arith, tally_at k t)

-- the place of a job's value, by numbers
pub value_at_lem : (k : ℕ) → value_place mainframe k ≡ first_job_value + k
unfolding value_place word_rows mainframe
value_at_lem k = omega arith

-- it lies behind the tallies
pub value_behind : (p t k : ℕ) → p ≤ processor_limit → t < tally_limit → tally_place mainframe p t < value_place mainframe k
value_behind p t k h l = omega (arith, tally_at p t, value_at_lem k)

-- ---- reading

module _ (w : List ℕ) where
  -- a posted total
  pub posted_read : (t : ℕ) → t < tally_limit → posted_of (shared_in mainframe w) t ≡ get_or w (tally_place mainframe 0 t) 0
  unfolding posted_of shared_in mainframe
  posted_read t h = get_tabulate tally_limit (λ u. get_or w (tally_place mainframe 0 u) 0) t 0 h

  -- the adds of a processor
  pub adds_read : (p t : ℕ) → 1 ≤ p → p ≤ processor_limit → t < tally_limit → adds_of (shared_in mainframe w) p t ≡ get_or w (tally_place mainframe p t) 0
  unfolding adds_of shared_in mainframe
  adds_read p t h k l = get_page 0 processor_limit tally_limit (λ q u. get_or w (tally_place mainframe q u) 0) p t h k l

-- ---- words that agree

-- places from a to b
abbrev pub WordsAgree : List ℕ → List ℕ → ℕ → ℕ → Type 0
WordsAgree v w a b = (i : ℕ) → a ≤ i → i < b → get_or v i 0 ≡ get_or w i 0

-- words that agree behind the pages hold the same tallies and values of jobs
pub shared_same : (v w : List ℕ) → WordsAgree v w first_tally word_area → shared_in mainframe v ≡ shared_in mainframe w
unfolding shared_in mainframe
shared_same v w e =
    λ i. record {
      posted = tabulate_same tally_limit (λ t. get_or v (tally_place mainframe 0 t) 0) (λ t. get_or w (tally_place mainframe 0 t) 0) (λ t h. e (tally_place mainframe 0 t) (omega (arith, tally_at 0 t)) (tally_there 0 t (omega arith) h)) i;
      adds =
          page_table_same processor_limit tally_limit (λ p t. get_or v (tally_place mainframe p t) 0) (λ p t. get_or w (tally_place mainframe p t) 0)
          (λ p t h k l. e (tally_place mainframe p t) (omega (arith, tally_at p t)) (tally_there p t k l)) i;
      values =
          tabulate_same job_limit (λ k. get_or v (value_place mainframe k) 0) (λ k. get_or w (value_place mainframe k) 0)
          (λ k h. e (value_place mainframe k) (omega (arith, value_at_lem k)) (omega (arith, value_at_lem k))) i;
    }

-- a run of words before the tallies leaves them
pub shared_beside : (w v : List ℕ) (k : ℕ) → k + length v ≤ first_tally → shared_in mainframe (sets w k v) ≡ shared_in mainframe w
shared_beside w v k h = shared_same (sets w k v) w (λ j a b. get_sets_behind v w k j 0 (omega arith))

-- the rows of copies and twins lie before the tallies
pub copy_row_before : (p g : ℕ) → 1 ≤ p → p ≤ processor_limit → g < page_limit → page_width * copy_row mainframe p g + page_width ≤ first_tally
unfolding copy_row mainframe
copy_row_before p g h k l = omega arith

pub twin_row_before : (p g : ℕ) → 1 ≤ p → p ≤ processor_limit → g < page_limit → page_width * twin_row mainframe p g + page_width ≤ first_tally
unfolding twin_row copy_row mainframe
twin_row_before p g h k l = omega arith

-- words that agree before the tallies hold the same pages
pub pages_same : (v w m : List ℕ) → length v ≡ word_area → length w ≡ word_area → WordsAgree v w 0 first_tally → pages_in mainframe v m ≡ pages_in mainframe w m
unfolding pages_in mainframe
pages_same v w m lv lw e =
    λ i. record {
      copies =
          page_table_same processor_limit page_limit (λ p g. row_of page_width v (copy_row mainframe p g)) (λ p g. row_of page_width w (copy_row mainframe p g))
          (λ p g h k l. row_same (copy_row mainframe p g) (copy_row_before p g h k l)) i;
      twins =
          page_table_same processor_limit page_limit (λ p g. row_of page_width v (twin_row mainframe p g)) (λ p g. row_of page_width w (twin_row mainframe p g))
          (λ p g h k l. row_same (twin_row mainframe p g) (twin_row_before p g h k l)) i;
      dirty = (pages_in mainframe w m).dirty;
    }
  where
    row_same : (row : ℕ) → page_width * row + page_width ≤ first_tally → row_of page_width v row ≡ row_of page_width w row
    row_same row h =
        let long : length (row_of page_width v row) ≡ page_width = length_row page_width v row (omega (arith, lv)) in
        ext_get_or 0 (row_of page_width v row) (row_of page_width w row) (long ∙ sym (length_row page_width w row (omega (arith, lw))))
        (λ j b.
        get_row page_width v row j 0 (omega (arith, long)) ∙ e (page_width * row + j) (omega arith) (omega (arith, long)) ∙ sym (get_row page_width w row j 0 (omega (arith, long))))

-- ---- the state after a tally was stored

-- words that agree before the tallies change what the processors share alone
pub shared_written : (c w w' r m : List ℕ) (after : Shared) → length w ≡ word_area → length w' ≡ word_area → WordsAgree w' w 0 first_tally → shared_in mainframe w' ≡ after
    → state_in mainframe c w' r m ≡ with_shared (state_in mainframe c w r m) after
unfolding state_in
shared_written c w w' r m after lw lw' e s =
    λ i. record {
      counts = (state_in mainframe c w r m).counts;
      clocks = (state_in mainframe c w r m).clocks;
      pages = pages_same w' w m lw' lw e i;
      records = (state_in mainframe c w r m).records;
      marks = (state_in mainframe c w r m).marks;
      shared = s i;
    }

-- an add stored anew
pub add_written : (w : List ℕ) (p t x : ℕ) → length w ≡ word_area → 1 ≤ p → p ≤ processor_limit → t < tally_limit
    → shared_in mainframe (set w (tally_place mainframe p t) x)
    ≡ record { posted = (shared_in mainframe w).posted; adds = put_cell 0 (shared_in mainframe w).adds p t x; values = (shared_in mainframe w).values }
unfolding shared_in mainframe
add_written w p t x there h k l =
    λ i. record {
      posted =
          tabulate_same tally_limit (λ u. get_or (set w (tally_place mainframe p t) x) (tally_place mainframe 0 u) 0) (λ u. get_or w (tally_place mainframe 0 u) 0)
          (λ u b. get_or-set_other w (tally_place mainframe p t) (tally_place mainframe 0 u) x 0 (λ e. omega (arith, e, tally_at p t, tally_at 0 u))) i;
      adds =
          (page_table_same processor_limit tally_limit (λ q u. get_or (set w (tally_place mainframe p t) x) (tally_place mainframe q u) 0)
          (λ q u. cond (eqb q p && eqb u t) x (get_or w (tally_place mainframe q u) 0))
          (λ q u a b d.
          get_set w (tally_place mainframe p t) (tally_place mainframe q u) x (omega (arith, there, tally_there p t k l))
          ∙ ap (λ (s : Bool). cond s x (get_or w (tally_place mainframe q u) 0))
          (eqb_pair (tally_place mainframe q u) (tally_place mainframe p t) q p u t
          (λ s. (omega (arith, s, tally_at q u, tally_at p t, d, l), omega (arith, s, tally_at q u, tally_at p t, d, l))) (λ s r. rw (s, r))))
          ∙ sym (put_page 0 processor_limit tally_limit (λ q u. get_or w (tally_place mainframe q u) 0) p t x h k l)) i;
      values =
          tabulate_same job_limit (λ j. get_or (set w (tally_place mainframe p t) x) (value_place mainframe j) 0) (λ j. get_or w (value_place mainframe j) 0)
          (λ j b. get_or-set_other w (tally_place mainframe p t) (value_place mainframe j) x 0 (λ e. omega (arith, e, value_behind p t j k l))) i;
    }

-- ---- a round posted

-- from the words w to w' every tally was posted for n processors, and the values of jobs stayed
pub record AllPosted (w w' : List ℕ) (n : ℕ) : Type 0 where
  pub posted : (t : ℕ) → t < tally_limit → get_or w' (tally_place mainframe 0 t) 0 ≡ total_after (shared_in mainframe w) n t
  pub adds : (p t : ℕ) → 1 ≤ p → p ≤ processor_limit → t < tally_limit → get_or w' (tally_place mainframe p t) 0 ≡ 0
  pub values : (k : ℕ) → k < job_limit → get_or w' (value_place mainframe k) 0 ≡ get_or w (value_place mainframe k) 0

pub posting_done : (w w' : List ℕ) (n : ℕ) → AllPosted w w' n → shared_in mainframe w' ≡ posting (shared_in mainframe w) n
unfolding posting shared_in mainframe
posting_done w w' n a =
    λ i. record {
      posted =
          (tabulate_same tally_limit (λ t. get_or w' (tally_place mainframe 0 t) 0) (total_after (shared_in mainframe w) n) a.posted
          ∙ ap (λ (k : ℕ). tabulate k (total_after (shared_in mainframe w) n)) (sym (length_tabulate tally_limit (λ t. get_or w (tally_place mainframe 0 t) 0)))) i;
      adds =
          (page_table_same processor_limit tally_limit (λ p t. get_or w' (tally_place mainframe p t) 0) (λ p t. 0) a.adds
          ∙ sym (map_per_processor (λ (add : ℕ). 0) processor_limit (λ p. tabulate tally_limit (λ t. get_or w (tally_place mainframe p t) 0))
          ∙ ap (per_processor processor_limit) (fun_ext (λ p. map_tabulate (λ (add : ℕ). 0) tally_limit (λ t. get_or w (tally_place mainframe p t) 0))))) i;
      values = tabulate_same job_limit (λ k. get_or w' (value_place mainframe k) 0) (λ k. get_or w (value_place mainframe k) 0) a.values i;
    }
