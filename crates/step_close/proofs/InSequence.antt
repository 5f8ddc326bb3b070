-- The thesis's sequence comes to the rules' close: the interval begun, then page by page its record made and its mark cleared, is the state in which the
-- records are made, the pages clean and the clock ticked. Assumes nothing.
use Prim.Native.Nat.{ℕ, zero, suc, ◌≤◌, ◌<◌}
use native.Mathlib.Omega.{arith}
use native.Mathlib.Decide.{dec_lt, ℕ_discrete}
use mathlib.Core.Path.{◌≡◌, refl, sym, ap, ◌∙◌}
use mathlib.Core.Bool.{Bool, true, false, cond, not, false≢true}
use mathlib.Core.List.{List, [], map}
use lib.ListN.{length, get_or, set, length-map, get_or-eq_default}
use lib.Seq.{ext_get_or, set-get_or, set-set}
use lib.Dec.{eqb}
use borrow.Author.Tests.{eqb-true, not-false}
use Rattle.lists.specs.Tables.{put, put_cell, any}
use Rattle.lists.proofs.Tables.{Passes, any_at, any_holds, get_put_same, get_put_other, length_put_within, put_within, get_map, cell_put_place}
use Rattle.diff.specs.Format.{written}
use Rattle.rules.specs.State.{Limits, Pages, copy_of, twin_of, dirty_at, Record, appended, State, with_clocks, with_pages, with_records, clock, own}
use Rattle.rules.specs.InOrder.{present, is_in_order}
use Rattle.rules.specs.Close.{any_dirty, ticked, new_record, recorded, cleaned, closed}
use Rattle.rules.proofs.inorder.Facts.{InOrder}
use Rattle.rules.proofs.inorder.InOrderSays.{in_order_says}
use Rattle.rules.proofs.inorder.Accepted.{present_says}
use Rattle.rules.proofs.inorder.KeptRounds.{own_ticked_same}
use Rattle.step_close.specs.Sequence.{change_of, page_cleaned, change_made, page_closed, pages_closed, all_closed, closed_in_sequence}
use Rattle.step_close.proofs.NothingDirty.{nothing_to_close, clean_from}

-- ---- the marks of a row cleared one by one

-- a row of marks with those below n cleared
unfoldable zeroed : List ℕ → ℕ → List ℕ
zeroed row zero = row
zeroed row (suc g) = cond (not (eqb (get_or row g 0) 0)) (put 0 (zeroed row g) g 0) (zeroed row g)

module _ (row : List ℕ) where
  -- a mark that is set has its place
  set_within : (g : ℕ) → not (eqb (get_or row g 0) 0) ≡ true → g < length row
  set_within g e = go (dec_lt g (length row))
    where
      go : Dec (g < length row) → g < length row
      go (yes h) = h
      go (no h) = let none : get_or row g 0 ≡ 0 = get_or-eq_default row 0 (omega arith) in absurd (false≢true (sym (ap (λ (x : ℕ). not (eqb x 0)) none) ∙ e))

  length_zeroed : (n : ℕ) → length (zeroed row n) ≡ length row
  unfolding zeroed
  length_zeroed zero = refl
  length_zeroed (suc g) = go (not (eqb (get_or row g 0) 0)) refl (length_zeroed g)
    where
      go : (b : Bool) → not (eqb (get_or row g 0) 0) ≡ b → length (zeroed row g) ≡ length row → length (cond b (put 0 (zeroed row g) g 0) (zeroed row g)) ≡ length row
      go true e l = length_put_within 0 (zeroed row g) g 0 (omega (arith, set_within g e, l)) ∙ l
      go false e l = l

  -- from n on the marks are those of the row
  zeroed_later : (n i : ℕ) → n ≤ i → get_or (zeroed row n) i 0 ≡ get_or row i 0
  unfolding zeroed
  zeroed_later zero i h = refl
  zeroed_later (suc g) i h = go (not (eqb (get_or row g 0) 0)) (zeroed_later g i (omega arith))
    where
      go : (b : Bool) → get_or (zeroed row g) i 0 ≡ get_or row i 0 → get_or (cond b (put 0 (zeroed row g) g 0) (zeroed row g)) i 0 ≡ get_or row i 0
      go true e = get_put_other 0 (zeroed row g) g i 0 (λ same. omega (arith, same)) ∙ e
      go false e = e

  -- below n they are clear
  zeroed_below : (n i : ℕ) → i < n → get_or (zeroed row n) i 0 ≡ 0
  unfolding zeroed
  zeroed_below zero i h = absurd (omega arith)
  zeroed_below (suc g) i h = go (not (eqb (get_or row g 0) 0)) refl (ℕ_discrete i g) (λ l. zeroed_below g i l)
    where
      go : (b : Bool) → not (eqb (get_or row g 0) 0) ≡ b → Dec (i ≡ g) → (i < g → get_or (zeroed row g) i 0 ≡ 0) → get_or (cond b (put 0 (zeroed row g) g 0) (zeroed row g)) i 0 ≡ 0
      go true e (yes d) ih = rw d (get_put_same 0 (zeroed row g) g 0)
      go true e (no d) ih = get_put_other 0 (zeroed row g) g i 0 d ∙ ih (omega (arith, d))
      go false e (yes d) ih = zeroed_later g i (omega (arith, d)) ∙ rw d (eqb-true (get_or row g 0) 0 (not-false (eqb (get_or row g 0) 0) e))
      go false e (no d) ih = ih (omega (arith, d))

  -- where the others are clear already all are
  zeroed_all : (n : ℕ) → ((i : ℕ) → n ≤ i → get_or row i 0 ≡ 0) → zeroed row n ≡ map (λ mark. 0) row
  zeroed_all n h =
      ext_get_or 0 (zeroed row n) (map (λ mark. 0) row) (length_zeroed n ∙ sym (length-map row (λ mark. 0)))
      (λ i l. at i (dec_lt i n) ∙ sym (get_map (λ mark. 0) 0 row i))
    where
      at : (i : ℕ) → Dec (i < n) → get_or (zeroed row n) i 0 ≡ 0
      at i (yes l) = zeroed_below n i l
      at i (no l) = zeroed_later n i (omega arith) ∙ h i (omega arith)

-- ---- the pages cleaned one by one

unfoldable cleaned_below : Pages → ℕ → ℕ → Pages
cleaned_below m p zero = m
cleaned_below m p (suc g) = cond (dirty_at m p g) (page_cleaned (cleaned_below m p g) p g) (cleaned_below m p g)

module _ (m : Pages) (p : ℕ) where
  copies_kept : (n : ℕ) → (cleaned_below m p n).copies ≡ m.copies
  unfolding cleaned_below
  copies_kept zero = refl
  copies_kept (suc g) = go (dirty_at m p g) (copies_kept g)
    where
      go : (b : Bool) → (cleaned_below m p g).copies ≡ m.copies → (cond b (page_cleaned (cleaned_below m p g) p g) (cleaned_below m p g)).copies ≡ m.copies
      go true e = unfold page_cleaned in e
      go false e = e

  twins_kept : (n : ℕ) → (cleaned_below m p n).twins ≡ m.twins
  unfolding cleaned_below
  twins_kept zero = refl
  twins_kept (suc g) = go (dirty_at m p g) (twins_kept g)
    where
      go : (b : Bool) → (cleaned_below m p g).twins ≡ m.twins → (cond b (page_cleaned (cleaned_below m p g) p g) (cleaned_below m p g)).twins ≡ m.twins
      go true e = unfold page_cleaned in e
      go false e = e

  -- a page is as dirty as before until its turn
  dirty_later : (n g : ℕ) → n ≤ g → dirty_at (cleaned_below m p n) p g ≡ dirty_at m p g
  unfolding cleaned_below
  dirty_later zero g h = refl
  dirty_later (suc n) g h = go (dirty_at m p n) (dirty_later n g (omega arith))
    where
      go : (b : Bool) → dirty_at (cleaned_below m p n) p g ≡ dirty_at m p g → dirty_at (cond b (page_cleaned (cleaned_below m p n) p n) (cleaned_below m p n)) p g ≡ dirty_at m p g
      go true e = unfold page_cleaned dirty_at in rw (cell_put_place 0 (cleaned_below m p n).dirty p n g 0 (λ same. omega (arith, same))) e
      go false e = e

  module _ (here : p < length m.dirty) where
    row_twice : (a b : List ℕ) → put [] (put [] m.dirty p a) p b ≡ put [] m.dirty p b
    row_twice a b =
        put_within [] (put [] m.dirty p a) p b (omega (arith, length_put_within [] m.dirty p a here))
        ∙ ap (λ (t : List (List ℕ)). set t p b) (put_within [] m.dirty p a here) ∙ set-set m.dirty p a b ∙ sym (put_within [] m.dirty p b here)

    dirty_cleaned : (n : ℕ) → (cleaned_below m p n).dirty ≡ put [] m.dirty p (zeroed (get_or m.dirty p []) n)
    unfolding cleaned_below zeroed dirty_at
    dirty_cleaned zero = sym (put_within [] m.dirty p (get_or m.dirty p []) here ∙ set-get_or m.dirty p [])
    dirty_cleaned (suc g) = go (not (eqb (get_or (get_or m.dirty p []) g 0) 0)) (dirty_cleaned g)
      where
        row : List ℕ
        row = get_or m.dirty p []

        go : (b : Bool) → (cleaned_below m p g).dirty ≡ put [] m.dirty p (zeroed (get_or m.dirty p []) g)
            → (cond b (page_cleaned (cleaned_below m p g) p g) (cleaned_below m p g)).dirty ≡ put [] m.dirty p (cond b (put 0 (zeroed (get_or m.dirty p []) g) g 0) (zeroed (get_or m.dirty p []) g))
        go true e = unfold page_cleaned put_cell in
            rw (e, get_put_same [] m.dirty p (zeroed (get_or m.dirty p []) g)) (row_twice (zeroed (get_or m.dirty p []) g) (put 0 (zeroed (get_or m.dirty p []) g) g 0))
        go false e = e

    -- once every dirty page had its turn the pages are clean
    all_cleaned : (n : ℕ) → ((i : ℕ) → n ≤ i → get_or (get_or m.dirty p []) i 0 ≡ 0) → cleaned_below m p n ≡ cleaned m p
    unfolding cleaned
    all_cleaned n h =
        λ i. record {
          copies = copies_kept n i;
          twins = twins_kept n i;
          dirty = (dirty_cleaned n ∙ ap (put [] m.dirty p) (zeroed_all (get_or m.dirty p []) n h)) i;
        }

-- ---- the sequence

module _ (s : State) (p : ℕ) (from : 1 ≤ p) where
  -- the interval has begun
  abbrev begun : State
  begun = with_clocks s (ticked s p)

  -- it has, and the pages below n are closed
  abbrev closed_to : ℕ → State
  closed_to n = with_pages (with_records begun (recorded s p n)) (cleaned_below s.pages p n)

  change_is : (g : ℕ) → change_of (closed_to g) p g ≡ new_record s p g
  unfolding change_of new_record own clock twin_of copy_of
  change_is g =
      λ i. record {
        processor = p;
        interval = own_ticked_same s p from i;
        page = g;
        diff = written (get_or (get_or (twins_kept s.pages p g i) p []) g []) (get_or (get_or (copies_kept s.pages p g i) p []) g []);
      }

  in_sequence : (n : ℕ) → pages_closed begun p n ≡ closed_to n
  unfolding pages_closed recorded cleaned_below
  in_sequence zero = refl
  in_sequence (suc g) = ap (λ (x : State). page_closed x p g) (in_sequence g) ∙ next
    where
      next : page_closed (closed_to g) p g ≡ closed_to (suc g)
      next = unfold page_closed recorded cleaned_below in rw (dirty_later s.pages p g g (omega arith)) (go (dirty_at s.pages p g))
        where
          go : (b : Bool)
              → cond b (change_made (closed_to g) p g) (closed_to g)
              ≡ with_pages (with_records begun (cond b (appended (recorded s p g) (new_record s p g)) (recorded s p g)))
              (cond b (page_cleaned (cleaned_below s.pages p g) p g) (cleaned_below s.pages p g))
          go true = unfold change_made in ap (λ (x : Record). with_pages (with_records begun (appended (recorded s p g) x)) (page_cleaned (cleaned_below s.pages p g) p g)) (change_is g)
          go false = refl

-- the whole of it
pub closed_in_sequence_lem : (lim : Limits) (s : State) (p : ℕ) → InOrder lim s → 1 ≤ p → p ≤ s.counts.processors → any_dirty s p ≡ true
    → all_closed (with_clocks s (ticked s p)) p ≡ closed s p
unfolding all_closed closed
closed_in_sequence_lem lim s p order from to dirty =
    in_sequence s p from s.counts.pages
    ∙ ap (λ (m : Pages). with_pages (with_records (with_clocks s (ticked s p)) (recorded s p s.counts.pages)) m)
    (all_cleaned s.pages p (omega (arith, order.sized.dirty, order.processors_fit, to)) s.counts.pages (clean_from lim s p order from to))
    ∙ rw dirty

-- with nothing dirty among the present pages no mark of the processor is set
none_among_all : (lim : Limits) (s : State) (p : ℕ) → InOrder lim s → 1 ≤ p → p ≤ s.counts.processors → any_dirty s p ≡ false → any lim.pages (dirty_at s.pages p) ≡ false
unfolding any_dirty
none_among_all lim s p order from to clean = go (any lim.pages (dirty_at s.pages p)) refl
  where
    at : Passes lim.pages (dirty_at s.pages p) → ⊥
    at found = by (dec_lt found.at s.counts.pages)
      where
        by : Dec (found.at < s.counts.pages) → ⊥
        by (yes h) = false≢true (sym clean ∙ any_holds s.counts.pages (dirty_at s.pages p) found.at h found.passes)
        by (no h) =
            let clear : dirty_at s.pages p found.at ≡ false = unfold dirty_at in ap (λ (x : ℕ). not (eqb x 0)) (clean_from lim s p order from to found.at (omega arith)) in
            false≢true (sym clear ∙ found.passes)

    go : (b : Bool) → any lim.pages (dirty_at s.pages p) ≡ b → any lim.pages (dirty_at s.pages p) ≡ false
    go true e = absurd (at (any_at lim.pages (dirty_at s.pages p) e))
    go false e = e

-- the sequence with its first question comes to the rules' close, in every state in order
pub sequence_closes : (lim : Limits) (s : State) (p : ℕ) → is_in_order lim s ≡ true → present s p ≡ true → closed_in_sequence s p ≡ closed s p
unfolding closed_in_sequence
sequence_closes lim s p ordered here = go (any_dirty s p) refl
  where
    order : InOrder lim s
    order = in_order_says lim s ordered

    go : (b : Bool) → any_dirty s p ≡ b → cond b (all_closed (with_clocks s (ticked s p)) p) s ≡ closed s p
    go true e = closed_in_sequence_lem lim s p order (present_says s p here).0 (present_says s p here).1 e
    go false e =
        sym (nothing_to_close s p lim order (present_says s p here).0 (omega (arith, (present_says s p here).1, order.processors_fit))
        (none_among_all lim s p order (present_says s p here).0 (present_says s p here).1 e))
