-- Lent memory that passes the tests on its words and marks meets the rules' conditions on pages, locks, the barrier and the queue. Assumes nothing.
use Prim.Native.Nat.{ℕ, zero, suc, ◌+◌, ◌-◌, ◌*◌, ◌≤◌, ◌<◌}
use native.Mathlib.Omega.{arith}
use native.Mathlib.Decide.{dec_lt}
use mathlib.Core.Path.{◌≡◌, refl, sym, ap, ◌∙◌}
use mathlib.Core.Bool.{Bool, true, false, cond, not, ◌||◌, false≢true}
use mathlib.Core.List.{List, []}
use lib.ListN.{length, get_or, get_or-eq_default}
use lib.Dec.{leb, ltb, eqb}
use borrow.Author.Tests.{ltb-false, leb-true, eqb-true, eqb-false, not-false, lt-ltb, le-ltb, le-leb, eq-eqb, ne_eqb}
use Rattle.lists.specs.Tables.{every, any, total}
use Rattle.lists.proofs.Conditions.{and_left, and_right, and_both, or_when}
use Rattle.lists.proofs.Tables.{every_at, every_holds, Passes, any_at, any_holds}
use Rattle.limits.specs.Limits.{interval_limit, lock_limit, page_limit, page_width, processor_limit, record_limit, tally_limit}
use Rattle.limits.specs.Places.{first_arrived}
use Rattle.limits.specs.inner.Sizes.{copy_limit, first_dirty, first_holder, first_tally}
use Rattle.rules.specs.InOrder.{present, every_processor, every_page, present_holder, all_zero, dirty_pages, room_kept, dirty_have_interval, holders_present, holders_away, queue_sound, someone_missing}
use Rattle.rules.specs.State.{mainframe, Lock, Applied, copy_of, twin_of, dirty_at, adds_of, own, holder, has_arrived}
use Rattle.rules.proofs.inorder.Everywhere.{every_processor_holds, every_page_holds, all_zero_holds}
use Rattle.rules.proofs.inorder.Facts.{Sized}
use Rattle.layout.specs.Areas.{tally_place, records_in, marks_in, state_in, standing_count}
use Rattle.layout.specs.inner.Marks.{lock_count, page_count, processor_count}
use Rattle.layout.proofs.TallyLaws.{tally_at, adds_read}
use Rattle.inorder_marks.specs.inner.Tests.{zero_at, pages_of, may_be_dirty, dirty_hold, holder_within, holders_hold, arrived_hold, dirty_of, queue_holds, room_holds}
use Rattle.inorder.specs.inner.Tests.{own_entries, words_hold, adds_hold}
use Rattle.inorder.proofs.PlaceFacts.{zero_at_lem, words_zero_at, marks_zero_at}
use Rattle.inorder.proofs.StateReads.{own_read, copy_word_read, twin_word_read, dirty_mark_read, arrived_mark_read, holder_mark_read, dirty_pages_read, present_read, page_present_read, lock_present_read}
use Rattle.inorder.proofs.ClocksWhen.{held}

module _ (c w r m : List ℕ) (size : Sized mainframe (held c w r m)) where
  -- ---- words

  -- words of absent pages are 0, where the pages are the rows from `first` on
  absent_words : (first : ℕ) (page : ℕ → ℕ → List ℕ)
      → ((k g i : ℕ) → k < processor_limit → g < page_limit → i < page_width → get_or (page (suc k) g) i 0 ≡ get_or w (page_width * (first + page_limit * k + g) + i) 0)
      → ((p g : ℕ) → 1 ≤ p → p ≤ processor_limit → g < page_limit → length (page p g) ≡ page_width) → every processor_limit (words_hold w first (processor_count m) (page_count m)) ≡ true
      → every_page mainframe (λ (p g : ℕ). present_holder (held c w r m) (Applied p g) || all_zero (page p g)) ≡ true
  unfolding mainframe words_hold
  absent_words first page read whole e =
      every_page_holds mainframe _ (λ p g k l n. or_when (present_holder (held c w r m) (Applied p g)) _ (λ a. all_zero_holds _ (λ i. zeros p g i k l n a)))
    where
      zeros : (p g i : ℕ) → 1 ≤ p → p ≤ processor_limit → g < page_limit → present_holder (held c w r m) (Applied p g) ≡ false → get_or (page p g) i 0 ≡ 0
      zeros zero g i k l n a = absurd (omega arith)
      zeros (suc p) g i k l n a = go (dec_lt i page_width)
        where
          go : Dec (i < page_width) → get_or (page (suc p) g) i 0 ≡ 0
          go (yes b) =
              read p g i l n b
              ∙ words_zero_at w first p (pages_of (processor_count m) (page_count m) p) g i (every_at processor_limit (words_hold w first (processor_count m) (page_count m)) p e l)
              (ltb-false g (pages_of (processor_count m) (page_count m) p) (sym (page_present_read c w r m p g) ∙ a)) n b
          go (no b) = get_or-eq_default (page (suc p) g) 0 (omega (arith, whole (suc p) g k l n))

  -- of copies
  pub absent_copies : every processor_limit (words_hold w 0 (processor_count m) (page_count m)) ≡ true
      → every_page mainframe (λ (p g : ℕ). present_holder (held c w r m) (Applied p g) || all_zero (copy_of (held c w r m).pages p g)) ≡ true
  unfolding mainframe
  absent_copies = absent_words 0 (copy_of (held c w r m).pages) (copy_word_read c w r m) size.copy

  -- of twins
  pub absent_twins : every processor_limit (words_hold w copy_limit (processor_count m) (page_count m)) ≡ true
      → every_page mainframe (λ (p g : ℕ). present_holder (held c w r m) (Applied p g) || all_zero (twin_of (held c w r m).pages p g)) ≡ true
  unfolding mainframe
  absent_twins = absent_words copy_limit (twin_of (held c w r m).pages) (twin_word_read c w r m) size.twin

  -- of adds to tallies
  pub absent_adds : adds_hold w (processor_count m) ≡ true → every_processor mainframe (λ (p : ℕ). present (held c w r m) p || all_zero (get_or (held c w r m).shared.adds p [])) ≡ true
  unfolding mainframe adds_hold
  absent_adds e = every_processor_holds mainframe _ (λ p k l. or_when (present (held c w r m) p) _ (λ a. all_zero_holds _ (λ t. zeros_of p t k l a (dec_lt t tally_limit))))
    where
      read : (k t : ℕ) → suc k ≤ processor_limit → t < tally_limit → get_or (get_or (held c w r m).shared.adds (suc k) []) t 0 ≡ get_or w (tally_place mainframe (suc k) t) 0
      read k t n l = unfold adds_of state_in in adds_read w (suc k) t (omega arith) n l

      zeros_of : (p t : ℕ) → 1 ≤ p → p ≤ processor_limit → present (held c w r m) p ≡ false → Dec (t < tally_limit) → get_or (get_or (held c w r m).shared.adds p []) t 0 ≡ 0
      zeros_of zero t h k a d = absurd (omega arith)
      zeros_of (suc k) t h n a (yes l) =
          let absent : processor_count m ≤ k = ltb-false k (processor_count m) (sym (present_read c w r m k) ∙ a) in
          let place : tally_place mainframe (suc k) t ≡ first_tally + tally_limit * (processor_count m + 1) + (tally_limit * (k - processor_count m) + t) = omega (arith, tally_at (suc k) t, absent) in
          read k t n l ∙ ap (λ (j : ℕ). get_or w j 0) place
          ∙ zero_at_lem w (first_tally + tally_limit * (processor_count m + 1)) (tally_limit * (processor_limit - processor_count m)) (tally_limit * (k - processor_count m) + t) e (omega (arith, absent, n, l))
      zeros_of (suc k) t h n a (no l) = get_or-eq_default (get_or (held c w r m).shared.adds (suc k) []) 0 (omega (arith, size.adds_row (suc k) h n, l))

-- ---- dirty marks

-- no absent page may be dirty
may_be_dirty_few : (own : List ℕ) (processors pages k : ℕ) → may_be_dirty own processors pages k ≤ pages_of processors pages k
unfolding may_be_dirty
may_be_dirty_few own processors pages k = go (ltb (get_or own k 0) interval_limit)
  where
    go : (b : Bool) → cond b (pages_of processors pages k) 0 ≤ pages_of processors pages k
    go true = omega arith
    go false = omega arith

-- nor a page of a processor with own entry 63
may_be_dirty_none : (own : List ℕ) (processors pages k : ℕ) → interval_limit ≤ get_or own k 0 → may_be_dirty own processors pages k ≡ 0
unfolding may_be_dirty
may_be_dirty_none own processors pages k h = rw (le-ltb (get_or own k 0) interval_limit h)

module _ (c w r m : List ℕ) (e : every processor_limit (dirty_hold (own_entries c) m (processor_count m) (page_count m)) ≡ true) where
  clean : (k g : ℕ) → k < processor_limit → g < page_limit → may_be_dirty (own_entries c) (processor_count m) (page_count m) k ≤ g → dirty_at (held c w r m).pages (suc k) g ≡ false
  unfolding dirty_hold zero_at
  clean k g a n h =
      dirty_mark_read c w r m k g a n
      ∙ ap not (eq-eqb (get_or m (first_dirty + page_limit * k + g) 0) 0
      (marks_zero_at m (first_dirty + page_limit * k) page_limit (may_be_dirty (own_entries c) (processor_count m) (page_count m) k) g (every_at processor_limit (dirty_hold (own_entries c) m (processor_count m) (page_count m)) k e a) h n))

  -- absent pages are clean
  pub absent_clean : every_page mainframe (λ (p g : ℕ). present_holder (held c w r m) (Applied p g) || not (dirty_at (held c w r m).pages p g)) ≡ true
  unfolding mainframe
  absent_clean = every_page_holds mainframe _ (λ p g k l n. or_when (present_holder (held c w r m) (Applied p g)) _ (λ a. ap not (absent p g k l n a)))
    where
      absent : (p g : ℕ) → 1 ≤ p → p ≤ processor_limit → g < page_limit → present_holder (held c w r m) (Applied p g) ≡ false → dirty_at (held c w r m).pages p g ≡ false
      absent zero g k l n a = absurd (omega arith)
      absent (suc p) g k l n a =
          clean p g l n
          (omega (arith, ltb-false g (pages_of (processor_count m) (page_count m) p) (sym (page_present_read c w r m p g) ∙ a), may_be_dirty_few (own_entries c) (processor_count m) (page_count m) p))

  -- a processor with a dirty page has an interval left
  pub dirty_have_interval_when : dirty_have_interval mainframe (held c w r m) ≡ true
  unfolding dirty_have_interval mainframe
  dirty_have_interval_when =
      every_page_holds mainframe _
      (λ p g k l n. or_when (not (dirty_at (held c w r m).pages p g)) _ (λ a. interval p g k l n (not-false (dirty_at (held c w r m).pages p g) a)))
    where
      interval : (p g : ℕ) → 1 ≤ p → p ≤ processor_limit → g < page_limit → dirty_at (held c w r m).pages p g ≡ true → ltb (own (held c w r m) p) interval_limit ≡ true
      interval zero g k l n d = absurd (omega arith)
      interval (suc p) g k l n d = go (dec_lt (own (held c w r m) (suc p)) interval_limit)
        where
          go : Dec (own (held c w r m) (suc p) < interval_limit) → ltb (own (held c w r m) (suc p)) interval_limit ≡ true
          go (yes b) = lt-ltb _ _ b
          go (no b) =
              let full : interval_limit ≤ get_or (own_entries c) p 0 = omega (arith, own_read c w r m p l) in
              absurd (false≢true (sym (clean p g l n (omega (arith, may_be_dirty_none (own_entries c) (processor_count m) (page_count m) p full))) ∙ d))

-- ---- holders

module _ (c w r m : List ℕ) (e : holders_hold m (processor_count m) (lock_count m) ≡ true) where
  free : (l : ℕ) → l < lock_limit → lock_count m ≤ l → holder (held c w r m) l ≡ 0
  unfolding holders_hold
  free l n h = holder_mark_read c w r m l n ∙ marks_zero_at m first_holder lock_limit (lock_count m) l (and_right (every (lock_count m) (holder_within m (processor_count m))) _ e) h n

  below : (l : ℕ) → l < lock_limit → holder (held c w r m) l ≤ processor_count m
  unfolding holders_hold holder_within
  below l n = go (dec_lt l (lock_count m))
    where
      go : Dec (l < lock_count m) → holder (held c w r m) l ≤ processor_count m
      go (yes h) =
          let most : get_or m (first_holder + l) 0 ≤ processor_count m = leb-true _ _ (and_left (leb (get_or m (first_holder + l) 0) (processor_count m)) _ (every_at (lock_count m) (holder_within m (processor_count m)) l (and_left _ (every (lock_limit - lock_count m) (zero_at m (first_holder + lock_count m))) e) h)) in
          omega (arith, holder_mark_read c w r m l n)
      go (no h) = omega (arith, free l n (omega arith))

  -- absent locks are not held
  pub absent_not_held : every lock_limit (λ (l : ℕ). present_holder (held c w r m) (Lock l) || eqb (holder (held c w r m) l) 0) ≡ true
  absent_not_held =
      every_holds lock_limit _
      (λ l n. or_when (present_holder (held c w r m) (Lock l)) _ (λ a. eq-eqb _ _ (free l n (ltb-false l (lock_count m) (sym (lock_present_read c w r m l) ∙ a)))))

  -- holders are present processors or 0
  pub holders_present_when : holders_present mainframe (held c w r m) ≡ true
  unfolding holders_present mainframe present state_in
  holders_present_when = every_holds lock_limit _ (λ l n. or_when (eqb (holder (held c w r m) l) 0) _ (λ a. there l n (eqb-false (holder (held c w r m) l) 0 a)))
    where
      there : (l : ℕ) → l < lock_limit → (holder (held c w r m) l ≡ 0 → ⊥) → present (held c w r m) (holder (held c w r m) l) ≡ true
      there l n h = and_both _ _ (le-leb 1 (holder (held c w r m) l) (omega arith)) (le-leb _ _ (below l n))

  -- no holder has arrived
  pub holders_away_when : processor_count m ≤ processor_limit → holders_away mainframe (held c w r m) ≡ true
  unfolding holders_away holders_hold holder_within mainframe zero_at
  holders_away_when fit = every_holds lock_limit _ (λ l n. or_when (eqb (holder (held c w r m) l) 0) _ (λ a. away l n (holder (held c w r m) l) refl (eqb-false (holder (held c w r m) l) 0 a)))
    where
      -- a lock that is held is present
      lock_held : (l : ℕ) → l < lock_limit → (holder (held c w r m) l ≡ 0 → ⊥) → l < lock_count m
      lock_held l n h = go (dec_lt l (lock_count m))
        where
          go : Dec (l < lock_count m) → l < lock_count m
          go (yes b) = b
          go (no b) = absurd (h (free l n (omega arith)))

      -- and its holder's arrived mark is 0
      mark_clear : (l k : ℕ) → get_or m (first_holder + l) 0 ≡ suc k → holder_within m (processor_count m) l ≡ true → get_or m (first_arrived + k) 0 ≡ 0
      mark_clear l k byte within =
          let place : suc k - 1 ≡ k = omega arith in
          let said : (eqb (suc k) 0 || eqb (get_or m (first_arrived + (suc k - 1)) 0) 0) ≡ true =
          rw byte at (and_right (leb (get_or m (first_holder + l) 0) (processor_count m)) (eqb (get_or m (first_holder + l) 0) 0 || eqb (get_or m (first_arrived + (get_or m (first_holder + l) 0 - 1)) 0) 0) within) in
          eqb-true (get_or m (first_arrived + k) 0) 0 (rw (ne_eqb (suc k) 0 (omega arith), place) at said)

      away : (l : ℕ) → l < lock_limit → (q : ℕ) → holder (held c w r m) l ≡ q → (holder (held c w r m) l ≡ 0 → ⊥) → not (has_arrived (held c w r m) (holder (held c w r m) l)) ≡ true
      away l n zero z h = absurd (h z)
      away l n (suc k) z h =
          let byte : get_or m (first_holder + l) 0 ≡ suc k = sym (holder_mark_read c w r m l n) ∙ z in
          let few : suc k ≤ processor_count m = rw z at (below l n) in
          let within : holder_within m (processor_count m) l ≡ true =
          every_at (lock_count m) (holder_within m (processor_count m)) l (and_left _ (every (lock_limit - lock_count m) (zero_at m (first_holder + lock_count m))) e) (lock_held l n h) in
          let clear : get_or m (first_arrived + k) 0 ≡ 0 = mark_clear l k byte within in
          rw z (ap not (arrived_mark_read c w r m k (omega (arith, few, fit)) ∙ ap not (eq-eqb (get_or m (first_arrived + k) 0) 0 clear)))

-- ---- arrived marks

module _ (c w r m : List ℕ) (e : arrived_hold m (processor_count m) ≡ true) where
  -- absent processors have not arrived
  pub absent_not_arrived : every_processor mainframe (λ (p : ℕ). present (held c w r m) p || not (has_arrived (held c w r m) p)) ≡ true
  unfolding mainframe arrived_hold zero_at
  absent_not_arrived = every_processor_holds mainframe _ (λ p k l. or_when (present (held c w r m) p) _ (λ a. ap not (absent p k l a)))
    where
      absent : (p : ℕ) → 1 ≤ p → p ≤ processor_limit → present (held c w r m) p ≡ false → has_arrived (held c w r m) p ≡ false
      absent zero k l a = absurd (omega arith)
      absent (suc p) k l a =
          arrived_mark_read c w r m p l
          ∙ ap not (eq-eqb (get_or m (first_arrived + p) 0) 0
          (marks_zero_at m first_arrived processor_limit (processor_count m) p (and_left _ (any (processor_count m) (zero_at m first_arrived)) e) (ltb-false p (processor_count m) (sym (present_read c w r m p) ∙ a)) l))

  -- not all processors have arrived
  pub someone_missing_when : processor_count m ≤ processor_limit → someone_missing (held c w r m) ≡ true
  unfolding someone_missing arrived_hold state_in
  someone_missing_when fit = go (any_at (processor_count m) (zero_at m first_arrived) (and_right (every (processor_limit - processor_count m) (zero_at m (first_arrived + processor_count m))) _ e))
    where
      go : Passes (processor_count m) (zero_at m first_arrived) → any (processor_count m) (λ (k : ℕ). not (has_arrived (held c w r m) (suc k))) ≡ true
      go x =
          any_holds (processor_count m) (λ (k : ℕ). not (has_arrived (held c w r m) (suc k))) x.at x.below
          (ap not (arrived_mark_read c w r m x.at (omega (arith, x.below)) ∙ ap not x.passes))

-- ---- room

-- records plus dirty pages are at most 128
pub room_kept_when : (c w r m : List ℕ) → processor_count m ≤ processor_limit → page_count m ≤ page_limit → room_holds m (processor_count m) (page_count m) (standing_count m) ≡ true → room_kept mainframe (held c w r m) ≡ true
unfolding room_kept room_holds state_in records_in mainframe
room_kept_when c w r m a b e =
    let most : standing_count m + total (processor_count m) (dirty_of m (page_count m)) ≤ record_limit = leb-true _ _ e in
    le-leb (standing_count m + dirty_pages (held c w r m)) record_limit (omega (arith, dirty_pages_read c w r m a b))

-- ---- the queue

-- the oldest job has a place, and there are no more jobs than places
pub queue_sound_when : (c w r m : List ℕ) → queue_holds m ≡ true → queue_sound mainframe (held c w r m) ≡ true
unfolding queue_holds queue_sound state_in marks_in mainframe
queue_sound_when c w r m e = e
