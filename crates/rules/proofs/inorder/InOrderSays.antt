-- A state that passes the test `is_in_order` is in order, fact by fact. Rests on Outside and Conditions. Assumes nothing.
use Prim.Native.Nat.{ℕ, suc, ◌+◌, ◌≤◌, ◌<◌}
use native.Mathlib.Omega.{arith}
use native.Mathlib.Nat.{lt_of_not-le}
use native.Mathlib.Decide.{dec_lt}
use mathlib.Core.Path.{◌≡◌, sym, ap, ◌∙◌, refl}
use mathlib.Core.Bool.{Bool, true, false, not, ◌&&◌, ◌||◌, false≢true, and-eq-true_iff}
use mathlib.Core.Logic.{◌⊎◌, inl, inr}
use mathlib.Core.List.{List, []}
use lib.ListN.{get_or}
use lib.Dec.{leb, ltb, eqb}
use borrow.Author.Tests.{ltb-true, leb-true, eqb-true, eqb-false, eq-eqb, not-true, lt-leb}
use Rattle.lists.specs.Tables.{every}
use Rattle.lists.proofs.Tables.{every_at, any_at}
use Rattle.lists.proofs.Conditions.{and_left, and_right, conjoined, conjoined_at, or_says, or_either}
use Rattle.limits.specs.Limits.{slot_head}
use Rattle.clock.specs.Clocks.{entry_of}
use Rattle.diff.specs.Reading.{read_refusal}
use Rattle.rules.specs.State.{adds_of, Limits, Holder, Processor, Lock, Applied, Interval, clock_of, copy_of, twin_of, dirty_at, State, clock, own, holder, has_arrived}
use Rattle.rules.specs.Lines.{waits, waits_for, turn_of}
use Rattle.rules.specs.InOrder.{present, every_processor, every_page, every_holder, slot_size, sized, in_range, present_holder, all_zero, absent_zero, later_intervals_zero, entries_known, applied_known, record_at, diff_legal, record_sound, same_notice, records_sound, room_kept, dirty_have_interval, holders_present, holders_away, queue_sound, someone_missing, stand_before, waiter_sound, apart_in_line, is_in_order}
use Rattle.rules.proofs.state.Lines.{ahead, Lines}
use Rattle.rules.proofs.state.Waiters.{awaits, turn_at, waits_for_when, waiter_waits}
use Rattle.rules.proofs.inorder.Facts.{Within, Sized, RecordSound, LinesInOrder, InOrder}
use Rattle.rules.proofs.inorder.Everywhere.{every_processor_at, every_page_at, every_interval_at, every_holder_at, by_place, all_zero_at, entry_all_zero, covered_entries}
use Rattle.rules.proofs.inorder.Rows.{rows_sized_says}
use Rattle.rules.proofs.inorder.Outside.{entry_outside, entry_absent_place, copy_outside, twin_outside, clean_outside, not_arrived_outside, not_held_outside, awake_outside, no_turn_outside, no_adds_outside}
use Rattle.rules.proofs.inorder.Conditions.{sized_tests, sized_tests_lem, absent_tests, absent_tests_lem, counts_tests, counts_tests_lem, record_tests, record_tests_lem, waiter_tests, waiter_tests_lem, line_tests, line_tests_lem, order_tests, order_tests_lem}

module _ (lim : Limits) (s : State) where
  -- its size is the fixed one
  pub sized_says : sized lim s ≡ true → Sized lim s
  unfolding sized_tests
  sized_says e = go (λ i. conjoined_at (sized_tests lim s) i (sym (sized_tests_lem lim s) ∙ e))
    where
      go : ((i : ℕ) → get_or (sized_tests lim s) i true ≡ true) → Sized lim s
      go part =
          let processors = rows_sized_says lim lim.processors s.clocks.processors (part 0) in
          let applied = rows_sized_says lim lim.pages s.clocks.applied (part 2) in
          let intervals = rows_sized_says lim (suc lim.intervals) s.clocks.intervals (part 3) in
          let copies = rows_sized_says lim lim.pages s.pages.copies (part 6) in
          let twins = rows_sized_says lim lim.pages s.pages.twins (part 8) in
          let dirty = rows_sized_says lim lim.pages s.pages.dirty (part 10) in
          let adds = rows_sized_says lim lim.tallies s.shared.adds (part 19) in
          record {
            processors = processors.processors;
            nobody_clock = processors.nobody;
            locks = eqb-true _ _ (part 1);
            applied = applied.processors;
            nobody_applied = applied.nobody;
            applied_row_lem = applied.row;
            intervals = intervals.processors;
            nobody_interval = intervals.nobody;
            interval_row_lem = intervals.row;
            no_interval = λ p h k. eqb-true _ _ (every_processor_at lim _ p (part 4) h k);
            jobs = eqb-true _ _ (part 20);
            clocks = λ h w. eqb-true _ _ (every_holder_at lim _ h (part 5) w);
            copies = copies.processors;
            nobody_copy = copies.nobody;
            copies_row = copies.row;
            copy = λ p g h k l. eqb-true _ _ (every_page_at lim _ p g (part 7) h k l);
            twins = twins.processors;
            nobody_twin = twins.nobody;
            twins_row = twins.row;
            twin = λ p g h k l. eqb-true _ _ (every_page_at lim _ p g (part 9) h k l);
            dirty = dirty.processors;
            nobody_dirty = dirty.nobody;
            dirty_row = dirty.row;
            slots = eqb-true _ _ (part 11);
            slot = λ i h. eqb-true _ _ (every_at lim.records _ i (part 12) h);
            few_standing = leb-true _ _ (part 13);
            holders = eqb-true _ _ (part 14);
            arrived = eqb-true _ _ (part 15);
            awaited = eqb-true _ _ (part 16);
            turns = eqb-true _ _ (part 17);
            posted = eqb-true _ _ (part 18);
            values = eqb-true _ _ (part 21);
            adds = adds.processors;
            nobody_adds = adds.nobody;
            adds_row = adds.row;
          }

  -- what is absent is 0
  record Absent : Type 0 where
    pub clock : (h : Holder) (q : ℕ) → present_holder s h ≡ false → entry_of (clock_of s.clocks h) q ≡ 0
    pub entry : (h : Holder) (q : ℕ) → present s q ≡ false → entry_of (clock_of s.clocks h) q ≡ 0
    pub copy : (p g o : ℕ) → present_holder s (Applied p g) ≡ false → get_or (copy_of s.pages p g) o 0 ≡ 0
    pub twin : (p g o : ℕ) → present_holder s (Applied p g) ≡ false → get_or (twin_of s.pages p g) o 0 ≡ 0
    pub clean : (p g : ℕ) → present_holder s (Applied p g) ≡ false → dirty_at s.pages p g ≡ false
    pub not_arrived : (p : ℕ) → 1 ≤ p → present s p ≡ false → has_arrived s p ≡ false
    pub not_held : (l : ℕ) → present_holder s (Lock l) ≡ false → holder s l ≡ 0
    pub awake : (p : ℕ) → 1 ≤ p → present s p ≡ false → waits s.marks p ≡ false
    pub turn : (p : ℕ) → 1 ≤ p → present s p ≡ false → turn_of s.marks p ≡ 0
    pub adds : (p t : ℕ) → 1 ≤ p → present s p ≡ false → adds_of s.shared p t ≡ 0

  -- the words of absent pages, in a table of copies or of twins that has none outside its places
  absent_words : (page : ℕ → ℕ → List ℕ) → every_page lim (λ p g. present_holder s (Applied p g) || all_zero (page p g)) ≡ true
      → ((p g : ℕ) → ((1 ≤ p) × (p ≤ lim.processors) × (g < lim.pages) → ⊥) → page p g ≡ []) → (p g o : ℕ) → present_holder s (Applied p g) ≡ false → get_or (page p g) o 0 ≡ 0
  unfolding Within
  absent_words page e outside p g o a =
      by_place lim (Applied p g)
      (λ w. all_zero_at (page p g) o (or_says (present_holder s (Applied p g)) (all_zero (page p g)) (every_page_at lim _ p g e w.0 w.1 w.2) a))
      (λ n. ap (λ (l : List ℕ). get_or l o 0) (outside p g n))

  absent_says : Sized lim s → absent_zero lim s ≡ true → Absent
  unfolding absent_tests Within
  absent_says z e = go (λ i. conjoined_at (absent_tests lim s) i (sym (absent_tests_lem lim s) ∙ e))
    where
      go : ((i : ℕ) → get_or (absent_tests lim s) i true ≡ true) → Absent
      go part =
          record {
            clock = λ h q a.
                by_place lim h
                (λ w. entry_all_zero (clock_of s.clocks h) q (or_says (present_holder s h) (all_zero (clock_of s.clocks h)) (every_holder_at lim _ h (part 0) w) a))
                (λ n. entry_outside lim s z h q n);
            entry = λ h q a.
                by_place lim (Processor q)
                (λ v. by_place lim h
                (λ w. eqb-true _ _ (or_says (present s q) (eqb (entry_of (clock_of s.clocks h) q) 0) (every_processor_at lim _ q (every_holder_at lim _ h (part 1) w) v.0 v.1) a))
                (λ n. entry_outside lim s z h q n))
                (λ n. entry_absent_place lim s z h q n);
            copy = absent_words (copy_of s.pages) (part 2) (copy_outside lim s z);
            twin = absent_words (twin_of s.pages) (part 3) (twin_outside lim s z);
            clean = λ p g a.
                by_place lim (Applied p g)
                (λ w. not-true _ (or_says (present_holder s (Applied p g)) (not (dirty_at s.pages p g)) (every_page_at lim _ p g (part 4) w.0 w.1 w.2) a))
                (λ n. clean_outside lim s z p g n);
            not_arrived = λ p l a.
                by_place lim (Processor p)
                (λ w. not-true _ (or_says (present s p) (not (has_arrived s p)) (every_processor_at lim _ p (part 5) w.0 w.1) a))
                (λ n. not_arrived_outside lim s z p (lt_of_not-le (λ k. n (l, k))));
            not_held = λ l a.
                by_place lim (Lock l)
                (λ w. eqb-true _ _ (or_says (present_holder s (Lock l)) (eqb (holder s l) 0) (every_at lim.locks _ l (part 6) w) a))
                (λ n. not_held_outside lim s z l (omega (arith, lt_of_not-le n)));
            awake = λ p l a.
                by_place lim (Processor p)
                (λ w. not-true _ (or_says (present s p) (not (waits s.marks p)) (every_processor_at lim _ p (part 7) w.0 w.1) a))
                (λ n. awake_outside lim s z p (lt_of_not-le (λ k. n (l, k))));
            turn = λ p l a.
                by_place lim (Processor p)
                (λ w. eqb-true _ _ (or_says (present s p) (eqb (turn_of s.marks p) 0) (every_processor_at lim _ p (part 8) w.0 w.1) a))
                (λ n. no_turn_outside lim s z p (lt_of_not-le (λ k. n (l, k))));
            adds = λ p t l a.
                by_place lim (Processor p)
                (λ w. unfold adds_of in all_zero_at (get_or s.shared.adds p []) t (or_says (present s p) (all_zero (get_or s.shared.adds p [])) (every_processor_at lim _ p (part 9) w.0 w.1) a))
                (λ n. no_adds_outside lim s z p t (lt_of_not-le (λ k. n (l, k))));
          }

  later_interval_says : Sized lim s → later_intervals_zero lim s ≡ true → (p i q : ℕ) → own s p < i → entry_of (clock_of s.clocks (Interval p i)) q ≡ 0
  unfolding later_intervals_zero Within
  later_interval_says z e p i q later =
      by_place lim (Interval p i)
      (λ w. entry_all_zero (clock_of s.clocks (Interval p i)) q
      (or_says (leb i (own s p)) (all_zero (clock_of s.clocks (Interval p i)))
      (every_interval_at lim (λ (p i : ℕ). leb i (own s p) || all_zero (clock_of s.clocks (Interval p i))) p i e w.0 w.1 w.2 w.3)
      (lt-leb i (own s p) later)))
      (λ n. entry_outside lim s z (Interval p i) q n)

  known_says : Sized lim s → entries_known lim s ≡ true → (h : Holder) (q : ℕ) → entry_of (clock_of s.clocks h) q ≤ own s q
  unfolding entries_known Within
  known_says z e h q =
      by_place lim (Processor q)
      (λ v. by_place lim h
      (λ w. leb-true _ _ (every_processor_at lim _ q (every_holder_at lim (λ (h : Holder). every_processor lim (λ (q : ℕ). leb (entry_of (clock_of s.clocks h) q) (own s q))) h
      (and_left _ (every_processor lim (λ (p : ℕ). leb (own s p) lim.intervals)) e) w) v.0 v.1))
      (λ n. omega (arith, entry_outside lim s z h q n)))
      (λ n. omega (arith, entry_absent_place lim s z h q n))

  own_fits_says : Sized lim s → entries_known lim s ≡ true → (p : ℕ) → own s p ≤ lim.intervals
  unfolding entries_known Within own clock
  own_fits_says z e p =
      by_place lim (Processor p)
      (λ w. leb-true _ _ (every_processor_at lim (λ (p : ℕ). leb (own s p) lim.intervals) p
      (and_right (every_holder lim (λ (h : Holder). every_processor lim (λ (q : ℕ). leb (entry_of (clock_of s.clocks h) q) (own s q)))) _ e) w.0 w.1))
      (λ n. omega (arith, entry_outside lim s z (Processor p) p n))

  applied_known_says : Sized lim s → applied_known lim s ≡ true → (p g q : ℕ) → entry_of (clock_of s.clocks (Applied p g)) q ≤ entry_of (clock s p) q
  unfolding applied_known Within
  applied_known_says z e p g q =
      by_place lim (Applied p g)
      (λ w. covered_entries (clock s p) (clock_of s.clocks (Applied p g)) q (every_page_at lim _ p g e w.0 w.1 w.2))
      (λ n. omega (arith, entry_outside lim s z (Applied p g) q n))

  record_sound_says : (i : ℕ) → record_sound lim s (record_at s i) ≡ true → diff_legal lim s i ≡ true → RecordSound lim s i
  unfolding record_tests diff_legal
  record_sound_says i e d = go (λ k. conjoined_at (record_tests s (record_at s i)) k (sym (record_tests_lem lim s (record_at s i)) ∙ e))
    where
      fitting : Bool
      fitting = leb (slot_head + get_or (get_or s.records.slots i []) 3 0) (slot_size lim)

      legal : Bool
      legal = eqb (read_refusal lim.words (record_at s i).diff) 0

      go : ((k : ℕ) → get_or (record_tests s (record_at s i)) k true ≡ true) → RecordSound lim s i
      go part =
          record {
            processor = part 0;
            page = ltb-true _ _ (part 1);
            some_interval = leb-true _ _ (part 2);
            made_interval = leb-true _ _ (part 3);
            fits = leb-true _ _ (and_left fitting legal d);
            legal = eqb-true _ _ (and_right fitting legal d);
          }

  records_sound_says : records_sound lim s ≡ true → (i : ℕ) → i < s.records.standing → RecordSound lim s i
  unfolding records_sound
  records_sound_says e i h =
      let both = every_at s.records.standing (λ (i : ℕ). record_sound lim s (record_at s i) && diff_legal lim s i) i
      (and_left _ (every s.records.standing (λ (i : ℕ). every i (λ (j : ℕ). not (same_notice (record_at s i) (record_at s j))))) e) h in
      record_sound_says i (and_left (record_sound lim s (record_at s i)) (diff_legal lim s i) both) (and_right (record_sound lim s (record_at s i)) (diff_legal lim s i) both)

  distinct_says : records_sound lim s ≡ true → (i j : ℕ) → i < s.records.standing → j < i → same_notice (record_at s i) (record_at s j) ≡ false
  unfolding records_sound
  distinct_says e i j h k =
      not-true _ (every_at i _ j (every_at s.records.standing (λ (i : ℕ). every i (λ (j : ℕ). not (same_notice (record_at s i) (record_at s j)))) i
      (and_right (every s.records.standing (λ (i : ℕ). record_sound lim s (record_at s i) && diff_legal lim s i)) _ e) h) k)

  dirty_has_interval_says : Sized lim s → dirty_have_interval lim s ≡ true → (p g : ℕ) → dirty_at s.pages p g ≡ true → own s p < lim.intervals
  unfolding dirty_have_interval Within
  dirty_has_interval_says z e p g d =
      by_place lim (Applied p g)
      (λ w. ltb-true _ _ (or_says (not (dirty_at s.pages p g)) (ltb (own s p) lim.intervals) (every_page_at lim _ p g e w.0 w.1 w.2) (ap not d)))
      (λ n. absurd (false≢true (sym (clean_outside lim s z p g n) ∙ d)))

  holder_present_says : Sized lim s → holders_present lim s ≡ true → (l : ℕ) → (holder s l ≡ 0) ⊎ (present s (holder s l) ≡ true)
  unfolding holders_present Within
  holder_present_says z e l =
      by_place lim (Lock l)
      (λ w. go (or_either (eqb (holder s l) 0) (present s (holder s l)) (every_at lim.locks _ l e w)))
      (λ n. inl (not_held_outside lim s z l (omega (arith, lt_of_not-le n))))
    where
      go : (eqb (holder s l) 0 ≡ true) ⊎ (present s (holder s l) ≡ true) → (holder s l ≡ 0) ⊎ (present s (holder s l) ≡ true)
      go (inl k) = inl (eqb-true _ _ k)
      go (inr k) = inr k

  first_there_says : queue_sound lim s ≡ true → (lim.jobs ≡ 0) ⊎ (s.marks.first < lim.jobs)
  unfolding queue_sound
  first_there_says e = go (eqb lim.jobs 0) refl ((and-eq-true_iff (eqb lim.jobs 0 || ltb s.marks.first lim.jobs) (leb s.marks.jobs lim.jobs)).0 e).0
    where
      go : (b : Bool) → eqb lim.jobs 0 ≡ b → (b || ltb s.marks.first lim.jobs) ≡ true → (lim.jobs ≡ 0) ⊎ (s.marks.first < lim.jobs)
      go true z h = inl (eqb-true lim.jobs 0 z)
      go false z h = inr (ltb-true s.marks.first lim.jobs h)

  few_jobs_says : queue_sound lim s ≡ true → s.marks.jobs ≤ lim.jobs
  unfolding queue_sound
  few_jobs_says e = leb-true s.marks.jobs lim.jobs ((and-eq-true_iff (eqb lim.jobs 0 || ltb s.marks.first lim.jobs) (leb s.marks.jobs lim.jobs)).0 e).1

  holder_away_says : Sized lim s → holders_away lim s ≡ true → (l : ℕ) → (holder s l ≡ 0) ⊎ (has_arrived s (holder s l) ≡ false)
  unfolding holders_away Within
  holder_away_says z e l =
      by_place lim (Lock l)
      (λ w. go (or_either (eqb (holder s l) 0) (not (has_arrived s (holder s l))) (every_at lim.locks _ l e w)))
      (λ n. inl (not_held_outside lim s z l (omega (arith, lt_of_not-le n))))
    where
      go : (eqb (holder s l) 0 ≡ true) ⊎ (not (has_arrived s (holder s l)) ≡ true) → (holder s l ≡ 0) ⊎ (has_arrived s (holder s l) ≡ false)
      go (inl k) = inl (eqb-true _ _ k)
      go (inr k) = inr (not-true _ k)

-- ---- the lines of waiters

module _ (s : State) (part : (i : ℕ) → get_or (line_tests s) i true ≡ true) where
  n : ℕ
  n = s.counts.processors

  waited_for : (k l : ℕ) → k < n → awaits s.marks k ≡ suc l → l < s.counts.locks
  unfolding line_tests n
  waited_for k l b e = omega (arith, e, leb-true (awaits s.marks k) s.counts.locks (every_at n (λ (k : ℕ). leb (awaits s.marks k) s.counts.locks) k (part 0) b))

  waiter_says : (k l : ℕ) → k < n → awaits s.marks k ≡ suc l → (i : ℕ) → get_or (waiter_tests s (suc k) l) i true ≡ true
  unfolding line_tests n
  waiter_says k l b e i =
      let sound : waiter_sound s (suc k) l ≡ true = every_at s.counts.locks (waiter_sound s (suc k)) l (every_at n (λ (k : ℕ). every s.counts.locks (waiter_sound s (suc k))) k (part 1) b) (waited_for k l b e) in
      conjoined_at (waiter_tests s (suc k) l) i
      (or_says (not (waits_for s.marks (suc k) l)) (conjoined (waiter_tests s (suc k) l)) (sym (waiter_tests_lem s (suc k) l) ∙ sound) (ap not (waits_for_when s.marks k l e)))

  lower_apart : (l j k : ℕ) → j < k → k < n → awaits s.marks j ≡ suc l → awaits s.marks k ≡ suc l → turn_at s.marks j ≡ turn_at s.marks k → ⊥
  unfolding line_tests apart_in_line turn_of n
  lower_apart l j k a b ej ek t =
      let here : apart_in_line s (suc k) (suc j) ≡ true = every_at k (λ (j : ℕ). apart_in_line s (suc k) (suc j)) j (every_at n (λ (k : ℕ). every k (λ (j : ℕ). apart_in_line s (suc k) (suc j))) k (part 2) b) a in
      false≢true (rw (waiter_waits s.marks k l ek, eq-eqb (awaits s.marks k) (awaits s.marks j) (ek ∙ sym ej), eq-eqb (turn_at s.marks k) (turn_at s.marks j) (sym t)) at here)

  lines_are : Lines n (awaits s.marks) (turn_at s.marks)
  unfolding waiter_tests stand_before waits_for turn_of ahead n
  lines_are =
      record {
        counts = λ l k b e. sym (eqb-true _ _ (waiter_says k l b e 3));
        apart = λ l j k bj bk ej ek t. apart l j k bj bk ej ek t (dec_lt j k) (dec_lt k j);
      }
    where
      apart : (l j k : ℕ) → j < n → k < n → awaits s.marks j ≡ suc l → awaits s.marks k ≡ suc l → turn_at s.marks j ≡ turn_at s.marks k → Dec (j < k) → Dec (k < j) → j ≡ k
      apart l j k bj bk ej ek t (yes a) c = absurd (lower_apart l j k a bk ej ek t)
      apart l j k bj bk ej ek t (no a) (yes c) = absurd (lower_apart l k j c bj ek ej (sym t))
      apart l j k bj bk ej ek t (no a) (no c) = omega (arith, a, c)

  pub lines_say : LinesInOrder s.counts s.marks
  unfolding waiter_tests holder has_arrived n
  lines_say =
      record {
        lines = lines_are;
        for_present = waited_for;
        for_held = λ k l b e z. eqb-false _ _ (not-true _ (waiter_says k l b e 0)) z;
        by_another = λ k l b e z. eqb-false _ _ (not-true _ (waiter_says k l b e 1)) z;
        not_arrived = λ k l b e. not-true _ (waiter_says k l b e 2);
      }

-- a count in range is at least 1 and at most the limit
pub in_range_says : (most n : ℕ) → in_range most n ≡ true → (1 ≤ n) × (n ≤ most)
unfolding in_range
in_range_says most n e = (leb-true 1 n (and_left (leb 1 n) (leb n most) e), leb-true n most (and_right (leb 1 n) (leb n most) e))

-- a state that passes the test is in order
pub in_order_says : (lim : Limits) (s : State) → is_in_order lim s ≡ true → InOrder lim s
unfolding order_tests counts_tests room_kept someone_missing
in_order_says lim s e = go (λ i. conjoined_at (order_tests lim s) i (sym (order_tests_lem lim s) ∙ e))
  where
    go : ((i : ℕ) → get_or (order_tests lim s) i true ≡ true) → InOrder lim s
    go part =
        let z = sized_says lim s (part 0) in
        let counts : (i : ℕ) → get_or (counts_tests lim s.counts) i true ≡ true = λ i. conjoined_at (counts_tests lim s.counts) i (sym (counts_tests_lem lim s.counts) ∙ part 1) in
        let processors = in_range_says lim.processors s.counts.processors (counts 0) in
        let pages = in_range_says lim.pages s.counts.pages (counts 1) in
        let locks = in_range_says lim.locks s.counts.locks (counts 2) in
        let absent = absent_says lim s z (part 2) in
        record {
          sized = z;
          some_processor = processors.0;
          processors_fit = processors.1;
          some_page = pages.0;
          pages_fit = pages.1;
          some_lock = locks.0;
          locks_fit = locks.1;
          absent_clock = absent.clock;
          absent_entry = absent.entry;
          absent_copy = absent.copy;
          absent_twin = absent.twin;
          absent_clean = absent.clean;
          absent_not_arrived = absent.not_arrived;
          absent_not_held = absent.not_held;
          absent_awake = absent.awake;
          absent_turn = absent.turn;
          absent_adds = absent.adds;
          later_interval = later_interval_says lim s z (part 3);
          known = known_says lim s z (part 4);
          own_fits_lem = own_fits_says lim s z (part 4);
          applied_known_lem = applied_known_says lim s z (part 5);
          record_sound_lem = records_sound_says lim s (part 6);
          distinct = distinct_says lim s (part 6);
          room = leb-true _ _ (part 7);
          dirty_has_interval = dirty_has_interval_says lim s z (part 8);
          holder_present = holder_present_says lim s z (part 9);
          someone_missing_lem = any_at _ _ (part 10);
          lines = lines_say s (λ i. conjoined_at (line_tests s) i (sym (line_tests_lem s) ∙ part 11));
          holder_away = holder_away_says lim s z (part 12);
          first_there = first_there_says lim s (part 13);
          few_jobs = few_jobs_says lim s (part 13);
        }
