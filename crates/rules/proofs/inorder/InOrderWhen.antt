-- A state that is in order, fact by fact, passes the test `is_in_order`. Rests on Outside and Conditions. Assumes nothing.
use Prim.Native.Nat.{ℕ, zero, suc, ◌+◌, ◌≤◌, ◌<◌}
use native.Mathlib.Omega.{arith}
use mathlib.Core.Path.{◌≡◌, refl, sym, ap, ◌∙◌}
use mathlib.Core.Bool.{Bool, true, false, not, ◌&&◌, ◌||◌}
use mathlib.Core.Logic.{◌⊎◌, inl, inr}
use mathlib.Core.List.{[]}
use lib.ListN.{get_or}
use lib.Dec.{leb, eqb, ltb}
use borrow.Author.Tests.{leb-false, not-false, lt-ltb, le-leb, eqb-true, eq-eqb, ne_eqb}
use Rattle.lists.specs.Tables.{every}
use Rattle.lists.proofs.Tables.{every_holds, any_holds}
use Rattle.lists.proofs.Conditions.{and_both, Given, conjoined_holds, or_when, either_or}
use Rattle.limits.specs.Limits.{slot_head}
use Rattle.clock.specs.Clocks.{entry_of}
use Rattle.diff.specs.Reading.{read_refusal}
use Rattle.rules.specs.State.{Limits, Holder, Lock, Applied, Interval, clock_of, copy_of, twin_of, dirty_at, adds_of, State, clock, own, holder, has_arrived}
use Rattle.rules.specs.Lines.{waits, waits_for, turn_of}
use Rattle.rules.specs.InOrder.{present, every_processor, every_holder, slot_size, sized, in_range, counts_in_range, present_holder, all_zero, absent_zero, later_intervals_zero, entries_known, applied_known, record_at, diff_legal, record_sound, same_notice, records_sound, room_kept, dirty_have_interval, holders_present, holders_away, queue_sound, someone_missing, stand_before, waiter_sound, apart_in_line, lines_sound, is_in_order}
use Rattle.rules.proofs.state.Lines.{ahead}
use Rattle.rules.proofs.state.Waiters.{awaits, turn_at, waits_for_says}
use Rattle.rules.proofs.inorder.Facts.{Sized, RecordSound, LinesInOrder, InOrder}
use Rattle.rules.proofs.inorder.Everywhere.{every_processor_holds, every_page_holds, every_interval_holds, every_holder_holds, all_zero_holds, entries_all_zero, entries_covered}
use Rattle.rules.proofs.inorder.Rows.{rows_sized_when}
use Rattle.rules.proofs.inorder.Outside.{processors_rows, applied_rows, interval_rows, copies_rows, twins_rows, dirty_rows, adds_rows}
use Rattle.rules.proofs.inorder.Conditions.{sized_tests, sized_tests_lem, absent_tests, absent_tests_lem, counts_tests, counts_tests_lem, record_tests, record_tests_lem, waiter_tests, waiter_tests_lem, line_tests, line_tests_lem, order_tests, order_tests_lem}

module _ (lim : Limits) (s : State) where
  -- the size
  pub sized_when : Sized lim s → sized lim s ≡ true
  unfolding sized_tests Given
  sized_when z =
      sized_tests_lem lim s
      ∙ conjoined_holds (sized_tests lim s)
      (rows_sized_when lim lim.processors s.clocks.processors (processors_rows lim s z))
      (eq-eqb _ _ z.locks)
      (rows_sized_when lim lim.pages s.clocks.applied (applied_rows lim s z))
      (rows_sized_when lim (suc lim.intervals) s.clocks.intervals (interval_rows lim s z))
      (every_processor_holds lim _ (λ p h k. eq-eqb _ _ (z.no_interval p h k)))
      (every_holder_holds lim _ (λ h w. eq-eqb _ _ (z.clocks h w)))
      (rows_sized_when lim lim.pages s.pages.copies (copies_rows lim s z))
      (every_page_holds lim _ (λ p g h k l. eq-eqb _ _ (z.copy p g h k l)))
      (rows_sized_when lim lim.pages s.pages.twins (twins_rows lim s z))
      (every_page_holds lim _ (λ p g h k l. eq-eqb _ _ (z.twin p g h k l)))
      (rows_sized_when lim lim.pages s.pages.dirty (dirty_rows lim s z))
      (eq-eqb _ _ z.slots)
      (every_holds lim.records _ (λ i h. eq-eqb _ _ (z.slot i h)))
      (le-leb _ _ z.few_standing)
      (eq-eqb _ _ z.holders)
      (eq-eqb _ _ z.arrived)
      (eq-eqb _ _ z.awaited)
      (eq-eqb _ _ z.turns)
      (eq-eqb _ _ z.posted)
      (rows_sized_when lim lim.tallies s.shared.adds (adds_rows lim s z))
      (eq-eqb _ _ z.jobs)
      (eq-eqb _ _ z.values)

in_range_when : (most n : ℕ) → 1 ≤ n → n ≤ most → in_range most n ≡ true
unfolding in_range
in_range_when most n h k = and_both (leb 1 n) (leb n most) (le-leb 1 n h) (le-leb n most k)

not_when : (b : Bool) → b ≡ false → not b ≡ true
not_when b e = ap not e

module _ (lim : Limits) (s : State) (o : InOrder lim s) where
  counts_when : counts_in_range lim s.counts ≡ true
  unfolding counts_tests Given
  counts_when =
      counts_tests_lem lim s.counts
      ∙ conjoined_holds (counts_tests lim s.counts)
      (in_range_when _ _ o.some_processor o.processors_fit)
      (in_range_when _ _ o.some_page o.pages_fit)
      (in_range_when _ _ o.some_lock o.locks_fit)

  absent_when : absent_zero lim s ≡ true
  unfolding absent_tests Given adds_of
  absent_when =
      absent_tests_lem lim s
      ∙ conjoined_holds (absent_tests lim s)
      (every_holder_holds lim _ (λ h w. or_when (present_holder s h) _ (λ a. entries_all_zero (clock_of s.clocks h) (λ q. o.absent_clock h q a))))
      (every_holder_holds lim _ (λ h w. every_processor_holds lim _ (λ q k l. or_when (present s q) _ (λ a. eq-eqb _ _ (o.absent_entry h q a)))))
      (every_page_holds lim _ (λ p g k l m. or_when (present_holder s (Applied p g)) _ (λ a. all_zero_holds (copy_of s.pages p g) (λ i. o.absent_copy p g i a))))
      (every_page_holds lim _ (λ p g k l m. or_when (present_holder s (Applied p g)) _ (λ a. all_zero_holds (twin_of s.pages p g) (λ i. o.absent_twin p g i a))))
      (every_page_holds lim _ (λ p g k l m. or_when (present_holder s (Applied p g)) _ (λ a. not_when (dirty_at s.pages p g) (o.absent_clean p g a))))
      (every_processor_holds lim _ (λ p k l. or_when (present s p) _ (λ a. not_when (has_arrived s p) (o.absent_not_arrived p k a))))
      (every_holds lim.locks _ (λ l k. or_when (present_holder s (Lock l)) _ (λ a. eq-eqb _ _ (o.absent_not_held l a))))
      (every_processor_holds lim _ (λ p k l. or_when (present s p) _ (λ a. not_when (waits s.marks p) (o.absent_awake p k a))))
      (every_processor_holds lim _ (λ p k l. or_when (present s p) _ (λ a. eq-eqb _ _ (o.absent_turn p k a))))
      (every_processor_holds lim _ (λ p k l. or_when (present s p) _ (λ a. all_zero_holds (get_or s.shared.adds p []) (λ t. o.absent_adds p t k a))))

  later_intervals_when : later_intervals_zero lim s ≡ true
  unfolding later_intervals_zero
  later_intervals_when =
      every_interval_holds lim (λ (p i : ℕ). leb i (own s p) || all_zero (clock_of s.clocks (Interval p i)))
      (λ p i k l m n. or_when (leb i (own s p)) _ (λ a. entries_all_zero (clock_of s.clocks (Interval p i)) (λ q. o.later_interval p i q (leb-false i (own s p) a))))

  entries_known_when : entries_known lim s ≡ true
  unfolding entries_known
  entries_known_when =
      and_both
      (every_holder lim (λ (h : Holder). every_processor lim (λ (q : ℕ). leb (entry_of (clock_of s.clocks h) q) (own s q))))
      (every_processor lim (λ (p : ℕ). leb (own s p) lim.intervals))
      (every_holder_holds lim _ (λ h w. every_processor_holds lim _ (λ q k l. le-leb _ _ (o.known h q))))
      (every_processor_holds lim _ (λ p k l. le-leb _ _ (o.own_fits_lem p)))

  applied_known_when : applied_known lim s ≡ true
  unfolding applied_known
  applied_known_when = every_page_holds lim _ (λ p g k l m. entries_covered (clock s p) (clock_of s.clocks (Applied p g)) (λ q. o.applied_known_lem p g q))

  record_sound_when : (i : ℕ) → RecordSound lim s i → record_sound lim s (record_at s i) ≡ true
  unfolding record_tests Given
  record_sound_when i r =
      record_tests_lem lim s (record_at s i)
      ∙ conjoined_holds (record_tests s (record_at s i)) r.processor (lt-ltb _ _ r.page) (le-leb _ _ r.some_interval) (le-leb _ _ r.made_interval)

  diff_legal_when : (i : ℕ) → RecordSound lim s i → diff_legal lim s i ≡ true
  unfolding diff_legal
  diff_legal_when i r =
      and_both (leb (slot_head + get_or (get_or s.records.slots i []) 3 0) (slot_size lim)) (eqb (read_refusal lim.words (record_at s i).diff) 0)
      (le-leb _ _ r.fits) (eq-eqb _ _ r.legal)

  records_sound_when : records_sound lim s ≡ true
  unfolding records_sound
  records_sound_when =
      and_both
      (every s.records.standing (λ (i : ℕ). record_sound lim s (record_at s i) && diff_legal lim s i))
      (every s.records.standing (λ (i : ℕ). every i (λ (j : ℕ). not (same_notice (record_at s i) (record_at s j)))))
      (every_holds s.records.standing _
      (λ i h. and_both (record_sound lim s (record_at s i)) (diff_legal lim s i) (record_sound_when i (o.record_sound_lem i h)) (diff_legal_when i (o.record_sound_lem i h))))
      (every_holds s.records.standing _ (λ i h. every_holds i _ (λ j k. not_when (same_notice (record_at s i) (record_at s j)) (o.distinct i j h k))))

  dirty_have_interval_when : dirty_have_interval lim s ≡ true
  unfolding dirty_have_interval
  dirty_have_interval_when =
      every_page_holds lim _ (λ p g k l m. or_when (not (dirty_at s.pages p g)) _ (λ a. lt-ltb _ _ (o.dirty_has_interval p g (not-false (dirty_at s.pages p g) a))))

  holders_present_when : holders_present lim s ≡ true
  unfolding holders_present
  holders_present_when = every_holds lim.locks _ (λ l k. either_or (eqb (holder s l) 0) (present s (holder s l)) (go l (o.holder_present l)))
    where
      go : (l : ℕ) → (holder s l ≡ 0) ⊎ (present s (holder s l) ≡ true) → (eqb (holder s l) 0 ≡ true) ⊎ (present s (holder s l) ≡ true)
      go l (inl k) = inl (eq-eqb _ _ k)
      go l (inr k) = inr k

  queue_when : queue_sound lim s ≡ true
  unfolding queue_sound
  queue_when = and_both (eqb lim.jobs 0 || ltb s.marks.first lim.jobs) (leb s.marks.jobs lim.jobs) (go o.first_there) (le-leb s.marks.jobs lim.jobs o.few_jobs)
    where
      go : (lim.jobs ≡ 0) ⊎ (s.marks.first < lim.jobs) → (eqb lim.jobs 0 || ltb s.marks.first lim.jobs) ≡ true
      go (inl z) = rw (eq-eqb lim.jobs 0 z)
      go (inr z) = rw (lt-ltb s.marks.first lim.jobs z) (at (eqb lim.jobs 0))
        where
          at : (b : Bool) → (b || true) ≡ true
          at true = refl
          at false = refl

  holders_away_when : holders_away lim s ≡ true
  unfolding holders_away
  holders_away_when = every_holds lim.locks _ (λ l k. either_or (eqb (holder s l) 0) (not (has_arrived s (holder s l))) (go l (o.holder_away l)))
    where
      go : (l : ℕ) → (holder s l ≡ 0) ⊎ (has_arrived s (holder s l) ≡ false) → (eqb (holder s l) 0 ≡ true) ⊎ (not (has_arrived s (holder s l)) ≡ true)
      go l (inl k) = inl (eq-eqb _ _ k)
      go l (inr k) = inr (not_when _ k)

  someone_missing_when : someone_missing s ≡ true
  unfolding someone_missing
  someone_missing_when =
      any_holds s.counts.processors (λ (k : ℕ). not (has_arrived s (suc k))) o.someone_missing_lem.at o.someone_missing_lem.below o.someone_missing_lem.passes

-- ---- the lines of waiters

module _ (s : State) (o : LinesInOrder s.counts s.marks) where
  n : ℕ
  n = s.counts.processors

  lock_when : (k : ℕ) → k < n → leb (awaits s.marks k) s.counts.locks ≡ true
  unfolding n
  lock_when k b = go (awaits s.marks k) refl
    where
      go : (a : ℕ) → awaits s.marks k ≡ a → leb a s.counts.locks ≡ true
      go zero e = le-leb 0 s.counts.locks (omega arith)
      go (suc l) e = le-leb (suc l) s.counts.locks (o.for_present k l b e)

  waiter_when : (k l : ℕ) → k < n → waiter_sound s (suc k) l ≡ true
  unfolding waiter_tests Given holder has_arrived stand_before waits_for turn_of ahead n
  waiter_when k l b =
      waiter_tests_lem s (suc k) l
      ∙ or_when (not (waits_for s.marks (suc k) l)) _
      (λ a.
      let e : awaits s.marks k ≡ suc l = waits_for_says s.marks k l (not-false (waits_for s.marks (suc k) l) a) in
      conjoined_holds (waiter_tests s (suc k) l) (not_when _ (ne_eqb _ _ (o.for_held k l b e))) (not_when _ (ne_eqb _ _ (o.by_another k l b e))) (not_when _ (o.not_arrived k l b e))
      (eq-eqb _ _ (sym (o.lines.counts l k b e))))

  apart_when : (k j : ℕ) → k < n → j < k → apart_in_line s (suc k) (suc j) ≡ true
  unfolding apart_in_line waits turn_of n
  apart_when k j b a = go (awaits s.marks k) refl
    where
      go : (x : ℕ) → awaits s.marks k ≡ x
          → (not (not (eqb x 0)) || not (eqb x (awaits s.marks j)) || not (eqb (turn_at s.marks k) (turn_at s.marks j))) ≡ true
      go zero e = refl
      go (suc l) e =
          rw (ne_eqb (suc l) 0 (λ z. omega (arith, z)))
          (or_when (not (eqb (suc l) (awaits s.marks j))) _
          (λ same. not_when _ (ne_eqb (turn_at s.marks k) (turn_at s.marks j)
          (λ t. omega (arith, a, o.lines.apart l k j b (omega (arith, a, b)) e (sym (eqb-true (suc l) (awaits s.marks j) (not-false _ same))) t)))))

  pub lines_when : lines_sound s ≡ true
  unfolding line_tests Given n
  lines_when =
      line_tests_lem s
      ∙ conjoined_holds (line_tests s)
      (every_holds n _ lock_when)
      (every_holds n _ (λ k b. every_holds s.counts.locks _ (λ l c. waiter_when k l b)))
      (every_holds n _ (λ k b. every_holds k _ (λ j a. apart_when k j b a)))

-- a state in order passes the test
pub in_order_when : (lim : Limits) (s : State) → InOrder lim s → is_in_order lim s ≡ true
unfolding order_tests room_kept Given
in_order_when lim s o =
    order_tests_lem lim s
    ∙ conjoined_holds (order_tests lim s)
    (sized_when lim s o.sized)
    (counts_when lim s o)
    (absent_when lim s o)
    (later_intervals_when lim s o)
    (entries_known_when lim s o)
    (applied_known_when lim s o)
    (records_sound_when lim s o)
    (le-leb _ _ o.room)
    (dirty_have_interval_when lim s o)
    (holders_present_when lim s o)
    (someone_missing_when lim s o)
    (lines_when s o.lines)
    (holders_away_when lim s o)
    (queue_when lim s o)
