-- Lent memory that holds a state in order passes the tests on its clocks and words. Assumes nothing.
use Rattle.layout.proofs.TallyLaws.{tally_at, adds_read}
use Prim.Native.Nat.{ℕ, zero, suc, ◌+◌, ◌*◌, ◌≤◌, ◌<◌, ◌/◌, ◌%◌, ◌-◌}
use native.Mathlib.Omega.{arith}
use mathlib.Core.Path.{◌≡◌, sym, ap, ◌∙◌}
use mathlib.Core.Bool.{Bool, true, false, cond}
use mathlib.Core.List.{List}
use lib.ListN.{get_or}
use lib.Dec.{ltb}
use borrow.Author.Tests.{le-ltb, le-leb}
use Rattle.lists.specs.Tables.{every}
use Rattle.lists.proofs.Tables.{every_holds}
use Rattle.limits.specs.Limits.{interval_limit, job_limit, lock_limit, page_limit, page_width, processor_limit, tally_limit}
use Rattle.limits.specs.inner.Sizes.{clock_width, copy_limit, first_applied_row, first_interval_row, first_job_row, first_lock_row, first_tally}
use Rattle.rules.specs.InOrder.{present_holder}
use Rattle.rules.specs.State.{mainframe, Holder, Processor, Lock, Barrier, Applied, Interval, Job, copy_of, twin_of, clock}
use Rattle.rules.proofs.inorder.Facts.{Within, InOrder}
use Rattle.layout.specs.Areas.{lock_row, applied_row, interval_row, job_row, clock_row, state_in, tally_place}
use Rattle.layout.specs.Layout.{row_of}
use Rattle.layout.specs.inner.Marks.{lock_count, page_count, processor_count}
use Rattle.layout.proofs.RowLaws.{get_row}
use Rattle.inorder_marks.specs.inner.Tests.{pages_of}
use Rattle.inorder_records.specs.inner.Tests.{own_fits}
use Rattle.inorder.specs.inner.Tests.{rows_hold, own_entries, applied_hold, intervals_hold, clocks_hold_with, words_hold, adds_hold}
use Rattle.inorder.proofs.PlaceFacts.{rows_hold_when, words_zero_when, zeros_hold}
use Rattle.inorder.proofs.StateReads.{entry_read, own_read, copy_word_read, twin_word_read, present_read, page_present_read, lock_present_read}

module _ (c w r m : List ℕ) (o : InOrder mainframe (state_in mainframe c w r m)) where
  -- ---- clocks

  -- no entry of a row exceeds the own entry
  row_known : (h : Holder) (row q : ℕ) → Within mainframe h → row ≡ clock_row mainframe h → q < processor_limit → get_or c (clock_width * row + q) 0 ≤ get_or (own_entries c) q 0
  row_known h row q t e b = rw e (omega (arith, o.known h (suc q), entry_read c w r m h q t b, own_read c w r m q b))

  -- the row of an absent holder is zeros
  row_zero : (h : Holder) (row q : ℕ) → Within mainframe h → row ≡ clock_row mainframe h → q < processor_limit → present_holder (state_in mainframe c w r m) h ≡ false
      → get_or c (clock_width * row + q) 0 ≡ 0
  row_zero h row q t e b a = rw e (sym (entry_read c w r m h q t b) ∙ o.absent_clock h (suc q) a)

  own_fits_says : every processor_limit (own_fits (own_entries c)) ≡ true
  unfolding own_fits mainframe
  own_fits_says = every_holds processor_limit (own_fits (own_entries c)) (λ k b. le-leb (get_or (own_entries c) k 0) interval_limit (omega (arith, o.own_fits_lem (suc k), own_read c w r m k b)))

  processor_rows_says : rows_hold (own_entries c) c 0 first_lock_row (processor_count m + 1) ≡ true
  unfolding Within clock_row mainframe present_holder state_in
  processor_rows_says = rows_hold_when (own_entries c) c 0 first_lock_row (processor_count m + 1) within zeros
    where
      within : (i q : ℕ) → i < processor_count m + 1 → q < processor_limit → get_or c (clock_width * (0 + i) + q) 0 ≤ get_or (own_entries c) q 0
      within zero q h b = row_known Barrier (0 + 0) q tt (omega arith) b
      within (suc k) q h b = row_known (Processor (suc k)) (0 + suc k) q (omega arith, omega (arith, o.processors_fit)) (omega arith) b

      zeros : (i q : ℕ) → processor_count m + 1 ≤ i → i < first_lock_row → q < processor_limit → get_or c (clock_width * (0 + i) + q) 0 ≡ 0
      zeros zero q h n b = absurd (omega arith)
      zeros (suc k) q h n b =
          row_zero (Processor (suc k)) (0 + suc k) q (omega arith, omega arith) (omega arith) b (present_read c w r m k ∙ le-ltb k (processor_count m) (omega arith))

  lock_rows_says : rows_hold (own_entries c) c first_lock_row lock_limit (lock_count m) ≡ true
  unfolding Within clock_row lock_row mainframe state_in
  lock_rows_says = rows_hold_when (own_entries c) c first_lock_row lock_limit (lock_count m) within zeros
    where
      within : (i q : ℕ) → i < lock_count m → q < processor_limit → get_or c (clock_width * (first_lock_row + i) + q) 0 ≤ get_or (own_entries c) q 0
      within i q h b = row_known (Lock i) (first_lock_row + i) q (omega (arith, o.locks_fit)) (omega arith) b

      zeros : (i q : ℕ) → lock_count m ≤ i → i < lock_limit → q < processor_limit → get_or c (clock_width * (first_lock_row + i) + q) 0 ≡ 0
      zeros i q h n b = row_zero (Lock i) (first_lock_row + i) q n (omega arith) b (lock_present_read c w r m i ∙ le-ltb i (lock_count m) h)

  job_rows_says : rows_hold (own_entries c) c first_job_row job_limit job_limit ≡ true
  unfolding Within clock_row job_row mainframe
  job_rows_says =
      rows_hold_when (own_entries c) c first_job_row job_limit job_limit (λ i q h b. row_known (Job i) (first_job_row + i) q h (omega arith) b) (λ i q h n b. absurd (omega arith))

  applied_says : every processor_limit (applied_hold c (processor_count m) (page_count m)) ≡ true
  unfolding applied_hold Within clock_row applied_row mainframe state_in clock pages_of
  applied_says = every_holds processor_limit (applied_hold c (processor_count m) (page_count m)) each
    where
      few : (k : ℕ) → pages_of (processor_count m) (page_count m) k ≤ page_limit
      few k = go (ltb k (processor_count m))
        where
          go : (b : Bool) → cond b (page_count m) 0 ≤ page_limit
          go true = o.pages_fit
          go false = omega arith

      within : (k g q : ℕ) → k < processor_limit → g < page_limit → q < processor_limit → get_or c (clock_width * (first_applied_row + page_limit * k + g) + q) 0 ≤ get_or (row_of clock_width c (k + 1)) q 0
      within k g q a n b =
          let row : first_applied_row + page_limit * k + g ≡ clock_row mainframe (Applied (suc k) g) = omega arith in
          let place : clock_width * (k + 1) + q ≡ clock_width * clock_row mainframe (Processor (suc k)) + q = omega arith in
          let below : get_or c (clock_width * (k + 1) + q) 0 ≡ get_or c (clock_width * clock_row mainframe (Processor (suc k)) + q) 0 = ap (λ (j : ℕ). get_or c j 0) place in
          rw row (omega (arith, o.applied_known_lem (suc k) g (suc q), entry_read c w r m (Applied (suc k) g) q (omega arith, a, n) b, entry_read c w r m (Processor (suc k)) q (omega arith, a) b, get_row clock_width c (k + 1) q 0 b, below))

      zeros : (k g q : ℕ) → k < processor_limit → pages_of (processor_count m) (page_count m) k ≤ g → g < page_limit → q < processor_limit → get_or c (clock_width * (first_applied_row + page_limit * k + g) + q) 0 ≡ 0
      zeros k g q a h n b =
          row_zero (Applied (suc k) g) (first_applied_row + page_limit * k + g) q (omega arith, a, n) (omega arith) b (page_present_read c w r m k g ∙ le-ltb g _ h)

      each : (k : ℕ) → k < processor_limit → applied_hold c (processor_count m) (page_count m) k ≡ true
      each k a =
          rows_hold_when (row_of clock_width c (k + 1)) c (first_applied_row + page_limit * k) page_limit (pages_of (processor_count m) (page_count m) k) (λ g q h b. within k g q a (omega (arith, few k)) b)
          (λ g q h n b. zeros k g q a h n b)

  intervals_says : every processor_limit (intervals_hold (own_entries c) c) ≡ true
  unfolding intervals_hold Within clock_row interval_row mainframe
  intervals_says = every_holds processor_limit (intervals_hold (own_entries c) c) each
    where
      within : (k i q : ℕ) → k < processor_limit → i < interval_limit → q < processor_limit → get_or c (clock_width * (first_interval_row + interval_limit * k + i) + q) 0 ≤ get_or (own_entries c) q 0
      within k i q a n b = row_known (Interval (suc k) (suc i)) (first_interval_row + interval_limit * k + i) q (omega arith, a, omega arith, n) (omega arith) b

      zeros : (k i q : ℕ) → k < processor_limit → get_or (own_entries c) k 0 ≤ i → i < interval_limit → q < processor_limit → get_or c (clock_width * (first_interval_row + interval_limit * k + i) + q) 0 ≡ 0
      zeros k i q a h n b =
          let row : first_interval_row + interval_limit * k + i ≡ clock_row mainframe (Interval (suc k) (suc i)) = omega arith in
          rw row (sym (entry_read c w r m (Interval (suc k) (suc i)) q (omega arith, a, omega arith, n) b) ∙ o.later_interval (suc k) (suc i) (suc q) (omega (arith, own_read c w r m k a)))

      each : (k : ℕ) → k < processor_limit → intervals_hold (own_entries c) c k ≡ true
      each k a =
          let fits : get_or (own_entries c) k 0 ≤ interval_limit = omega (arith, o.own_fits_lem (suc k), own_read c w r m k a) in
          rows_hold_when (own_entries c) c (first_interval_row + interval_limit * k) interval_limit (get_or (own_entries c) k 0) (λ i q h b. within k i q a (omega arith) b) (λ i q h n b. zeros k i q a h n b)

  -- all clocks pass
  pub clocks_say : clocks_hold_with (own_entries c) c (processor_count m) (page_count m) (lock_count m) ≡ true
  unfolding clocks_hold_with
  clocks_say = rw (own_fits_says, processor_rows_says, lock_rows_says, job_rows_says, applied_says, intervals_says)

  -- ---- words

  -- the words of absent pages pass, where those of the pages in the rows from `first` on are 0
  words_say : (first : ℕ) (page : ℕ → ℕ → List ℕ)
      → ((k g i : ℕ) → k < processor_limit → g < page_limit → i < page_width → get_or (page (suc k) g) i 0 ≡ get_or w (page_width * (first + page_limit * k + g) + i) 0)
      → ((p g i : ℕ) → present_holder (state_in mainframe c w r m) (Applied p g) ≡ false → get_or (page p g) i 0 ≡ 0)
      → every processor_limit (words_hold w first (processor_count m) (page_count m)) ≡ true
  unfolding words_hold
  words_say first page read absent =
      every_holds processor_limit (words_hold w first (processor_count m) (page_count m))
      (λ k a. words_zero_when w first k (pages_of (processor_count m) (page_count m) k)
      (λ g i h n b. sym (read k g i a n b) ∙ absent (suc k) g i (page_present_read c w r m k g ∙ le-ltb g _ h)))

  -- the copies of absent pages pass
  pub copies_say : every processor_limit (words_hold w 0 (processor_count m) (page_count m)) ≡ true
  copies_say = words_say 0 (copy_of (state_in mainframe c w r m).pages) (copy_word_read c w r m) o.absent_copy

  -- so do their twins
  pub twins_say : every processor_limit (words_hold w copy_limit (processor_count m) (page_count m)) ≡ true
  twins_say = words_say copy_limit (twin_of (state_in mainframe c w r m).pages) (twin_word_read c w r m) o.absent_twin

  -- and what absent processors add
  pub adds_say : adds_hold w (processor_count m) ≡ true
  unfolding adds_hold mainframe
  adds_say = zeros_hold w (first_tally + tally_limit * (processor_count m + 1)) (tally_limit * (processor_limit - processor_count m)) at
    where
      at : (i : ℕ) → i < tally_limit * (processor_limit - processor_count m) → get_or w (first_tally + tally_limit * (processor_count m + 1) + i) 0 ≡ 0
      at i h =
          let k : ℕ = processor_count m + i / tally_limit in
          let t : ℕ = i % tally_limit in
          let place : first_tally + tally_limit * (processor_count m + 1) + i ≡ tally_place mainframe (suc k) t = omega (arith, tally_at (suc k) t) in
          ap (λ (j : ℕ). get_or w j 0) place
          ∙ sym (adds_read w (suc k) t (omega arith) (omega (arith, h)) (omega arith))
          ∙ (unfold state_in in o.absent_adds (suc k) t (omega arith) (present_read c w r m k ∙ le-ltb k (processor_count m) (omega arith)))
