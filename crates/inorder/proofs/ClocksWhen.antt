-- In lent memory that passes the tests on its clocks, the clocks are as the rules ask. Assumes nothing.
use Prim.Native.Nat.{ℕ, zero, suc, ◌+◌, ◌*◌, ◌≤◌, ◌<◌}
use native.Mathlib.Omega.{arith}
use mathlib.Core.Path.{◌≡◌, sym, ap, ◌∙◌}
use mathlib.Core.Bool.{Bool, true, false, ◌&&◌, false≢true}
use mathlib.Core.List.{List}
use lib.ListN.{get_or}
use borrow.Author.Tests.{ltb-false}
use Rattle.lists.specs.Tables.{every}
use Rattle.lists.proofs.Conditions.{and_left, and_right}
use Rattle.lists.proofs.Tables.{every_at}
use Rattle.limits.specs.Limits.{interval_limit, job_limit, lock_limit, page_limit, processor_limit}
use Rattle.limits.specs.inner.Sizes.{clock_width, first_applied_row, first_interval_row, first_job_row, first_lock_row}
use Rattle.rules.specs.InOrder.{present_holder}
use Rattle.rules.specs.State.{mainframe, Holder, Processor, Lock, Barrier, Applied, Interval, Job, State}
use Rattle.rules.proofs.inorder.Facts.{Within}
use Rattle.layout.specs.Areas.{lock_row, applied_row, interval_row, job_row, clock_row, state_in}
use Rattle.layout.specs.Layout.{row_of}
use Rattle.layout.specs.inner.Marks.{lock_count, page_count, processor_count}
use Rattle.layout.proofs.RowLaws.{get_row}
use Rattle.inorder_marks.specs.inner.Tests.{pages_of}
use Rattle.inorder_records.specs.inner.Tests.{own_fits}
use Rattle.inorder.specs.inner.Tests.{rows_hold, own_entries, applied_hold, intervals_hold, clocks_hold_with}
use Rattle.inorder.proofs.PlaceFacts.{rows_zero_at, rows_known, own_entry}
use Rattle.inorder.proofs.StateReads.{present_read, page_present_read, lock_present_read}

-- the state that the areas hold
abbrev pub held : List ℕ → List ℕ → List ℕ → List ℕ → State
held c w r m = state_in mainframe c w r m

-- the tests on the clocks pass
pub record ClocksPass (c : List ℕ) (processors pages locks : ℕ) : Type 0 where
  pub own_fit : every processor_limit (own_fits (own_entries c)) ≡ true
  pub processor_rows : rows_hold (own_entries c) c 0 first_lock_row (processors + 1) ≡ true
  pub lock_rows : rows_hold (own_entries c) c first_lock_row lock_limit locks ≡ true
  pub job_rows : rows_hold (own_entries c) c first_job_row job_limit job_limit ≡ true
  pub applied_rows : every processor_limit (applied_hold c processors pages) ≡ true
  pub interval_rows : every processor_limit (intervals_hold (own_entries c) c) ≡ true

-- each of the tests on clocks
pub clocks_pass : (c : List ℕ) (processors pages locks : ℕ) → clocks_hold_with (own_entries c) c processors pages locks ≡ true → ClocksPass c processors pages locks
unfolding clocks_hold_with
clocks_pass c processors pages locks e =
    let own : Bool = every processor_limit (own_fits (own_entries c)) in
    let rows : Bool = rows_hold (own_entries c) c 0 first_lock_row (processors + 1) in
    let lock_rows : Bool = rows_hold (own_entries c) c first_lock_row lock_limit locks in
    let job_rows : Bool = rows_hold (own_entries c) c first_job_row job_limit job_limit in
    let applied : Bool = every processor_limit (applied_hold c processors pages) in
    let last : Bool = every processor_limit (intervals_hold (own_entries c) c) in
    let a = and_right own (rows && (lock_rows && (job_rows && (applied && last)))) e in
    let b = and_right rows (lock_rows && (job_rows && (applied && last))) a in
    let d = and_right lock_rows (job_rows && (applied && last)) b in
    let f = and_right job_rows (applied && last) d in
    record {
      own_fit = and_left own (rows && (lock_rows && (job_rows && (applied && last)))) e;
      processor_rows = and_left rows (lock_rows && (job_rows && (applied && last))) a;
      lock_rows = and_left lock_rows (job_rows && (applied && last)) b;
      job_rows = and_left job_rows (applied && last) d;
      applied_rows = and_left applied last f;
      interval_rows = and_right applied last f;
    }

-- a place of the clocks, its row written otherwise
same_row : (c : List ℕ) (row i q : ℕ) → row ≡ i → get_or c (clock_width * row + q) 0 ≡ get_or c (clock_width * i + q) 0
same_row c row i q e = ap (λ (k : ℕ). get_or c (clock_width * k + q) 0) e

module _ (c w r m : List ℕ) (z : ClocksPass c (processor_count m) (page_count m) (lock_count m)) where
  -- ---- rows

  processor_known : (i q : ℕ) → i < first_lock_row → q < processor_limit → get_or c (clock_width * i + q) 0 ≤ get_or (own_entries c) q 0
  processor_known i q h b =
      let row : i ≡ 0 + i = omega arith in
      rw (same_row c i (0 + i) q row) (rows_known (own_entries c) c 0 first_lock_row (processor_count m + 1) i q z.processor_rows h b)

  -- no row exceeds the own entries
  pub row_known : (h : Holder) (q : ℕ) → Within mainframe h → q < processor_limit → get_or c (clock_width * clock_row mainframe h + q) 0 ≤ get_or (own_entries c) q 0
  unfolding Within clock_row lock_row applied_row interval_row job_row mainframe applied_hold intervals_hold
  row_known (Processor p) q t b = processor_known p q (omega arith) b
  row_known (Lock l) q t b = rows_known (own_entries c) c first_lock_row lock_limit (lock_count m) l q z.lock_rows t b
  row_known Barrier q t b = processor_known 0 q (omega arith) b
  row_known (Applied zero g) q t b = absurd (omega arith)
  row_known (Applied (suc k) g) q t b =
      let row : clock_row mainframe (Applied (suc k) g) ≡ first_applied_row + page_limit * k + g = omega arith in
      let below = rows_known (row_of clock_width c (k + 1)) c (first_applied_row + page_limit * k) page_limit (pages_of (processor_count m) (page_count m) k) g q (every_at processor_limit (applied_hold c (processor_count m) (page_count m)) k z.applied_rows t.1) t.2 b in
      omega (arith, same_row c (clock_row mainframe (Applied (suc k) g)) (first_applied_row + page_limit * k + g) q row, below, get_row clock_width c (k + 1) q 0 b, processor_known (k + 1) q (omega arith) b)
  row_known (Interval zero i) q t b = absurd (omega arith)
  row_known (Interval (suc k) zero) q t b = absurd (omega arith)
  row_known (Interval (suc k) (suc i)) q t b =
      let row : clock_row mainframe (Interval (suc k) (suc i)) ≡ first_interval_row + interval_limit * k + i = omega arith in
      omega (arith, same_row c (clock_row mainframe (Interval (suc k) (suc i))) (first_interval_row + interval_limit * k + i) q row, rows_known (own_entries c) c (first_interval_row + interval_limit * k) interval_limit (get_or (own_entries c) k 0) i q (every_at processor_limit (intervals_hold (own_entries c) c) k z.interval_rows t.1) t.3 b)
  row_known (Job k) q t b = rows_known (own_entries c) c first_job_row job_limit job_limit k q z.job_rows t b

  -- an applied clock does not exceed its processor's
  pub applied_below : (k g q : ℕ) → k < processor_limit → g < page_limit → q < processor_limit → get_or c (clock_width * clock_row mainframe (Applied (suc k) g) + q) 0 ≤ get_or c (clock_width * clock_row mainframe (Processor (suc k)) + q) 0
  unfolding clock_row applied_row mainframe applied_hold
  applied_below k g q a n b =
      let row : clock_row mainframe (Applied (suc k) g) ≡ first_applied_row + page_limit * k + g = omega arith in
      let next : k + 1 ≡ suc k = omega arith in
      omega (arith, same_row c (clock_row mainframe (Applied (suc k) g)) (first_applied_row + page_limit * k + g) q row, rows_known (row_of clock_width c (k + 1)) c (first_applied_row + page_limit * k) page_limit (pages_of (processor_count m) (page_count m) k) g q (every_at processor_limit (applied_hold c (processor_count m) (page_count m)) k z.applied_rows a) n b, get_row clock_width c (k + 1) q 0 b, same_row c (k + 1) (suc k) q next)

  -- the row of an absent processor is zeros
  processor_zero : (k q : ℕ) → processor_count m ≤ k → k < processor_limit → q < processor_limit → get_or c (clock_width * suc k + q) 0 ≡ 0
  processor_zero k q h a b =
      let row : suc k ≡ 0 + suc k = omega arith in
      same_row c (suc k) (0 + suc k) q row ∙ rows_zero_at (own_entries c) c 0 first_lock_row (processor_count m + 1) (suc k) q z.processor_rows (omega arith) (omega arith) b

  -- so is its own entry
  pub own_absent : (k : ℕ) → processor_count m ≤ k → k < processor_limit → get_or (own_entries c) k 0 ≡ 0
  own_absent k h a = own_entry c k a ∙ processor_zero k k h a a

  -- the rows of intervals not made are zeros
  pub later_zero : (k i q : ℕ) → k < processor_limit → i < interval_limit → q < processor_limit → get_or (own_entries c) k 0 ≤ i → get_or c (clock_width * clock_row mainframe (Interval (suc k) (suc i)) + q) 0 ≡ 0
  unfolding clock_row interval_row mainframe intervals_hold
  later_zero k i q a n b h =
      let row : clock_row mainframe (Interval (suc k) (suc i)) ≡ first_interval_row + interval_limit * k + i = omega arith in
      same_row c (clock_row mainframe (Interval (suc k) (suc i))) (first_interval_row + interval_limit * k + i) q row
      ∙ rows_zero_at (own_entries c) c (first_interval_row + interval_limit * k) interval_limit (get_or (own_entries c) k 0) i q (every_at processor_limit (intervals_hold (own_entries c) c) k z.interval_rows a) h n b

  -- the row of an absent holder is zeros
  pub absent_zero_lem : (h : Holder) (q : ℕ) → Within mainframe h → q < processor_limit → present_holder (held c w r m) h ≡ false → get_or c (clock_width * clock_row mainframe h + q) 0 ≡ 0
  unfolding Within clock_row lock_row applied_row mainframe present_holder applied_hold
  absent_zero_lem (Processor zero) q t b a = absurd (omega arith)
  absent_zero_lem (Processor (suc k)) q t b a = processor_zero k q (ltb-false k (processor_count m) (sym (present_read c w r m k) ∙ a)) t.1 b
  absent_zero_lem (Lock l) q t b a =
      rows_zero_at (own_entries c) c first_lock_row lock_limit (lock_count m) l q z.lock_rows (ltb-false l (lock_count m) (sym (lock_present_read c w r m l) ∙ a)) t b
  absent_zero_lem Barrier q t b a = absurd (false≢true (sym a))
  absent_zero_lem (Applied zero g) q t b a = absurd (omega arith)
  absent_zero_lem (Applied (suc k) g) q t b a =
      let row : clock_row mainframe (Applied (suc k) g) ≡ first_applied_row + page_limit * k + g = omega arith in
      same_row c (clock_row mainframe (Applied (suc k) g)) (first_applied_row + page_limit * k + g) q row
      ∙ rows_zero_at (row_of clock_width c (k + 1)) c (first_applied_row + page_limit * k) page_limit (pages_of (processor_count m) (page_count m) k) g q (every_at processor_limit (applied_hold c (processor_count m) (page_count m)) k z.applied_rows t.1) (ltb-false g _ (sym (page_present_read c w r m k g) ∙ a)) t.2 b
  absent_zero_lem (Interval zero i) q t b a = absurd (omega arith)
  absent_zero_lem (Interval (suc k) zero) q t b a = absurd (omega arith)
  absent_zero_lem (Interval (suc k) (suc i)) q t b a =
      later_zero k i q t.1 t.3 b (omega (arith, own_absent k (ltb-false k (processor_count m) (sym (present_read c w r m k) ∙ a)) t.1))
  absent_zero_lem (Job k) q t b a = absurd (false≢true (sym a))
