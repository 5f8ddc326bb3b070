-- A lock is asked for and freed: what this leaves of clocks, holders and lines, one law for each way of the code, and `lock_laws`. Rests on
-- Learning. Assumes nothing.
use Prim.Native.Nat.{ℕ, ◌*◌, ◌≤◌, ◌<◌}
use native.Mathlib.Omega.{arith}
use mathlib.Core.Path.{◌≡◌, refl, sym, ap, ◌∙◌}
use mathlib.Core.Bool.{Bool, true, false}
use mathlib.Core.List.{List}
use lib.ListN.{length}
use lib.Seq.{sets, length-sets}
use lib.Dec.{eqb}
use borrow.Author.Tests.{eq-eqb, ne_eqb}
use borrow.Author.Rules.{rules}
use Rattle.limits.specs.Limits.{lock_limit, processor_limit}
use Rattle.limits.specs.inner.Sizes.{clock_row_limit, clock_width}
use Rattle.clock.specs.Clocks.{joined}
use Rattle.rules.specs.State.{mainframe, Processor, Lock, Clocks, with_clock, State, Marks, with_clocks, with_marks, holder}
use Rattle.rules.specs.Lines.{first_in_line, lock_asked, lock_handed}
use Rattle.rules.specs.Steps.{learned, lock_told, waiter_told}
use Rattle.rules.proofs.inorder.Facts.{Within}
use Rattle.layout.specs.Areas.{lock_row, clock_row, clocks_in, marks_in, state_in}
use Rattle.layout.specs.Layout.{row_of}
use Rattle.layout.specs.inner.Marks.{processor_count, holder_mark}
use Rattle.layout.specs.inner.Needed.{RowThere, TwoRows}
use Rattle.layout.proofs.ClockLaws.{clock_read, clock_written}
use Rattle.layout.proofs.MarkLaws.{holder_read}
use Rattle.layout.proofs.RowLaws.{length_row}
use Rattle.layout.proofs.Learning.{learned_clock}
use Rattle.lock_line.specs.inner.Needed.{InLine}
use Rattle.lock_line.specs.inner.Effects.{MarksBecome}
use Rattle.step_lock.specs.inner.Needed.{LockClocks, LockThere}
use Rattle.step_lock.specs.inner.Effects.{lock_taken, lock_freed, ClocksBecome, LockTaken, LockFreed}

-- ---- clocks

module _ (c : List ℕ) (p l : ℕ) (h : LockClocks c p l) where
  -- the lock has a place
  pub lock_place : l < lock_limit
  lock_place = h.lock

  -- the processor's clock has its row
  pub own_row_there : RowThere clock_width c p
  own_row_there = record { within = omega (arith, h.to, h.clocks) }

  module _ (row : ℕ) (at : (row ≡ lock_row mainframe l) × (row < clock_row_limit)) where
    -- the lock's clock too
    pub lock_rows : TwoRows c p row
    lock_rows = record { clocks = h.clocks; to_there = omega (arith, h.to); from_there = at.1 }

    pub lock_row_there : RowThere clock_width c row
    lock_row_there = record { within = omega (arith, at.1, h.clocks) }

    module _ (c' : List ℕ) where
      -- the processor's clock has joined the lock's
      pub lock_joined : c' ≡ sets c (clock_width * p) (joined (row_of clock_width c p) (row_of clock_width c row)) → 1 ≤ p
          → ClocksBecome c' (learned (clocks_in mainframe c) (Processor p) (Lock l))
      unfolding clock_row mainframe Within
      lock_joined e from =
          let joins : c' ≡ sets c (clock_width * p) (joined (row_of clock_width c p) (row_of clock_width c (lock_row mainframe l))) = rw at.0 at e in
          record {
            long = ap length joins ∙ length-sets c (clock_width * p) (joined (row_of clock_width c p) (row_of clock_width c (lock_row mainframe l))) ∙ h.clocks;
            is = ap (λ (x : List ℕ). clocks_in mainframe x) joins ∙ learned_clock c (Processor p) (Lock l) h.clocks (from, h.to) h.lock;
          }

      -- the lock's clock is the processor's
      pub lock_told_lem : (v : List ℕ) → c' ≡ sets c (clock_width * row) v → v ≡ row_of clock_width c p → 1 ≤ p → ClocksBecome c' (lock_told (clocks_in mainframe c) p l)
      unfolding lock_told clock_row mainframe Within
      lock_told_lem v e ev from =
          let laid : c' ≡ sets c (clock_width * lock_row mainframe l) v = rw at.0 at e in
          let long : length v ≡ clock_width = ap length ev ∙ length_row clock_width c p (omega (arith, h.to, h.clocks)) in
          record {
            long = ap length laid ∙ length-sets c (clock_width * lock_row mainframe l) v ∙ h.clocks;
            is =
                ap (λ (x : List ℕ). clocks_in mainframe x) laid ∙ clock_written c v (Lock l) h.clocks h.lock long
                ∙ ap (λ (x : List ℕ). with_clock (clocks_in mainframe c) (Lock l) x) (ev ∙ sym (clock_read c (Processor p) (from, h.to)));
          }

  -- nobody is told nothing
  pub nobody_told : p ≡ 0 → ClocksBecome c (waiter_told (clocks_in mainframe c) p l)
  unfolding waiter_told
  nobody_told z = rw (eq-eqb p 0 z) (record { long = h.clocks; is = refl })

  module _ (some : p ≡ 0 → ⊥) where
    pub some_clock : LockClocks c p l × (1 ≤ p)
    some_clock = (h, omega (arith, some))

    -- the new holder has learned the lock's clock
    pub waiter_told_lem : (c' : List ℕ) → ClocksBecome c' (learned (clocks_in mainframe c) (Processor p) (Lock l)) → ClocksBecome c' (waiter_told (clocks_in mainframe c) p l)
    unfolding waiter_told
    waiter_told_lem c' t = rw (ne_eqb p 0 some) t

-- ---- clocks and marks

-- a state with other clocks and marks
unfoldable changed : State → Clocks → Marks → State
changed s k n = with_clocks (with_marks s n) k

both_changed : (c w r m c' m' : List ℕ) (k : Clocks) (n : Marks) → ClocksBecome c' k → MarksBecome m m' n
    → state_in mainframe c' w r m' ≡ changed (state_in mainframe c w r m) k n
unfolding changed state_in
both_changed c w r m c' m' k n a b = b.is c' w r ∙ ap (λ (x : Clocks). changed (state_in mainframe c w r m) x n) a.is

module _ (c m : List ℕ) (p l : ℕ) (h : LockThere c m p l) where
  pub asker : InLine m l p
  asker = h.line

  pub clocks_of_lock : LockClocks c p l
  clocks_of_lock = record { clocks = h.clocks; to = h.line.to; lock = h.line.line.lock }

  pub joins_lock : LockClocks c p l × (1 ≤ p)
  joins_lock = (clocks_of_lock, h.line.from)

  free_says : (b : Bool) → b ≡ eqb (holder_mark m l) 0 → (w r : List ℕ) → eqb (holder (state_in mainframe c w r m) l) 0 ≡ b
  unfolding holder
  free_says b e w r = ap (λ (x : ℕ). eqb x 0) (holder_read c w r m l h.line.line.lock) ∙ sym e

  module _ (m' : List ℕ) (b : Bool) (free : b ≡ eqb (holder_mark m l) 0) (marks : MarksBecome m m' (lock_asked (processor_count m) (marks_in mainframe m) l p)) where
    -- the lock was free, and the processor's clock has joined the lock's
    pub lock_taken_lem : (c' : List ℕ) → b ≡ true → ClocksBecome c' (learned (clocks_in mainframe c) (Processor p) (Lock l)) → LockTaken c m c' m' p l
    unfolding lock_taken changed state_in
    lock_taken_lem c' t k =
        record { clocks = k.long; marks = marks.long; is = λ w r. rw (free_says b free w r, t) (both_changed c w r m c' m' _ _ k marks) }

    -- it is held: the processor waits
    pub lock_awaited : b ≡ false → LockTaken c m c m' p l
    unfolding lock_taken changed state_in
    lock_awaited t =
        record {
          clocks = h.clocks;
          marks = marks.long;
          is = λ w r. rw (free_says b free w r, t) (both_changed c w r m c m' (clocks_in mainframe c) _ (record { long = h.clocks; is = refl }) marks);
        }

  module _ (m' : List ℕ) (q : ℕ) (first : q ≡ first_in_line (processor_count m) (marks_in mainframe m) l)
      (marks : MarksBecome m m' (lock_handed (processor_count m) (marks_in mainframe m) l)) where
    -- the lock is told, handed on, and its new holder told
    pub lock_freed_lem : (c₁ c₂ : List ℕ) → ClocksBecome c₁ (lock_told (clocks_in mainframe c) p l) → ClocksBecome c₂ (waiter_told (clocks_in mainframe c₁) q l)
        → LockFreed c m c₂ m' p l
    unfolding lock_freed changed state_in
    lock_freed_lem c₁ c₂ told known =
        record {
          clocks = known.long;
          marks = marks.long;
          is =
              λ w r. rw (← first)
              (both_changed c w r m c₂ m' (waiter_told (lock_told (clocks_in mainframe c) p l) q l) _
              (record { long = known.long; is = known.is ∙ ap (λ (x : Clocks). waiter_told x q l) told.is }) marks);
        }

-- the new holder has a clock
pub told_clocks : (c c₁ m : List ℕ) (k : Clocks) (p q l : ℕ) → LockThere c m p l → ClocksBecome c₁ k → q ≤ processor_limit → LockClocks c₁ q l
told_clocks c c₁ m k p q l h told few = record { clocks = told.long; to = few; lock = h.line.line.lock }

pub ruleset lock_laws = (lock_place, own_row_there, lock_rows, lock_row_there, lock_joined, lock_told_lem, nobody_told, some_clock, waiter_told_lem, asker, clocks_of_lock, joins_lock, lock_taken_lem, lock_awaited, lock_freed_lem, told_clocks, rules)
