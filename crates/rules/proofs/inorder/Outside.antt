-- What stands outside the tables of a state of the fixed size, and at nobody's places: nothing. Rests on Rows. Assumes nothing.
use Prim.Native.Nat.{ℕ, zero, suc, ◌≤◌, ◌<◌}
use native.Mathlib.Omega.{arith}
use native.Mathlib.Decide.{dec_le}
use mathlib.Core.Path.{◌≡◌, ap, ◌∙◌}
use mathlib.Core.Bool.{false, not}
use mathlib.Core.List.{List, []}
use lib.ListN.{length, get_or-eq_default}
use lib.Dec.{eqb}
use Rattle.lists.specs.Tables.{cell}
use Rattle.clock.specs.Clocks.{entry_of}
use Rattle.rules.specs.State.{adds_of, Limits, Holder, Processor, Lock, Barrier, Applied, Interval, Job, clock_of, copy_of, twin_of, dirty_at, State, holder, has_arrived}
use Rattle.rules.specs.Lines.{waits, turn_of}
use Rattle.rules.proofs.inorder.Facts.{Within, Sized}
use Rattle.rules.proofs.inorder.Everywhere.{has_place, entry_past, entry_none}
use Rattle.rules.proofs.inorder.Rows.{nothing, Rows, row_outside, cell_outside}

module _ (lim : Limits) (s : State) (z : Sized lim s) where
  -- the rows of each table
  pub processors_rows : Rows lim lim.processors s.clocks.processors
  unfolding Within clock_of
  processors_rows = record { processors = z.processors; nobody = z.nobody_clock; row = λ p h k. z.clocks (Processor p) (h, k) }

  pub applied_rows : Rows lim lim.pages s.clocks.applied
  applied_rows = record { processors = z.applied; nobody = z.nobody_applied; row = z.applied_row_lem }

  pub interval_rows : Rows lim (suc lim.intervals) s.clocks.intervals
  interval_rows = record { processors = z.intervals; nobody = z.nobody_interval; row = z.interval_row_lem }

  pub copies_rows : Rows lim lim.pages s.pages.copies
  copies_rows = record { processors = z.copies; nobody = z.nobody_copy; row = z.copies_row }

  pub twins_rows : Rows lim lim.pages s.pages.twins
  twins_rows = record { processors = z.twins; nobody = z.nobody_twin; row = z.twins_row }

  pub dirty_rows : Rows lim lim.pages s.pages.dirty
  dirty_rows = record { processors = z.dirty; nobody = z.nobody_dirty; row = z.dirty_row }

  pub adds_rows : Rows lim lim.tallies s.shared.adds
  adds_rows = record { processors = z.adds; nobody = z.nobody_adds; row = z.adds_row }

  -- a holder for which there is no place has an empty clock
  pub clock_outside : (h : Holder) → (Within lim h → ⊥) → clock_of s.clocks h ≡ []
  unfolding Within clock_of
  clock_outside (Processor p) w = row_outside lim lim.processors s.clocks.processors processors_rows p w
  clock_outside (Lock l) w = get_or-eq_default s.clocks.locks [] (past (dec_le (suc l) lim.locks))
    where
      past : Dec (l < lim.locks) → length s.clocks.locks ≤ l
      past (yes k) = absurd (w k)
      past (no k) = omega (arith, z.locks)
  clock_outside Barrier w = absurd (w tt)
  clock_outside (Applied p g) w = cell_outside [] lim lim.pages s.clocks.applied applied_rows p g w
  clock_outside (Interval p zero) w = go (dec_le 1 p) (dec_le p lim.processors)
    where
      outside : ((1 ≤ p) × (p ≤ lim.processors) → ⊥) → cell [] s.clocks.intervals p 0 ≡ []
      outside h = cell_outside [] lim (suc lim.intervals) s.clocks.intervals interval_rows p 0 (λ w. h (w.0, w.1))

      go : Dec (1 ≤ p) → Dec (p ≤ lim.processors) → cell [] s.clocks.intervals p 0 ≡ []
      go (yes a) (yes b) = nothing (cell [] s.clocks.intervals p 0) (z.no_interval p a b)
      go (yes a) (no b) = outside (λ w. b w.1)
      go (no a) b = outside (λ w. a w.0)
  clock_outside (Interval p (suc i)) w =
      cell_outside [] lim (suc lim.intervals) s.clocks.intervals interval_rows p (suc i) (λ k. w (k.0, k.1, omega arith, omega (arith, k.2)))
  clock_outside (Job k) w = get_or-eq_default s.clocks.jobs [] (past (dec_le (suc k) lim.jobs))
    where
      past : Dec (k < lim.jobs) → length s.clocks.jobs ≤ k
      past (yes h) = absurd (w h)
      past (no h) = omega (arith, z.jobs)

  -- an entry outside is 0
  pub entry_outside : (h : Holder) (q : ℕ) → (Within lim h → ⊥) → entry_of (clock_of s.clocks h) q ≡ 0
  entry_outside h q w = ap (λ (c : List ℕ). entry_of c q) (clock_outside h w) ∙ entry_none q

  -- the entry for a processor outside is 0 in every clock
  pub entry_absent_place : (h : Holder) (q : ℕ) → ((1 ≤ q) × (q ≤ lim.processors) → ⊥) → entry_of (clock_of s.clocks h) q ≡ 0
  entry_absent_place h q n = go (has_place lim h)
    where
      go : Dec (Within lim h) → entry_of (clock_of s.clocks h) q ≡ 0
      go (yes w) = entry_past (clock_of s.clocks h) q (λ a b. n (a, omega (arith, b, z.clocks h w)))
      go (no w) = entry_outside h q w

  -- a page outside has no words
  pub copy_outside : (p g : ℕ) → ((1 ≤ p) × (p ≤ lim.processors) × (g < lim.pages) → ⊥) → copy_of s.pages p g ≡ []
  unfolding copy_of
  copy_outside p g h = cell_outside [] lim lim.pages s.pages.copies copies_rows p g h

  -- nor has its twin
  pub twin_outside : (p g : ℕ) → ((1 ≤ p) × (p ≤ lim.processors) × (g < lim.pages) → ⊥) → twin_of s.pages p g ≡ []
  unfolding twin_of
  twin_outside p g h = cell_outside [] lim lim.pages s.pages.twins twins_rows p g h

  -- it is clean
  pub clean_outside : (p g : ℕ) → ((1 ≤ p) × (p ≤ lim.processors) × (g < lim.pages) → ⊥) → dirty_at s.pages p g ≡ false
  unfolding dirty_at
  clean_outside p g h = ap (λ (n : ℕ). not (eqb n 0)) (cell_outside 0 lim lim.pages s.pages.dirty dirty_rows p g h)

  -- a processor outside has not arrived
  pub not_arrived_outside : (p : ℕ) → lim.processors < p → has_arrived s p ≡ false
  unfolding has_arrived
  not_arrived_outside p h = ap (λ (n : ℕ). not (eqb n 0)) (get_or-eq_default s.marks.arrived 0 (omega (arith, z.arrived)))

  -- a lock outside is not held
  pub not_held_outside : (l : ℕ) → lim.locks ≤ l → holder s l ≡ 0
  unfolding holder
  not_held_outside l h = get_or-eq_default s.marks.holders 0 (omega (arith, z.holders))

  -- a processor outside waits for no lock
  pub awake_outside : (p : ℕ) → lim.processors < p → waits s.marks p ≡ false
  unfolding waits
  awake_outside p h = ap (λ (n : ℕ). not (eqb n 0)) (get_or-eq_default s.marks.awaited 0 (omega (arith, z.awaited)))

  -- and has no turn
  pub no_turn_outside : (p : ℕ) → lim.processors < p → turn_of s.marks p ≡ 0
  unfolding turn_of
  no_turn_outside p h = get_or-eq_default s.marks.turns 0 (omega (arith, z.turns))

  -- a processor outside has added nothing
  pub no_adds_outside : (p t : ℕ) → lim.processors < p → adds_of s.shared p t ≡ 0
  unfolding adds_of
  no_adds_outside p t h = cell_outside 0 lim lim.tallies s.shared.adds adds_rows p t (λ w. omega (arith, h, w.1))
