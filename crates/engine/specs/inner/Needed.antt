-- What the engine's functions say of memory that is in order, or of whether it is. Assumes nothing.
use Rattle.std.specs.Prelude.{ℕ, ◌≡◌, List, length, drop}
use Rattle.limits.specs.inner.Sizes.{clock_area, first_bound, index_area}
use Rattle.rules.specs.Refusals.{Step, refusal_in_order, answer_in_order, next_in_order}
use Rattle.rules.specs.State.{mainframe, State}
use Rattle.layout.specs.Areas.{state_in}
use Rattle.layout.specs.inner.Needed.{Holds}
use Rattle.refusals.specs.inner.Bounds.{bounds_of}
use Rattle.refusals.specs.inner.Needed.{MarksCountable}
use Rattle.fetch_index.specs.inner.Index.{IndexKept}
use Rattle.step_act.specs.Telling.{Outcome}
use Rattle.step_act.specs.Telling.{Tells}

-- n is the first row from 3 to 10 that refuses the step t, or 0
pub record RefusalIs (s : State) (t : Step) (n : ℕ) : Type 0 where
  pub is : n ≡ refusal_in_order mainframe s t

-- the clocks and the marks of a state in order, and an index with their bounds
pub record Refusable (c m x : List ℕ) : Type 0 where
  pub clocks : length c ≡ clock_area
  pub counted : MarksCountable m
  pub index : length x ≡ index_area
  pub bounds : drop first_bound x ≡ bounds_of m

-- n is the first row from 3 to 10 that refuses the step t, or 0, in any state with these clocks and marks
pub record RefusalBy (c m : List ℕ) (t : Step) (n : ℕ) : Type 0 where
  pub is : (w r : List ℕ) → RefusalIs (state_in mainframe c w r m) t n

-- the outcome is that of the step t on the state s in order, and the areas hold the state that t leaves
pub record SteppedAs (s : State) (t : Step) (o : Outcome) (c w r m : List ℕ) : Type 0 where
  pub outcome : Tells o (answer_in_order mainframe s t)
  pub areas : Holds c w r m (next_in_order mainframe s t)

-- the same, and the index is kept
pub record SteppedKept (s : State) (t : Step) (o : Outcome) (c w r m x : List ℕ) : Type 0 where
  pub stepped : SteppedAs s t o c w r m
  pub kept : IndexKept c r m x
