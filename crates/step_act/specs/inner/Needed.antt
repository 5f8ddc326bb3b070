-- What the functions that act ask of one another and promise. Assumes nothing.
use Rattle.std.specs.Prelude.{ℕ, ◌≡◌, List}
use Rattle.rules.specs.State.{mainframe}
use Rattle.rules.specs.Refusals.{step_of, refusal_in_order, accepted_as}
use Rattle.rules.specs.Steps.{Effect}
use Rattle.layout.specs.Areas.{state_in}
use Rattle.layout.specs.inner.Needed.{Ready, Holds}
use Rattle.fetch_index.specs.inner.Index.{IndexKept}
use Rattle.step_act.specs.Telling.{Outcome, Tells}

-- the areas hold a state in order, and no row from 3 to 10 refuses the step
pub record Acting (c w r m : List ℕ) (kind p object value : ℕ) : Type 0 where
  pub ready : Ready c w r m
  pub accepted : refusal_in_order mainframe (state_in mainframe c w r m) (step_of kind p object value) ≡ 0

-- the same, and the index is kept
pub record ActingKept (c w r m : List ℕ) (kind p object value : ℕ) (x : List ℕ) : Type 0 where
  pub acting : Acting c w r m kind p object value
  pub kept : IndexKept c r m x

-- the outcome is that of an accepted step with the effect e, and the areas hold the state that e leaves
pub record DoneAs (e : Effect) (o : Outcome) (c w r m : List ℕ) : Type 0 where
  pub outcome : Tells o (accepted_as e)
  pub areas : Holds c w r m e.after

-- the same, and the index is kept
pub record DoneKept (e : Effect) (o : Outcome) (c w r m x : List ℕ) : Type 0 where
  pub done : DoneAs e o c w r m
  pub kept : IndexKept c r m x
