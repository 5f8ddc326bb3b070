-- Document 02, L7: what is claimed of locks where a round completes. Assumes nothing.
use Rattle.std.specs.Prelude.{ℕ, ◌≡◌, []}
use Rattle.rules.specs.State.{Limits, State, holder}
use Rattle.rules.specs.Refusals.{Step, next}
use Rattle.rules.specs.Waiting.{line_in}

-- no lock is held, and no line stands
pub record LocksFree (s : State) : Type 0 where
  pub unheld : (l : ℕ) → holder s l ≡ 0
  pub no_line : (l : ℕ) → line_in s l ≡ []

-- an arrival that completes a round finds every lock free, and leaves it so
pub record FindsLocksFree (lim : Limits) (s : State) (t : Step) : Type 0 where
  pub before : LocksFree s
  pub after : LocksFree (next lim s t)
