-- What the marks of the barrier say, and what a wish for collection leaves of them, in the words of the rules: of the state that the areas hold, with
-- whatever the other areas have. Assumes nothing.
use Rattle.std.specs.Prelude.{ℕ, suc, ◌+◌, ◌≡◌, Bool, cond, List, length, eqb}
use Rattle.lists.specs.Tables.{total}
use Rattle.limits.specs.inner.Sizes.{mark_area}
use Rattle.rules.specs.State.{mainframe, State, has_arrived}
use Rattle.rules.specs.Steps.{want}
use Rattle.layout.specs.Areas.{state_in}
use Rattle.layout.specs.inner.Marks.{processor_count}

-- how many processors have arrived
unfoldable pub arrived_count : State → ℕ
arrived_count s = total s.counts.processors (λ k. cond (has_arrived s (suc k)) 1 0)

-- b says whether all processors but one have arrived
pub record OneMissing (m : List ℕ) (b : Bool) : Type 0 where
  pub is : (c w r : List ℕ) → b ≡ eqb (arrived_count (state_in mainframe c w r m) + 1) (processor_count m)

-- the wish was set
pub record Wanted (m m' : List ℕ) : Type 0 where
  pub marks : length m' ≡ mark_area
  pub is : (c w r : List ℕ) → state_in mainframe c w r m' ≡ want (state_in mainframe c w r m)
