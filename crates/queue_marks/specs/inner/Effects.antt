-- What the marks of the queue say, and what a job added or removed leaves of them, in the words of the rules: of the state that the areas hold, with
-- whatever the other areas have. Assumes nothing.
use Rattle.std.specs.Prelude.{ℕ, ◌+◌, ◌-◌, ◌<◌, ◌≡◌, List, length}
use Rattle.limits.specs.Limits.{job_limit}
use Rattle.limits.specs.inner.Sizes.{mark_area}
use Rattle.rules.specs.State.{mainframe, State, with_queue, with_marks}
use Rattle.rules.specs.Steps.{place_behind, free_place}
use Rattle.layout.specs.Areas.{state_in}

-- k is the place for the next job
pub record FreePlace (m : List ℕ) (k : ℕ) : Type 0 where
  pub within : k < job_limit
  pub is : (c w r : List ℕ) → k ≡ free_place mainframe (state_in mainframe c w r m)

-- one job more waits
unfoldable pub job_added : State → State
job_added s = with_marks s (with_queue s.marks s.marks.first (s.marks.jobs + 1))

-- the oldest job is removed
unfoldable pub job_removed : State → State
job_removed s = with_marks s (with_queue s.marks (place_behind mainframe s.marks.first) (s.marks.jobs - 1))

-- from the marks m to m' one was added
pub record JobAdded (m m' : List ℕ) : Type 0 where
  pub marks : length m' ≡ mark_area
  pub is : (c w r : List ℕ) → state_in mainframe c w r m' ≡ job_added (state_in mainframe c w r m)

-- from the marks m to m' one was removed
pub record JobRemoved (m m' : List ℕ) : Type 0 where
  pub marks : length m' ≡ mark_area
  pub is : (c w r : List ℕ) → state_in mainframe c w r m' ≡ job_removed (state_in mainframe c w r m)
