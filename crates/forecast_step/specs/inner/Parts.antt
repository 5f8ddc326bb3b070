-- What the parts of a step ask of one another and promise. Assumes nothing.
use Rattle.std.specs.Prelude.{ℕ, ◌≤◌, ◌<◌, ◌≡◌, false, cond, List, length}
use Rattle.limits.specs.Limits.{processor_limit}
use Rattle.limits.specs.inner.Sizes.{mark_area}
use Rattle.rules.specs.State.{mainframe, has_arrived}
use Rattle.rules.specs.Steps.{wants_collection}
use Rattle.rules.specs.Refusals.{step_of}
use Rattle.rules.specs.Forecast.{Forecast, bare, forecast_refusal, written_for, round_for, collected_for}
use Rattle.layout.specs.inner.Marks.{processor_count, lock_count}
use Rattle.refusals.specs.inner.Parts.{seen}
use Rattle.queue_marks.specs.inner.Needed.{RoomThere, JobThere}
use Rattle.forecast_step.specs.Memory.{forecast_in}
use Rattle.forecast_step.specs.inner.Needed.{Foreseen}

-- ---- what is asked

-- both areas have their sizes
pub record BothLent (own m : List ℕ) : Type 0 where
  pub entries : length own ≡ processor_limit
  pub marks : length m ≡ mark_area

-- the forecast is that of some state in order, of which p is a processor
pub record ActsForeseen (own m : List ℕ) (p : ℕ) : Type 0 where
  pub foreseen : Foreseen own m
  pub from : 1 ≤ p
  pub to : p ≤ processor_count m

-- the same, and l is a present lock
pub record LockForeseen (own m : List ℕ) (p l : ℕ) : Type 0 where
  pub acts : ActsForeseen own m p
  pub lock : l < lock_count m

-- p acts, and the queue has room for one job more
pub record RoomForeseen (own m : List ℕ) (p : ℕ) : Type 0 where
  pub acts : ActsForeseen own m p
  pub queue : RoomThere m

-- p acts, and a job waits
pub record JobForeseen (own m : List ℕ) (p : ℕ) : Type 0 where
  pub acts : ActsForeseen own m p
  pub queue : JobThere m

-- p acts, and has not arrived
pub record ArrivalForeseen (own m : List ℕ) (p : ℕ) : Type 0 where
  pub acts : ActsForeseen own m p
  pub not_arrived : has_arrived (seen m) p ≡ false

-- no row refuses a step with these fields, whatever its value was
pub record AcceptedForeseen (own m : List ℕ) (kind p object : ℕ) : Type 0 where
  pub foreseen : Foreseen own m
  pub value : ℕ
  pub accepted : forecast_refusal mainframe (forecast_in own m) (step_of kind p object value) ≡ 0

-- ---- what is promised

-- both areas have their sizes and hold the forecast f
pub record Shows (own m : List ℕ) (f : Forecast) : Type 0 where
  pub entries : length own ≡ processor_limit
  pub marks : length m ≡ mark_area
  pub is : forecast_in own m ≡ f

-- from the marks m to m' processor p has written word w, whatever the own entries are
pub record PageWritten (m m' : List ℕ) (p w : ℕ) : Type 0 where
  pub marks : length m' ≡ mark_area
  pub is : (own : List ℕ) → forecast_in own m' ≡ written_for mainframe (forecast_in own m) p w

-- "When the last card arrives": the round is completed, and garbage is collected if that is wanted
unfoldable pub round_completed : Forecast → Forecast
round_completed f = cond (wants_collection (bare f)) (collected_for (round_for f)) (round_for f)
