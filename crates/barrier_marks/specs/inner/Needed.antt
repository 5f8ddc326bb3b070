-- What counting the arrivals asks of the marks. Assumes nothing.
use Rattle.std.specs.Prelude.{ℕ, ◌≤◌, ◌<◌, ◌≡◌, List, length}
use Rattle.limits.specs.Limits.{processor_limit}
use Rattle.limits.specs.inner.Sizes.{mark_area}
use Rattle.layout.specs.inner.Marks.{processor_count, arrived_mark}

-- no absent processor has arrived
pub record NoneAbsent (m : List ℕ) : Type 0 where
  pub away : (p : ℕ) → processor_count m < p → p ≤ processor_limit → arrived_mark m p ≡ 0

-- the area of the marks, with a place for each of its processors, and no absent one arrived
pub record AbsentAway (m : List ℕ) : Type 0 where
  pub marks : length m ≡ mark_area
  pub few : processor_count m ≤ processor_limit
  pub absent : NoneAbsent m
