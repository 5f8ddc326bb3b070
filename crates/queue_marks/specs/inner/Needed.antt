-- What the functions on the marks of the queue ask of them. Assumes nothing.
use Rattle.std.specs.Prelude.{ℕ, ◌≤◌, ◌<◌, ◌≡◌, List, length}
use Rattle.limits.specs.Limits.{job_limit}
use Rattle.limits.specs.inner.Sizes.{mark_area}
use Rattle.layout.specs.inner.Marks.{first_mark, jobs_mark}

-- the area of the marks, a place for the oldest job, and room for one more
pub record RoomThere (m : List ℕ) : Type 0 where
  pub marks : length m ≡ mark_area
  pub first : first_mark m < job_limit
  pub room : jobs_mark m < job_limit

-- the area of the marks, a place for the oldest job, and a job
pub record JobThere (m : List ℕ) : Type 0 where
  pub marks : length m ≡ mark_area
  pub first : first_mark m < job_limit
  pub some : 1 ≤ jobs_mark m
  pub few : jobs_mark m ≤ job_limit
