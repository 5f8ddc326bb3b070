-- What adding and removing a job ask of the memory that they are given, and what their parts ask of one another. Assumes nothing.
use Rattle.std.specs.Prelude.{ℕ, ◌≤◌, ◌<◌, ◌≡◌, List, length}
use Rattle.limits.specs.Limits.{job_limit, processor_limit}
use Rattle.limits.specs.inner.Sizes.{clock_area, word_area}
use Rattle.rules.specs.State.{mainframe}
use Rattle.layout.specs.Areas.{state_in}
use Rattle.layout.specs.inner.Needed.{Acts}
use Rattle.queue_marks.specs.inner.Needed.{RoomThere, JobThere}

-- p acts, and the queue has room for a job
pub record ActsWithRoom (c w r m : List ℕ) (p : ℕ) : Type 0 where
  pub acts : Acts c w r m p
  pub room : (state_in mainframe c w r m).marks.jobs < job_limit

-- p acts, and a job waits
pub record ActsOnJob (c w r m : List ℕ) (p : ℕ) : Type 0 where
  pub acts : Acts c w r m p
  pub some : 1 ≤ (state_in mainframe c w r m).marks.jobs

-- the clocks with one of p, the words, and marks with room for a job
pub record RoomFor (c w m : List ℕ) (p : ℕ) : Type 0 where
  pub clocks : length c ≡ clock_area
  pub words : length w ≡ word_area
  pub from : 1 ≤ p
  pub to : p ≤ processor_limit
  pub queue : RoomThere m

-- the clocks with one of p, the words, and marks with a job
pub record JobFor (c w m : List ℕ) (p : ℕ) : Type 0 where
  pub clocks : length c ≡ clock_area
  pub words : length w ≡ word_area
  pub from : 1 ≤ p
  pub to : p ≤ processor_limit
  pub queue : JobThere m

-- processor p and place k of the queue in an area of clocks of the right size
pub record JobClocks (c : List ℕ) (p k : ℕ) : Type 0 where
  pub clocks : length c ≡ clock_area
  pub to : p ≤ processor_limit
  pub place : k < job_limit
