-- What adding and removing a job and their parts leave in the lent areas, in the words of the rules: the state that the areas hold, and that they keep
-- their sizes. Where a part does not touch an area, it holds whatever that area has. Assumes nothing.
use Rattle.std.specs.Prelude.{ℕ, ◌+◌, ◌-◌, ◌%◌, ◌≡◌, List, length, get_or}
use Rattle.lists.specs.Tables.{put}
use Rattle.limits.specs.Limits.{word_values}
use Rattle.limits.specs.inner.Sizes.{clock_area, mark_area, word_area}
use Rattle.rules.specs.State.{mainframe, Processor, Job, clock_of, with_clock, State, with_clocks, with_marks, with_queue, with_shared}
use Rattle.rules.specs.Steps.{learned, place_behind, free_place, dequeue}
use Rattle.layout.specs.Areas.{state_in}
use Rattle.layout.specs.inner.Needed.{Holds}

-- "adds the value with the card's clock", at place k
unfoldable pub job_laid_at : State → ℕ → ℕ → ℕ → State
job_laid_at s p v k =
    let s₁ = with_shared s (record { posted = s.shared.posted; adds = s.shared.adds; values = put 0 s.shared.values k (v % word_values) }) in
    let s₂ = with_clocks s₁ (with_clock s.clocks (Job k) (clock_of s.clocks (Processor p))) in
    with_marks s₂ (with_queue s.marks s.marks.first (s.marks.jobs + 1))

-- at the free place
unfoldable pub job_laid : State → ℕ → ℕ → State
job_laid s p v = job_laid_at s p v (free_place mainframe s)

-- "removes the oldest job, learns its clock", which is at place k
unfoldable pub job_taken_at : State → ℕ → ℕ → State
job_taken_at s p k =
    with_marks (with_clocks s (learned s.clocks (Processor p) (Job k))) (with_queue s.marks (place_behind mainframe k) (s.marks.jobs - 1))

-- at the oldest one's place
unfoldable pub job_taken : State → ℕ → State
job_taken s p = job_taken_at s p s.marks.first

-- a job of p with the value v was added
pub record JobLaid (c w m c' w' m' : List ℕ) (p v : ℕ) : Type 0 where
  pub clocks : length c' ≡ clock_area
  pub words : length w' ≡ word_area
  pub marks : length m' ≡ mark_area
  pub is : (r : List ℕ) → state_in mainframe c' w' r m' ≡ job_laid (state_in mainframe c w r m) p v

-- p removed the oldest job, whose value is v
pub record JobTaken (c w m c' m' : List ℕ) (p v : ℕ) : Type 0 where
  pub clocks : length c' ≡ clock_area
  pub marks : length m' ≡ mark_area
  pub is : (r : List ℕ) → state_in mainframe c' w r m' ≡ job_taken (state_in mainframe c w r m) p
  pub value : (r : List ℕ) → v ≡ get_or (state_in mainframe c w r m).shared.values (state_in mainframe c w r m).marks.first 0

-- a dequeue by p in the state s answers the value v, and leaves the areas
pub record Dequeued (s : State) (p v : ℕ) (c w r m : List ℕ) : Type 0 where
  pub answer : v ≡ (dequeue mainframe s p).value
  pub areas : Holds c w r m (dequeue mainframe s p).after
