-- Document 02, L9: what is claimed of the queue: its jobs as a list, the oldest first, what steps do to that list, and what a list of steps and its
-- answers show of it. Assumes nothing.
use Rattle.std.specs.Prelude.{ℕ, suc, ◌-◌, ◌≤◌, ◌<◌, ◌≡◌, true, ◌↔◌, ◌⊎◌, List, [], ◌∷◌, ◌++◌, map, length, take}
use Rattle.lists.specs.Tables.{tabulate}
use Rattle.clock.specs.Clocks.{joined, entry_of}
use Rattle.rules.specs.State.{Limits, Counts, Job, clock_of, cleared, job_value, State, clock, own}
use Rattle.rules.specs.Opening.{opened}
use Rattle.rules.specs.Close.{closed}
use Rattle.rules.specs.Steps.{at_barrier, all_arrived, wants_collection, place_at, free_place}
use Rattle.rules.specs.Refusals.{Step, Action, Arrive, Enqueue, Dequeue, action_of, Answer, refusal, answer, next}
use Rattle.rules.specs.Rows.{Comes}
use Rattle.rules.specs.Runs.{state_after}
use Rattle.rules.specs.Order.{Event, events, event_at, Took, counted, is_enqueue, is_dequeue, Returns, Before}
use Rattle.rules.specs.Demand.{value_field, value_at}
use Rattle.rules.specs.Waiting.{events_in, refusal_at}

-- ---- the queue of a state

-- a job: "the value with the card's clock"
pub record Queued : Type 0 where
  pub value : ℕ
  pub clock : List ℕ

-- the job that has k others before it
unfoldable pub job_at : Limits → State → ℕ → Queued
job_at lim s k = record { value = job_value s.shared (place_at lim s k); clock = clock_of s.clocks (Job (place_at lim s k)) }

-- the jobs that wait, the oldest first
unfoldable pub queue_in : Limits → State → List Queued
queue_in lim s = tabulate s.marks.jobs (job_at lim s)

-- "A state in order has at most 32 jobs, and their clocks keep the bound of every clock"
pub record QueueAsClaimed (lim : Limits) (s : State) : Type 0 where
  pub at_most : length (queue_in lim s) ≤ lim.jobs
  pub bounded : (k q : ℕ) → k < length (queue_in lim s) → entry_of (job_at lim s k).clock q ≤ own s q

-- ---- what steps do to it

-- pages and records are as closing leaves them
pub record ClosesOnly (lim : Limits) (s : State) (t : Step) : Type 0 where
  pub pages : (next lim s t).pages ≡ (closed s t.processor).pages
  pub records : (next lim s t).records ≡ (closed s t.processor).records

-- "Kind 10 closes the card's interval and adds the value with the card's clock"
pub record AddsJob (lim : Limits) (s : State) (t : Step) (v : ℕ) : Type 0 where
  pub closes : ClosesOnly lim s t
  -- behind the others
  pub adds : queue_in lim (next lim s t) ≡ queue_in lim s ++ record { value = value_field v; clock = clock (closed s t.processor) t.processor } ∷ []
  -- and nobody learns anything
  pub learns_none : (q : ℕ) → clock (next lim s t) q ≡ clock (closed s t.processor) q

-- "kind 11 closes, removes the oldest job, learns its clock and answers its value"
pub record RemovesJob (lim : Limits) (s : State) (t : Step) (job : Queued) (rest : List Queued) : Type 0 where
  pub closes : ClosesOnly lim s t
  pub removes : queue_in lim (next lim s t) ≡ rest
  pub learns : clock (next lim s t) t.processor ≡ joined (clock (closed s t.processor) t.processor) job.clock
  pub answers : answer lim s t ≡ record { refusal = 0; value = job.value; count = 0; words = 0 }

-- an arrival that completes a collecting round
pub record Collects (s : State) (p : ℕ) : Type 0 where
  pub last : all_arrived (at_barrier s p) ≡ true
  pub wanted : wants_collection (at_barrier s p) ≡ true

-- a job whose clock is zeros
unfoldable pub with_zeros : Queued → Queued
with_zeros job = record { value = job.value; clock = cleared job.clock }

-- what a step of another kind leaves: "A collecting round sets the clocks of queued jobs to zeros", and nothing else changes a job
pub record LeavesJobs (lim : Limits) (s : State) (t : Step) : Type 0 where
  pub kept : (refusal lim s t ≡ 0 → action_of t ≡ Arrive → Collects s t.processor → ⊥) → queue_in lim (next lim s t) ≡ queue_in lim s
  pub zeros : refusal lim s t ≡ 0 → action_of t ≡ Arrive → Collects s t.processor → queue_in lim (next lim s t) ≡ map with_zeros (queue_in lim s)

-- ---- from the list and its answers alone

-- the jobs that wait before place j: those added less those removed
unfoldable pub jobs_waiting : List Event → ℕ → ℕ
jobs_waiting es j = counted is_enqueue es j - counted is_dequeue es j

-- the dequeue at place j returns the job of an enqueue, and x is that one's value field
pub record ReturnsOne (es : List Event) (j q x : ℕ) : Type 0 where
  pub place : ℕ
  pub processor : ℕ
  pub value : ℕ
  pub returns : Returns es place processor value j q
  pub is : x ≡ value_field value

-- "first in first out": every accepted dequeue returns the job of an enqueue, the m-th dequeue that of the m-th enqueue, and answers its value
pub record FirstInFirstOut (ts : List Step) (answered : List Answer) : Type 0 where
  pub returned : (j q : ℕ) → Took (events ts answered) j q Dequeue → ReturnsOne (events ts answered) j q (value_at answered j)

-- "One queue holds up to 32 jobs", "space is used again after each removal", "19, enqueue with 32 jobs waiting; 20, dequeue with none": each is given exactly
-- where no row above applies in the state before the step, and so many jobs wait
pub record QueueRefuses (lim : Limits) (c : Counts) (ts : List Step) (answered : List Answer) : Type 0 where
  pub holds_up_to : (j : ℕ) → jobs_waiting (events ts answered) j ≤ lim.jobs
  pub full : (j v : ℕ) → action_of (event_at (events ts answered) j).step ≡ Enqueue v
      → refusal_at answered j ≡ 19
      ↔ (Comes lim (state_after lim (opened lim c) (take j ts)) (event_at (events ts answered) j).step × (jobs_waiting (events ts answered) j ≡ lim.jobs))
  pub empty : (j : ℕ) → action_of (event_at (events ts answered) j).step ≡ Dequeue
      → refusal_at answered j ≡ 20
      ↔ (Comes lim (state_after lim (opened lim c) (take j ts)) (event_at (events ts answered) j).step × (jobs_waiting (events ts answered) j ≡ 0))

-- ---- "An enqueue precedes in happens-before-1 the dequeue that returns its job, and of itself no other"

-- a later step of processor p
pub record LaterStep (es : List Event) (i p k : ℕ) : Type 0 where
  pub action : Action
  pub took : Took es k p action
  pub later : i < k

-- the dequeue that returns the job of p's enqueue at place i
pub record ItsDequeue (es : List Event) (i p v k : ℕ) : Type 0 where
  pub processor : ℕ
  pub returns : Returns es i p v k processor

-- p's enqueue at place i precedes the step at place j by one of these: by that step itself, or by one that is before it
pub record PrecedesBy (n : ℕ) (es : List Event) (i p v j : ℕ) : Type 0 where
  pub place : ℕ
  pub first : LaterStep es i p place ⊎ ItsDequeue es i p v place
  pub rest : (place ≡ j) ⊎ Before n es place j

-- ---- the job that the list names is the one that the state has

-- the dequeue at place j takes its job from the place where the enqueue at place i put one, and no enqueue between the two puts another there
pub record TakesItsJob (lim : Limits) (s : State) (ts : List Step) (i j : ℕ) : Type 0 where
  pub later : i < j
  pub place : free_place lim (state_after lim s (take i ts)) ≡ (state_after lim s (take j ts)).marks.first
  pub still_there : (k p v : ℕ) → i < k → k < j → Took (events_in lim s ts) k p (Enqueue v)
      → free_place lim (state_after lim s (take k ts)) ≡ (state_after lim s (take j ts)).marks.first → ⊥

-- the step at place k of a run completes a collecting round
pub record CollectsAt (lim : Limits) (s : State) (ts : List Step) (k : ℕ) : Type 0 where
  pub processor : ℕ
  pub arrival : Took (events_in lim s ts) k processor Arrive
  pub collects : Collects (state_after lim s (take k ts)) processor

-- q's dequeue at place j learns the clock that p had after its enqueue at place i; "A collecting round sets the clocks of queued jobs to zeros"
pub record LearnsItsClock (lim : Limits) (s : State) (ts : List Step) (i p j q : ℕ) : Type 0 where
  pub kept : ((k : ℕ) → i < k → k < j → CollectsAt lim s ts k → ⊥)
      → clock (state_after lim s (take (suc j) ts)) q
      ≡ joined (clock (closed (state_after lim s (take j ts)) q) q) (clock (state_after lim s (take (suc i) ts)) p)
  pub zeros : (k : ℕ) → i < k → k < j → CollectsAt lim s ts k
      → clock (state_after lim s (take (suc j) ts)) q
      ≡ joined (clock (closed (state_after lim s (take j ts)) q) q) (cleared (clock (state_after lim s (take (suc i) ts)) p))
