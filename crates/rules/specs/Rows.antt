-- Document 01, "the first that applies is given, and only then": what it means of a step, row by row, that no row of the table of refusals applies
-- to it. Assumes nothing.
use Rattle.std.specs.Prelude.{ℕ, ◌+◌, ◌≡◌, true, false}
use Rattle.rules.specs.State.{Limits, dirty_at, State, own, holder, has_arrived}
use Rattle.rules.specs.InOrder.{present, dirty_pages}
use Rattle.rules.specs.Lines.{waits}
use Rattle.rules.specs.Steps.{page_of_word}
use Rattle.rules.specs.Refusals.{Step, Write, Acquire, Release, Arrive, Enqueue, Dequeue, action_of, known_kind, fits}

-- the rows for every step, down to 6
pub record Addressed (lim : Limits) (s : State) (t : Step) : Type 0 where
  -- 3: the kind is known
  pub known_kind_lem : known_kind t.kind ≡ true
  -- 4: the card is present
  pub processor_present : present s t.processor ≡ true
  -- 5: the word, lock or tally is present, and an unused field is 0
  pub fields_fit : fits lim s t ≡ true
  -- 6: the card has not arrived
  pub not_arrived : has_arrived s t.processor ≡ false

-- and 17: the card does not wait
pub record Comes (lim : Limits) (s : State) (t : Step) : Type 0 where
  pub addressed : Addressed lim s t
  pub not_waiting : waits s.marks t.processor ≡ false

-- processor p holds a lock
pub record HoldsOne (s : State) (p : ℕ) : Type 0 where
  pub lock : ℕ
  pub holds : holder s lock ≡ p

-- all rows
pub record NoRowApplies (lim : Limits) (s : State) (t : Step) : Type 0 where
  pub comes : Comes lim s t
  -- 18: who arrives holds no lock
  pub holds_none : action_of t ≡ Arrive → HoldsOne s t.processor → ⊥
  -- 7: who acquires does not hold the lock
  pub not_its_own : (l : ℕ) → action_of t ≡ Acquire l → holder s l ≡ t.processor → ⊥
  -- 8: who releases does
  pub its_own : (l : ℕ) → action_of t ≡ Release l → holder s l ≡ t.processor
  -- 9: who writes to a clean page has an interval left
  pub has_interval : (w v : ℕ) → action_of t ≡ Write w v → dirty_at s.pages t.processor (page_of_word lim w) ≡ false → own s t.processor ≡ lim.intervals → ⊥
  -- 10: and there is room for a record
  pub has_room : (w v : ℕ) → action_of t ≡ Write w v → dirty_at s.pages t.processor (page_of_word lim w) ≡ false
      → s.records.standing + dirty_pages s ≡ lim.records → ⊥
  -- 19: who enqueues finds a free place
  pub has_place : (v : ℕ) → action_of t ≡ Enqueue v → s.marks.jobs ≡ lim.jobs → ⊥
  -- 20: who dequeues finds a job
  pub has_job : action_of t ≡ Dequeue → s.marks.jobs ≡ 0 → ⊥
