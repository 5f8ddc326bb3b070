-- Document 01, "**Happens-before-1** is made from the number of cards, the fields of the steps and whether each step was refused, and from
-- nothing else". Assumes nothing.
use Rattle.std.specs.Prelude.{ℕ, zero, suc, ◌+◌, ◌<◌, ◌≡◌, Bool, true, false, cond, ◌&&◌, ◌⊎◌, List, [], ◌∷◌, get_or, eqb}
use Rattle.rules.specs.Refusals.{Step, Action, Acquire, Release, Arrive, Enqueue, Dequeue, action_of, Answer}

-- a step of the list: its fields, and whether it was accepted. "A step is accepted exactly when its refusal is 0"
pub record Event : Type 0 where
  pub step : Step
  pub accepted : Bool

-- the steps of a list with their answers
unfoldable pub events : List Step → List Answer → List Event
events [] answered = []
events (t ∷ ts) [] = []
events (t ∷ ts) (a ∷ answered) = record { step = t; accepted = eqb a.refusal 0 } ∷ events ts answered

-- past the end of the list no step is accepted
unfoldable pub no_event : Event
no_event = record { step = record { kind = 0; processor = 0; object = 0; value = 0 }; accepted = false }

-- the step at place i
unfoldable pub event_at : List Event → ℕ → Event
event_at es i = get_or es i no_event

-- the step at place i is accepted, is by processor p and is the action a
pub record Took (es : List Event) (i p : ℕ) (a : Action) : Type 0 where
  pub accepted : (event_at es i).accepted ≡ true
  pub processor : (event_at es i).step.processor ≡ p
  pub action : action_of (event_at es i).step ≡ a

-- an accepted arrival
unfoldable pub is_arrival : Event → Bool
is_arrival e = cond e.accepted (eqb e.step.kind 5) false

-- "Accepted arrivals are counted off from the opening in groups of as many as there are cards; each full group is a completed round":
-- how many groups are full, and how many arrivals the open group has
pub record Groups : Type 0 where
  pub full : ℕ
  pub waiting : ℕ

-- one arrival more
unfoldable pub counted_off : ℕ → Groups → Groups
counted_off n g =
    cond (eqb (g.waiting + 1) n) (record { full = g.full + 1; waiting = 0 }) (record { full = g.full; waiting = g.waiting + 1 })

-- the groups of the first t steps, for n processors
unfoldable pub groups_before : ℕ → List Event → ℕ → Groups
groups_before n es zero = record { full = 0; waiting = 0 }
groups_before n es (suc t) = cond (is_arrival (event_at es t)) (counted_off n (groups_before n es t)) (groups_before n es t)

-- the rounds completed before place t
unfoldable pub rounds : ℕ → List Event → ℕ → ℕ
rounds n es t = (groups_before n es t).full

-- how many of the first t steps pass a test
unfoldable pub counted : (Event → Bool) → List Event → ℕ → ℕ
counted test es zero = 0
counted test es (suc t) = cond (test (event_at es t)) (counted test es t + 1) (counted test es t)

-- an accepted acquire of lock l
unfoldable pub is_acquire_of : ℕ → Event → Bool
is_acquire_of l e = e.accepted && eqb e.step.kind 3 && eqb e.step.object l

-- an accepted release of it
unfoldable pub is_release_of : ℕ → Event → Bool
is_release_of l e = e.accepted && eqb e.step.kind 4 && eqb e.step.object l

-- L1: the accepted acquire of lock l at place a waits until the release at place i, and is served by it: a lock serves its acquires in their order,
-- the first at once, and each release one more, so the release that has m others before it serves the acquire that has m + 1
pub record Serves (es : List Event) (l i p a q : ℕ) : Type 0 where
  pub release : Took es i p (Release l)
  pub acquire : Took es a q (Acquire l)
  pub waited : a < i
  pub next : counted (is_acquire_of l) es a ≡ counted (is_release_of l) es i + 1

-- L9: an accepted enqueue
unfoldable pub is_enqueue : Event → Bool
is_enqueue e = e.accepted && eqb e.step.kind 10

-- an accepted dequeue
unfoldable pub is_dequeue : Event → Bool
is_dequeue e = e.accepted && eqb e.step.kind 11

-- "the dequeue that returns its job": the queue is "first in first out" and empty at the opening, so the dequeue that has m others before it returns the
-- job of the enqueue that has m others before it
pub record Returns (es : List Event) (i p v j q : ℕ) : Type 0 where
  pub enqueue : Took es i p (Enqueue v)
  pub dequeue : Took es j q Dequeue
  pub waited : i < j
  pub same : counted is_enqueue es i ≡ counted is_dequeue es j

-- the step at place i is before the step at place j
pub data Before (n : ℕ) (es : List Event) : ℕ → ℕ → Type 0 where
  -- "a card's steps in their order"
  program : {i j : ℕ} (p : ℕ) (a b : Action) → Took es i p a → Took es j p b → i < j → Before n es i j
  -- "each release before every later acquire of that lock"
  lock : {i j : ℕ} (p q l : ℕ) → Took es i p (Release l) → Took es j q (Acquire l) → i < j → Before n es i j
  -- "every arrival of a completed round before every step any card takes after that round's last arrival"
  round : {i j : ℕ} (p q : ℕ) (b : Action) → Took es i p Arrive → Took es j q b → rounds n es i < rounds n es j → Before n es i j
  -- L1: "the release precedes the waiter's next step", and so each later one
  granted : {i j : ℕ} (p q l a : ℕ) (b : Action) → Serves es l i p a q → Took es j q b → i < j → Before n es i j
  -- L9: "An enqueue precedes in happens-before-1 the dequeue that returns its job, and of itself no other"
  job : {i j : ℕ} (p v q : ℕ) → Returns es i p v j q → Before n es i j
  -- "what follows by chaining"
  chain : {i j : ℕ} (k : ℕ) → Before n es i k → Before n es k j → Before n es i j

-- "Two steps are ordered when either is before the other"
unfoldable pub Ordered : ℕ → List Event → ℕ → ℕ → Type 0
Ordered n es i j = Before n es i j ⊎ Before n es j i
