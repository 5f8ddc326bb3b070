-- Document 02, L1: what is claimed of those who wait for a lock: their line, their turn in it, and what a list of answers shows of both.
-- Assumes nothing.
use Rattle.std.specs.Prelude.{ℕ, suc, ◌-◌, ◌≤◌, ◌<◌, ◌≡◌, true, false, ◌⊎◌, List, [], ◌∷◌, ◌++◌, get_or, take}
use Rattle.clock.specs.Clocks.{joined}
use Rattle.rules.specs.State.{Limits, Lock, clock_of, State, with_marks, clock, holder, has_arrived}
use Rattle.rules.specs.InOrder.{present}
use Rattle.rules.specs.Lines.{line_of}
use Rattle.rules.specs.Close.{closed}
use Rattle.rules.specs.Refusals.{Step, Acquire, Release, Answer, refused_with, refusal, next}
use Rattle.rules.specs.Runs.{answers, state_after}
use Rattle.rules.specs.Order.{Event, events, event_at, Took, counted, is_acquire_of, is_release_of, Serves}

-- the line of lock l in a state, the longest waiter first
abbrev pub line_in : State → ℕ → List ℕ
line_in s l = line_of s.counts.processors s.marks l

-- ---- what asking and releasing do to it

-- "An acquire of a lock held by another card is now accepted: the asker's interval closes and the card waits"
pub record WaitsInLine (lim : Limits) (s : State) (t : Step) (l : ℕ) : Type 0 where
  pub accepted : refusal lim s t ≡ 0
  -- all but the marks is as closing leaves it: nothing is learned yet
  pub closes : next lim s t ≡ with_marks (closed s t.processor) (next lim s t).marks
  -- it stands last
  pub waits : line_in (next lim s t) l ≡ line_in s l ++ t.processor ∷ []

-- "At a release the lock goes to the longest waiter, which becomes holder and learns the lock's clock in that same step"
pub record GoesTo (lim : Limits) (s : State) (t : Step) (l q : ℕ) (rest : List ℕ) : Type 0 where
  pub holds : holder (next lim s t) l ≡ q
  pub line : line_in (next lim s t) l ≡ rest
  -- "the lock's clock becomes the card's"
  pub told : clock_of (next lim s t).clocks (Lock l) ≡ clock (closed s t.processor) t.processor
  pub learns : clock (next lim s t) q ≡ joined (clock s q) (clock_of (next lim s t).clocks (Lock l))

-- "A state in order has only present cards in lines, each card at most once in all, no line at a free lock, and no waiter that has arrived or holds
-- the lock it waits for"
pub record LinesAsClaimed (s : State) : Type 0 where
  pub only_present : (l k q : ℕ) → 1 ≤ q → get_or (line_in s l) k 0 ≡ q → present s q ≡ true
  pub at_most_once : (l k l' k' q : ℕ) → 1 ≤ q → get_or (line_in s l) k 0 ≡ q → get_or (line_in s l') k' 0 ≡ q → (l ≡ l') × (k ≡ k')
  pub none_at_free : (l : ℕ) → holder s l ≡ 0 → line_in s l ≡ []
  pub none_arrived : (l k q : ℕ) → 1 ≤ q → get_or (line_in s l) k 0 ≡ q → has_arrived s q ≡ false
  pub none_holds_it : (l k q : ℕ) → 1 ≤ q → get_or (line_in s l) k 0 ≡ q → holder s l ≡ q → ⊥

-- ---- "A card with k waiters before it becomes holder at that lock's release numbered k + 1 from then, and no steps of others change that"

-- the steps of a list with what the rules answer from the state s
abbrev pub events_in : Limits → State → List Step → List Event
events_in lim s ts = events ts (answers lim s ts)

-- the accepted releases of lock l among the first i steps
abbrev pub releases_before : Limits → State → List Step → ℕ → ℕ → ℕ
releases_before lim s ts l i = counted (is_release_of l) (events_in lim s ts) i

-- processor q, with k waiters before it in the line of l, is served in its turn
pub record InTurn (lim : Limits) (s : State) (ts : List Step) (q l k : ℕ) : Type 0 where
  -- after the first i steps, with m ≤ k accepted releases of l among them, it has k - m waiters before it
  pub moves_up : (i : ℕ) → releases_before lim s ts l i ≤ k → get_or (line_in (state_after lim s (take i ts)) l) (k - releases_before lim s ts l i) 0 ≡ q
  -- the accepted release of l with k others before it makes it the holder
  pub served : (i p : ℕ) → Took (events_in lim s ts) i p (Release l) → releases_before lim s ts l i ≡ k → holder (state_after lim s (take (suc i) ts)) l ≡ q

-- ---- the same from the list and its answers alone

-- the release at place i by p hands lock l on to q: it serves an acquire of q
pub record HandsTo (es : List Event) (l i p q : ℕ) : Type 0 where
  pub place : ℕ
  pub serves : Serves es l i p place q

-- the refusal answered at place k
unfoldable pub refusal_at : List Answer → ℕ → ℕ
refusal_at answered k = (get_or answered k (refused_with 3)).refusal

-- processor p has lock l at place k by its acquire at place a: before the acquire as many acquires of the lock are accepted as releases before k
pub record HasLock (es : List Event) (l p k : ℕ) : Type 0 where
  pub place : ℕ
  pub acquire : Took es place p (Acquire l)
  pub asked : place < k
  pub served : counted (is_acquire_of l) es place ≡ counted (is_release_of l) es k

-- processor q has asked for lock l and waits at place k: fewer releases are accepted before k than acquires before its own
pub record StillWaits (es : List Event) (l q k : ℕ) : Type 0 where
  pub place : ℕ
  pub acquire : Took es place q (Acquire l)
  pub asked : place < k
  pub unserved : counted (is_release_of l) es k < counted (is_acquire_of l) es place

-- the lock that it waits for
pub record SomeLockAwaited (es : List Event) (q k : ℕ) : Type 0 where
  pub lock : ℕ
  pub waits : StillWaits es lock q k

-- what the answers to a list of steps show: locks are given in the order in which they are asked for, and who waits takes no step
pub record ServedInTurn (ts : List Step) (answered : List Answer) : Type 0 where
  -- an accepted release is by the processor whose acquire has as many acquires of the lock before it as the release has releases
  pub in_turn : (l i p : ℕ) → Took (events ts answered) i p (Release l) → HasLock (events ts answered) l p i
  -- "17, a step by a waiting card, after 6": each step of one who waits is refused, by 17 where neither 3 nor 5 applies
  pub refused : (l q k : ℕ) → StillWaits (events ts answered) l q k → (event_at (events ts answered) k).step.processor ≡ q
      → (refusal_at answered k ≡ 3) ⊎ ((refusal_at answered k ≡ 5) ⊎ (refusal_at answered k ≡ 17))
  -- and 17 is given to nobody else
  pub seventeen : (k : ℕ) → refusal_at answered k ≡ 17 → SomeLockAwaited (events ts answered) (event_at (events ts answered) k).step.processor k
