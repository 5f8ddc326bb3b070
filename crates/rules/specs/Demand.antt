-- Document 01, "Lists of steps" (demand 3): what is claimed of every accepted read of a list of steps. Assumes nothing.
use Rattle.std.specs.Prelude.{ℕ, zero, suc, ◌%◌, ◌<◌, ◌≡◌, Bool, cond, ◌&&◌, ◌⊎◌, List, get_or, eqb}
use Rattle.limits.specs.Limits.{word_values}
use Rattle.rules.specs.State.{Limits, Counts}
use Rattle.rules.specs.Opening.{opened}
use Rattle.rules.specs.Refusals.{Step, Read, Write, Answer, refused_with}
use Rattle.rules.specs.Runs.{answers}
use Rattle.rules.specs.Order.{Event, events, event_at, Took, Before, Ordered}

-- the value field as the four bytes of a step's record hold it
unfoldable pub value_field : ℕ → ℕ
value_field v = v % word_values

-- an accepted write to w
unfoldable pub is_write_to : Event → ℕ → Bool
is_write_to e w = e.accepted && eqb e.step.kind 2 && eqb e.step.object w

-- "the value field of the last of them in the list, or 0 if there are none": of the accepted writes to w before place j
unfoldable pub last_written : List Event → ℕ → ℕ → ℕ
last_written es w zero = 0
last_written es w (suc t) = cond (is_write_to (event_at es t) w) (value_field (event_at es t).step.value) (last_written es w t)

-- an accepted write of v to w by processor p that stands at place i, earlier than place j
pub record EarlierWrite (es : List Event) (w j i p v : ℕ) : Type 0 where
  pub wrote : Took es i p (Write w v)
  pub earlier : i < j

-- "If every two of them by different cards are ordered, and each of them is before the read"
pub record Synchronized (n : ℕ) (es : List Event) (w j : ℕ) : Type 0 where
  pub ordered : (i k p q u v : ℕ) → EarlierWrite es w j i p u → EarlierWrite es w j k q v → (p ≡ q → ⊥) → Ordered n es i k
  pub before : (i p v : ℕ) → EarlierWrite es w j i p v → Before n es i j

-- a value that an earlier accepted write to w has in its value field
pub record FromWrite (es : List Event) (w j x : ℕ) : Type 0 where
  pub place : ℕ
  pub processor : ℕ
  pub value : ℕ
  pub write : EarlierWrite es w j place processor value
  pub is : x ≡ value_field value

-- what is claimed of a read of w at place j that answers x
pub record Judged (n : ℕ) (es : List Event) (w j x : ℕ) : Type 0 where
  -- "the value answered is the value field of the last of them in the list, or 0 if there are none"
  pub last : Synchronized n es w j → x ≡ last_written es w j
  -- "In each case it is 0 or the value field of one of them"
  pub some_write : (x ≡ 0) ⊎ FromWrite es w j x

-- the value answered at place j
unfoldable pub value_at : List Answer → ℕ → ℕ
value_at answered j = (get_or answered j (refused_with 3)).value

-- demand 3 of the answers to a list of steps, for n processors: one claim over the whole list
pub record ReadsJudged (n : ℕ) (ts : List Step) (answered : List Answer) : Type 0 where
  pub reads : (j p w : ℕ) → Took (events ts answered) j p (Read w) → Judged n (events ts answered) w j (value_at answered j)

-- demand 3 of a list of steps from an opened state
unfoldable pub DemandThree : Limits → Counts → List Step → Type 0
DemandThree lim c ts = ReadsJudged c.processors ts (answers lim (opened lim c) ts)
