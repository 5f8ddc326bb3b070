-- A run with a race, computed: two processors read different values of one word, and the premise of demand 3 fails for both readings.
-- What demand 3 promises all the same. Rests on Edges and JudgedRuns. Assumes nothing.
use Prim.Native.Nat.{ℕ, ◌≤◌}
use native.Mathlib.Omega.{arith}
use mathlib.Core.Path.{◌≡◌, refl}
use mathlib.Core.Bool.{not}
use mathlib.Core.Logic.{◌⊎◌, inl, inr}
use mathlib.Core.List.{List, [], ◌∷◌}
use lib.Dec.{eqb}
use Rattle.rules.specs.State.{mainframe}
use Rattle.rules.specs.Refusals.{Step}
use Rattle.rules.specs.Runs.{answers_in_order}
use Rattle.rules.specs.Order.{Event, events, event_at, Before, Ordered}
use Rattle.rules.specs.Demand.{EarlierWrite, Synchronized, Judged}
use Rattle.rules.proofs.StrictOrder.{before_goes_forward}
use Rattle.rules.proofs.order.Edges.{no_edge, closed_under, not_before}
use Rattle.rules.proofs.runs.Listing.{reads, writes, arrives, start, answering}
use Rattle.rules.proofs.runs.JudgedRuns.{Among, value_left, all_accepted}
use Rattle.rules.proofs.runs.StoredCases.{accepted}

-- processors 1 and 2 write word 0 with nothing that orders the two, both arrive, and both read it
unfoldable pub race : List Step
race = writes 1 0 5 ∷ writes 2 0 6 ∷ arrives 1 ∷ arrives 2 ∷ reads 1 0 ∷ reads 2 0 ∷ []

-- Each processor applies the other's diff over its own store, so that 1 reads 6 and 2 reads 5. Each is a value that was written, and
-- document 01 claims no more: demand 3's premise fails, as the writes are by different processors and neither is before the other.
pub race_answers : answers_in_order mainframe (start 2 1 1) race
    ≡ answering 0 0 0 ∷ answering 0 0 0 ∷ answering 0 0 0 ∷ answering 0 0 0 ∷ answering 0 6 1 ∷ answering 0 5 1 ∷ []
unfolding start race
race_answers = refl

-- its steps, all of them accepted
unfoldable pub race_events : List Event
race_events = events race (answers_in_order mainframe (start 2 1 1) race)

-- ---- the premise fails

-- no edge leads to the second write, so the first is not before it
first_not_before : Before 2 race_events 0 1 → ⊥
unfolding race_events race events start closed_under no_edge
first_not_before = not_before 2 race_events 0 1 (λ k. not (eqb k 1)) refl refl refl

-- so at no later place is there a premise for word 0
pub race_not_synchronized : (j : ℕ) → 2 ≤ j → Synchronized 2 race_events 0 j → ⊥
unfolding Ordered
race_not_synchronized j h sync = go (sync.ordered 0 1 1 2 5 6 first second (λ e. omega (arith, e)))
  where
    first : EarlierWrite race_events 0 j 0 1 5
    first = unfold race_events race events event_at start in record { wrote = record { accepted = refl; processor = refl; action = refl }; earlier = omega arith }

    second : EarlierWrite race_events 0 j 1 2 6
    second = unfold race_events race events event_at start in record { wrote = record { accepted = refl; processor = refl; action = refl }; earlier = omega arith }

    go : Before 2 race_events 0 1 ⊎ Before 2 race_events 1 0 → ⊥
    go (inl b) = first_not_before b
    go (inr b) = omega (arith, before_goes_forward 2 race_events 1 0 b)

-- ---- what is promised all the same

-- in a race too a read answers 0 or what one of the earlier writes stored, whatever the order
pub race_leaves : (x : ℕ) → Judged 2 race_events 0 4 x → (x ≡ 0) ⊎ Among x (6 ∷ 5 ∷ [])
unfolding race_events race events start all_accepted
race_leaves x judged = value_left 2 race_events 0 4 x judged

-- 1 writes word 0 and 2 word 1; absent processor 3 writes word 0; 2 reads it; 1 writes it once more
unfoldable pub other_writes : List Step
other_writes = writes 1 0 5 ∷ writes 2 1 6 ∷ writes 3 0 7 ∷ reads 2 0 ∷ writes 1 0 8 ∷ []

pub other_writes_answers : answers_in_order mainframe (start 2 1 1) other_writes ≡ accepted ∷ accepted ∷ answering 4 0 0 ∷ accepted ∷ accepted ∷ []
unfolding start other_writes
other_writes_answers = refl

-- neither another word's value, nor that of a refused write, nor one that is stored later
pub other_writes_leave : (x : ℕ) → Judged 2 (events other_writes (answers_in_order mainframe (start 2 1 1) other_writes)) 0 3 x → (x ≡ 0) ⊎ Among x (5 ∷ [])
unfolding other_writes events start all_accepted
other_writes_leave x judged = value_left 2 (events other_writes (answers_in_order mainframe (start 2 1 1) other_writes)) 0 3 x judged
