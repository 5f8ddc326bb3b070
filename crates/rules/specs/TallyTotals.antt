-- Document 02, L4: what a read of a tally is to answer, from the list of steps alone, and the totals that rounds post. Assumes nothing.
use Rattle.std.specs.Prelude.{ℕ, zero, suc, ◌+◌, ◌%◌, ◌≡◌, Bool, cond, ◌&&◌, ◌||◌, List, ltb, eqb}
use Rattle.lists.specs.Tables.{total}
use Rattle.limits.specs.Limits.{word_values}
use Rattle.rules.specs.State.{Shared, posted_of, adds_of}
use Rattle.rules.specs.Refusals.{Step, TallyRead, Answer}
use Rattle.rules.specs.Order.{Event, events, event_at, Took, rounds}
use Rattle.rules.specs.Demand.{value_field, value_at}

-- ---- what is due

-- an accepted add to tally t
unfoldable pub is_add_to : Event → ℕ → Bool
is_add_to e t = e.accepted && eqb e.step.kind 8 && eqb e.step.object t

-- the add at place i counts for a read by processor p at place j: it was made in a round completed before the read, or by p itself
unfoldable pub counts_for : ℕ → List Event → ℕ → ℕ → ℕ → Bool
counts_for n es p j i = ltb (rounds n es i) (rounds n es j) || eqb (event_at es i).step.processor p

-- "the posted total plus the card's own adds since, wrapped", from the list alone: the sum of the value fields of the adds to t before place j that count
unfoldable pub tally_due : ℕ → List Event → ℕ → ℕ → ℕ → ℕ
tally_due n es p t j = total j (λ i. cond (is_add_to (event_at es i) t && counts_for n es p j i) (value_field (event_at es i).step.value) 0) % word_values

-- "the sum of all accepted adds of finished rounds": the same of those adds alone
unfoldable pub posted_due : ℕ → List Event → ℕ → ℕ → ℕ
posted_due n es t j = total j (λ i. cond (is_add_to (event_at es i) t && ltb (rounds n es i) (rounds n es j)) (value_field (event_at es i).step.value) 0) % word_values

-- every accepted read of a tally answers what is due, for n processors
pub record TalliesJudged (n : ℕ) (ts : List Step) (answered : List Answer) : Type 0 where
  -- the value answered at place j is what is due there
  pub totals : (j p t : ℕ) → Took (events ts answered) j p (TallyRead t) → value_at answered j ≡ tally_due n (events ts answered) p t j

-- ---- "taking the cards downwards gives the same word as taking them upwards"

-- the posted total with the adds of processors 1, 2, .., n taken in this order, wrapped after each
unfoldable pub taken_up : Shared → ℕ → ℕ → ℕ
taken_up h t zero = posted_of h t % word_values
taken_up h t (suc k) = (taken_up h t k + adds_of h (suc k) t) % word_values

-- x with the adds of processors n, n - 1, .., 1 taken in this order, wrapped after each
unfoldable pub taken_from : Shared → ℕ → ℕ → ℕ → ℕ
taken_from h t zero x = x
taken_from h t (suc k) x = taken_from h t k ((x + adds_of h (suc k) t) % word_values)

-- the posted total with them
unfoldable pub taken_down : Shared → ℕ → ℕ → ℕ
taken_down h t n = taken_from h t n (posted_of h t % word_values)
