-- A run from a start of the mainframe: with the test of order at each step it is what it is without, and so is Listing A. Assumes nothing.
use Prim.Native.Nat.{ℕ}
use mathlib.Core.Path.{◌≡◌, refl, ◌∙◌}
use mathlib.Core.Bool.{true}
use mathlib.Core.List.{List}
use Rattle.rules.specs.State.{mainframe}
use Rattle.rules.specs.InOrder.{in_range, counts_in_range}
use Rattle.rules.specs.Refusals.{Step}
use Rattle.rules.specs.Runs.{answers, state_after, answers_in_order, state_in_order}
use Rattle.rules.specs.Bench.{listing, listing_answers}
use Rattle.rules.proofs.inorder.Facts.{InOrder}
use Rattle.rules.proofs.inorder.OpenedInOrder.{opened_in_order}
use Rattle.rules.proofs.InOrderRuns.{answers_in_order_lem, state_in_order_lem}
use Rattle.rules.proofs.runs.Listing.{start, computed_listing}

-- a start with its counts in range is in order
start_in_order : (processors pages locks : ℕ) → counts_in_range mainframe (record { processors = processors; pages = pages; locks = locks }) ≡ true
    → InOrder mainframe (start processors pages locks)
unfolding start
start_in_order processors pages locks in-range = opened_in_order mainframe (record { processors = processors; pages = pages; locks = locks }) in-range

-- so its run answers, and leaves, what the run without the test of order does
pub answers_from_start : (processors pages locks : ℕ) → counts_in_range mainframe (record { processors = processors; pages = pages; locks = locks }) ≡ true
    → (ts : List Step) → answers mainframe (start processors pages locks) ts ≡ answers_in_order mainframe (start processors pages locks) ts
answers_from_start processors pages locks in-range ts =
    answers_in_order_lem mainframe (start processors pages locks) ts (start_in_order processors pages locks in-range)

pub state_from_start : (processors pages locks : ℕ) → counts_in_range mainframe (record { processors = processors; pages = pages; locks = locks }) ≡ true
    → (ts : List Step) → state_after mainframe (start processors pages locks) ts ≡ state_in_order mainframe (start processors pages locks) ts
state_from_start processors pages locks in-range ts =
    state_in_order_lem mainframe (start processors pages locks) ts (start_in_order processors pages locks in-range)

-- Listing A: the lines 1 to 12, refusal, value and count of each step
pub listing_a_lem : answers mainframe (start 2 1 1) listing ≡ listing_answers
unfolding counts_in_range in_range mainframe
listing_a_lem = answers_from_start 2 1 1 refl listing ∙ computed_listing
