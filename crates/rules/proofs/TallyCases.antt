-- Document 02, L4: runs with tallies, computed of the rules, one table. Rests on FromStart. Assumes nothing.
use mathlib.Core.Path.{◌≡◌, refl, ◌∙◌}
use mathlib.Core.List.{List, [], ◌∷◌}
use Rattle.rules.specs.State.{mainframe}
use Rattle.rules.specs.InOrder.{in_range, counts_in_range}
use Rattle.rules.specs.Refusals.{Step}
use Rattle.rules.specs.Runs.{answers, answers_in_order}
use Rattle.rules.proofs.runs.Listing.{reads, writes, acquires, releases, arrives, wants, adds, totals, start, answering}
use Rattle.rules.proofs.runs.FromStart.{answers_from_start}
use Rattle.rules.proofs.runs.StoredCases.{accepted}

-- both add to tally 0, and each reads its own adds alone until the round completes; then both read the sum, wrapped, and 2 reads its new add on top
unfoldable pub own_until_posted : List Step
own_until_posted =
    adds 1 0 4294967295 ∷ adds 2 0 2 ∷ totals 1 0 ∷ totals 2 0 ∷ arrives 1 ∷ totals 2 0 ∷ arrives 2 ∷ totals 1 0 ∷ totals 2 0 ∷ adds 2 0 5 ∷ totals 2 0 ∷ totals 1 0 ∷ []

-- "Collection keeps totals": two collecting rounds, the adds of each posted
unfoldable pub kept_by_collection : List Step
kept_by_collection = adds 1 3 10 ∷ wants 2 ∷ arrives 1 ∷ adds 2 3 20 ∷ arrives 2 ∷ totals 1 3 ∷ adds 1 3 1 ∷ wants 1 ∷ arrives 1 ∷ totals 2 3 ∷ arrives 2 ∷ totals 2 3 ∷ []

-- "Tallies order nothing among ordinary words": 2 reads the tally and not what 1 stored before it added; a waiter's add is refused. L7: 2 frees the lock before it arrives
unfoldable pub orders_nothing : List Step
orders_nothing =
    writes 1 0 9 ∷ adds 1 0 1 ∷ totals 2 0 ∷ reads 2 0 ∷ acquires 3 0 ∷ acquires 2 0 ∷ adds 2 0 5 ∷ releases 3 0 ∷ adds 2 0 5 ∷ arrives 1 ∷ arrives 3 ∷ releases 2 0 ∷ arrives 2 ∷ totals 2 0 ∷ reads 2 0 ∷ []

pub record TallyCases : Type 0 where
  pub own_until_posted_lem : answers mainframe (start 2 1 1) own_until_posted
      ≡ accepted ∷ accepted ∷ answering 0 4294967295 0 ∷ answering 0 2 0 ∷ accepted ∷ answering 0 2 0 ∷ accepted ∷ answering 0 1 0 ∷ answering 0 1 0 ∷ accepted ∷ answering 0 6 0
      ∷ answering 0 1 0 ∷ []
  pub kept_by_collection_lem : answers mainframe (start 2 1 1) kept_by_collection
      ≡ accepted ∷ accepted ∷ accepted ∷ accepted ∷ accepted ∷ answering 0 30 0 ∷ accepted ∷ accepted ∷ accepted ∷ answering 0 30 0 ∷ accepted ∷ answering 0 31 0 ∷ []
  pub orders_nothing_lem : answers mainframe (start 3 1 1) orders_nothing
      ≡ accepted ∷ accepted ∷ accepted ∷ answering 0 0 0 ∷ accepted ∷ accepted ∷ answering 17 0 0 ∷ accepted ∷ accepted ∷ accepted ∷ accepted ∷ accepted ∷ accepted ∷ answering 0 6 0
      ∷ answering 0 9 1 ∷ []

-- ---- the runs, computed

computed_own : answers_in_order mainframe (start 2 1 1) own_until_posted
    ≡ accepted ∷ accepted ∷ answering 0 4294967295 0 ∷ answering 0 2 0 ∷ accepted ∷ answering 0 2 0 ∷ accepted ∷ answering 0 1 0 ∷ answering 0 1 0 ∷ accepted ∷ answering 0 6 0
    ∷ answering 0 1 0 ∷ []
unfolding start own_until_posted
computed_own = refl

computed_kept : answers_in_order mainframe (start 2 1 1) kept_by_collection
    ≡ accepted ∷ accepted ∷ accepted ∷ accepted ∷ accepted ∷ answering 0 30 0 ∷ accepted ∷ accepted ∷ accepted ∷ answering 0 30 0 ∷ accepted ∷ answering 0 31 0 ∷ []
unfolding start kept_by_collection
computed_kept = refl

computed_nothing : answers_in_order mainframe (start 3 1 1) orders_nothing
    ≡ accepted ∷ accepted ∷ accepted ∷ answering 0 0 0 ∷ accepted ∷ accepted ∷ answering 17 0 0 ∷ accepted ∷ accepted ∷ accepted ∷ accepted ∷ accepted ∷ accepted ∷ answering 0 6 0
    ∷ answering 0 9 1 ∷ []
unfolding start orders_nothing
computed_nothing = refl

pub tally_cases : TallyCases
unfolding counts_in_range in_range mainframe
tally_cases =
    record {
      own_until_posted_lem = answers_from_start 2 1 1 refl own_until_posted ∙ computed_own;
      kept_by_collection_lem = answers_from_start 2 1 1 refl kept_by_collection ∙ computed_kept;
      orders_nothing_lem = answers_from_start 3 1 1 refl orders_nothing ∙ computed_nothing;
    }
