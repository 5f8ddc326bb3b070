-- Document 02, L5: runs in which records are skipped, computed of the rules, one table. Case D is in Cases.antt. Rests on FromStart. Assumes nothing.
use mathlib.Core.Path.{◌≡◌, refl, ◌∙◌}
use mathlib.Core.List.{List, [], ◌∷◌}
use Rattle.rules.specs.State.{mainframe}
use Rattle.rules.specs.InOrder.{in_range, counts_in_range}
use Rattle.rules.specs.Refusals.{Step}
use Rattle.rules.specs.Runs.{answers, answers_in_order}
use Rattle.rules.proofs.runs.Listing.{reads, writes, acquires, releases, arrives, wants, start, moving, answering}
use Rattle.rules.proofs.runs.FromStart.{answers_from_start}
use Rattle.rules.proofs.runs.StoredCases.{accepted}

-- "each of whose words": of 1's two words 2 sets one again, so that both records are applied
unfoldable pub partly : List Step
partly =
    acquires 1 0 ∷ writes 1 0 11 ∷ writes 1 1 12 ∷ releases 1 0 ∷ acquires 2 0 ∷ writes 2 1 22 ∷ releases 2 0 ∷ acquires 3 0 ∷ reads 3 0
    ∷ reads 3 1 ∷ []

-- "set again by later records": of 1's two words 2 sets one again and 3 the other, so that 1's record is skipped where 4 fetches
unfoldable pub together : List Step
together =
    acquires 1 0 ∷ writes 1 0 11 ∷ writes 1 1 12 ∷ releases 1 0 ∷ acquires 2 0 ∷ writes 2 0 21 ∷ releases 2 0 ∷ acquires 3 0 ∷ writes 3 1 32
    ∷ releases 3 0 ∷ acquires 4 0 ∷ reads 4 0 ∷ reads 4 1 ∷ []

-- of four records the last two are applied, though a skipped one stands between
unfoldable pub chain : List Step
chain =
    acquires 1 0 ∷ writes 1 3 1 ∷ releases 1 0 ∷ acquires 2 0 ∷ writes 2 3 2 ∷ writes 2 4 2 ∷ releases 2 0 ∷ acquires 3 0 ∷ writes 3 4 3
    ∷ releases 3 0 ∷ acquires 4 0 ∷ writes 4 3 4 ∷ releases 4 0 ∷ acquires 5 0 ∷ reads 5 3 ∷ reads 5 4 ∷ []

-- "a record with no words is always skipped"
unfoldable pub without_words : List Step
without_words =
    acquires 1 0 ∷ writes 1 0 0 ∷ releases 1 0 ∷ acquires 2 0 ∷ reads 2 0 ∷ reads 2 0 ∷ []

-- "races or not": of two records with equal sums the one of the larger processor replaces
unfoldable pub in_race : List Step
in_race =
    writes 1 0 5 ∷ writes 2 0 6 ∷ writes 2 1 7 ∷ arrives 1 ∷ arrives 2 ∷ arrives 3 ∷ reads 3 0 ∷ reads 1 0 ∷ reads 2 0 ∷ []

-- each page's fetch of a collection is a fetch of its own
unfoldable pub in_collection : List Step
in_collection =
    acquires 1 0 ∷ writes 1 0 5 ∷ writes 1 33 6 ∷ releases 1 0 ∷ acquires 2 0 ∷ writes 2 0 7 ∷ releases 2 0 ∷ wants 3 ∷ arrives 1 ∷ arrives 2
    ∷ arrives 3 ∷ reads 1 0 ∷ reads 3 33 ∷ []

pub record SkippingCases : Type 0 where
  pub partly : answers mainframe (start 3 1 1) partly
      ≡ accepted ∷ accepted ∷ accepted ∷ accepted ∷ accepted ∷ moving 0 0 1 2 ∷ accepted ∷ accepted ∷ moving 0 11 2 3 ∷ answering 0 22 0 ∷ []
  pub together : answers mainframe (start 4 1 1) together
      ≡ accepted ∷ accepted ∷ accepted ∷ accepted ∷ accepted ∷ moving 0 0 1 2 ∷ accepted ∷ accepted ∷ moving 0 0 2 3 ∷ accepted ∷ accepted
      ∷ answering 0 21 2 ∷ answering 0 32 0 ∷ []
  pub chain : answers mainframe (start 5 1 1) chain
      ≡ accepted ∷ accepted ∷ accepted ∷ accepted ∷ answering 0 0 1 ∷ accepted ∷ accepted ∷ accepted ∷ moving 0 0 1 2 ∷ accepted ∷ accepted
      ∷ moving 0 0 2 3 ∷ accepted ∷ accepted ∷ answering 0 4 2 ∷ answering 0 3 0 ∷ []
  pub without_words_lem : answers mainframe (start 2 1 1) without_words
      ≡ accepted ∷ accepted ∷ accepted ∷ accepted ∷ accepted ∷ accepted ∷ []
  pub in_race_lem : answers mainframe (start 3 1 1) in_race
      ≡ accepted ∷ accepted ∷ accepted ∷ accepted ∷ accepted ∷ accepted ∷ moving 0 6 1 2 ∷ moving 0 6 1 2 ∷ answering 0 5 1 ∷ []
  pub in_collection_lem : answers mainframe (start 3 2 1) in_collection
      ≡ accepted ∷ accepted ∷ accepted ∷ accepted ∷ accepted ∷ answering 0 0 1 ∷ accepted ∷ accepted ∷ accepted ∷ accepted ∷ answering 0 0 4
      ∷ answering 0 7 0 ∷ answering 0 6 0 ∷ []

-- ---- the runs, computed

computed_partly : answers_in_order mainframe (start 3 1 1) partly
    ≡ accepted ∷ accepted ∷ accepted ∷ accepted ∷ accepted ∷ moving 0 0 1 2 ∷ accepted ∷ accepted ∷ moving 0 11 2 3 ∷ answering 0 22 0 ∷ []
unfolding start partly
computed_partly = refl

computed_together : answers_in_order mainframe (start 4 1 1) together
    ≡ accepted ∷ accepted ∷ accepted ∷ accepted ∷ accepted ∷ moving 0 0 1 2 ∷ accepted ∷ accepted ∷ moving 0 0 2 3 ∷ accepted ∷ accepted
    ∷ answering 0 21 2 ∷ answering 0 32 0 ∷ []
unfolding start together
computed_together = refl

computed_chain : answers_in_order mainframe (start 5 1 1) chain
    ≡ accepted ∷ accepted ∷ accepted ∷ accepted ∷ answering 0 0 1 ∷ accepted ∷ accepted ∷ accepted ∷ moving 0 0 1 2 ∷ accepted ∷ accepted
    ∷ moving 0 0 2 3 ∷ accepted ∷ accepted ∷ answering 0 4 2 ∷ answering 0 3 0 ∷ []
unfolding start chain
computed_chain = refl

computed_without_words : answers_in_order mainframe (start 2 1 1) without_words
    ≡ accepted ∷ accepted ∷ accepted ∷ accepted ∷ accepted ∷ accepted ∷ []
unfolding start without_words
computed_without_words = refl

computed_in_race : answers_in_order mainframe (start 3 1 1) in_race
    ≡ accepted ∷ accepted ∷ accepted ∷ accepted ∷ accepted ∷ accepted ∷ moving 0 6 1 2 ∷ moving 0 6 1 2 ∷ answering 0 5 1 ∷ []
unfolding start in_race
computed_in_race = refl

computed_in_collection : answers_in_order mainframe (start 3 2 1) in_collection
    ≡ accepted ∷ accepted ∷ accepted ∷ accepted ∷ accepted ∷ answering 0 0 1 ∷ accepted ∷ accepted ∷ accepted ∷ accepted ∷ answering 0 0 4
    ∷ answering 0 7 0 ∷ answering 0 6 0 ∷ []
unfolding start in_collection
computed_in_collection = refl

pub skipping_cases : SkippingCases
unfolding counts_in_range in_range mainframe
skipping_cases =
    record {
      partly = answers_from_start 3 1 1 refl partly ∙ computed_partly;
      together = answers_from_start 4 1 1 refl together ∙ computed_together;
      chain = answers_from_start 5 1 1 refl chain ∙ computed_chain;
      without_words_lem = answers_from_start 2 1 1 refl without_words ∙ computed_without_words;
      in_race_lem = answers_from_start 3 1 1 refl in_race ∙ computed_in_race;
      in_collection_lem = answers_from_start 3 2 1 refl in_collection ∙ computed_in_collection;
    }
