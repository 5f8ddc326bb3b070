-- What an add and a posting do, in the words of the rules and of the whole state, whatever the areas hold that they do not touch. Assumes nothing.
use Rattle.std.specs.Prelude.{◌≡◌, ℕ, ◌+◌, ◌<◌, ◌≤◌, List, length, slice_index}
use Rattle.limits.specs.Limits.{tally_limit}
use Rattle.limits.specs.inner.Sizes.{first_job_value, first_tally, word_area}
use Rattle.rules.specs.State.{mainframe, with_shared}
use Rattle.rules.specs.Tallies.{tally_added, total_after, posting}
use Rattle.layout.specs.Areas.{tally_place, shared_in, state_in}

-- from the words w to w' processor p has added v to tally t
pub record AddDone (w w' : List ℕ) (p t v : ℕ) : Type 0 where
  pub words : length w' ≡ word_area
  pub is : (c r m : List ℕ) → state_in mainframe c w' r m ≡ with_shared (state_in mainframe c w r m) (tally_added (shared_in mainframe w) p t v)

-- the new totals stand, all else is as it was
pub record TotalsPosted (w w' : List ℕ) (n : ℕ) : Type 0 where
  pub words : length w' ≡ word_area
  pub posted : (t : ℕ) → t < tally_limit → slice_index w' (tally_place mainframe 0 t) ≡ total_after (shared_in mainframe w) n t
  pub pages : (i : ℕ) → i < first_tally → slice_index w' i ≡ slice_index w i
  pub values : (i : ℕ) → first_job_value ≤ i → slice_index w' i ≡ slice_index w i

-- the adds are 0, all before and behind them is as it was
pub record AddsCleared (w w' : List ℕ) : Type 0 where
  pub words : length w' ≡ word_area
  pub clear : (i : ℕ) → first_tally + tally_limit ≤ i → i < first_job_value → slice_index w' i ≡ 0
  pub kept : (i : ℕ) → i < first_tally + tally_limit → slice_index w' i ≡ slice_index w i
  pub values : (i : ℕ) → first_job_value ≤ i → slice_index w' i ≡ slice_index w i

-- a round of n processors was posted
pub record Posted (w w' : List ℕ) (n : ℕ) : Type 0 where
  pub words : length w' ≡ word_area
  pub is : (c r m : List ℕ) → state_in mainframe c w' r m ≡ with_shared (state_in mainframe c w r m) (posting (shared_in mainframe w) n)
