-- What a collection and its parts leave in the lent areas, in the words of the rules: the state that the areas hold, and that they keep
-- their sizes; and that the index is kept. Assumes nothing.
use Rattle.std.specs.Prelude.{ℕ, ◌≡◌, List, length}
use Rattle.limits.specs.inner.Sizes.{clock_area, mark_area}
use Rattle.rules.specs.State.{mainframe}
use Rattle.rules.specs.Steps.{Fetches, emptied}
use Rattle.layout.specs.Areas.{state_in}
use Rattle.layout.specs.inner.Needed.{Holds}
use Rattle.fetch_index.specs.inner.Index.{IndexKept}

-- the count and the words answered are those of the fetches f, and the areas hold the state that they leave
pub record CountedAs (f : Fetches) (count moved : ℕ) (c w r m : List ℕ) : Type 0 where
  pub applied : count ≡ f.count
  pub moved_is : moved ≡ f.words
  pub areas : Holds c w r m f.after

-- the same, and the index is kept
pub record CountedKept (f : Fetches) (count moved : ℕ) (c w r m x : List ℕ) : Type 0 where
  pub counted : CountedAs f count moved c w r m
  pub kept : IndexKept c r m x

-- the records went, the clocks became zeros and the wish was cleared
pub record Emptied (c m c' m' : List ℕ) : Type 0 where
  pub clocks : length c' ≡ clock_area
  pub marks : length m' ≡ mark_area
  pub is : (w r : List ℕ) → state_in mainframe c' w r m' ≡ emptied (state_in mainframe c w r m)
