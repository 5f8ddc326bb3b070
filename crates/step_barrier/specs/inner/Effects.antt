-- What an arrival and its parts leave in the lent areas, in the words of the rules: the state that the areas
-- hold, and that they keep their sizes. Where a part does not touch an area, it holds whatever that area has. Assumes nothing.
use Rattle.std.specs.Prelude.{ℕ, ◌≡◌, cond, List, length}
use Rattle.limits.specs.inner.Sizes.{clock_area, mark_area, word_area}
use Rattle.rules.specs.State.{mainframe, Clocks, State}
use Rattle.rules.specs.Steps.{round_done, Fetches, none_fetched, collected, wants_collection}
use Rattle.layout.specs.Areas.{clocks_in, state_in}

-- the area of the clocks has its size and holds the clocks k
pub record HoldsClocks (c : List ℕ) (k : Clocks) : Type 0 where
  pub long : length c ≡ clock_area
  pub clocks : clocks_in mainframe c ≡ k

-- a round was completed
pub record RoundDone (c w m c' w' m' : List ℕ) : Type 0 where
  pub clocks : length c' ≡ clock_area
  pub words : length w' ≡ word_area
  pub marks : length m' ≡ mark_area
  pub is : (r : List ℕ) → state_in mainframe c' w' r m' ≡ round_done (state_in mainframe c w r m)

-- "When the last card arrives": the round is completed, and garbage is collected if that is wanted
unfoldable pub completed : State → Fetches
completed s = cond (wants_collection s) (collected mainframe (round_done s)) (none_fetched (round_done s))
