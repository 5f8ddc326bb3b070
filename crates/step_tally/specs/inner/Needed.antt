-- What tallies ask, and what their parts ask of one another. Assumes nothing.
use Rattle.std.specs.Prelude.{◌≡◌, ℕ, ◌<◌, ◌≤◌, List, length}
use Rattle.limits.specs.Limits.{processor_limit, tally_limit}
use Rattle.limits.specs.inner.Sizes.{word_area}

-- tally t of processor p has its place
pub record OnTally (p t : ℕ) : Type 0 where
  pub from : 1 ≤ p
  pub to : p ≤ processor_limit
  pub tally : t < tally_limit

-- the same, and the area of the words
pub record TallyIn (w : List ℕ) (p t : ℕ) : Type 0 where
  pub words : length w ≡ word_area
  pub on_tally : OnTally p t

-- the area of the words, and a number of processors
pub record RoundReady (w : List ℕ) (n : ℕ) : Type 0 where
  pub words : length w ≡ word_area
  pub some : 1 ≤ n
  pub few : n ≤ processor_limit

-- the same, and a tally
pub record SumReady (w : List ℕ) (n t : ℕ) : Type 0 where
  pub words : length w ≡ word_area
  pub some : 1 ≤ n
  pub few : n ≤ processor_limit
  pub tally : t < tally_limit
