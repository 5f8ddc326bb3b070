-- What reading and writing a word ask of the memory that they are given, and what their parts ask of one another. Assumes nothing.
use Rattle.std.specs.Prelude.{ℕ, ◌*◌, ◌≤◌, ◌<◌, ◌≡◌, List, length}
use Rattle.limits.specs.Limits.{page_width, processor_limit}
use Rattle.limits.specs.inner.Sizes.{mark_area, word_area, word_limit}
use Rattle.rules.specs.State.{mainframe}
use Rattle.layout.specs.Areas.{state_in}
use Rattle.layout.specs.inner.Needed.{Acts}
use Rattle.fetch_index.specs.inner.Index.{IndexKept}

-- p acts, and a is a word of a present page
pub record ActsOnWord (c w r m : List ℕ) (p a : ℕ) : Type 0 where
  pub acts : Acts c w r m p
  pub word : a < (state_in mainframe c w r m).counts.pages * page_width

-- the same, and the index is kept
pub record AccessesKept (c w r m : List ℕ) (p a : ℕ) (x : List ℕ) : Type 0 where
  pub word : ActsOnWord c w r m p a
  pub kept : IndexKept c r m x

-- word a of p has a place
pub record OnWord (p a : ℕ) : Type 0 where
  pub from : 1 ≤ p
  pub to : p ≤ processor_limit
  pub word : a < word_limit

-- the same, and the area of the words
pub record WordIn (w : List ℕ) (p a : ℕ) : Type 0 where
  pub words : length w ≡ word_area
  pub on_word : OnWord p a

-- the same, and the area of the marks
pub record WordThere (w m : List ℕ) (p a : ℕ) : Type 0 where
  pub words : length w ≡ word_area
  pub marks : length m ≡ mark_area
  pub on_word : OnWord p a
