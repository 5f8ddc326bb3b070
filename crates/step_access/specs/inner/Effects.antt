-- What reading and writing a word and their parts leave in the lent areas, in the words of the rules: the state that the areas hold, and
-- that they keep their sizes. Where a part does not touch an area, it holds whatever that area has. Assumes nothing.
use Rattle.std.specs.Prelude.{ℕ, ◌+◌, ◌*◌, ◌/◌, ◌%◌, ◌≡◌, List, length}
use Rattle.limits.specs.Limits.{page_width}
use Rattle.limits.specs.inner.Sizes.{mark_area, word_area}
use Rattle.rules.specs.State.{mainframe, State, with_pages}
use Rattle.rules.specs.Steps.{Effect, page_of_word, twin_taken, stored}
use Rattle.layout.specs.Areas.{copy_row, state_in}
use Rattle.layout.specs.inner.Needed.{Holds}
use Rattle.fetch_index.specs.inner.Index.{IndexKept}

-- the value, the count and the words answered are those of the effect e, and so is the state that the areas hold
pub record AnsweredAs (e : Effect) (value count moved : ℕ) (c w r m : List ℕ) : Type 0 where
  pub answer : value ≡ e.value
  pub applied : count ≡ e.count
  pub moved_is : moved ≡ e.words
  pub areas : Holds c w r m e.after

-- the same, and the index is kept
pub record AnsweredKept (e : Effect) (value count moved : ℕ) (c w r m x : List ℕ) : Type 0 where
  pub answered : AnsweredAs e value count moved c w r m
  pub kept : IndexKept c r m x

-- "if the page is clean, take the twin", for page g of p
unfoldable pub twinned : State → ℕ → ℕ → State
twinned s p g = with_pages s (twin_taken s.pages p g)

-- "if the page is clean, take the twin; store", for word a of p
unfoldable pub word_stored : State → ℕ → ℕ → ℕ → State
word_stored s p a v = with_pages s (stored mainframe (twin_taken s.pages p (page_of_word mainframe a)) p a v)

-- where word a of p stands in the area of the words
unfoldable pub word_place : ℕ → ℕ → ℕ
word_place p a = page_width * copy_row mainframe p (a / page_width) + a % page_width

-- the twin of page g of p was taken if the page was clean
pub record TwinTaken (w m w' m' : List ℕ) (p g : ℕ) : Type 0 where
  pub words : length w' ≡ word_area
  pub marks : length m' ≡ mark_area
  pub is : (c r : List ℕ) → state_in mainframe c w' r m' ≡ twinned (state_in mainframe c w r m) p g

-- and v was stored in word a of p
pub record Stored (w m w' m' : List ℕ) (p a v : ℕ) : Type 0 where
  pub words : length w' ≡ word_area
  pub marks : length m' ≡ mark_area
  pub is : (c r : List ℕ) → state_in mainframe c w' r m' ≡ word_stored (state_in mainframe c w r m) p a v
