-- What the functions of this crate ask of one another: places that lie within the areas, and numbers in their range. Assumes nothing.
use Rattle.std.specs.Prelude.{ℕ, ◌+◌, ◌*◌, ◌≤◌, ◌<◌, ◌≡◌, List, length}
use Rattle.limits.specs.Limits.{lock_limit, page_limit, processor_limit}
use Rattle.limits.specs.inner.Sizes.{clock_area, clock_width, copy_limit, word_area}
use Rattle.layout.specs.inner.Needed.{Lent}
use Rattle.inorder_marks.specs.inner.Needed.{CountsFit}
use Rattle.inorder_records.specs.inner.Needed.{OwnFit}

-- n rows of clocks from a row on lie within the area, and the first `there` of them are among them
pub record RowsThere (c : List ℕ) (first n there : ℕ) : Type 0 where
  pub within : clock_width * (first + n) ≤ length c
  pub among : there ≤ n

-- the area of the clocks, and counts that fit
pub record ClocksThere (c : List ℕ) (processors pages locks : ℕ) : Type 0 where
  pub clocks : length c ≡ clock_area
  pub processors_fit : processors ≤ processor_limit
  pub pages_fit : pages ≤ page_limit
  pub locks_fit : locks ≤ lock_limit

-- the area of the clocks and one processor of eight
pub record ClocksOne (c : List ℕ) (pages k : ℕ) : Type 0 where
  pub clocks : length c ≡ clock_area
  pub pages_fit : pages ≤ page_limit
  pub processor : k < processor_limit

-- the area of the clocks, the own entries and one processor of eight
pub record IntervalsOne (own c : List ℕ) (k : ℕ) : Type 0 where
  pub clocks : length c ≡ clock_area
  pub own_fit : OwnFit own
  pub processor : k < processor_limit

-- the area of the words, the first row of the copies or of the twins, and one processor of eight
pub record WordsOne (w : List ℕ) (first pages k : ℕ) : Type 0 where
  pub words : length w ≡ word_area
  pub rows : first ≤ copy_limit
  pub pages_fit : pages ≤ page_limit
  pub processor : k < processor_limit

-- the four areas, and counts that fit
pub record AreasThere (c w r m : List ℕ) (processors pages locks standing : ℕ) : Type 0 where
  pub lent : Lent c w r m
  pub counts : CountsFit processors pages locks standing
