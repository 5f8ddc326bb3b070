-- What the tests of the marks ask of one another and of their callers: places that lie within an area, and counts in their range.
-- Assumes nothing.
use Rattle.std.specs.Prelude.{ℕ, ◌+◌, ◌≤◌, ◌<◌, ◌≡◌, List, length}
use Rattle.limits.specs.Limits.{lock_limit, page_limit, processor_limit, record_limit}
use Rattle.limits.specs.inner.Sizes.{mark_area}

-- n places from `at` on lie within the area
pub record PlacesThere (l : List ℕ) (at n : ℕ) : Type 0 where
  pub within : at + n ≤ length l

-- the counts are at most what there is place for
pub record CountsFit (processors pages locks standing : ℕ) : Type 0 where
  pub processors_fit : processors ≤ processor_limit
  pub pages_fit : pages ≤ page_limit
  pub locks_fit : locks ≤ lock_limit
  pub standing_fit : standing ≤ record_limit

-- the area of the marks and one processor of eight
pub record MarksOne (m : List ℕ) (pages k : ℕ) : Type 0 where
  pub marks : length m ≡ mark_area
  pub pages_fit : pages ≤ page_limit
  pub processor : k < processor_limit

-- the area of the marks and two processors of eight
pub record MarksTwo (m : List ℕ) (k j : ℕ) : Type 0 where
  pub marks : length m ≡ mark_area
  pub processor : k < processor_limit
  pub other : j < processor_limit

-- the area of the marks, counts that fit, and one processor of eight
pub record WaiterOne (m : List ℕ) (processors locks k : ℕ) : Type 0 where
  pub marks : length m ≡ mark_area
  pub processors_fit : processors ≤ processor_limit
  pub locks_fit : locks ≤ lock_limit
  pub processor : k < processor_limit

-- the area of the marks, a count of processors that fits, and a lock of sixteen
pub record HolderThere (m : List ℕ) (processors l : ℕ) : Type 0 where
  pub marks : length m ≡ mark_area
  pub processors_fit : processors ≤ processor_limit
  pub lock : l < lock_limit

-- the area of the marks, and counts of processors and of locks that fit
pub record HoldersThere (m : List ℕ) (processors locks : ℕ) : Type 0 where
  pub marks : length m ≡ mark_area
  pub processors_fit : processors ≤ processor_limit
  pub locks_fit : locks ≤ lock_limit

-- the area of the marks, and counts that fit
pub record MarksThere (m : List ℕ) (processors pages locks standing : ℕ) : Type 0 where
  pub marks : length m ≡ mark_area
  pub counts : CountsFit processors pages locks standing
