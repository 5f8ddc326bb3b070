-- What the tests of the records ask of one another and of their callers: slots that lie within the area, and numbers in their range.
-- Assumes nothing.
use Rattle.std.specs.Prelude.{ℕ, ◌≤◌, ◌<◌, ◌≡◌, true, List, length}
use Rattle.lists.specs.Tables.{every}
use Rattle.limits.specs.Limits.{interval_limit, page_limit, processor_limit, record_limit}
use Rattle.limits.specs.inner.Sizes.{record_area}
use Rattle.layout.specs.inner.Marks.{slot_interval, slot_page, slot_processor}
use Rattle.inorder_records.specs.inner.Tests.{own_fits}

-- own entries of eight processors, each at most 63
pub record OwnFit (own : List ℕ) : Type 0 where
  pub fit : every processor_limit (own_fits own) ≡ true

-- the area of the records and one slot of it
pub record SlotThere (r : List ℕ) (i : ℕ) : Type 0 where
  pub records : length r ≡ record_area
  pub slot : i < record_limit

-- the area of the records and so many slots of it
pub record SlotsThere (r : List ℕ) (n : ℕ) : Type 0 where
  pub records : length r ≡ record_area
  pub slots : n ≤ record_limit

-- the numbers of record i have their place in a table of 4608
pub record NoticeFits (r : List ℕ) (i : ℕ) : Type 0 where
  pub processor : slot_processor r i ≤ processor_limit
  pub interval : slot_interval r i ≤ interval_limit
  pub page : slot_page r i < page_limit

-- so do those of every record
pub record NoticesFit (r : List ℕ) (n : ℕ) : Type 0 where
  pub at : (i : ℕ) → i < n → NoticeFits r i
