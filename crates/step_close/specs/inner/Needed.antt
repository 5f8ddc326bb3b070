-- What closing an interval asks, and what its parts ask of one another. Assumes nothing.
use Rattle.std.specs.Prelude.{ℕ, ◌+◌, ◌≤◌, ◌<◌, ◌≡◌, true, cond, List, length}
use Rattle.lists.specs.Tables.{total}
use Rattle.limits.specs.Limits.{interval_limit, page_limit, page_width, processor_limit, record_limit}
use Rattle.limits.specs.inner.Sizes.{clock_area, diff_limit, record_area, word_area}
use Rattle.clock.specs.Clocks.{entry_of}
use Rattle.rules.specs.State.{mainframe, dirty_at, own}
use Rattle.rules.specs.Close.{any_dirty}
use Rattle.layout.specs.Areas.{state_in, standing_count}
use Rattle.layout.specs.inner.Marks.{page_count}
use Rattle.layout.specs.inner.Needed.{Lent, Acts}

-- what an accepted step of p finds, where p has a dirty page
pub record ActsDirty (c w r m : List ℕ) (p : ℕ) : Type 0 where
  pub acts : Acts c w r m p
  pub dirty : any_dirty (state_in mainframe c w r m) p ≡ true

-- the interval of p has begun: its pages have their places, its own entry is an interval's, and each of its dirty pages has a slot
pub record Closable (c w r m : List ℕ) (p : ℕ) : Type 0 where
  pub lent : Lent c w r m
  pub from : 1 ≤ p
  pub to : p ≤ processor_limit
  pub pages : page_count m ≤ page_limit
  pub own_fits_lem : own (state_in mainframe c w r m) p ≤ interval_limit
  pub room : standing_count m + total (page_count m) (λ g. cond (dirty_at (state_in mainframe c w r m).pages p g) 1 0) ≤ record_limit

-- page g of p can be closed: it has its place, and if it is dirty there is a slot for its record
pub record PageClosable (c w r m : List ℕ) (p g : ℕ) : Type 0 where
  pub lent : Lent c w r m
  pub from : 1 ≤ p
  pub to : p ≤ processor_limit
  pub page : g < page_limit
  pub own_fits_lem : own (state_in mainframe c w r m) p ≤ interval_limit
  pub room : dirty_at (state_in mainframe c w r m).pages p g ≡ true → standing_count m < record_limit

-- the same where it is dirty
pub record ChangeReady (c w r m : List ℕ) (p g : ℕ) : Type 0 where
  pub lent : Lent c w r m
  pub from : 1 ≤ p
  pub to : p ≤ processor_limit
  pub page : g < page_limit
  pub own_fits_lem : own (state_in mainframe c w r m) p ≤ interval_limit
  pub room : standing_count m < record_limit

-- a slot, and numbers of a processor, an interval and a page that fit its bytes
pub record NoticeSlotThere (r : List ℕ) (p i g slot : ℕ) : Type 0 where
  pub records : length r ≡ record_area
  pub processor : p ≤ processor_limit
  pub interval : i < 256
  pub page : g < page_limit
  pub place : slot < record_limit

-- page g of p and a slot, in areas of words and records of the right sizes
pub record PageSlotThere (w r : List ℕ) (p g slot : ℕ) : Type 0 where
  pub words : length w ≡ word_area
  pub records : length r ≡ record_area
  pub from : 1 ≤ p
  pub to : p ≤ processor_limit
  pub page : g < page_limit
  pub place : slot < record_limit

-- two whole pages, and room for every diff behind its length
pub record CountedFits (old new out : List ℕ) : Type 0 where
  pub old_whole : length old ≡ page_width
  pub new_whole : length new ≡ page_width
  pub room : 1 + diff_limit ≤ length out

-- two whole pages and room for every diff
pub record DiffFits (old new out : List ℕ) : Type 0 where
  pub old_whole : length old ≡ page_width
  pub new_whole : length new ≡ page_width
  pub room : diff_limit ≤ length out

-- a processor whose entry in a clock can rise in its byte
pub record Raisable (v : List ℕ) (p : ℕ) : Type 0 where
  pub from : 1 ≤ p
  pub to : p ≤ processor_limit
  pub left : entry_of v p < interval_limit

-- the area of the clocks, and a processor in it that has an interval left
pub record Tickable (c : List ℕ) (p : ℕ) : Type 0 where
  pub clocks : length c ≡ clock_area
  pub from : 1 ≤ p
  pub to : p ≤ processor_limit
  pub left : (w r m : List ℕ) → own (state_in mainframe c w r m) p < interval_limit
