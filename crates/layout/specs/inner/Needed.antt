-- What the functions on lent memory ask of one another and promise: areas of the fixed sizes, the state in them, and rows and places that lie within them. Assumes nothing.
use Rattle.std.specs.Prelude.{ℕ, ◌+◌, ◌*◌, ◌≤◌, ◌<◌, ◌≡◌, List, length}
use Rattle.limits.specs.Limits.{interval_limit, lock_limit, page_limit, processor_limit}
use Rattle.limits.specs.inner.Sizes.{clock_area, clock_row_limit, diff_limit, mark_area, record_area, slot_width, word_area}
use Rattle.rules.specs.State.{mainframe, State, own}
use Rattle.rules.proofs.inorder.Facts.{InOrder}
use Rattle.layout.specs.Areas.{state_in}
use Rattle.layout.specs.inner.Marks.{slot_length}

-- the four areas have the sizes of the mainframe's state
pub record Lent (c w r m : List ℕ) : Type 0 where
  pub clocks : length c ≡ clock_area
  pub words : length w ≡ word_area
  pub records : length r ≡ record_area
  pub marks : length m ≡ mark_area

-- they have their sizes, and the state in them is in order
pub record Ready (c w r m : List ℕ) : Type 0 where
  pub lent : Lent c w r m
  pub in_order : InOrder mainframe (state_in mainframe c w r m)

-- they have their sizes, the state in them is in order, and p is one of its processors
pub record Acts (c w r m : List ℕ) (p : ℕ) : Type 0 where
  pub lent : Lent c w r m
  pub in_order : InOrder mainframe (state_in mainframe c w r m)
  pub from : 1 ≤ p
  pub to : p ≤ (state_in mainframe c w r m).counts.processors

-- they have their sizes and hold the state s
pub record Holds (c w r m : List ℕ) (s : State) : Type 0 where
  pub lent : Lent c w r m
  pub is : state_in mainframe c w r m ≡ s

-- the row-th row of n elements lies within the area
pub record RowThere {A : Type 0} (n : ℕ) (l : List A) (row : ℕ) : Type 0 where
  pub within : n * row + n ≤ length l

-- a processor and a page for which the tables have a place
pub record OnPage (p g : ℕ) : Type 0 where
  pub from : 1 ≤ p
  pub to : p ≤ processor_limit
  pub page : g < page_limit

-- a processor and an interval for which the tables have a place
pub record MadeInterval (p i : ℕ) : Type 0 where
  pub from : 1 ≤ p
  pub to : p ≤ processor_limit
  pub first : 1 ≤ i
  pub last : i ≤ interval_limit

-- e is the own entry of p, where c is the area of the clocks
pub record OwnEntry (c : List ℕ) (p e : ℕ) : Type 0 where
  pub is : (w r m : List ℕ) → e ≡ own (state_in mainframe c w r m) p

-- two rows of the area of the clocks
pub record TwoRows (c : List ℕ) (to from : ℕ) : Type 0 where
  pub clocks : length c ≡ clock_area
  pub to_there : to < clock_row_limit
  pub from_there : from < clock_row_limit

-- the area of the clocks, and a processor that has rows in it
pub record ClocksOf (c : List ℕ) (p : ℕ) : Type 0 where
  pub clocks : length c ≡ clock_area
  pub from : 1 ≤ p
  pub to : p ≤ processor_limit

-- the area of the marks, and a processor that has marks in it
pub record MarksOf (m : List ℕ) (p : ℕ) : Type 0 where
  pub marks : length m ≡ mark_area
  pub from : 1 ≤ p
  pub to : p ≤ processor_limit

-- the area of the marks, and a processor and page that have a dirty mark in it
pub record PageMark (m : List ℕ) (p g : ℕ) : Type 0 where
  pub marks : length m ≡ mark_area
  pub from : 1 ≤ p
  pub to : p ≤ processor_limit
  pub page : g < page_limit

-- the area of the marks, and a lock that has a holder in it
pub record LockMark (m : List ℕ) (l : ℕ) : Type 0 where
  pub marks : length m ≡ mark_area
  pub lock : l < lock_limit

-- a slot of the area of the records whose diff has at most its greatest length
pub record DiffIn (r : List ℕ) (slot : ℕ) : Type 0 where
  pub there : RowThere slot_width r slot
  pub length_fits : slot_length r slot ≤ diff_limit

-- page g of p, in areas of words and marks of the right sizes
pub record PageThere (w m : List ℕ) (p g : ℕ) : Type 0 where
  pub words : length w ≡ word_area
  pub marks : length m ≡ mark_area
  pub from : 1 ≤ p
  pub to : p ≤ processor_limit
  pub page : g < page_limit
