-- What a collection and its parts ask of the memory that they are given. Assumes nothing.
use Rattle.std.specs.Prelude.{ℕ, ◌≤◌, ◌<◌, ◌≡◌, List, length}
use Rattle.limits.specs.Limits.{interval_limit, processor_limit}
use Rattle.limits.specs.inner.Sizes.{clock_area, mark_area}
use Rattle.clock.specs.Clocks.{entry_of}
use Rattle.rules.specs.State.{mainframe, Processor, Interval, clock_of}
use Rattle.layout.specs.Areas.{clocks_in, state_in}
use Rattle.layout.specs.inner.Marks.{processor_count}
use Rattle.layout.specs.inner.Needed.{Ready, ClocksOf}
use Rattle.fetch_index.specs.inner.Index.{IndexKept}

-- the areas hold a state in order, and the index is kept
pub record ReadyKept (c w r m x : List ℕ) : Type 0 where
  pub ready : Ready c w r m
  pub kept : IndexKept c r m x

-- the same, and p is one of its processors
pub record ProcessorFetches (c w r m : List ℕ) (p : ℕ) (x : List ℕ) : Type 0 where
  pub ready : Ready c w r m
  pub kept : IndexKept c r m x
  pub from : 1 ≤ p
  pub to : p ≤ (state_in mainframe c w r m).counts.processors

-- ---- clearing the clocks

-- how many intervals processor p has made: its own entry in the area of the clocks
unfoldable pub made_intervals : List ℕ → ℕ → ℕ
made_intervals c p = entry_of (clock_of (clocks_in mainframe c) (Processor p)) p

-- the area of the clocks, and a processor whose made intervals have rows in it
pub record MadeRows (c : List ℕ) (p : ℕ) : Type 0 where
  pub there : ClocksOf c p
  pub fits : made_intervals c p ≤ interval_limit

-- the area of the clocks of n processors: their made intervals have rows in it, absent processors made none, and the clock kept for an
-- interval that was not made is zeros
pub record OnlyMade (c : List ℕ) (n : ℕ) : Type 0 where
  pub clocks : length c ≡ clock_area
  pub few : n ≤ processor_limit
  pub fits : (p : ℕ) → made_intervals c p ≤ interval_limit
  pub absent : (p : ℕ) → n < p → made_intervals c p ≡ 0
  pub later : (p i q : ℕ) → made_intervals c p < i → entry_of (clock_of (clocks_in mainframe c) (Interval p i)) q ≡ 0

-- the areas of the clocks and of the marks, of a state in order
pub record Emptiable (c m : List ℕ) : Type 0 where
  pub clocks : OnlyMade c (processor_count m)
  pub marks : length m ≡ mark_area
