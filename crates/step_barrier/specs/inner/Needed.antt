-- What the parts of an arrival ask of one another. Assumes nothing.
use Rattle.std.specs.Prelude.{ℕ, ◌≤◌, ◌≡◌, false, List, length}
use Rattle.limits.specs.Limits.{processor_limit}
use Rattle.limits.specs.inner.Sizes.{clock_area, mark_area, word_area}
use Rattle.rules.specs.Lines.{waits}
use Rattle.rules.specs.Refusals.{holds_any}
use Rattle.rules.specs.State.{mainframe, has_arrived}
use Rattle.rules.specs.Steps.{round_done}
use Rattle.rules.proofs.inorder.Facts.{InOrder}
use Rattle.layout.specs.Areas.{state_in}
use Rattle.layout.specs.inner.Needed.{Acts, Lent}
use Rattle.layout.specs.inner.Marks.{processor_count}
use Rattle.fetch_index.specs.inner.Index.{IndexKept}
use Rattle.step_barrier.specs.inner.Effects.{RoundDone}

-- p is a processor of the state in order that the areas hold, has not arrived, does not wait and holds no lock
pub record Arrives (c w r m : List ℕ) (p : ℕ) : Type 0 where
  pub acts : Acts c w r m p
  pub not_arrived : has_arrived (state_in mainframe c w r m) p ≡ false
  pub not_waiting : waits (state_in mainframe c w r m).marks p ≡ false
  pub no_lock : holds_any mainframe (state_in mainframe c w r m) p ≡ false

-- the same, and the index is kept
pub record ArrivesKept (c w r m : List ℕ) (p : ℕ) (x : List ℕ) : Type 0 where
  pub arrives : Arrives c w r m p
  pub kept : IndexKept c r m x

-- the areas have their sizes, and the state in them is in order once its round is completed
pub record RoundComplete (c w r m : List ℕ) : Type 0 where
  pub lent : Lent c w r m
  pub some : 1 ≤ processor_count m
  pub few : processor_count m ≤ processor_limit
  pub in_order : InOrder mainframe (round_done (state_in mainframe c w r m))

-- the same, and the index is kept once it is
pub record CompleteKept (c w r m x : List ℕ) : Type 0 where
  pub complete : RoundComplete c w r m
  pub kept : (c' w' m' : List ℕ) → RoundDone c w m c' w' m' → IndexKept c' r m' x

-- the area of the clocks, with a row for each of n processors
pub record ClocksOfFirst (c : List ℕ) (n : ℕ) : Type 0 where
  pub clocks : length c ≡ clock_area
  pub few : n ≤ processor_limit

-- the areas of the clocks, of the words and of the marks, with a place for each processor, of which there is one
pub record RoundThere (c w m : List ℕ) : Type 0 where
  pub clocks : length c ≡ clock_area
  pub words : length w ≡ word_area
  pub marks : length m ≡ mark_area
  pub some : 1 ≤ processor_count m
  pub few : processor_count m ≤ processor_limit
