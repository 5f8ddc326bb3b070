-- What the functions ask: the marks of a state in order, and of one another what the rows above have left. Assumes nothing.
use Rattle.std.specs.Prelude.{◌≡◌, ℕ, ◌+◌, ◌<◌, ◌≤◌, false, List, length, slice_index}
use Rattle.limits.specs.Limits.{lock_limit, page_limit, processor_limit}
use Rattle.limits.specs.inner.Sizes.{bound_area, kind_bounds, kind_limit, mark_area, word_limit}
use Rattle.rules.specs.InOrder.{present_holder}
use Rattle.rules.specs.State.{dirty_at, Applied}
use Rattle.layout.specs.inner.Marks.{processor_count, page_count, lock_count}
use Rattle.refusals.specs.inner.Parts.{seen}
use Rattle.refusals.specs.inner.Bounds.{object_bound_of, value_bound_of}

-- no absent page is dirty, and no page of an absent processor
pub record AbsentClean (m : List ℕ) : Type 0 where
  pub clean : (p g : ℕ) → present_holder (seen m) (Applied p g) ≡ false → dirty_at (seen m).pages p g ≡ false

-- the area of the marks, counts in range in it, and nothing dirty that is absent
pub record MarksCountable (m : List ℕ) : Type 0 where
  pub marks : length m ≡ mark_area
  pub processors : processor_count m ≤ processor_limit
  pub pages : page_count m ≤ page_limit
  pub locks : lock_count m ≤ lock_limit
  pub absent_clean : AbsentClean m

-- the bounds of the kinds for a mainframe with these marks
pub record BoundsOf (m bounds : List ℕ) : Type 0 where
  pub long : length bounds ≡ bound_area
  pub object : (k : ℕ) → k ≤ kind_limit → slice_index bounds k ≡ object_bound_of (seen m) k
  pub value : (k : ℕ) → k ≤ kind_limit → slice_index bounds (kind_bounds + k) ≡ value_bound_of k

-- the marks, and a processor that has marks
pub record PagesOf (m : List ℕ) (p : ℕ) : Type 0 where
  pub counted : MarksCountable m
  pub from : 1 ≤ p
  pub to : p ≤ processor_limit

-- a step whose word or lock has a place
pub record FittingStep (m : List ℕ) (kind p object : ℕ) : Type 0 where
  pub by : PagesOf m p
  pub word : kind ≡ 2 → object < word_limit
  pub lock : 3 ≤ kind → kind ≤ 4 → object < lock_limit

-- a write to a word that has a place
pub record WriteOf (m : List ℕ) (p w : ℕ) : Type 0 where
  pub by : PagesOf m p
  pub word : w < word_limit
