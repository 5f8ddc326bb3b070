-- What taking and freeing a lock ask of the memory that they are given, and what their parts ask of one another. Assumes nothing.
use Rattle.std.specs.Prelude.{ℕ, ◌≤◌, ◌<◌, ◌≡◌, List, length}
use Rattle.limits.specs.Limits.{lock_limit, processor_limit}
use Rattle.limits.specs.inner.Sizes.{clock_area}
use Rattle.rules.specs.State.{mainframe}
use Rattle.layout.specs.Areas.{state_in}
use Rattle.layout.specs.inner.Needed.{Acts}
use Rattle.lock_line.specs.inner.Needed.{InLine}

-- p acts, and l is a present lock
pub record ActsOnLock (c w r m : List ℕ) (p l : ℕ) : Type 0 where
  pub acts : Acts c w r m p
  pub lock : l < (state_in mainframe c w r m).counts.locks

-- lock l and processor p, or nobody, in an area of clocks of the right size
pub record LockClocks (c : List ℕ) (p l : ℕ) : Type 0 where
  pub clocks : length c ≡ clock_area
  pub to : p ≤ processor_limit
  pub lock : l < lock_limit

-- the clocks, and the line of the lock with a processor in the marks
pub record LockThere (c m : List ℕ) (p l : ℕ) : Type 0 where
  pub clocks : length c ≡ clock_area
  pub line : InLine m l p
