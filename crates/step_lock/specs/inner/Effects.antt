-- What taking and freeing a lock and their parts leave in the lent areas, in the words of the rules: the state that the areas hold, and
-- that they keep their sizes. Where a part does not touch an area, it holds whatever that area has. Assumes nothing.
use Rattle.std.specs.Prelude.{ℕ, ◌≡◌, cond, List, length, eqb}
use Rattle.limits.specs.inner.Sizes.{clock_area, mark_area}
use Rattle.rules.specs.State.{mainframe, Processor, Lock, Clocks, State, holder, with_clocks, with_marks}
use Rattle.rules.specs.Lines.{first_in_line, lock_asked, lock_handed}
use Rattle.rules.specs.Steps.{learned, lock_told, waiter_told}
use Rattle.layout.specs.Areas.{clocks_in, state_in}

-- "the card becomes holder; its clock joins the lock's", or it waits
unfoldable pub lock_taken : State → ℕ → ℕ → State
lock_taken s p l =
    with_clocks (with_marks s (lock_asked s.counts.processors s.marks l p)) (cond (eqb (holder s l) 0) (learned s.clocks (Processor p) (Lock l)) s.clocks)

-- "the lock's clock becomes the card's", and the lock goes to the longest waiter, which learns it, or to nobody
unfoldable pub lock_freed : State → ℕ → ℕ → State
lock_freed s p l =
    with_clocks (with_marks s (lock_handed s.counts.processors s.marks l))
    (waiter_told (lock_told s.clocks p l) (first_in_line s.counts.processors s.marks l) l)

-- the area holds these clocks
pub record ClocksBecome (c' : List ℕ) (k : Clocks) : Type 0 where
  pub long : length c' ≡ clock_area
  pub is : clocks_in mainframe c' ≡ k

-- p asked for lock l
pub record LockTaken (c m c' m' : List ℕ) (p l : ℕ) : Type 0 where
  pub clocks : length c' ≡ clock_area
  pub marks : length m' ≡ mark_area
  pub is : (w r : List ℕ) → state_in mainframe c' w r m' ≡ lock_taken (state_in mainframe c w r m) p l

-- p freed lock l
pub record LockFreed (c m c' m' : List ℕ) (p l : ℕ) : Type 0 where
  pub clocks : length c' ≡ clock_area
  pub marks : length m' ≡ mark_area
  pub is : (w r : List ℕ) → state_in mainframe c' w r m' ≡ lock_freed (state_in mainframe c w r m) p l
