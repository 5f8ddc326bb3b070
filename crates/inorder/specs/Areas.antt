-- Whether lent memory holds a state in order. Assumes nothing.
use Rattle.std.specs.Prelude.{ℕ, ◌≡◌, Bool, ◌&&◌, List}
use Rattle.rules.specs.State.{mainframe}
use Rattle.rules.specs.InOrder.{is_in_order}
use Rattle.layout.specs.Areas.{state_in, sizes_right}

-- the four areas have the fixed sizes, and the state that they hold is in order
unfoldable pub areas_in_order : List ℕ → List ℕ → List ℕ → List ℕ → Bool
areas_in_order c w r m = sizes_right mainframe c w r m && is_in_order mainframe (state_in mainframe c w r m)

-- b says whether they are
pub record OrderIs (b : Bool) (c w r m : List ℕ) : Type 0 where
  pub is : b ≡ areas_in_order c w r m
