-- What `in_order` leaves to show: an area of another size is not in order, and in areas of the fixed sizes the tests on places decide.
-- Assumes nothing.
use Prim.Native.Nat.{ℕ}
use mathlib.Core.Path.{◌≡◌, refl, sym, ap}
use mathlib.Core.Bool.{Bool, true, false, ◌&&◌}
use mathlib.Core.List.{List}
use borrow.Author.Rules.{rules}
use Rattle.rules.specs.InOrder.{is_in_order}
use Rattle.rules.specs.State.{mainframe}
use Rattle.layout.specs.Areas.{areas, right_sizes, state_in}
use Rattle.layout.proofs.Encoding.{sized_lent}
use Rattle.inorder.specs.Areas.{areas_in_order}
use Rattle.inorder.specs.inner.Tests.{areas_hold}
use Rattle.inorder.proofs.OrderWhen.{areas_hold_in_order}

-- the sizes decide first, then the tests on places
pub order_is : (c w r m : List ℕ) → areas_in_order c w r m ≡ (right_sizes (areas c w r m) && areas_hold c w r m)
unfolding areas_in_order right_sizes areas
order_is c w r m = go (right_sizes (areas c w r m)) refl
  where
    go : (b : Bool) → right_sizes (areas c w r m) ≡ b → areas_in_order c w r m ≡ (b && areas_hold c w r m)
    go true e = sym (areas_hold_in_order c w r m (sized_lent c w r m e))
    go false e = ap (λ (b : Bool). b && is_in_order mainframe (state_in mainframe c w r m)) e

pub ruleset order_laws = (order_is, sized_lent, rules)
