-- What the loop over words leaves to show. Assumes nothing.
use Prim.Native.Nat.{ℕ, ◌+◌, ◌-◌, ◌<◌}
use native.Mathlib.Omega.{arith}
use mathlib.Core.Path.{◌≡◌, ◌∙◌}
use mathlib.Core.Bool.{Bool, ◌&&◌}
use mathlib.Core.List.{List}
use lib.ListN.{length, get_or, take, drop}
use lib.Dec.{eqb}
use Rattle.std.proofs.lemmas.List.{get_or-drop, get_or-take, length-take}
use Rattle.inorder.proofs.ClockTests.{every_more}
use Rattle.lists.specs.Tables.{every}
use Rattle.inorder_marks.specs.inner.Tests.{zero_at}

-- a word of a part of the area
part_at : (w : List ℕ) (at n i : ℕ) → i < length (take (at + n - at) (drop at w)) → get_or (take (at + n - at) (drop at w)) i 0 ≡ get_or w (at + i) 0
part_at w at n i h = get_or-take (at + n - at) (drop at w) i 0 (omega (arith, length-take (at + n - at) (drop at w))) ∙ get_or-drop at w i 0

-- one word more is tested
pub word_more : (w : List ℕ) (at n i : ℕ) (all : Bool) → i < length (take (at + n - at) (drop at w)) → all ≡ every i (zero_at w at)
    → (all && eqb (get_or (take (at + n - at) (drop at w)) i 0) 0) ≡ every (i + 1) (zero_at w at)
unfolding zero_at
word_more w at n i all h e = rw (part_at w at n i h) (every_more (zero_at w at) i all e)
