-- The words that a byte string sets, as the digits of one number in base two. Assumes nothing.
use Rattle.std.specs.Prelude.{ℕ, ◌+◌, ◌*◌, List, [], ◌∷◌}
use Rattle.std.proofs.Math.Option.{Option, none, some}

-- digit o is 1 where the word at offset o is set
unfoldable pub mask_of : List (Option ℕ) → ℕ
mask_of [] = 0
mask_of (none ∷ d) = 2 * mask_of d
mask_of (some v ∷ d) = 1 + 2 * mask_of d
