-- Whether two lists of numbers differ: how the entries of two clocks are compared. Assumes nothing.
use Rattle.std.specs.Prelude.{ℕ, Bool, true, false, not, ◌||◌, List, [], ◌∷◌, eqb}

unfoldable pub differ : List ℕ → List ℕ → Bool
differ [] [] = false
differ [] (y ∷ b) = true
differ (x ∷ a) [] = true
differ (x ∷ a) (y ∷ b) = not (eqb x y) || differ a b
