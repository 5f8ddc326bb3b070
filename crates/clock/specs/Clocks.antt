-- Vector clocks as lists of entries, one a processor (document 01, "The mainframe"). A list of any length is a clock, and an entry
-- past its end is 0. Assumes nothing.
use Rattle.std.specs.Prelude.{ℕ, zero, suc, ◌+◌, max, Bool, true, ◌&&◌, List, [], ◌∷◌, get_or, replicate, leb}

-- "the clock of zeros", for n processors
unfoldable pub zeros : ℕ → List ℕ
zeros n = replicate n 0

-- "the join (larger entry at each place)"
unfoldable pub joined : List ℕ → List ℕ → List ℕ
joined [] b = b
joined (x ∷ a) [] = x ∷ a
joined (x ∷ a) (y ∷ b) = max x y ∷ joined a b

-- "the test whether one covers another": no entry of the second exceeds that of the first
unfoldable pub covered : List ℕ → List ℕ → Bool
covered a [] = true
covered [] (y ∷ b) = leb y 0 && covered [] b
covered (x ∷ a) (y ∷ b) = leb y x && covered a b

-- the entry of processor p, counted from 1; nobody, 0, has none
unfoldable pub entry_of : List ℕ → ℕ → ℕ
entry_of c zero = 0
entry_of c (suc q) = get_or c q 0

-- "the sum of its interval's clock"
unfoldable pub sum_of : List ℕ → ℕ
sum_of [] = 0
sum_of (x ∷ c) = x + sum_of c
