-- Lists as tables with a place for each number from 0 on, and tests and sums over the numbers below a bound. Assumes nothing.
use Rattle.std.specs.Prelude.{ℕ, zero, suc, ◌+◌, Bool, true, false, cond, ◌&&◌, ◌||◌, List, [], ◌∷◌, get_or, eqb}

-- a list with v at place i; where it is too short it is lengthened with d up to there
unfoldable pub put : {A : Type 0} → A → List A → ℕ → A → List A
put d [] zero v = v ∷ []
put d [] (suc i) v = d ∷ put d [] i v
put d (x ∷ l) zero v = v ∷ l
put d (x ∷ l) (suc i) v = x ∷ put d l i v

-- the place (p, g) of a table of rows; d where there is none
abbrev pub cell : {A : Type 0} → A → List (List A) → ℕ → ℕ → A
cell d t p g = get_or (get_or t p []) g d

-- a table of rows with v at the place (p, g)
unfoldable pub put_cell : {A : Type 0} → A → List (List A) → ℕ → ℕ → A → List (List A)
put_cell d t p g v = put [] t p (put d (get_or t p []) g v)

-- whether a test passes for every number below n
unfoldable pub every : ℕ → (ℕ → Bool) → Bool
every zero t = true
every (suc n) t = every n t && t n

-- whether it passes for one of them
unfoldable pub any : ℕ → (ℕ → Bool) → Bool
any zero t = false
any (suc n) t = any n t || t n

-- the sum of f over the numbers below n
unfoldable pub total : ℕ → (ℕ → ℕ) → ℕ
total zero f = 0
total (suc n) f = total n f + f n

-- the first number below n that passes a test, plus 1; 0 if none does
unfoldable pub first_of : ℕ → (ℕ → Bool) → ℕ
first_of zero t = 0
first_of (suc n) t = cond (eqb (first_of n t) 0) (cond (t n) (suc n) 0) (first_of n t)

-- the list of f 0 to f (n - 1)
unfoldable pub tabulate : {A : Type 0} → ℕ → (ℕ → A) → List A
tabulate zero f = []
tabulate (suc n) f = f 0 ∷ tabulate n (λ k. f (suc k))

-- the elements that pass a test, in their order
unfoldable pub select : {A : Type 0} → (A → Bool) → List A → List A
select t [] = []
select t (x ∷ l) = cond (t x) (x ∷ select t l) (select t l)

-- a sorted list with one more element at its place
unfoldable pub insert_by : {A : Type 0} → (A → A → Bool) → A → List A → List A
insert_by earlier x [] = x ∷ []
insert_by earlier x (y ∷ l) = cond (earlier x y) (x ∷ y ∷ l) (y ∷ insert_by earlier x l)

-- the elements sorted, the earliest first
unfoldable pub sort_by : {A : Type 0} → (A → A → Bool) → List A → List A
sort_by earlier [] = []
sort_by earlier (x ∷ l) = insert_by earlier x (sort_by earlier l)
