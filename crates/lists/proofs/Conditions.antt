-- A test of two or of several conditions as facts about each of them. Assumes nothing.
use Prim.Native.Nat.{ℕ, zero, suc}
use mathlib.Core.Path.{◌≡◌, refl, sym}
use mathlib.Core.Bool.{Bool, true, false, ◌&&◌, ◌||◌, and-eq-true_iff, false≢true}
use mathlib.Core.Logic.{◌⊎◌, inl, inr}
use mathlib.Core.List.{List, [], ◌∷◌}
use lib.ListN.{get_or}

-- a conjunction has its first condition
pub and_left : (a b : Bool) → (a && b) ≡ true → a ≡ true
and_left a b e = ((and-eq-true_iff a b).0 e).0

-- and its second
pub and_right : (a b : Bool) → (a && b) ≡ true → b ≡ true
and_right a b e = ((and-eq-true_iff a b).0 e).1

-- two conditions make their conjunction
pub and_both : (a b : Bool) → a ≡ true → b ≡ true → (a && b) ≡ true
and_both a b p q = (and-eq-true_iff a b).1 (p, q)

-- several conditions: a list of them, in the order in which they are joined
joined_to : Bool → List Bool → Bool
joined_to a [] = a
joined_to a (b ∷ l) = joined_to (a && b) l

-- all of them, joined from the left as `&&` joins
unfoldable pub conjoined : List Bool → Bool
unfolding joined_to
conjoined [] = true
conjoined (b ∷ l) = joined_to b l

-- what follows from each of them
unfoldable pub Given : List Bool → Type 0 → Type 0
Given [] A = A
Given (b ∷ l) A = b ≡ true → Given l A

first_at : (a : Bool) (l : List Bool) → joined_to a l ≡ true → a ≡ true
unfolding joined_to
first_at a [] e = e
first_at a (b ∷ l) e = and_left a b (first_at (a && b) l e)

other_at : (a : Bool) (l : List Bool) (i : ℕ) → joined_to a l ≡ true → get_or l i true ≡ true
unfolding joined_to
other_at a [] i e = refl
other_at a (b ∷ l) zero e = and_right a b (first_at (a && b) l e)
other_at a (b ∷ l) (suc i) e = other_at (a && b) l i e

-- a conjunction has each of its conditions, by its number
pub conjoined_at : (l : List Bool) (i : ℕ) → conjoined l ≡ true → get_or l i true ≡ true
unfolding conjoined
conjoined_at [] i e = refl
conjoined_at (b ∷ l) zero e = first_at b l e
conjoined_at (b ∷ l) (suc i) e = other_at b l i e

joined_to_holds : (a : Bool) (l : List Bool) → a ≡ true → Given l (joined_to a l ≡ true)
unfolding joined_to Given
joined_to_holds a [] e = e
joined_to_holds a (b ∷ l) e = λ k. joined_to_holds (a && b) l (and_both a b e k)

-- conditions that all pass make it
pub conjoined_holds : (l : List Bool) → Given l (conjoined l ≡ true)
unfolding conjoined Given
conjoined_holds [] = refl
conjoined_holds (b ∷ l) = λ e. joined_to_holds b l e

-- where the first condition fails the second holds
pub or_says : (a b : Bool) → (a || b) ≡ true → a ≡ false → b ≡ true
or_says true b e h = absurd (false≢true (sym h))
or_says false b e h = e

-- it is enough that the second holds where the first fails
pub or_when : (a b : Bool) → (a ≡ false → b ≡ true) → (a || b) ≡ true
or_when true b h = refl
or_when false b h = h refl

-- one of the two holds
pub or_either : (a b : Bool) → (a || b) ≡ true → (a ≡ true) ⊎ (b ≡ true)
or_either true b e = inl refl
or_either false b e = inr e

-- and one of the two is enough
pub either_or : (a b : Bool) → (a ≡ true) ⊎ (b ≡ true) → (a || b) ≡ true
either_or true b h = refl
either_or false b (inl e) = absurd (false≢true e)
either_or false b (inr e) = e
