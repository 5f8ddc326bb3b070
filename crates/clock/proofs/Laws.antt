-- The algebra of clocks of any length: the join is the least upper bound, `covered` is the order of the entries, and the sum grows with it.
-- Assumes nothing.
use Prim.Native.Nat.{ℕ, zero, suc, ◌≤◌, ◌<◌, max}
use native.Mathlib.Nat.{suc_inj, lt_of_not-le}
use native.Mathlib.Omega.{arith}
use mathlib.Core.Bool.{true, and-eq-true_iff}
use mathlib.Core.List.{List, [], ◌∷◌}
use mathlib.Core.Path.{◌≡◌, refl, ap₂, ◌∙◌}
use lib.ListN.{length, get_or}
use lib.Seq.{ext_get_or}
use lib.Dec.{leb}
use borrow.Author.Tests.{leb-true, le-leb}
use Rattle.clock.specs.Clocks.{zeros, joined, covered, entry_of, sum_of}

-- ---- the join

-- each entry of a join is the larger of the two entries
pub joined_entry : (a b : List ℕ) (i : ℕ) → get_or (joined a b) i 0 ≡ max (get_or a i 0) (get_or b i 0)
unfolding joined
joined_entry [] b i = omega arith
joined_entry (x ∷ a) [] i = omega arith
joined_entry (x ∷ a) (y ∷ b) zero = refl
joined_entry (x ∷ a) (y ∷ b) (suc i) = joined_entry a b i

-- a join is as long as the longer clock
pub length_joined : (a b : List ℕ) → length (joined a b) ≡ max (length a) (length b)
unfolding joined
length_joined [] b = omega arith
length_joined (x ∷ a) [] = omega arith
length_joined (x ∷ a) (y ∷ b) = omega (arith, length_joined a b)

-- the order of the two clocks does not matter
pub joined_comm : (a b : List ℕ) → joined a b ≡ joined b a
unfolding joined
joined_comm [] [] = refl
joined_comm [] (y ∷ b) = refl
joined_comm (x ∷ a) [] = refl
joined_comm (x ∷ a) (y ∷ b) = ap₂ ◌∷◌ (omega arith) (joined_comm a b)

-- nor does the order of two joins
pub joined_assoc : (a b c : List ℕ) → joined (joined a b) c ≡ joined a (joined b c)
unfolding joined
joined_assoc [] b c = refl
joined_assoc (x ∷ a) [] c = refl
joined_assoc (x ∷ a) (y ∷ b) [] = refl
joined_assoc (x ∷ a) (y ∷ b) (z ∷ c) = ap₂ ◌∷◌ (omega arith) (joined_assoc a b c)

-- a clock joined with itself is itself
pub joined_idem : (a : List ℕ) → joined a a ≡ a
unfolding joined
joined_idem [] = refl
joined_idem (x ∷ a) = ap₂ ◌∷◌ (omega arith) (joined_idem a)

-- a clock joined with zeros of its length is itself
pub joined_zeros : (a : List ℕ) (n : ℕ) → length a ≡ n → joined a (zeros n) ≡ a
unfolding joined zeros
joined_zeros [] zero e = refl
joined_zeros [] (suc n) e = absurd (omega arith)
joined_zeros (x ∷ a) zero e = refl
joined_zeros (x ∷ a) (suc n) e = ap₂ ◌∷◌ (omega arith) (joined_zeros a n (suc_inj e))

-- so are zeros joined with a clock of their length
pub zeros_joined : (a : List ℕ) (n : ℕ) → length a ≡ n → joined (zeros n) a ≡ a
zeros_joined a n e = joined_comm (zeros n) a ∙ joined_zeros a n e

-- ---- the order

-- no entry of b exceeds that of a
pub record Covers (a b : List ℕ) : Type 0 where
  pub at : (i : ℕ) → get_or b i 0 ≤ get_or a i 0

-- what the test says of each entry
pub covered→Covers : (a b : List ℕ) → covered a b ≡ true → Covers a b
unfolding covered
covered→Covers a b e = record { at = entries a b e }
  where
    entries : (a b : List ℕ) → covered a b ≡ true → (i : ℕ) → get_or b i 0 ≤ get_or a i 0
    entries a [] e i = omega arith
    entries [] (y ∷ b) e zero = leb-true y 0 ((and-eq-true_iff (leb y 0) (covered [] b)).0 e).0
    entries [] (y ∷ b) e (suc i) = entries [] b ((and-eq-true_iff (leb y 0) (covered [] b)).0 e).1 i
    entries (x ∷ a) (y ∷ b) e zero = leb-true y x ((and-eq-true_iff (leb y x) (covered a b)).0 e).0
    entries (x ∷ a) (y ∷ b) e (suc i) = entries a b ((and-eq-true_iff (leb y x) (covered a b)).0 e).1 i

-- the test passes where each entry is covered
pub Covers→covered : (a b : List ℕ) → Covers a b → covered a b ≡ true
unfolding covered
Covers→covered a [] h = refl
Covers→covered [] (y ∷ b) h =
    (and-eq-true_iff (leb y 0) (covered [] b)).1 (le-leb y 0 (h.at 0), Covers→covered [] b (record { at = λ i. h.at (suc i) }))
Covers→covered (x ∷ a) (y ∷ b) h =
    (and-eq-true_iff (leb y x) (covered a b)).1 (le-leb y x (h.at 0), Covers→covered a b (record { at = λ i. h.at (suc i) }))

-- a clock covers itself
pub covered_refl : (a : List ℕ) → covered a a ≡ true
covered_refl a = Covers→covered a a (record { at = λ i. omega arith })

-- what a covered clock covers is covered too
pub covered_trans : (a b c : List ℕ) → covered a b ≡ true → covered b c ≡ true → covered a c ≡ true
covered_trans a b c ab bc =
    Covers→covered a c (record { at = λ i. omega (arith, (covered→Covers a b ab).at i, (covered→Covers b c bc).at i) })

-- two clocks of one length that cover each other are one
pub covered_antisym : (a b : List ℕ) → length a ≡ length b → covered a b ≡ true → covered b a ≡ true → a ≡ b
covered_antisym a b l ab ba =
    ext_get_or 0 a b l (λ i h. omega (arith, (covered→Covers a b ab).at i, (covered→Covers b a ba).at i))

-- a join covers the first of its clocks
pub join_covers_left : (a b : List ℕ) → covered (joined a b) a ≡ true
join_covers_left a b = Covers→covered (joined a b) a (record { at = λ i. omega (arith, joined_entry a b i) })

-- a join covers the second of its clocks
pub join_covers_right : (a b : List ℕ) → covered (joined a b) b ≡ true
join_covers_right a b = Covers→covered (joined a b) b (record { at = λ i. omega (arith, joined_entry a b i) })

-- a clock that covers two clocks covers their join
pub join_least : (a b c : List ℕ) → covered c a ≡ true → covered c b ≡ true → covered c (joined a b) ≡ true
join_least a b c ca cb =
    Covers→covered c (joined a b) (record { at = λ i. omega (arith, joined_entry a b i, (covered→Covers c a ca).at i, (covered→Covers c b cb).at i) })

-- ---- zeros

-- each entry of zeros is 0
pub zeros_entry : (n i : ℕ) → get_or (zeros n) i 0 ≡ 0
unfolding zeros
zeros_entry zero i = refl
zeros_entry (suc n) zero = refl
zeros_entry (suc n) (suc i) = zeros_entry n i

-- every clock covers zeros
pub covered_zeros : (a : List ℕ) (n : ℕ) → covered a (zeros n) ≡ true
covered_zeros a n = Covers→covered a (zeros n) (record { at = λ i. omega (arith, zeros_entry n i) })

-- ---- the entry of a processor

-- a processor's entry in a join is the larger of its two entries
pub entry_of_joined : (a b : List ℕ) (p : ℕ) → entry_of (joined a b) p ≡ max (entry_of a p) (entry_of b p)
unfolding entry_of
entry_of_joined a b zero = refl
entry_of_joined a b (suc q) = joined_entry a b q

-- in zeros every processor's entry is 0
pub entry_of_zeros : (n p : ℕ) → entry_of (zeros n) p ≡ 0
unfolding entry_of
entry_of_zeros n zero = refl
entry_of_zeros n (suc q) = zeros_entry n q

-- ---- the sum

-- the sum of zeros is 0
pub sum_of_zeros : (n : ℕ) → sum_of (zeros n) ≡ 0
unfolding zeros sum_of
sum_of_zeros zero = refl
sum_of_zeros (suc n) = omega (arith, sum_of_zeros n)

-- a covered clock has no larger sum
pub sum_covered : (a b : List ℕ) → covered a b ≡ true → sum_of b ≤ sum_of a
unfolding covered sum_of
sum_covered a [] e = omega arith
sum_covered [] (y ∷ b) e =
    let t = (and-eq-true_iff (leb y 0) (covered [] b)).0 e in
    omega (arith, leb-true y 0 t.0, sum_covered [] b t.1)
sum_covered (x ∷ a) (y ∷ b) e =
    let t = (and-eq-true_iff (leb y x) (covered a b)).0 e in
    omega (arith, leb-true y x t.0, sum_covered a b t.1)

-- a clock that covers another of its length and has no larger sum is that clock
pub sum_level : (a b : List ℕ) → length a ≡ length b → covered a b ≡ true → sum_of a ≤ sum_of b → a ≡ b
unfolding covered sum_of
sum_level [] [] l e s = refl
sum_level [] (y ∷ b) l e s = absurd (omega arith)
sum_level (x ∷ a) [] l e s = absurd (omega arith)
sum_level (x ∷ a) (y ∷ b) l e s =
    let t = (and-eq-true_iff (leb y x) (covered a b)).0 e in
    let m = sum_covered a b t.1 in
    let h = leb-true y x t.0 in
    ap₂ ◌∷◌ (omega arith) (sum_level a b (suc_inj l) t.1 (omega arith))

-- a clock that covers another of its length and differs has a larger sum
pub sum_strict : (a b : List ℕ) → length a ≡ length b → covered a b ≡ true → (a ≡ b → ⊥) → sum_of b < sum_of a
sum_strict a b l e d = lt_of_not-le (λ s. d (sum_level a b l e s))
