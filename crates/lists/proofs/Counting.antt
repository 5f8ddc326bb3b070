-- Laws of sums over the numbers below a bound, compared with one another, and of the first number that passes a test. Rests on Tables.
-- Assumes nothing.
use Prim.Native.Nat.{ℕ, zero, suc, ◌+◌, ◌≤◌, ◌<◌}
use native.Mathlib.Omega.{arith}
use native.Mathlib.Decide.{dec_le, ℕ_discrete}
use mathlib.Core.Path.{◌≡◌, refl, sym, ap, ◌∙◌}
use mathlib.Core.Bool.{Bool, true, false, cond, not, ◌||◌, or-true, or-false, false≢true}
use lib.Dec.{eqb}
use borrow.Author.Tests.{eqb-true, eqb-false, ne_eqb}
use Rattle.lists.specs.Tables.{any, total, first_of}

-- ---- sums

-- a summand that is not 0
pub record Some (n : ℕ) (f : ℕ → ℕ) : Type 0 where
  pub at : ℕ
  pub below : at < n
  pub some : 1 ≤ f at

-- a sum that is not 0 has one
pub total_some : (n : ℕ) (f : ℕ → ℕ) → 1 ≤ total n f → Some n f
unfolding total
total_some zero f h = absurd (omega arith)
total_some (suc n) f h = go (dec_le 1 (f n)) (total_some n f)
  where
    go : Dec (1 ≤ f n) → (1 ≤ total n f → Some n f) → Some (suc n) f
    go (yes e) r = record { at = n; below = omega arith; some = e }
    go (no e) r = let s = r (omega (arith, h, e)) in record { at = s.at; below = omega (arith, s.below); some = s.some }

-- a test passes somewhere exactly if those that pass are not 0 in number
pub any_counted : (n : ℕ) (t : ℕ → Bool) → any n t ≡ not (eqb (total n (λ i. cond (t i) 1 0)) 0)
unfolding any total
any_counted zero t = refl
any_counted (suc n) t = go (total n (λ i. cond (t i) 1 0)) (t n) (any_counted n t)
  where
    go : (sum : ℕ) (b : Bool) → any n t ≡ not (eqb sum 0) → (any n t || b) ≡ not (eqb (sum + cond b 1 0) 0)
    go sum true e = or-true (any n t) ∙ ap not (sym (ne_eqb (sum + 1) 0 (λ z. omega (arith, z))))
    go sum false e = let same : sum + 0 ≡ sum = omega arith in or-false (any n t) ∙ e ∙ ap (λ (k : ℕ). not (eqb k 0)) (sym same)

-- smaller summands give no larger sum
pub total_at_most : (n : ℕ) (f h : ℕ → ℕ) → ((j : ℕ) → j < n → f j ≤ h j) → total n f ≤ total n h
unfolding total
total_at_most zero f h e = omega arith
total_at_most (suc n) f h e = omega (arith, total_at_most n f h (λ j l. e j (omega (arith, l))), e n (omega arith))

-- and a smaller one if one of them is strictly smaller
pub total_less : (n : ℕ) (f h : ℕ → ℕ) (k : ℕ) → k < n → ((j : ℕ) → j < n → f j ≤ h j) → f k < h k → total n f < total n h
unfolding total
total_less zero f h k l e s = absurd (omega (arith, l))
total_less (suc n) f h k l e s = go (ℕ_discrete k n) (total_less n f h k)
  where
    go : Dec (k ≡ n) → (k < n → ((j : ℕ) → j < n → f j ≤ h j) → f k < h k → total n f < total n h) → total n f + f n < total n h + h n
    go (yes d) r = omega (arith, total_at_most n f h (λ j m. e j (omega (arith, m))), rw d at s)
    go (no d) r = omega (arith, r (omega (arith, l, d)) (λ j m. e j (omega (arith, m))) s, e n (omega arith))

-- ---- the first number that passes a test

-- the number k, found as k + 1, is below the bound and passes
pub first_passes : (n : ℕ) (t : ℕ → Bool) (k : ℕ) → first_of n t ≡ suc k → (k < n) × (t k ≡ true)
unfolding first_of
first_passes zero t k e = absurd (omega (arith, e))
first_passes (suc n) t k e = go (eqb (first_of n t) 0) (t n) refl e (first_passes n t k)
  where
    go : (a b : Bool) → t n ≡ b → cond a (cond b (suc n) 0) (first_of n t) ≡ suc k → (first_of n t ≡ suc k → (k < n) × (t k ≡ true)) → (k < suc n) × (t k ≡ true)
    go true true p e r = let same : n ≡ k = omega (arith, e) in (omega (arith, same), rw same at p)
    go true false p e r = absurd (omega (arith, e))
    go false b p e r = let w = r e in (omega (arith, w.0), w.1)

-- where one passes, one is found
pub first_there : (n : ℕ) (t : ℕ → Bool) (k : ℕ) → k < n → t k ≡ true → first_of n t ≡ 0 → ⊥
unfolding first_of
first_there zero t k l e z = omega (arith, l)
first_there (suc n) t k l e z = go (eqb (first_of n t) 0) refl (ℕ_discrete k n) z (first_there n t k)
  where
    last : (b : Bool) → t n ≡ b → k ≡ n → cond {A = ℕ} b (suc n) 0 ≡ 0 → ⊥
    last true p d z = omega (arith, z)
    last false p d z = false≢true (sym p ∙ (rw d at e))

    go : (a : Bool) → eqb (first_of n t) 0 ≡ a → Dec (k ≡ n) → cond a (cond (t n) (suc n) 0) (first_of n t) ≡ 0 → (k < n → t k ≡ true → first_of n t ≡ 0 → ⊥) → ⊥
    go true p (yes d) z r = last (t n) refl d z
    go true p (no d) z r = r (omega (arith, l, d)) e (eqb-true (first_of n t) 0 p)
    go false p d z r = eqb-false (first_of n t) 0 p z

-- it is at most the bound
pub first_within : (n : ℕ) (t : ℕ → Bool) → first_of n t ≤ n
unfolding first_of
first_within zero t = omega arith
first_within (suc n) t = go (eqb (first_of n t) 0) (t n) (first_within n t)
  where
    go : (a b : Bool) → first_of n t ≤ n → cond a (cond b (suc n) 0) (first_of n t) ≤ suc n
    go true true h = omega arith
    go true false h = omega arith
    go false b h = omega arith

-- tests that agree below the bound find the same
pub first_same : (n : ℕ) (t u : ℕ → Bool) → ((k : ℕ) → k < n → t k ≡ u k) → first_of n t ≡ first_of n u
unfolding first_of
first_same zero t u e = refl
first_same (suc n) t u e = rw (first_same n t u (λ k l. e k (omega arith)), e n (omega arith))

-- what is found below a bound is found below a larger one
pub first_stays : (m n : ℕ) (t : ℕ → Bool) (k : ℕ) → m ≤ n → first_of m t ≡ suc k → first_of n t ≡ suc k
unfolding first_of
first_stays m zero t k l e = let z : m ≡ 0 = omega (arith, l) in absurd (omega (arith, (first_passes m t k e).0, z))
first_stays m (suc n) t k l e = go (ℕ_discrete m (suc n)) (first_stays m n t k)
  where
    go : Dec (m ≡ suc n) → (m ≤ n → first_of m t ≡ suc k → first_of n t ≡ suc k) → first_of (suc n) t ≡ suc k
    go (yes d) r = unfold first_of in (rw d at e)
    go (no d) r = let below : first_of n t ≡ suc k = r (omega (arith, l, d)) e in rw (ne_eqb (first_of n t) 0 (λ z. omega (arith, z, below))) below

-- where k alone passes, k is found
pub first_is : (n : ℕ) (t : ℕ → Bool) (k : ℕ) → k < n → t k ≡ true → ((j : ℕ) → j < n → t j ≡ true → j ≡ k) → first_of n t ≡ suc k
first_is n t k l e only = go (first_of n t) refl
  where
    go : (x : ℕ) → first_of n t ≡ x → x ≡ suc k
    go zero z = absurd (first_there n t k l e z)
    go (suc j) z = let w = first_passes n t j z in omega (arith, only j w.0 w.1)
