-- Sums that wrap at 4,294,967,296, sums put together and taken in another order, and the sums over time of what was added before the open round and
-- since. Rests on the definitions alone. Assumes nothing.
use Prim.Native.Nat.{ℕ, zero, suc, ◌+◌, ◌%◌, ◌≤◌, ◌<◌}
use native.Mathlib.Nat.{mod-add-mod, add-mod-mod}
use native.Mathlib.Omega.{arith}
use native.Mathlib.Decide.{ℕ_discrete}
use mathlib.Core.Path.{◌≡◌, refl, sym, ap, ◌∙◌}
use mathlib.Core.Logic.{◌⊎◌, inl, inr}
use mathlib.Core.Bool.{Bool, true, false, cond, ◌||◌}
use lib.Dec.{ltb, eqb}
use borrow.Author.Tests.{lt-ltb, le-ltb, eq-eqb, ne_eqb}
use Rattle.lists.specs.Tables.{total}
use Rattle.lists.proofs.Tables.{total_same, total_zero}
use Rattle.limits.specs.Limits.{word_values}

-- ---- wrapping

-- a sum wraps alike with its first part wrapped
pub wrap_first : (a b : ℕ) → (a % word_values + b) % word_values ≡ (a + b) % word_values
wrap_first a b = mod-add-mod a word_values b

-- with its second part wrapped
pub wrap_second : (a b : ℕ) → (a + b % word_values) % word_values ≡ (a + b) % word_values
wrap_second a b = add-mod-mod a b word_values

-- with both wrapped
pub wrap_both : (a b : ℕ) → (a % word_values + b % word_values) % word_values ≡ (a + b) % word_values
wrap_both a b = wrap_first a (b % word_values) ∙ wrap_second a b

-- a sum of wrapped numbers wraps as the sum of the numbers
pub wrap_total : (n : ℕ) (f : ℕ → ℕ) → total n (λ k. f k % word_values) % word_values ≡ total n f % word_values
unfolding total
wrap_total zero f = refl
wrap_total (suc n) f =
    sym (wrap_first (total n (λ k. f k % word_values)) (f n % word_values))
    ∙ ap (λ (x : ℕ). (x + f n % word_values) % word_values) (wrap_total n f)
    ∙ wrap_both (total n f) (f n)

-- also onto a wrapped number
pub wrap_onto : (a n : ℕ) (f : ℕ → ℕ) → (a % word_values + total n (λ k. f k % word_values)) % word_values ≡ (a + total n f) % word_values
wrap_onto a n f =
    wrap_first a (total n (λ k. f k % word_values))
    ∙ sym (wrap_second a (total n (λ k. f k % word_values)))
    ∙ ap (λ (x : ℕ). (a + x) % word_values) (wrap_total n f)
    ∙ wrap_second a (total n f)

-- ---- sums

-- two sums in one
pub total_both : (n : ℕ) (f h : ℕ → ℕ) → total n f + total n h ≡ total n (λ i. f i + h i)
unfolding total
total_both zero f h = refl
total_both (suc n) f h = omega (arith, total_both n f h)

-- a sum of sums, the other first
pub total_swapped : (n m : ℕ) (f : ℕ → ℕ → ℕ) → total n (λ k. total m (f k)) ≡ total m (λ i. total n (λ k. f k i))
unfolding total
total_swapped zero m f = sym (total_zero m (λ i. 0) (λ i l. refl))
total_swapped (suc n) m f = ap (λ (x : ℕ). x + total m (f n)) (total_swapped n m f) ∙ total_both m (λ i. total n (λ k. f k i)) (f n)

-- x once, at p, one of 1 to n
pub total_once : (n p x : ℕ) → 1 ≤ p → p ≤ n → total n (λ k. cond (eqb p (suc k)) x 0) ≡ x
unfolding total
total_once zero p x h l = absurd (omega arith)
total_once (suc n) p x h l = go (ℕ_discrete p (suc n)) (total_once n p x h)
  where
    go : Dec (p ≡ suc n) → (p ≤ n → total n (λ k. cond (eqb p (suc k)) x 0) ≡ x) → total n (λ k. cond (eqb p (suc k)) x 0) + cond (eqb p (suc n)) x 0 ≡ x
    go (yes e) ih =
        rw (eq-eqb p (suc n) e)
        (omega (arith, total_zero n (λ k. cond (eqb p (suc k)) x 0) (λ k b. ap (λ (t : Bool). cond {A = ℕ} t x 0) (ne_eqb p (suc k) (λ z. omega (arith, z, e))))))
    go (no e) ih = rw (ne_eqb p (suc n) e) (omega (arith, ih (omega arith)))

-- ---- sums over time

-- at each time i there is the round r i, and who i adds x i
module _ (r x who : ℕ → ℕ) where
  -- what was added before time j in rounds before the one of j
  unfoldable pub added_before : ℕ → ℕ
  added_before j = total j (λ i. cond (ltb (r i) (r j)) (x i) 0)

  -- what q added before time j in the round of j
  unfoldable pub added_since : ℕ → ℕ → ℕ
  added_since q j = total j (λ i. cond (ltb (r i) (r j)) 0 (cond (eqb (who i) q) (x i) 0))

  -- a place more in the same round: nothing more before it
  pub before_same_round : (j : ℕ) → r (suc j) ≡ r j → added_before (suc j) ≡ added_before j
  unfolding added_before total
  before_same_round j e = rw (e, le-ltb (r j) (r j) (omega arith)) (omega arith)

  -- and what is added there since
  pub since_same_round : (q j : ℕ) → r (suc j) ≡ r j → added_since q (suc j) ≡ added_since q j + cond (eqb (who j) q) (x j) 0
  unfolding added_since total
  since_same_round q j e = rw (e, le-ltb (r j) (r j) (omega arith)) refl

  -- a new round: all that was added is before it
  pub before_new_round : (j : ℕ) → r (suc j) ≡ r j + 1 → ((i : ℕ) → i ≤ j → r i ≤ r j) → added_before (suc j) ≡ total (suc j) x
  unfolding added_before
  before_new_round j e up =
      total_same (suc j) (λ i. cond (ltb (r i) (r (suc j))) (x i) 0) x
      (λ i l. ap (λ (t : Bool). cond {A = ℕ} t (x i) 0) (lt-ltb (r i) (r (suc j)) (omega (arith, e, up i (omega arith)))))

  -- and nothing since
  pub since_new_round : (q j : ℕ) → r (suc j) ≡ r j + 1 → ((i : ℕ) → i ≤ j → r i ≤ r j) → added_since q (suc j) ≡ 0
  unfolding added_since
  since_new_round q j e up =
      total_zero (suc j) (λ i. cond (ltb (r i) (r (suc j))) 0 (cond (eqb (who i) q) (x i) 0))
      (λ i l. ap (λ (t : Bool). cond {A = ℕ} t 0 (cond (eqb (who i) q) (x i) 0)) (lt-ltb (r i) (r (suc j)) (omega (arith, e, up i (omega arith)))))

  -- both together, of one processor
  pub before_and_since : (q j : ℕ) → added_before j + added_since q j ≡ total j (λ i. cond (ltb (r i) (r j) || eqb (who i) q) (x i) 0)
  unfolding added_before added_since
  before_and_since q j =
      total_both j (λ i. cond (ltb (r i) (r j)) (x i) 0) (λ i. cond (ltb (r i) (r j)) 0 (cond (eqb (who i) q) (x i) 0))
      ∙ total_same j (λ i. cond (ltb (r i) (r j)) (x i) 0 + cond (ltb (r i) (r j)) 0 (cond (eqb (who i) q) (x i) 0)) (λ i. cond (ltb (r i) (r j) || eqb (who i) q) (x i) 0)
      (λ i l. one (ltb (r i) (r j)) (eqb (who i) q) (x i))
    where
      one : (a b : Bool) (y : ℕ) → cond a y 0 + cond a 0 (cond b y 0) ≡ cond (a || b) y 0
      one true b y = omega arith
      one false true y = omega arith
      one false false y = omega arith

  -- and of all n, where only they add
  pub before_and_all : (n j : ℕ) → ((i : ℕ) → i < j → (x i ≡ 0) ⊎ ((1 ≤ who i) × (who i ≤ n))) → added_before j + total n (λ k. added_since (suc k) j) ≡ total j x
  unfolding added_before added_since
  before_and_all n j there =
      ap (λ (y : ℕ). total j (λ i. cond (ltb (r i) (r j)) (x i) 0) + y) (total_swapped n j (λ k i. cond (ltb (r i) (r j)) 0 (cond (eqb (who i) (suc k)) (x i) 0)))
      ∙ total_both j (λ i. cond (ltb (r i) (r j)) (x i) 0) (λ i. total n (λ k. cond (ltb (r i) (r j)) 0 (cond (eqb (who i) (suc k)) (x i) 0)))
      ∙ total_same j (λ i. cond (ltb (r i) (r j)) (x i) 0 + total n (λ k. cond (ltb (r i) (r j)) 0 (cond (eqb (who i) (suc k)) (x i) 0))) x
      (λ i l. one (ltb (r i) (r j)) (who i) (x i) (there i l))
    where
      none : (q y : ℕ) → y ≡ 0 → total n (λ k. cond (eqb q (suc k)) y 0) ≡ 0
      none q y e = total_zero n (λ k. cond (eqb q (suc k)) y 0) (λ k l. rw e (each (eqb q (suc k))))
        where
          each : (b : Bool) → cond {A = ℕ} b 0 0 ≡ 0
          each true = refl
          each false = refl

      one : (a : Bool) (q y : ℕ) → (y ≡ 0) ⊎ ((1 ≤ q) × (q ≤ n)) → cond a y 0 + total n (λ k. cond a 0 (cond (eqb q (suc k)) y 0)) ≡ y
      one true q y h = omega (arith, total_zero n (λ k. 0) (λ k l. refl))
      one false q y (inl e) = omega (arith, e, none q y e)
      one false q y (inr w) = omega (arith, total_once n q y w.0 w.1)
