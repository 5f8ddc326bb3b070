-- Laws of tables: what stands at a place after one place was changed, and tests and sums over the numbers below a bound. Rests on the
-- definitions alone. Assumes nothing.
use Prim.Native.Nat.{ℕ, zero, suc, ◌+◌, ◌-◌, ◌*◌, ◌≤◌, ◌<◌, max}
use native.Mathlib.Nat.{add-zero, add-suc, zero-mul, suc-mul}
use native.Mathlib.Omega.{arith}
use native.Mathlib.Decide.{ℕ_discrete}
use mathlib.Core.Path.{◌≡◌, refl, sym, ap, ap₂, ◌∙◌}
use mathlib.Core.Bool.{Bool, true, false, cond, not, ◌&&◌, ◌||◌, and-eq-true_iff, or-eq-true_iff, false≢true}
use mathlib.Core.Logic.Or
use mathlib.Core.List.{List, [], ◌∷◌, ◌++◌, map}
use lib.ListN.{length, get_or, take, set}
use lib.Dec.{eqb}
use borrow.Author.Tests.{eqb-true, eq-eqb, ne_eqb}
use Rattle.lists.specs.Tables.{put, cell, put_cell, every, any, total}

-- ---- one list

module _ {A : Type 0} (d : A) where
  pub get_put_same : (l : List A) (i : ℕ) (v : A) → get_or (put d l i v) i d ≡ v
  unfolding put
  get_put_same [] zero v = refl
  get_put_same [] (suc i) v = get_put_same [] i v
  get_put_same (x ∷ l) zero v = refl
  get_put_same (x ∷ l) (suc i) v = get_put_same l i v

  pub get_put_other : (l : List A) (i j : ℕ) (v : A) → (j ≡ i → ⊥) → get_or (put d l i v) j d ≡ get_or l j d
  unfolding put
  get_put_other [] zero zero v h = absurd (h refl)
  get_put_other [] zero (suc j) v h = refl
  get_put_other [] (suc i) zero v h = refl
  get_put_other [] (suc i) (suc j) v h = get_put_other [] i j v (λ e. h (ap suc e))
  get_put_other (x ∷ l) zero zero v h = absurd (h refl)
  get_put_other (x ∷ l) zero (suc j) v h = refl
  get_put_other (x ∷ l) (suc i) zero v h = refl
  get_put_other (x ∷ l) (suc i) (suc j) v h = get_put_other l i j v (λ e. h (ap suc e))

  -- both in one: the new value at its place, the old one elsewhere
  pub get_put : (l : List A) (i j : ℕ) (v : A) → get_or (put d l i v) j d ≡ cond (eqb j i) v (get_or l j d)
  get_put l i j v = go (ℕ_discrete j i)
    where
      go : Dec (j ≡ i) → get_or (put d l i v) j d ≡ cond (eqb j i) v (get_or l j d)
      go (yes e) = rw (eq-eqb j i e) (rw e (get_put_same l i v))
      go (no h) = rw (ne_eqb j i h) (get_put_other l i j v h)

  pub length_put : (l : List A) (i : ℕ) (v : A) → length (put d l i v) ≡ max (length l) (suc i)
  unfolding put
  length_put [] zero v = refl
  length_put [] (suc i) v = omega (arith, length_put [] i v)
  length_put (x ∷ l) zero v = omega arith
  length_put (x ∷ l) (suc i) v = omega (arith, length_put l i v)

  -- a list that has the place keeps its length
  pub length_put_within : (l : List A) (i : ℕ) (v : A) → i < length l → length (put d l i v) ≡ length l
  length_put_within l i v h = omega (arith, length_put l i v)

  -- there it is the library's `set`
  pub put_within : (l : List A) (i : ℕ) (v : A) → i < length l → put d l i v ≡ set l i v
  unfolding put
  put_within [] i v h = absurd (omega arith)
  put_within (x ∷ l) zero v h = refl
  put_within (x ∷ l) (suc i) v h = ap (λ (k : List A). x ∷ k) (put_within l i v (omega arith))

  -- the first places and the next one
  pub take_put_next : (l : List A) (n : ℕ) (v : A) → n ≤ length l → take (suc n) (put d l n v) ≡ take n l ++ v ∷ []
  unfolding put
  take_put_next [] zero v h = refl
  take_put_next [] (suc n) v h = absurd (omega arith)
  take_put_next (x ∷ l) zero v h = refl
  take_put_next (x ∷ l) (suc n) v h = ap (λ (m : List A). x ∷ m) (take_put_next l n v (omega arith))

-- ---- a table of rows

module _ {A : Type 0} (d : A) where
  -- the new value at its place
  pub cell_put_same : (t : List (List A)) (p g : ℕ) (v : A) → cell d (put_cell d t p g v) p g ≡ v
  unfolding put_cell
  cell_put_same t p g v = ap (λ (row : List A). get_or row g d) (get_put_same [] t p (put d (get_or t p []) g v)) ∙ get_put_same d (get_or t p []) g v

  -- the old one in every other row
  pub cell_put_row : (t : List (List A)) (p g q h : ℕ) (v : A) → (q ≡ p → ⊥) → cell d (put_cell d t p g v) q h ≡ cell d t q h
  unfolding put_cell
  cell_put_row t p g q h v e = ap (λ (row : List A). get_or row h d) (get_put_other [] t p q (put d (get_or t p []) g v) e)

  -- and at every other place of its row
  pub cell_put_place : (t : List (List A)) (p g h : ℕ) (v : A) → (h ≡ g → ⊥) → cell d (put_cell d t p g v) p h ≡ cell d t p h
  unfolding put_cell
  cell_put_place t p g h v e = ap (λ (row : List A). get_or row h d) (get_put_same [] t p (put d (get_or t p []) g v)) ∙ get_put_other d (get_or t p []) g h v e

  -- all three in one
  pub cell_put : (t : List (List A)) (p g q h : ℕ) (v : A) → cell d (put_cell d t p g v) q h ≡ cond (eqb q p && eqb h g) v (cell d t q h)
  cell_put t p g q h v = go (ℕ_discrete q p) (ℕ_discrete h g)
    where
      go : Dec (q ≡ p) → Dec (h ≡ g) → cell d (put_cell d t p g v) q h ≡ cond (eqb q p && eqb h g) v (cell d t q h)
      go (yes e) (yes k) = rw (eq-eqb q p e, eq-eqb h g k) (rw (e, k) (cell_put_same t p g v))
      go (yes e) (no k) = rw (eq-eqb q p e, ne_eqb h g k) (rw e (cell_put_place t p g h v k))
      go (no e) k = rw (ne_eqb q p e) (cell_put_row t p g q h v e)

  -- a row that has the place keeps its length, and so do the others
  pub length_row_put : (t : List (List A)) (p g q : ℕ) (v : A) → g < length (get_or t p []) → length (get_or (put_cell d t p g v) q []) ≡ length (get_or t q [])
  unfolding put_cell
  length_row_put t p g q v h = go (ℕ_discrete q p)
    where
      go : Dec (q ≡ p) → length (get_or (put [] t p (put d (get_or t p []) g v)) q []) ≡ length (get_or t q [])
      go (yes e) = rw e (ap length (get_put_same [] t p (put d (get_or t p []) g v)) ∙ length_put_within d (get_or t p []) g v h)
      go (no e) = ap length (get_put_other [] t p q (put d (get_or t p []) g v) e)

-- a statement about a place of a table after one place was changed
pub by_put_cell : {A : Type 0} (P : A → Type 0) (d : A) (t : List (List A)) (p g q h : ℕ) (v : A) → (q ≡ p → h ≡ g → P v) → P (cell d t q h) → P (cell d (put_cell d t p g v) q h)
by_put_cell {A} P d t p g q h v same other = rw (cell_put d t p g q h v) (go (eqb q p) (eqb h g) refl refl)
  where
    go : (a b : Bool) → eqb q p ≡ a → eqb h g ≡ b → P (cond (a && b) v (cell d t q h))
    go true true x y = same (eqb-true q p x) (eqb-true h g y)
    go true false x y = other
    go false b x y = other

-- two tables with the same first n places in every row have them still after the same place of both was given equal values
pub cells_same_put : {A : Type 0} (d : A) (t u : List (List A)) (p g : ℕ) (v w : A) (n : ℕ) → v ≡ w → ((q h : ℕ) → h < n → cell d t q h ≡ cell d u q h)
    → (q h : ℕ) → h < n → cell d (put_cell d t p g v) q h ≡ cell d (put_cell d u p g w) q h
cells_same_put d t u p g v w n e same q h l = cell_put d t p g q h v ∙ go (eqb q p && eqb h g) ∙ sym (cell_put d u p g q h w)
  where
    go : (b : Bool) → cond b v (cell d t q h) ≡ cond b w (cell d u q h)
    go true = e
    go false = same q h l

-- every other place is as it was
pub cell_put_elsewhere : {A : Type 0} (d : A) (t : List (List A)) (p g q h : ℕ) (v : A) → (q ≡ p → h ≡ g → ⊥) → cell d (put_cell d t p g v) q h ≡ cell d t q h
cell_put_elsewhere d t p g q h v e = by_put_cell (λ x. x ≡ cell d t q h) d t p g q h v (λ a b. absurd (e a b)) refl

-- ---- every element changed alike

pub get_map : {A B : Type 0} (f : A → B) (d : A) (l : List A) (i : ℕ) → get_or (map f l) i (f d) ≡ f (get_or l i d)
get_map f d [] i = refl
get_map f d (x ∷ l) zero = refl
get_map f d (x ∷ l) (suc i) = get_map f d l i

-- within the list the default does not matter
pub get_map_within : {A B : Type 0} (f : A → B) (l : List A) (i : ℕ) (d : A) (e : B) → i < length l → get_or (map f l) i e ≡ f (get_or l i d)
get_map_within f [] i d e h = absurd (omega arith)
get_map_within f (x ∷ l) zero d e h = refl
get_map_within f (x ∷ l) (suc i) d e h = get_map_within f l i d e (omega arith)

-- ---- tests over the numbers below a bound

pub every_at : (n : ℕ) (t : ℕ → Bool) (i : ℕ) → every n t ≡ true → i < n → t i ≡ true
unfolding every
every_at zero t i e h = absurd (omega arith)
every_at (suc n) t i e h = go (ℕ_discrete i n) ((and-eq-true_iff (every n t) (t n)).0 e) (every_at n t i)
  where
    go : Dec (i ≡ n) → (every n t ≡ true) × (t n ≡ true) → (every n t ≡ true → i < n → t i ≡ true) → t i ≡ true
    go (yes k) parts below = rw k parts.1
    go (no k) parts below = below parts.0 (omega arith)

pub every_holds : (n : ℕ) (t : ℕ → Bool) → ((i : ℕ) → i < n → t i ≡ true) → every n t ≡ true
unfolding every
every_holds zero t h = refl
every_holds (suc n) t h = (and-eq-true_iff (every n t) (t n)).1 (every_holds n t (λ i k. h i (omega arith)), h n (omega arith))

-- one number that passes
pub record Passes (n : ℕ) (t : ℕ → Bool) : Type 0 where
  pub at : ℕ
  pub below : at < n
  pub passes : t at ≡ true

pub any_at : (n : ℕ) (t : ℕ → Bool) → any n t ≡ true → Passes n t
unfolding any
any_at zero t e = absurd (false≢true e)
any_at (suc n) t e = go (any n t) (t n) refl refl e (any_at n t)
  where
    go : (a b : Bool) → any n t ≡ a → t n ≡ b → (a || b) ≡ true → (any n t ≡ true → Passes n t) → Passes (suc n) t
    go true b p q e below = let r = below p in record { at = r.at; below = omega (arith, r.below); passes = r.passes }
    go false true p q e below = record { at = n; below = omega arith; passes = q }
    go false false p q e below = absurd (false≢true e)

pub any_holds : (n : ℕ) (t : ℕ → Bool) (i : ℕ) → i < n → t i ≡ true → any n t ≡ true
unfolding any
any_holds zero t i h e = absurd (omega arith)
any_holds (suc n) t i h e = go (ℕ_discrete i n) (any_holds n t i)
  where
    go : Dec (i ≡ n) → (i < n → t i ≡ true → any n t ≡ true) → (any n t || t n) ≡ true
    go (yes k) r = (or-eq-true_iff (any n t) (t n)).1 (Or.inr (rw (← k) e))
    go (no k) r = (or-eq-true_iff (any n t) (t n)).1 (Or.inl (r (omega arith) e))

-- tests that agree below a bound
pub every_same : (n : ℕ) (t u : ℕ → Bool) → ((i : ℕ) → i < n → t i ≡ u i) → every n t ≡ every n u
unfolding every
every_same zero t u h = refl
every_same (suc n) t u h = ap₂ ◌&&◌ (every_same n t u (λ i l. h i (omega arith))) (h n (omega arith))

pub any_same : (n : ℕ) (t u : ℕ → Bool) → ((i : ℕ) → i < n → t i ≡ u i) → any n t ≡ any n u
unfolding any
any_same zero t u h = refl
any_same (suc n) t u h = ap₂ ◌||◌ (any_same n t u (λ i l. h i (omega arith))) (h n (omega arith))

-- a test that fails for some number below a bound
pub every_fails : (n : ℕ) (t : ℕ → Bool) → every n t ≡ false → Passes n (λ i. not (t i))
unfolding every
every_fails zero t e = let z : ◌≡◌ {A = Bool} false true = sym e in absurd (false≢true z)
every_fails (suc n) t e = go (every n t) (t n) refl refl e (every_fails n t)
  where
    go : (a b : Bool) → every n t ≡ a → t n ≡ b → (a && b) ≡ false → (every n t ≡ false → Passes n (λ i. not (t i))) → Passes (suc n) (λ i. not (t i))
    go true true x y e r = let z : ◌≡◌ {A = Bool} false true = sym e in absurd (false≢true z)
    go true false x y e r = record { at = n; below = omega arith; passes = ap not y }
    go false b x y e r = let q = r x in record { at = q.at; below = omega (arith, q.below); passes = q.passes }

-- ---- sums over the numbers below a bound

pub total_same : (n : ℕ) (f h : ℕ → ℕ) → ((i : ℕ) → i < n → f i ≡ h i) → total n f ≡ total n h
unfolding total
total_same zero f h e = refl
total_same (suc n) f h e = ap₂ ◌+◌ (total_same n f h (λ i k. e i (omega arith))) (e n (omega arith))

pub total_zero : (n : ℕ) (f : ℕ → ℕ) → ((i : ℕ) → i < n → f i ≡ 0) → total n f ≡ 0
unfolding total
total_zero zero f e = refl
total_zero (suc n) f e = omega (arith, total_zero n f (λ i k. e i (omega arith)), e n (omega arith))

-- where two sums differ in one summand alone
pub total_change : (n : ℕ) (f h : ℕ → ℕ) (i : ℕ) → i < n → ((k : ℕ) → (k ≡ i → ⊥) → f k ≡ h k) → total n f + h i ≡ total n h + f i
unfolding total
total_change zero f h i l e = absurd (omega arith)
total_change (suc n) f h i l e = go (ℕ_discrete i n) (total_change n f h i)
  where
    go : Dec (i ≡ n) → (i < n → ((k : ℕ) → (k ≡ i → ⊥) → f k ≡ h k) → total n f + h i ≡ total n h + f i) → total n f + f n + h i ≡ total n h + h n + f i
    go (yes k) r = rw k (omega (arith, total_same n f h (λ j m. e j (λ z. omega (arith, z, k)))))
    go (no k) r = omega (arith, r (omega arith) e, e n (λ z. k (sym z)))

-- a sum in two parts
pub total_in_two : (a b : ℕ) (f : ℕ → ℕ) → total (a + b) f ≡ total a f + total b (λ j. f (a + j))
unfolding total
total_in_two a zero f = rw (add-zero a) (omega arith)
total_in_two a (suc b) f = rw (add-suc a b) (omega (arith, total_in_two a b f))

-- a sum in n rows of w
pub total_in_rows : (n w : ℕ) (f : ℕ → ℕ) → total (n * w) f ≡ total n (λ i. total w (λ j. f (i * w + j)))
unfolding total
total_in_rows zero w f = rw (zero-mul w)
total_in_rows (suc n) w f = rw (suc-mul n w) (total_in_two (n * w) w f ∙ ap (λ (x : ℕ). x + total w (λ j. f (n * w + j))) (total_in_rows n w f))

-- what is 0 adds nothing
pub total_of_fewer : (n m : ℕ) (f : ℕ → ℕ) → n ≤ m → ((i : ℕ) → n ≤ i → i < m → f i ≡ 0) → total m f ≡ total n f
total_of_fewer n m f h e =
    let parts : n + (m - n) ≡ m = omega arith in
    ap (λ (x : ℕ). total x f) (sym parts)
    ∙ total_in_two n (m - n) f
    ∙ (let none : total (m - n) (λ j. f (n + j)) ≡ 0 = total_zero (m - n) (λ j. f (n + j)) (λ i l. e (n + i) (omega arith) (omega arith)) in omega arith)

-- a sum over more numbers is no smaller
pub total_of_more : (n m : ℕ) (f : ℕ → ℕ) → n ≤ m → total n f ≤ total m f
unfolding total
total_of_more n zero f h = rw (le_zero n h) (omega arith)
  where
    le_zero : (n : ℕ) → n ≤ 0 → n ≡ 0
    le_zero n h = omega arith
total_of_more n (suc m) f h = go (ℕ_discrete n (suc m)) (total_of_more n m f)
  where
    go : Dec (n ≡ suc m) → (n ≤ m → total n f ≤ total m f) → total n f ≤ total m f + f m
    go (yes e) r = rw e (omega arith)
    go (no e) r = omega (arith, r (omega arith))
