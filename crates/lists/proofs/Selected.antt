-- Laws of lists: what holds of every element, the elements that pass a test, and sorted elements: how many there are and which comes first.
-- Rests on the definitions alone. Assumes nothing.
use Prim.Native.Nat.{ℕ, zero, suc, ◌≤◌, ◌<◌}
use native.Mathlib.Omega.{arith}
use mathlib.Core.Path.{◌≡◌, refl, ap, ◌∙◌}
use mathlib.Core.Bool.{Bool, true, false, cond}
use mathlib.Core.List.{List, [], ◌∷◌, ◌++◌}
use lib.ListN.{length, get_or}
use Rattle.lists.specs.Tables.{select, insert_by, sort_by}

module _ {A : Type 0} where
  -- ---- what holds of every element

  abbrev pub Each : (A → Type 0) → List A → Type 0
  Each P [] = Unit
  Each P (x ∷ l) = P x × Each P l

  -- by places
  pub each_at : (P : A → Type 0) (d : A) (l : List A) → Each P l → (i : ℕ) → i < length l → P (get_or l i d)
  each_at P d [] e i h = absurd (omega arith)
  each_at P d (x ∷ l) e zero h = e.0
  each_at P d (x ∷ l) e (suc i) h = each_at P d l e.1 i (omega arith)

  pub each_when : (P : A → Type 0) (d : A) (l : List A) → ((i : ℕ) → i < length l → P (get_or l i d)) → Each P l
  each_when P d [] h = tt
  each_when P d (x ∷ l) h = (h 0 (omega arith), each_when P d l (λ i k. h (suc i) (omega arith)))

  pub each_always : (P : A → Type 0) (l : List A) → ((x : A) → P x) → Each P l
  each_always P [] h = tt
  each_always P (x ∷ l) h = (h x, each_always P l h)

  pub each_map : (P Q : A → Type 0) (l : List A) → ((x : A) → P x → Q x) → Each P l → Each Q l
  each_map P Q [] f e = tt
  each_map P Q (x ∷ l) f e = (f x e.0, each_map P Q l f e.1)

  -- two lists one after the other
  pub each_append : (P : A → Type 0) (l k : List A) → Each P l → Each P k → Each P (l ++ k)
  each_append P [] k a b = b
  each_append P (x ∷ l) k a b = (a.0, each_append P l k a.1 b)

  -- a selection has no others, and all of them pass
  pub each_select : (P Q : A → Type 0) (t : A → Bool) (l : List A) → ((x : A) → t x ≡ true → P x → Q x) → Each P l → Each Q (select t l)
  unfolding select
  each_select P Q t [] f e = tt
  each_select P Q t (x ∷ l) f e = go (t x) refl (each_select P Q t l f e.1)
    where
      go : (b : Bool) → t x ≡ b → Each Q (select t l) → Each Q (cond b (x ∷ select t l) (select t l))
      go true h k = (f x h e.0, k)
      go false h k = k

  -- no more are selected than there are
  pub select_few : (t : A → Bool) (l : List A) → length (select t l) ≤ length l
  unfolding select
  select_few t [] = omega arith
  select_few t (x ∷ l) = go (t x) (select_few t l)
    where
      go : (b : Bool) → length (select t l) ≤ length l → length (cond b (x ∷ select t l) (select t l)) ≤ suc (length l)
      go true h = omega (arith, h)
      go false h = omega (arith, h)

  -- a sorted list has the elements of the list
  pub each_insert : (P : A → Type 0) (sooner : A → A → Bool) (x : A) (l : List A) → P x → Each P l → Each P (insert_by sooner x l)
  unfolding insert_by
  each_insert P sooner x [] h e = (h, tt)
  each_insert P sooner x (y ∷ l) h e = go (sooner x y) (each_insert P sooner x l h e.1)
    where
      go : (b : Bool) → Each P (insert_by sooner x l) → Each P (cond b (x ∷ y ∷ l) (y ∷ insert_by sooner x l))
      go true k = (h, e)
      go false k = (e.0, k)

  pub each_sort : (P : A → Type 0) (sooner : A → A → Bool) (l : List A) → Each P l → Each P (sort_by sooner l)
  unfolding sort_by
  each_sort P sooner [] e = tt
  each_sort P sooner (x ∷ l) e = each_insert P sooner x (sort_by sooner l) e.0 (each_sort P sooner l e.1)

  -- ---- what is selected

  pub select_append : (t : A → Bool) (l k : List A) → select t (l ++ k) ≡ select t l ++ select t k
  unfolding select
  select_append t [] k = refl
  select_append t (x ∷ l) k = go (t x) (select_append t l k)
    where
      go : (b : Bool) → select t (l ++ k) ≡ select t l ++ select t k
          → cond b (x ∷ select t (l ++ k)) (select t (l ++ k)) ≡ cond b (x ∷ select t l) (select t l) ++ select t k
      go true e = ap (λ (m : List A). x ∷ m) e
      go false e = e

  pub select_all : (l : List A) → select (λ (x : A). true) l ≡ l
  unfolding select
  select_all [] = refl
  select_all (x ∷ l) = ap (λ (m : List A). x ∷ m) (select_all l)

  -- ---- how many

  -- where none passes none is selected
  pub select_none : (t : A → Bool) (l : List A) → Each (λ x. t x ≡ false) l → select t l ≡ []
  unfolding select
  select_none t [] e = refl
  select_none t (x ∷ l) e = rw e.0 (select_none t l e.1)

  swap_count : (a b : Bool) (x y : A) (l : List A) → length (cond b (y ∷ cond a (x ∷ l) l) (cond a (x ∷ l) l)) ≡ length (cond a (x ∷ cond b (y ∷ l) l) (cond b (y ∷ l) l))
  swap_count true true x y l = refl
  swap_count true false x y l = refl
  swap_count false true x y l = refl
  swap_count false false x y l = refl

  more_count : (b : Bool) (y : A) (l k : List A) → length l ≡ length k → length (cond b (y ∷ l) l) ≡ length (cond b (y ∷ k) k)
  more_count true y l k e = ap suc e
  more_count false y l k e = e

  count_insert : (t : A → Bool) (sooner : A → A → Bool) (x : A) (l : List A) → length (select t (insert_by sooner x l)) ≡ length (cond (t x) (x ∷ select t l) (select t l))
  unfolding select insert_by
  count_insert t sooner x [] = refl
  count_insert t sooner x (y ∷ l) = go (sooner x y) (count_insert t sooner x l)
    where
      go : (b : Bool) → length (select t (insert_by sooner x l)) ≡ length (cond (t x) (x ∷ select t l) (select t l))
          → length (select t (cond b (x ∷ y ∷ l) (y ∷ insert_by sooner x l))) ≡ length (cond (t x) (x ∷ select t (y ∷ l)) (select t (y ∷ l)))
      go true k = refl
      go false k = more_count (t y) y (select t (insert_by sooner x l)) (cond (t x) (x ∷ select t l) (select t l)) k ∙ swap_count (t x) (t y) x y (select t l)

  -- as many elements of a sorted list pass any test as of the list: it has the same elements, each as often
  pub count_sort : (t : A → Bool) (sooner : A → A → Bool) (l : List A) → length (select t (sort_by sooner l)) ≡ length (select t l)
  unfolding select sort_by
  count_sort t sooner [] = refl
  count_sort t sooner (x ∷ l) = count_insert t sooner x (sort_by sooner l) ∙ more_count (t x) x (select t (sort_by sooner l)) (select t l) (count_sort t sooner l)

  length_insert : (sooner : A → A → Bool) (x : A) (l : List A) → length (insert_by sooner x l) ≡ suc (length l)
  unfolding insert_by
  length_insert sooner x [] = refl
  length_insert sooner x (y ∷ l) = go (sooner x y) (length_insert sooner x l)
    where
      go : (b : Bool) → length (insert_by sooner x l) ≡ suc (length l) → length (cond b (x ∷ y ∷ l) (y ∷ insert_by sooner x l)) ≡ suc (suc (length l))
      go true k = refl
      go false k = ap suc k

  pub length_sort : (sooner : A → A → Bool) (l : List A) → length (sort_by sooner l) ≡ length l
  unfolding sort_by
  length_sort sooner [] = refl
  length_sort sooner (x ∷ l) = length_insert sooner x (sort_by sooner l) ∙ ap suc (length_sort sooner l)

  -- ---- which comes first

  -- no element is sooner than one before it
  abbrev pub Sorted : (A → A → Bool) → List A → Type 0
  Sorted sooner [] = Unit
  Sorted sooner (x ∷ l) = Each (λ y. sooner y x ≡ false) l × Sorted sooner l

  -- an order that sorts: of two elements not both are sooner, and "not sooner" chains
  pub record Sorts (sooner : A → A → Bool) : Type 0 where
    pub not_both : (x y : A) → sooner x y ≡ true → sooner y x ≡ false
    pub chains : (x y z : A) → sooner y x ≡ false → sooner z y ≡ false → sooner z x ≡ false

  sorted_insert : (sooner : A → A → Bool) → Sorts sooner → (x : A) (l : List A) → Sorted sooner l → Sorted sooner (insert_by sooner x l)
  unfolding insert_by
  sorted_insert sooner law x [] h = (tt, tt)
  sorted_insert sooner law x (y ∷ l) h = go (sooner x y) refl (sorted_insert sooner law x l h.1)
    where
      go : (b : Bool) → sooner x y ≡ b → Sorted sooner (insert_by sooner x l) → Sorted sooner (cond b (x ∷ y ∷ l) (y ∷ insert_by sooner x l))
      go true e k =
          let f : sooner y x ≡ false = law.not_both x y e in
          ((f, each_map (λ z. sooner z y ≡ false) (λ z. sooner z x ≡ false) l (λ z. law.chains x y z f) h.0), h)
      go false e k = (each_insert (λ z. sooner z y ≡ false) sooner x l e h.0, k)

  -- sorting sorts
  pub sorted_sort : (sooner : A → A → Bool) → Sorts sooner → (l : List A) → Sorted sooner (sort_by sooner l)
  unfolding sort_by
  sorted_sort sooner law [] = tt
  sorted_sort sooner law (x ∷ l) = sorted_insert sooner law x (sort_by sooner l) (sorted_sort sooner law l)
