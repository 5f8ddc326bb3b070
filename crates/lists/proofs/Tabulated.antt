-- Laws of the list of f 0 to f (n - 1). Rests on Tables. Assumes nothing.
use Prim.Native.Nat.{ℕ, zero, suc, ◌<◌}
use native.Mathlib.Omega.{arith}
use mathlib.Core.Path.{◌≡◌, refl, sym, ap, ◌∙◌}
use mathlib.Core.Bool.{cond}
use mathlib.Core.List.{List, [], ◌∷◌, ◌++◌, map}
use lib.ListN.{length, get_or}
use lib.Seq.{ext_get_or}
use lib.Dec.{eqb}
use Rattle.lists.specs.Tables.{put, tabulate}
use Rattle.lists.proofs.Tables.{get_put, length_put}

module _ {A : Type 0} where
  -- it has n elements
  pub length_tabulate : (n : ℕ) (f : ℕ → A) → length (tabulate n f) ≡ n
  unfolding tabulate
  length_tabulate zero f = refl
  length_tabulate (suc n) f = ap suc (length_tabulate n (λ k. f (suc k)))

  -- the element at i is f i
  pub get_tabulate : (n : ℕ) (f : ℕ → A) (i : ℕ) (d : A) → i < n → get_or (tabulate n f) i d ≡ f i
  unfolding tabulate
  get_tabulate zero f i d h = absurd (omega arith)
  get_tabulate (suc n) f zero d h = refl
  get_tabulate (suc n) f (suc i) d h = get_tabulate n (λ k. f (suc k)) i d (omega arith)

  -- functions that agree below n list the same
  pub tabulate_same : (n : ℕ) (f h : ℕ → A) → ((i : ℕ) → i < n → f i ≡ h i) → tabulate n f ≡ tabulate n h
  unfolding tabulate
  tabulate_same zero f h e = refl
  tabulate_same (suc n) f h e =
      λ i. e 0 (omega arith) i ∷ tabulate_same n (λ k. f (suc k)) (λ k. h (suc k)) (λ k b. e (suc k) (omega arith)) i

  -- a list is the list of its elements
  pub tabulate_get : (l : List A) (n : ℕ) (d : A) → length l ≡ n → tabulate n (λ i. get_or l i d) ≡ l
  unfolding tabulate
  tabulate_get [] zero d e = refl
  tabulate_get [] (suc n) d e = absurd (omega arith)
  tabulate_get (x ∷ l) zero d e = absurd (omega arith)
  tabulate_get (x ∷ l) (suc n) d e = ap (λ (r : List A). x ∷ r) (tabulate_get l n d (omega arith))

  -- one element replaced
  pub put_tabulate : (d : A) (n : ℕ) (f : ℕ → A) (i : ℕ) (v : A) → i < n → put d (tabulate n f) i v ≡ tabulate n (λ j. cond (eqb j i) v (f j))
  put_tabulate d n f i v h = ext_get_or d (put d (tabulate n f) i v) (tabulate n (λ j. cond (eqb j i) v (f j))) long at
    where
      long : length (put d (tabulate n f) i v) ≡ length (tabulate n (λ j. cond (eqb j i) v (f j)))
      long = omega (arith, length_put d (tabulate n f) i v, length_tabulate n f, length_tabulate n (λ j. cond (eqb j i) v (f j)))

      at : (j : ℕ) → j < length (put d (tabulate n f) i v) → get_or (put d (tabulate n f) i v) j d ≡ get_or (tabulate n (λ j. cond (eqb j i) v (f j))) j d
      at j b =
          let c : j < n = omega (arith, b, length_put d (tabulate n f) i v, length_tabulate n f) in
          get_put d (tabulate n f) i j v ∙ ap (λ (x : A). cond (eqb j i) v x) (get_tabulate n f j d c)
          ∙ sym (get_tabulate n (λ j. cond (eqb j i) v (f j)) j d c)

  -- one element more at the end
  pub tabulate_more : (n : ℕ) (f : ℕ → A) → tabulate (suc n) f ≡ tabulate n f ++ f n ∷ []
  unfolding tabulate
  tabulate_more zero f = refl
  tabulate_more (suc n) f = ap (λ (r : List A). f 0 ∷ r) (tabulate_more n (λ k. f (suc k)))

-- every element changed alike
pub map_tabulate : {A B : Type 0} (g : A → B) (n : ℕ) (f : ℕ → A) → map g (tabulate n f) ≡ tabulate n (λ i. g (f i))
unfolding tabulate
map_tabulate g zero f = refl
map_tabulate {B = B} g (suc n) f = ap (λ (r : List B). g (f 0) ∷ r) (map_tabulate g n (λ k. f (suc k)))
