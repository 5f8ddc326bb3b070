-- Laws of rows of an area, of the tables that list them, and of both when one row is stored anew. Assumes nothing.
use Prim.Native.Nat.{ℕ, zero, suc, ◌+◌, ◌-◌, ◌*◌, ◌≤◌, ◌<◌}
use native.Mathlib.Omega.{arith}
use native.Mathlib.Decide.{dec_lt, ℕ_discrete}
use native.Mathlib.Nat.{mul-suc, mul-le-mul_left}
use mathlib.Core.Path.{◌≡◌, refl, sym, ap, ◌∙◌}
use mathlib.Core.Bool.{Bool, cond, ◌&&◌}
use mathlib.Core.List.{List, [], ◌∷◌, ◌++◌, map}
use lib.ListN.{length, get_or, take, drop, length-drop, replicate}
use lib.Seq.{length-take-le, take-append-add, get_or-take, get_or-drop, drop-drop, sets}
use lib.Dec.{eqb, eqb-suc-suc}
use borrow.Author.Tests.{eq-eqb, ne_eqb}
use Rattle.lists.specs.Tables.{put, cell, put_cell, tabulate}
use Rattle.lists.proofs.Tabulated.{length_tabulate, get_tabulate, tabulate_same, put_tabulate, map_tabulate}
use Rattle.layout.specs.Layout.{row_of, per_processor}
use Rattle.layout.proofs.Stores.{drop_take, part_of_part, drop_sets_behind, part_sets_before, drop_sets_same, part_sets_same}

-- ---- rows

module _ {A : Type 0} where
  -- a row within the area has its n elements
  pub length_row : (n : ℕ) (l : List A) (k : ℕ) → n * k + n ≤ length l → length (row_of n l k) ≡ n
  unfolding row_of
  length_row n l k h = length-take-le n (drop (n * k) l) (omega (arith, length-drop (n * k) l))

  -- an element of a row
  pub get_row : (n : ℕ) (l : List A) (k j : ℕ) (d : A) → j < n → get_or (row_of n l k) j d ≡ get_or l (n * k + j) d
  unfolding row_of
  get_row n l k j d h = get_or-take n (drop (n * k) l) j d h ∙ get_or-drop (n * k) l j d

  -- a part of a row
  pub part_of_row : (n : ℕ) (l : List A) (k from count : ℕ) → from + count ≤ n → take count (drop from (row_of n l k)) ≡ take count (drop (n * k + from) l)
  unfolding row_of
  part_of_row n l k from count h =
      part_of_part n from count (drop (n * k) l) h ∙ ap (λ (r : List A). take count r) (drop-drop from (n * k) l)

  -- a row stored anew is the new one
  pub row_of_sets_same : (n : ℕ) (l v : List A) (k : ℕ) → length v ≡ n → n * k + n ≤ length l → row_of n (sets l (n * k) v) k ≡ v
  unfolding row_of
  row_of_sets_same n l v k e h = part_sets_same v l (n * k) n e h

  -- and every other row is the old one
  pub row_of_sets_other : (n : ℕ) (l v : List A) (k j : ℕ) → length v ≤ n → (j ≡ k → ⊥) → row_of n (sets l (n * k) v) j ≡ row_of n l j
  unfolding row_of
  row_of_sets_other n l v k j e h = go (dec_lt j k)
    where
      go : Dec (j < k) → take n (drop (n * j) (sets l (n * k) v)) ≡ take n (drop (n * j) l)
      go (yes b) = part_sets_before v l (n * k) n (n * j) (omega (arith, mul-le-mul_left n b, mul-suc n j))
      go (no b) =
          let c : suc k ≤ j = omega arith in
          ap (λ (r : List A). take n r) (drop_sets_behind v l (n * k) (n * j) (omega (arith, mul-le-mul_left n c, mul-suc n k)))

  -- a row of which the first elements are stored anew
  pub row_of_sets_front : (n : ℕ) (l v : List A) (k : ℕ) → length v ≤ n → n * k + n ≤ length l
      → row_of n (sets l (n * k) v) k ≡ v ++ drop (length v) (row_of n l k)
  unfolding row_of
  row_of_sets_front n l v k e h =
      ap (λ (r : List A). take n r) (drop_sets_same v l (n * k) (omega arith))
      ∙ ap (λ (j : ℕ). take j (v ++ drop (n * k + length v) l)) split
      ∙ take-append-add v (drop (n * k + length v) l) (n - length v)
      ∙ ap (λ (r : List A). v ++ r) (sym rest)
    where
      split : n ≡ length v + (n - length v)
      split = omega arith

      rest : drop (length v) (take n (drop (n * k) l)) ≡ take (n - length v) (drop (n * k + length v) l)
      rest = drop_take (length v) n (drop (n * k) l) e ∙ ap (λ (r : List A). take (n - length v) r) (drop-drop (length v) (n * k) l)

  -- both in one: the new row at its place, the old one elsewhere
  pub row_of_sets : (n : ℕ) (l v : List A) (k j : ℕ) → length v ≡ n → n * k + n ≤ length l → row_of n (sets l (n * k) v) j ≡ cond (eqb j k) v (row_of n l j)
  row_of_sets n l v k j e h = go (ℕ_discrete j k)
    where
      go : Dec (j ≡ k) → row_of n (sets l (n * k) v) j ≡ cond (eqb j k) v (row_of n l j)
      go (yes b) = rw (eq-eqb j k b) (rw b (row_of_sets_same n l v k e h))
      go (no b) = rw (ne_eqb j k b) (row_of_sets_other n l v k j (omega arith) b)

-- ---- tables with a row for each processor

module _ {A : Type 0} where
  -- a row for each, and the one of nobody
  pub length_per_processor : (n : ℕ) (f : ℕ → List A) → length (per_processor n f) ≡ suc n
  unfolding per_processor
  length_per_processor n f = ap suc (length_tabulate n (λ k. f (suc k)))

  -- nobody's row is empty
  pub get_nobody : (n : ℕ) (f : ℕ → List A) (d : List A) → get_or (per_processor n f) 0 d ≡ []
  unfolding per_processor
  get_nobody n f d = refl

  -- the row of a processor
  pub get_per_processor : (n : ℕ) (f : ℕ → List A) (p : ℕ) (d : List A) → 1 ≤ p → p ≤ n → get_or (per_processor n f) p d ≡ f p
  unfolding per_processor
  get_per_processor n f zero d h k = absurd (omega arith)
  get_per_processor n f (suc p) d h k = get_tabulate n (λ k. f (suc k)) p d (omega arith)

  -- functions that agree for every processor give the same table
  pub per_processor_same : (n : ℕ) (f h : ℕ → List A) → ((p : ℕ) → 1 ≤ p → p ≤ n → f p ≡ h p) → per_processor n f ≡ per_processor n h
  unfolding per_processor
  per_processor_same n f h e =
      ap (λ (r : List (List A)). [] ∷ r) (tabulate_same n (λ k. f (suc k)) (λ k. h (suc k)) (λ k b. e (suc k) (omega arith) (omega arith)))

  -- one row replaced
  pub put_per_processor : (n : ℕ) (f : ℕ → List A) (p : ℕ) (v : List A) → 1 ≤ p → p ≤ n
      → put [] (per_processor n f) p v ≡ per_processor n (λ q. cond (eqb q p) v (f q))
  unfolding per_processor put
  put_per_processor n f zero v h k = absurd (omega arith)
  put_per_processor n f (suc p) v h k =
      ap (λ (r : List (List A)). [] ∷ r)
      (put_tabulate [] n (λ k. f (suc k)) p v (omega arith)
      ∙ tabulate_same n (λ j. cond (eqb j p) v (f (suc j))) (λ j. cond (eqb (suc j) (suc p)) v (f (suc j)))
      (λ j b. ap (λ (t : Bool). cond t v (f (suc j))) (sym (eqb-suc-suc j p))))

-- every element of every row changed alike
pub map_per_processor : {A B : Type 0} (g : A → B) (n : ℕ) (f : ℕ → List A) → map (map g) (per_processor n f) ≡ per_processor n (λ p. map g (f p))
unfolding per_processor
map_per_processor {B = B} g n f = ap (λ (r : List (List B)). [] ∷ r) (map_tabulate (map g) n (λ k. f (suc k)))

-- ---- tables of tables: by processor and page, by processor and interval

module _ {A : Type 0} where
  -- the place of a processor and a page
  pub get_page : (d : A) (n m : ℕ) (f : ℕ → ℕ → A) (p g : ℕ) → 1 ≤ p → p ≤ n → g < m
      → cell d (per_processor n (λ q. tabulate m (f q))) p g ≡ f p g
  get_page d n m f p g h k b =
      ap (λ (row : List A). get_or row g d) (get_per_processor n (λ q. tabulate m (f q)) p [] h k) ∙ get_tabulate m (f p) g d b

  -- functions that agree for every page of every processor give the same table
  pub page_table_same : (n m : ℕ) (f e : ℕ → ℕ → A) → ((p g : ℕ) → 1 ≤ p → p ≤ n → g < m → f p g ≡ e p g)
      → per_processor n (λ q. tabulate m (f q)) ≡ per_processor n (λ q. tabulate m (e q))
  page_table_same n m f e s =
      per_processor_same n (λ q. tabulate m (f q)) (λ q. tabulate m (e q)) (λ p h k. tabulate_same m (f p) (e p) (λ g b. s p g h k b))

  -- one place replaced
  pub put_page : (d : A) (n m : ℕ) (f : ℕ → ℕ → A) (p g : ℕ) (v : A) → 1 ≤ p → p ≤ n → g < m
      → put_cell d (per_processor n (λ q. tabulate m (f q))) p g v ≡ per_processor n (λ q. tabulate m (λ j. cond (eqb q p && eqb j g) v (f q j)))
  unfolding put_cell
  put_page d n m f p g v h k b =
      ap (λ (row : List A). put [] (per_processor n (λ q. tabulate m (f q))) p row) row
      ∙ put_per_processor n (λ q. tabulate m (f q)) p (tabulate m (λ j. cond (eqb j g) v (f p j))) h k
      ∙ per_processor_same n (λ q. cond (eqb q p) (tabulate m (λ j. cond (eqb j g) v (f p j))) (tabulate m (f q)))
      (λ q. tabulate m (λ j. cond (eqb q p && eqb j g) v (f q j))) (λ q x y. each q (ℕ_discrete q p))
    where
      row : put d (get_or (per_processor n (λ q. tabulate m (f q))) p []) g v ≡ tabulate m (λ j. cond (eqb j g) v (f p j))
      row = ap (λ (r : List A). put d r g v) (get_per_processor n (λ q. tabulate m (f q)) p [] h k) ∙ put_tabulate d m (f p) g v b

      each : (q : ℕ) → Dec (q ≡ p) → cond (eqb q p) (tabulate m (λ j. cond (eqb j g) v (f p j))) (tabulate m (f q)) ≡ tabulate m (λ j. cond (eqb q p && eqb j g) v (f q j))
      each q (yes e) = rw (eq-eqb q p e) (rw e)
      each q (no e) = rw (ne_eqb q p e)

module _ {A : Type 0} where
  -- the place of a processor and an interval
  pub get_interval : (n m : ℕ) (f : ℕ → ℕ → List A) (p i : ℕ) → 1 ≤ p → p ≤ n → 1 ≤ i → i ≤ m
      → cell [] (per_processor n (λ q. per_processor m (f q))) p i ≡ f p i
  get_interval n m f p i h k a b =
      ap (λ (row : List (List A)). get_or row i []) (get_per_processor n (λ q. per_processor m (f q)) p [] h k) ∙ get_per_processor m (f p) i [] a b

  -- functions that agree for every interval of every processor give the same table
  pub interval_table_same : (n m : ℕ) (f e : ℕ → ℕ → List A) → ((p i : ℕ) → 1 ≤ p → p ≤ n → 1 ≤ i → i ≤ m → f p i ≡ e p i)
      → per_processor n (λ q. per_processor m (f q)) ≡ per_processor n (λ q. per_processor m (e q))
  interval_table_same n m f e s =
      per_processor_same n (λ q. per_processor m (f q)) (λ q. per_processor m (e q))
      (λ p h k. per_processor_same m (f p) (e p) (λ i a b. s p i h k a b))

  -- one place replaced
  pub put_interval : (n m : ℕ) (f : ℕ → ℕ → List A) (p i : ℕ) (v : List A) → 1 ≤ p → p ≤ n → 1 ≤ i → i ≤ m
      → put_cell [] (per_processor n (λ q. per_processor m (f q))) p i v ≡ per_processor n (λ q. per_processor m (λ j. cond (eqb q p && eqb j i) v (f q j)))
  unfolding put_cell
  put_interval n m f p i v h k a b =
      ap (λ (row : List (List A)). put [] (per_processor n (λ q. per_processor m (f q))) p row) row
      ∙ put_per_processor n (λ q. per_processor m (f q)) p (per_processor m (λ j. cond (eqb j i) v (f p j))) h k
      ∙ per_processor_same n (λ q. cond (eqb q p) (per_processor m (λ j. cond (eqb j i) v (f p j))) (per_processor m (f q)))
      (λ q. per_processor m (λ j. cond (eqb q p && eqb j i) v (f q j))) (λ q x y. each q (ℕ_discrete q p))
    where
      row : put [] (get_or (per_processor n (λ q. per_processor m (f q))) p []) i v ≡ per_processor m (λ j. cond (eqb j i) v (f p j))
      row = ap (λ (r : List (List A)). put [] r i v) (get_per_processor n (λ q. per_processor m (f q)) p [] h k) ∙ put_per_processor m (f p) i v a b

      each : (q : ℕ) → Dec (q ≡ p)
          → cond (eqb q p) (per_processor m (λ j. cond (eqb j i) v (f p j))) (per_processor m (f q)) ≡ per_processor m (λ j. cond (eqb q p && eqb j i) v (f q j))
      each q (yes e) = rw (eq-eqb q p e) (rw e)
      each q (no e) = rw (ne_eqb q p e)

-- ---- every element changed alike

module _ {A B : Type 0} (f : A → B) where
  take_map : (n : ℕ) (l : List A) → take n (map f l) ≡ map f (take n l)
  take_map zero l = refl
  take_map (suc n) [] = refl
  take_map (suc n) (x ∷ l) = ap (λ (r : List B). f x ∷ r) (take_map n l)

  drop_map : (n : ℕ) (l : List A) → drop n (map f l) ≡ map f (drop n l)
  drop_map zero l = refl
  drop_map (suc n) [] = refl
  drop_map (suc n) (x ∷ l) = drop_map n l

  -- a row of the changed area is the changed row
  pub row_map : (n : ℕ) (l : List A) (k : ℕ) → row_of n (map f l) k ≡ map f (row_of n l k)
  unfolding row_of
  row_map n l k = ap (λ (r : List B). take n r) (drop_map (n * k) l) ∙ take_map n (drop (n * k) l)

-- as many equal elements
pub map_replicate : {A B : Type 0} (l : List A) (b : B) → map (λ (a : A). b) l ≡ replicate (length l) b
map_replicate [] b = refl
map_replicate {B = B} (x ∷ l) b = ap (λ (r : List B). b ∷ r) (map_replicate l b)
