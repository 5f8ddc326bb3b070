-- Tables with an empty row for nobody and a row of one length for each processor: what the test of them says, that nothing stands outside, that they keep
-- their lengths when places change, and those with equal rows. Rests on Everywhere. Assumes nothing.
use Prim.Native.Nat.{ℕ, zero, suc, ◌≤◌, ◌<◌}
use native.Mathlib.Omega.{arith}
use native.Mathlib.Decide.{dec_le, ℕ_discrete}
use mathlib.Core.Path.{◌≡◌, refl, ap, ◌∙◌}
use mathlib.Core.Bool.{Bool, true}
use mathlib.Core.List.{List, [], ◌∷◌, map}
use lib.ListN.{length, get_or, replicate, length-replicate, get_or-replicate, get_or-eq_default, length-map}
use lib.Dec.{eqb}
use borrow.Author.Tests.{eqb-true, eq-eqb}
use Rattle.lists.specs.Tables.{put, cell, put_cell}
use Rattle.lists.proofs.Tables.{get_put_same, get_put_other, length_put_within, length_row_put, get_map}
use Rattle.lists.proofs.Conditions.{conjoined, Given, conjoined_at, conjoined_holds}
use Rattle.rules.specs.State.{Limits}
use Rattle.rules.specs.InOrder.{every_processor, rows_sized}
use Rattle.rules.specs.Opening.{rows}
use Rattle.rules.proofs.inorder.Everywhere.{every_processor_at, every_processor_holds}

-- a list of length 0 is empty
pub nothing : {A : Type 0} (l : List A) → length l ≡ 0 → l ≡ []
nothing [] e = refl
nothing (x ∷ l) e = absurd (omega (arith, e))

-- a table with an empty row for nobody and a row of one length for each processor
pub record Rows {A : Type 0} (lim : Limits) (n : ℕ) (t : List (List A)) : Type 0 where
  pub processors : length t ≡ suc lim.processors
  pub nobody : length (get_or t 0 []) ≡ 0
  pub row : (p : ℕ) → 1 ≤ p → p ≤ lim.processors → length (get_or t p []) ≡ n

module _ {A : Type 0} where
  row_tests : Limits → ℕ → List (List A) → List Bool
  row_tests lim n t =
      eqb (length t) (suc lim.processors) ∷ eqb (length (get_or t 0 [])) 0 ∷ every_processor lim (λ (p : ℕ). eqb (length (get_or t p [])) n) ∷ []

  -- what the test of a table says
  pub rows_sized_says : (lim : Limits) (n : ℕ) (t : List (List A)) → rows_sized lim n t ≡ true → Rows lim n t
  unfolding rows_sized conjoined row_tests
  rows_sized_says lim n t e = go (λ i. conjoined_at (row_tests lim n t) i e)
    where
      go : ((i : ℕ) → get_or (row_tests lim n t) i true ≡ true) → Rows lim n t
      go part =
          record {
            processors = eqb-true _ _ (part 0);
            nobody = eqb-true _ _ (part 1);
            row = λ p h k. eqb-true _ _ (every_processor_at lim (λ (p : ℕ). eqb (length (get_or t p [])) n) p (part 2) h k);
          }

  -- a table of such rows passes the test
  pub rows_sized_when : (lim : Limits) (n : ℕ) (t : List (List A)) → Rows lim n t → rows_sized lim n t ≡ true
  unfolding rows_sized conjoined row_tests Given
  rows_sized_when lim n t r =
      conjoined_holds (row_tests lim n t) (eq-eqb _ _ r.processors) (eq-eqb _ _ r.nobody)
      (every_processor_holds lim (λ (p : ℕ). eqb (length (get_or t p [])) n) (λ p h k. eq-eqb _ _ (r.row p h k)))

  -- a row outside the table is empty, and so is nobody's
  pub row_outside : (lim : Limits) (n : ℕ) (t : List (List A)) → Rows lim n t → (p : ℕ) → ((1 ≤ p) × (p ≤ lim.processors) → ⊥) → get_or t p [] ≡ []
  row_outside lim n t r zero h = nothing (get_or t 0 []) r.nobody
  row_outside lim n t r (suc p) h = get_or-eq_default t [] (go (dec_le (suc p) lim.processors))
    where
      go : Dec (p < lim.processors) → length t ≤ suc p
      go (yes k) = absurd (h (omega arith, k))
      go (no k) = omega (arith, r.processors)

  -- a place outside the table has the default
  pub cell_outside : (d : A) (lim : Limits) (n : ℕ) (t : List (List A)) → Rows lim n t → (p g : ℕ) → ((1 ≤ p) × (p ≤ lim.processors) × (g < n) → ⊥) → cell d t p g ≡ d
  cell_outside d lim n t r p g h = go (dec_le 1 p) (dec_le p lim.processors)
    where
      no_row : get_or t p [] ≡ [] → cell d t p g ≡ d
      no_row e = ap (λ (row : List A). get_or row g d) e

      go : Dec (1 ≤ p) → Dec (p ≤ lim.processors) → cell d t p g ≡ d
      go (yes a) (yes b) = get_or-eq_default (get_or t p []) d (past (dec_le (suc g) n))
        where
          past : Dec (g < n) → length (get_or t p []) ≤ g
          past (yes k) = absurd (h (a, b, k))
          past (no k) = omega (arith, r.row p a b)
      go (yes a) (no b) = no_row (row_outside lim n t r p (λ w. b w.1))
      go (no a) b = no_row (row_outside lim n t r p (λ w. a w.0))

-- ---- places changed

-- a row that has the place changed
pub rows_put_cell : {A : Type 0} (d : A) (lim : Limits) (n : ℕ) (t : List (List A)) (p g : ℕ) (v : A) → Rows lim n t → 1 ≤ p → p ≤ lim.processors → g < n
    → Rows lim n (put_cell d t p g v)
unfolding put_cell
rows_put_cell {A} d lim n t p g v f h k l =
    record {
      processors = length_put_within [] t p (put d (get_or t p []) g v) (omega (arith, f.processors)) ∙ f.processors;
      nobody = ap length (get_put_other [] t p 0 (put d (get_or t p []) g v) (λ e. omega (arith, e, h))) ∙ f.nobody;
      row = λ q a b. length_row_put d t p g q v (omega (arith, f.row p h k)) ∙ f.row q a b;
    }

-- every element of one row changed alike
pub rows_map_row : {A : Type 0} (lim : Limits) (n : ℕ) (t : List (List A)) (p : ℕ) (f : A → A) → Rows lim n t → 1 ≤ p → p ≤ lim.processors
    → Rows lim n (put [] t p (map f (get_or t p [])))
rows_map_row {A} lim n t p f r h k =
    record {
      processors = length_put_within [] t p (map f (get_or t p [])) (omega (arith, r.processors)) ∙ r.processors;
      nobody = ap length (get_put_other [] t p 0 (map f (get_or t p [])) (λ e. omega (arith, e, h))) ∙ r.nobody;
      row = λ q a b. go q (ℕ_discrete q p) ∙ r.row q a b;
    }
  where
    go : (q : ℕ) → Dec (q ≡ p) → length (get_or (put [] t p (map f (get_or t p []))) q []) ≡ length (get_or t q [])
    go q (yes e) = rw e (ap length (get_put_same [] t p (map f (get_or t p []))) ∙ length-map (get_or t p []) f)
    go q (no e) = ap length (get_put_other [] t p q (map f (get_or t p [])) e)

-- every element of every row changed alike
pub rows_map_all : {A : Type 0} (lim : Limits) (n : ℕ) (t : List (List A)) (f : A → A) → Rows lim n t → Rows lim n (map (map f) t)
rows_map_all {A} lim n t f r =
    record {
      processors = length-map t (map f) ∙ r.processors;
      nobody = same 0 ∙ r.nobody;
      row = λ q a b. same q ∙ r.row q a b;
    }
  where
    same : (q : ℕ) → length (get_or (map (map f) t) q []) ≡ length (get_or t q [])
    same q = ap length (get_map (map f) [] t q) ∙ length-map (get_or t q []) f

-- ---- lists and tables of equal elements

-- what holds of the element and of the default holds at every place
pub replicated : {A : Type 0} (P : A → Type 0) (n i : ℕ) (a d : A) → P a → P d → P (get_or (replicate n a) i d)
replicated P zero i a d x y = y
replicated P (suc n) zero a d x y = x
replicated P (suc n) (suc i) a d x y = replicated P n i a d x y

module _ {A : Type 0} where
  -- what holds of the row and of the empty row holds of every row
  pub rows_all : (P : List A → Type 0) (n : ℕ) (row : List A) (p : ℕ) → P row → P [] → P (get_or (rows n row) p [])
  unfolding rows
  rows_all P n row zero x y = y
  rows_all P n row (suc p) x y = replicated P n p row [] x y

  pub row_at : (n : ℕ) (row : List A) (p : ℕ) → 1 ≤ p → p ≤ n → get_or (rows n row) p [] ≡ row
  unfolding rows
  row_at n row zero h k = absurd (omega arith)
  row_at n row (suc p) h k = get_or-replicate n p row [] k

  pub rows_sized_lem : (lim : Limits) (m : ℕ) (row : List A) → length row ≡ m → Rows lim m (rows lim.processors row)
  unfolding rows
  rows_sized_lem lim m row e =
      record {
        processors = ap suc (length-replicate lim.processors row);
        nobody = refl;
        row = λ p h k. ap length (row_at lim.processors row p h k) ∙ e;
      }
