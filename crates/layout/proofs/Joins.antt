-- Rows and elements of an area listed in their order, one after the other, are a part of that area. Assumes nothing.
use Prim.Native.Nat.{ℕ, zero, suc, ◌+◌, ◌*◌, ◌≤◌, ◌<◌}
use native.Mathlib.Omega.{arith}
use native.Mathlib.Nat.{mul-zero, mul-suc}
use mathlib.Core.Path.{◌≡◌, refl, sym, ap, ◌∙◌}
use mathlib.Core.List.{List, [], ◌∷◌, ◌++◌, map, append_assoc}
use lib.ListN.{length, get_or, take, drop, length-drop}
use lib.Seq.{length-take-le, get_or-take, get_or-drop, drop-drop, take-add}
use Rattle.lists.specs.Tables.{tabulate}
use Rattle.layout.specs.Layout.{per_processor, join_rows}
use Rattle.lists.proofs.Tabulated.{tabulate_same, tabulate_get, map_tabulate}

module _ {A : Type 0} where
  -- parts of s elements, one behind the other, make one part
  pub join_parts : (n s a : ℕ) (l : List A) → join_rows (tabulate n (λ k. take s (drop (a + s * k) l))) ≡ take (s * n) (drop a l)
  unfolding join_rows tabulate
  join_parts zero s a l = rw (mul-zero s)
  join_parts (suc n) s a l =
      ap (λ (r : List A). take s (drop (a + s * 0) l) ++ r)
      (ap (λ (t : List (List A)). join_rows t)
      (tabulate_same n (λ k. take s (drop (a + s * suc k) l)) (λ k. take s (drop (a + s + s * k) l))
      (λ k b. ap (λ (j : ℕ). take s (drop j l)) (further k)))
      ∙ join_parts n s (a + s) l)
      ∙ ap (λ (j : ℕ). take s (drop j l) ++ take (s * n) (drop (a + s) l)) first
      ∙ ap (λ (r : List A). take s (drop a l) ++ take (s * n) r) (sym (drop-drop s a l))
      ∙ sym (take-add s (s * n) (drop a l))
      ∙ ap (λ (j : ℕ). take j (drop a l)) whole
    where
      first : a + s * 0 ≡ a
      first = omega (arith, mul-zero s)

      further : (k : ℕ) → a + s * suc k ≡ a + s + s * k
      further k = omega (arith, mul-suc s k)

      whole : s + s * n ≡ s * suc n
      whole = omega (arith, mul-suc s n)

  -- rows that are such parts
  pub join_rows_lem : (n s a : ℕ) (l : List A) (row : ℕ → List A) → ((k : ℕ) → k < n → row k ≡ take s (drop (a + s * k) l))
      → join_rows (tabulate n row) ≡ take (s * n) (drop a l)
  join_rows_lem n s a l row e =
      ap (λ (t : List (List A)). join_rows t) (tabulate_same n row (λ k. take s (drop (a + s * k) l)) e) ∙ join_parts n s a l

  -- the empty row of nobody adds nothing
  pub join_per_processor : (n : ℕ) (f : ℕ → List A) → join_rows (per_processor n f) ≡ join_rows (tabulate n (λ k. f (suc k)))
  unfolding join_rows per_processor
  join_per_processor n f = refl

  join_append : (s t : List (List A)) → join_rows (s ++ t) ≡ join_rows s ++ join_rows t
  unfolding join_rows
  join_append [] t = refl
  join_append (x ∷ s) t = ap (λ (r : List A). x ++ r) (join_append s t) ∙ sym (append_assoc x (join_rows s) (join_rows t))

  -- rows of rows: each row of rows joined first
  join_join : (t : List (List (List A))) → join_rows (join_rows t) ≡ join_rows (map join_rows t)
  unfolding join_rows
  join_join [] = refl
  join_join (x ∷ t) = join_append x (join_rows t) ∙ ap (λ (r : List A). join_rows x ++ r) (join_join t)

module _ {A : Type 0} where
  -- rows of rows: the rows of each processor joined first
  pub join_tables : (n : ℕ) (f : ℕ → List (List A)) → join_rows (join_rows (per_processor n f)) ≡ join_rows (tabulate n (λ k. join_rows (f (suc k))))
  join_tables n f =
      ap (λ (t : List (List A)). join_rows t) (join_per_processor n f) ∙ join_join (tabulate n (λ k. f (suc k)))
      ∙ ap (λ (t : List (List A)). join_rows t) (map_tabulate join_rows n (λ k. f (suc k)))

  -- elements one after the other are a part too
  pub tabulate_part : (n a : ℕ) (l : List A) (d : A) (f : ℕ → A) → a + n ≤ length l → ((k : ℕ) → k < n → f k ≡ get_or l (a + k) d)
      → tabulate n f ≡ take n (drop a l)
  tabulate_part n a l d f h e =
      tabulate_same n f (λ k. get_or (take n (drop a l)) k d)
      (λ k b. e k b ∙ sym (get_or-take n (drop a l) k d b ∙ get_or-drop a l k d))
      ∙ tabulate_get (take n (drop a l)) n d (length-take-le n (drop a l) (omega (arith, length-drop a l)))
