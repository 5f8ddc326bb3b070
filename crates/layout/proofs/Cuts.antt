-- Rows joined one after the other and cut again are the rows; parts and elements of lists one behind the other are those of the list in
-- which they lie. Assumes nothing.
use Prim.Native.Nat.{ℕ, zero, suc, ◌+◌, ◌-◌, ◌*◌, ◌≤◌, ◌<◌}
use native.Mathlib.Omega.{arith}
use native.Mathlib.Nat.{mul-zero, mul-suc, mul-le-mul_left}
use mathlib.Core.Path.{◌≡◌, refl, sym, ap, ◌∙◌}
use mathlib.Core.List.{List, [], ◌∷◌, ◌++◌}
use lib.ListN.{length, get_or, take, drop, length-append, length-drop}
use lib.Seq.{take-append-le, drop-append-le, drop-append-add, get_or-append-add, get_or-take, get_or-drop, drop-drop, take_at}
use Rattle.lists.specs.Tables.{cell, tabulate}
use Rattle.layout.specs.Layout.{per_processor, join_rows}
use Rattle.layout.proofs.Stores.{part_of_part}
use Rattle.lists.proofs.Tabulated.{tabulate_same, tabulate_get}
use Rattle.layout.proofs.RowLaws.{per_processor_same}
use Rattle.layout.proofs.Joins.{join_per_processor, join_tables}

-- ---- two lists, one behind the other

module _ {A : Type 0} where
  -- a part that ends within the first
  pub part_before : (k j : ℕ) (l r : List A) → j + k ≤ length l → take k (drop j (l ++ r)) ≡ take k (drop j l)
  part_before k j l r h =
      ap (λ (x : List A). take k x) (drop-append-le j l r (omega arith)) ∙ take-append-le k (drop j l) r (omega (arith, length-drop j l))

  -- a part that begins within the second
  pub part_behind : (k a j : ℕ) (l r : List A) → length l ≡ a → take k (drop (a + j) (l ++ r)) ≡ take k (drop j r)
  part_behind k a j l r e = ap (λ (n : ℕ). take k (drop (n + j) (l ++ r))) (sym e) ∙ ap (λ (x : List A). take k x) (drop-append-add l r j)

  -- an element of the second
  pub get_behind : (a j : ℕ) (l r : List A) (d : A) → length l ≡ a → get_or (l ++ r) (a + j) d ≡ get_or r j d
  get_behind a j l r d e = ap (λ (n : ℕ). get_or (l ++ r) (n + j) d) (sym e) ∙ get_or-append-add l r j d

-- ---- n rows of k elements

module _ {A : Type 0} where
  -- joined they have k * n elements
  pub length_joined : (n k : ℕ) (f : ℕ → List A) → ((i : ℕ) → i < n → length (f i) ≡ k) → length (join_rows (tabulate n f)) ≡ k * n
  unfolding join_rows tabulate
  length_joined zero k f w = sym (mul-zero k)
  length_joined (suc n) k f w =
      length-append (f 0) (join_rows (tabulate n (λ i. f (suc i))))
      ∙ omega (arith, w 0 (omega arith), length_joined n k (λ i. f (suc i)) (λ i b. w (suc i) (omega arith)), mul-suc k n)

  -- the i-th of them, cut out again
  pub joined_row : (n k : ℕ) (f : ℕ → List A) (i : ℕ) → ((i : ℕ) → i < n → length (f i) ≡ k) → i < n
      → take k (drop (k * i) (join_rows (tabulate n f))) ≡ f i
  unfolding join_rows tabulate
  joined_row zero k f i w b = absurd (omega arith)
  joined_row (suc n) k f zero w b =
      ap (λ (j : ℕ). take k (drop j (f 0 ++ join_rows (tabulate n (λ i. f (suc i)))))) (mul-zero k)
      ∙ take_at (f 0) (join_rows (tabulate n (λ i. f (suc i)))) k (w 0 (omega arith))
  joined_row (suc n) k f (suc i) w b =
      ap (λ (j : ℕ). take k (drop j (f 0 ++ join_rows (tabulate n (λ i. f (suc i)))))) further
      ∙ part_behind k k (k * i) (f 0) (join_rows (tabulate n (λ i. f (suc i)))) (w 0 (omega arith))
      ∙ joined_row n k (λ i. f (suc i)) i (λ i b. w (suc i) (omega arith)) (omega arith)
    where
      further : k * suc i ≡ k + k * i
      further = omega (arith, mul-suc k i)

  -- the j-th element of the i-th of them
  pub joined_get : (n k : ℕ) (f : ℕ → List A) (i j : ℕ) (d : A) → ((i : ℕ) → i < n → length (f i) ≡ k) → i < n → j < k
      → get_or (join_rows (tabulate n f)) (k * i + j) d ≡ get_or (f i) j d
  joined_get n k f i j d w b h =
      sym (get_or-take k (drop (k * i) (join_rows (tabulate n f))) j d h ∙ get_or-drop (k * i) (join_rows (tabulate n f)) j d)
      ∙ ap (λ (row : List A). get_or row j d) (joined_row n k f i w b)

-- ---- n tables of m rows of k elements

module _ {A : Type 0} (n m k : ℕ) (f : ℕ → ℕ → List A) (w : (p g : ℕ) → p < n → g < m → length (f p g) ≡ k) where
  table_size : (p : ℕ) → p < n → length (join_rows (tabulate m (f p))) ≡ k * m
  table_size p b = length_joined m k (f p) (λ g c. w p g b c)

  -- joined they have k * m * n elements
  length_tables : length (join_rows (tabulate n (λ p. join_rows (tabulate m (f p))))) ≡ k * m * n
  length_tables = length_joined n (k * m) (λ p. join_rows (tabulate m (f p))) table_size

  -- the row g of the table p, cut out again
  table_row : (p g : ℕ) → p < n → g < m → take k (drop (k * m * p + k * g) (join_rows (tabulate n (λ p. join_rows (tabulate m (f p)))))) ≡ f p g
  table_row p g b c =
      let all : List A = join_rows (tabulate n (λ p. join_rows (tabulate m (f p)))) in
      ap (λ (l : List A). take k l) (sym (drop-drop (k * g) (k * m * p) all))
      ∙ sym (part_of_part (k * m) (k * g) k (drop (k * m * p) all) (omega (arith, mul-le-mul_left k c, mul-suc k g)))
      ∙ ap (λ (l : List A). take k (drop (k * g) l)) (joined_row n (k * m) (λ p. join_rows (tabulate m (f p))) p table_size b)
      ∙ joined_row m k (f p) g (λ g c. w p g b c) c

-- ---- tables behind nobody's empty place

module _ {A : Type 0} where
  -- a list with a place for each processor is its place 0 and the others
  pub first_and_rest : (l : List A) (n : ℕ) (d : A) → length l ≡ suc n → get_or l 0 d ∷ tabulate n (λ k. get_or l (suc k) d) ≡ l
  first_and_rest [] n d e = absurd (omega arith)
  first_and_rest (x ∷ l) n d e = ap (λ (r : List A). x ∷ r) (tabulate_get l n d (omega arith))

  empty_list : (l : List A) → length l ≡ 0 → l ≡ []
  empty_list [] e = refl
  empty_list (x ∷ l) e = absurd (omega arith)

module _ {A : Type 0} (t : List (List A)) (n : ℕ) (long : length t ≡ suc n) (nobody : length (get_or t 0 []) ≡ 0) where
  -- a table is the table of its rows
  pub table_of_rows : per_processor n (λ p. get_or t p []) ≡ t
  unfolding per_processor
  table_of_rows =
      ap (λ (x : List A). x ∷ tabulate n (λ k. get_or t (suc k) [])) (sym (empty_list (get_or t 0 []) nobody)) ∙ first_and_rest t n [] long

  -- joined it is its rows joined
  pub table_joined : join_rows t ≡ join_rows (tabulate n (λ k. get_or t (suc k) []))
  table_joined = ap (λ (u : List (List A)). join_rows u) (sym table_of_rows) ∙ join_per_processor n (λ p. get_or t p [])

  -- rows of m elements: the table of its elements
  pub table_of_elements : (m : ℕ) (d : A) → ((p : ℕ) → 1 ≤ p → p ≤ n → length (get_or t p []) ≡ m)
      → per_processor n (λ p. tabulate m (λ g. cell d t p g)) ≡ t
  table_of_elements m d rows =
      per_processor_same n (λ p. tabulate m (λ g. cell d t p g)) (λ p. get_or t p []) (λ p a b. tabulate_get (get_or t p []) m d (rows p a b)) ∙ table_of_rows

-- ---- tables by processor and page

module _ {A : Type 0} (t : List (List (List A))) (n m k : ℕ) (long : length t ≡ suc n) (nobody : length (get_or t 0 []) ≡ 0)
    (rows : (p : ℕ) → 1 ≤ p → p ≤ n → length (get_or t p []) ≡ m)
    (cells : (p g : ℕ) → 1 ≤ p → p ≤ n → g < m → length (cell [] t p g) ≡ k) where
  pages_joined : join_rows (join_rows t) ≡ join_rows (tabulate n (λ p. join_rows (tabulate m (λ g. cell [] t (suc p) g))))
  pages_joined =
      ap (λ (u : List (List (List A))). join_rows (join_rows u)) (sym (table_of_elements t n long nobody m [] rows))
      ∙ join_tables n (λ p. tabulate m (λ g. cell [] t p g))

  -- its elements, all joined
  pub length_pages : length (join_rows (join_rows t)) ≡ k * m * n
  length_pages = ap length pages_joined ∙ length_tables n m k (λ p g. cell [] t (suc p) g) (λ p g b c. cells (suc p) g (omega arith) (omega arith) c)

  -- the row of a processor and a page, cut out again
  pub page_cut : (p g : ℕ) → 1 ≤ p → p ≤ n → g < m → take k (drop (k * m * (p - 1) + k * g) (join_rows (join_rows t))) ≡ cell [] t p g
  page_cut p g a b c =
      ap (λ (l : List A). take k (drop (k * m * (p - 1) + k * g) l)) pages_joined
      ∙ table_row n m k (λ p g. cell [] t (suc p) g) (λ p g b c. cells (suc p) g (omega arith) (omega arith) c) (p - 1) g (omega arith) c
      ∙ ap (λ (q : ℕ). cell [] t q g) again
    where
      again : suc (p - 1) ≡ p
      again = omega arith

-- ---- tables by processor and interval, with an empty place for no interval

module _ {A : Type 0} (t : List (List (List A))) (n m : ℕ) (long : length t ≡ suc n) (nobody : length (get_or t 0 []) ≡ 0)
    (rows : (p : ℕ) → 1 ≤ p → p ≤ n → length (get_or t p []) ≡ suc m) (none : (p : ℕ) → 1 ≤ p → p ≤ n → length (cell [] t p 0) ≡ 0) where
  -- such a table is the table of its rows
  pub table_of_intervals : per_processor n (λ p. per_processor m (λ i. cell [] t p i)) ≡ t
  table_of_intervals =
      per_processor_same n (λ p. per_processor m (λ i. cell [] t p i)) (λ p. get_or t p [])
      (λ p a b. table_of_rows (get_or t p []) m (rows p a b) (none p a b))
      ∙ table_of_rows t n long nobody

  intervals_joined : join_rows (join_rows t) ≡ join_rows (tabulate n (λ p. join_rows (tabulate m (λ i. cell [] t (suc p) (suc i)))))
  intervals_joined =
      ap (λ (u : List (List (List A))). join_rows (join_rows u)) (sym table_of_intervals)
      ∙ join_tables n (λ p. per_processor m (λ i. cell [] t p i))
      ∙ ap (λ (u : List (List A)). join_rows u)
      (tabulate_same n (λ p. join_rows (per_processor m (λ i. cell [] t (suc p) i))) (λ p. join_rows (tabulate m (λ i. cell [] t (suc p) (suc i))))
      (λ p b. join_per_processor m (λ i. cell [] t (suc p) i)))

  module _ (k : ℕ) (cells : (p i : ℕ) → 1 ≤ p → p ≤ n → 1 ≤ i → i ≤ m → length (cell [] t p i) ≡ k) where
    wide : (p i : ℕ) → p < n → i < m → length (cell [] t (suc p) (suc i)) ≡ k
    wide p i b c = cells (suc p) (suc i) (omega arith) (omega arith) (omega arith) (omega arith)

    -- its elements, all joined
    pub length_intervals : length (join_rows (join_rows t)) ≡ k * m * n
    length_intervals = ap length intervals_joined ∙ length_tables n m k (λ p i. cell [] t (suc p) (suc i)) wide

    -- the row of a processor and an interval, cut out again
    pub interval_cut : (p i : ℕ) → 1 ≤ p → p ≤ n → 1 ≤ i → i ≤ m
        → take k (drop (k * m * (p - 1) + k * (i - 1)) (join_rows (join_rows t))) ≡ cell [] t p i
    interval_cut p i a b c e =
        ap (λ (l : List A). take k (drop (k * m * (p - 1) + k * (i - 1)) l)) intervals_joined
        ∙ table_row n m k (λ p i. cell [] t (suc p) (suc i)) wide (p - 1) (i - 1) (omega arith) (omega arith)
        ∙ ap (λ (q : ℕ). cell [] t q (suc (i - 1))) again ∙ ap (λ (j : ℕ). cell [] t p j) once_more
      where
        again : suc (p - 1) ≡ p
        again = omega arith

        once_more : suc (i - 1) ≡ i
        once_more = omega arith
