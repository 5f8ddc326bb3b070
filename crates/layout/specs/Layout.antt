-- How the state lies in lent memory: four areas, each a sequence of rows. Rows of clocks have an entry a processor, rows of words a page,
-- rows of records a slot; marks stand one by one. Assumes nothing.
use Rattle.std.specs.Prelude.{ℕ, suc, ◌*◌, List, [], ◌∷◌, ◌++◌, take, drop}
use Rattle.lists.specs.Tables.{tabulate}
use Rattle.rules.specs.Opening.{rows}

-- the k-th row of n elements
unfoldable pub row_of : {A : Type 0} → ℕ → List A → ℕ → List A
row_of n l k = take n (drop (n * k) l)

-- a table with a row for each processor, 1 to n, behind nobody's empty one
unfoldable pub per_processor : {A : Type 0} → ℕ → (ℕ → List A) → List (List A)
per_processor n f = [] ∷ tabulate n (λ k. f (suc k))

-- the elements of the rows, one row after the other
unfoldable pub join_rows : {A : Type 0} → List (List A) → List A
join_rows [] = []
join_rows (row ∷ rows) = row ++ join_rows rows
