-- What the writer reads off a mask of settings (diff, specs/inner/Mask.antt): where words are kept and set. Assumes nothing.
use Rattle.std.specs.Prelude.{ℕ, suc, List, [], ◌∷◌}
use Rattle.std.proofs.Math.Option.{Option, none, some}

-- how many words are kept before the first that is set
unfoldable pub kept_first : List (Option ℕ) → ℕ
kept_first [] = 0
kept_first (none ∷ d) = suc (kept_first d)
kept_first (some v ∷ d) = 0

-- how many words are set before the first that is kept
unfoldable pub set_first : List (Option ℕ) → ℕ
set_first [] = 0
set_first (none ∷ d) = 0
set_first (some v ∷ d) = suc (set_first d)

-- the settings without the first that sets a word
unfoldable pub without_first : List (Option ℕ) → List (Option ℕ)
without_first [] = []
without_first (none ∷ d) = none ∷ without_first d
without_first (some v ∷ d) = none ∷ d

-- the words of a page that are set
unfoldable pub picked : List (Option ℕ) → List ℕ → List ℕ
picked [] page = []
picked (s ∷ d) [] = []
picked (none ∷ d) (y ∷ page) = picked d page
picked (some v ∷ d) (y ∷ page) = y ∷ picked d page
