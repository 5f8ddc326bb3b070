-- Document 01, "Changes as bytes": the one form in which a diff is written. A diff (document 01: a change) has a setting for each word of
-- a page: none, the word is kept, or some v, the word is set to v. Generic in the page length. Assumes nothing.
use Rattle.std.specs.Prelude.{ℕ, zero, suc, ◌+◌, ◌/◌, ◌%◌, ◌<◌, cond, List, [], ◌∷◌, ◌++◌, length, get_or, eqb}
use Rattle.std.proofs.Math.Option.{Option, none, some}

-- every number of a list is below a bound: bytes below 256, words of 32 bits below 4,294,967,296
pub record Below (bound : ℕ) (l : List ℕ) : Type 0 where
  pub at : (i : ℕ) → get_or l i 0 < bound

-- what a diff does to one word whose old and new values are given: "the runs hold exactly the differing words"
unfoldable pub setting : ℕ → ℕ → Option ℕ
setting old new = cond (eqb old new) none (some new)

-- the settings that turn one page into another, word by word
unfoldable pub difference : List ℕ → List ℕ → List (Option ℕ)
difference [] new = []
difference (x ∷ old) [] = []
difference (x ∷ old) (y ∷ new) = setting x y ∷ difference old new

-- a run of set words: where it begins on the page and how many words it has
pub record Run : Type 0 where
  pub offset : ℕ
  pub len : ℕ

-- the run of len words from offset on, unless it is empty
unfoldable pub ended : ℕ → ℕ → List Run
ended offset zero = []
ended offset (suc k) = record { offset = offset; len = suc k } ∷ []

-- the runs of the settings d of the words from offset + len on, where the len words before those are set
unfoldable pub runs_from : ℕ → ℕ → List (Option ℕ) → List Run
runs_from offset len [] = ended offset len
runs_from offset len (none ∷ d) = ended offset len ++ runs_from (offset + len + 1) 0 d
runs_from offset len (some v ∷ d) = runs_from offset (len + 1) d

-- the runs of a diff, "sorted by offset"
unfoldable pub runs : List (Option ℕ) → List Run
runs d = runs_from 0 0 d

-- the values that a diff sets, in the order of the page
unfoldable pub set_words : List (Option ℕ) → List ℕ
set_words [] = []
set_words (none ∷ d) = set_words d
set_words (some v ∷ d) = v ∷ set_words d

-- "pairs of bytes, offset and length"
unfoldable pub pair_bytes : List Run → List ℕ
pair_bytes [] = []
pair_bytes (r ∷ rs) = r.offset ∷ r.len ∷ pair_bytes rs

-- "four bytes each, low byte first"
unfoldable pub word_bytes : ℕ → List ℕ
word_bytes v = v % 256 ∷ v / 256 % 256 ∷ v / 65536 % 256 ∷ v / 16777216 % 256 ∷ []

-- the words of the runs, one after the other
unfoldable pub words_bytes : List ℕ → List ℕ
words_bytes [] = []
words_bytes (v ∷ vs) = word_bytes v ++ words_bytes vs

-- "One byte n; n pairs of bytes; then the words of the runs"
unfoldable pub bytes_of : List (Option ℕ) → List ℕ
bytes_of d = length (runs d) ∷ pair_bytes (runs d) ++ words_bytes (set_words d)

-- what the writer writes from two pages
unfoldable pub written : List ℕ → List ℕ → List ℕ
written old new = bytes_of (difference old new)
