-- Document 01, "Changes as bytes" and the rows "Change read" of its table of refusals: which byte strings are read, and what one does to a
-- page of w words. Places count bytes from 0, so the first pair stands at place 1. Assumes nothing.
use Rattle.std.specs.Prelude.{ℕ, zero, suc, ◌+◌, ◌-◌, ◌*◌, ◌/◌, Bool, true, cond, not, ◌&&◌, List, [], ◌∷◌, ◌++◌, map, length, get_or, take, drop, replicate, leb, ltb, eqb}
use Rattle.std.proofs.Math.Option.{Option, none, some}
use Rattle.diff.specs.Format.{Run}

-- the n of "One byte n"
unfoldable pub run_count : List ℕ → ℕ
run_count bytes = get_or bytes 0 0

-- "0 to 16" for pages of 32 words: runs are at least one word apart, so a page has room for no more
unfoldable pub most_runs : ℕ → ℕ
most_runs w = (w + 1) / 2

-- the n pairs from a place on
unfoldable pub runs_at : List ℕ → ℕ → ℕ → List Run
runs_at bytes at zero = []
runs_at bytes at (suc n) = record { offset = get_or bytes at 0; len = get_or bytes (at + 1) 0 } ∷ runs_at bytes (at + 2) n

-- the runs that the pairs of a byte string name
unfoldable pub runs_in : List ℕ → List Run
runs_in bytes = runs_at bytes 1 (run_count bytes)

-- where the words begin: behind the pairs
unfoldable pub words_place : List ℕ → ℕ
words_place bytes = 1 + 2 * run_count bytes

-- the word of four bytes at a place, "low byte first"
unfoldable pub word_at : List ℕ → ℕ → ℕ
word_at bytes at = get_or bytes at 0 + 256 * get_or bytes (at + 1) 0 + 65536 * get_or bytes (at + 2) 0 + 16777216 * get_or bytes (at + 3) 0

-- the k words from a place on
unfoldable pub words_at : List ℕ → ℕ → ℕ → List ℕ
words_at bytes at zero = []
words_at bytes at (suc k) = word_at bytes at ∷ words_at bytes (at + 4) k

-- how many words the runs have together
unfoldable pub word_count : List Run → ℕ
word_count [] = 0
word_count (r ∷ rs) = r.len + word_count rs

-- L6: "the number of words it set". "A word that is set to the value it had counts"
unfoldable pub words_set : List ℕ → ℕ
words_set bytes = word_count (runs_in bytes)

-- the rule of a pair: a length of at least 1, "Offset plus length is at most 32", and an offset of at least from
unfoldable pub pair_holds : ℕ → ℕ → ℕ → ℕ → Bool
pair_holds w from offset len = leb from offset && leb 1 len && leb (offset + len) w

-- every pair keeps its rule; "Each offset exceeds the previous offset plus length"
unfoldable pub orderly : ℕ → ℕ → List Run → Bool
orderly w from [] = true
orderly w from (r ∷ rs) = pair_holds w from r.offset r.len && orderly w (r.offset + r.len + 1) rs

-- with the pairs rs still to be read and the words of those before ending at a place: "12 a pair breaks its rule", then
-- "11 total length is not exact"
unfoldable pub pairs_refusal : ℕ → List ℕ → ℕ → ℕ → List Run → ℕ
pairs_refusal w bytes from end rs =
    cond (not (orderly w from rs)) 12
    (cond (not (eqb (length bytes) (end + 4 * word_count rs))) 11
    0)

-- the refusal of a byte string, or 0: "11 no bytes, n above 16, or bytes end within the pairs", then the two above
unfoldable pub read_refusal : ℕ → List ℕ → ℕ
read_refusal w bytes =
    cond (eqb (length bytes) 0) 11
    (cond (ltb (most_runs w) (run_count bytes)) 11
    (cond (ltb (length bytes) (words_place bytes)) 11
    (pairs_refusal w bytes 0 (words_place bytes) (runs_in bytes))))

-- the settings of the words from a word on, given the runs and their words
unfoldable pub settings_of : ℕ → ℕ → List Run → List ℕ → List (Option ℕ)
settings_of w from [] words = replicate (w - from) none
settings_of w from (r ∷ rs) words =
    replicate (r.offset - from) none ++ map some (take r.len words) ++ settings_of w (r.offset + r.len) rs (drop r.len words)

-- what a byte string sets, for each word of a page
unfoldable pub settings : ℕ → List ℕ → List (Option ℕ)
settings w bytes = settings_of w 0 (runs_in bytes) (words_at bytes (words_place bytes) (word_count (runs_in bytes)))

-- a page with the settings carried out
unfoldable pub overlay : List (Option ℕ) → List ℕ → List ℕ
overlay [] page = page
overlay (s ∷ d) [] = []
overlay (none ∷ d) (x ∷ page) = x ∷ overlay d page
overlay (some v ∷ d) (x ∷ page) = v ∷ overlay d page

-- a page of w words after a byte string is applied
unfoldable pub applied : ℕ → List ℕ → List ℕ → List ℕ
applied w bytes page = overlay (settings w bytes) page
