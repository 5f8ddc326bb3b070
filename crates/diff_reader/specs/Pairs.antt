-- What a reader says at a place of a diff. w is the page length. Assumes nothing.
use Rattle.std.specs.Prelude
use Rattle.std.specs.Prelude.{ℕ, ◌+◌, ◌*◌, ◌≡◌, cond, List, [], ◌∷◌, take, drop, eqb, Some, None}
use Rattle.std.proofs.Math.Option.{Option, none, some}
use Rattle.limits.specs.Limits.{page_width}
use Rattle.diff.specs.Format.{Run}
use Rattle.diff.specs.Reading.{read_refusal, runs_in, words_place}
use Rattle.diff_reader.specs.declared.Pair.{Pair}
use Rattle.diff_reader.specs.declared.Reader.{Reader}

-- a pair of a diff: "offset and length" of its run, the place where the words of the run stand, and the place of the next pair
pub record PairThere : Type 0 where
  pub offset : ℕ
  pub len : ℕ
  pub words : ℕ
  pub next : ℕ

-- what each case of a reader's answer says: a pair, or "the reader says there is none"
unfoldable pub said : Prelude.Option Pair → Option PairThere
said (Some p) = some (record { offset = p.offset; len = p.len; words = p.words; next = p.next })
said None = none

-- the pair at a place, among the pairs rs from the place first on whose words stand from the place words on
unfoldable pub pair_among : List Run → ℕ → ℕ → ℕ → Option PairThere
pair_among [] first words at = none
pair_among (r ∷ rs) first words at =
    cond (eqb at first) (some (record { offset = r.offset; len = r.len; words = words; next = first + 2 }))
    (pair_among rs (first + 2) (words + 4 * r.len) at)

-- "A reader stands at a pair": the pair at a place of a byte string that is a diff. "After the last pair, or at a place that is no pair, the
-- reader says there is none"
unfoldable pub pair_at : ℕ → List ℕ → ℕ → Option PairThere
pair_at w bytes at = cond (eqb (read_refusal w bytes) 0) (pair_among (runs_in bytes) 1 (words_place bytes) at) none

-- "the words of one run are handed out as that part of the caller's own bytes"
unfoldable pub words_of : Option PairThere → List ℕ → List ℕ
words_of (some p) bytes = take (4 * p.len) (drop p.words bytes)
words_of none bytes = []

-- "moves to the next": the place of the next pair; where there is no pair, the same place
unfoldable pub place_after : Option PairThere → ℕ → ℕ
place_after (some p) at = p.next
place_after none at = at

-- the reader that has moved on
unfoldable pub moved : Reader → Reader
moved r = record { bytes = r.bytes; at = place_after (pair_at page_width r.bytes.now r.at) r.at }

-- the bytes are a diff
pub record Readable (bytes : List ℕ) : Type 0 where
  pub accepted : read_refusal page_width bytes ≡ 0
