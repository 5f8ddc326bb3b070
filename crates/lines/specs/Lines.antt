-- Document 01, "The step file and run program": the line of a record, and what writing one into lent memory answers and leaves. Assumes nothing.
use Rattle.std.specs.Prelude.{ℕ, ◌+◌, Bool, cond, List, [], ◌∷◌, ◌++◌, length, leb}
use Rattle.std.specs.Prelude.{Some, None}
use Rattle.std.specs.Prelude as rust
use Rattle.std.proofs.Math.Option.{Option, none, some}
use Rattle.std.proofs.lemmas.List.Edits.{sets}
use Rattle.limits.specs.Files.{line_limit}
use Rattle.lines.specs.Decimal.{digits}

-- "record number (opening 0), refusal or 0, value, count", with a space (32) between two and a line end (10) behind the last
unfoldable pub line_bytes : ℕ → ℕ → ℕ → ℕ → List ℕ
line_bytes number refusal value count = digits number ++ 32 ∷ digits refusal ++ 32 ∷ digits value ++ 32 ∷ digits count ++ 10 ∷ []

-- the line of record n with a refusal (0 for an accepted opening): "Value 0, count 0"
unfoldable pub refusal_line : ℕ → ℕ → List ℕ
refusal_line n refusal = line_bytes n refusal 0 0

-- L6: "one extra line, "words", a space and the total", and the line end
unfoldable pub words_line : ℕ → List ℕ
words_line total = 119 ∷ 111 ∷ 114 ∷ 100 ∷ 115 ∷ 32 ∷ digits total ++ 10 ∷ []

-- L8: "Its last line .. is "most", a space and the largest sum", and the line end
unfoldable pub most_line : ℕ → List ℕ
most_line most = 109 ∷ 111 ∷ 115 ∷ 116 ∷ 32 ∷ digits most ++ 10 ∷ []

-- whether the longest line, of 44 bytes, fits from a place on into memory of so many bytes
unfoldable pub line_fits : ℕ → ℕ → Bool
line_fits bytes at = leb (at + line_limit) bytes

-- what `line_into` answers: the place behind the line, or that there is no room
unfoldable pub line_answer : List ℕ → ℕ → ℕ → ℕ → ℕ → ℕ → Option ℕ
line_answer out at number refusal value count =
    cond (line_fits (length out) at) (some (at + length (line_bytes number refusal value count))) none

-- what each case of its answer says: a place, or none
unfoldable pub place_said : rust.Option ℕ → Option ℕ
place_said (Some place) = some place
place_said None = none

-- what `line_into` leaves: the line from a place on, or all as it was
unfoldable pub line_left : List ℕ → ℕ → ℕ → ℕ → ℕ → ℕ → List ℕ
line_left out at number refusal value count = cond (line_fits (length out) at) (sets out at (line_bytes number refusal value count)) out
