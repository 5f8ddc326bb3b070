-- The numbers of a step file and of its lines. The code has the same names in capitals. Assumes nothing.
use Rattle.std.specs.Prelude.{ℕ}

-- "Records of eight bytes"
abbrev pub file_record_width : ℕ
file_record_width = 8

-- "the 1,000,000th step record"
abbrev pub step_limit : ℕ
step_limit = 1000000

-- an answer as words: refusal, value, count, and L6's words moved
abbrev pub answer_width : ℕ
answer_width = 4

-- the bytes of the longest line: four numbers of ten digits, each with a byte behind it
abbrev pub line_limit : ℕ
line_limit = 44
