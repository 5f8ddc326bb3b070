-- A file fed from its first byte on: what stands after some of its bytes, and its last line. Assumes nothing.
use Rattle.std.specs.Prelude.{ℕ, Bool, false, cond, List, [], ◌∷◌, eqb}
use Rattle.layout.specs.Areas.{Areas}
use Rattle.lines.specs.Lines.{words_line, refusal_line}
use Rattle.file_record.specs.Records.{Feed}
use Rattle.file_chunk.specs.Bytes.{bytes_taken}

-- before the first byte
unfoldable pub begun : Areas → Feed
begun a = record { number = 0; held = []; stopped = false; areas = a; lines = []; words = 0 }

-- what stands after the first bytes of a file
unfoldable pub after : Areas → List ℕ → Feed
after a bytes = bytes_taken (begun a) bytes

-- the last line: 15 where the file "ends within a record, or before the opening"; L6: else the words moved, unless the run has stopped
unfoldable pub last_line_of : ℕ → List ℕ → Bool → ℕ → List ℕ
last_line_of number [] stopped words = cond stopped [] (cond (eqb number 0) (refusal_line 0 15) (words_line words))
last_line_of number (b ∷ held) stopped words = cond stopped [] (refusal_line number 15)
