-- What holds of the program from turn to turn. Assumes nothing.
use Rattle.std.specs.Prelude.{ℕ, ◌+◌, ◌*◌, ◌/◌, ◌%◌, ◌≤◌, ◌≡◌, Bool, true, false, List, [], ◌++◌, length}
use Rattle.limits.specs.Files.{file_record_width, line_limit}
use Rattle.limits.specs.Limits.{processor_limit}
use Rattle.limits.specs.inner.Sizes.{mark_area}
use Rattle.forecast_file.specs.Files.{forecast_lines}
use Rattle.forecast_file.specs.Promises.{ForeseenTo}
use Rattle.forecast_file.specs.inner.Needed.{MemorySound}
use Rattle.forecast_file.specs.declared.Reach.{Reach}

-- the bytes taken at a time, and room for the lines of so many bytes and for two more; the code has the same in capitals
abbrev pub buffer_bytes : ℕ
buffer_bytes = 65536

abbrev pub lines_room : ℕ
lines_room = line_limit * (buffer_bytes / file_record_width + 2)

-- a full buffer has whole records, and there is room for the longest line for each of them and for two more
pub record FullyRoomy (room space : ℕ) : Type 0 where
  pub whole : room % file_record_width ≡ 0
  pub fits : line_limit * (room / file_record_width + 2) ≤ space

-- the program's memory: room for lines, and the own entries and marks have their sizes
pub record ForecastAmple (buffer out own m : List ℕ) : Type 0 where
  pub roomy : FullyRoomy (length buffer) (length out)
  pub entries : length own ≡ processor_limit
  pub marks : length m ≡ mark_area

-- what the program says of its memory: while more lines will be made the forecast stands where the bytes taken lead; else the lines made are those of the
-- whole file, whatever follows the bytes taken where the input had not ended
pub record Held (s : Reach) (own m : List ℕ) (room space : ℕ) (taken made : List ℕ) (done ended : Bool) : Type 0 where
  pub roomy : FullyRoomy room space
  pub sound : MemorySound s done own m
  pub on : done ≡ false → ForeseenTo taken made s own m
  pub all : done ≡ true → (rest : List ℕ) → (ended ≡ true → rest ≡ []) → made ≡ forecast_lines (taken ++ rest)
