-- What the forecast program promises of a whole run. Assumes nothing.
use Rattle.std.specs.Prelude.{ℕ, ◌<◌, ◌≡◌, true, List, [], ◌++◌, None}
use Rattle.whole_reads.specs.Promises.{Flows}
use Rattle.forecast_file.specs.Files.{forecast_lines}
use Rattle.forecast.specs.declared.Halt.{Halt}

-- the program has halted, and has read and written these bytes. If turns are left and nothing went wrong, the lines of the whole file are written: of what
-- was read where the input has ended, and whatever follows where the forecast has stopped before
pub record ForecastTold (h : Halt) (buffer out : List ℕ) : Type 0 where
  pub read : List ℕ
  pub taken : List ℕ
  pub made : List ℕ
  pub written : List ℕ
  pub flows : Flows read taken made written h.flow buffer out
  pub all : 0 < h.turns → h.flow.failure ≡ None → (rest : List ℕ) → (h.flow.ended ≡ true → rest ≡ []) → written ≡ forecast_lines (read ++ rest)
