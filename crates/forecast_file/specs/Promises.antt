-- What the forecast of a file promises: bytes taken in parts of whole records make the lines of the whole file. Assumes nothing.
use Rattle.std.specs.Prelude.{ℕ, ◌%◌, ◌≤◌, ◌≡◌, Bool, true, false, List, [], ◌++◌, length, take, drop}
use Rattle.limits.specs.Files.{file_record_width}
use Rattle.rules.specs.Forecast.{Forecast}
use Rattle.forecast_step.specs.Memory.{forecast_in}
use Rattle.forecast_file.specs.Files.{forecast_lines}
use Rattle.forecast_file.specs.Standing.{Foresight, foreseen}
use Rattle.forecast_file.specs.declared.Reach.{Reach}
use Rattle.forecast_file.specs.declared.PartTaken.{PartTaken}

-- where a forecast stands that goes on, with the own entries and the marks in its memory and these lines made
unfoldable pub foresight_at : Reach → List ℕ → List ℕ → List ℕ → Foresight
foresight_at s own m made = record { number = s.number; stopped = false; forecast = forecast_in own m; most = s.most; lines = made }

-- whole records of a file have been taken, and these lines made of them, and the forecast goes on: it stands here
pub record ForeseenTo (before made : List ℕ) (s : Reach) (own m : List ℕ) : Type 0 where
  -- what the memory held before the opening, which says nothing
  pub first : Forecast
  pub whole : length before % file_record_width ≡ 0
  pub stands : foresight_at s own m made ≡ foreseen first before

-- what `begin_forecast` promises: nothing has been taken
pub record Begun (s : Reach) : Type 0 where
  pub reached : (own m : List ℕ) → ForeseenTo [] [] s own m

-- what `take` promises of bytes behind those taken before, the last of the file where it has ended
pub record TakenAs (s : Reach) (bytes : List ℕ) (ended : Bool) (out own m : List ℕ) (t : PartTaken) (out' own' m' : List ℕ) : Type 0 where
  -- the bytes of lines written lie within those lent, and behind them all is as it was
  pub within : t.made ≤ length out'
  pub rest : drop t.made out' ≡ drop t.made out
  -- where more is to come the bytes are taken, and their lines stand behind those made before
  pub on : (before made : List ℕ) → ForeseenTo before made s own m → t.done ≡ false → ForeseenTo (before ++ bytes) (made ++ take t.made out') t.reach own' m'
  -- where all is done the lines are those of the whole file: of what was read where the file has ended, and whatever follows where the forecast has stopped
  pub all : (before made rest : List ℕ) → ForeseenTo before made s own m → t.done ≡ true → (ended ≡ true → rest ≡ []) → made ++ take t.made out' ≡ forecast_lines (before ++ (bytes ++ rest))
  -- at the end of the file all is done
  pub ends : ended ≡ true → t.done ≡ true
