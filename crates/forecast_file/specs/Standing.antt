-- A forecast of a file between two records: what stands after some whole records, with their lines. Assumes nothing.
use Rattle.std.specs.Prelude.{ℕ, zero, suc, ◌+◌, ◌/◌, max, Bool, true, false, cond, List, [], ◌++◌, length, take, drop, leb, eqb}
use Rattle.limits.specs.Files.{file_record_width, step_limit}
use Rattle.rules.specs.State.{mainframe}
use Rattle.rules.specs.Opening.{opening_refusal}
use Rattle.rules.specs.Forecast.{Forecast, forecast_refusal, dirty_for, forecast_next, opened_for}
use Rattle.opening.specs.Promises.{opening_of}
use Rattle.step_fields.specs.Records.{step_from}
use Rattle.lines.specs.Lines.{line_bytes, refusal_line}

-- the number of the next record, whether the forecast has stopped, what it keeps, the largest sum so far, and the lines so far
pub record Foresight : Type 0 where
  pub number : ℕ
  pub stopped : Bool
  pub forecast : Forecast
  pub most : ℕ
  pub lines : List ℕ

-- before the first record; what is kept says nothing until the opening
unfoldable pub nothing_foreseen : Forecast → Foresight
nothing_foreseen k = record { number = 0; stopped = false; forecast = k; most = 0; lines = [] }

-- the opening; a refused one ends the forecast
unfoldable pub opening_foreseen : Foresight → List ℕ → Foresight
opening_foreseen f bytes =
    cond (eqb (opening_refusal mainframe (opening_of bytes)) 0)
    (record { number = 1; stopped = false; forecast = opened_for mainframe (opening_of bytes).counts; most = 0; lines = f.lines ++ refusal_line 0 0 })
    (record { number = 1; stopped = true; forecast = f.forecast; most = 0; lines = f.lines ++ refusal_line 0 2 })

-- a step
unfoldable pub step_foreseen : Foresight → List ℕ → Foresight
step_foreseen f bytes =
    let g = forecast_next mainframe f.forecast (step_from bytes) in
    record {
      number = suc f.number;
      stopped = false;
      forecast = g;
      most = max f.most (g.standing + dirty_for g);
      lines = f.lines ++ line_bytes f.number (forecast_refusal mainframe f.forecast (step_from bytes)) g.standing (dirty_for g);
    }

-- 16: a whole record follows the 1,000,000th step
unfoldable pub too_many_foreseen : Foresight → Foresight
too_many_foreseen f =
    record { number = f.number; stopped = true; forecast = f.forecast; most = f.most; lines = f.lines ++ line_bytes f.number 16 f.forecast.standing (dirty_for f.forecast) }

-- a whole record
unfoldable pub record_foreseen : Foresight → List ℕ → Foresight
record_foreseen f bytes =
    cond (eqb f.number 0) (opening_foreseen f bytes)
    (cond (leb f.number step_limit) (step_foreseen f bytes)
    (too_many_foreseen f))

-- n whole records; after 2 or 16 nothing changes any more
unfoldable pub records_foreseen : Foresight → ℕ → List ℕ → Foresight
records_foreseen f zero bytes = f
records_foreseen f (suc n) bytes = cond f.stopped f (records_foreseen (record_foreseen f (take file_record_width bytes)) n (drop file_record_width bytes))

-- what stands after the whole records of some bytes
unfoldable pub foreseen : Forecast → List ℕ → Foresight
foreseen k bytes = records_foreseen (nothing_foreseen k) (length bytes / file_record_width) bytes
