-- The forecast in memory: the own entries of the processors, and the area of the marks, which has the counts, the dirty pages, the records standing and
-- the marks where a mainframe's has them. Assumes nothing.
use Rattle.std.specs.Prelude.{ℕ, List, [], ◌∷◌}
use Rattle.rules.specs.State.{mainframe}
use Rattle.rules.specs.Forecast.{Forecast}
use Rattle.layout.specs.Areas.{state_in}

-- the forecast that own entries and marks hold; nobody's own entry is 0
unfoldable pub forecast_in : List ℕ → List ℕ → Forecast
forecast_in own m =
    let s = state_in mainframe [] [] [] m in
    record { counts = s.counts; entries = 0 ∷ own; dirty = s.pages.dirty; standing = s.records.standing; marks = s.marks }
