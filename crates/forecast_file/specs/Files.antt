-- Document 02, L8, "Space forecast": the lines that are printed for a whole file, by the figures that the run itself has. Assumes nothing.
use Rattle.std.specs.Prelude.{ℕ, suc, ◌+◌, ◌%◌, cond, List, [], ◌∷◌, ◌++◌, length, take, ltb, eqb}
use Rattle.limits.specs.Files.{file_record_width, step_limit}
use Rattle.rules.specs.State.{mainframe}
use Rattle.rules.specs.Opening.{opening_refusal, opened}
use Rattle.rules.specs.Forecast.{Figures, run_figures, most_of}
use Rattle.opening.specs.Promises.{opening_of}
use Rattle.step_fields.specs.Records.{step_count, file_steps}
use Rattle.lines.specs.Lines.{line_bytes, refusal_line, most_line}

-- "prints for each record its number, its refusal, the records standing and the dirty pages after it": the lines of figures, numbered from n on
unfoldable pub figure_lines : ℕ → List Figures → List ℕ
figure_lines n [] = []
figure_lines n (x ∷ rest) = line_bytes n x.refusal x.standing x.dirty ++ figure_lines (suc n) rest

-- "These must equal what the run itself has": of the steps of a file, from the state that its opening leaves
unfoldable pub file_figures : List ℕ → List Figures
file_figures bytes = run_figures mainframe (opened mainframe (opening_of (take file_record_width bytes)).counts) (file_steps bytes)

-- before the first step no record stands, and no page is dirty
abbrev pub no_figures : Figures
no_figures = record { refusal = 0; standing = 0; dirty = 0 }

-- the figures of the last step
unfoldable pub last_figures : Figures → List Figures → Figures
last_figures x [] = x
last_figures x (y ∷ rest) = last_figures y rest

-- "It stops where the run stops; on a line of 2, 15 or 16 both figures are those before it"
unfoldable pub stop_line : List ℕ → Figures → List ℕ
stop_line bytes x =
    cond (ltb step_limit (step_count bytes)) (line_bytes (step_limit + 1) 16 x.standing x.dirty)
    (cond (eqb (length bytes % file_record_width) 0) []
    (line_bytes (step_count bytes + 1) 15 x.standing x.dirty))

-- the lines behind an accepted opening
unfoldable pub foreseen_lines : List ℕ → List ℕ
foreseen_lines bytes =
    let xs = file_figures bytes in
    figure_lines 1 xs ++ (stop_line bytes (last_figures no_figures xs) ++ most_line (most_of xs))

-- "or 0 and 0 before an accepted opening. Its last line, always printed, is "most""
unfoldable pub forecast_lines : List ℕ → List ℕ
forecast_lines bytes =
    cond (ltb (length bytes) file_record_width) (refusal_line 0 15 ++ most_line 0)
    (cond (eqb (opening_refusal mainframe (opening_of (take file_record_width bytes))) 0) (refusal_line 0 0 ++ foreseen_lines bytes)
    (refusal_line 0 2 ++ most_line 0))
