-- The lines of a run and of its forecast (document 02, L8), side by side: as rows of four numbers. Assumes nothing.
use Rattle.std.specs.Prelude.{ℕ, suc, ◌+◌, ◌%◌, max, ◌≡◌, cond, List, [], ◌∷◌, ◌++◌, length, take, ltb, eqb}
use Rattle.limits.specs.Files.{file_record_width, step_limit}
use Rattle.rules.specs.State.{mainframe}
use Rattle.rules.specs.Opening.{opening_refusal}
use Rattle.rules.specs.Refusals.{Answer}
use Rattle.rules.specs.Runs.{words_moved}
use Rattle.rules.specs.Forecast.{Figures}
use Rattle.opening.specs.Promises.{opening_of}
use Rattle.step_fields.specs.Records.{step_count}
use Rattle.lines.specs.Lines.{line_bytes, words_line}
use Rattle.stepfile.specs.Files.{step_answers}
use Rattle.forecast_file.specs.Files.{file_figures, no_figures, last_figures}

-- a line by its numbers: behind the refusal a run has the value and the count, a forecast the records standing and the dirty pages
pub record Row : Type 0 where
  pub number : ℕ
  pub refusal : ℕ
  pub third : ℕ
  pub fourth : ℕ

abbrev pub row : ℕ → ℕ → ℕ → ℕ → Row
row n r x y = record { number = n; refusal = r; third = x; fourth = y }

-- rows as they are printed
unfoldable pub printed : List Row → List ℕ
printed [] = []
printed (r ∷ rest) = line_bytes r.number r.refusal r.third r.fourth ++ printed rest

-- rows without their last two numbers
unfoldable pub heads : List Row → List Row
heads [] = []
heads (r ∷ rest) = row r.number r.refusal 0 0 ∷ heads rest

-- "the largest sum of records and dirty pages on its lines, 0 if all are 0"
unfoldable pub largest_sum : List Row → ℕ
largest_sum [] = 0
largest_sum (r ∷ rest) = max (r.third + r.fourth) (largest_sum rest)

-- ---- the rows of a file

-- those of answers, and of figures, numbered from n on
unfoldable pub answer_rows : ℕ → List Answer → List Row
answer_rows n [] = []
answer_rows n (a ∷ rest) = row n a.refusal a.value a.count ∷ answer_rows (suc n) rest

unfoldable pub figure_rows : ℕ → List Figures → List Row
figure_rows n [] = []
figure_rows n (x ∷ rest) = row n x.refusal x.standing x.dirty ∷ figure_rows (suc n) rest

-- 15 or 16, with these two numbers
unfoldable pub stop_rows : List ℕ → ℕ → ℕ → List Row
stop_rows file x y =
    cond (ltb step_limit (step_count file)) (row (step_limit + 1) 16 x y ∷ [])
    (cond (eqb (length file % file_record_width) 0) []
    (row (step_count file + 1) 15 x y ∷ []))

-- the opening's row, and behind an accepted one these
unfoldable pub rows_behind : List ℕ → List Row → List Row
rows_behind file rest =
    cond (ltb (length file) file_record_width) (row 0 15 0 0 ∷ [])
    (cond (eqb (opening_refusal mainframe (opening_of (take file_record_width file))) 0) (row 0 0 0 0 ∷ rest)
    (row 0 2 0 0 ∷ []))

-- those of the run
unfoldable pub run_rows : List ℕ → List Row
run_rows file = rows_behind file (answer_rows 1 (step_answers file) ++ stop_rows file 0 0)

-- and of the forecast: "the records standing and the dirty pages after it .. what the run itself has"
unfoldable pub forecast_rows : List ℕ → List Row
forecast_rows file =
    let xs = file_figures file in
    rows_behind file (figure_rows 1 xs ++ stop_rows file (last_figures no_figures xs).standing (last_figures no_figures xs).dirty)

-- L6: behind the rows of a run that did not stop at 2, 15 or 16 stands the line of the words moved
unfoldable pub words_behind : List ℕ → List ℕ
words_behind file =
    cond (ltb (length file) file_record_width) []
    (cond (eqb (opening_refusal mainframe (opening_of (take file_record_width file))) 0)
    (cond (ltb step_limit (step_count file)) []
    (cond (eqb (length file % file_record_width) 0) (words_line (words_moved (step_answers file))) []))
    [])

-- ---- where it stops

-- the last row has this refusal, and the figures of the row before it
pub record StopsWith (n : ℕ) (rows : List Row) : Type 0 where
  pub front : List Row
  pub before : Row
  pub last : Row
  pub are : rows ≡ front ++ before ∷ last ∷ []
  pub refused : last.refusal ≡ n
  pub same_third : last.third ≡ before.third
  pub same_fourth : last.fourth ≡ before.fourth

-- ---- cases

-- Listing A
unfoldable pub listing_rows : List Row
listing_rows =
    row 0 0 0 0 ∷ row 1 0 0 0 ∷ row 2 0 0 1 ∷ row 3 0 0 1 ∷ row 4 0 0 1 ∷ row 5 0 1 0 ∷ row 6 7 1 0 ∷ row 7 0 1 0 ∷ row 8 0 1 0 ∷ row 9 0 1 0 ∷ row 10 6 1 0
    ∷ row 11 0 1 0 ∷ row 12 18 1 0 ∷ []

-- two bytes behind a write
unfoldable pub cut_file : List ℕ
cut_file = 0 ∷ 2 ∷ 1 ∷ 1 ∷ 0 ∷ 0 ∷ 0 ∷ 0 ∷ 2 ∷ 1 ∷ 0 ∷ 0 ∷ 7 ∷ 0 ∷ 0 ∷ 0 ∷ 1 ∷ 1 ∷ []

unfoldable pub cut_rows : List Row
cut_rows = row 0 0 0 0 ∷ row 1 0 0 1 ∷ row 2 15 0 1 ∷ []
