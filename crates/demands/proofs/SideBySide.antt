-- The lines of a run and of its forecast are their rows, and the rows have the same numbers and refusals. Rests on rules' Foretold. Assumes nothing.
use Prim.Native.Nat.{ℕ, suc, ◌+◌, ◌%◌, ◌≤◌, ◌<◌, max}
use native.Mathlib.Omega.{arith}
use mathlib.Core.Path.{◌≡◌, refl, sym, ap, ap₂, ◌∙◌}
use mathlib.Core.Bool.{Bool, true, false, cond}
use mathlib.Core.List.{List, [], ◌∷◌, ◌++◌, append-nil, append_assoc}
use lib.ListN.{length, take}
use lib.Dec.{ltb, eqb}
use borrow.Author.Tests.{ne_eqb, lt-ltb, le-ltb}
use Rattle.limits.specs.Files.{file_record_width, step_limit}
use Rattle.rules.specs.State.{Limits, mainframe, State}
use Rattle.rules.specs.InOrder.{counts_in_range, in_range}
use Rattle.rules.specs.Opening.{opening_refusal, opened}
use Rattle.rules.specs.Refusals.{Step, Answer, answer, next}
use Rattle.rules.specs.Runs.{answers, words_moved}
use Rattle.rules.specs.Forecast.{bare, own_for, forecast_refusal, dirty_for, written_for, forecast_after, forecast_next, opened_for, Figures, run_figures, forecast_figures, most_of}
use Rattle.rules.specs.Bench.{mainframe_with, writes, figures, listing_figures}
use Rattle.rules.proofs.Foretold.{forecast_is_the_run}
use Rattle.rules.proofs.ForecastCases.{listing_figures_lem}
use Rattle.rules.proofs.runs.Listing.{start}
use Rattle.opening.specs.Promises.{opening_of}
use Rattle.step_fields.specs.Records.{step_from, steps_in, step_count, file_steps}
use Rattle.lines.specs.Lines.{line_bytes, words_line, refusal_line, most_line}
use Rattle.stepfile.specs.Files.{answer_lines, end_line, step_answers, step_lines, file_lines, opened_by}
use Rattle.stepfile.specs.ListingA.{listing_bytes}
use Rattle.stepfile.proofs.Cases.{listing_steps}
use Rattle.forecast_file.specs.Files.{figure_lines, file_figures, no_figures, last_figures, stop_line, foreseen_lines, forecast_lines}
use Rattle.demands.specs.SideBySide.{Row, row, printed, heads, largest_sum, answer_rows, figure_rows, stop_rows, rows_behind, run_rows, forecast_rows, words_behind, StopsWith, listing_rows, cut_file, cut_rows}

-- ---- rows one after the other

printed_on : (xs ys : List Row) → printed (xs ++ ys) ≡ printed xs ++ printed ys
unfolding printed
printed_on [] ys = refl
printed_on (x ∷ xs) ys =
    ap (λ (l : List ℕ). line_bytes x.number x.refusal x.third x.fourth ++ l) (printed_on xs ys)
    ∙ sym (append_assoc (line_bytes x.number x.refusal x.third x.fourth) (printed xs) (printed ys))

heads_on : (xs ys : List Row) → heads (xs ++ ys) ≡ heads xs ++ heads ys
unfolding heads
heads_on [] ys = refl
heads_on (x ∷ xs) ys = ap (λ (l : List Row). row x.number x.refusal 0 0 ∷ l) (heads_on xs ys)

largest_on : (xs ys : List Row) → largest_sum (xs ++ ys) ≡ max (largest_sum xs) (largest_sum ys)
unfolding largest_sum
largest_on [] ys = omega arith
largest_on (x ∷ xs) ys = ap (λ (n : ℕ). max (x.third + x.fourth) n) (largest_on xs ys) ∙ omega arith

answers_printed : (n : ℕ) (xs : List Answer) → printed (answer_rows n xs) ≡ answer_lines n xs
unfolding printed answer_rows answer_lines
answers_printed n [] = refl
answers_printed n (a ∷ xs) = ap (λ (l : List ℕ). line_bytes n a.refusal a.value a.count ++ l) (answers_printed (suc n) xs)

figures_printed : (n : ℕ) (xs : List Figures) → printed (figure_rows n xs) ≡ figure_lines n xs
unfolding printed figure_rows figure_lines
figures_printed n [] = refl
figures_printed n (x ∷ xs) = ap (λ (l : List ℕ). line_bytes n x.refusal x.standing x.dirty ++ l) (figures_printed (suc n) xs)

figures_largest : (n : ℕ) (xs : List Figures) → largest_sum (figure_rows n xs) ≡ most_of xs
unfolding largest_sum figure_rows most_of
figures_largest n [] = refl
figures_largest n (x ∷ xs) = ap (λ (k : ℕ). max (x.standing + x.dirty) k) (figures_largest (suc n) xs)

-- the last figures are among those that the most is taken of
last_within : (x : Figures) (xs : List Figures) → (last_figures x xs).standing + (last_figures x xs).dirty ≤ max (x.standing + x.dirty) (most_of xs)
unfolding last_figures most_of
last_within x [] = omega arith
last_within x (y ∷ ys) = omega (arith, last_within y ys)

-- the run and the forecast have the same numbers and refusals
same_heads : (lim : Limits) (s : State) (n : ℕ) (ts : List Step) → heads (figure_rows n (run_figures lim s ts)) ≡ heads (answer_rows n (answers lim s ts))
unfolding heads figure_rows answer_rows run_figures answers
same_heads lim s n [] = refl
same_heads lim s n (t ∷ ts) = ap (λ (l : List Row). row n (answer lim s t).refusal 0 0 ∷ l) (same_heads lim (next lim s t) (suc n) ts)

stop_heads : (file : List ℕ) (x y : ℕ) → heads (stop_rows file x y) ≡ heads (stop_rows file 0 0)
unfolding heads stop_rows
stop_heads file x y = go (ltb step_limit (step_count file)) (eqb (length file % file_record_width) 0)
  where
    go : (b c : Bool)
        → heads (cond b (row (step_limit + 1) 16 x y ∷ []) (cond c [] (row (step_count file + 1) 15 x y ∷ [])))
        ≡ heads (cond b (row (step_limit + 1) 16 0 0 ∷ []) (cond c [] (row (step_count file + 1) 15 0 0 ∷ [])))
    go true c = refl
    go false true = refl
    go false false = refl

behind_heads : (file : List ℕ) (xs ys : List Row) → heads xs ≡ heads ys → heads (rows_behind file xs) ≡ heads (rows_behind file ys)
unfolding heads rows_behind
behind_heads file xs ys e = go (ltb (length file) file_record_width) (eqb (opening_refusal mainframe (opening_of (take file_record_width file))) 0)
  where
    go : (b c : Bool)
        → heads (cond b (row 0 15 0 0 ∷ []) (cond c (row 0 0 0 0 ∷ xs) (row 0 2 0 0 ∷ [])))
        ≡ heads (cond b (row 0 15 0 0 ∷ []) (cond c (row 0 0 0 0 ∷ ys) (row 0 2 0 0 ∷ [])))
    go true c = refl
    go false true = ap (λ (l : List Row). row 0 0 0 0 ∷ l) e
    go false false = refl

-- "It stops where the run stops": line by line
pub side_by_side : (file : List ℕ) → heads (forecast_rows file) ≡ heads (run_rows file)
unfolding forecast_rows run_rows file_figures step_answers opened_by
side_by_side file =
    behind_heads file (figure_rows 1 (file_figures file) ++ stop_rows file x y) (answer_rows 1 (step_answers file) ++ stop_rows file 0 0)
    (heads_on (figure_rows 1 (file_figures file)) (stop_rows file x y)
    ∙ ap₂ (λ (a b : List Row). a ++ b) (same_heads mainframe (opened mainframe (opening_of (take file_record_width file)).counts) 1 (file_steps file)) (stop_heads file x y)
    ∙ sym (heads_on (answer_rows 1 (step_answers file)) (stop_rows file 0 0)))
  where
    x : ℕ
    x = (last_figures no_figures (file_figures file)).standing

    y : ℕ
    y = (last_figures no_figures (file_figures file)).dirty

-- ---- the lines of a forecast

stop_printed : (file : List ℕ) (x : Figures) → printed (stop_rows file x.standing x.dirty) ≡ stop_line file x
unfolding printed stop_rows stop_line
stop_printed file x = go (ltb step_limit (step_count file)) (eqb (length file % file_record_width) 0)
  where
    go : (b c : Bool)
        → printed (cond b (row (step_limit + 1) 16 x.standing x.dirty ∷ []) (cond c [] (row (step_count file + 1) 15 x.standing x.dirty ∷ [])))
        ≡ cond b (line_bytes (step_limit + 1) 16 x.standing x.dirty) (cond c [] (line_bytes (step_count file + 1) 15 x.standing x.dirty))
    go true c = append-nil (line_bytes (step_limit + 1) 16 x.standing x.dirty)
    go false true = refl
    go false false = append-nil (line_bytes (step_count file + 1) 15 x.standing x.dirty)

stop_largest : (file : List ℕ) (x y : ℕ) → largest_sum (stop_rows file x y) ≤ x + y
unfolding largest_sum stop_rows
stop_largest file x y = go (ltb step_limit (step_count file)) (eqb (length file % file_record_width) 0)
  where
    go : (b c : Bool) → largest_sum (cond b (row (step_limit + 1) 16 x y ∷ []) (cond c [] (row (step_count file + 1) 15 x y ∷ []))) ≤ x + y
    go true c = omega arith
    go false true = omega arith
    go false false = omega arith

-- "Its last line, always printed, is "most", a space and the largest sum of records and dirty pages on its lines"
pub forecast_printed : (file : List ℕ) → forecast_lines file ≡ printed (forecast_rows file) ++ most_line (largest_sum (forecast_rows file))
unfolding forecast_lines forecast_rows rows_behind refusal_line foreseen_lines
forecast_printed file = go (ltb (length file) file_record_width) (eqb (opening_refusal mainframe (opening_of (take file_record_width file))) 0)
  where
    xs : List Figures
    xs = file_figures file

    x : Figures
    x = last_figures no_figures (file_figures file)

    rows : List Row
    rows = figure_rows 1 (file_figures file) ++ stop_rows file (last_figures no_figures (file_figures file)).standing (last_figures no_figures (file_figures file)).dirty

    one : (r : ℕ) → line_bytes 0 r 0 0 ++ most_line 0 ≡ printed (row 0 r 0 0 ∷ []) ++ most_line (largest_sum (row 0 r 0 0 ∷ []))
    one r = unfold printed largest_sum in ap (λ (l : List ℕ). l ++ most_line 0) (sym (append-nil (line_bytes 0 r 0 0)))

    most : most_of (file_figures file) ≡ largest_sum (row 0 0 0 0 ∷ rows)
    most = unfold largest_sum in
        omega (arith, largest_on (figure_rows 1 (file_figures file)) (stop_rows file x.standing x.dirty), figures_largest 1 (file_figures file), stop_largest file x.standing x.dirty, last_within no_figures (file_figures file))

    all : printed (row 0 0 0 0 ∷ rows) ≡ line_bytes 0 0 0 0 ++ (figure_lines 1 (file_figures file) ++ stop_line file x)
    all = unfold printed in
        ap (λ (l : List ℕ). line_bytes 0 0 0 0 ++ l)
        (printed_on (figure_rows 1 (file_figures file)) (stop_rows file x.standing x.dirty) ∙ ap₂ (λ (a b : List ℕ). a ++ b) (figures_printed 1 (file_figures file)) (stop_printed file x))

    go : (b c : Bool)
        → cond b (line_bytes 0 15 0 0 ++ most_line 0) (cond c (line_bytes 0 0 0 0 ++ (figure_lines 1 xs ++ (stop_line file x ++ most_line (most_of xs)))) (line_bytes 0 2 0 0 ++ most_line 0))
        ≡ printed (cond b (row 0 15 0 0 ∷ []) (cond c (row 0 0 0 0 ∷ rows) (row 0 2 0 0 ∷ []))) ++ most_line (largest_sum (cond b (row 0 15 0 0 ∷ []) (cond c (row 0 0 0 0 ∷ rows) (row 0 2 0 0 ∷ []))))
    go true c = one 15
    go false true =
        ap (λ (l : List ℕ). line_bytes 0 0 0 0 ++ l) (sym (append_assoc (figure_lines 1 xs) (stop_line file x) (most_line (most_of xs))))
        ∙ sym (append_assoc (line_bytes 0 0 0 0) (figure_lines 1 xs ++ stop_line file x) (most_line (most_of xs)))
        ∙ ap₂ (λ (l : List ℕ) (n : ℕ). l ++ most_line n) (sym all) most
    go false false = one 2

-- ---- the lines of a run

pub run_printed : (file : List ℕ) → file_lines file ≡ printed (run_rows file) ++ words_behind file
unfolding file_lines run_rows rows_behind refusal_line step_lines words_behind printed
run_printed file = go (ltb (length file) file_record_width) (eqb (opening_refusal mainframe (opening_of (take file_record_width file))) 0)
  where
    rows : List Row
    rows = answer_rows 1 (step_answers file) ++ stop_rows file 0 0

    words : List ℕ
    words = cond (ltb step_limit (step_count file)) [] (cond (eqb (length file % file_record_width) 0) (words_line (words_moved (step_answers file))) [])

    one : (r : ℕ) → line_bytes 0 r 0 0 ≡ printed (row 0 r 0 0 ∷ []) ++ []
    one r = unfold printed in sym (append-nil (line_bytes 0 r 0 0 ++ []) ∙ append-nil (line_bytes 0 r 0 0))

    end : end_line file (words_moved (step_answers file)) ≡ printed (stop_rows file 0 0) ++ words
    end = unfold end_line printed stop_rows refusal_line in by_stop (ltb step_limit (step_count file)) (eqb (length file % file_record_width) 0)
      where
        by_stop : (b c : Bool)
            → cond b (line_bytes (step_limit + 1) 16 0 0) (cond c (words_line (words_moved (step_answers file))) (line_bytes (step_count file + 1) 15 0 0))
            ≡ printed (cond b (row (step_limit + 1) 16 0 0 ∷ []) (cond c [] (row (step_count file + 1) 15 0 0 ∷ []))) ++ cond b [] (cond c (words_line (words_moved (step_answers file))) [])
        by_stop true c = sym (append-nil (line_bytes (step_limit + 1) 16 0 0 ++ []) ∙ append-nil (line_bytes (step_limit + 1) 16 0 0))
        by_stop false true = refl
        by_stop false false = sym (append-nil (line_bytes (step_count file + 1) 15 0 0 ++ []) ∙ append-nil (line_bytes (step_count file + 1) 15 0 0))

    go : (b c : Bool)
        → cond b (line_bytes 0 15 0 0) (cond c (line_bytes 0 0 0 0 ++ (answer_lines 1 (step_answers file) ++ end_line file (words_moved (step_answers file)))) (line_bytes 0 2 0 0))
        ≡ printed (cond b (row 0 15 0 0 ∷ []) (cond c (row 0 0 0 0 ∷ rows) (row 0 2 0 0 ∷ []))) ++ cond b [] (cond c words [])
    go true c = one 15
    go false true = unfold printed in
        ap (λ (l : List ℕ). line_bytes 0 0 0 0 ++ l)
        (ap₂ (λ (a b : List ℕ). a ++ b) (sym (answers_printed 1 (step_answers file))) end
        ∙ sym (append_assoc (printed (answer_rows 1 (step_answers file))) (printed (stop_rows file 0 0)) words)
        ∙ ap (λ (l : List ℕ). l ++ words) (sym (printed_on (answer_rows 1 (step_answers file)) (stop_rows file 0 0))))
        ∙ sym (append_assoc (line_bytes 0 0 0 0) (printed rows) words)
    go false false = one 2

-- ---- where it stops

-- rows by all but the last, and the last
record Ends (rows : List Row) (x : Figures) : Type 0 where
  front : List Row
  before : Row
  are : rows ≡ front ++ before ∷ []
  third : before.third ≡ x.standing
  fourth : before.fourth ≡ x.dirty

rows_end : (r : Row) (n : ℕ) (x : Figures) (xs : List Figures) → r.third ≡ x.standing → r.fourth ≡ x.dirty → Ends (r ∷ figure_rows n xs) (last_figures x xs)
unfolding figure_rows last_figures
rows_end r n x [] e f = record { front = []; before = r; are = refl; third = e; fourth = f }
rows_end r n x (y ∷ ys) e f =
    let rest = rows_end (row n y.refusal y.standing y.dirty) (suc n) y ys refl refl in
    record { front = r ∷ rest.front; before = rest.before; are = ap (λ (l : List Row). r ∷ l) rest.are; third = rest.third; fourth = rest.fourth }

module _ (file : List ℕ) (long : file_record_width ≤ length file) (accepted : opening_refusal mainframe (opening_of (take file_record_width file)) ≡ 0) where
  stops_with : (n r : ℕ) → stop_rows file (last_figures no_figures (file_figures file)).standing (last_figures no_figures (file_figures file)).dirty ≡ row n r (last_figures no_figures (file_figures file)).standing (last_figures no_figures (file_figures file)).dirty ∷ []
      → StopsWith r (forecast_rows file)
  stops_with n r e =
      record {
        front = ends.front;
        before = ends.before;
        last = row n r x.standing x.dirty;
        are =
            opened_rows
            ∙ ap (λ (l : List Row). row 0 0 0 0 ∷ (figure_rows 1 (file_figures file) ++ l)) e
            ∙ ap (λ (l : List Row). l ++ row n r x.standing x.dirty ∷ []) ends.are
            ∙ append_assoc ends.front (ends.before ∷ []) (row n r x.standing x.dirty ∷ []);
        refused = refl;
        same_third = sym ends.third;
        same_fourth = sym ends.fourth;
      }
    where
      x : Figures
      x = last_figures no_figures (file_figures file)

      opened_rows : forecast_rows file ≡ row 0 0 0 0 ∷ (figure_rows 1 (file_figures file) ++ stop_rows file (last_figures no_figures (file_figures file)).standing (last_figures no_figures (file_figures file)).dirty)
      opened_rows = unfold forecast_rows rows_behind in rw (le-ltb (length file) file_record_width long, accepted) refl

      ends : Ends (row 0 0 0 0 ∷ figure_rows 1 (file_figures file)) (last_figures no_figures (file_figures file))
      ends = rows_end (row 0 0 0 0) 1 no_figures (file_figures file) refl refl

  -- "on a line of .. 16 both figures are those before it"
  pub stops_at_16 : step_limit < step_count file → StopsWith 16 (forecast_rows file)
  unfolding stop_rows
  stops_at_16 many = stops_with (step_limit + 1) 16 (rw (lt-ltb step_limit (step_count file) many) refl)

  -- and on one of 15
  pub stops_at_15 : step_count file ≤ step_limit → (length file % file_record_width ≡ 0 → ⊥) → StopsWith 15 (forecast_rows file)
  unfolding stop_rows
  stops_at_15 few cut = stops_with (step_count file + 1) 15 (rw (le-ltb step_limit (step_count file) few, ne_eqb (length file % file_record_width) 0 cut) refl)

-- ---- cases

-- the rows of a file with these figures
rows_with : List ℕ → List Figures → List Row
rows_with file xs = rows_behind file (figure_rows 1 xs ++ stop_rows file (last_figures no_figures xs).standing (last_figures no_figures xs).dirty)

by_figures : (file : List ℕ) (xs : List Figures) → file_figures file ≡ xs → forecast_rows file ≡ rows_with file xs
unfolding forecast_rows rows_with
by_figures file xs e = ap (rows_with file) e

-- Listing A
listing_file_figures : file_figures listing_bytes ≡ listing_figures
unfolding file_figures opening_of listing_bytes
listing_file_figures = ap (run_figures mainframe (opened mainframe (mainframe_with 2 1 1))) listing_steps ∙ listing_figures_lem

pub listing_rows_lem : forecast_rows listing_bytes ≡ listing_rows
unfolding rows_with rows_behind figure_rows stop_rows last_figures step_count opening_refusal counts_in_range in_range mainframe opening_of listing_bytes listing_figures listing_rows
listing_rows_lem = by_figures listing_bytes listing_figures listing_file_figures

-- a file that is cut
cut_figures : file_figures cut_file ≡ figures 0 0 1 ∷ []
unfolding file_figures opening_of cut_file steps_in step_count step_from
cut_figures =
    forecast_is_the_run mainframe (record { first = 0; counts = mainframe_with 2 1 1; rest = 0 }) (unfold opening_refusal counts_in_range in_range mainframe in refl) (writes 1 0 7 ∷ []) ∙ foreseen
  where
    foreseen : forecast_figures mainframe (opened_for mainframe (mainframe_with 2 1 1)) (writes 1 0 7 ∷ []) ≡ figures 0 0 1 ∷ []
    foreseen = unfold start bare own_for forecast_refusal dirty_for written_for forecast_after forecast_next opened_for forecast_figures in refl

pub cut_rows_lem : forecast_rows cut_file ≡ cut_rows
unfolding rows_with rows_behind figure_rows stop_rows last_figures step_count opening_refusal counts_in_range in_range mainframe opening_of cut_file cut_rows
cut_rows_lem = by_figures cut_file (figures 0 0 1 ∷ []) cut_figures
