-- The records of a file taken one after the other make the lines of the whole file. Rests on Records and on rules' Foretold. Assumes nothing.
use Prim.Native.Nat.{ℕ, suc, ◌+◌, ◌-◌, ◌*◌, ◌/◌, ◌%◌, ◌≤◌, ◌<◌, max, min}
use native.Mathlib.Omega.{arith}
use native.Mathlib.Decide.{dec_lt, ℕ_discrete}
use mathlib.Core.Path.{◌≡◌, refl, sym, ap, ◌∙◌}
use mathlib.Core.Bool.{Bool, true, false, cond}
use mathlib.Core.List.{List, ◌++◌, append_assoc}
use lib.ListN.{length, take, drop}
use lib.Dec.{eqb}
use borrow.Author.Tests.{eq-eqb, ne_eqb, lt-leb, lt-ltb, le-ltb}
use Rattle.limits.specs.Files.{file_record_width, step_limit}
use Rattle.rules.specs.State.{mainframe}
use Rattle.rules.specs.Opening.{Opening, opening_refusal, opened}
use Rattle.rules.specs.Forecast.{Forecast, dirty_for, opened_for, Figures, forecast_figures, most_of}
use Rattle.rules.proofs.inorder.OpenedInOrder.{opened_no_dirty}
use Rattle.rules.proofs.Foretold.{dirty_foretold, opened_foretold, forecast_is_the_run}
use Rattle.opening.specs.Promises.{opening_of}
use Rattle.step_fields.specs.Records.{steps_in, step_count, file_steps}
use Rattle.lines.specs.Lines.{line_bytes, refusal_line, most_line}
use Rattle.forecast_file.specs.Files.{figure_lines, file_figures, no_figures, last_figures, stop_line, foreseen_lines, forecast_lines}
use Rattle.forecast_file.specs.Standing.{Foresight, nothing_foreseen, opening_foreseen, too_many_foreseen, record_foreseen, records_foreseen, foreseen}
use Rattle.forecast_file.specs.inner.Needed.{cut_line, last_lines}
use Rattle.forecast_file.proofs.Records.{foreseen_stopped, foreseen_one, foreseen_together, after_steps, last_kept, steps_foreseen}

-- ---- the whole file

-- nothing is dirty after an opening
opened_clean_for : (o : Opening) → dirty_for (opened_for mainframe o.counts) ≡ 0
opened_clean_for o = sym (dirty_foretold (opened mainframe o.counts) (opened_for mainframe o.counts) (opened_foretold mainframe o.counts)) ∙ opened_no_dirty mainframe o.counts

-- a file that ends before its opening
short_forecast : (k : Forecast) (file : List ℕ) → length file < file_record_width → forecast_lines file ≡ (foreseen k file).lines ++ last_lines (foreseen k file) (length file % file_record_width)
unfolding forecast_lines foreseen records_foreseen nothing_foreseen cut_line last_lines
short_forecast k file h =
    ap (λ (b : Bool). cond b (refusal_line 0 15 ++ most_line 0) (cond (eqb (opening_refusal mainframe (opening_of (take file_record_width file))) 0) (refusal_line 0 0 ++ foreseen_lines file) (refusal_line 0 2 ++ most_line 0)))
    (lt-ltb (length file) file_record_width h)
    ∙ sym (ap (λ (n : ℕ). (records_foreseen (nothing_foreseen k) n file).lines ++ last_lines (records_foreseen (nothing_foreseen k) n file) (length file % file_record_width)) none)
  where
    none : length file / file_record_width ≡ 0
    none = omega (arith, h)

module _ (k : Forecast) (file : List ℕ) (long : file_record_width ≤ length file) where
  abbrev o : Opening
  o = opening_of (take file_record_width file)

  abbrev steps : List ℕ
  steps = drop file_record_width file

  -- behind the opening stand its steps
  behind_opening : foreseen k file ≡ records_foreseen (opening_foreseen (nothing_foreseen k) (take file_record_width file)) (step_count file) (drop file_record_width file)
  unfolding foreseen records_foreseen nothing_foreseen record_foreseen step_count
  behind_opening = ap (λ (n : ℕ). records_foreseen (nothing_foreseen k) n file) count
    where
      count : length file / file_record_width ≡ suc ((length file - file_record_width) / file_record_width)
      count = omega (arith, long)

  -- a refused opening
  refused_forecast : (opening_refusal mainframe (opening_of (take file_record_width file)) ≡ 0 → ⊥)
      → forecast_lines file ≡ (foreseen k file).lines ++ last_lines (foreseen k file) (length file % file_record_width)
  unfolding forecast_lines opening_foreseen nothing_foreseen cut_line last_lines
  refused_forecast refused =
      ap (λ (b : Bool). cond b (refusal_line 0 15 ++ most_line 0) (cond (eqb (opening_refusal mainframe o) 0) (refusal_line 0 0 ++ foreseen_lines file) (refusal_line 0 2 ++ most_line 0))) (le-ltb (length file) file_record_width long)
      ∙ ap (λ (b : Bool). cond b (refusal_line 0 0 ++ foreseen_lines file) (refusal_line 0 2 ++ most_line 0)) (ne_eqb (opening_refusal mainframe o) 0 refused)
      ∙ sym (ap (λ (f : Foresight). f.lines ++ last_lines f (length file % file_record_width)) (behind_opening ∙ stays))
    where
      first : Foresight
      first = record { number = 1; stopped = true; forecast = k; most = 0; lines = refusal_line 0 2 }

      stays : records_foreseen (opening_foreseen (nothing_foreseen k) (take file_record_width file)) (step_count file) (drop file_record_width file) ≡ first
      stays =
          ap (λ (f : Foresight). records_foreseen f (step_count file) (drop file_record_width file)) (ap (λ (b : Bool). cond b (record { number = 1; stopped = false; forecast = opened_for mainframe o.counts; most = 0; lines = refusal_line 0 0 }) first) (ne_eqb (opening_refusal mainframe o) 0 refused))
          ∙ foreseen_stopped first (step_count file) (drop file_record_width file) refl

  module _ (accepted : opening_refusal mainframe (opening_of (take file_record_width file)) ≡ 0) where
    -- what stands behind the opening
    abbrev forecast_begun : Foresight
    forecast_begun = record { number = 1; stopped = false; forecast = opened_for mainframe o.counts; most = 0; lines = refusal_line 0 0 }

    -- what is kept, and the figures, after n steps
    abbrev kept : ℕ → Forecast
    kept n = after_steps (opened_for mainframe o.counts) (steps_in n steps)

    abbrev figures : ℕ → List Figures
    figures n = forecast_figures mainframe (opened_for mainframe o.counts) (steps_in n steps)

    opened_first : foreseen k file ≡ records_foreseen forecast_begun (step_count file) (drop file_record_width file)
    unfolding opening_foreseen nothing_foreseen
    opened_first =
        behind_opening
        ∙ ap (λ (b : Bool). records_foreseen (cond b forecast_begun (record { number = 1; stopped = true; forecast = k; most = 0; lines = refusal_line 0 2 })) (step_count file) (drop file_record_width file))
        (eq-eqb (opening_refusal mainframe o) 0 accepted)

    -- the lines of the file by these figures
    by_figures : (n : ℕ) → min (step_count file) step_limit ≡ n
        → forecast_lines file ≡ refusal_line 0 0 ++ (figure_lines 1 (figures n) ++ (stop_line file (last_figures no_figures (figures n)) ++ most_line (most_of (figures n))))
    unfolding forecast_lines foreseen_lines file_figures
    by_figures n e =
        ap (λ (b : Bool). cond b (refusal_line 0 15 ++ most_line 0) (cond (eqb (opening_refusal mainframe o) 0) (refusal_line 0 0 ++ foreseen_lines file) (refusal_line 0 2 ++ most_line 0))) (le-ltb (length file) file_record_width long)
        ∙ ap (λ (b : Bool). cond b (refusal_line 0 0 ++ foreseen_lines file) (refusal_line 0 2 ++ most_line 0)) (eq-eqb (opening_refusal mainframe o) 0 accepted)
        ∙ ap (λ (xs : List Figures). refusal_line 0 0 ++ (figure_lines 1 xs ++ (stop_line file (last_figures no_figures xs) ++ most_line (most_of xs))))
        (forecast_is_the_run mainframe o accepted (file_steps file) ∙ ap figures e)

    -- the figures of the last of n steps are those of what is kept
    last_standing : (n : ℕ) → (last_figures no_figures (figures n)).standing ≡ (kept n).standing
    last_standing n = (last_kept (opened_for mainframe o.counts) (steps_in n steps) no_figures (unfold opened_for in refl) (sym (opened_clean_for o))).0

    last_dirty : (n : ℕ) → (last_figures no_figures (figures n)).dirty ≡ dirty_for (kept n)
    last_dirty n = (last_kept (opened_for mainframe o.counts) (steps_in n steps) no_figures (unfold opened_for in refl) (sym (opened_clean_for o))).1

    -- n steps behind the opening
    abbrev after : ℕ → Foresight
    after n = record { number = 1 + n; stopped = false; forecast = kept n; most = max 0 (most_of (figures n)); lines = refusal_line 0 0 ++ figure_lines 1 (figures n) }

    most_is : (n : ℕ) → max 0 (most_of (figures n)) ≡ most_of (figures n)
    most_is n = omega arith

    -- the lines of n steps, and what stands behind them
    joined_lines : (n : ℕ) (tail rest : List ℕ) → tail ≡ rest → refusal_line 0 0 ++ (figure_lines 1 (figures n) ++ tail) ≡ refusal_line 0 0 ++ figure_lines 1 (figures n) ++ rest
    joined_lines n tail rest e =
        ap (λ (l : List ℕ). refusal_line 0 0 ++ (figure_lines 1 (figures n) ++ l)) e ∙ sym (append_assoc (refusal_line 0 0) (figure_lines 1 (figures n)) rest)

    -- a file with no step too many
    few_forecast : step_count file ≤ step_limit → forecast_lines file ≡ (foreseen k file).lines ++ last_lines (foreseen k file) (length file % file_record_width)
    few_forecast few =
        by_figures (step_count file) (omega (arith, few))
        ∙ joined_lines (step_count file) (stop_line file (last_figures no_figures (figures (step_count file))) ++ most_line (most_of (figures (step_count file))))
        (last_lines (after (step_count file)) (length file % file_record_width)) (go (eqb (length file % file_record_width) 0) refl)
        ∙ sym (ap (λ (f : Foresight). f.lines ++ last_lines f (length file % file_record_width)) (opened_first ∙ steps_foreseen forecast_begun (step_count file) steps refl (omega arith) (omega (arith, few))))
      where
        number : step_count file + 1 ≡ 1 + step_count file
        number = omega arith

        go : (b : Bool) → eqb (length file % file_record_width) 0 ≡ b
            → stop_line file (last_figures no_figures (figures (step_count file))) ++ most_line (most_of (figures (step_count file))) ≡ last_lines (after (step_count file)) (length file % file_record_width)
        go true e = unfold stop_line cut_line last_lines in rw (le-ltb step_limit (step_count file) few, e, ne_eqb (1 + step_count file) 0 (λ z. omega (arith, z)), most_is (step_count file)) refl
        go false e = unfold stop_line cut_line last_lines in
            rw (le-ltb step_limit (step_count file) few, e, ne_eqb (1 + step_count file) 0 (λ z. omega (arith, z)), most_is (step_count file), last_standing (step_count file), last_dirty (step_count file), number) refl

    -- a file with one
    many_forecast : step_limit < step_count file → forecast_lines file ≡ (foreseen k file).lines ++ last_lines (foreseen k file) (length file % file_record_width)
    many_forecast many =
        by_figures step_limit (omega (arith, many))
        ∙ joined_lines step_limit (stop_line file (last_figures no_figures (figures step_limit)) ++ most_line (most_of (figures step_limit))) (sixteen ++ most_line (most_of (figures step_limit))) stops
        ∙ sym (append_assoc (refusal_line 0 0 ++ figure_lines 1 (figures step_limit)) sixteen (most_line (most_of (figures step_limit))))
        ∙ sym (ap (λ (f : Foresight). f.lines ++ last_lines f (length file % file_record_width)) (opened_first ∙ one_too_many) ∙ last)
      where
        sixteen : List ℕ
        sixteen = line_bytes (1 + step_limit) 16 (kept step_limit).standing (dirty_for (kept step_limit))

        number : step_limit + 1 ≡ 1 + step_limit
        number = omega arith

        stops : stop_line file (last_figures no_figures (figures step_limit)) ++ most_line (most_of (figures step_limit)) ≡ sixteen ++ most_line (most_of (figures step_limit))
        stops = unfold stop_line in rw (lt-ltb step_limit (step_count file) many, last_standing step_limit, last_dirty step_limit, number) refl

        over : Foresight
        over = too_many_foreseen (after step_limit)

        more : step_count file ≡ step_limit + suc (step_count file - step_limit - 1)
        more = omega (arith, many)

        rest : List ℕ
        rest = drop (file_record_width * step_limit) steps

        stopped_there : record_foreseen (after step_limit) (take file_record_width rest) ≡ over
        stopped_there = unfold record_foreseen in rw (ne_eqb (1 + step_limit) 0 (λ z. omega (arith, z)), lt-leb (1 + step_limit) step_limit (omega arith)) refl

        one_too_many : records_foreseen forecast_begun (step_count file) steps ≡ over
        one_too_many =
            ap (λ (n : ℕ). records_foreseen forecast_begun n steps) more
            ∙ foreseen_together forecast_begun step_limit (suc (step_count file - step_limit - 1)) steps
            ∙ ap (λ (f : Foresight). records_foreseen f (suc (step_count file - step_limit - 1)) rest) (steps_foreseen forecast_begun step_limit steps refl (omega arith) (omega arith))
            ∙ foreseen_one (after step_limit) (step_count file - step_limit - 1) rest refl
            ∙ ap (λ (f : Foresight). records_foreseen f (step_count file - step_limit - 1) (drop file_record_width rest)) stopped_there
            ∙ foreseen_stopped over (step_count file - step_limit - 1) (drop file_record_width rest) (unfold too_many_foreseen in refl)

        last : over.lines ++ last_lines over (length file % file_record_width) ≡ refusal_line 0 0 ++ figure_lines 1 (figures step_limit) ++ sixteen ++ most_line (most_of (figures step_limit))
        last = unfold too_many_foreseen cut_line last_lines in ap (λ (m : ℕ). refusal_line 0 0 ++ figure_lines 1 (figures step_limit) ++ line_bytes (1 + step_limit) 16 (kept step_limit).standing (dirty_for (kept step_limit)) ++ most_line m) (most_is step_limit)

-- the lines of a file are those of its whole records, and the last
pub whole_forecast : (k : Forecast) (file : List ℕ) → forecast_lines file ≡ (foreseen k file).lines ++ last_lines (foreseen k file) (length file % file_record_width)
whole_forecast k file = by_length (dec_lt (length file) file_record_width)
  where
    by_length : Dec (length file < file_record_width) → forecast_lines file ≡ (foreseen k file).lines ++ last_lines (foreseen k file) (length file % file_record_width)
    by_length (yes h) = short_forecast k file h
    by_length (no h) = by_opening (ℕ_discrete (opening_refusal mainframe (opening_of (take file_record_width file))) 0)
      where
        by_opening : Dec (opening_refusal mainframe (opening_of (take file_record_width file)) ≡ 0) → forecast_lines file ≡ (foreseen k file).lines ++ last_lines (foreseen k file) (length file % file_record_width)
        by_opening (no e) = refused_forecast k file (omega arith) e
        by_opening (yes e) = by_count (dec_lt step_limit (step_count file))
          where
            by_count : Dec (step_limit < step_count file) → forecast_lines file ≡ (foreseen k file).lines ++ last_lines (foreseen k file) (length file % file_record_width)
            by_count (yes many) = many_forecast k file (omega arith) e many
            by_count (no few) = few_forecast k file (omega arith) e (omega arith)
