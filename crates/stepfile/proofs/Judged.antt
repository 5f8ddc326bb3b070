-- Demand 3 of a file: happens-before-1 judges the answers of which its lines are printed. Rests on Whole and on rules' DemandThree. Assumes
-- nothing.
use Prim.Native.Nat.{◌≤◌, ℕ, min}
use native.Mathlib.Omega.{arith}
use mathlib.Core.Path.{◌≡◌, sym, ap, ◌∙◌}
use mathlib.Core.Bool.{Bool, true, cond}
use mathlib.Core.List.{List, ◌++◌}
use lib.ListN.{length, take, drop}
use lib.Dec.{eqb}
use borrow.Author.Tests.{le-ltb, eq-eqb}
use Rattle.limits.specs.Files.{file_record_width, step_limit}
use Rattle.rules.specs.Demand.{ReadsJudged, DemandThree}
use Rattle.rules.specs.Opening.{opening_refusal}
use Rattle.rules.specs.Runs.{words_moved}
use Rattle.rules.specs.State.{mainframe}
use Rattle.rules.proofs.DemandThree.{demand_three}
use Rattle.layout.specs.Areas.{Areas, right_sizes}
use Rattle.opening.specs.Promises.{opening_of}
use Rattle.step_fields.specs.Records.{steps_in, step_count}
use Rattle.lines.specs.Lines.{refusal_line}
use Rattle.stepfile.specs.Files.{answer_lines, end_line, opened_by, step_answers, step_lines, file_lines}
use Rattle.stepfile.specs.Feeding.{after}
use Rattle.stepfile.specs.Promises.{finish_line, Reached}
use Rattle.stepfile.specs.declared.Progress.{Progress}
use Rattle.stepfile.proofs.Whole.{whole_lines}

module _ (file : List ℕ) (long : file_record_width ≤ length file) (accepted : opening_refusal mainframe (opening_of (take file_record_width file)) ≡ 0) where
  -- "happens-before-1 judges every accepted read": of the steps of a file whose opening is accepted, up to the 1,000,000th
  pub file_judged : ReadsJudged (opening_of (take file_record_width file)).counts.processors (steps_in (min (step_count file) step_limit) (drop file_record_width file))
      (step_answers file)
  unfolding DemandThree step_answers opened_by mainframe
  file_judged = demand_three mainframe (opening_of (take file_record_width file)) (omega arith) accepted (steps_in (min (step_count file) step_limit) (drop file_record_width file))

  -- the lines of such a file: those of these answers, between the opening's and the end's
  pub accepted_lines : file_lines file
      ≡ refusal_line 0 0 ++ (answer_lines 1 (step_answers file) ++ end_line file (words_moved (step_answers file)))
  unfolding file_lines step_lines
  accepted_lines =
      ap (λ (b : Bool). cond b (refusal_line 0 15) (cond (eqb (opening_refusal mainframe (opening_of (take file_record_width file))) 0) (refusal_line 0 0 ++ step_lines file) (refusal_line 0 2)))
      (le-ltb (length file) file_record_width long)
      ∙ ap (λ (b : Bool). cond b (refusal_line 0 0 ++ step_lines file) (refusal_line 0 2)) (eq-eqb (opening_refusal mainframe (opening_of (take file_record_width file))) 0 accepted)

  -- and they are what feeding prints
  pub judged_printed : (a₀ a : Areas) (p : Progress) → right_sizes a₀ ≡ true → Reached a₀ file p a
      → (after a₀ file).lines ++ finish_line p
      ≡ refusal_line 0 0 ++ (answer_lines 1 (step_answers file) ++ end_line file (words_moved (step_answers file)))
  judged_printed a₀ a p sizes h = sym (whole_lines a₀ a file p sizes h) ∙ accepted_lines
