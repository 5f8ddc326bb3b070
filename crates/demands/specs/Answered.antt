-- A claim about answers, of everything that answers: the rules' lists of steps, calls of `step`, `run`, and step files. Assumes nothing.
use Rattle.std.specs.Prelude.{ℕ, suc, ◌≤◌, min, ◌≡◌, List, map, length, take, drop}
use Rattle.limits.specs.Files.{file_record_width, step_limit}
use Rattle.rules.specs.Opening.{Opening, opening_refusal, opened}
use Rattle.rules.specs.Refusals.{Step, Answer}
use Rattle.rules.specs.Runs.{answers}
use Rattle.rules.specs.State.{mainframe, Counts}
use Rattle.layout.specs.Areas.{Areas}
use Rattle.opening.specs.Promises.{opening_of, open_refusal, areas_opened}
use Rattle.step_act.specs.Telling.{told}
use Rattle.step_act.specs.Telling.{Outcome}
use Rattle.engine.specs.Calls.{answers_of_calls, Returned}
use Rattle.step_fields.specs.Records.{steps_in, step_count}
use Rattle.run_list.specs.Runs.{first_refusal, run_answers}
use Rattle.stepfile.specs.Files.{step_answers}

-- what is claimed of the counts of an accepted opening, a list of steps and the answers to it holds:
pub record OfAnswers (Claim : Counts → List Step → List Answer → Type 0) : Type 0 where
  -- of every list of steps by the rules
  pub of_lists : (o : Opening) → opening_refusal mainframe o ≡ 0 → (ts : List Step) → Claim o.counts ts (answers mainframe (opened mainframe o.counts) ts)
  -- of every list of calls of `step`, with any fields, on areas that an accepted opening left and that nobody else writes
  pub of_calls : (bytes : List ℕ) (a : Areas) → open_refusal bytes a ≡ 0 → (ts : List Step) → Claim (opening_of bytes).counts ts (answers_of_calls (areas_opened bytes a) ts)
  -- and of the outcomes that calls which keep their contract have returned
  pub of_outcomes : (bytes : List ℕ) (a : Areas) → open_refusal bytes a ≡ 0 → (ts : List Step) (os : List Outcome) → Returned (areas_opened bytes a) ts os
      → Claim (opening_of bytes).counts ts (map told os)
  -- of the answers of `run` over an opening and n records behind it
  pub of_runs : (n : ℕ) (bytes : List ℕ) (a : Areas) → first_refusal bytes a ≡ 0
      → Claim (opening_of (take file_record_width bytes)).counts (steps_in n (drop file_record_width bytes)) (drop 1 (run_answers (suc n) bytes a))
  -- of every file whose opening is accepted: of the answers that its lines print
  pub of_files : (file : List ℕ) → file_record_width ≤ length file → opening_refusal mainframe (opening_of (take file_record_width file)) ≡ 0
      → Claim (opening_of (take file_record_width file)).counts (steps_in (min (step_count file) step_limit) (drop file_record_width file)) (step_answers file)

-- the claim that a run with these counts and steps answers so: a bench case
pub record AnswersAs (c : Counts) (ts : List Step) (expected : List Answer) (counts : Counts) (steps : List Step) (answered : List Answer) : Type 0 where
  pub answers : counts ≡ c → steps ≡ ts → answered ≡ expected
