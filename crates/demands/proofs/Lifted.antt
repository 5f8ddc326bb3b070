-- Lifted once: what is claimed of the answers to the rules' lists of steps holds of calls of `step`, of `run` and of files, since their answers are those of
-- such lists. Rests on CallsJudged. Assumes nothing.
use Prim.Native.Nat.{ℕ, suc, min}
use mathlib.Core.Path.{◌≡◌, refl, ap, ◌∙◌}
use mathlib.Core.List.{List}
use lib.ListN.{take, drop}
use Rattle.limits.specs.Files.{file_record_width, step_limit}
use Rattle.rules.specs.Opening.{Opening, opening_refusal, opened}
use Rattle.rules.specs.Refusals.{Step, Answer}
use Rattle.rules.specs.Runs.{answers}
use Rattle.rules.specs.State.{mainframe, Counts}
use Rattle.layout.specs.Areas.{Areas}
use Rattle.opening.specs.Promises.{opening_of, areas_opened}
use Rattle.opening.proofs.Following.{accepted_opening}
use Rattle.engine.proofs.CallsJudged.{calls_follow_rules, returned_tells}
use Rattle.step_fields.specs.Records.{steps_in, step_count}
use Rattle.run_list.specs.Runs.{first_refusal, first_state, run_answers}
use Rattle.stepfile.specs.Files.{opened_by, step_answers}
use Rattle.demands.specs.Answered.{OfAnswers, AnswersAs}

-- the answers of `run` behind the opening's are those of the rules' list
run_follows_rules : (n : ℕ) (bytes : List ℕ) (a : Areas) → first_refusal bytes a ≡ 0
    → drop 1 (run_answers (suc n) bytes a) ≡ answers mainframe (opened mainframe (opening_of (take file_record_width bytes)).counts) (steps_in n (drop file_record_width bytes))
unfolding run_answers first_state
run_follows_rules n bytes a e = rw e

-- and so are those of a file, by its definition
file_follows_rules : (file : List ℕ)
    → step_answers file
    ≡ answers mainframe (opened mainframe (opening_of (take file_record_width file)).counts) (steps_in (min (step_count file) step_limit) (drop file_record_width file))
unfolding step_answers opened_by
file_follows_rules file = refl

-- a claim that holds of the rules' lists holds of everything that answers
pub lifted : (Claim : Counts → List Step → List Answer → Type 0)
    → ((o : Opening) → opening_refusal mainframe o ≡ 0 → (ts : List Step) → Claim o.counts ts (answers mainframe (opened mainframe o.counts) ts)) → OfAnswers Claim
unfolding first_refusal
lifted Claim h =
    record {
      of_lists = h;
      of_calls = λ bytes a e ts. rw (calls_follow_rules bytes a e ts) (h (opening_of bytes) (accepted_opening bytes a e) ts);
      of_outcomes = λ bytes a e ts os returned.
          rw (returned_tells (areas_opened bytes a) ts os returned, calls_follow_rules bytes a e ts) (h (opening_of bytes) (accepted_opening bytes a e) ts);
      of_runs = λ n bytes a e.
          rw (run_follows_rules n bytes a e)
          (h (opening_of (take file_record_width bytes)) (accepted_opening (take file_record_width bytes) a e) (steps_in n (drop file_record_width bytes)));
      of_files = λ file long e.
          rw (file_follows_rules file) (h (opening_of (take file_record_width file)) e (steps_in (min (step_count file) step_limit) (drop file_record_width file)));
    }

-- a bench case that the rules' list answers
pub case_lifted : (c : Counts) (ts : List Step) (expected : List Answer) → answers mainframe (opened mainframe c) ts ≡ expected → OfAnswers (AnswersAs c ts expected)
case_lifted c ts expected h =
    lifted (AnswersAs c ts expected)
    (λ o e steps. record { answers = λ same steps-same. ap (λ (k : Counts). answers mainframe (opened mainframe k) steps) same ∙ ap (answers mainframe (opened mainframe c)) steps-same ∙ h })
