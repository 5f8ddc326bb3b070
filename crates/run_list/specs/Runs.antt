-- What `run` answers and leaves in lent memory, for every input, and demand 3 of its answers. Assumes nothing.
use Rattle.std.specs.Prelude.{ℕ, zero, suc, ◌-◌, ◌/◌, ◌<◌, min, ◌≡◌, cond, List, [], ◌∷◌, length, take, drop, eqb}
use Rattle.std.proofs.lemmas.List.Edits.{sets}
use Rattle.limits.specs.Files.{file_record_width, answer_width}
use Rattle.rules.specs.Demand.{ReadsJudged}
use Rattle.rules.specs.Opening.{opened}
use Rattle.rules.specs.Refusals.{Answer, refused_with}
use Rattle.rules.specs.Runs.{answers, state_after}
use Rattle.rules.specs.State.{mainframe, State}
use Rattle.layout.specs.Areas.{Areas, holding}
use Rattle.opening.specs.Promises.{opening_of, open_refusal}
use Rattle.step_fields.specs.Records.{steps_in}
use Rattle.step_record.specs.Answers.{answer_words, answers_in}

-- how many records are run, the opening among them: as many whole records of eight bytes as there are, and as the answers, four words
-- each, have room for; bytes and words beyond are not looked at
unfoldable pub records_run : ℕ → ℕ → ℕ
records_run bytes words = min (bytes / file_record_width) (words / answer_width)

-- the refusal of the opening, the first record
unfoldable pub first_refusal : List ℕ → Areas → ℕ
first_refusal bytes a = open_refusal (take file_record_width bytes) a

-- the state that the opening leaves
unfoldable pub first_state : List ℕ → State
first_state bytes = opened mainframe (opening_of (take file_record_width bytes)).counts

-- the answers of n records: the opening's, and if that is accepted those of the rules' run
unfoldable pub run_answers : ℕ → List ℕ → Areas → List Answer
run_answers zero bytes a = []
run_answers (suc n) bytes a =
    refused_with (first_refusal bytes a) ∷ cond (eqb (first_refusal bytes a) 0) (answers mainframe (first_state bytes) (steps_in n (drop file_record_width bytes))) []

-- the areas after n records: those that hold the state of the rules' run; a refused opening leaves them as they were
unfoldable pub run_areas : ℕ → List ℕ → Areas → Areas
run_areas zero bytes a = a
run_areas (suc n) bytes a =
    cond (eqb (first_refusal bytes a) 0) (holding (state_after mainframe (first_state bytes) (steps_in n (drop file_record_width bytes)))) a

-- what `run` promises for the bytes, the words lent for answers and the areas: how many records it has run, the answers and the areas that it
-- leaves, and demand 3 of the answers that stand in the words
pub record Ran (bytes out : List ℕ) (a : Areas) (n : ℕ) (out' : List ℕ) (a' : Areas) : Type 0 where
  pub done : n ≡ length (run_answers (records_run (length bytes) (length out)) bytes a)
  pub answers : out' ≡ sets out 0 (answer_words (run_answers (records_run (length bytes) (length out)) bytes a))
  pub areas : a' ≡ run_areas (records_run (length bytes) (length out)) bytes a
  -- "happens-before-1 judges every accepted read"
  pub judged : 0 < n → first_refusal bytes a ≡ 0
      → ReadsJudged (opening_of (take file_record_width bytes)).counts.processors (steps_in (n - 1) (drop file_record_width bytes)) (answers_in (n - 1) (drop answer_width out'))
