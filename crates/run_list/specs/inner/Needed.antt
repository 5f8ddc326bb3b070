-- What the functions of this crate ask of one another, and what the inner ones promise. Assumes nothing.
use Rattle.std.specs.Prelude.{ℕ, ◌+◌, ◌-◌, ◌*◌, ◌≤◌, ◌≡◌, List, [], ◌∷◌, length, take, drop}
use Rattle.std.proofs.lemmas.List.Edits.{sets}
use Rattle.limits.specs.Files.{file_record_width, answer_width}
use Rattle.rules.specs.Refusals.{refused_with, answer_in_order, next_in_order}
use Rattle.rules.specs.Runs.{answers_in_order, state_in_order}
use Rattle.rules.specs.State.{mainframe, State}
use Rattle.layout.specs.Areas.{Areas}
use Rattle.layout.specs.inner.Needed.{Ready, Holds}
use Rattle.fetch_index.specs.inner.Index.{IndexKept}
use Rattle.step_collect.specs.inner.Needed.{ReadyKept}
use Rattle.opening.specs.Promises.{areas_opened}
use Rattle.step_fields.specs.Records.{step_from, steps_in}
use Rattle.step_record.specs.Answers.{answer_words}
use Rattle.run_list.specs.Runs.{records_run, first_refusal}

-- ---- one record

-- record i stands in the bytes, the words have room for its answer, the areas hold a state in order, and the index is kept
pub record RecordReady (bytes : List ℕ) (i : ℕ) (out c w r m x : List ℕ) : Type 0 where
  pub ready : ReadyKept c w r m x
  pub there : file_record_width * i + file_record_width ≤ length bytes
  pub room : answer_width * i + answer_width ≤ length out

-- the step of record i was taken on the state s: its answer is laid, the areas hold the state that it leaves, and the index is kept
pub record StepLaid (bytes : List ℕ) (i : ℕ) (s : State) (out out' c w r m x : List ℕ) : Type 0 where
  pub laid : out' ≡ sets out (answer_width * i) (answer_words (answer_in_order mainframe s (step_from (drop (file_record_width * i) bytes)) ∷ []))
  pub areas : Holds c w r m (next_in_order mainframe s (step_from (drop (file_record_width * i) bytes)))
  pub kept : IndexKept c r m x

-- ---- how many records

-- n is how many records are run for so many bytes and words
pub record CountIs (bytes words n : ℕ) : Type 0 where
  pub is : n ≡ records_run bytes words

-- n records are run of the bytes, with their answers in the words: the opening, and the steps behind it
pub record RecordsThere (bytes out : List ℕ) (n : ℕ) : Type 0 where
  pub count : n ≡ records_run (length bytes) (length out)
  pub opening : 1 ≤ n

-- ---- the opening

-- a record stands in the bytes, and the words have room for its answer
pub record OpeningThere (bytes out : List ℕ) : Type 0 where
  pub there : file_record_width ≤ length bytes
  pub room : answer_width ≤ length out

-- the opening was answered with the refusal r: the answer is laid, and the areas are those that the opening leaves
pub record OpeningLaid (bytes out : List ℕ) (a : Areas) (r : ℕ) (out' : List ℕ) (a' : Areas) : Type 0 where
  pub refusal : r ≡ first_refusal bytes a
  pub laid : out' ≡ sets out 0 (answer_words (refused_with r ∷ []))
  pub areas : a' ≡ areas_opened (take file_record_width bytes) a

-- ---- the steps

-- n records stand in the bytes, the opening first, the words have room for their answers, and the areas hold a state in order
pub record StepsThere (bytes : List ℕ) (n : ℕ) (out c w r m : List ℕ) : Type 0 where
  pub ready : Ready c w r m
  pub opening : 1 ≤ n
  pub there : file_record_width * n ≤ length bytes
  pub room : answer_width * n ≤ length out

-- the steps of n records behind the opening were run on the state s: their answers are laid behind the opening's, and the areas hold the
-- state that they leave
pub record StepsLaid (bytes : List ℕ) (n : ℕ) (s : State) (out out' c w r m : List ℕ) : Type 0 where
  pub laid : out' ≡ sets out answer_width (answer_words (answers_in_order mainframe s (steps_in (n - 1) (drop file_record_width bytes))))
  pub areas : Holds c w r m (state_in_order mainframe s (steps_in (n - 1) (drop file_record_width bytes)))
