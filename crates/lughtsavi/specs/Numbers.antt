-- What the functions for C and Rust return where the engine or the diffs answer several numbers, and what a step leaves in the slices lent
-- to it. Assumes nothing.
use Rattle.std.specs.Prelude.{ℕ, ◌+◌, cond, List, [], ◌∷◌, length, eqb}
use Rattle.limits.specs.Files.{answer_width}
use Rattle.diff.specs.Answers.{apply_refusal, apply_words}
use Rattle.diff_writer.specs.Answers.{WriteAnswer}
use Rattle.rules.specs.Refusals.{Step}
use Rattle.layout.specs.Areas.{Areas}
use Rattle.engine.specs.Promises.{answer_of, areas_after}
use Rattle.step_record.specs.Answers.{answer_words}

-- ---- a step

-- what is lent to a step: the words for its answer, and the four areas
pub record Slices : Type 0 where
  pub answer : List ℕ
  pub areas : Areas

-- the slices of these contents
unfoldable pub slices : List ℕ → Areas → Slices
slices out a = record { answer = out; areas = a }

-- what a step returns: 1 where the answer has not four words, else the refusal of its answer
unfoldable pub step_return : List ℕ → Areas → Step → ℕ
step_return out a t = cond (eqb (length out) answer_width) (answer_of a t).refusal 1

-- the slices after a step: its answer and the areas that it leaves; all as they were where the answer has not four words
unfoldable pub slices_after : List ℕ → Areas → Step → Slices
slices_after out a t = cond (eqb (length out) answer_width) (slices (answer_words (answer_of a t ∷ [])) (areas_after a t)) (slices out a)

-- ---- a diff written

-- the length in bytes, or 256 + the refusal: a length is at most 131
unfoldable pub write_return : WriteAnswer → ℕ
write_return a = cond (eqb a.refusal 0) a.length (256 + a.refusal)

-- ---- a diff applied

-- L6: how many words were set, or 256 + the refusal: a page of w words has no more than that many
unfoldable pub apply_return : ℕ → List ℕ → List ℕ → ℕ
apply_return w bytes page = cond (eqb (apply_refusal w bytes page) 0) (apply_words w bytes page) (256 + apply_refusal w bytes page)
