-- What an outcome says: document 01's refusal, value and count, and L6's words, for each of its cases. Assumes nothing.
use Rattle.std.specs.Prelude.{ℕ, ◌≡◌, Result, Ok, Err, is_ok, eqb}
use Rattle.limits.specs.declared.Refusal.{Refusal}
use Rattle.limits.specs.Refused.{refusal_in}
use Rattle.rules.specs.Refusals.{Answer}
use Rattle.step_access.specs.declared.Answered.{Answered}

-- what a step answers: an answer, or why it is refused
abbrev pub Outcome : Type 0
Outcome = Result Answered Refusal

-- the outcome of a step that was done
abbrev pub answered : ℕ → ℕ → ℕ → Outcome
answered v k n = Ok (record { value = v; count = k; words = n })

-- the value: 0 for a refused step
unfoldable pub outcome_value : Outcome → ℕ
outcome_value (Ok a) = a.value
outcome_value (Err r) = 0

-- the count: 0 for a refused step
unfoldable pub outcome_count : Outcome → ℕ
outcome_count (Ok a) = a.count
outcome_count (Err r) = 0

-- the words: 0 for a refused step
unfoldable pub outcome_words : Outcome → ℕ
outcome_words (Ok a) = a.words
outcome_words (Err r) = 0

-- the four numbers that an outcome stands for
unfoldable pub told : Outcome → Answer
told o = record { refusal = refusal_in o; value = outcome_value o; count = outcome_count o; words = outcome_words o }

-- the outcome tells this answer: its four numbers are the answer's, and its case says whether the step was accepted. No two outcomes tell the
-- same answer (proofs/)
pub record Tells (o : Outcome) (a : Answer) : Type 0 where
  pub numbers : told o ≡ a
  -- "A step is accepted exactly when its refusal is 0"
  pub accepted : is_ok o ≡ eqb a.refusal 0
