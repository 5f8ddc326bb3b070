-- What a step answers as words, one law for each case. Assumes nothing.
use Rattle.std.proofs.Common.{◌≡◌, ℕ, [], ◌∷◌}
use Rattle.std.specs.Prelude.{Ok, Err}
use Rattle.limits.specs.declared.Refusal.{Refusal}
use Rattle.limits.specs.Refused.{number_of}
use Rattle.step_access.specs.declared.Answered.{Answered}
use Rattle.step_act.specs.Telling.{Outcome, outcome_value, outcome_count, outcome_words, told}
use Rattle.step_record.specs.Answers.{answer_words}

-- of a step that was done
pub done_words : (o : Outcome) (a : Answered) → o ≡ Ok a → 0 ∷ a.value ∷ a.count ∷ a.words ∷ [] ≡ answer_words (told o ∷ [])
unfolding answer_words told outcome_value outcome_count outcome_words
done_words o a e = rw e

-- of a refused one
pub refused_words : (o : Outcome) (r : Refusal) (n m : ℕ) → o ≡ Err r → m ≡ number_of r → n ≡ m → n ∷ 0 ∷ 0 ∷ 0 ∷ [] ≡ answer_words (told o ∷ [])
unfolding answer_words told outcome_value outcome_count outcome_words
refused_words o r n m e f g = rw (e, g, f)

pub ruleset answer_laws = (done_words, refused_words)
