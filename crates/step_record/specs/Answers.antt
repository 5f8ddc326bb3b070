-- Answers as words. Assumes nothing.
use Rattle.std.specs.Prelude.{ℕ, zero, suc, List, [], ◌∷◌, get_or, drop}
use Rattle.limits.specs.Files.{answer_width}
use Rattle.rules.specs.Refusals.{Answer}

-- answers as words, four for each: refusal, value, count, and L6's words
unfoldable pub answer_words : List Answer → List ℕ
answer_words [] = []
answer_words (a ∷ rest) = a.refusal ∷ a.value ∷ a.count ∷ a.words ∷ answer_words rest

-- the answers in the first n fours of words
unfoldable pub answers_in : ℕ → List ℕ → List Answer
answers_in zero words = []
answers_in (suc n) words = record { refusal = get_or words 0 0; value = get_or words 1 0; count = get_or words 2 0; words = get_or words 3 0 } ∷ answers_in n (drop answer_width words)
