-- Document 01, "Lists of steps": the answers of a list of steps and the state that it leaves. "each step gets the state that the last one
-- left". Assumes nothing.
use Rattle.std.specs.Prelude.{ℕ, ◌+◌, List, [], ◌∷◌}
use Rattle.rules.specs.State.{Limits, State}
use Rattle.rules.specs.Refusals.{Step, Answer, answer_in_order, next_in_order, answer, next}

-- what the steps of a list answer, one after the other
unfoldable pub answers : Limits → State → List Step → List Answer
answers lim s [] = []
answers lim s (t ∷ ts) = answer lim s t ∷ answers lim (next lim s t) ts

-- the state that a list of steps leaves
unfoldable pub state_after : Limits → State → List Step → State
state_after lim s [] = s
state_after lim s (t ∷ ts) = state_after lim (next lim s t) ts

-- L6: "the total": how many words the steps of a list moved
unfoldable pub words_moved : List Answer → ℕ
words_moved [] = 0
words_moved (a ∷ rest) = a.words + words_moved rest

-- the answers where the state is known to be in order: every accepted step keeps it so, and refusal 1 never arises (proofs/)
unfoldable pub answers_in_order : Limits → State → List Step → List Answer
answers_in_order lim s [] = []
answers_in_order lim s (t ∷ ts) = answer_in_order lim s t ∷ answers_in_order lim (next_in_order lim s t) ts

-- the state that such a run leaves
unfoldable pub state_in_order : Limits → State → List Step → State
state_in_order lim s [] = s
state_in_order lim s (t ∷ ts) = state_in_order lim (next_in_order lim s t) ts
