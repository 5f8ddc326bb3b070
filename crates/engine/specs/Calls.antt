-- A list of calls of `step` on the same four areas: "each step gets the state that the last one left, and nobody else writes it
-- meanwhile". Assumes nothing.
use Rattle.std.specs.Prelude.{List, [], ◌∷◌}
use Rattle.rules.specs.Refusals.{Step, Answer}
use Rattle.layout.specs.Areas.{Areas}
use Rattle.step_act.specs.Telling.{Tells}
use Rattle.step_act.specs.Telling.{Outcome}
use Rattle.engine.specs.Promises.{answer_of, areas_after}

-- what the calls answer, one after the other
unfoldable pub answers_of_calls : Areas → List Step → List Answer
answers_of_calls a [] = []
answers_of_calls a (t ∷ ts) = answer_of a t ∷ answers_of_calls (areas_after a t) ts

-- the areas after the last call
unfoldable pub areas_after_calls : Areas → List Step → Areas
areas_after_calls a [] = a
areas_after_calls a (t ∷ ts) = areas_after_calls (areas_after a t) ts

-- the calls returned these outcomes: the contract of `step`, call after call
unfoldable pub Returned : Areas → List Step → List Outcome → Type 0
Returned a [] [] = Unit {0}
Returned a [] (o ∷ os) = ⊥
Returned a (t ∷ ts) [] = ⊥
Returned a (t ∷ ts) (o ∷ os) = Tells o (answer_of a t) × Returned (areas_after a t) ts os
