-- What a step of the engine answers and leaves in lent memory, for every input. Assumes nothing.
use Rattle.std.specs.Prelude.{cond}
use Rattle.rules.specs.Refusals.{Step, Answer, refused_with, answer, next_in_order}
use Rattle.rules.specs.State.{mainframe}
use Rattle.layout.specs.Areas.{Areas, held_state, holding, right_sizes}
use Rattle.inorder.specs.Areas.{areas_in_order}

-- what a step answers: 1 for areas of a wrong size, else the rules' answer
unfoldable pub answer_of : Areas → Step → Answer
answer_of a t = cond (right_sizes a) (answer mainframe (held_state a) t) (refused_with 1)

-- the areas after a step: those that hold the rules' next state; areas of a wrong size or not in order are left as they were
unfoldable pub areas_after : Areas → Step → Areas
areas_after a t = cond (areas_in_order a.clocks a.words a.records a.marks) (holding (next_in_order mainframe (held_state a) t)) a
