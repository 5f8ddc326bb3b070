-- The chunk is fed, or nothing is done. Assumes nothing.
use Rattle.stepfile.proofs.Answers.{answer_laws}
use Rattle.stepfile.proofs.feed.Goals as goal

pub returns-then-feedable : goal.returns-then-feedable
returns-then-feedable c = search answer_laws

pub returns-else-feedable : goal.returns-else-feedable
returns-else-feedable c = search answer_laws
