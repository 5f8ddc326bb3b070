-- The last line is written, or nothing is done. Assumes nothing.
use Rattle.stepfile.proofs.Finishing.{finishing_laws}
use Rattle.stepfile.proofs.finish.Goals as goal

pub returns-then-feedable : goal.returns-then-feedable
returns-then-feedable c = search finishing_laws

pub returns-else-feedable : goal.returns-else-feedable
returns-else-feedable c = search finishing_laws
