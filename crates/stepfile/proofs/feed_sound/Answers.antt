-- A run that has stopped is left as it is, and another is fed. Assumes nothing.
use Rattle.stepfile.proofs.Answers.{answer_laws}
use Rattle.stepfile.proofs.feed_sound.Goals as goal

pub feed_on-requires : goal.feed_on-requires
feed_on-requires c = search answer_laws

pub returns-then-progress : goal.returns-then-progress
returns-then-progress c = search answer_laws
