-- `all_learned` meets its contract. Assumes nothing.
use Rattle.step_barrier.proofs.Learning.{learn_laws}
use Rattle.step_barrier.proofs.all_learned.Goals as goal

pub loop-k-init : goal.loop-k-init
loop-k-init c = search learn_laws

pub loop-k-preserved : goal.loop-k-preserved
loop-k-preserved c = search learn_laws
