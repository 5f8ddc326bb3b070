-- `at_barrier` meets its contract. Assumes nothing.
use Rattle.step_barrier.proofs.Acting.{act_laws}
use Rattle.step_barrier.proofs.at_barrier.Goals as goal

pub learn-requires : goal.learn-requires
learn-requires c = search act_laws

pub mark_arrived-requires : goal.mark_arrived-requires
mark_arrived-requires c = search act_laws

pub returns : goal.returns
returns c = search act_laws
