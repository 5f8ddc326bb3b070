-- `arrive` meets its contract. Assumes nothing.
use Rattle.step_barrier.proofs.Acting.{act_laws}
use Rattle.step_barrier.proofs.arrive.Goals as goal

pub one_missing-last-requires : goal.one_missing-last-requires
one_missing-last-requires c = search act_laws

pub complete_round-requires : goal.complete_round-requires
complete_round-requires c = search act_laws

pub returns-then-last : goal.returns-then-last
returns-then-last c = search act_laws

pub returns-else-last : goal.returns-else-last
returns-else-last c = search act_laws
