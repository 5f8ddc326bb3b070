-- `complete_round` meets its contract. Assumes nothing.
use Rattle.step_barrier.proofs.Completing.{complete_laws}
use Rattle.step_barrier.proofs.complete_round.Goals as goal

pub collect-requires : goal.collect-requires
collect-requires c = search complete_laws

pub returns-then-is_wanted : goal.returns-then-is_wanted
returns-then-is_wanted c = search complete_laws

pub returns-else-is_wanted : goal.returns-else-is_wanted
returns-else-is_wanted c = search complete_laws
