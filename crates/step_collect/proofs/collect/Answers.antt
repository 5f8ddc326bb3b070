-- `collect` meets its contract. Assumes nothing.
use Rattle.step_collect.proofs.Emptying.{empty_laws}
use Rattle.step_collect.proofs.collect.Goals as goal

pub empty-requires : goal.empty-requires
empty-requires c = search empty_laws

pub returns : goal.returns
returns c = search empty_laws
