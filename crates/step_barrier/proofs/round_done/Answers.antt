-- `round_done` meets its contract. Assumes nothing.
use Rattle.step_barrier.proofs.Rounds.{round_laws}
use Rattle.step_barrier.proofs.round_done.Goals as goal

pub returns : goal.returns
returns c = search round_laws
