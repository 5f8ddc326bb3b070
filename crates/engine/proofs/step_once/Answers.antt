use Rattle.engine.proofs.Answering.{once_laws}
use Rattle.engine.proofs.step_once.Goals as goal

pub step_on-requires : goal.step_on-requires
step_on-requires c = search once_laws
