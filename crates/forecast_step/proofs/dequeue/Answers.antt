use Rattle.forecast_step.proofs.Queueing.{queue_laws}
use Rattle.forecast_step.proofs.dequeue.Goals as goal

pub returns : goal.returns
returns c = search queue_laws
