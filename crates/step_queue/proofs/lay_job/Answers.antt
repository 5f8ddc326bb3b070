-- `lay_job` meets its contract. Assumes nothing.
use Rattle.step_queue.proofs.Queueing.{queue_laws}
use Rattle.step_queue.proofs.lay_job.Goals as goal

pub returns : goal.returns
returns c = search queue_laws
