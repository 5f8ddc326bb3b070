-- `add_job` meets its contract. Assumes nothing.
use Rattle.queue_marks.proofs.Ringing.{ring_laws}
use Rattle.queue_marks.proofs.add_job.Goals as goal

pub returns : goal.returns
returns c = search ring_laws
