-- `dequeue` meets its contract. Assumes nothing.
use Rattle.step_queue.proofs.Acting.{closed_job, act_laws}
use Rattle.step_queue.proofs.dequeue.Goals as goal

pub take_job-requires : goal.take_job-requires
take_job-requires c = closed_job _ _ _ _ _ _ _ _ c.close.ensures c.requires

pub returns : goal.returns
returns c = search act_laws
