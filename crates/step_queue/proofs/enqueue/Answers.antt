-- `enqueue` meets its contract. Assumes nothing.
use Rattle.step_queue.proofs.Acting.{closed_room, act_laws}
use Rattle.step_queue.proofs.enqueue.Goals as goal

pub lay_job-requires : goal.lay_job-requires
lay_job-requires c = closed_room _ _ _ _ _ _ _ _ c.close.ensures c.requires

pub returns : goal.returns
returns c = search act_laws
