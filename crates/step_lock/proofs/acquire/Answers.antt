-- `acquire` meets its contract. Assumes nothing.
use Rattle.step_lock.proofs.Acting.{closed_there, act_laws}
use Rattle.step_lock.proofs.acquire.Goals as goal

pub take_lock-requires : goal.take_lock-requires
take_lock-requires c = closed_there _ _ _ _ _ _ c.requires _ _ _ c.close.ensures

pub returns : goal.returns
returns c = search act_laws
