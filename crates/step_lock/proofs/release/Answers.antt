-- `release` meets its contract. Assumes nothing.
use Rattle.step_lock.proofs.Acting.{closed_there, closed_hands, act_laws}
use Rattle.step_lock.proofs.release.Goals as goal

pub free_lock-requires-clause-lock_there : goal.free_lock-requires-clause-lock_there
free_lock-requires-clause-lock_there c = closed_there _ _ _ _ _ _ c.requires _ _ _ c.close.ensures

pub free_lock-requires-clause-hands : goal.free_lock-requires-clause-hands
free_lock-requires-clause-hands c = closed_hands _ _ _ _ _ _ c.requires _ _ _ c.close.ensures

pub returns : goal.returns
returns c = search act_laws
