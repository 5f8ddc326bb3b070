-- `tell_lock` meets its contract. Assumes nothing.
use Rattle.step_lock.proofs.Locking.{lock_laws}
use Rattle.step_lock.proofs.tell_lock.Goals as goal

pub returns : goal.returns
returns c = search lock_laws
