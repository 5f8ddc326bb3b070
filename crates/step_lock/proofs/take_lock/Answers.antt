-- `take_lock` meets its contract. Assumes nothing.
use Rattle.step_lock.proofs.Locking.{lock_laws}
use Rattle.step_lock.proofs.take_lock.Goals as goal

pub returns-else-ask : goal.returns-else-ask
returns-else-ask c = search lock_laws
