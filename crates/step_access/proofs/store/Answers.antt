-- `store` meets its contract. Assumes nothing.
use Rattle.step_access.proofs.Storing.{store_laws}
use Rattle.step_access.proofs.store.Goals as goal

pub returns : goal.returns
returns c = search store_laws
