-- `make_change` meets its contract. Assumes nothing.
use Rattle.step_close.proofs.PageRecords.{change_laws}
use Rattle.step_close.proofs.make_change.Goals as goal

pub returns : goal.returns
returns c = search change_laws
