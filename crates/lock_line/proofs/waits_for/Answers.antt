-- `waits_for` meets its contract. Assumes nothing.
use Rattle.lock_line.proofs.Handing.{line_laws}
use Rattle.lock_line.proofs.waits_for.Goals as goal

pub returns : goal.returns
returns c = search line_laws
