-- `leave_line` meets its contract. Assumes nothing.
use Rattle.lock_line.proofs.Handing.{line_laws}
use Rattle.lock_line.proofs.leave_line.Goals as goal

pub returns : goal.returns
returns c = search line_laws
