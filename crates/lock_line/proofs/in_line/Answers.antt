-- `in_line` meets its contract. Assumes nothing.
use Rattle.lock_line.proofs.Handing.{line_laws}
use Rattle.lock_line.proofs.in_line.Goals as goal

pub loop-k-init : goal.loop-k-init
loop-k-init c = search line_laws

pub loop-k-preserved : goal.loop-k-preserved
loop-k-preserved c = search line_laws

pub returns-clause-value : goal.returns-clause-value
returns-clause-value c = search line_laws
