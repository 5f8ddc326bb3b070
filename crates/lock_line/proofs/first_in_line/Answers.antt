-- `first_in_line` meets its contract. Assumes nothing.
use Rattle.lock_line.proofs.Handing.{line_laws}
use Rattle.lock_line.proofs.first_in_line.Goals as goal

pub returns-then-stands_first-clause-result_value : goal.returns-then-stands_first-clause-result_value
returns-then-stands_first-clause-result_value c = search line_laws
