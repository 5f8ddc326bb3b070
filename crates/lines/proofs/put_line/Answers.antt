use Rattle.lines.proofs.Writing.{line_laws}
use Rattle.lines.proofs.put_line.Goals as goal

pub returns-clause-value : goal.returns-clause-value
returns-clause-value c = search line_laws

pub returns-clause-out_after : goal.returns-clause-out_after
returns-clause-out_after c = search line_laws
