use Rattle.lines.proofs.CountedLines.{counted_laws}
use Rattle.lines.proofs.put_counted.Goals as goal

pub returns-clause-value : goal.returns-clause-value
returns-clause-value c = search counted_laws

pub returns-clause-out_after : goal.returns-clause-out_after
returns-clause-out_after c = search counted_laws
