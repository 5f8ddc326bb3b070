use Rattle.lines.proofs.CountedLines.{counted_laws}
use Rattle.lines.proofs.put_behind.Goals as goal

pub returns-else-value-eq0 : goal.returns-else-value-eq0
returns-else-value-eq0 c = search counted_laws
