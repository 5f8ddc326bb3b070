use Rattle.lines.proofs.CountedLines.{counted_laws}
use Rattle.lines.proofs.put_short.Goals as goal

pub returns : goal.returns
returns c = search counted_laws
