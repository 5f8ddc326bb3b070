use Rattle.file_lines.proofs.Placing.{placing_laws}
use Rattle.file_lines.proofs.put_counted_line.Goals as goal

pub returns : goal.returns
returns c = search placing_laws
