use Rattle.lines.proofs.Writing.{line_laws}
use Rattle.lines.proofs.put_field.Goals as goal

pub returns : goal.returns
returns c = search line_laws
