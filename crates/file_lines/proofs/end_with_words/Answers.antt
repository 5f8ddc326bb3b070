use Rattle.file_lines.proofs.Placing.{placing_laws}
use Rattle.file_lines.proofs.end_with_words.Goals as goal

pub returns : goal.returns
returns c = search placing_laws
