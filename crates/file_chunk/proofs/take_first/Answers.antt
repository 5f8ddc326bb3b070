use Rattle.file_chunk.proofs.Passing.{passing_laws}
use Rattle.file_chunk.proofs.take_first.Goals as goal

pub returns : goal.returns
returns c = search passing_laws
