use Rattle.file_chunk.proofs.Runs.{run_laws}
use Rattle.file_chunk.proofs.take_run.Goals as goal

pub returns-else-stand-2 : goal.returns-else-stand-2
returns-else-stand-2 c = search run_laws
