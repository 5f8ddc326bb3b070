use Rattle.forecast_file.proofs.Ending.{finish_laws}
use Rattle.forecast_file.proofs.finish.Goals as goal

pub returns-then-ended : goal.returns-then-ended
returns-then-ended c = search finish_laws
