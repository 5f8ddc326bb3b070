use Rattle.forecast_file.proofs.Taking.{taking_laws}
use Rattle.forecast_file.proofs.take_whole.Goals as goal

pub returns : goal.returns
returns c = search taking_laws
