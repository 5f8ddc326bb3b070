use Rattle.forecast_file.proofs.Taking.{taking_laws}
use Rattle.forecast_file.proofs.take.Goals as goal

pub take_whole-last-requires : goal.take_whole-last-requires
take_whole-last-requires c = search taking_laws

pub returns-clause-taken_as : goal.returns-clause-taken_as
returns-clause-taken_as c = search taking_laws
