-- What `take` of forecast_file asks and what it promises keep what holds. Assumes nothing.
use Rattle.forecast.proofs.Turns.{turn_laws}
use Rattle.forecast.proofs.take_on.Goals as goal

pub take-taken-requires : goal.take-taken-requires
take-taken-requires c = search turn_laws

pub returns : goal.returns
returns c = search turn_laws
