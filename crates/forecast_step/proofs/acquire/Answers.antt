use Rattle.forecast_step.proofs.Locking.{lock_laws}
use Rattle.forecast_step.proofs.acquire.Goals as goal

pub ask-requires : goal.ask-requires
ask-requires c = search lock_laws

pub returns : goal.returns
returns c = search lock_laws
