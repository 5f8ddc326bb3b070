use Rattle.forecast_step.proofs.Locking.{lock_laws}
use Rattle.forecast_step.proofs.release.Goals as goal

pub hand_on-requires : goal.hand_on-requires
hand_on-requires c = search lock_laws

pub returns : goal.returns
returns c = search lock_laws
