use Rattle.forecast_step.proofs.Meeting.{round_laws}
use Rattle.forecast_step.proofs.complete_round.Goals as goal

pub returns-then-is_wanted : goal.returns-then-is_wanted
returns-then-is_wanted c = search round_laws

pub returns-else-is_wanted : goal.returns-else-is_wanted
returns-else-is_wanted c = search round_laws
