use Rattle.forecast_step.proofs.Meeting.{meet_laws}
use Rattle.forecast_step.proofs.arrive.Goals as goal

pub one_missing-last-requires : goal.one_missing-last-requires
one_missing-last-requires c = search meet_laws

pub mark_arrived-requires : goal.mark_arrived-requires
mark_arrived-requires c = search meet_laws

pub returns-then-last : goal.returns-then-last
returns-then-last c = search meet_laws
