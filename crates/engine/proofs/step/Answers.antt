use Rattle.engine.proofs.Answering.{answering_laws}
use Rattle.engine.proofs.step.Goals as goal

pub returns-then-not-in_order-clause-answer : goal.returns-then-not-in_order-clause-answer
returns-then-not-in_order-clause-answer c = search answering_laws

pub step_once-requires : goal.step_once-requires
step_once-requires c = search answering_laws

pub returns-clause-answer : goal.returns-clause-answer
returns-clause-answer c = search answering_laws

pub returns-clause-memory : goal.returns-clause-memory
returns-clause-memory c = search answering_laws

pub returns-then-not-in_order-clause-memory : goal.returns-then-not-in_order-clause-memory
returns-then-not-in_order-clause-memory c = search answering_laws
