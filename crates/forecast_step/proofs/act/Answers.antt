use Rattle.forecast_step.proofs.Acting.{act_laws}
use Rattle.forecast_step.proofs.act.Goals as goal

pub write-requires : goal.write-requires
write-requires c = search act_laws

pub acquire-requires : goal.acquire-requires
acquire-requires c = search act_laws

pub release-requires : goal.release-requires
release-requires c = search act_laws

pub arrive-requires : goal.arrive-requires
arrive-requires c = search act_laws

pub enqueue-requires : goal.enqueue-requires
enqueue-requires c = search act_laws

pub dequeue-requires : goal.dequeue-requires
dequeue-requires c = search act_laws
