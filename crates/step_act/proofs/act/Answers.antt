use Rattle.step_act.proofs.ActingOnShared.{acting_laws}
use Rattle.step_act.proofs.act.Goals as goal

pub read_word-requires : goal.read_word-requires
read_word-requires c = search acting_laws

pub write_word-requires : goal.write_word-requires
write_word-requires c = search acting_laws

pub acquire-requires : goal.acquire-requires
acquire-requires c = search acting_laws

pub release-requires : goal.release-requires
release-requires c = search acting_laws

pub arrive-moved-requires : goal.arrive-moved-requires
arrive-moved-requires c = search acting_laws

pub add_to-requires : goal.add_to-requires
add_to-requires c = search acting_laws

pub total_of-total-requires : goal.total_of-total-requires
total_of-total-requires c = search acting_laws

pub enqueue-requires : goal.enqueue-requires
enqueue-requires c = search acting_laws

pub dequeue-job-requires : goal.dequeue-job-requires
dequeue-job-requires c = search acting_laws

pub returns-in-Read : goal.returns-in-Read
returns-in-Read c = search acting_laws

pub returns-in-Write : goal.returns-in-Write
returns-in-Write c = search acting_laws

pub returns-in-Acquire : goal.returns-in-Acquire
returns-in-Acquire c = search acting_laws

pub returns-in-Release : goal.returns-in-Release
returns-in-Release c = search acting_laws

pub returns-in-Arrive : goal.returns-in-Arrive
returns-in-Arrive c = search acting_laws

pub returns-in-Want : goal.returns-in-Want
returns-in-Want c = search acting_laws

pub returns-in-TallyAdd : goal.returns-in-TallyAdd
returns-in-TallyAdd c = search acting_laws

pub returns-in-TallyRead : goal.returns-in-TallyRead
returns-in-TallyRead c = search acting_laws

pub returns-in-Enqueue : goal.returns-in-Enqueue
returns-in-Enqueue c = search acting_laws

pub returns-in-Dequeue : goal.returns-in-Dequeue
returns-in-Dequeue c = search acting_laws
