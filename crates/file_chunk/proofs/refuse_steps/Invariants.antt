-- the steps before the counter are refused, and the next has this number
use Rattle.file_chunk.proofs.Runs.{Refusing}
use Rattle.file_chunk.proofs.refuse_steps.Given as goal

abbrev pub invariant-loop : goal.invariant-loop
invariant-loop l = Refusing l.stand.number l.stand.at l.stand.words l.from l.end l.fn.lines l.number l.at l.counter l.lines
