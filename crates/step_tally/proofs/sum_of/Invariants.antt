-- The posted total and the adds of the first k processors. Assumes nothing.
use Rattle.step_tally.proofs.Posting.{SummedTo}
use Rattle.step_tally.proofs.sum_of.Given as goal

abbrev pub invariant-loop-k : goal.invariant-loop-k
invariant-loop-k l = SummedTo l.words l.n l.t l.k l.sum
