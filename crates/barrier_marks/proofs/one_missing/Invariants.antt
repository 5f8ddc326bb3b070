-- The first k marks are counted. Assumes nothing.
use Rattle.barrier_marks.proofs.Counting.{ArrivedCounted}
use Rattle.barrier_marks.proofs.one_missing.Given as goal

abbrev pub invariant-loop-k : goal.invariant-loop-k
invariant-loop-k l = ArrivedCounted l.marks l.sum l.k
