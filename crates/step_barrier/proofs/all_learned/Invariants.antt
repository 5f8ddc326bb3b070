-- The first k processors have learned. Assumes nothing.
use Rattle.step_barrier.proofs.Learning.{AllLearning}
use Rattle.step_barrier.proofs.all_learned.Given as goal

abbrev pub invariant-loop-k : goal.invariant-loop-k
invariant-loop-k l = AllLearning l.initial.clocks l.clocks l.n l.k
