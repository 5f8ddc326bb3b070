-- The interval rows of the first k processors are zeros. Assumes nothing.
use Rattle.step_collect.proofs.Clearing.{ClocksClearing}
use Rattle.step_collect.proofs.clear_clocks.Given as goal

abbrev pub invariant-loop-k : goal.invariant-loop-k
invariant-loop-k l = ClocksClearing l.initial.clocks l.clocks l.n l.k
