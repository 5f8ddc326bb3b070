-- What holds is kept by each turn. Assumes nothing.
use Rattle.whole_reads.specs.inner.Going.{FlowGoing}
use Rattle.forecast.specs.inner.Going.{Held}
use Rattle.forecast.proofs.run_all.Given as goal

abbrev pub invariant-loop-turns : goal.invariant-loop-turns
invariant-loop-turns g l = FlowGoing (Held l.reach l.own l.marks) l.flow l.buffer l.lines
