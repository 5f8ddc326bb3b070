-- What holds is kept by each turn. Assumes nothing.
use Rattle.run.specs.inner.Going.{Underway}
use Rattle.run.proofs.run_all.Given as goal

abbrev pub invariant-loop : goal.invariant-loop
invariant-loop g l = Underway l.run l.chunk l.lines l.clocks l.words l.records l.marks
