-- The first k processors have fetched every page. Assumes nothing.
use Rattle.step_collect.proofs.Collecting.{AllFetching}
use Rattle.step_collect.proofs.fetch_all.Given as goal

abbrev pub invariant-loop-k : goal.invariant-loop-k
invariant-loop-k l = AllFetching l.initial.clocks l.initial.words l.records l.marks l.k-end l.clocks l.words l.index l.moved.count l.moved.words l.k
