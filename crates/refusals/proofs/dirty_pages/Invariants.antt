-- The loop of `dirty_pages`: one mark after the other. Assumes nothing.
use Rattle.refusals.proofs.Counting.{MarksCounted}
use Rattle.refusals.proofs.dirty_pages.Given as goal

abbrev pub invariant-loop-k : goal.invariant-loop-k
invariant-loop-k l = MarksCounted l.marks l.sum l.k
