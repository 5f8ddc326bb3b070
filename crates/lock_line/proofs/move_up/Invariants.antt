-- The turns of the first k processors have moved up. Assumes nothing.
use Rattle.lock_line.proofs.Moving.{Moving}
use Rattle.lock_line.proofs.move_up.Given as goal

abbrev pub invariant-loop-k : goal.invariant-loop-k
invariant-loop-k l = Moving l.initial.marks l.marks l.lock l.k
