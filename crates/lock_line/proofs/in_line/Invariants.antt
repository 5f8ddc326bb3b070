-- How many of the first k processors wait for the lock. Assumes nothing.
use Rattle.lock_line.proofs.Standing.{LineCounted}
use Rattle.lock_line.proofs.in_line.Given as goal

abbrev pub invariant-loop-k : goal.invariant-loop-k
invariant-loop-k l = LineCounted l.marks l.lock l.k-end l.count l.k
