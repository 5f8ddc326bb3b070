-- None of the first k processors stands first. Assumes nothing.
use Rattle.lock_line.proofs.Standing.{NoneFirst}
use Rattle.lock_line.proofs.first_in_line.Given as goal

abbrev pub invariant-loop-k : goal.invariant-loop-k
invariant-loop-k l = NoneFirst l.marks l.lock l.k-end l.k
