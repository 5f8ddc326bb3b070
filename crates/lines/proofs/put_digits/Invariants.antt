use Rattle.lines.proofs.Writing.{Storing}
use Rattle.lines.proofs.put_digits.Given as goal

-- the digits of the rest are still to be stored
abbrev pub invariant-loop-rest : goal.invariant-loop-rest
invariant-loop-rest l = Storing l.fn.out l.out l.at l.n l.i l.rest

abbrev pub decreases-loop-rest : goal.decreases-loop-rest
decreases-loop-rest l = l.rest
