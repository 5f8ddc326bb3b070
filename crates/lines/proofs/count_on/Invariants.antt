use Rattle.lines.proofs.Counting.{Carrying}
use Rattle.lines.proofs.count_on.Given as goal

-- from i on the digits are zeros, and the carry goes on to those before
abbrev pub invariant-loop-i : goal.invariant-loop-i
invariant-loop-i l = Carrying l.fn.bytes l.bytes l.len l.number l.i
