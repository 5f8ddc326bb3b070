use Rattle.diff.proofs.Checking.{Checking}
use Rattle.diff.proofs.check_pairs.Given as goal

abbrev pub invariant-loop-k : goal.invariant-loop-k
invariant-loop-k l = Checking l.bytes l.n l.k l.from l.end
