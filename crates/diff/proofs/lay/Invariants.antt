use Rattle.diff.proofs.Applying.{LayingRuns}
use Rattle.diff.proofs.lay.Given as goal

abbrev pub invariant-loop-k : goal.invariant-loop-k
invariant-loop-k l = LayingRuns l.bytes l.initial.page l.page l.n l.k l.words
