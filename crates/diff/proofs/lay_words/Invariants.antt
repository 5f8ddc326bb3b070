use Rattle.diff.proofs.Applying.{LayingRun}
use Rattle.diff.proofs.lay_words.Given as goal

abbrev pub invariant-loop-k : goal.invariant-loop-k
invariant-loop-k l = LayingRun l.bytes l.initial.page l.page l.words l.len l.offset l.k
