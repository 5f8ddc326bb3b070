use Rattle.diff.proofs.Masking.{MaskingRuns}
use Rattle.diff.proofs.mask.Given as goal

abbrev pub invariant-loop-k : goal.invariant-loop-k
invariant-loop-k l = MaskingRuns l.bytes l.n l.k l.mask
