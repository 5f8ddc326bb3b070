use Rattle.diff.proofs.Checking.{checking_more}
use Rattle.diff.proofs.check_pairs.Goals as goal

pub loop-k-preserved : goal.loop-k-preserved
loop-k-preserved c = checking_more _ _ _ _ _ _ _ c.loop-k-test.true c.from-offset.ensures c.from-len.ensures c.loop-k.invariant c.if-not-pair_holds.ensures
