use Rattle.diff_reader.proofs.Pairs.{finding_begins, finding_more}
use Rattle.diff_reader.proofs.find_pair.Goals as goal

pub loop-k-init : goal.loop-k-init
loop-k-init c = finding_begins _ _ _ c.requires c.from-n.ensures

pub loop-k-preserved : goal.loop-k-preserved
loop-k-preserved c = finding_more _ _ _ _ _ _ _ c.loop-k.invariant c.loop-k-test.true c.from-offset.ensures c.from-len.ensures c.if-at-first.false
