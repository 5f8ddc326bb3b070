use Rattle.inorder.specs.inner.Tests.{entry_within}
use Rattle.inorder.proofs.ClockTests.{every_none, every_more}
use Rattle.inorder.proofs.row_within.Goals as goal

pub loop-i-init : goal.loop-i-init
loop-i-init c = every_none _

pub loop-i-preserved : goal.loop-i-preserved
unfolding entry_within
loop-i-preserved c = every_more (entry_within c.args.most c.args.clocks.now c.args.at) _ _ c.loop-i.invariant
