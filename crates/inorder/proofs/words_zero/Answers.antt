use Rattle.inorder.proofs.ClockTests.{every_none}
use Rattle.inorder.proofs.WordTests.{word_more}
use Rattle.inorder.proofs.words_zero.Goals as goal

pub loop-word-init : goal.loop-word-init
loop-word-init c = every_none _

pub loop-word-preserved : goal.loop-word-preserved
loop-word-preserved c = word_more _ _ _ _ _ c.loop-word-test.true c.loop-word.invariant
