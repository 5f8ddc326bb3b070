use Rattle.diff_writer.proofs.WriteLoops.{PuttingWords}
use Rattle.diff_writer.proofs.put_words.Given as goal

abbrev pub invariant-loop-left : goal.invariant-loop-left
invariant-loop-left l = PuttingWords l.old l.new l.initial.out l.out l.left l.from l.to

abbrev pub decreases-loop-left : goal.decreases-loop-left
decreases-loop-left l = l.left
