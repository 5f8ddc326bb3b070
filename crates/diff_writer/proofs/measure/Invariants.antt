-- What is counted of the words that are passed.
use Rattle.diff_writer.proofs.Measuring.{Measuring}
use Rattle.diff_writer.proofs.measure.Given as goal

abbrev pub invariant-loop-i : goal.invariant-loop-i
invariant-loop-i l = Measuring l.old l.new l.runs l.words l.before l.i
