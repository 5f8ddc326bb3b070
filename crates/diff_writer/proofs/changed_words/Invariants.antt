use Rattle.diff_writer.proofs.WriteLoops.{Masking}
use Rattle.diff_writer.proofs.changed_words.Given as goal

abbrev pub invariant-loop-i : goal.invariant-loop-i
invariant-loop-i l = Masking l.old l.new l.mask l.i
