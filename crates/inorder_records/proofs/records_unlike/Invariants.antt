-- the first i records differ, and they are marked
use Rattle.inorder_records.proofs.Notices.{Seen}
use Rattle.inorder_records.proofs.records_unlike.Given as goal

abbrev pub invariant-loop-i : goal.invariant-loop-i
invariant-loop-i l = Seen l.records l.standing l.seen l.i
