-- A call that is not made again has failed. Assumes nothing.
use Rattle.std.proofs.Common.{sym}
use Rattle.whole_reads.specs.Promises.{failed_flow}
use Rattle.whole_reads.proofs.Writing.{failed_as}
use Rattle.whole_reads.proofs.fail.Goals as goal

pub returns-else-again : goal.returns-else-again
unfolding failed_flow
returns-else-again c = failed_as _ _ _ _ (sym (rw c.if-again.false))
