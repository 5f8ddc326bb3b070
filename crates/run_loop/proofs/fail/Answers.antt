-- A call that is not made again has failed. Assumes nothing.
use Rattle.std.proofs.Common.{sym}
use Rattle.run_loop.specs.Promises.{failed_run}
use Rattle.run_loop.proofs.Writing.{failed_as}
use Rattle.run_loop.proofs.fail.Goals as goal

pub returns-else-again : goal.returns-else-again
unfolding failed_run
returns-else-again c = failed_as _ _ _ _ (sym (rw c.if-again.false))
