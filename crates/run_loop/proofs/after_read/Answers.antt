-- The read put bytes into the chunk, or failed. Assumes nothing.
use Rattle.run_loop.proofs.Answered.{got_failed, got_some}
use Rattle.run_loop.proofs.after_read.Goals as goal

pub returns-in-Ok : goal.returns-in-Ok
returns-in-Ok c = got_some _ _ _ _ _ _ _ _ _ _ c.in-Ok.is c.min.ensures c.take.ensures

pub returns-in-Err : goal.returns-in-Err
returns-in-Err c = got_failed _ _ _ _ _ _ _ c.in-Err.is c.fail.ensures
