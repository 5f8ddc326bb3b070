-- The write took bytes, or failed. Assumes nothing.
use Rattle.run_loop.proofs.Answered.{put_failed, put_some}
use Rattle.run_loop.proofs.after_write.Goals as goal

pub returns-in-Ok : goal.returns-in-Ok
returns-in-Ok c = put_some _ _ _ _ _ _ _ c.in-Ok.is c.unwritten.ensures c.min.ensures c.write.ensures

pub returns-in-Err : goal.returns-in-Err
returns-in-Err c = put_failed _ _ _ _ _ c.in-Err.is c.fail.ensures
