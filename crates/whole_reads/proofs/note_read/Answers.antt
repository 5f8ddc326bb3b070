-- The read put bytes into the buffer, or failed. Assumes nothing.
use Rattle.whole_reads.proofs.Answered.{got_failed, got_some}
use Rattle.whole_reads.proofs.note_read.Goals as goal

pub returns-in-Ok : goal.returns-in-Ok
returns-in-Ok c = got_some _ _ _ _ _ _ _ c.in-Ok.is c.unfilled.ensures c.min.ensures c.fill.ensures

pub returns-in-Err : goal.returns-in-Err
returns-in-Err c = got_failed _ _ _ _ _ c.in-Err.is c.fail.ensures
