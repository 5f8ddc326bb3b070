use Rattle.file_record.proofs.Taking.{done_line, refused_line}
use Rattle.file_record.proofs.put_next.Goals as goal

pub returns-in-Ok : goal.returns-in-Ok
returns-in-Ok c = done_line _ _ _ _ _ _ _ c.in-Ok.is c.put_counted_line.ensures

pub returns-in-Err : goal.returns-in-Err
returns-in-Err c = refused_line _ _ _ _ _ _ _ _ c.in-Err.is c.from-refusal.ensures c.put_counted_line-in-Err.ensures
