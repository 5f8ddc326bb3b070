-- The input has ended, or bytes were read; a run that is not to read is left as it is. Assumes nothing.
use Rattle.std.proofs.Common.{arith}
use Rattle.run_loop.proofs.Taking.{read_not, read_end, read_some}
use Rattle.run_loop.proofs.take.Goals as goal

pub returns-in-Read : goal.returns-in-Read
returns-in-Read c = read_end _ _ _ _ _ c.next_action.ensures c.in-Read.is _ _ (grind arith) c.end.ensures

pub returns-in-Read-2 : goal.returns-in-Read-2
returns-in-Read-2 c = read_some _ _ _ _ _ c.next_action.ensures c.in-Read-2.is _ _ _ (grind arith) c.feed.ensures

pub returns-in-Write : goal.returns-in-Write
returns-in-Write c = read_not _ _ _ _ _ c.next_action.ensures c.in-Write.is
