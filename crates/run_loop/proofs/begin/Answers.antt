-- Nothing has been read or written. Assumes nothing.
use Rattle.run_loop.proofs.Coming.{begins}
use Rattle.run_loop.proofs.begin.Goals as goal

pub returns : goal.returns
returns c = begins _ c.start.ensures
