-- `one_missing` meets its contract. Assumes nothing.
use Rattle.barrier_marks.proofs.Counting.{count_laws}
use Rattle.barrier_marks.proofs.one_missing.Goals as goal

pub loop-k-preserved : goal.loop-k-preserved
loop-k-preserved c = search count_laws
