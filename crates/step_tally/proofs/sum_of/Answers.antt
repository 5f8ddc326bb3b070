-- `sum_of` meets its contract. Assumes nothing.
use Rattle.step_tally.proofs.Posting.{posting_laws}
use Rattle.step_tally.proofs.sum_of.Goals as goal

pub loop-k-init : goal.loop-k-init
loop-k-init c = search posting_laws

pub loop-k-preserved : goal.loop-k-preserved
loop-k-preserved c = search posting_laws
