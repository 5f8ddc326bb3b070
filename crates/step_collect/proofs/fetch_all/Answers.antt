-- `fetch_all` meets its contract. Assumes nothing.
use Rattle.step_collect.proofs.Collecting.{fetches_laws}
use Rattle.step_collect.proofs.fetch_all.Goals as goal

pub loop-k-init : goal.loop-k-init
loop-k-init c = search fetches_laws

pub loop-k-preserved : goal.loop-k-preserved
loop-k-preserved c = search fetches_laws
