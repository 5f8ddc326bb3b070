-- `fetch_pages` meets its contract. Assumes nothing.
use Rattle.step_collect.proofs.Collecting.{fetches_laws}
use Rattle.step_collect.proofs.fetch_pages.Goals as goal

pub loop-g-init : goal.loop-g-init
loop-g-init c = search fetches_laws

pub overflow_add-moved : goal.overflow_add-moved
overflow_add-moved c = search fetches_laws

pub overflow_add-moved-in-loop-g : goal.overflow_add-moved-in-loop-g
overflow_add-moved-in-loop-g c = search fetches_laws

pub loop-g-preserved : goal.loop-g-preserved
loop-g-preserved c = search fetches_laws
