-- `close_pages` meets its contract. Assumes nothing.
use Rattle.step_close.proofs.AllPages.{closing_page, closed_page}
use Rattle.step_close.proofs.close_pages.Goals as goal

pub close_page-requires : goal.close_page-requires
close_page-requires c = closing_page _ _ _ _ _ _ _ _ _ c.loop-g.invariant c.loop-g-test.true

pub loop-g-preserved : goal.loop-g-preserved
loop-g-preserved c = closed_page _ _ _ _ _ _ _ _ _ c.loop-g.invariant c.loop-g-test.true _ _ c.close_page.ensures
