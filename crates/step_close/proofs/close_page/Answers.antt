-- `close_page` meets its contract. Assumes nothing.
use Rattle.step_close.proofs.OnePage.{page_close_laws}
use Rattle.step_close.proofs.close_page.Goals as goal

pub make_change-requires : goal.make_change-requires
make_change-requires c = search page_close_laws

pub returns-then-is_dirty : goal.returns-then-is_dirty
returns-then-is_dirty c = search page_close_laws

pub returns-else-is_dirty : goal.returns-else-is_dirty
returns-else-is_dirty c = search page_close_laws
