-- `close` meets its contract: nothing is dirty, or it goes page by page. Assumes nothing.
use Rattle.step_close.proofs.NothingDirty.{dirty_laws}
use Rattle.step_close.proofs.close.Goals as goal

pub any_dirty-requires : goal.any_dirty-requires
any_dirty-requires c = search dirty_laws

pub close_dirty-requires : goal.close_dirty-requires
close_dirty-requires c = search dirty_laws

pub returns-else-any_dirty : goal.returns-else-any_dirty
returns-else-any_dirty c = search dirty_laws
