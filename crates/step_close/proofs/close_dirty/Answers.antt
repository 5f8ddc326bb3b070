-- `close_dirty` meets its contract. Assumes nothing.
use Rattle.step_close.proofs.Closing.{close_laws}
use Rattle.step_close.proofs.close_dirty.Goals as goal

pub tick-requires : goal.tick-requires
tick-requires c = search close_laws

pub close_pages-requires : goal.close_pages-requires
close_pages-requires c = search close_laws

pub returns : goal.returns
returns c = search close_laws
