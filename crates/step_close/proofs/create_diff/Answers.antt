-- `create_diff` meets its contract. Assumes nothing.
use Rattle.step_close.proofs.PageRecords.{diff_laws}
use Rattle.step_close.proofs.create_diff.Goals as goal

pub lay_counted-requires : goal.lay_counted-requires
lay_counted-requires c = search diff_laws

pub returns : goal.returns
returns c = search diff_laws
