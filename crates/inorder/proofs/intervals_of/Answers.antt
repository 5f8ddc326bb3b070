use Rattle.inorder.proofs.ClockTests.{interval_rows_there}
use Rattle.inorder.proofs.intervals_of.Goals as goal

pub rows_hold-requires : goal.rows_hold-requires
rows_hold-requires c = interval_rows_there _ _ _ _ c.requires c.from.ensures
