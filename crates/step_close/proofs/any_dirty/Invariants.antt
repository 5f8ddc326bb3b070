-- Whether one of the marks looked at is set. Assumes nothing.
use Rattle.std.proofs.Common.{◌≡◌}
use Rattle.step_close.proofs.NothingDirty.{some_set}
use Rattle.step_close.proofs.any_dirty.Given as goal

abbrev pub invariant-loop-mark : goal.invariant-loop-mark
invariant-loop-mark l = l.found ≡ some_set l.mark-items l.mark-index
