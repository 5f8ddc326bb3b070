-- The loop of `dirty_of`: one mark after the other. Assumes nothing.
use Rattle.forecast_step.proofs.Closing.{PageMarksCounted}
use Rattle.forecast_step.proofs.dirty_of.Given as goal

abbrev pub invariant-loop-mark : goal.invariant-loop-mark
invariant-loop-mark l = PageMarksCounted l.mark-items l.sum l.mark-index
