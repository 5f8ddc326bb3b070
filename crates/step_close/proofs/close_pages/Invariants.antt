-- The pages below g are closed. Assumes nothing.
use Rattle.step_close.proofs.AllPages.{ClosingPages}
use Rattle.step_close.proofs.close_pages.Given as goal

abbrev pub invariant-loop-g : goal.invariant-loop-g
invariant-loop-g l = ClosingPages l.clocks l.words l.initial.records l.initial.marks l.records l.marks l.p.0 l.g-end l.g
