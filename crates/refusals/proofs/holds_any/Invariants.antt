-- The loop of `holds_any`: one lock's mark after the other. Assumes nothing.
use Rattle.refusals.proofs.ByKind.{HeldAmong}
use Rattle.refusals.proofs.holds_any.Given as goal

abbrev pub invariant-loop-l : goal.invariant-loop-l
invariant-loop-l l = HeldAmong l.marks l.own l.held l.l
