-- The loop of `put_pairs`: the pairs of the runs that are left belong behind those that are put. Assumes nothing.
use Rattle.std.proofs.Common.{◌-◌}
use Rattle.limits.specs.Limits.{page_width}
use Rattle.diff_writer.proofs.WriteLoops.{PuttingPairs}
use Rattle.diff_writer.proofs.put_pairs.Given as goal

abbrev pub invariant-loop-left : goal.invariant-loop-left
invariant-loop-left l = PuttingPairs l.old l.new l.fn.out l.out l.left l.i l.at

abbrev pub decreases-loop-left : goal.decreases-loop-left
decreases-loop-left l = page_width - l.i
