use Rattle.std.proofs.Common.{arith}
use Rattle.forecast_step.proofs.Closing.{count_laws, pages_counting_ends}
use Rattle.forecast_step.proofs.dirty_of.Goals as goal

pub slice_bounds-mark-items-end : goal.slice_bounds-mark-items-end
slice_bounds-mark-items-end c = search count_laws

pub loop-mark-init : goal.loop-mark-init
loop-mark-init c = search count_laws

pub loop-mark-preserved : goal.loop-mark-preserved
loop-mark-preserved c = search count_laws

pub returns-clause-value : goal.returns-clause-value
returns-clause-value c =
    pages_counting_ends _ _ _ _ _ _ c.requires c.dirty_place-from.ensures.value c.loop-mark.invariant (omega (arith, c.loop-mark.invariant.long)) c.from.ensures
