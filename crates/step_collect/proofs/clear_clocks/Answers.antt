-- `clear_clocks` meets its contract. Assumes nothing.
use Rattle.step_collect.proofs.Clearing.{clear_laws, clearing_all}
use Rattle.step_collect.proofs.clear_clocks.Goals as goal

pub clear_made-requires : goal.clear_made-requires
clear_made-requires c = search clear_laws

pub loop-k-preserved : goal.loop-k-preserved
loop-k-preserved c = search clear_laws

pub slice_bounds-fill-end-2 : goal.slice_bounds-fill-end-2
slice_bounds-fill-end-2 c = search clear_laws

pub returns : goal.returns
returns c = clearing_all _ _ _ _ c.loop-k.invariant c.loop-k-test.false _ c.clear_jobs.ensures _ (c.fill.ensures.after (λ y e. e))
