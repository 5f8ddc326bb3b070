use Rattle.std.proofs.Common.{arith}
use Rattle.diff.proofs.Masking.{run_on_page, masking_fits, block_below, masking_ends}
use Rattle.diff.proofs.mask.Goals as goal

pub overflow_shl-mask : goal.overflow_shl-mask
overflow_shl-mask c = omega (arith, run_on_page _ _ _ _ _ _ c.loop-k.invariant c.loop-k-test.true c.from-offset.ensures c.from-len.ensures)

pub overflow_shl-mask-in-loop-k : goal.overflow_shl-mask-in-loop-k
overflow_shl-mask-in-loop-k c = omega (arith, run_on_page _ _ _ _ _ _ c.loop-k.invariant c.loop-k-test.true c.from-offset.ensures c.from-len.ensures)

pub overflow_sub-mask : goal.overflow_sub-mask
overflow_sub-mask c = block_below _ _ _ _ _ _ c.loop-k.invariant c.loop-k-test.true c.from-offset.ensures c.from-len.ensures

pub overflow_add-mask-in-loop-k : goal.overflow_add-mask-in-loop-k
overflow_add-mask-in-loop-k c = masking_fits _ _ _ _ _ _ c.loop-k.invariant c.loop-k-test.true c.from-offset.ensures c.from-len.ensures

pub returns : goal.returns
returns c = masking_ends _ _ _ _ c.loop-k.invariant c.loop-k-test.false
