use Rattle.diff_writer.proofs.WriteLoops.{mask_has_room, masking_more, masking_ends}
use Rattle.diff_writer.proofs.changed_words.Goals as goal

pub overflow_add-mask : goal.overflow_add-mask
overflow_add-mask c = mask_has_room _ _ _ _ c.loop-i.invariant _ c.loop-i-test.true c.from.ensures

pub loop-i-preserved : goal.loop-i-preserved
loop-i-preserved c = masking_more _ _ _ _ c.loop-i.invariant _ c.loop-i-test.true c.from.ensures

pub returns : goal.returns
returns c = masking_ends _ _ _ _ c.loop-i.invariant c.loop-i-test.false
