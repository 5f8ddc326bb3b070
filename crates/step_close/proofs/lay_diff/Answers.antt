-- `lay_diff` meets its contract. Assumes nothing.
use Rattle.step_close.proofs.SlotBytes.{diff_room, diff_length}
use Rattle.step_close.proofs.lay_diff.Goals as goal

pub write_changed-n-requires : goal.write_changed-n-requires
write_changed-n-requires c = diff_room _ _ _ c.requires _ c.changed_words-mask.ensures

pub overflow_cast-result : goal.overflow_cast-result
overflow_cast-result c = diff_length _ _ _ c.requires _ c.write_changed-n.ensures.value
