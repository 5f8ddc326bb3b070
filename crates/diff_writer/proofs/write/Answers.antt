use Rattle.std.proofs.Common.{arith}
use Rattle.diff_writer.proofs.WriteLoops.{room_for_diff, length_answered}
use Rattle.diff_writer.proofs.write.Goals as goal

pub write_changed-requires : goal.write_changed-requires
write_changed-requires c =
    room_for_diff _ _ _ c.if-old-ne-PAGE_WIDTH.false c.if-new-ne-PAGE_WIDTH.false _ _ c.measure-size.ensures.runs_value c.measure-size.ensures.words_value (omega (arith, c.if-out-length.false))
    _ c.changed_words-mask.ensures

pub returns-clause-answer : goal.returns-clause-answer
returns-clause-answer c =
    length_answered _ _ _ c.if-old-ne-PAGE_WIDTH.false c.if-new-ne-PAGE_WIDTH.false _ _ c.measure-size.ensures.runs_value c.measure-size.ensures.words_value (omega (arith, c.if-out-length.false))
    _ c.write_changed.ensures.value
