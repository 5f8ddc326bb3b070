use Rattle.std.proofs.Common.{arith}
use Rattle.diff_writer.proofs.WriteLoops.{few_pairs, room_for_count, room_for_words, diff_long, diff_written}
use Rattle.diff_writer.proofs.write_changed.Goals as goal

pub overflow_cast-out : goal.overflow_cast-out
overflow_cast-out c = omega (arith, few_pairs _ _ _ _ c.requires _ c.put_pairs-count.ensures.value)

pub bounds-out-0 : goal.bounds-out-0
bounds-out-0 c = room_for_count _ _ _ _ c.requires _ c.put_pairs-count.ensures.value _ c.put_pairs-count.ensures.out_after

pub overflow_mul-count : goal.overflow_mul-count
overflow_mul-count c = omega (arith, few_pairs _ _ _ _ c.requires _ c.put_pairs-count.ensures.value)

pub overflow_add-count : goal.overflow_add-count
overflow_add-count c = omega (arith, few_pairs _ _ _ _ c.requires _ c.put_pairs-count.ensures.value)

pub put_words-requires : goal.put_words-requires
put_words-requires c = room_for_words _ _ _ _ c.requires _ c.put_pairs-count.ensures.value _ c.put_pairs-count.ensures.out_after _

pub returns-clause-value : goal.returns-clause-value
returns-clause-value c = diff_long _ _ _ _ c.requires _ c.put_pairs-count.ensures.value _ c.put_pairs-count.ensures.out_after _ c.put_words.ensures.value

pub returns-clause-out_after : goal.returns-clause-out_after
returns-clause-out_after c = diff_written _ _ _ _ c.requires _ c.put_pairs-count.ensures.value _ c.put_pairs-count.ensures.out_after _ c.put_words.ensures.out_after
