use Rattle.diff_writer.proofs.WriteLoops.{word_has_room, picked_counted, picked_end}
use Rattle.diff_writer.proofs.put_words.Goals as goal

pub put_word-requires : goal.put_word-requires
put_word-requires c = word_has_room _ _ _ _ _ _ _ c.loop-left.invariant c.loop-left-test.true

pub returns-clause-value : goal.returns-clause-value
returns-clause-value c = picked_counted _ _ _ _ _ _ _ c.loop-left.invariant c.loop-left-test.false

pub returns-clause-out_after : goal.returns-clause-out_after
returns-clause-out_after c = picked_end _ _ _ _ _ _ _ c.loop-left.invariant c.loop-left-test.false
