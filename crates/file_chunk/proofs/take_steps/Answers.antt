use Rattle.std.proofs.Common.{arith, rules}
use Rattle.file_chunk.proofs.Runs.{run_laws, running_ends, running_more}
use Rattle.file_chunk.proofs.take_steps.Goals as goal

pub new_index-index-requires : goal.new_index-index-requires
new_index-index-requires c = search run_laws

pub loop-i-init : goal.loop-i-init
loop-i-init c = search run_laws

pub step_record-outcome-requires : goal.step_record-outcome-requires
step_record-outcome-requires c = search run_laws

pub loop-i-preserved : goal.loop-i-preserved
loop-i-preserved c = record {
  running = running_more c.loop-i.invariant.running c.loop-i-test.true c.step_record-outcome.ensures c.reply_of-answered.ensures c.add_words-moved.ensures c.put_next-at.ensures (search rules) (search rules) (search rules) (search rules);
  counted = c.count_on-len.ensures.counted;
}

pub returns : goal.returns
returns c = search run_laws

-- behind the last of them
pub returns-2 : goal.returns-2
returns-2 c =
    running_ends _ _ _ _ _ _ _ _ _ c.requires
    (running_more c.loop-i.invariant.running c.loop-i-test.true c.step_record-outcome.ensures c.reply_of-answered.ensures c.add_words-moved.ensures c.put_next-at.ensures (search rules) (search rules) (search rules) (search rules))
    (omega arith)
