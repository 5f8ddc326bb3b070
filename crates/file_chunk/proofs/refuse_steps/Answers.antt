use Rattle.std.proofs.Common.{◌∙◌, arith}
use Rattle.file_chunk.proofs.Runs.{refusing_ends, refusing_more, run_laws}
use Rattle.file_chunk.proofs.refuse_steps.Goals as goal

pub loop-preserved : goal.loop-preserved
loop-preserved c = refusing_more c.loop.invariant c.loop-test.true (c.from-refusal.ensures ∙ c.number.ensures) c.put_record_line-at.ensures

pub returns : goal.returns
returns c = search run_laws

-- behind the last of them
pub returns-2 : goal.returns-2
returns-2 c =
    refusing_ends _ _ _ _
    (refusing_more c.loop.invariant c.loop-test.true (c.from-refusal.ensures ∙ c.number.ensures) c.put_record_line-at.ensures)
    (omega arith)
