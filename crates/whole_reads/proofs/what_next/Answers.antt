-- The program stops where no more lines will be made. Assumes nothing.
use Rattle.std.proofs.Common.{sym, ◌∙◌, le-ltb}
use Rattle.whole_reads.specs.Promises.{comes_next}
use Rattle.whole_reads.proofs.Coming.{next_is}
use Rattle.whole_reads.proofs.what_next.Goals as goal

pub returns-then-flow-2 : goal.returns-then-flow-2
unfolding comes_next
returns-then-flow-2 c = next_is _ _ _ (sym (rw (sym c.is_some.ensures ∙ c.if-is_some.false, le-ltb _ _ c.if-flow.false, c.if-flow-2.true)))
