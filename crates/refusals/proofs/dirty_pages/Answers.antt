use Rattle.refusals.proofs.Counting.{counting_ends}
use Rattle.refusals.proofs.dirty_pages.Goals as goal

pub returns-clause-value : goal.returns-clause-value
returns-clause-value c = counting_ends _ _ _ _ c.loop-k.invariant c.loop-k-test.false c.from.ensures
