-- `post_totals` meets its contract. Assumes nothing.
use Rattle.step_tally.proofs.Posting.{posting_ends}
use Rattle.step_tally.proofs.post_totals.Goals as goal

pub returns : goal.returns
returns c = posting_ends _ _ _ _ c.loop-t.invariant c.loop-t-test.false
