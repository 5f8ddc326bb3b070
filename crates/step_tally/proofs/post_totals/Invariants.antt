-- The totals of the tallies below t are posted. Assumes nothing.
use Rattle.step_tally.proofs.Posting.{PostedTo}
use Rattle.step_tally.proofs.post_totals.Given as goal

abbrev pub invariant-loop-t : goal.invariant-loop-t
invariant-loop-t l = PostedTo l.initial.words l.words l.n l.t
