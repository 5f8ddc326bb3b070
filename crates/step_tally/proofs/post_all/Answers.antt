-- `post_all` meets its contract. Assumes nothing.
use Rattle.step_tally.proofs.Posting.{posting_laws}
use Rattle.step_tally.proofs.post_all.Goals as goal

pub returns : goal.returns
returns c = search posting_laws
