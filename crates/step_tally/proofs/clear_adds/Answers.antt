-- `clear_adds` meets its contract. Assumes nothing.
use Rattle.step_tally.proofs.Posting.{adds_cleared}
use Rattle.step_tally.proofs.clear_adds.Goals as goal

pub returns : goal.returns
returns c = adds_cleared _ _ c.requires (c.fill.ensures.after (λ y e. e))
