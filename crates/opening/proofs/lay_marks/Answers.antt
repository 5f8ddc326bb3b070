use Rattle.opening.proofs.Opening.{marks_laid}
use Rattle.opening.proofs.lay_marks.Goals as goal

pub returns : goal.returns
returns c = marks_laid _ _ _ c.requires (c.fill.ensures.after (λ y e. e))
