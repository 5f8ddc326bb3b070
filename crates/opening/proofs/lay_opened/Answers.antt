use Rattle.opening.proofs.Opening.{state_laid}
use Rattle.opening.proofs.lay_opened.Goals as goal

pub returns : goal.returns
returns c =
    state_laid _ _ _ _ _ c.requires _ _ _ _ (c.fill.ensures.after (λ y e. e)) c.lay_words.ensures (c.fill-2.ensures.after (λ y e. e)) c.lay_marks.ensures
