use Rattle.std.proofs.Common.{◌∙◌}
use Rattle.run_list.proofs.Running.{opening_laid}
use Rattle.run_list.proofs.run_opening.Goals as goal

pub returns : goal.returns
returns c =
    opening_laid _ _ _ _ _ _ _ _ _ _ _ _ _ c.open_mainframe-opened.ensures.answer c.open_mainframe-opened.ensures.memory (c.from.ensures ∙ c.refusal_or_0.ensures) c.lay_answer.ensures
