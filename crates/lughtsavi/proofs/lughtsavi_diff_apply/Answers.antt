use Rattle.lughtsavi.proofs.Telling.{refusal_returned}
use Rattle.lughtsavi.proofs.lughtsavi_diff_apply.Goals as goal

pub returns-in-Err-clause-answer : goal.returns-in-Err-clause-answer
returns-in-Err-clause-answer c = refusal_returned _ _ _ c.apply.result _ c.apply.ensures.answer c.in-Err.is c.refusal_from_256.ensures
