use Rattle.lughtsavi.proofs.Writing.{refusal_returned}
use Rattle.lughtsavi.proofs.lughtsavi_diff_write.Goals as goal

pub returns-in-Err-clause-answer : goal.returns-in-Err-clause-answer
returns-in-Err-clause-answer c = refusal_returned _ _ _ _ c.in-Err.refusal c.in-Err.ensures.answer c.refusal_from_256.ensures
