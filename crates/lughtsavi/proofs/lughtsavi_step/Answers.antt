use Rattle.lughtsavi.proofs.Telling.{step_returned, step_told}
use Rattle.lughtsavi.proofs.lughtsavi_step.Goals as goal

pub returns-clause-answer : goal.returns-clause-answer
returns-clause-answer c = step_returned _ _ _ c.if-answer-ne-ANSWER_WIDTH.false _ c.step-outcome.ensures.answer _ c.refusal_or_0.ensures

pub returns-clause-memory : goal.returns-clause-memory
returns-clause-memory c = step_told _ _ _ c.if-answer-ne-ANSWER_WIDTH.false _ c.step-outcome.ensures.answer _ _ _ c.copy_from_slice.ensures.after c.answer_words-told.ensures c.step-outcome.ensures.memory
