use Rattle.step_record.proofs.Answering.{refused_words}
use Rattle.step_record.proofs.answer_words.Goals as goal

pub returns-in-Err : goal.returns-in-Err
returns-in-Err c = refused_words _ _ _ _ c.in-Err.is c.number.ensures c.from.ensures
