use Rattle.std.proofs.Common.{rules}
use Rattle.file_record.proofs.Taking.{words_done, words_refused}
use Rattle.file_record.proofs.add_words.Goals as goal

pub returns-in-Ok : goal.returns-in-Ok
returns-in-Ok c = words_done _ _ _ _ c.in-Ok.is c.from.ensures (search rules)

pub returns-in-Err : goal.returns-in-Err
returns-in-Err c = words_refused _ _ _ c.in-Err.is
