use Rattle.diff_reader.proofs.Pairs.{no_diff_no_pair}
use Rattle.diff_reader.proofs.pair_at.Goals as goal

pub returns-in-Err : goal.returns-in-Err
returns-in-Err c = no_diff_no_pair _ _ _ c.in-Err.ensures
