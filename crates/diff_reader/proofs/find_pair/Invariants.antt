use Rattle.diff_reader.proofs.Pairs.{Finding}
use Rattle.diff_reader.proofs.find_pair.Given as goal

abbrev pub invariant-loop-k : goal.invariant-loop-k
invariant-loop-k l = Finding l.bytes l.at l.n l.k l.words
