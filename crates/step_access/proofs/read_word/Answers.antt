-- `read_word` meets its contract. Assumes nothing.
use Rattle.step_access.proofs.Accessing.{access_laws}
use Rattle.step_access.proofs.read_word.Goals as goal

pub word_at-value-requires : goal.word_at-value-requires
word_at-value-requires c = search access_laws

pub returns : goal.returns
returns c = search access_laws
