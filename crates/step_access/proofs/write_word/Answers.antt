-- `write_word` meets its contract. Assumes nothing.
use Rattle.step_access.proofs.Accessing.{access_laws}
use Rattle.step_access.proofs.write_word.Goals as goal

pub store-requires : goal.store-requires
store-requires c = search access_laws

pub returns : goal.returns
returns c = search access_laws
