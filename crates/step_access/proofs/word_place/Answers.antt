-- `word_place` meets its contract. Assumes nothing.
use Rattle.step_access.proofs.Storing.{store_laws}
use Rattle.step_access.proofs.word_place.Goals as goal

pub returns-clause-value : goal.returns-clause-value
returns-clause-value c = search store_laws
