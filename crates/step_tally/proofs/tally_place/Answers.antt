-- `tally_place` meets its contract. Assumes nothing.
use Rattle.step_tally.proofs.Adding.{tally_laws}
use Rattle.step_tally.proofs.tally_place.Goals as goal

pub returns-clause-value : goal.returns-clause-value
returns-clause-value c = search tally_laws
