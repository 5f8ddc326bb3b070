-- `hand_on` meets its contract. Assumes nothing.
use Rattle.lock_line.proofs.Handing.{line_laws}
use Rattle.lock_line.proofs.hand_on.Goals as goal
use Rattle.lock_line.proofs.hand_on.Goals.{then-first-ne0, else-first-ne0}

pub returns-clause-marks_become : goal.returns-clause-marks_become
returns-clause-marks_become c = elim c.if-first-ne0.branch [ then-first-ne0 w ↦ search line_laws | else-first-ne0 w ↦ search line_laws ]
