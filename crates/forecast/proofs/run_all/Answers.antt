-- Nothing has been read at the start, and where nothing is left to do all is told. Assumes nothing.
use Rattle.forecast.proofs.Turns.{turn_laws}
use Rattle.forecast.proofs.run_all.Goals as goal

pub loop-turns-init : goal.loop-turns-init
loop-turns-init g c = search turn_laws

pub returns-then-is_over : goal.returns-then-is_over
returns-then-is_over g c = search turn_laws
