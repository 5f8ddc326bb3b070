-- A read and a write keep what holds. Assumes nothing.
use Rattle.forecast.proofs.Turns.{turn_laws}
use Rattle.forecast.proofs.turn.Goals as goal

pub returns-in-Read : goal.returns-in-Read
returns-in-Read g c = search turn_laws

pub returns-in-Write : goal.returns-in-Write
returns-in-Write g c = search turn_laws
