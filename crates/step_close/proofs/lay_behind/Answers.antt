-- `lay_behind` meets its contract. Assumes nothing.
use Rattle.step_close.proofs.SlotBytes.{slot_laws}
use Rattle.step_close.proofs.lay_behind.Goals as goal

pub returns-clause-out_after : goal.returns-clause-out_after
returns-clause-out_after c = search slot_laws
