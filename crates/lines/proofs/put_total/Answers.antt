use Rattle.lines.proofs.Totals.{total_laws}
use Rattle.lines.proofs.put_total.Goals as goal

pub returns-clause-value : goal.returns-clause-value
returns-clause-value c = search total_laws

pub returns-clause-out_after : goal.returns-clause-out_after
returns-clause-out_after c = search total_laws
