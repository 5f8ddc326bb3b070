use Rattle.lines.proofs.Totals.{total_laws}
use Rattle.lines.proofs.put_total_digits.Goals as goal

pub overflow_sub-i : goal.overflow_sub-i
overflow_sub-i c = search total_laws

pub bounds-out-i : goal.bounds-out-i
bounds-out-i c = search total_laws

pub loop-rest-preserved : goal.loop-rest-preserved
loop-rest-preserved c = search total_laws

pub bounds-out-at : goal.bounds-out-at
bounds-out-at c = search total_laws

pub returns : goal.returns
returns c = search total_laws
