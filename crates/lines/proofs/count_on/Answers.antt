use Rattle.lines.proofs.Counting.{count_laws}
use Rattle.lines.proofs.count_on.Goals as goal

pub loop-i-init : goal.loop-i-init
loop-i-init c = search count_laws

pub loop-i-preserved : goal.loop-i-preserved
loop-i-preserved c = search count_laws

pub returns-then-bytes-i-lt57-clause-counted : goal.returns-then-bytes-i-lt57-clause-counted
returns-then-bytes-i-lt57-clause-counted c = search count_laws

pub returns-then-bytes-i-lt57-clause-bytes_after : goal.returns-then-bytes-i-lt57-clause-bytes_after
returns-then-bytes-i-lt57-clause-bytes_after c = search count_laws

pub returns-clause-counted : goal.returns-clause-counted
returns-clause-counted c = search count_laws

pub returns-clause-bytes_after : goal.returns-clause-bytes_after
returns-clause-bytes_after c = search count_laws
