use Rattle.lines.proofs.Writing.{line_laws}
use Rattle.lines.proofs.put_digits.Goals as goal

pub overflow_sub-i : goal.overflow_sub-i
overflow_sub-i c = search line_laws

pub put_pair-requires : goal.put_pair-requires
put_pair-requires c = search line_laws

pub loop-rest-preserved : goal.loop-rest-preserved
loop-rest-preserved c = search line_laws

pub bounds-out-at : goal.bounds-out-at
bounds-out-at c = search line_laws

pub returns-then-rest-lt10 : goal.returns-then-rest-lt10
returns-then-rest-lt10 c = search line_laws

pub put_pair-requires-else-rest-lt10 : goal.put_pair-requires-else-rest-lt10
put_pair-requires-else-rest-lt10 c = search line_laws

pub returns-else-rest-lt10 : goal.returns-else-rest-lt10
returns-else-rest-lt10 c = search line_laws
