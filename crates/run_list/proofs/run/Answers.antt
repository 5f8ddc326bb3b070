use Rattle.run_list.proofs.Running.{running_laws}
use Rattle.run_list.proofs.run.Goals as goal

pub returns-then-n-eq0 : goal.returns-then-n-eq0
returns-then-n-eq0 c = search running_laws
