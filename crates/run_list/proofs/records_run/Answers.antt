use Rattle.run_list.proofs.Running.{running_laws}
use Rattle.run_list.proofs.records_run.Goals as goal

pub returns : goal.returns
returns c = search running_laws
