use Rattle.run_list.proofs.Stepping.{stepping_laws}
use Rattle.run_list.proofs.run_steps.Goals as goal

pub loop-i-init : goal.loop-i-init
loop-i-init c = search stepping_laws

pub loop-i-preserved : goal.loop-i-preserved
loop-i-preserved c = search stepping_laws

pub returns : goal.returns
returns c = search stepping_laws
