use Rattle.forecast_step.proofs.Opening.{figure_laws}
use Rattle.forecast_step.proofs.figures_of.Goals as goal

pub returns : goal.returns
returns c = search figure_laws
