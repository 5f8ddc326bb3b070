-- The records are taken, and the bytes behind them held. Assumes nothing.
use Rattle.stepfile.proofs.Rest.{rest_laws}
use Rattle.stepfile.proofs.take_rest.Goals as goal

pub returns : goal.returns
returns c = search rest_laws
