use Rattle.std.proofs.Common.{arith}
use Rattle.std.proofs.lemmas.Grind.{common_steps}
use Rattle.refusals.specs.inner.Parts.{refusal_of_kind}
use Rattle.refusals.proofs.late_of_kind.Goals as goal

-- no later row is for these four kinds
pub returns-in-Read : goal.returns-in-Read
unfolding refusal_of_kind
returns-in-Read c = grind (arith, common_steps)
