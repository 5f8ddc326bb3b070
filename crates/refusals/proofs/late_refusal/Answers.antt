use Rattle.std.proofs.Common.{arith}
use Rattle.std.proofs.lemmas.Grind.{common_steps}
use Rattle.rules.specs.Refusals.{known_kind}
use Rattle.refusals.specs.inner.Parts.{refusal_of_kind}
use Rattle.refusals.proofs.late_refusal.Goals as goal

-- no row is for a kind that is not known
pub returns-in-Err : goal.returns-in-Err
unfolding known_kind refusal_of_kind
returns-in-Err c = let unknown = c.in-Err.ensures.1 in grind (arith, common_steps, unknown)
