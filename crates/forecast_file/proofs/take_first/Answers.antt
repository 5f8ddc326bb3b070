use Rattle.std.proofs.Common.{◌∙◌}
use Rattle.forecast_file.proofs.Passing.{first_laws}
use Rattle.forecast_file.proofs.take_first.Goals as goal

pub returns-then-reach-ne0 : goal.returns-then-reach-ne0
returns-then-reach-ne0 c = search first_laws

pub returns : goal.returns
returns c = let told = c.from-refusal.ensures ∙ c.refusal_or_0.ensures in search (first_laws, told)
