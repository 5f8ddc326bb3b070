use Rattle.std.proofs.Common.{rules}
use Rattle.opening.proofs.OpeningTests.{opening_accepts}
use Rattle.opening.proofs.opening_fits.Goals as goal

pub returns-in-0 : goal.returns-in-0
returns-in-0 c = search (rules, opening_accepts)
