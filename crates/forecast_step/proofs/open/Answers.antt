use Rattle.std.proofs.Common.{rules}
use Rattle.forecast_step.proofs.Opening.{opening_laws, opening_laid}
use Rattle.forecast_step.proofs.open.Goals as goal

pub returns-then-not-opening_fits : goal.returns-then-not-opening_fits
returns-then-not-opening_fits c = search opening_laws

pub returns : goal.returns
returns c = opening_laid _ _ _ c.requires _ c.opening_fits.ensures c.if-not-opening_fits.false _ _ (search rules) c.lay_marks.ensures
