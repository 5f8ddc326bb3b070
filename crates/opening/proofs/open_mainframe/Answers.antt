use mathlib.Core.Path.{sym}
use Rattle.opening.proofs.Opening.{openable}
use Rattle.opening.proofs.open_mainframe.Goals as goal

pub lay_opened-requires : goal.lay_opened-requires
lay_opened-requires c = openable _ _ _ _ _ (sym c.if-not-right_sizes.ensures) (sym c.if-not-opening_fits.ensures.is)
