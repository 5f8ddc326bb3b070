use mathlib.Core.Path.{sym}
use Rattle.inorder.proofs.AreaTests.{counts_fit}
use Rattle.inorder.proofs.areas_hold.Goals as goal

pub all_hold-requires : goal.all_hold-requires
all_hold-requires c = record { lent = c.requires; counts = counts_fit _ _ _ _ (sym c.if-counts_hold.ensures) }
