-- the numbers of sound records have their place in the table
use mathlib.Core.Path.{sym}
use Rattle.inorder_records.proofs.Notices.{notices_fit}
use Rattle.inorder_records.proofs.records_hold.Goals as goal

pub records_unlike-requires : goal.records_unlike-requires
records_unlike-requires c = (c.requires.0, notices_fit _ _ _ _ _ c.requires.1 c.requires.2 c.requires.3 (sym c.if-records_sound.ensures))
