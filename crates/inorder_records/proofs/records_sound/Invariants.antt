-- the first i records are sound
use Rattle.std.proofs.Common.{◌≡◌, true}
use Rattle.lists.specs.Tables.{every}
use Rattle.inorder_records.specs.inner.Tests.{record_holds}
use Rattle.inorder_records.proofs.records_sound.Given as goal

abbrev pub invariant-loop-i : goal.invariant-loop-i
invariant-loop-i l = every l.i (record_holds l.own l.records l.processors l.pages) ≡ true
