use mathlib.Core.Path.{sym, refl}
use Rattle.lists.specs.Tables.{every}
use Rattle.lists.proofs.Conditions.{and_both}
use Rattle.lists.proofs.Passing.{fail_one}
use native.Mathlib.Numerals.{add-one}
use Rattle.inorder_records.proofs.records_sound.Goals as goal

pub loop-i-init : goal.loop-i-init
unfolding every
loop-i-init c = refl

pub returns-then-not-record_holds : goal.returns-then-not-record_holds
returns-then-not-record_holds c = fail_one _ _ _ c.loop-i-test.true (sym c.if-not-record_holds.ensures)

pub loop-i-preserved : goal.loop-i-preserved
unfolding every
loop-i-preserved c = rw add-one (and_both _ _ c.loop-i.invariant (sym c.if-not-record_holds.ensures))
