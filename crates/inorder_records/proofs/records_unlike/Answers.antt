use Rattle.inorder_records.proofs.Notices.{seen_none, seen_new}
use Rattle.inorder_records.proofs.records_unlike.Goals as goal

pub loop-i-init : goal.loop-i-init
loop-i-init c = seen_none _ _

pub loop-i-preserved : goal.loop-i-preserved
loop-i-preserved c =
    seen_new _ _ _ _ _ c.loop-i.invariant c.loop-i-test.true c.notice_place-place.ensures.value c.notice_place-place.ensures.upper_bound c.if-seen-place.false
