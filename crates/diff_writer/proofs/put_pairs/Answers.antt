use Rattle.diff_writer.proofs.WriteLoops.{pairs_begin, left_fits, pair_has_room, pairs_nearer, pairs_more}
use Rattle.diff_writer.proofs.put_pairs.Goals as goal

pub loop-left-init : goal.loop-left-init
loop-left-init c = rw c.from-left.ensures (pairs_begin _ _ _ _ c.requires)

pub first_run-run-requires-clause-mask_fits : goal.first_run-run-requires-clause-mask_fits
first_run-run-requires-clause-mask_fits c = left_fits _ _ _ _ _ _ _ c.loop-left.invariant

pub put_pair-at-requires : goal.put_pair-at-requires
put_pair-at-requires c = pair_has_room _ _ _ _ _ _ _ c.loop-left.invariant c.loop-left-test.true _ _ c.first_run-run.ensures.kept_value c.first_run-run.ensures.len_value

pub loop-left-smaller : goal.loop-left-smaller
loop-left-smaller c = pairs_nearer _ _ _ _ _ _ _ c.loop-left.invariant c.loop-left-test.true _ _ c.first_run-run.ensures.kept_value c.first_run-run.ensures.len_value

pub loop-left-preserved : goal.loop-left-preserved
loop-left-preserved c =
    pairs_more _ _ _ _ _ _ _ c.loop-left.invariant c.loop-left-test.true _ _ c.first_run-run.ensures.kept_value c.first_run-run.ensures.len_value
    _ _ _ c.first_run-run.ensures.left_value c.put_pair-at.ensures.value c.put_pair-at.ensures.out_after
