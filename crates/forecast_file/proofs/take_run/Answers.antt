use Rattle.std.proofs.Common.{◌+◌, arith}
use Rattle.limits.specs.Files.{file_record_width}
use Rattle.forecast_file.proofs.Steps.{going_more, going_ends}
use Rattle.forecast_file.proofs.take_run.Goals as goal

pub loop-i-preserved : goal.loop-i-preserved
loop-i-preserved c =
    record {
      going = going_more _ _ _ _ _ _ _ _ _ _ _ _ _ _ _ _ c.loop-i.invariant.going c.loop-i-test.true _ _ _ _ _ c.take_step-stepped.ensures c.max-most.ensures;
      counted = c.count_on-len.ensures.counted;
    }

-- behind the last step
pub returns-2 : goal.returns-2
returns-2 c =
    going_ends _ _ _ _ _ _ c.requires _ _ _ (c.loop-i.i + file_record_width) _ _ _
    (going_more _ _ _ _ _ _ _ _ _ _ _ _ _ _ _ _ c.loop-i.invariant.going c.loop-i-test.true _ _ _ _ _ c.take_step-stepped.ensures c.max-most.ensures) (omega arith)
