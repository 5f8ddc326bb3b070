use Rattle.std.proofs.Common.{rules}
use Rattle.limits.specs.inner.Sizes.{clock_width}
use Rattle.clock.proofs.Methods.{join_more, join_all}
use Rattle.clock.proofs.Clock.join.Goals as goal

pub loop-i-preserved : goal.loop-i-preserved
loop-i-preserved c =
    record {
      whole = search rules;
      so_far =
          join_more _ _ _ _ _ clock_width (search rules) (search rules) c.loop-i.invariant.whole c.loop-i-test.true (search rules) c.loop-i.invariant.so_far;
    }

pub returns : goal.returns
returns c = join_all _ _ _ _ clock_width (search rules) (search rules) c.loop-i.invariant.whole (search rules) c.loop-i.invariant.so_far
