use Rattle.std.proofs.Common.{arith, rules}
use Rattle.clock.proofs.Methods.{sum_more, sum_all}
use Rattle.clock.proofs.Clock.sum.Goals as goal

pub loop-entry-preserved : goal.loop-entry-preserved
loop-entry-preserved c =
    record {
      small = omega (arith, c.from-total.ensures, c.loop-entry-test.element_fits);
      so_far = sum_more _ _ _ _ (search rules) c.from-total.ensures c.loop-entry.invariant.so_far;
    }

pub returns : goal.returns
returns c = sum_all _ _ _ (search rules) c.loop-entry.invariant.so_far
