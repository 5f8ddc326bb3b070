use Rattle.std.proofs.Common.{arith}
use Rattle.inorder.proofs.ClockTests.{own_read_all}
use Rattle.inorder.proofs.own_entries.Goals as goal

pub returns : goal.returns
returns c = own_read_all _ _ c.loop-k.invariant.long (λ j h. c.loop-k.invariant.read j (omega arith))
