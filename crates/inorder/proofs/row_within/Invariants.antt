-- whether the first i entries do not exceed the other clock
use Rattle.std.proofs.Common.{◌≡◌}
use Rattle.lists.specs.Tables.{every}
use Rattle.inorder.specs.inner.Tests.{entry_within}
use Rattle.inorder.proofs.row_within.Given as goal

abbrev pub invariant-loop-i : goal.invariant-loop-i
invariant-loop-i l = l.all ≡ every l.i (entry_within l.most l.clocks l.at)
