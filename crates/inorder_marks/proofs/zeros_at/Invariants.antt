-- Whether the first bytes are 0.
use Rattle.std.proofs.Common.{◌≡◌}
use Rattle.lists.specs.Tables.{every}
use Rattle.inorder_marks.specs.inner.Tests.{zero_at}
use Rattle.inorder_marks.proofs.zeros_at.Given as goal

abbrev pub invariant-loop-byte : goal.invariant-loop-byte
invariant-loop-byte l = l.all ≡ every l.byte-index (zero_at l.bytes l.at)
