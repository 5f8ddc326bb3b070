-- whether the words so far are 0
use Rattle.std.proofs.Common.{◌≡◌}
use Rattle.lists.specs.Tables.{every}
use Rattle.inorder_marks.specs.inner.Tests.{zero_at}
use Rattle.inorder.proofs.words_zero.Given as goal

abbrev pub invariant-loop-word : goal.invariant-loop-word
invariant-loop-word l = l.all ≡ every l.word-index (zero_at l.words l.at)
