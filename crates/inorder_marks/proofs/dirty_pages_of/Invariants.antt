-- Of the first pages n are dirty.
use Rattle.std.proofs.Common.{◌≡◌, ◌≤◌}
use Rattle.lists.specs.Tables.{total}
use Rattle.inorder_marks.specs.inner.Tests.{dirty_count}
use Rattle.inorder_marks.proofs.dirty_pages_of.Given as goal

abbrev pub invariant-loop-mark : goal.invariant-loop-mark
invariant-loop-mark l = record {
  few : l.n ≤ l.mark-index;
  counted : l.n ≡ total l.mark-index (dirty_count l.marks l.at);
}
