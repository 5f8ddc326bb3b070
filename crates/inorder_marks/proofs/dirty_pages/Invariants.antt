-- The first k processors have n dirty pages.
use Rattle.std.proofs.Common.{◌≡◌, ◌≤◌, ◌*◌}
use Rattle.limits.specs.Limits.{page_limit}
use Rattle.lists.specs.Tables.{total}
use Rattle.inorder_marks.specs.inner.Tests.{dirty_of}
use Rattle.inorder_marks.proofs.dirty_pages.Given as goal

abbrev pub invariant-loop-k : goal.invariant-loop-k
invariant-loop-k l = record {
  few : l.n ≤ page_limit * l.k;
  counted : l.n ≡ total l.k (dirty_of l.marks l.pages);
}
