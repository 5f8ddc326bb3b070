-- Of the first j processors n stand before the waiter.
use Rattle.std.proofs.Common.{◌≡◌, ◌≤◌}
use Rattle.lists.specs.Tables.{total}
use Rattle.inorder_marks.specs.inner.Tests.{before_count}
use Rattle.inorder_marks.proofs.waiters.stand_before.Given as goal

abbrev pub invariant-loop-j : goal.invariant-loop-j
invariant-loop-j l = record {
  few : l.n ≤ l.j;
  counted : l.n ≡ total l.j (before_count l.marks l.k);
}
