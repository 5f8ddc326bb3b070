use Rattle.std.proofs.Common.{rules, tests}
use Rattle.inorder_marks.specs.inner.Tests.{waiter_holds}
use Rattle.lists.proofs.Chains.{every_from_all}
use Rattle.inorder_marks.proofs.waiters.waiters_hold.Goals as goal

pub returns : goal.returns
returns c = every_from_all c.args.processors (waiter_holds c.args.marks.now c.args.processors c.args.locks) c.all.ensures.ran (λ x b q k. search (rules, tests))
