use Rattle.std.proofs.Common.{rules, tests}
use Rattle.inorder_marks.specs.inner.Tests.{is_apart}
use Rattle.lists.proofs.Chains.{every_from_all}
use Rattle.inorder_marks.proofs.waiters.place_free.Goals as goal

pub returns : goal.returns
returns c = every_from_all c.args.k (is_apart c.args.marks.now c.args.k) c.all.ensures.ran (λ x b q k. search (rules, tests))
