use Rattle.std.proofs.Common.{rules, tests}
use Rattle.inorder_marks.specs.inner.Tests.{holder_within}
use Rattle.lists.proofs.Chains.{every_from_all}
use Rattle.inorder_marks.proofs.holders_within.Goals as goal

pub returns : goal.returns
returns c = every_from_all c.args.locks (holder_within c.args.marks.now c.args.processors) c.all.ensures.ran (λ x b q k. search (rules, tests))
