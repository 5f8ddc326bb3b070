use Rattle.std.proofs.Common.{rules, tests}
use Rattle.limits.specs.Limits.{processor_limit}
use Rattle.inorder_marks.specs.inner.Tests.{dirty_hold}
use Rattle.lists.proofs.Chains.{every_from_all}
use Rattle.inorder_marks.proofs.dirty_hold.Goals as goal

pub returns : goal.returns
returns c = every_from_all processor_limit (dirty_hold c.args.own c.args.marks.now c.args.processors c.args.pages) c.all.ensures.ran (λ x b q k. search (rules, tests))
