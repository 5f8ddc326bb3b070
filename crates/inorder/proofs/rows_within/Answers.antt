use Rattle.std.proofs.Common.{rules}
use Rattle.lists.proofs.Chains.{every_from_all}
use Rattle.inorder.specs.inner.Tests.{is_row_within}
use Rattle.inorder.proofs.rows_within.Goals as goal

pub returns : goal.returns
unfolding is_row_within
returns c = every_from_all _ _ c.all.ensures.ran (λ x b q k. search rules)
