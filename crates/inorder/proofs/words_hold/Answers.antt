use Rattle.std.proofs.Common.{rules}
use Rattle.lists.proofs.Chains.{every_from_all}
use Rattle.inorder.proofs.words_hold.Goals as goal

pub returns : goal.returns
returns c = every_from_all _ _ c.all.ensures.ran (λ x b q k. search rules)
