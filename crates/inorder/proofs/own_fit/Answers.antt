use Rattle.std.proofs.Common.{rules, ◌∙◌}
use lib.Dec.{leb}
use Rattle.std.proofs.lemmas.Iterator.{YieldsList-from_slice}
use Rattle.std.proofs.lemmas.Iterator.Search.{all_from_yields_List}
use Rattle.limits.specs.Limits.{interval_limit, processor_limit}
use Rattle.inorder_records.specs.inner.Tests.{own_fits}
use Rattle.lists.proofs.Chains.{list_all-places}
use Rattle.inorder.proofs.own_fit.Goals as goal

pub returns : goal.returns
unfolding own_fits
returns c =
    all_from_yields_List (λ y. leb y interval_limit) _ _ _ c.all.ensures.ran (YieldsList-from_slice _ c.iter.ensures.rest) (λ x b q k. search rules)
    ∙ list_all-places _ c.args.own processor_limit (search rules)
