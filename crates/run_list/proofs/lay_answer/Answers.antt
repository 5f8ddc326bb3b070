use Rattle.std.proofs.Common.{rules}
use Rattle.lists.proofs.Copies.{copied}
use Rattle.run_list.proofs.lay_answer.Goals as goal

pub returns : goal.returns
returns c = copied _ _ _ _ _ c.copy_from_slice.ensures.after (search rules) (search rules)
