use Rattle.std.proofs.Common.{arith, rules}
use Rattle.limits.specs.Places.{first_arrived}
use Rattle.inorder_marks.proofs.MarkTests.{found_is}
use Rattle.inorder_marks.proofs.someone_missing.Goals as goal

pub returns : goal.returns
returns c = found_is c.args.marks.now first_arrived c.args.processors c.any.result (omega arith) (search rules)
