use Rattle.std.proofs.Common.{arith}
use Rattle.file_held.proofs.HeldBytes.{held_all}
use Rattle.file_held.proofs.hold.Goals as goal

pub returns : goal.returns
returns c =
    held_all c.args.held c.args.bytes c.args.chunk.now c.args.from c.requires c.min-taken.result c.min-taken.ensures _ _ _ (omega arith) (omega arith) c.copy_from_slice.ensures.after
