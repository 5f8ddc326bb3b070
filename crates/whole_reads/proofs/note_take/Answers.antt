-- Where the flow stands once the bytes are taken. Assumes nothing.
use Rattle.std.proofs.Common.{refl}
use Rattle.whole_reads.specs.Promises.{taken_flow}
use Rattle.whole_reads.proofs.Filling.{took}
use Rattle.whole_reads.proofs.note_take.Goals as goal

pub returns : goal.returns
unfolding taken_flow
returns c = took _ _ _ _ refl
