use Rattle.std.proofs.Common.{rules}
use Rattle.file_chunk.proofs.Passing.{whole_taken}
use Rattle.file_chunk.proofs.take_whole.Goals as goal

pub returns : goal.returns
returns c = search (rules, whole_taken)
