use Rattle.std.proofs.Common.{rules}
use Rattle.file_chunk.proofs.Passing.{behind_taken}
use Rattle.file_chunk.proofs.take_behind.Goals as goal

pub returns : goal.returns
returns c = search (rules, behind_taken)
