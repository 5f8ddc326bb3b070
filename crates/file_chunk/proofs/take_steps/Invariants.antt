-- the steps before i are taken, and the next has this number, whose digits are at hand
use Rattle.lines.specs.inner.Needed.{Counted}
use Rattle.file_chunk.proofs.Runs.{Running}
use Rattle.file_chunk.proofs.take_steps.Given as goal

abbrev pub invariant-loop-i : goal.invariant-loop-i
invariant-loop-i l = record {
  running : Running l.stand.number l.stand.at l.stand.words l.chunk l.from l.end l.fn.lines l.fn.clocks l.fn.words l.fn.records l.fn.marks l.number l.at l.moved l.i l.lines l.clocks l.words l.records l.marks l.index;
  counted : Counted l.digits l.len l.number;
}
