-- The elements from i on are still to be laid into the row.
use Rattle.std.proofs.Common.{◌≡◌, ◌+◌, ◌*◌, length, drop}
use Rattle.std.proofs.lemmas.List.Edits.{sets}
use Rattle.layout.proofs.put_row.Given as goal

abbrev pub invariant-loop-i : goal.invariant-loop-i
invariant-loop-i g l = record {
  values : length l.elements ≡ g.row.N;
  same : sets l.fn.area (g.row.N * l.row) l.elements ≡ sets l.area (g.row.N * l.row + l.i) (drop l.i l.elements);
}
