use Rattle.std.proofs.Common.{◌≡◌, ◌+◌, ◌*◌, ◌≤◌, drop}
use Rattle.clock.specs.Clocks.{sum_of}
use Rattle.clock.proofs.Clock.sum.Given as goal

-- the total and the entries to come make the sum, and the total is small
abbrev pub invariant-loop-entry : goal.invariant-loop-entry
invariant-loop-entry l = record {
  small : l.total ≤ 255 * l.entry-index;
  so_far : l.total + sum_of (drop l.entry-index l.entry-items) ≡ sum_of l.entry-items;
}
