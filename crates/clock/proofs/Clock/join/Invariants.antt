use Rattle.std.proofs.Common.{◌≡◌, length, take}
use Rattle.limits.specs.inner.Sizes.{clock_width}
use Rattle.clock.specs.Clocks.{joined}
use Rattle.clock.proofs.Clock.join.Given as goal

-- the first i entries are those of the join
abbrev pub invariant-loop-i : goal.invariant-loop-i
invariant-loop-i l = record {
  whole : length l.entries ≡ clock_width;
  so_far : take l.i l.entries ≡ take l.i (joined l.self.entries l.other.entries);
}
