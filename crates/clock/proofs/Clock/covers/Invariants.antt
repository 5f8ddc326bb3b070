use Rattle.std.proofs.Common.{◌≡◌, drop}
use Rattle.clock.specs.Clocks.{covered}
use Rattle.clock.proofs.Clock.covers.Given as goal

-- the first i entries are covered, so the others decide
abbrev pub invariant-loop-i : goal.invariant-loop-i
invariant-loop-i l = covered l.self.entries l.other.entries ≡ covered (drop l.i l.self.entries) (drop l.i l.other.entries)
