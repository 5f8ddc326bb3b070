-- the own entries before the k-th are read
use Rattle.std.proofs.Common.{ℕ, ◌≡◌, ◌+◌, ◌*◌, ◌<◌, length, get_or}
use Rattle.limits.specs.inner.Sizes.{clock_width, own_step}
use Rattle.inorder.proofs.own_entries.Given as goal

abbrev pub invariant-loop-k : goal.invariant-loop-k
invariant-loop-k l = record {
  long : length l.own ≡ clock_width;
  read : (j : ℕ) → j < l.k → get_or l.own j 0 ≡ get_or l.clocks (clock_width + own_step * j) 0;
}
