-- The first g rows are the processor's.
use Rattle.std.proofs.Common.{◌≡◌, length, take}
use Rattle.limits.specs.Limits.{page_limit}
use Rattle.limits.specs.inner.Sizes.{clock_width}
use Rattle.rules.specs.State.{mainframe}
use Rattle.lists.specs.Tables.{tabulate}
use Rattle.layout.specs.Areas.{applied_row}
use Rattle.layout.specs.Layout.{row_of}
use Rattle.layout.proofs.applied_at.Given as goal

abbrev pub invariant-loop-g : goal.invariant-loop-g
invariant-loop-g l = record {
  long : length l.rows ≡ page_limit;
  first : take l.g l.rows ≡ take l.g (tabulate page_limit (λ g. row_of clock_width l.clocks (applied_row mainframe l.p.0 g)));
}
