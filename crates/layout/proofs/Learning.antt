-- One clock learns another: what this leaves of the clocks. Assumes nothing.
use Prim.Native.Nat.{ℕ, ◌*◌}
use native.Mathlib.Omega.{arith}
use mathlib.Core.Path.{◌≡◌, ◌∙◌}
use mathlib.Core.List.{List}
use lib.ListN.{length}
use lib.Seq.{sets}
use Rattle.limits.specs.inner.Sizes.{clock_area, clock_width}
use Rattle.clock.specs.Clocks.{joined}
use Rattle.clock.proofs.Laws.{length_joined}
use Rattle.rules.specs.State.{mainframe, Holder}
use Rattle.rules.specs.Steps.{learned}
use Rattle.rules.proofs.inorder.Facts.{Within}
use Rattle.layout.specs.Areas.{clock_row, clocks_in}
use Rattle.layout.specs.Layout.{row_of}
use Rattle.layout.proofs.ClockLaws.{holder_row_there, clock_read, clock_written}
use Rattle.layout.proofs.RowLaws.{length_row}

-- a holder's row that learned another holder's is that clock learned
module _ (c : List ℕ) (to from : Holder) (long : length c ≡ clock_area) (t : Within mainframe to) (f : Within mainframe from) where
  abbrev both : List ℕ
  both = joined (row_of clock_width c (clock_row mainframe to)) (row_of clock_width c (clock_row mainframe from))

  length_both : length both ≡ clock_width
  length_both =
      omega (
        arith,
        length_joined (row_of clock_width c (clock_row mainframe to)) (row_of clock_width c (clock_row mainframe from)),
        length_row clock_width c (clock_row mainframe to) (omega (arith, holder_row_there to t)),
        length_row clock_width c (clock_row mainframe from) (omega (arith, holder_row_there from f)),
      )

  pub learned_clock : clocks_in mainframe (sets c (clock_width * clock_row mainframe to) both) ≡ learned (clocks_in mainframe c) to from
  unfolding learned
  learned_clock =
      clock_written c both to long t length_both ∙ rw (clock_read c to t, clock_read c from f)
