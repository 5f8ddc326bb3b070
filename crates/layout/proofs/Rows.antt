-- What the functions on rows leave to show, and `row_laws`, by which their proofs search.
-- Assumes nothing.
use Prim.Native.Nat.{ℕ, zero, suc, ◌+◌, ◌-◌, ◌*◌, ◌≤◌, ◌<◌}
use native.Mathlib.Numerals.{add-one}
use native.Mathlib.Omega.{arith}
use mathlib.Core.Path.{◌≡◌, sym, ap, ◌∙◌}
use mathlib.Core.List.{List}
use lib.ListN.{length, get_or, take, set}
use lib.Seq.{take_all, take-suc, take-suc-set}
use borrow.Author.Rules.{rules}
use Rattle.limits.specs.Limits.{page_limit, processor_limit}
use Rattle.limits.specs.inner.Sizes.{clock_area, clock_row_limit, clock_width, own_step}
use Rattle.clock.specs.Clocks.{entry_of}
use Rattle.rules.specs.State.{mainframe, Processor, clock, own}
use Rattle.rules.proofs.inorder.Facts.{Within}
use Rattle.lists.specs.Tables.{tabulate}
use Rattle.lists.proofs.Tabulated.{length_tabulate, get_tabulate}
use Rattle.layout.specs.Layout.{row_of}
use Rattle.layout.specs.Areas.{clock_row, state_in}
use Rattle.layout.specs.inner.Needed.{RowThere, OnPage, ClocksOf, OwnEntry, Acts}
use Rattle.layout.proofs.ClockLaws.{clock_read}
use Rattle.layout.proofs.RowLaws.{get_row}

-- ---- who acts

-- has rows and places
pub acting_within : (c w r m : List ℕ) (p : ℕ) → Acts c w r m p → p ≤ processor_limit
unfolding mainframe
acting_within c w r m p a = omega (arith, a.to, a.in_order.processors_fit)

-- ---- rows that are there

-- a row of the area of the clocks lies within it
pub clock_row_there : (c : List ℕ) (row : ℕ) → length c ≡ clock_area → row < clock_row_limit → RowThere clock_width c row
clock_row_there c row e h = record { within = omega arith }

-- ---- a table is read row by row: the first g rows are those of f

module _ {A : Type 0} (n g : ℕ) (f : ℕ → A) (rows : List A) (long : length rows ≡ n) (first : take g rows ≡ take g (tabulate n f)) where
  -- one more row is
  pub table_more : (row : A) → g < n → row ≡ f g → take (g + 1) (set rows g row) ≡ take (g + 1) (tabulate n f)
  table_more row h e =
      let hr : g < length rows = omega (arith, long) in
      let ht : g < length (tabulate n f) = omega (arith, length_tabulate n f) in
      rw (add-one, take-suc-set rows g row hr, take-suc (tabulate n f) g row ht, get_tabulate n f g row h, first, e)

  -- all rows are
  pub table_read : n ≤ g → rows ≡ tabulate n f
  table_read h = sym (take_all g rows (omega (arith, long))) ∙ first ∙ take_all g (tabulate n f) (omega (arith, length_tabulate n f))

-- a processor's applied clocks have their rows
pub applied_there : (c : List ℕ) (p g : ℕ) → ClocksOf c p → g < page_limit → OnPage p g
applied_there c p g h l = record { from = h.from; to = h.to; page = l }

-- ---- the own entry of a processor

entry_at : (c : List ℕ) (p : ℕ) → 1 ≤ p → p ≤ processor_limit → entry_of (row_of clock_width c (clock_row mainframe (Processor p))) p ≡ get_or c (own_step * p - 1) 0
unfolding entry_of clock_row
entry_at c zero h k = absurd (omega arith)
entry_at c (suc q) h k =
    let e : clock_width * suc q + q ≡ own_step * suc q - 1 = omega arith in
    get_row clock_width c (suc q) q 0 (omega arith) ∙ ap (λ (j : ℕ). get_or c j 0) e

-- a processor has a clock
pub processor_within : (p : ℕ) → 1 ≤ p → p ≤ processor_limit → Within mainframe (Processor p)
unfolding Within mainframe
processor_within p h k = (h, k)

module _ (c : List ℕ) (p : ℕ) (there : ClocksOf c p) where
  -- the own entry lies within the area
  pub own_place : own_step * p - 1 < length c
  own_place = omega (arith, there.clocks, there.from, there.to)

  -- the byte at that place is the own entry
  pub own_is : OwnEntry c p (get_or c (own_step * p - 1) 0)
  unfolding own clock state_in
  own_is =
      record {
        is = λ w r m.
            sym (ap (λ (v : List ℕ). entry_of v p) (clock_read c (Processor p) (processor_within p there.from there.to)) ∙ entry_at c p there.from there.to);
      }

pub ruleset row_laws = (clock_row_there, own_place, own_is, table_more, table_read, applied_there, rules)
