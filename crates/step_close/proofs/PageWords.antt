-- The words of a page as a part of the area. Assumes nothing.
use Prim.Native.Nat.{ℕ, ◌+◌, ◌-◌, ◌*◌}
use native.Mathlib.Omega.{arith}
use mathlib.Core.Path.{◌≡◌}
use mathlib.Core.List.{List}
use lib.ListN.{take, drop}
use borrow.Author.Rules.{rules}
use Rattle.limits.specs.Limits.{page_width}
use Rattle.layout.specs.Layout.{row_of}

-- the part of 32 words is the row
pub page_part : (w : List ℕ) (row : ℕ) → take (page_width * row + page_width - page_width * row) (drop (page_width * row) w) ≡ row_of page_width w row
unfolding row_of
page_part w row = let e : page_width * row + page_width - page_width * row ≡ page_width = omega arith in rw e

pub ruleset page_laws = (page_part, rules)
