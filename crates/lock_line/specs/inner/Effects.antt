-- What asking for a lock and handing it on leave in the area of the marks: the state that it holds, with whatever the other areas have.
-- Assumes nothing.
use Rattle.std.specs.Prelude.{ℕ, suc, ◌-◌, ◌≡◌, cond, List, length, eqb}
use Rattle.limits.specs.inner.Sizes.{mark_area}
use Rattle.rules.specs.State.{mainframe, Marks, with_lines, with_marks}
use Rattle.rules.specs.Lines.{moved_up}
use Rattle.layout.specs.Areas.{state_in}
use Rattle.layout.specs.inner.Marks.{awaited_mark, turn_mark}

-- the marks of the state become k, and nothing else changes
pub record MarksBecome (m m' : List ℕ) (k : Marks) : Type 0 where
  pub long : length m' ≡ mark_area
  pub is : (c w r : List ℕ) → state_in mainframe c w r m' ≡ with_marks (state_in mainframe c w r m) k

-- the turn of processor p when the waiters of lock l move up
abbrev pub turn_after : List ℕ → ℕ → ℕ → ℕ
turn_after m l p = cond (eqb (awaited_mark m p) (suc l)) (turn_mark m p - 1) (turn_mark m p)

-- the waiters of lock l move up, and nobody leaves
unfoldable pub line_moved_up : Marks → ℕ → Marks
line_moved_up k l = with_lines k k.awaited (moved_up l k.awaited k.turns)
