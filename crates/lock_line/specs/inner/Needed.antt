-- What asking for a lock and handing it on ask of the marks, and what their parts ask of one another. Assumes nothing.
use Rattle.std.specs.Prelude.{ℕ, suc, ◌≤◌, ◌<◌, ◌≡◌, List, length}
use Rattle.limits.specs.Limits.{lock_limit, processor_limit}
use Rattle.limits.specs.inner.Sizes.{mark_area}
use Rattle.rules.specs.State.{mainframe}
use Rattle.rules.specs.Lines.{first_in_line}
use Rattle.layout.specs.Areas.{marks_in}
use Rattle.layout.specs.inner.Marks.{processor_count, awaited_mark}

-- the area of the marks, the number of processors in range in it, and a lock that has a place
pub record LineThere (m : List ℕ) (l : ℕ) : Type 0 where
  pub marks : length m ≡ mark_area
  pub processors : processor_count m ≤ processor_limit
  pub lock : l < lock_limit

-- the same, and a processor that has marks
pub record InLine (m : List ℕ) (l p : ℕ) : Type 0 where
  pub line : LineThere m l
  pub from : 1 ≤ p
  pub to : p ≤ processor_limit

-- the same, and where nobody stands first, nobody waits
pub record Hands (m : List ℕ) (l : ℕ) : Type 0 where
  pub line : LineThere m l
  pub nobody : first_in_line (processor_count m) (marks_in mainframe m) l ≡ 0 → (k : ℕ) → k < processor_limit → awaited_mark m (suc k) ≡ suc l → ⊥
