-- What the marks in lent memory say: present processors, arrived marks, waiters, holders, dirty pages. Assumes nothing.
use Rattle.std.proofs.Common.{◌≡◌, ℕ, ◌<◌, ◌≤◌, Bool, not, eqb, List, [], sym, ap, ◌∙◌}
use Rattle.limits.specs.Limits.{page_limit, processor_limit}
use Rattle.rules.specs.Lines.{waits}
use Rattle.rules.specs.State.{dirty_at, holder, has_arrived}
use Rattle.layout.specs.Areas.{state_in}
use Rattle.layout.specs.inner.Marks.{arrived_mark, awaited_mark, holder_mark, dirty_mark}
use Rattle.layout.specs.inner.Needed.{LockMark}
use Rattle.layout.proofs.MarkLaws.{arrived_read, awaited_read, holder_read}
use Rattle.layout.proofs.PageLaws.{dirty_read}
use Rattle.refusals.specs.inner.Parts.{seen}

-- ---- marks

module _ (m : List ℕ) (b : Bool) (p : ℕ) (from : 1 ≤ p) (to : p ≤ processor_limit) where
  -- the arrived mark of a processor
  pub arrived_seen : b ≡ not (eqb (arrived_mark m p) 0) → b ≡ has_arrived (seen m) p
  unfolding has_arrived seen
  arrived_seen e = e ∙ ap (λ (k : ℕ). not (eqb k 0)) (sym (arrived_read [] [] [] m p from to))

  -- whether it waits
  pub waiting_seen : b ≡ not (eqb (awaited_mark m p) 0) → b ≡ waits (seen m).marks p
  unfolding waits seen
  waiting_seen e = e ∙ ap (λ (k : ℕ). not (eqb k 0)) (sym (awaited_read [] [] [] m p from to))

  -- the dirty mark of one of its pages
  pub dirty_seen : (g : ℕ) → g < page_limit → b ≡ not (eqb (dirty_mark m p g) 0) → b ≡ dirty_at (seen m).pages p g
  unfolding dirty_at seen state_in
  dirty_seen g page e = e ∙ ap (λ (k : ℕ). not (eqb k 0)) (sym (dirty_read [] m p g from to page))

-- the holder of a lock
pub holder_seen : (m : List ℕ) (l x : ℕ) → LockMark m l → x ≡ holder_mark m l → x ≡ holder (seen m) l
unfolding holder seen
holder_seen m l x h e = e ∙ sym (holder_read [] [] [] m l h.lock)
