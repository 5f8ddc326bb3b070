-- A page closed: a dirty one becomes a record, a clean one is left. One law for each way of the code, and `page_close_laws`. Assumes nothing.
use Prim.Native.Nat.{ℕ}
use mathlib.Core.Path.{◌≡◌, sym, ◌∙◌}
use mathlib.Core.Bool.{Bool, true, false, not}
use mathlib.Core.List.{List}
use lib.Dec.{eqb}
use borrow.Author.Rules.{rules}
use Rattle.rules.specs.State.{mainframe, dirty_at}
use Rattle.layout.specs.Areas.{state_in}
use Rattle.layout.specs.inner.Marks.{dirty_mark}
use Rattle.layout.specs.inner.Needed.{PageMark, Holds}
use Rattle.layout.proofs.PageLaws.{dirty_read}
use Rattle.step_close.specs.inner.Parts.{change_made, page_closed}
use Rattle.step_close.specs.inner.Needed.{PageClosable, ChangeReady}

module _ (c w r m : List ℕ) (p g : ℕ) (ready : PageClosable c w r m p g) where
  -- its mark lies within the area
  pub close_mark : PageMark m p g
  close_mark = record { marks = ready.lent.marks; from = ready.from; to = ready.to; page = ready.page }

  module _ (b : Bool) (said : b ≡ not (eqb (dirty_mark m p g) 0)) where
    says_dirty : b ≡ dirty_at (state_in mainframe c w r m).pages p g
    unfolding dirty_at state_in
    says_dirty = said ∙ rw (dirty_read w m p g ready.from ready.to ready.page)

    -- a dirty page can be made a record
    pub change_ready : b ≡ true → ChangeReady c w r m p g
    change_ready e =
        record {
          lent = ready.lent;
          from = ready.from;
          to = ready.to;
          page = ready.page;
          own_fits_lem = ready.own_fits_lem;
          room = ready.room (sym says_dirty ∙ e);
        }

    -- it is closed by that
    pub page_changed : (r' m' : List ℕ) → b ≡ true → Holds c w r' m' (change_made (state_in mainframe c w r m) p g) → Holds c w r' m' (page_closed (state_in mainframe c w r m) p g)
    unfolding change_made page_closed
    page_changed r' m' e after = record { lent = after.lent; is = after.is ∙ rw (← says_dirty, e) }

    -- a clean page is closed already
    pub page_left : b ≡ false → Holds c w r m (page_closed (state_in mainframe c w r m) p g)
    unfolding page_closed
    page_left e = record { lent = ready.lent; is = rw (← says_dirty, e) }

pub ruleset page_close_laws = (close_mark, change_ready, page_changed, page_left, rules)
