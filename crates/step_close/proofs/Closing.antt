-- The whole of closing: the interval begins, then all pages are closed. One law for each way of the code, and `close_laws`. Assumes nothing.
use Prim.Native.Nat.{ℕ, ◌+◌, ◌≤◌}
use native.Mathlib.Omega.{arith}
use mathlib.Core.Path.{◌≡◌, ap, ◌∙◌}
use mathlib.Core.Bool.{true, cond}
use mathlib.Core.List.{List}
use borrow.Author.Tests.{le-leb}
use borrow.Author.Rules.{rules}
use Rattle.lists.specs.Tables.{total}
use Rattle.limits.specs.Limits.{interval_limit, page_limit, processor_limit, record_limit}
use Rattle.rules.specs.Close.{closed}
use Rattle.rules.specs.InOrder.{present}
use Rattle.rules.specs.State.{mainframe, dirty_at, State, clock, own}
use Rattle.rules.proofs.inorder.Facts.{InOrder}
use Rattle.rules.proofs.inorder.KeptParts.{parts_of}
use Rattle.rules.proofs.inorder.KeptRounds.{own_ticked_same}
use Rattle.rules.proofs.inorder.KeptClose.{closing_ready}
use Rattle.rules.proofs.Space.{closing_finds_room}
use Rattle.layout.specs.Areas.{records_in, state_in, standing_count}
use Rattle.layout.specs.inner.Marks.{page_count}
use Rattle.layout.specs.inner.Needed.{Holds}
use Rattle.step_close.specs.inner.Parts.{all_closed, Ticked}
use Rattle.step_close.specs.inner.Needed.{ActsDirty, Closable, Tickable}
use Rattle.step_close.proofs.InSequence.{closed_in_sequence_lem}

module _ (c w r m : List ℕ) (p : ℕ) (ready : ActsDirty c w r m p) where
  abbrev before : State
  before = state_in mainframe c w r m

  on_machine : p ≤ processor_limit
  unfolding mainframe
  on_machine = omega (arith, ready.acts.to, ready.acts.in_order.processors_fit)

  here : present before p ≡ true
  unfolding present
  here = rw (le-leb 1 p ready.acts.from, le-leb p before.counts.processors ready.acts.to)

  own_left : own before p + 1 ≤ interval_limit
  unfolding mainframe
  own_left = (closing_finds_room mainframe before p ready.acts.in_order here).interval_fits ready.dirty

  -- a processor with a dirty page has an interval left
  pub close_ticks : Tickable c p
  unfolding own clock state_in
  close_ticks = record { clocks = ready.acts.lent.clocks; from = ready.acts.from; to = on_machine; left = λ w₁ r₁ m₁. omega (arith, own_left) }

  module _ (c' : List ℕ) (t : Ticked c c' p) where
    -- and room for the records of its dirty pages
    pub close_ready : Closable c' w r m p
    close_ready =
        record {
          lent = record { clocks = t.as_long ∙ ready.acts.lent.clocks; words = ready.acts.lent.words; records = ready.acts.lent.records; marks = ready.acts.lent.marks };
          from = ready.acts.from;
          to = on_machine;
          pages = few_pages ready.acts.in_order;
          own_fits_lem = omega (arith, own_begun, own_left);
          room = room_kept_lem (closing_ready mainframe before p (parts_of mainframe before ready.acts.in_order) (unfold present in here)).room;
        }
      where
        few_pages : InOrder mainframe before → page_count m ≤ page_limit
        few_pages f = unfold mainframe state_in in f.pages_fit

        own_begun : own (state_in mainframe c' w r m) p ≡ own before p + 1
        own_begun = ap (λ (s : State). own s p) (t.is w r m) ∙ (unfold own clock in own_ticked_same before p ready.acts.from)

        room_kept_lem : before.records.standing + total before.counts.pages (λ g. cond (dirty_at before.pages p g) 1 0) ≤ mainframe.records
            → standing_count m + total (page_count m) (λ g. cond (dirty_at (state_in mainframe c' w r m).pages p g) 1 0) ≤ record_limit
        room_kept_lem h = unfold mainframe state_in records_in in h

    -- all pages closed then, the areas hold the closed state
    pub close_done : (r' m' : List ℕ) → Holds c' w r' m' (all_closed (state_in mainframe c' w r m) p) → Holds c' w r' m' (closed before p)
    close_done r' m' after =
        record {
          lent = after.lent;
          is =
              after.is ∙ ap (λ (s : State). all_closed s p) (t.is w r m)
              ∙ closed_in_sequence_lem mainframe before p ready.acts.in_order ready.acts.from ready.acts.to ready.dirty;
        }

pub ruleset close_laws = (close_ticks, close_ready, close_done, rules)
