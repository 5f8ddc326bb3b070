-- What completes a round of the barrier, with a collection if one is wanted: one law for each way of the code, and `complete_laws`. Assumes nothing.
use Prim.Native.Nat.{ℕ}
use mathlib.Core.Path.{◌≡◌, sym, ap, ◌∙◌}
use mathlib.Core.Bool.{Bool, true, false, not}
use mathlib.Core.List.{List}
use lib.ListN.{length}
use lib.Dec.{eqb}
use borrow.Author.Rules.{rules}
use Rattle.limits.specs.inner.Sizes.{mark_area}
use Rattle.rules.specs.State.{mainframe, State}
use Rattle.rules.specs.Steps.{round_done, Fetches, none_fetched, collected, wants_collection}
use Rattle.layout.specs.Areas.{state_in}
use Rattle.layout.specs.inner.Needed.{Lent, Ready}
use Rattle.layout.specs.inner.Marks.{wish_mark}
use Rattle.layout.proofs.MarkLaws.{wanted_read}
use Rattle.step_collect.specs.inner.Needed.{ReadyKept}
use Rattle.step_collect.specs.inner.Effects.{CountedAs, CountedKept}
use Rattle.step_barrier.specs.inner.Needed.{RoundComplete, CompleteKept, RoundThere}
use Rattle.step_barrier.specs.inner.Effects.{RoundDone, completed}

completed_plain : (s : State) → wants_collection s ≡ false → completed s ≡ none_fetched (round_done s)
unfolding completed
completed_plain s e = rw e

completed_collects : (s : State) → wants_collection s ≡ true → completed s ≡ collected mainframe (round_done s)
unfolding completed
completed_collects s e = rw e

-- the clocks and marks of the round
pub round_there : (c w r m x : List ℕ) → CompleteKept c w r m x → RoundThere c w m
round_there c w r m x h = record { clocks = h.complete.lent.clocks; words = h.complete.lent.words; marks = h.complete.lent.marks; some = h.complete.some; few = h.complete.few }

module _ (c w r m c₁ w₁ m₁ : List ℕ) (h : RoundComplete c w r m) (d : RoundDone c w m c₁ w₁ m₁) where
  lent_after : Lent c₁ w₁ r m₁
  lent_after = record { clocks = d.clocks; words = d.words; records = h.lent.records; marks = d.marks }

  -- the state is in order again
  pub round_ready : Ready c₁ w₁ r m₁
  round_ready = record { lent = lent_after; in_order = rw (d.is r) h.in_order }

  module _ (b : Bool) (is : b ≡ not (eqb (wish_mark m₁) 0)) where
    wish_is : b ≡ wants_collection (state_in mainframe c w r m)
    unfolding wants_collection round_done
    wish_is = is ∙ ap (λ (x : ℕ). not (eqb x 0)) (sym (wanted_read c₁ w₁ r m₁) ∙ ap (λ (s : State). s.marks.wanted) (d.is r))

    plain : b ≡ false → completed (state_in mainframe c w r m) ≡ none_fetched (round_done (state_in mainframe c w r m))
    plain e = completed_plain (state_in mainframe c w r m) (sym wish_is ∙ e)

    with_collection : b ≡ true → collected mainframe (state_in mainframe c₁ w₁ r m₁) ≡ completed (state_in mainframe c w r m)
    with_collection e =
        ap (λ (s : State). collected mainframe s) (d.is r) ∙ sym (completed_collects (state_in mainframe c w r m) (sym wish_is ∙ e))

    -- nothing is collected
    plain_done : b ≡ false → CountedAs (completed (state_in mainframe c w r m)) 0 0 c₁ w₁ r m₁
    plain_done e =
        let none-wanted = plain e in
        record {
          applied = ap (λ (f : Fetches). f.count) (sym none-wanted);
          moved_is = ap (λ (f : Fetches). f.words) (sym none-wanted);
          areas = record { lent = lent_after; is = d.is r ∙ ap (λ (f : Fetches). f.after) (sym none-wanted) };
        }

    -- garbage is collected
    collecting_done : (x v : ℕ) (c₂ w₂ m₂ : List ℕ) → b ≡ true → CountedAs (collected mainframe (state_in mainframe c₁ w₁ r m₁)) x v c₂ w₂ r m₂
        → CountedAs (completed (state_in mainframe c w r m)) x v c₂ w₂ r m₂
    collecting_done x v c₂ w₂ m₂ t e =
        let wish = with_collection t in
        record {
          applied = e.applied ∙ ap (λ (f : Fetches). f.count) wish;
          moved_is = e.moved_is ∙ ap (λ (f : Fetches). f.words) wish;
          areas = record { lent = e.areas.lent; is = e.areas.is ∙ ap (λ (f : Fetches). f.after) wish };
        }

-- ---- the same with the index

module _ (c w r m x c₁ w₁ m₁ : List ℕ) (h : CompleteKept c w r m x) (d : RoundDone c w m c₁ w₁ m₁) where
  -- the wish is among the marks
  pub wish_there : length m₁ ≡ mark_area
  wish_there = d.marks

  -- the state is in order again
  pub complete_ready : ReadyKept c₁ w₁ r m₁ x
  complete_ready = record { ready = round_ready c w r m c₁ w₁ m₁ h.complete d; kept = h.kept c₁ w₁ m₁ d }

  module _ (b : Bool) (is : b ≡ not (eqb (wish_mark m₁) 0)) where
    -- nothing is collected
    pub complete_plain : (n v : ℕ) → b ≡ false → (n ≡ 0) × (v ≡ 0) → CountedKept (completed (state_in mainframe c w r m)) n v c₁ w₁ r m₁ x
    complete_plain n v e z = rw (z.0, z.1) (record { counted = plain_done c w r m c₁ w₁ m₁ h.complete d b is e; kept = h.kept c₁ w₁ m₁ d })

    -- garbage is collected
    pub complete_collects : (n v : ℕ) (c₂ w₂ m₂ x₂ : List ℕ) → b ≡ true → CountedKept (collected mainframe (state_in mainframe c₁ w₁ r m₁)) n v c₂ w₂ r m₂ x₂
        → CountedKept (completed (state_in mainframe c w r m)) n v c₂ w₂ r m₂ x₂
    complete_collects n v c₂ w₂ m₂ x₂ t e = record { counted = collecting_done c w r m c₁ w₁ m₁ h.complete d b is n v c₂ w₂ m₂ t e.counted; kept = e.kept }

pub ruleset complete_laws = (round_there, wish_there, complete_plain, complete_ready, complete_collects, rules)
