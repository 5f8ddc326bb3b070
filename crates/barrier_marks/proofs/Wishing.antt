-- The wish for collection: one law for each way of the code, and `wish_laws`. Assumes nothing.
use Prim.Native.Nat.{ℕ}
use mathlib.Core.Path.{◌≡◌, sym, ap, ◌∙◌}
use mathlib.Core.Bool.{Bool, true, false, not}
use mathlib.Core.List.{List}
use lib.ListN.{length, set, length-set}
use lib.Dec.{eqb}
use borrow.Author.Rules.{rules}
use Rattle.limits.specs.Places.{wanted_place}
use Rattle.limits.specs.inner.Sizes.{mark_area}
use Rattle.rules.specs.State.{mainframe}
use Rattle.rules.specs.Steps.{wants_collection, want}
use Rattle.layout.specs.Areas.{state_in}
use Rattle.layout.specs.inner.Marks.{wish_mark}
use Rattle.layout.proofs.MarkLaws.{wanted_read, wanted_written}
use Rattle.barrier_marks.specs.inner.Effects.{Wanted}

module _ (m : List ℕ) (h : length m ≡ mark_area) (b : Bool) (e : b ≡ not (eqb (wish_mark m) 0)) where
  wish_read : (c w r : List ℕ) → wants_collection (state_in mainframe c w r m) ≡ b
  unfolding wants_collection
  wish_read c w r = ap (λ (x : ℕ). not (eqb x 0)) (wanted_read c w r m) ∙ sym e

  -- it is set
  pub wish_set : (m' : List ℕ) → b ≡ false → m' ≡ set m wanted_place 1 → Wanted m m'
  unfolding want
  wish_set m' t em =
      record {
        marks = ap length em ∙ length-set m wanted_place 1 ∙ h;
        is = λ c w r. ap (state_in mainframe c w r) em ∙ wanted_written c w r m 1 h ∙ rw (wish_read c w r, t);
      }

  -- it was set
  pub wish_kept : b ≡ true → Wanted m m
  unfolding want
  wish_kept t = record { marks = h; is = λ c w r. rw (wish_read c w r, t) }

pub ruleset wish_laws = (wish_set, wish_kept, rules)
