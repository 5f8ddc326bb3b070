-- Acquire and release by the marks and the own entries, put together from closing and the lines of waiters: one law for each way of the code, and
-- `lock_laws`. Rests on Foreseeing. Assumes nothing.
use Prim.Native.Nat.{ℕ}
use native.Mathlib.Omega.{arith}
use mathlib.Core.Path.{ap, ◌∙◌}
use mathlib.Core.List.{List, []}
use borrow.Author.Rules.{rules}
use Rattle.rules.specs.InOrder.{present}
use Rattle.rules.specs.Lines.{lock_asked, lock_handed}
use Rattle.rules.specs.State.{mainframe}
use Rattle.rules.specs.Refusals.{Acquire, Release}
use Rattle.rules.specs.Forecast.{Forecast, bare, closed_for, marks_for, forecast_after}
use Rattle.rules.proofs.Foretold.{seen_in}
use Rattle.layout.specs.Areas.{marks_in, state_in}
use Rattle.layout.specs.inner.Marks.{processor_count}
use Rattle.refusals.specs.inner.Parts.{seen}
use Rattle.lock_line.specs.inner.Needed.{LineThere, InLine, Hands}
use Rattle.lock_line.specs.inner.Effects.{MarksBecome}
use Rattle.lock_line.proofs.Standing.{hands_in_order}
use Rattle.forecast_step.specs.Memory.{forecast_in}
use Rattle.forecast_step.specs.inner.Parts.{LockForeseen, Shows}
use Rattle.forecast_step.proofs.Foreseeing.{ForecastInOrder, foreseen_in_order, counted_foreseen, pages_foreseen, closed_foreseen, marks_shown}

module _ (own m : List ℕ) (p l : ℕ) (h : LockForeseen own m p l) where
  -- once the interval is closed
  module _ (own₁ m₁ : List ℕ) (k : Shows own₁ m₁ (closed_for (forecast_in own m) p)) where
    in_order : ForecastInOrder mainframe (forecast_in own₁ m₁)
    in_order = foreseen_in_order own₁ m₁ (closed_foreseen own m p h.acts own₁ m₁ k)

    line_there : LineThere m₁ l
    unfolding forecast_in seen_in seen state_in mainframe
    line_there = record { marks = k.marks; processors = in_order.processors_fit; lock = omega (arith, h.lock, (counted_foreseen own m h.acts.foreseen).locks) }

    -- lock and processor have their places
    pub asker_in_line : InLine m₁ l p
    asker_in_line = record { line = line_there; from = h.acts.from; to = (pages_foreseen own m p h.acts).to }

    -- where nobody is first nobody waits
    pub line_hands : Hands m₁ l
    unfolding forecast_in seen_in bare seen state_in mainframe present
    line_hands = hands_in_order [] [] [] m₁ l line_there in_order.lines in_order.absent_awake

    -- the lock is asked for
    pub asked_shown : (m₂ : List ℕ) → MarksBecome m₁ m₂ (lock_asked (processor_count m₁) (marks_in mainframe m₁) l p) → Shows own₁ m₂ (forecast_after mainframe (forecast_in own m) p (Acquire l))
    unfolding forecast_after forecast_in seen_in seen state_in
    asked_shown m₂ t =
        record {
          entries = k.entries;
          marks = t.long;
          is = marks_shown own₁ m₁ m₂ _ (t.is [] [] []) ∙ ap (λ (f : Forecast). marks_for f (lock_asked f.counts.processors f.marks l p)) k.is;
        }

    -- or handed on
    pub handed_shown : (m₂ : List ℕ) → MarksBecome m₁ m₂ (lock_handed (processor_count m₁) (marks_in mainframe m₁) l) → Shows own₁ m₂ (forecast_after mainframe (forecast_in own m) p (Release l))
    unfolding forecast_after forecast_in seen_in seen state_in
    handed_shown m₂ t =
        record {
          entries = k.entries;
          marks = t.long;
          is = marks_shown own₁ m₁ m₂ _ (t.is [] [] []) ∙ ap (λ (f : Forecast). marks_for f (lock_handed f.counts.processors f.marks l)) k.is;
        }

pub ruleset lock_laws = (asker_in_line, line_hands, asked_shown, handed_shown, rules)
