-- The forecast of an opening, and the figures of a forecast: `opening_laws` and `figure_laws`. Rests on Foreseeing. Assumes nothing.
use Prim.Native.Nat.{ℕ}
use native.Mathlib.Omega.{arith}
use mathlib.Core.Path.{◌≡◌, refl, sym, ap, ap₂, ◌∙◌}
use mathlib.Core.Bool.{Bool, true, false, cond, not, ◌&&◌}
use mathlib.Core.List.{List}
use lib.ListN.{length, replicate}
use lib.Dec.{eqb}
use borrow.Author.Tests.{eq-eqb, not-true}
use borrow.Author.Rules.{rules}
use Rattle.limits.specs.Files.{file_record_width}
use Rattle.limits.specs.Limits.{processor_limit}
use Rattle.rules.specs.State.{mainframe, dirty_at}
use Rattle.rules.specs.InOrder.{counts_in_range, dirty_pages}
use Rattle.rules.specs.Opening.{opening_refusal, opened, zero_pages, zero_marks, rows}
use Rattle.rules.specs.Forecast.{opened_for, dirty_for, bare}
use Rattle.rules.proofs.Foretold.{opened_foretold}
use Rattle.rules.proofs.inorder.OpenedInOrder.{opened_in_order, opening_counts}
use Rattle.lists.specs.Tables.{tabulate}
use Rattle.layout.specs.Layout.{per_processor}
use Rattle.layout.specs.Areas.{state_in, pages_in, records_in, marks_in, dirty_place, holder_place, arrived_place, awaited_place, turn_place, first_place, jobs_place, standing_count}
use Rattle.opening.specs.Promises.{opening_of}
use Rattle.opening.specs.inner.Openings.{opening_fits, opened_marks, MarksOpenable, OpeningIs}
use Rattle.refusals.specs.inner.Needed.{MarksCountable}
use Rattle.refusals.specs.inner.Parts.{seen}
use Rattle.forecast_step.specs.Memory.{forecast_in}
use Rattle.forecast_step.specs.inner.Needed.{OpeningGiven, OpeningForeseen, MarksForeseen, FiguresShown}
use Rattle.forecast_step.proofs.Foreseeing.{foreseen_in_order, counted_foreseen}

-- ---- the opening

-- the marks of an opened mainframe and own entries of 0 hold its forecast
opened_shown : (bytes : List ℕ) → forecast_in (replicate processor_limit 0) (opened_marks bytes) ≡ opened_for mainframe (opening_of bytes).counts
unfolding forecast_in opened_marks opened_for opening_of state_in mainframe zero_pages pages_in records_in zero_marks marks_in per_processor tabulate rows dirty_place holder_place arrived_place awaited_place turn_place first_place jobs_place standing_count
opened_shown bytes = refl

module _ (bytes own m : List ℕ) (h : OpeningGiven bytes own m) (fits : Bool) (is : OpeningIs fits bytes) where
  -- whether it fits is whether row 2 refuses it
  refusal_by_lem : (b : Bool) → fits ≡ b → cond b 0 2 ≡ opening_refusal mainframe (opening_of bytes)
  unfolding opening_fits opening_refusal
  refusal_by_lem b e =
      ap {B = ℕ} (λ (x : Bool). cond x 0 2) (sym e ∙ is.is)
      ∙ ap {B = ℕ} (λ (x : Bool). cond (x && eqb (opening_refusal mainframe (opening_of bytes)) 0) 0 2) (eq-eqb (length bytes) file_record_width h.opening)
      ∙ go (eqb (opening_of bytes).first 0 && counts_in_range mainframe (opening_of bytes).counts && eqb (opening_of bytes).rest 0)
    where
      go : (t : Bool) → ◌≡◌ {A = ℕ} (cond (true && eqb (cond t 0 2) 0) 0 2) (cond t 0 2)
      go true = refl
      go false = refl

  -- 2: both areas stay as they were
  pub opening_refused : not fits ≡ true → OpeningForeseen bytes own m 2 own m
  opening_refused z =
      record { refused = refusal_by_lem false (not-true fits z); after = refl; entries = h.entries; marks = h.marks; foreseen = λ e. absurd (omega (arith, e)) }

  module _ (z : fits ≡ true) where
    -- the marks may be laid
    pub marks_there : MarksOpenable bytes m
    marks_there = record { marks = h.marks; opening = h.opening }

    -- 0: the forecast of the opened mainframe
    pub opening_laid : (own' m' : List ℕ) → own' ≡ replicate (length own) 0 → m' ≡ opened_marks bytes → OpeningForeseen bytes own m 0 own' m'
    opening_laid own' m' eo em =
        record {
          refused = refusal_by_lem true z;
          after = shown;
          entries = ap length zeros;
          marks = ap length em ∙ (unfold opened_marks in refl);
          foreseen = λ e.
              record {
                entries = ap length zeros;
                marks = ap length em ∙ (unfold opened_marks in refl);
                state = opened mainframe (opening_of bytes).counts;
                in_order = opened_in_order mainframe (opening_of bytes).counts (opening_counts mainframe (opening_of bytes) (sym (refusal_by_lem true z)));
                foretold = rw shown (opened_foretold mainframe (opening_of bytes).counts);
              };
        }
      where
        zeros : own' ≡ replicate processor_limit 0
        zeros = eo ∙ ap (λ (n : ℕ). replicate n 0) h.entries

        shown : forecast_in own' m' ≡ opened_for mainframe (opening_of bytes).counts
        shown = ap₂ forecast_in zeros em ∙ opened_shown bytes

pub ruleset opening_laws = (opening_refused, marks_there, opening_laid, rules)

-- ---- the figures

-- what the marks count may be asked
pub figures_there : (m : List ℕ) (h : MarksForeseen m) → MarksCountable m
figures_there m h = counted_foreseen h.own m h.foreseen

module _ (m : List ℕ) (h : MarksForeseen m) (n d : ℕ) (en : n ≡ standing_count m) (ed : d ≡ dirty_pages (seen m)) where
  pub figures_shown : FiguresShown m n d
  unfolding forecast_in dirty_for dirty_pages bare seen state_in records_in dirty_at mainframe
  figures_shown = record { is_standing = λ own. en; is_dirty = λ own. ed; few = rw (en, ed) (foreseen_in_order h.own m h.foreseen).room }

pub ruleset figure_laws = (figures_there, figures_shown, rules)
