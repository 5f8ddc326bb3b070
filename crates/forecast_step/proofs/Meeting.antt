-- Arrivals by the marks and the own entries: the processor is marked, a round is completed, garbage is collected. One law for each way of the code;
-- `collect_laws`, `round_laws` and `meet_laws`. Rests on Foreseeing. Assumes nothing.
use Prim.Native.Nat.{ℕ}
use mathlib.Core.Path.{◌≡◌, sym, ap, ◌∙◌}
use mathlib.Core.Bool.{Bool, true, false, not}
use mathlib.Core.List.{List, [], ◌∷◌}
use lib.ListN.{length, set, length-set, replicate, length-replicate}
use lib.Seq.{sets, length-sets}
use lib.Dec.{eqb}
use borrow.Author.Rules.{rules}
use Rattle.limits.specs.Limits.{processor_limit}
use Rattle.limits.specs.Places.{first_arrived, wanted_place}
use Rattle.limits.specs.inner.Sizes.{mark_area}
use Rattle.rules.specs.Close.{closed}
use Rattle.rules.specs.State.{mainframe, with_wanted, State, with_marks, with_records, has_arrived}
use Rattle.rules.specs.Steps.{at_barrier, all_arrived, wants_collection}
use Rattle.rules.specs.Refusals.{Arrive}
use Rattle.rules.specs.Forecast.{Forecast, bare, closed_for, marks_for, round_for, collected_for, completed_for, barrier_for, forecast_after}
use Rattle.rules.proofs.Foretold.{seen_in}
use Rattle.layout.specs.Areas.{arrived_place, state_in}
use Rattle.layout.specs.inner.Marks.{wish_mark, with_standing}
use Rattle.layout.specs.inner.Needed.{MarksOf}
use Rattle.layout.proofs.MarkLaws.{wanted_read, standing_length, standing_written, wanted_written, arrived_written, arrived_cleared}
use Rattle.layout.proofs.RowLaws.{map_replicate}
use Rattle.refusals.specs.inner.Parts.{seen}
use Rattle.barrier_marks.specs.inner.Needed.{AbsentAway}
use Rattle.barrier_marks.specs.inner.Effects.{OneMissing}
use Rattle.barrier_marks.proofs.Counting.{last_arrives}
use Rattle.forecast_step.specs.Memory.{forecast_in}
use Rattle.forecast_step.specs.inner.Parts.{BothLent, ArrivalForeseen, Shows, round_completed}
use Rattle.forecast_step.proofs.Foreseeing.{away_foreseen, pages_foreseen, marks_shown}

-- ---- garbage collection

module _ (own m : List ℕ) (h : BothLent own m) (m₁ : List ℕ) (none : m₁ ≡ with_standing m 0) where
  -- the marks are as many
  pub emptied_marks : length m₁ ≡ mark_area
  emptied_marks = ap length none ∙ standing_length m 0 h.marks

  -- no record stands, nothing is wanted, and no own entry is left
  pub collection_shown : (own' m₂ : List ℕ) → m₂ ≡ set m₁ wanted_place 0 → own' ≡ replicate (length own) 0 → Shows own' m₂ (collected_for (forecast_in own m))
  unfolding forecast_in seen_in collected_for seen state_in
  collection_shown own' m₂ wish zeros =
      record {
        entries = ap length zeros ∙ length-replicate (length own) 0 ∙ h.entries;
        marks = ap length wish ∙ length-set m₁ wanted_place 0 ∙ emptied_marks;
        is =
            ap (λ (s : State). seen_in s (0 ∷ own'))
            (ap seen wish ∙ wanted_written [] [] [] m₁ 0 emptied_marks
            ∙ ap (λ (s : State). with_marks s (with_wanted s.marks 0)) (ap seen none ∙ standing_written [] [] [] m 0 h.marks))
            ∙ ap (λ (e : List ℕ). seen_in (with_marks (with_records (seen m) (record { standing = 0; slots = (seen m).records.slots })) (with_wanted (seen m).marks 0)) (0 ∷ e))
            (zeros ∙ sym (map_replicate own 0));
      }

-- ---- a completed round

module _ (own m : List ℕ) (h : BothLent own m) (m₁ : List ℕ) (cleared : m₁ ≡ sets m first_arrived (replicate processor_limit 0)) where
  -- the areas have their sizes
  pub cleared_lent : BothLent own m₁
  cleared_lent = record { entries = h.entries; marks = ap length cleared ∙ length-sets m first_arrived (replicate processor_limit 0) ∙ h.marks }

  round_shown : forecast_in own m₁ ≡ round_for (forecast_in own m)
  unfolding round_for forecast_in seen_in seen
  round_shown = marks_shown own m m₁ _ (ap seen cleared ∙ arrived_cleared [] [] [] m h.marks)

  module _ (b : Bool) (is : b ≡ not (eqb (wish_mark m₁) 0)) where
    wish_is : b ≡ wants_collection (bare (forecast_in own m))
    unfolding wants_collection bare forecast_in seen_in seen round_for marks_for
    wish_is = is ∙ ap (λ (x : ℕ). not (eqb x 0)) (sym (wanted_read [] [] [] m₁) ∙ ap (λ (f : Forecast). f.marks.wanted) round_shown)

    -- nothing is collected
    pub round_plain : b ≡ false → Shows own m₁ (round_completed (forecast_in own m))
    unfolding round_completed
    round_plain e = record { entries = h.entries; marks = cleared_lent.marks; is = rw (← wish_is, e) round_shown }

    -- garbage is collected
    pub round_collects : (own' m₂ : List ℕ) → b ≡ true → Shows own' m₂ (collected_for (forecast_in own m₁)) → Shows own' m₂ (round_completed (forecast_in own m))
    unfolding round_completed
    round_collects own' m₂ e k = record { entries = k.entries; marks = k.marks; is = rw (← wish_is, e) (k.is ∙ ap collected_for round_shown) }

-- ---- an arrival

module _ (own m : List ℕ) (p : ℕ) (h : ArrivalForeseen own m p) where
  -- the others can be counted
  pub others_counted : AbsentAway m
  others_counted = away_foreseen own m h.acts.foreseen

  module _ (own₁ m₁ : List ℕ) (k : Shows own₁ m₁ (closed_for (forecast_in own m) p)) where
    -- the processor's mark has its place
    pub arrived_there : MarksOf m₁ p
    arrived_there = record { marks = k.marks; from = h.acts.from; to = (pages_foreseen own m p h.acts).to }

    module _ (m₂ : List ℕ) (marked : m₂ ≡ set m₁ (arrived_place mainframe p) 1) where
      -- the areas have their sizes
      pub marked_lent : BothLent own₁ m₂
      marked_lent = record { entries = k.entries; marks = ap length marked ∙ length-set m₁ (arrived_place mainframe p) 1 ∙ k.marks }

      barrier_shown : forecast_in own₁ m₂ ≡ barrier_for (closed_for (forecast_in own m) p) p
      unfolding barrier_for forecast_in seen_in seen
      barrier_shown =
          marks_shown own₁ m₁ m₂ _ (ap seen marked ∙ arrived_written [] [] [] m₁ 1 k.marks p h.acts.from arrived_there.to)
          ∙ ap (λ (f : Forecast). barrier_for f p) k.is

      module _ (b : Bool) (one : OneMissing m b) where
        answer_is : b ≡ all_arrived (bare (barrier_for (closed_for (forecast_in own m) p) p))
        unfolding all_arrived has_arrived at_barrier closed bare barrier_for marks_for closed_for forecast_in seen_in seen state_in
        answer_is = one.is [] [] [] ∙ last_arrives (seen m) p h.acts.from h.acts.to h.not_arrived

        -- others are awaited
        pub not_the_last : b ≡ false → Shows own₁ m₂ (forecast_after mainframe (forecast_in own m) p Arrive)
        unfolding forecast_after completed_for
        not_the_last e = record { entries = k.entries; marks = marked_lent.marks; is = rw (← answer_is, e) barrier_shown }

        -- the last completes the round
        pub last_completes : (own₂ m₃ : List ℕ) → b ≡ true → Shows own₂ m₃ (round_completed (forecast_in own₁ m₂)) → Shows own₂ m₃ (forecast_after mainframe (forecast_in own m) p Arrive)
        unfolding forecast_after completed_for round_completed
        last_completes own₂ m₃ e r = record { entries = r.entries; marks = r.marks; is = rw (← answer_is, e) (r.is ∙ ap round_completed barrier_shown) }

pub ruleset collect_laws = (emptied_marks, collection_shown, rules)

pub ruleset round_laws = (cleared_lent, round_plain, round_collects, rules)

pub ruleset meet_laws = (others_counted, arrived_there, marked_lent, not_the_last, last_completes, rules)
