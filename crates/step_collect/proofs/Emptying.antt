-- What is emptied once all have fetched, and the collection put together: one law for each way of the code, and `empty_laws`. Assumes
-- nothing.
use Prim.Native.Nat.{ℕ, ◌<◌}
use mathlib.Core.Path.{◌≡◌, sym, ap, ◌∙◌}
use mathlib.Core.Bool.{and-false}
use mathlib.Core.List.{List}
use lib.ListN.{length, set, length-set, replicate, length-replicate}
use lib.Dec.{leb}
use borrow.Author.Rules.{rules}
use borrow.Author.Tests.{lt-leb}
use Rattle.limits.specs.Places.{wanted_place}
use Rattle.limits.specs.inner.Sizes.{index_area, mark_area}
use Rattle.rules.specs.InOrder.{present, present_holder}
use Rattle.rules.specs.State.{mainframe, Processor, with_wanted, State, with_marks, clock, own}
use Rattle.rules.specs.Steps.{all_fetched, emptied, collected}
use Rattle.layout.specs.Areas.{records_in, state_in}
use Rattle.layout.specs.inner.Needed.{Ready}
use Rattle.layout.specs.inner.Marks.{processor_count, with_standing}
use Rattle.layout.proofs.ClockLaws.{clocks_zeros}
use Rattle.layout.proofs.MarkLaws.{standing_written, standing_length, wanted_written, processors_read}
use Rattle.fetch_index.specs.inner.Index.{forgotten}
use Rattle.fetch_index.proofs.Kept.{bounds_stay, forgotten_kept}
use Rattle.step_collect.specs.inner.Needed.{ReadyKept, made_intervals, OnlyMade, Emptiable}
use Rattle.step_collect.specs.inner.Effects.{CountedKept, Emptied}

-- ---- empty

-- the clocks of the processors can be cleared
pub empty_clocks : (c m : List ℕ) (n : ℕ) → Emptiable c m → (n ≡ processor_count m) × (n < 256) → OnlyMade c n
empty_clocks c m n h e = rw e.0 h.clocks

-- the records go, all clocks are zeros, the wish is clear
pub emptied_areas : (c m c' m₁ m₂ : List ℕ) → Emptiable c m → c' ≡ replicate (length c) 0 → m₁ ≡ with_standing m 0 → m₂ ≡ set m₁ wanted_place 0 → Emptied c m c' m₂
unfolding emptied state_in records_in
emptied_areas c m c' m₁ m₂ h e e₁ e₂ =
    let long : length m₁ ≡ mark_area = ap length e₁ ∙ standing_length m 0 h.marks in
    record {
      clocks = ap length e ∙ length-replicate {A = ℕ} (length c) 0 ∙ h.clocks.clocks;
      marks = ap length e₂ ∙ length-set m₁ wanted_place 0 ∙ long;
      is =
          λ w r.
          ap (state_in mainframe c' w r) e₂
          ∙ wanted_written c' w r m₁ 0 long
          ∙ ap (λ (l : List ℕ). let s = state_in mainframe c' w r l in with_marks s (with_wanted s.marks 0)) e₁
          ∙ ap (λ (s : State). with_marks s (with_wanted s.marks 0)) (standing_written c' w r m 0 h.marks)
          ∙ rw (e, clocks_zeros c);
    }

-- ---- collect

-- what the fetches left can be emptied: in order says that absent processors made no intervals, and that those not made keep zeros
pub fetched_emptiable : (c w r m : List ℕ) → Ready c w r m → Emptiable c m
unfolding own clock state_in made_intervals present_holder present mainframe
fetched_emptiable c w r m h =
    record {
      clocks =
          record {
            clocks = h.lent.clocks;
            few = h.in_order.processors_fit;
            fits = h.in_order.own_fits_lem;
            absent = λ p b. h.in_order.absent_clock (Processor p) p (rw (lt-leb p (processor_count m) b) (and-false (leb 1 p)));
            later = h.in_order.later_interval;
          };
      marks = h.lent.marks;
    }

module _ (c w r m x : List ℕ) (h : ReadyKept c w r m x) (n moved : ℕ) (c₁ w₁ x₁ : List ℕ)
    (f : CountedKept (all_fetched mainframe (state_in mainframe c w r m) (processor_count m)) n moved c₁ w₁ r m x₁) where
  -- the index has its size
  pub index_long : length x₁ ≡ index_area
  index_long = f.kept.ranked.long

  -- and then all is collected
  pub collected_done : (c₂ m₂ x₂ : List ℕ) → Emptied c₁ m c₂ m₂ → x₂ ≡ forgotten x₁ → CountedKept (collected mainframe (state_in mainframe c w r m)) n moved c₂ w₁ r m₂ x₂
  unfolding collected emptied
  collected_done c₂ m₂ x₂ e ex =
      let all : processor_count m ≡ (state_in mainframe c w r m).counts.processors = sym (processors_read c w r m) in
      record {
        counted =
            record {
              applied = f.counted.applied ∙ ap (λ (k : ℕ). (all_fetched mainframe (state_in mainframe c w r m) k).count) all;
              moved_is = f.counted.moved_is ∙ ap (λ (k : ℕ). (all_fetched mainframe (state_in mainframe c w r m) k).words) all;
              areas =
                  record {
                    lent = record { clocks = e.clocks; words = f.counted.areas.lent.words; records = f.counted.areas.lent.records; marks = e.marks };
                    is = e.is w₁ r ∙ ap (λ (u : State). emptied u) (f.counted.areas.is ∙ ap (λ (k : ℕ). (all_fetched mainframe (state_in mainframe c w r m) k).after) all);
                  };
            };
        kept = rw ex (forgotten_kept c₁ r m c₂ r m₂ x₁ f.kept (bounds_stay c₁ w₁ r m c₂ w₁ r m₂ (ap (λ (u : State). u.counts) (e.is w₁ r))));
      }

pub ruleset empty_laws = (empty_clocks, emptied_areas, fetched_emptiable, index_long, collected_done, rules)
