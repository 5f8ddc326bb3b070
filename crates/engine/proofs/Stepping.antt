-- A step on memory in order: refused or done as the rules say. One law for each way of the code, and `stepping_laws`. Assumes nothing.
use Prim.Native.Nat.{ℕ, ◌-◌, ◌≤◌}
use native.Mathlib.Omega.{arith}
use mathlib.Core.Path.{◌≡◌, refl, sym, ap, ◌∙◌}
use mathlib.Core.Bool.{Bool, true, false, cond, not, ◌&&◌, and-eq-true_iff}
use mathlib.Core.List.{List}
use lib.ListN.{length, take, drop}
use borrow.Author.Tests.{not-true, not-false, eq-eqb, ne_eqb}
use borrow.Author.Rules.{rules}
use Rattle.limits.specs.inner.Sizes.{bound_area, first_bound, index_area}
use Rattle.rules.specs.Refusals.{Step, step_of, accepted_as, refused_with, action_of, effect, known_kind, refusal_in_order, answer_in_order, next_in_order}
use Rattle.rules.specs.State.{mainframe, State, own}
use Rattle.rules.proofs.inorder.Kept.{next_keeps_order}
use Rattle.layout.specs.Areas.{state_in, areas, holding}
use Rattle.layout.specs.inner.Needed.{Ready, OwnEntry, ClocksOf}
use Rattle.layout.proofs.Encoding.{holding_is}
use Rattle.refusals.specs.inner.Bounds.{bounds_of}
use Rattle.refusals.specs.inner.Parts.{seen, fields_in_range, may_act, step_in_range, early_refusal, refusal_of_kind}
use Rattle.refusals.specs.inner.Needed.{MarksCountable, BoundsOf, FittingStep}
use Rattle.refusals.proofs.Fitting.{bounds_are}
use Rattle.refusals.proofs.Refusing.{counted_when_ready, table_decides, refusal_in_two, fitting_step}
use Rattle.step_collect.specs.inner.Needed.{ReadyKept}
use Rattle.step_act.specs.Telling.{Outcome}
use Rattle.std.specs.Prelude.{Err}
use Rattle.limits.specs.declared.Refusal.{Refusal}
use Rattle.limits.specs.Refused.{number_of}
use Rattle.limits.proofs.Refused.{number_of_pos}
use Rattle.step_fields.specs.declared.kinds.Kind.{Kind}
use Rattle.step_fields.specs.Kinds.{number_of_kind}
use Rattle.step_act.specs.inner.Needed.{ActingKept, DoneAs, DoneKept}
use Rattle.step_act.proofs.Telling.{refused_tells}
use Rattle.engine.specs.inner.Needed.{RefusalIs, Refusable, RefusalBy, SteppedAs, SteppedKept}

apart : true ≡ false → ⊥
apart e = let z : ◌≡◌ {A = ℕ} 0 1 = cc in omega (arith, z)

-- ---- refused, or done

module _ (s : State) (t : Step) (n : ℕ) (e : n ≡ refusal_in_order mainframe s t) where
  refused_answer : (n ≡ 0 → ⊥) → answer_in_order mainframe s t ≡ refused_with n
  unfolding answer_in_order
  refused_answer z = rw (← e, ne_eqb n 0 z)

  refused_next : (n ≡ 0 → ⊥) → next_in_order mainframe s t ≡ s
  unfolding next_in_order
  refused_next z = rw (← e, ne_eqb n 0 z)

  done_answer : n ≡ 0 → answer_in_order mainframe s t ≡ accepted_as (effect mainframe s t.processor (action_of t))
  unfolding answer_in_order
  done_answer z = rw (← e, eq-eqb n 0 z)

  done_next : n ≡ 0 → next_in_order mainframe s t ≡ (effect mainframe s t.processor (action_of t)).after
  unfolding next_in_order
  done_next z = rw (← e, eq-eqb n 0 z)

-- ---- the refusal by the bounds, the own entry and the marks

module _ (c m x : List ℕ) (h : Refusable c m x) where
  -- the bounds lie at the end of the index
  pub bounds_within : index_area ≤ length x
  bounds_within = omega (arith, h.index)

  -- the marks count what they may
  pub marks_counted : MarksCountable m
  marks_counted = h.counted

  -- the part that is lent are the bounds of the marks
  pub bounds_lent : BoundsOf m (take (index_area - first_bound) (drop first_bound x))
  unfolding bounds_of
  bounds_lent =
      let whole : take bound_area (drop first_bound x) ≡ bounds_of m = ap (take bound_area) h.bounds in
      rw whole (bounds_are m)

  module _ (k p o v : ℕ) (b : Bool) (e : b ≡ step_in_range (seen m) k p o v) where
    -- a row up to 6 refuses
    pub refused_early : (n : ℕ) → not b ≡ true → n ≡ early_refusal (seen m) k p o v → RefusalBy c m (step_of k p o v) n
    unfolding step_of
    refused_early n z en =
        record {
          is =
              λ w r.
              record {
                is =
                    table_decides c w r m (step_of k p o v) (own (state_in mainframe c w r m) p) n
                    (sym (refusal_in_two (seen m) k p o v (own (state_in mainframe c w r m) p)
                    ∙ ap (λ (d : Bool). cond d (refusal_of_kind (seen m) (own (state_in mainframe c w r m) p) k p o) (early_refusal (seen m) k p o v)) (sym e ∙ not-true b z)
                    ∙ sym en)) refl;
              };
        }

    module _ (f : not b ≡ false) where
      fit : step_in_range (seen m) k p o v ≡ true
      fit = sym e ∙ not-false b f

      -- the step fits
      pub step_fits : FittingStep m k p o
      step_fits = fitting_step m k p o v h.counted fit

      -- its kind is known
      kind_known : known_kind k ≡ true
      unfolding step_in_range
      kind_known =
          let first = (and-eq-true_iff (known_kind k && fields_in_range (seen m) k o v) (may_act (seen m) p)).0 fit in
          ((and-eq-true_iff (known_kind k) (fields_in_range (seen m) k o v)).0 first.0).0

      pub not_unknown : known_kind k ≡ false → ⊥
      not_unknown z = apart (sym kind_known ∙ z)

      -- its processor has rows
      pub own_there : ClocksOf c p
      own_there = record { clocks = h.clocks; from = step_fits.by.from; to = step_fits.by.to }

      -- a later row refuses, or none
      pub refused_late : (own' n : ℕ) → OwnEntry c p own' → n ≡ refusal_of_kind (seen m) own' k p o → RefusalBy c m (step_of k p o v) n
      unfolding step_of
      refused_late own' n d en =
          record {
            is =
                λ w r.
                record {
                  is =
                      table_decides c w r m (step_of k p o v) own' n
                      (sym (refusal_in_two (seen m) k p o v own'
                      ∙ ap (λ (t : Bool). cond t (refusal_of_kind (seen m) own' k p o) (early_refusal (seen m) k p o v)) fit
                      ∙ sym en)) (d.is w r m);
                };
          }

-- ---- a step on memory in order, with the index

module _ (c w r m x : List ℕ) (h : ReadyKept c w r m x) where
  -- its refusal can be asked
  pub ready_refusable : Refusable c m x
  ready_refusable = record { clocks = h.ready.lent.clocks; counted = counted_when_ready c w r m h.ready; index = h.kept.ranked.long; bounds = h.kept.bounds }

module _ (c w r m : List ℕ) (k p o v : ℕ) (h : Ready c w r m) where
  refused_as : (u : Refusal) → RefusalIs (state_in mainframe c w r m) (step_of k p o v) (number_of u)
      → SteppedAs (state_in mainframe c w r m) (step_of k p o v) (Err u) c w r m
  refused_as u e =
      record {
        outcome = rw (refused_answer (state_in mainframe c w r m) (step_of k p o v) (number_of u) e.is (number_of_pos u)) (refused_tells u);
        areas = record { lent = h.lent; is = sym (refused_next (state_in mainframe c w r m) (step_of k p o v) (number_of u) e.is (number_of_pos u)) };
      }

  done_as : (x : Outcome) (c' w' r' m' : List ℕ) → RefusalIs (state_in mainframe c w r m) (step_of k p o v) 0
      → DoneAs (effect mainframe (state_in mainframe c w r m) p (action_of (step_of k p o v))) x c' w' r' m'
      → SteppedAs (state_in mainframe c w r m) (step_of k p o v) x c' w' r' m'
  unfolding step_of
  done_as x c' w' r' m' e d =
      record {
        outcome = rw (done_answer (state_in mainframe c w r m) (step_of k p o v) 0 e.is refl) d.outcome;
        areas = record { lent = d.areas.lent; is = d.areas.is ∙ sym (done_next (state_in mainframe c w r m) (step_of k p o v) 0 e.is refl) };
      }

module _ (c w r m x : List ℕ) (k p o v : ℕ) (h : ReadyKept c w r m x) where
  -- a refused step leaves every area as it was, and the index
  pub step_refused : (u : Refusal) → RefusalBy c m (step_of k p o v) (number_of u) → SteppedKept (state_in mainframe c w r m) (step_of k p o v) (Err u) c w r m x
  step_refused u e = record { stepped = refused_as c w r m k p o v h.ready u (e.is w r); kept = h.kept }

  -- one that no row refuses can act, by its kind
  pub step_acts : (kind : Kind) → number_of_kind kind ≡ k → RefusalBy c m (step_of k p o v) 0 → ActingKept c w r m (number_of_kind kind) p o v x
  step_acts kind q e = record { acting = record { ready = h.ready; accepted = rw q (sym (e.is w r).is) }; kept = h.kept }

  -- and has acted then
  pub step_done : (kind : Kind) → number_of_kind kind ≡ k → (y : Outcome) (c' w' r' m' x' : List ℕ) → RefusalBy c m (step_of k p o v) 0
      → DoneKept (effect mainframe (state_in mainframe c w r m) p (action_of (step_of (number_of_kind kind) p o v))) y c' w' r' m' x'
      → SteppedKept (state_in mainframe c w r m) (step_of k p o v) y c' w' r' m' x'
  step_done kind q y c' w' r' m' x' e d =
      let d' : DoneKept (effect mainframe (state_in mainframe c w r m) p (action_of (step_of k p o v))) y c' w' r' m' x' = rw (sym q) d in
      record { stepped = done_as c w r m k p o v h.ready y c' w' r' m' (e.is w r) d'.done; kept = d'.kept }

-- ---- after a step

-- after a step on memory in order the memory is in order
pub stepped_ready : (c w r m : List ℕ) (t : Step) (x : Outcome) (c' w' r' m' : List ℕ) → Ready c w r m
    → SteppedAs (state_in mainframe c w r m) t x c' w' r' m' → Ready c' w' r' m'
stepped_ready c w r m t x c' w' r' m' h d =
    record { lent = d.areas.lent; in_order = rw d.areas.is (next_keeps_order mainframe (state_in mainframe c w r m) t h.in_order) }

-- a refused step in order leaves every area as it was
pub refused_leaves_areas : (c w r m : List ℕ) (t : Step) (n : ℕ) (x : Outcome) (c' w' r' m' : List ℕ) → Ready c w r m → RefusalIs (state_in mainframe c w r m) t n
    → (n ≡ 0 → ⊥) → SteppedAs (state_in mainframe c w r m) t x c' w' r' m' → areas c' w' r' m' ≡ areas c w r m
refused_leaves_areas c w r m t n x c' w' r' m' h e z d =
    holding_is c' w' r' m' (next_in_order mainframe (state_in mainframe c w r m) t) d.areas (next_keeps_order mainframe (state_in mainframe c w r m) t h.in_order)
    ∙ ap (λ (s : State). holding s) (refused_next (state_in mainframe c w r m) t n e.is z)
    ∙ sym (holding_is c w r m (state_in mainframe c w r m) (record { lent = h.lent; is = refl }) h.in_order)

pub ruleset stepping_laws = (bounds_within, marks_counted, bounds_lent, refused_early, step_fits, own_there, refused_late, ready_refusable, step_refused, step_acts, step_done, rules)
