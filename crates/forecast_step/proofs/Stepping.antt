-- A step of the forecast: its refusal, and what it leaves, refused or done. One law for each way of the code, `refusal_laws` and `step_laws`. Rests on
-- Foreseeing. Assumes nothing.
use Prim.Native.Nat.{ℕ, ◌-◌, ◌≤◌, ◌<◌}
use native.Mathlib.Omega.{arith}
use mathlib.Core.Path.{◌≡◌, refl, sym, ap, ◌∙◌}
use mathlib.Core.Bool.{true}
use mathlib.Core.List.{List, ◌∷◌}
use lib.ListN.{length, get_or}
use borrow.Author.Tests.{ne_eqb}
use borrow.Author.Rules.{rules}
use Rattle.limits.specs.Refused.{number_of}
use Rattle.limits.specs.declared.Refusal.{Refusal}
use Rattle.rules.specs.State.{mainframe}
use Rattle.rules.specs.Refusals.{Step, step_of, action_of, known_kind, refusal_by, next_in_order}
use Rattle.rules.specs.Forecast.{Forecast, own_for, forecast_refusal, forecast_after, forecast_next}
use Rattle.rules.proofs.Foretold.{seen_in, refusal_seen, refusal_foretold, next_foretold}
use Rattle.rules.proofs.inorder.Accepted.{accepted_says}
use Rattle.rules.proofs.inorder.Kept.{next_keeps_order}
use Rattle.rules.proofs.inorder.KindsOfSteps.{by_kind}
use Rattle.step_fields.specs.Kinds.{number_of_kind}
use Rattle.step_fields.specs.declared.kinds.Kind.{Kind}
use Rattle.refusals.specs.inner.Needed.{FittingStep}
use Rattle.refusals.specs.inner.Parts.{seen, early_refusal, refusal_of_kind}
use Rattle.limits.proofs.Refused.{number_of_pos}
use Rattle.refusals.proofs.Refusing.{early_decides, step_fits, kind_decides}
use Rattle.forecast_step.specs.Memory.{forecast_in}
use Rattle.forecast_step.specs.inner.Needed.{Foreseen, StepForeseen}
use Rattle.forecast_step.specs.inner.Parts.{AcceptedForeseen, Shows}
use Rattle.forecast_step.proofs.Foreseeing.{entry_at, counted_foreseen}

-- ---- the refusal

-- the table by the marks and the own entry is the forecast's
table_shown : (own m : List ℕ) (t : Step) → refusal_by mainframe (seen m) (get_or (0 ∷ own) t.processor 0) t ≡ forecast_refusal mainframe (forecast_in own m) t
unfolding forecast_refusal own_for forecast_in seen_in seen
table_shown own m t = refusal_seen mainframe (seen m) (0 ∷ own) (get_or (0 ∷ own) t.processor 0) t

module _ (own m : List ℕ) (k p o v : ℕ) where
  -- a row up to 17 refuses
  pub refused_early : (r : Refusal) → number_of r ≡ early_refusal (seen m) k p o v → number_of r ≡ forecast_refusal mainframe (forecast_in own m) (step_of k p o v)
  refused_early r early =
      early_decides m k p o v (number_of r) early (get_or (0 ∷ own) (step_of k p o v).processor 0) (number_of_pos r)
      ∙ table_shown own m (step_of k p o v)

  module _ (h : Foreseen own m) (none : 0 ≡ early_refusal (seen m) k p o v) where
    -- the step fits
    pub step_fitting : FittingStep m k p o
    step_fitting = step_fits m k p o v 0 none refl (counted_foreseen own m h)

    -- its processor has an own entry
    pub fitting_from : 1 ≤ p
    fitting_from = step_fitting.by.from

    pub own_entry_read : p - 1 < length own
    own_entry_read = omega (arith, step_fitting.by.from, step_fitting.by.to, h.entries)

    -- a later row refuses, or none
    pub refused_late : (n : ℕ) → n ≡ refusal_of_kind (seen m) (get_or own (p - 1) 0) k p o → n ≡ forecast_refusal mainframe (forecast_in own m) (step_of k p o v)
    unfolding step_of
    refused_late n e =
        kind_decides m k p o v 0 none refl (get_or own (p - 1) 0) n e
        ∙ ap (λ (n : ℕ). refusal_by mainframe (seen m) n (step_of k p o v)) (entry_at own p fitting_from)
        ∙ table_shown own m (step_of k p o v)

pub ruleset refusal_laws = (counted_foreseen, refused_early, step_fitting, fitting_from, own_entry_read, refused_late, rules)

-- ---- the step

-- what a step leaves depends on no value
value_unused : (f : Forecast) (k p o v : ℕ) → known_kind k ≡ true → forecast_after mainframe f p (action_of (step_of k p o v)) ≡ forecast_after mainframe f p (action_of (step_of k p o 0))
unfolding forecast_after action_of step_of
value_unused f k p o v known =
    by_kind (λ j. forecast_after mainframe f p (action_of (step_of j p o v)) ≡ forecast_after mainframe f p (action_of (step_of j p o 0))) refl refl refl refl refl refl refl refl refl refl k known

-- the forecast of the next state is that of some state in order
next_foreseen : (own m : List ℕ) (t : Step) (own' m' : List ℕ) → Foreseen own m → Shows own' m' (forecast_next mainframe (forecast_in own m) t) → Foreseen own' m'
next_foreseen own m t own' m' h k =
    record {
      entries = k.entries;
      marks = k.marks;
      state = next_in_order mainframe h.state t;
      in_order = next_keeps_order mainframe h.state t h.in_order;
      foretold = rw k.is (next_foretold mainframe h.state (forecast_in own m) t h.in_order h.foretold);
    }

stepped : (own m : List ℕ) (t : Step) (x : ℕ) (own' m' : List ℕ) → Foreseen own m → x ≡ forecast_refusal mainframe (forecast_in own m) t
    → Shows own' m' (forecast_next mainframe (forecast_in own m) t) → StepForeseen own m t x own' m'
stepped own m t x own' m' h e k = record { refused = e; after = k.is; foreseen = next_foreseen own m t own' m' h k }

module _ (own m : List ℕ) (k p o v : ℕ) (h : Foreseen own m) where
  -- a refused step leaves both areas as they were
  pub step_refused : (r : Refusal) → number_of r ≡ forecast_refusal mainframe (forecast_in own m) (step_of k p o v) → StepForeseen own m (step_of k p o v) (number_of r) own m
  unfolding forecast_next
  step_refused r e =
      stepped own m (step_of k p o v) (number_of r) own m h e (record { entries = h.entries; marks = h.marks; is = rw (← e, ne_eqb (number_of r) 0 (number_of_pos r)) })

  module _ (none : 0 ≡ forecast_refusal mainframe (forecast_in own m) (step_of k p o v)) (kind : Kind) (is : number_of_kind kind ≡ k) where
    -- one that no row refuses may act
    pub step_accepted : AcceptedForeseen own m (number_of_kind kind) p o
    step_accepted = record { foreseen = h; value = v; accepted = rw is (sym none) }

    -- and has acted
    pub step_done : (own' m' : List ℕ) → Shows own' m' (forecast_after mainframe (forecast_in own m) p (action_of (step_of (number_of_kind kind) p o 0))) → StepForeseen own m (step_of k p o v) 0 own' m'
    unfolding forecast_next step_of
    step_done own' m' d =
        stepped own m (step_of k p o v) 0 own' m' h none
        (record { entries = d.entries; marks = d.marks; is = rw (← none) ((rw is at d.is) ∙ sym (value_unused (forecast_in own m) k p o v known)) })
      where
        known : known_kind k ≡ true
        known = (accepted_says mainframe h.state (step_of k p o v) (refusal_foretold mainframe h.state (forecast_in own m) (step_of k p o v) h.foretold ∙ sym none)).known_kind_lem

pub ruleset step_laws = (step_refused, step_accepted, step_done, rules)
