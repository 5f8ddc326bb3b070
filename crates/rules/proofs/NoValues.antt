-- Document 02, L8, "keeping .. no values": a forecast, and so the figures of a run, are the same for two lists of steps that are alike but for the values that
-- their kinds use. Rests on Foretold and WithoutValue. Assumes nothing.
use Prim.Native.Nat.{ℕ}
use mathlib.Core.Path.{◌≡◌, refl, sym, ap, ap₂, ◌∙◌}
use mathlib.Core.List.{List, [], ◌∷◌, map}
use Rattle.rules.specs.State.{Limits, State}
use Rattle.rules.specs.Opening.{Opening, opening_refusal, opened}
use Rattle.rules.specs.Refusals.{Step, step_of, action_of, object_bound, uses_value, fits, late_refusal, refusal_by, answer, next}
use Rattle.rules.specs.Runs.{answers}
use Rattle.rules.specs.Noted.{without_value, refusals_of}
use Rattle.rules.specs.Forecast.{Forecast, forecast_refusal, dirty_for, forecast_after, forecast_next, opened_for, Figures, run_figures, forecast_figures}
use Rattle.rules.proofs.state.WithoutValue.{without_value_lem}
use Rattle.rules.proofs.Foretold.{forecast_is_the_run}

module _ (lim : Limits) (f : Forecast) where
  write_foreseen : (p w v : ℕ) → forecast_refusal lim f (step_of 2 p w v) ≡ forecast_refusal lim f (step_of 2 p w 0)
  unfolding step_of forecast_refusal refusal_by fits uses_value action_of object_bound late_refusal
  write_foreseen p w v = refl

  add_foreseen : (p t v : ℕ) → forecast_refusal lim f (step_of 8 p t v) ≡ forecast_refusal lim f (step_of 8 p t 0)
  unfolding step_of forecast_refusal refusal_by fits uses_value action_of object_bound late_refusal
  add_foreseen p t v = refl

  enqueue_foreseen : (p o v : ℕ) → forecast_refusal lim f (step_of 10 p o v) ≡ forecast_refusal lim f (step_of 10 p o 0)
  unfolding step_of forecast_refusal refusal_by fits uses_value action_of object_bound late_refusal
  enqueue_foreseen p o v = refl

  write_leaves : (p w v : ℕ) → forecast_next lim f (step_of 2 p w v) ≡ forecast_next lim f (step_of 2 p w 0)
  unfolding forecast_next step_of action_of forecast_after
  write_leaves p w v = rw (write_foreseen p w v) refl

  add_leaves : (p t v : ℕ) → forecast_next lim f (step_of 8 p t v) ≡ forecast_next lim f (step_of 8 p t 0)
  unfolding forecast_next step_of action_of forecast_after
  add_leaves p t v = rw (add_foreseen p t v) refl

  enqueue_leaves : (p o v : ℕ) → forecast_next lim f (step_of 10 p o v) ≡ forecast_next lim f (step_of 10 p o 0)
  unfolding forecast_next step_of action_of forecast_after
  enqueue_leaves p o v = rw (enqueue_foreseen p o v) refl

-- the forecast of a list is that of the same list without its values
forecast_without : (lim : Limits) (f : Forecast) (ts : List Step) → forecast_figures lim f ts ≡ forecast_figures lim f (map without_value ts)
unfolding forecast_figures
forecast_without lim f [] = refl
forecast_without lim f (t ∷ ts) =
    let after : forecast_next lim f t ≡ forecast_next lim f (without_value t) = without_value_lem (forecast_next lim f) (write_leaves lim f) (add_leaves lim f) (enqueue_leaves lim f) t in
    ap₂ (λ (r : ℕ) (g : Forecast). record { refusal = r; standing = g.standing; dirty = dirty_for g } ∷ forecast_figures lim g ts)
    (without_value_lem (forecast_refusal lim f) (write_foreseen lim f) (add_foreseen lim f) (enqueue_foreseen lim f) t) after
    ∙ ap (λ (l : List Figures). record { refusal = forecast_refusal lim f (without_value t); standing = (forecast_next lim f (without_value t)).standing; dirty = dirty_for (forecast_next lim f (without_value t)) } ∷ l)
    (forecast_without lim (forecast_next lim f (without_value t)) ts)

-- and so that of every list that is alike but for its values
pub foreseen_without_values : (lim : Limits) (f : Forecast) (ts ts' : List Step) → map without_value ts ≡ map without_value ts' → forecast_figures lim f ts ≡ forecast_figures lim f ts'
foreseen_without_values lim f ts ts' same = forecast_without lim f ts ∙ ap (forecast_figures lim f) same ∙ sym (forecast_without lim f ts')

-- the refusals of the answers to a list are those of the run's figures
refusals_figured : (lim : Limits) (s : State) (ts : List Step) → refusals_of (answers lim s ts) ≡ map (λ (x : Figures). x.refusal) (run_figures lim s ts)
unfolding refusals_of answers run_figures
refusals_figured lim s [] = refl
refusals_figured lim s (t ∷ ts) = ap (λ (l : List ℕ). (answer lim s t).refusal ∷ l) (refusals_figured lim (next lim s t) ts)

module _ (lim : Limits) (o : Opening) (accepted : opening_refusal lim o ≡ 0) (ts : List Step) where
  -- and so those of its forecast
  pub refusals_foreseen : refusals_of (answers lim (opened lim o.counts) ts) ≡ map (λ (x : Figures). x.refusal) (forecast_figures lim (opened_for lim o.counts) ts)
  refusals_foreseen = refusals_figured lim (opened lim o.counts) ts ∙ ap (map (λ (x : Figures). x.refusal)) (forecast_is_the_run lim o accepted ts)

-- "since L2 no refusal depends on a stored value"
pub refused_without_values : (lim : Limits) (o : Opening) → opening_refusal lim o ≡ 0 → (ts ts' : List Step) → map without_value ts ≡ map without_value ts'
    → refusals_of (answers lim (opened lim o.counts) ts) ≡ refusals_of (answers lim (opened lim o.counts) ts')
refused_without_values lim o e ts ts' same =
    refusals_foreseen lim o e ts
    ∙ ap (map (λ (x : Figures). x.refusal)) (foreseen_without_values lim (opened_for lim o.counts) ts ts' same)
    ∙ sym (refusals_foreseen lim o e ts')
