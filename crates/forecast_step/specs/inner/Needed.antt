-- What a step of the forecast asks of the own entries and the marks, and what it promises. Assumes nothing.
use Rattle.std.specs.Prelude.{ℕ, ◌+◌, ◌≤◌, ◌≡◌, cond, List, length, eqb}
use Rattle.limits.specs.Files.{file_record_width}
use Rattle.limits.specs.Limits.{processor_limit, record_limit}
use Rattle.limits.specs.inner.Sizes.{mark_area}
use Rattle.rules.specs.State.{mainframe, State}
use Rattle.rules.specs.Opening.{opening_refusal}
use Rattle.rules.specs.Refusals.{Step}
use Rattle.rules.specs.Forecast.{forecast_refusal, forecast_next, opened_for, dirty_for}
use Rattle.rules.proofs.inorder.Facts.{InOrder}
use Rattle.rules.proofs.Foretold.{Foretells}
use Rattle.opening.specs.Promises.{opening_of}
use Rattle.forecast_step.specs.Memory.{forecast_in}

-- both have their sizes, and the forecast is that of some state in order
pub record Foreseen (own m : List ℕ) : Type 0 where
  pub entries : length own ≡ processor_limit
  pub marks : length m ≡ mark_area
  pub state : State
  pub in_order : InOrder mainframe state
  pub foretold : Foretells state (forecast_in own m)

-- ---- the opening

-- eight bytes, and room for the forecast
pub record OpeningGiven (bytes own m : List ℕ) : Type 0 where
  pub opening : length bytes ≡ file_record_width
  pub entries : length own ≡ processor_limit
  pub marks : length m ≡ mark_area

-- what `open` promises: the refusal of the opening, and the forecast of the opened mainframe, or what was there
pub record OpeningForeseen (bytes own m : List ℕ) (refusal : ℕ) (own' m' : List ℕ) : Type 0 where
  pub refused : refusal ≡ opening_refusal mainframe (opening_of bytes)
  pub after : forecast_in own' m' ≡ cond (eqb refusal 0) (opened_for mainframe (opening_of bytes).counts) (forecast_in own m)
  pub entries : length own' ≡ processor_limit
  pub marks : length m' ≡ mark_area
  pub foreseen : refusal ≡ 0 → Foreseen own' m'

-- ---- the figures

-- the marks of a forecast, with some own entries
pub record MarksForeseen (m : List ℕ) : Type 0 where
  pub own : List ℕ
  pub foreseen : Foreseen own m

-- what `figures_of` promises: those of the forecast, whatever the own entries are
pub record FiguresShown (m : List ℕ) (standing dirty : ℕ) : Type 0 where
  pub is_standing : (own : List ℕ) → standing ≡ (forecast_in own m).standing
  pub is_dirty : (own : List ℕ) → dirty ≡ dirty_for (forecast_in own m)
  pub few : standing + dirty ≤ record_limit

-- ---- the step

-- what `foresee` promises: the forecast's refusal and next, which is again that of some state in order
pub record StepForeseen (own m : List ℕ) (t : Step) (refusal : ℕ) (own' m' : List ℕ) : Type 0 where
  pub refused : refusal ≡ forecast_refusal mainframe (forecast_in own m) t
  pub after : forecast_in own' m' ≡ forecast_next mainframe (forecast_in own m) t
  pub foreseen : Foreseen own' m'
