-- What the functions of this crate ask of one another and promise. Assumes nothing.
use Rattle.std.specs.Prelude.{ℕ, ◌+◌, ◌-◌, ◌*◌, ◌/◌, ◌%◌, ◌≤◌, ◌<◌, ◌≡◌, Bool, true, false, cond, List, [], ◌++◌, length, take, drop, eqb}
use Rattle.limits.specs.Files.{file_record_width, line_limit}
use Rattle.limits.specs.Limits.{processor_limit}
use Rattle.limits.specs.inner.Sizes.{file_record_limit, mark_area}
use Rattle.rules.specs.State.{mainframe}
use Rattle.rules.specs.Forecast.{forecast_refusal, dirty_for, forecast_next}
use Rattle.step_fields.specs.Records.{step_from}
use Rattle.lines.specs.Lines.{line_bytes, refusal_line, most_line}
use Rattle.file_lines.specs.inner.Needed.{RestKept, LinePut, AllAhead}
use Rattle.forecast_step.specs.Memory.{forecast_in}
use Rattle.forecast_step.specs.inner.Needed.{Foreseen}
use Rattle.forecast_file.specs.Standing.{Foresight, records_foreseen}
use Rattle.forecast_file.specs.declared.Reach.{Reach}
use Rattle.forecast_file.specs.declared.PartTaken.{PartTaken}
use Rattle.forecast_file.specs.declared.PartWay.{PartWay}
use Rattle.forecast_file.specs.declared.Stepped.{Stepped}

-- ---- the last lines

-- 15 where a file with k bytes left behind its whole records ends within a record or before the opening
unfoldable pub cut_line : Foresight → ℕ → List ℕ
cut_line f k =
    cond f.stopped []
    (cond (eqb f.number 0) (refusal_line 0 15)
    (cond (eqb k 0) []
    (line_bytes f.number 15 f.forecast.standing (dirty_for f.forecast))))

-- and the most
unfoldable pub last_lines : Foresight → ℕ → List ℕ
last_lines f k = cut_line f k ++ most_line f.most

-- ---- between two records of a part

-- the memory has its sizes, and behind an accepted opening holds the forecast of some state in order
pub record MemorySound (s : Reach) (over : Bool) (own m : List ℕ) : Type 0 where
  pub few : s.number ≤ file_record_limit
  pub entries : length own ≡ processor_limit
  pub marks : length m ≡ mark_area
  pub foreseen : over ≡ false → 1 ≤ s.number → Foreseen own m

-- a part of a file may be taken: there is room for a line of each record and for two more, and it has whole records unless the file has ended
pub record PartTakeable (s : Reach) (part : List ℕ) (ended : Bool) (out own m : List ℕ) : Type 0 where
  pub sound : MemorySound s false own m
  pub room : line_limit * (length part / file_record_width + 2) ≤ length out
  pub whole : ended ≡ false → length part % file_record_width ≡ 0

-- nothing of a part has been taken
unfoldable pub nothing_taken : Reach → PartWay
nothing_taken s = record { reach = s; stopped = false; next = 0; at = 0 }

-- where the forecast stands behind some records of a part, with their lines in the first bytes of those lent
unfoldable pub way_at : PartWay → List ℕ → List ℕ → List ℕ → Foresight
way_at p out own m = record { number = p.reach.number; stopped = p.stopped; forecast = forecast_in own m; most = p.reach.most; lines = take p.at out }

-- the rest of the part may be taken
pub record Able (p : PartWay) (part out own m : List ℕ) : Type 0 where
  pub sound : MemorySound p.reach p.stopped own m
  pub within : p.next ≤ length part
  pub aligned : p.next % file_record_width ≡ 0
  pub room : p.at + line_limit * ((length part - p.next) / file_record_width + 2) ≤ length out

-- where the whole records lead that are left of a part
unfoldable pub leads : PartWay → List ℕ → List ℕ → List ℕ → List ℕ → Foresight
leads p part out own m = records_foreseen (way_at p out own m) ((length part - p.next) / file_record_width) (drop p.next part)

-- records are taken, a line for each: those left lead from there to what all led to
pub record PartPassing (p₀ : PartWay) (part out₀ own₀ m₀ : List ℕ) (p : PartWay) (out own m : List ℕ) : Type 0 where
  pub able : Able p part out own m
  pub is : leads p part out own m ≡ leads p₀ part out₀ own₀ m₀
  pub kept : RestKept out₀ p₀.at out p.at

-- ---- the opening

-- it may be taken, if there is one
pub record FirstTakeable (s : Reach) (part out own m : List ℕ) : Type 0 where
  pub able : Able (nothing_taken s) part out own m

-- steps may follow: the opening is taken, unless the forecast has stopped or fewer than eight bytes are left
pub record StepsTakeable (p : PartWay) (part out own m : List ℕ) : Type 0 where
  pub able : Able p part out own m
  pub opened : p.stopped ≡ false → p.reach.number ≡ 0 → length part < p.next + file_record_width

-- it is taken
pub record OpeningPassed (s : Reach) (part out own m : List ℕ) (p : PartWay) (out' own' m' : List ℕ) : Type 0 where
  pub passing : PartPassing (nothing_taken s) part out own m p out' own' m'
  pub on : StepsTakeable p part out' own' m'

-- ---- the steps

-- the records up to a place are all steps that follow
pub record StepsAhead (p : PartWay) (part : List ℕ) (end : ℕ) (out own m : List ℕ) : Type 0 where
  pub able : Able p part out own m
  pub ahead : AllAhead p.reach.number p.next end (length part)
  pub going : p.stopped ≡ false
  pub opened : 1 ≤ p.reach.number

-- they are taken: a whole record left to a forecast that has not stopped is one too many
pub record StepsPassed (p : PartWay) (part out own m : List ℕ) (p' : PartWay) (out' own' m' : List ℕ) : Type 0 where
  pub passing : PartPassing p part out own m p' out' own' m'
  pub over : p'.stopped ≡ false → p'.next + file_record_width ≤ length part → p'.reach.number ≡ file_record_limit

-- a record lies from a place on, and there is room for its line
pub record Steppable (part : List ℕ) (i : ℕ) (out : List ℕ) (at : ℕ) (own m : List ℕ) : Type 0 where
  pub foreseen : Foreseen own m
  pub there : i + file_record_width ≤ length part
  pub room : at + line_limit ≤ length out

-- its step is done or refused, and the line stands behind those before it
pub record StepTaken (part : List ℕ) (i number : ℕ) (out : List ℕ) (at : ℕ) (own m : List ℕ) (r : Stepped) (out' own' m' : List ℕ) : Type 0 where
  pub after : forecast_in own' m' ≡ forecast_next mainframe (forecast_in own m) (step_from (drop i part))
  pub foreseen : Foreseen own' m'
  pub put : LinePut out at (line_bytes number (forecast_refusal mainframe (forecast_in own m) (step_from (drop i part))) (forecast_in own' m').standing (dirty_for (forecast_in own' m'))) out' r.at
  pub sum : r.sum ≡ (forecast_in own' m').standing + dirty_for (forecast_in own' m')

-- ---- one too many

-- a whole record that is left is one too many; the own entries are not looked at
pub record LastTakeable (p : PartWay) (part out m : List ℕ) : Type 0 where
  pub own : List ℕ
  pub able : Able p part out own m
  pub over : p.stopped ≡ false → p.next + file_record_width ≤ length part → p.reach.number ≡ file_record_limit

-- no whole record is left, or the forecast has stopped
pub record WholePassed (p : PartWay) (part out own m : List ℕ) (p' : PartWay) (out' own' m' : List ℕ) : Type 0 where
  pub passing : PartPassing p part out own m p' out' own' m'
  pub few_left : p'.stopped ≡ false → length part < p'.next + file_record_width

-- whatever the own entries are
pub record LastPassed (p : PartWay) (part out m : List ℕ) (p' : PartWay) (out' : List ℕ) : Type 0 where
  pub is : (own : List ℕ) → Able p part out own m → WholePassed p part out own m p' out' own m

-- ---- the end

-- all whole records are taken, or the forecast has stopped
pub record Finishable (p : PartWay) (part out m : List ℕ) : Type 0 where
  pub own : List ℕ
  pub able : Able p part out own m
  pub few_left : p.stopped ≡ false → length part < p.next + file_record_width

-- a line with the figures of the forecast, whatever the own entries are
pub record FiguresPut (out : List ℕ) (at number refusal : ℕ) (m out' : List ℕ) (end : ℕ) : Type 0 where
  pub is : (own : List ℕ) → LinePut out at (line_bytes number refusal (forecast_in own m).standing (dirty_for (forecast_in own m))) out' end

-- line 15 stands behind those before it, where it must
pub record EndPut (p : PartWay) (part out m : List ℕ) (end : ℕ) (out' : List ℕ) : Type 0 where
  pub is : (own : List ℕ) → LinePut out p.at (cut_line (way_at p out own m) (length part - p.next)) out' end

-- the last lines stand behind those before them where all is done
pub record Finished (p : PartWay) (part : List ℕ) (ended : Bool) (out m : List ℕ) (t : PartTaken) (out' : List ℕ) : Type 0 where
  pub reach : t.reach ≡ p.reach
  pub kept : RestKept out p.at out' t.made
  pub on : t.done ≡ false → (p.stopped ≡ false) × ((ended ≡ false) × (take t.made out' ≡ take p.at out))
  pub all : t.done ≡ true → (own : List ℕ) → take t.made out' ≡ take p.at out ++ last_lines (way_at p out own m) (length part - p.next)
  pub stopped : t.done ≡ true → ended ≡ false → p.stopped ≡ true
  pub ends : ended ≡ true → t.done ≡ true
