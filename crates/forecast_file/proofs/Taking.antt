-- A part taken behind those before it: lines made before stand in front of its lines, and the whole file's lines follow. `taking_laws`. Rests on Whole
-- and Passing. Assumes nothing.
use Prim.Native.Nat.{ℕ, zero, suc, ◌+◌, ◌-◌, ◌*◌, ◌/◌, ◌%◌, ◌<◌}
use native.Mathlib.Omega.{arith}
use mathlib.Core.Path.{◌≡◌, refl, sym, ap, ap₂, ◌∙◌}
use mathlib.Core.Bool.{Bool, true, false, cond, true≢false}
use mathlib.Core.List.{List, [], ◌++◌, append-nil, append_assoc}
use lib.ListN.{length, take, drop, length-append}
use lib.Dec.{leb, eqb}
use borrow.Author.Rules.{rules}
use Rattle.limits.specs.Files.{file_record_width, step_limit}
use Rattle.rules.specs.State.{mainframe}
use Rattle.rules.specs.Opening.{opening_refusal}
use Rattle.rules.specs.Forecast.{opened_for}
use Rattle.opening.specs.Promises.{opening_of}
use Rattle.lines.specs.Lines.{refusal_line}
use Rattle.file_lines.proofs.Placing.{rest_kept_again}
use Rattle.forecast_step.specs.Memory.{forecast_in}
use Rattle.forecast_file.specs.Files.{forecast_lines}
use Rattle.forecast_file.specs.Standing.{Foresight, nothing_foreseen, opening_foreseen, step_foreseen, too_many_foreseen, record_foreseen, records_foreseen, foreseen}
use Rattle.forecast_file.specs.Promises.{foresight_at, ForeseenTo, Begun, TakenAs}
use Rattle.forecast_file.specs.declared.Reach.{Reach}
use Rattle.forecast_file.specs.declared.PartTaken.{PartTaken}
use Rattle.forecast_file.specs.declared.PartWay.{PartWay}
use Rattle.forecast_file.specs.inner.Needed.{cut_line, last_lines, MemorySound, PartTakeable, nothing_taken, way_at, leads, FirstTakeable, OpeningPassed, StepsTakeable, StepsPassed, LastTakeable, WholePassed, LastPassed, Finishable, Finished}
use Rattle.forecast_file.proofs.Records.{foreseen_stopped, foreseen_together, foreseen_of, foreseen_cut}
use Rattle.forecast_file.proofs.Whole.{whole_forecast}
use Rattle.forecast_file.proofs.Passing.{passing_on}

-- ---- the beginning

-- nothing has been taken
pub forecast_begun : Begun (record { number = 0; most = 0 })
unfolding foresight_at foreseen records_foreseen nothing_foreseen
forecast_begun = record { reached = λ own m. record { first = forecast_in own m; whole = refl; stands = refl } }

pub ruleset begin_laws = (forecast_begun, rules)

-- ---- lines made before

-- a forecast with lines in front of its own
unfoldable pub lines_before : List ℕ → Foresight → Foresight
lines_before made f = record { number = f.number; stopped = f.stopped; forecast = f.forecast; most = f.most; lines = made ++ f.lines }

-- a record adds its line behind them
behind_record : (made : List ℕ) (f : Foresight) (bytes : List ℕ) → record_foreseen (lines_before made f) bytes ≡ lines_before made (record_foreseen f bytes)
unfolding lines_before record_foreseen
behind_record made f bytes = by_number (eqb f.number 0) (leb f.number step_limit) opening step too_many
  where
    opening : opening_foreseen (lines_before made f) bytes ≡ lines_before made (opening_foreseen f bytes)
    opening = unfold opening_foreseen in go (eqb (opening_refusal mainframe (opening_of bytes)) 0)
      where
        go : (b : Bool)
            → cond b (record { number = 1; stopped = false; forecast = opened_for mainframe (opening_of bytes).counts; most = 0; lines = made ++ f.lines ++ refusal_line 0 0 })
            (record { number = 1; stopped = true; forecast = f.forecast; most = 0; lines = made ++ f.lines ++ refusal_line 0 2 })
            ≡ lines_before made
            (cond b (record { number = 1; stopped = false; forecast = opened_for mainframe (opening_of bytes).counts; most = 0; lines = f.lines ++ refusal_line 0 0 })
            (record { number = 1; stopped = true; forecast = f.forecast; most = 0; lines = f.lines ++ refusal_line 0 2 }))
        go true = ap (λ (l : List ℕ). record { number = 1; stopped = false; forecast = opened_for mainframe (opening_of bytes).counts; most = 0; lines = l }) (append_assoc made f.lines (refusal_line 0 0))
        go false = ap (λ (l : List ℕ). record { number = 1; stopped = true; forecast = f.forecast; most = 0; lines = l }) (append_assoc made f.lines (refusal_line 0 2))

    step : step_foreseen (lines_before made f) bytes ≡ lines_before made (step_foreseen f bytes)
    step = unfold step_foreseen in
        ap (λ (l : List ℕ). record { number = (step_foreseen f bytes).number; stopped = false; forecast = (step_foreseen f bytes).forecast; most = (step_foreseen f bytes).most; lines = l })
        (append_assoc made f.lines _)

    too_many : too_many_foreseen (lines_before made f) ≡ lines_before made (too_many_foreseen f)
    too_many = unfold too_many_foreseen in
        ap (λ (l : List ℕ). record { number = f.number; stopped = true; forecast = f.forecast; most = f.most; lines = l }) (append_assoc made f.lines _)

    by_number : (b c : Bool) → opening_foreseen (lines_before made f) bytes ≡ lines_before made (opening_foreseen f bytes) → step_foreseen (lines_before made f) bytes ≡ lines_before made (step_foreseen f bytes)
        → too_many_foreseen (lines_before made f) ≡ lines_before made (too_many_foreseen f)
        → cond b (opening_foreseen (lines_before made f) bytes) (cond c (step_foreseen (lines_before made f) bytes) (too_many_foreseen (lines_before made f)))
        ≡ lines_before made (cond b (opening_foreseen f bytes) (cond c (step_foreseen f bytes) (too_many_foreseen f)))
    by_number true c e₁ e₂ e₃ = e₁
    by_number false true e₁ e₂ e₃ = e₂
    by_number false false e₁ e₂ e₃ = e₃

-- and so do all
behind_records : (made : List ℕ) (f : Foresight) (n : ℕ) (bytes : List ℕ) → records_foreseen (lines_before made f) n bytes ≡ lines_before made (records_foreseen f n bytes)
unfolding records_foreseen lines_before
behind_records made f zero bytes = refl
behind_records made f (suc n) bytes =
    go f.stopped
    (ap (λ (g : Foresight). records_foreseen g n (drop file_record_width bytes)) (behind_record made f (take file_record_width bytes))
    ∙ behind_records made (record_foreseen f (take file_record_width bytes)) n (drop file_record_width bytes))
  where
    go : (b : Bool) → records_foreseen (record_foreseen (lines_before made f) (take file_record_width bytes)) n (drop file_record_width bytes) ≡ lines_before made (records_foreseen (record_foreseen f (take file_record_width bytes)) n (drop file_record_width bytes))
        → cond b (lines_before made f) (records_foreseen (record_foreseen (lines_before made f) (take file_record_width bytes)) n (drop file_record_width bytes))
        ≡ lines_before made (cond b f (records_foreseen (record_foreseen f (take file_record_width bytes)) n (drop file_record_width bytes)))
    go true e = refl
    go false e = e

-- ---- what the functions ask of one another

pub first_takeable : (s : Reach) (part : List ℕ) (ended : Bool) (out own m : List ℕ) → PartTakeable s part ended out own m → FirstTakeable s part out own m
unfolding nothing_taken
first_takeable s part ended out own m h = record { able = record { sound = h.sound; within = omega arith; aligned = refl; room = omega (arith, h.room) } }

pub last_takeable : (p : PartWay) (part out own m : List ℕ) (p' : PartWay) (out' own' m' : List ℕ) → StepsPassed p part out own m p' out' own' m' → LastTakeable p' part out' m'
last_takeable p part out own m p' out' own' m' h = record { own = own'; able = h.passing.able; over = h.over }

-- the steps, and one too many
module _ (p : PartWay) (part out own m : List ℕ) (p₁ : PartWay) (out₁ own₁ m₁ : List ℕ) (p₂ : PartWay) (out₂ : List ℕ) where
  pub behind_taken : StepsPassed p part out own m p₁ out₁ own₁ m₁ → LastPassed p₁ part out₁ m₁ p₂ out₂ → WholePassed p part out own m p₂ out₂ own₁ m₁
  behind_taken h k =
      let last = k.is own₁ h.passing.able in
      record { passing = passing_on p part out own m p₁ out₁ own₁ m₁ p₂ out₂ own₁ m₁ h.passing last.passing; few_left = last.few_left }

-- the opening, and those behind it
pub steps_takeable : (s : Reach) (part out own m : List ℕ) (p : PartWay) (out' own' m' : List ℕ) → OpeningPassed s part out own m p out' own' m' → StepsTakeable p part out' own' m'
steps_takeable s part out own m p out' own' m' h = h.on

pub whole_taken : (s : Reach) (part out own m : List ℕ) (p₁ : PartWay) (out₁ own₁ m₁ : List ℕ) (p₂ : PartWay) (out₂ own₂ m₂ : List ℕ) → OpeningPassed s part out own m p₁ out₁ own₁ m₁
    → WholePassed p₁ part out₁ own₁ m₁ p₂ out₂ own₂ m₂ → WholePassed (nothing_taken s) part out own m p₂ out₂ own₂ m₂
whole_taken s part out own m p₁ out₁ own₁ m₁ p₂ out₂ own₂ m₂ h k =
    record { passing = passing_on (nothing_taken s) part out own m p₁ out₁ own₁ m₁ p₂ out₂ own₂ m₂ h.passing k.passing; few_left = k.few_left }

-- the last lines may follow
pub endable : (p : PartWay) (part out own m : List ℕ) (p' : PartWay) (out' own' m' : List ℕ) → WholePassed p part out own m p' out' own' m' → Finishable p' part out' m'
endable p part out own m p' out' own' m' h = record { own = own'; able = h.passing.able; few_left = h.few_left }

-- ---- a part

module _ (s : Reach) (part : List ℕ) (ended : Bool) (out own m : List ℕ) (h : PartTakeable s part ended out own m) (p : PartWay) (out' own' m' : List ℕ)
    (a : WholePassed (nothing_taken s) part out own m p out' own' m') (t : PartTaken) (out'' : List ℕ) (d : Finished p part ended out' m' t out'') where
  -- where its records lead
  abbrev f : Foresight
  f = way_at p out' own' m'

  all_led : leads p part out' own' m' ≡ way_at p out' own' m'
  unfolding leads way_at records_foreseen
  all_led = go p.stopped refl
    where
      go : (b : Bool) → p.stopped ≡ b → records_foreseen (way_at p out' own' m') ((length part - p.next) / file_record_width) (drop p.next part) ≡ way_at p out' own' m'
      go true e = foreseen_stopped (way_at p out' own' m') ((length part - p.next) / file_record_width) (drop p.next part) e
      go false e = ap (λ (n : ℕ). records_foreseen (way_at p out' own' m') n (drop p.next part)) (none (a.few_left e))
        where
          none : length part < p.next + file_record_width → (length part - p.next) / file_record_width ≡ 0
          none l = omega (arith, l)

  led : (made : List ℕ) → records_foreseen (foresight_at s own m made) (length part / file_record_width) part ≡ lines_before made (way_at p out' own' m')
  led made =
      ap (λ (g : Foresight). records_foreseen g (length part / file_record_width) part) front
      ∙ behind_records made (foresight_at s own m []) (length part / file_record_width) part
      ∙ ap (lines_before made) (start ∙ sym a.passing.is ∙ all_led)
    where
      front : foresight_at s own m made ≡ lines_before made (foresight_at s own m [])
      front = unfold foresight_at lines_before in ap (λ (l : List ℕ). record { number = s.number; stopped = false; forecast = forecast_in own m; most = s.most; lines = l }) (sym (append-nil made))

      all : length part / file_record_width ≡ (length part - 0) / file_record_width
      all = omega arith

      start : records_foreseen (foresight_at s own m []) (length part / file_record_width) part ≡ leads (nothing_taken s) part out own m
      start = unfold foresight_at leads nothing_taken way_at in ap (λ (n : ℕ). records_foreseen (foresight_at s own m []) n part) all

  -- more is to come
  taken_on : (before made : List ℕ) → ForeseenTo before made s own m → t.done ≡ false → ForeseenTo (before ++ part) (made ++ take t.made out'') t.reach own' m'
  taken_on before made r e =
      record {
        first = r.first;
        whole = omega (arith, length-append before part, r.whole, h.whole (d.on e).1.0);
        stands =
            stands_behind
            ∙ sym (led made)
            ∙ ap (λ (g : Foresight). records_foreseen g (length part / file_record_width) part) r.stands
            ∙ sym (foreseen_cut r.first before part r.whole);
      }
    where
      stands_behind : foresight_at t.reach own' m' (made ++ take t.made out'') ≡ lines_before made (way_at p out' own' m')
      stands_behind = unfold foresight_at lines_before way_at in
          ap₂ (λ (x : Reach) (l : List ℕ). record { number = x.number; stopped = false; forecast = forecast_in own' m'; most = x.most; lines = made ++ l }) d.reach (d.on e).1.1
          ∙ ap (λ (b : Bool). record { number = p.reach.number; stopped = b; forecast = forecast_in own' m'; most = p.reach.most; lines = made ++ take p.at out' }) (sym (d.on e).0)

  -- all is done
  module _ (before made rest : List ℕ) (r : ForeseenTo before made s own m) (e : t.done ≡ true) (none : ended ≡ true → rest ≡ []) where
    abbrev file : List ℕ
    file = before ++ (part ++ rest)

    -- where the whole records of the file lead
    file_led : foreseen r.first (before ++ (part ++ rest)) ≡ lines_before made (way_at p out' own' m')
    file_led =
        foreseen_cut r.first before (part ++ rest) r.whole
        ∙ ap (λ (g : Foresight). records_foreseen g (length (part ++ rest) / file_record_width) (part ++ rest)) (sym r.stands)
        ∙ by_end ended refl
      where
        by_end : (b : Bool) → ended ≡ b → records_foreseen (foresight_at s own m made) (length (part ++ rest) / file_record_width) (part ++ rest) ≡ lines_before made (way_at p out' own' m')
        by_end true z =
            ap (λ (l : List ℕ). records_foreseen (foresight_at s own m made) (length l / file_record_width) l) (ap (λ (l : List ℕ). part ++ l) (none z) ∙ append-nil part)
            ∙ led made
        by_end false z =
            ap (λ (n : ℕ). records_foreseen (foresight_at s own m made) n (part ++ rest)) both
            ∙ foreseen_together (foresight_at s own m made) (length part / file_record_width) (length rest / file_record_width) (part ++ rest)
            ∙ ap (λ (g : Foresight). records_foreseen g (length rest / file_record_width) (drop (file_record_width * (length part / file_record_width)) (part ++ rest)))
            (foreseen_of (foresight_at s own m made) (length part / file_record_width) part rest (omega arith) ∙ led made)
            ∙ foreseen_stopped (lines_before made (way_at p out' own' m')) (length rest / file_record_width) (drop (file_record_width * (length part / file_record_width)) (part ++ rest)) (unfold lines_before way_at in d.stopped e z)
          where
            both : length (part ++ rest) / file_record_width ≡ length part / file_record_width + length rest / file_record_width
            both = omega (arith, length-append part rest, h.whole z)

    -- the bytes left at its end count only where the forecast has not stopped
    same_end : last_lines (way_at p out' own' m') (length part - p.next) ≡ last_lines (lines_before made (way_at p out' own' m')) (length (before ++ (part ++ rest)) % file_record_width)
    unfolding last_lines cut_line lines_before way_at
    same_end = by_stop p.stopped refl
      where
        left : ended ≡ true → p.stopped ≡ false → length part - p.next ≡ length (before ++ (part ++ rest)) % file_record_width
        left z g = omega (arith, length-append before (part ++ rest), length-append part rest, ap length (none z), r.whole, a.few_left g, a.passing.able.aligned, a.passing.able.within)

        by_stop : (b : Bool) → p.stopped ≡ b
            → last_lines (way_at p out' own' m') (length part - p.next) ≡ last_lines (lines_before made (way_at p out' own' m')) (length (before ++ (part ++ rest)) % file_record_width)
        by_stop true g = rw g refl
        by_stop false g = ap (λ (k : ℕ). last_lines (way_at p out' own' m') k) (left (by_end ended refl) g)
          where
            by_end : (b : Bool) → ended ≡ b → ended ≡ true
            by_end true z = z
            by_end false z = absurd (true≢false (sym (d.stopped e z) ∙ g))

    taken_all : made ++ take t.made out'' ≡ forecast_lines (before ++ (part ++ rest))
    taken_all =
        ap (λ (l : List ℕ). made ++ l) (d.all e own')
        ∙ sym (append_assoc made (take p.at out') (last_lines (way_at p out' own' m') (length part - p.next)))
        ∙ ap (λ (l : List ℕ). made ++ take p.at out' ++ l) same_end
        ∙ sym (whole_forecast r.first file ∙ ap (λ (g : Foresight). g.lines ++ last_lines g (length file % file_record_width)) file_led ∙ front)
      where
        front : (lines_before made (way_at p out' own' m')).lines ++ last_lines (lines_before made (way_at p out' own' m')) (length file % file_record_width)
            ≡ made ++ take p.at out' ++ last_lines (lines_before made (way_at p out' own' m')) (length file % file_record_width)
        front = unfold lines_before way_at in refl

  pub part_taken : TakenAs s part ended out own m t out'' own' m'
  unfolding nothing_taken
  part_taken =
      record {
        within = omega (arith, d.kept.within, d.kept.long);
        rest = (rest_kept_again out 0 out' p.at out'' t.made a.passing.kept d.kept).rest;
        on = taken_on;
        all = taken_all;
        ends = d.ends;
      }

  pub part_sound : MemorySound t.reach t.done own' m'
  part_sound =
      let sound = a.passing.able.sound in
      record {
        few = omega (arith, sound.few, ap (λ (x : Reach). x.number) d.reach);
        entries = sound.entries;
        marks = sound.marks;
        foreseen = λ e l. sound.foreseen (d.on e).0 (omega (arith, l, ap (λ (x : Reach). x.number) d.reach));
      }

pub ruleset taking_laws = (first_takeable, last_takeable, behind_taken, steps_takeable, whole_taken, endable, part_taken, part_sound, rules)
