-- The records of a part, one after the other: the opening, one too many. One law for each way of the code, `first_laws` and `last_laws`. Rests on
-- Records. Assumes nothing.
use Prim.Native.Nat.{ℕ, suc, ◌+◌, ◌-◌, ◌/◌, ◌≤◌, ◌<◌}
use native.Mathlib.Omega.{arith}
use mathlib.Core.Path.{◌≡◌, refl, sym, ap, ap₂, ◌∙◌}
use mathlib.Core.Bool.{Bool, true, false, cond, true≢false, ◌&&◌}
use mathlib.Core.Logic.{◌⊎◌, inl, inr}
use mathlib.Core.List.{List, ◌++◌}
use lib.ListN.{length, take, drop}
use lib.Dec.{eqb}
use lib.Seq.{drop-drop, length-take-le}
use borrow.Author.Tests.{eq-eqb, ne_eqb, lt-leb}
use borrow.Author.Rules.{rules}
use Rattle.std.specs.Result.{is_err}
use Rattle.std.specs.Prelude.{Result, Ok, Err}
use Rattle.limits.specs.Refused.{number_of, refusal_in}
use Rattle.limits.specs.declared.Refusal.{Refusal}
use Rattle.limits.specs.Files.{file_record_width, line_limit, step_limit}
use Rattle.limits.specs.inner.Sizes.{file_record_limit}
use Rattle.rules.specs.State.{mainframe}
use Rattle.rules.specs.InOrder.{counts_in_range}
use Rattle.rules.specs.Opening.{Opening, opening_refusal}
use Rattle.rules.specs.Forecast.{Forecast, opened_for}
use Rattle.opening.specs.Promises.{opening_of}
use Rattle.lines.specs.Lines.{line_bytes, refusal_line}
use Rattle.file_lines.specs.inner.Needed.{RestKept, LinePut}
use Rattle.file_lines.proofs.Placing.{rest_kept_all, rest_kept_again}
use Rattle.limits.proofs.Refused.{number_of_pos}
use Rattle.forecast_step.specs.Memory.{forecast_in}
use Rattle.forecast_step.specs.inner.Needed.{OpeningGiven, OpeningForeseen, MarksForeseen}
use Rattle.forecast_file.specs.Standing.{Foresight, opening_foreseen, too_many_foreseen, record_foreseen, records_foreseen}
use Rattle.forecast_file.specs.declared.Reach.{Reach}
use Rattle.forecast_file.specs.declared.PartWay.{PartWay}
use Rattle.forecast_file.specs.inner.Needed.{MemorySound, nothing_taken, way_at, Able, leads, PartPassing, FirstTakeable, OpeningPassed, LastTakeable, LastPassed, FiguresPut}
use Rattle.forecast_file.proofs.Records.{foreseen_one}

-- ---- records taken

-- none is taken yet
pub none_passed : (p : PartWay) (part out own m : List ℕ) → Able p part out own m → PartPassing p part out own m p out own m
none_passed p part out own m h = record { able = h; is = refl; kept = rest_kept_all out p.at (omega (arith, h.room)) }

-- some, and those behind them
pub passing_on : (p₀ : PartWay) (part out₀ own₀ m₀ : List ℕ) (p₁ : PartWay) (out₁ own₁ m₁ : List ℕ) (p₂ : PartWay) (out₂ own₂ m₂ : List ℕ)
    → PartPassing p₀ part out₀ own₀ m₀ p₁ out₁ own₁ m₁ → PartPassing p₁ part out₁ own₁ m₁ p₂ out₂ own₂ m₂ → PartPassing p₀ part out₀ own₀ m₀ p₂ out₂ own₂ m₂
passing_on p₀ part out₀ own₀ m₀ p₁ out₁ own₁ m₁ p₂ out₂ own₂ m₂ h k =
    record { able = k.able; is = k.is ∙ h.is; kept = rest_kept_again out₀ p₀.at out₁ p₁.at out₂ p₂.at h.kept k.kept }

module _ (p : PartWay) (part out own m : List ℕ) (h : Able p part out own m) (going : p.stopped ≡ false) (there : file_record_width ≤ length part - p.next)
    (s : Reach) (b : Bool) (at : ℕ) (out' own' m' : List ℕ) where
  -- what stands behind one record more
  abbrev on : PartWay
  on = record { reach = s; stopped = b; next = p.next + file_record_width; at = at }

  leads_one : way_at on out' own' m' ≡ record_foreseen (way_at p out own m) (take file_record_width (drop p.next part)) → leads on part out' own' m' ≡ leads p part out own m
  unfolding leads way_at
  leads_one e =
      ap₂ (λ (f : Foresight) (bytes : List ℕ). records_foreseen f left bytes) e (sym (drop-drop file_record_width p.next part))
      ∙ sym (foreseen_one (way_at p out own m) left (drop p.next part) going)
      ∙ ap (λ (n : ℕ). records_foreseen (way_at p out own m) n (drop p.next part)) one_less
    where
      left : ℕ
      left = (length part - (p.next + file_record_width)) / file_record_width

      one_less : suc ((length part - (p.next + file_record_width)) / file_record_width) ≡ (length part - p.next) / file_record_width
      one_less = omega (arith, there)

  -- it is taken
  pub passing_one : MemorySound s b own' m' → at ≤ p.at + line_limit → RestKept out p.at out' at
      → way_at on out' own' m' ≡ record_foreseen (way_at p out own m) (take file_record_width (drop p.next part)) → PartPassing p part out own m on out' own' m'
  passing_one sound near kept e =
      record {
        able =
            record {
              sound = sound;
              within = omega (arith, there);
              aligned = omega (arith, h.aligned);
              room = omega (arith, there, h.room, near, kept.long);
            };
        is = leads_one e;
        kept = kept;
      }

-- ---- the opening

-- an opening that is refused is refused by 2
refused_by_two : (o : Opening) → (opening_refusal mainframe o ≡ 0 → ⊥) → opening_refusal mainframe o ≡ 2
unfolding opening_refusal
refused_by_two o z = go (eqb o.first 0 && counts_in_range mainframe o.counts && eqb o.rest 0) z
  where
    go : (b : Bool) → (◌≡◌ {A = ℕ} (cond b 0 2) 0 → ⊥) → ◌≡◌ {A = ℕ} (cond b 0 2) 2
    go true n = absurd (n refl)
    go false n = refl

module _ (s : Reach) (part out own m : List ℕ) (h : FirstTakeable s part out own m) where
  first_begins : PartPassing (nothing_taken s) part out own m (record { reach = s; stopped = false; next = 0; at = 0 }) out own m
  unfolding nothing_taken
  first_begins = none_passed (nothing_taken s) part out own m h.able

  -- it is taken before, or fewer than eight bytes are there
  pub first_none : (s.number ≡ 0 → ⊥) ⊎ ((s.number ≡ 0) × (length part < file_record_width)) → OpeningPassed s part out own m (record { reach = s; stopped = false; next = 0; at = 0 }) out own m
  first_none none = record { passing = first_begins; on = record { able = first_begins.able; opened = λ z e. short none e } }
    where
      short : (s.number ≡ 0 → ⊥) ⊎ ((s.number ≡ 0) × (length part < file_record_width)) → s.number ≡ 0 → length part < 0 + file_record_width
      short (inl n) e = absurd (n e)
      short (inr l) e = l.1

  module _ (n : s.number ≡ 0) (l : file_record_width ≤ length part) where
    -- the opening lies there
    pub first_there : OpeningGiven (take (file_record_width - 0) (drop 0 part)) own m
    unfolding nothing_taken
    first_there = record { opening = length-take-le file_record_width part l; entries = h.able.sound.entries; marks = h.able.sound.marks }

    module _ (refusal : ℕ) (own' m' : List ℕ) (o : OpeningForeseen (take (file_record_width - 0) (drop 0 part)) own m refusal own' m')
        (out' : List ℕ) (at : ℕ) (put : LinePut out 0 (line_bytes 0 refusal 0 0) out' at) where
      abbrev bytes : List ℕ
      bytes = take file_record_width part

      first_taken : (b : Bool) → (b ≡ false → refusal ≡ 0)
          → way_at (record { reach = record { number = 1; most = 0 }; stopped = b; next = 0 + file_record_width; at = at }) out' own' m' ≡ record_foreseen (way_at (nothing_taken s) out own m) (take file_record_width (drop 0 part))
          → OpeningPassed s part out own m (record { reach = record { number = 1; most = 0 }; stopped = b; next = file_record_width; at = at }) out' own' m'
      unfolding nothing_taken
      first_taken b z e =
          let one = passing_one (nothing_taken s) part out own m h.able refl (omega (arith, l)) (record { number = 1; most = 0 }) b at out' own' m'
          (record { few = omega arith; entries = o.entries; marks = o.marks; foreseen = λ c k. o.foreseen (z c) }) put.near put.kept e in
          record { passing = one; on = record { able = one.able; opened = λ c k. absurd (omega (arith, k)) } }

      -- what stands behind the opening, by its parts
      stands : (b : Bool) (k : Forecast) (r : ℕ) → forecast_in own' m' ≡ k → refusal ≡ r
          → ◌≡◌ {A = Foresight} (record { number = 1; stopped = b; forecast = forecast_in own' m'; most = 0; lines = take at out' }) (record { number = 1; stopped = b; forecast = k; most = 0; lines = take 0 out ++ line_bytes 0 r 0 0 })
      stands b k r e f = let e₂ : take at out' ≡ take 0 out ++ line_bytes 0 r 0 0 = put.lines ∙ ap (λ (j : ℕ). take 0 out ++ line_bytes 0 j 0 0) f in
          λ i. record { number = 1; stopped = b; forecast = e i; most = 0; lines = e₂ i }

      -- it is refused
      first_refused : (refusal ≡ 0 → ⊥) → OpeningPassed s part out own m (record { reach = record { number = 1; most = 0 }; stopped = true; next = file_record_width; at = at }) out' own' m'
      first_refused z = first_taken true (λ c. absurd (true≢false c)) is
        where
          two : opening_refusal mainframe (opening_of bytes) ≡ 2
          two = refused_by_two (opening_of bytes) (λ e. z (o.refused ∙ e))

          is : way_at (record { reach = record { number = 1; most = 0 }; stopped = true; next = 0 + file_record_width; at = at }) out' own' m' ≡ record_foreseen (way_at (nothing_taken s) out own m) (take file_record_width (drop 0 part))
          is = unfold way_at nothing_taken record_foreseen opening_foreseen refusal_line in
              stands true (forecast_in own m) 2 (o.after ∙ ap (λ (b : Bool). cond b (opened_for mainframe (opening_of bytes).counts) (forecast_in own m)) (ne_eqb refusal 0 z)) (o.refused ∙ two)
              ∙ sym (rw (eq-eqb s.number 0 n, two) refl)

      -- it is accepted
      first_accepted : refusal ≡ 0 → OpeningPassed s part out own m (record { reach = record { number = 1; most = 0 }; stopped = false; next = file_record_width; at = at }) out' own' m'
      first_accepted z = first_taken false (λ c. z) is
        where
          none : opening_refusal mainframe (opening_of bytes) ≡ 0
          none = sym o.refused ∙ z

          is : way_at (record { reach = record { number = 1; most = 0 }; stopped = false; next = 0 + file_record_width; at = at }) out' own' m' ≡ record_foreseen (way_at (nothing_taken s) out own m) (take file_record_width (drop 0 part))
          is = unfold way_at nothing_taken record_foreseen opening_foreseen refusal_line in
              stands false (opened_for mainframe (opening_of bytes).counts) 0 (o.after ∙ ap (λ (b : Bool). cond b (opened_for mainframe (opening_of bytes).counts) (forecast_in own m)) (eq-eqb refusal 0 z)) z
              ∙ sym (rw (eq-eqb s.number 0 n, none) refl)

    -- it is taken: what the call says tells which
    pub first_opened : (opened : Result (Unit {0}) Refusal) (own' m' : List ℕ) → OpeningForeseen (take (file_record_width - 0) (drop 0 part)) own m (refusal_in opened) own' m'
        → (refusal : ℕ) → refusal ≡ refusal_in opened → (b : Bool) → b ≡ is_err opened → (out' : List ℕ) (at : ℕ) → LinePut out 0 (line_bytes 0 refusal 0 0) out' at
        → OpeningPassed s part out own m (record { reach = record { number = 1; most = 0 }; stopped = b; next = file_record_width; at = at }) out' own' m'
    first_opened (Ok x) own' m' o refusal is b stops out' at put = rw stops (first_accepted 0 own' m' o out' at (rw is at put) refl)
    first_opened (Err r) own' m' o refusal is b stops out' at put = rw stops (first_refused (number_of r) own' m' o out' at (rw is at put) (number_of_pos r))

pub ruleset first_laws = (first_none, first_there, first_opened, rules)

-- ---- one too many

module _ (p : PartWay) (part out m : List ℕ) where
  -- the forecast has stopped before
  pub last_stopped : p.stopped ≡ true → LastPassed p part out m p out
  last_stopped y = record { is = λ own h. record { passing = none_passed p part out own m h; few_left = λ z. absurd (true≢false (sym y ∙ z)) } }

  -- fewer than eight bytes are left
  pub last_short : length part - p.next < file_record_width → LastPassed p part out m p out
  last_short l = record { is = λ own h. record { passing = none_passed p part out own m h; few_left = λ z. omega (arith, l) } }

  module _ (k : LastTakeable p part out m) (l : file_record_width ≤ length part - p.next) (going : p.stopped ≡ false) where
    pub last_foreseen : MarksForeseen m
    last_foreseen = record { own = k.own; foreseen = k.able.sound.foreseen going (omega (arith, k.over going (omega (arith, l)))) }

    pub last_taken : (out' : List ℕ) (at : ℕ) → FiguresPut out p.at p.reach.number 16 m out' at
        → LastPassed p part out m (record { reach = p.reach; stopped = true; next = p.next + file_record_width; at = at }) out'
    last_taken out' at put =
        record {
          is = λ own h.
              record {
                passing =
                    passing_one p part out own m h going l p.reach true at out' own m
                    (record { few = h.sound.few; entries = h.sound.entries; marks = h.sound.marks; foreseen = λ c. absurd (true≢false c) })
                    (put.is own).near (put.is own).kept (is own);
                few_left = λ z. absurd (true≢false z);
              };
        }
      where
        last : p.reach.number ≡ file_record_limit
        last = k.over going (omega (arith, l))

        is : (own : List ℕ)
            → way_at (record { reach = p.reach; stopped = true; next = p.next + file_record_width; at = at }) out' own m ≡ record_foreseen (way_at p out own m) (take file_record_width (drop p.next part))
        is own = unfold way_at record_foreseen too_many_foreseen in
            ap (λ (l : List ℕ). record { number = p.reach.number; stopped = true; forecast = forecast_in own m; most = p.reach.most; lines = l }) (put.is own).lines
            ∙ sym (rw (ne_eqb p.reach.number 0 (λ e. omega (arith, e, last)), lt-leb p.reach.number step_limit (omega (arith, last))) refl)

pub ruleset last_laws = (last_stopped, last_short, last_foreseen, last_taken, rules)
