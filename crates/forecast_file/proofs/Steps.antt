-- The steps that follow in a part: one step, and all of them, one after the other. One law for each way of the code, `step_laws`, `run_laws` and
-- `steps_laws`. Rests on Passing. Assumes nothing.
use Prim.Native.Nat.{ℕ, suc, ◌+◌, ◌≤◌, ◌<◌, max}
use native.Mathlib.Omega.{arith}
use mathlib.Core.Path.{◌≡◌, refl, sym, ap, ap₂, subst, ◌∙◌}
use mathlib.Core.Bool.{Bool, true, false, true≢false}
use mathlib.Core.List.{List, ◌++◌}
use lib.ListN.{length, take, drop}
use borrow.Author.Rules.{rules}
use Rattle.limits.specs.Files.{file_record_width, step_limit}
use Rattle.rules.specs.State.{mainframe}
use Rattle.rules.specs.Refusals.{Step, step_of}
use Rattle.rules.specs.Forecast.{Forecast, forecast_refusal, forecast_next, dirty_for}
use Rattle.step_fields.specs.Records.{step_from}
use Rattle.step_fields.specs.inner.Needed.{FieldsAre}
use Rattle.lines.specs.Lines.{line_bytes}
use Rattle.lines.specs.inner.Needed.{Counted, Countable}
use Rattle.file_lines.specs.inner.Needed.{LinePut, AllAhead}
use Rattle.forecast_step.specs.Memory.{forecast_in}
use Rattle.forecast_step.specs.inner.Needed.{StepForeseen, MarksForeseen, FiguresShown}
use Rattle.forecast_file.specs.Standing.{Foresight, step_foreseen, record_foreseen}
use Rattle.forecast_file.specs.declared.PartWay.{PartWay}
use Rattle.forecast_file.specs.declared.Stepped.{Stepped}
use Rattle.forecast_file.specs.inner.Needed.{way_at, leads, PartPassing, StepsTakeable, StepsPassed, StepsAhead, Steppable, StepTaken}
use Rattle.forecast_file.proofs.Records.{one_step}
use Rattle.forecast_file.proofs.Passing.{none_passed, passing_on, passing_one}

-- ---- one step

-- the marks that it leaves have figures
pub stepped_foreseen : (own m : List ℕ) (t : Step) (refusal : ℕ) (own' m' : List ℕ) → StepForeseen own m t refusal own' m' → MarksForeseen m'
stepped_foreseen own m t refusal own' m' h = record { own = own'; foreseen = h.foreseen }

module _ (part : List ℕ) (i : ℕ) (out : List ℕ) (at : ℕ) (own m : List ℕ) (h : Steppable part i out at own m) where
  -- it is taken
  pub step_taken_lem : (number k p o v refusal : ℕ) (own' m' : List ℕ) (n d : ℕ) (out' : List ℕ) (end : ℕ) → FieldsAre part i k p o v → StepForeseen own m (step_of k p o v) refusal own' m'
      → FiguresShown m' n d → LinePut out at (line_bytes number refusal n d) out' end → StepTaken part i number out at own m (record { at = end; sum = n + d }) out' own' m'
  step_taken_lem number k p o v refusal own' m' n d out' end f s g l =
      record {
        after = s.after ∙ ap (λ (t : Step). forecast_next mainframe (forecast_in own m) t) f.is;
        foreseen = s.foreseen;
        put = subst (λ (line : List ℕ). LinePut out at line out' end) line l;
        sum = ap₂ ◌+◌ (g.is_standing own') (g.is_dirty own');
      }
    where
      line : line_bytes number refusal n d ≡ line_bytes number (forecast_refusal mainframe (forecast_in own m) (step_from (drop i part))) (forecast_in own' m').standing (dirty_for (forecast_in own' m'))
      line =
          ap (λ (x : ℕ). line_bytes number x n d) (s.refused ∙ ap (λ (t : Step). forecast_refusal mainframe (forecast_in own m) t) f.is)
          ∙ ap₂ (λ (x y : ℕ). line_bytes number (forecast_refusal mainframe (forecast_in own m) (step_from (drop i part))) x y) (g.is_standing own') (g.is_dirty own')

pub ruleset step_laws = (stepped_foreseen, step_taken_lem, rules)

-- ---- one after the other

-- the steps up to a place are taken, from this number on to that, and there are more up to the end
pub record StepsGoing (number₀ most₀ at₀ i₀ : ℕ) (part : List ℕ) (end : ℕ) (out₀ own₀ m₀ : List ℕ) (number most at i : ℕ) (out own m : List ℕ) : Type 0 where
  pub passing :
      PartPassing (record { reach = record { number = number₀; most = most₀ }; stopped = false; next = i₀; at = at₀ }) part out₀ own₀ m₀ (record { reach = record { number = number; most = most }; stopped = false; next = i; at = at }) out own m
  pub ahead : AllAhead number i end (length part)
  pub opened : 1 ≤ number

module _ (p : PartWay) (part : List ℕ) (end : ℕ) (out own m : List ℕ) (h : StepsAhead p part end out own m) where
  -- none is taken yet
  pub going_begins : StepsGoing p.reach.number p.reach.most p.at p.next part end out own m p.reach.number p.reach.most p.at p.next out own m
  going_begins =
      record {
        passing =
            none_passed (record { reach = p.reach; stopped = false; next = p.next; at = p.at }) part out own m
            (record {
              sound =
                  record {
                    few = h.able.sound.few;
                    entries = h.able.sound.entries;
                    marks = h.able.sound.marks;
                    foreseen = λ z. h.able.sound.foreseen h.going;
                  };
              within = h.able.within;
              aligned = h.able.aligned;
              room = h.able.room;
            });
        ahead = h.ahead;
        opened = h.opened;
      }

  -- all are taken
  pub going_ends : (number most at i : ℕ) (out' own' m' : List ℕ)
      → StepsGoing p.reach.number p.reach.most p.at p.next part end out own m number most at i out' own' m' → end ≤ i
      → StepsPassed p part out own m (record { reach = record { number = number; most = most }; stopped = false; next = end; at = at }) out' own' m'
  unfolding leads way_at
  going_ends number most at i out' own' m' k e =
      rw last
      (record {
        passing =
            record {
              able = k.passing.able;
              is = k.passing.is ∙ ap (λ (b : Bool). leads (record { reach = p.reach; stopped = b; next = p.next; at = p.at }) part out own m) (sym h.going);
              kept = k.passing.kept;
            };
        over = λ z l. omega (arith, e, k.ahead.ahead.on, l, k.ahead.all (omega (arith, e, k.ahead.ahead.on, l)));
      })
    where
      last : end ≡ i
      last = omega (arith, e, k.ahead.ahead.on)

module _ (number₀ most₀ at₀ i₀ : ℕ) (part : List ℕ) (end : ℕ) (out₀ own₀ m₀ : List ℕ) (number most at i : ℕ) (out own m : List ℕ)
    (h : StepsGoing number₀ most₀ at₀ i₀ part end out₀ own₀ m₀ number most at i out own m) where
  module _ (b : i < end) where
    -- the next record stands in the part, and is a step
    next_within : i + file_record_width ≤ length part
    next_within = omega (arith, b, h.ahead.ahead.whole, h.ahead.within)

    next_numbered : number ≤ step_limit
    next_numbered = omega (arith, b, h.ahead.ahead.whole, h.ahead.ahead.few)

    -- what it asks
    pub next_there : Steppable part i out at own m
    next_there =
        record { foreseen = h.passing.able.sound.foreseen refl h.opened; there = next_within; room = omega (arith, next_within, h.passing.able.room) }

    -- the digits of its number may be counted on
    pub next_countable : (d : List ℕ) (len : ℕ) → Counted d len number → Countable d len number
    next_countable d len k = record { now_counted = k; few = omega (arith, next_numbered) }

    -- it is taken
    pub going_more : (r : Stepped) (out' own' m' : List ℕ) (most' : ℕ) → StepTaken part i number out at own m r out' own' m' → most' ≡ max most r.sum
        → StepsGoing number₀ most₀ at₀ i₀ part end out₀ own₀ m₀ (number + 1) most' r.at (i + file_record_width) out' own' m'
    going_more r out' own' m' most' d e =
        record {
          passing =
              passing_on (record { reach = record { number = number₀; most = most₀ }; stopped = false; next = i₀; at = at₀ }) part out₀ own₀ m₀ now out own m
              (record { reach = record { number = number + 1; most = most' }; stopped = false; next = i + file_record_width; at = r.at }) out' own' m' h.passing
              (passing_one now part out own m h.passing.able refl (omega (arith, next_within)) (record { number = number + 1; most = most' }) false r.at out' own' m'
              (record { few = omega (arith, next_numbered); entries = d.foreseen.entries; marks = d.foreseen.marks; foreseen = λ z l. d.foreseen }) d.put.near d.put.kept is);
          ahead =
              record {
                ahead =
                    record {
                      on = omega (arith, b, h.ahead.ahead.whole);
                      whole = omega (arith, b, h.ahead.ahead.whole);
                      few = omega (arith, b, h.ahead.ahead.whole, h.ahead.ahead.few);
                    };
                within = h.ahead.within;
                all = λ l. omega (arith, b, h.ahead.ahead.whole, h.ahead.all l);
              };
          opened = omega arith;
        }
      where
        now : PartWay
        now = record { reach = record { number = number; most = most }; stopped = false; next = i; at = at }

        next_number : number + 1 ≡ suc number
        next_number = omega arith

        g : Forecast
        g = forecast_next mainframe (forecast_in own m) (step_from (drop i part))

        line : Forecast → List ℕ
        line k = take at out ++ line_bytes number (forecast_refusal mainframe (forecast_in own m) (step_from (drop i part))) k.standing (dirty_for k)

        parts : (n n' : ℕ) (k k' : Forecast) (x x' : ℕ) (l l' : List ℕ) → n ≡ n' → k ≡ k' → x ≡ x' → l ≡ l'
            → ◌≡◌ {A = Foresight} (record { number = n; stopped = false; forecast = k; most = x; lines = l }) (record { number = n'; stopped = false; forecast = k'; most = x'; lines = l' })
        parts n n' k k' x x' l l' en ek ex el = λ j. record { number = en j; stopped = false; forecast = ek j; most = ex j; lines = el j }

        is : way_at (record { reach = record { number = number + 1; most = most' }; stopped = false; next = i + file_record_width; at = r.at }) out' own' m'
            ≡ record_foreseen (way_at (record { reach = record { number = number; most = most }; stopped = false; next = i; at = at }) out own m) (take file_record_width (drop i part))
        is = unfold way_at step_foreseen in
            parts (number + 1) (suc number) (forecast_in own' m') (forecast_next mainframe (forecast_in own m) (step_from (drop i part))) most'
            (max most ((forecast_next mainframe (forecast_in own m) (step_from (drop i part))).standing + dirty_for (forecast_next mainframe (forecast_in own m) (step_from (drop i part))))) (take r.at out')
            (take at out ++ line_bytes number (forecast_refusal mainframe (forecast_in own m) (step_from (drop i part))) (forecast_next mainframe (forecast_in own m) (step_from (drop i part))).standing (dirty_for (forecast_next mainframe (forecast_in own m) (step_from (drop i part)))))
            next_number d.after (e ∙ ap (λ (x : ℕ). max most x) (d.sum ∙ ap (λ (k : Forecast). k.standing + dirty_for k) d.after)) (d.put.lines ∙ ap line d.after)
            ∙ sym (one_step (way_at (record { reach = record { number = number; most = most }; stopped = false; next = i; at = at }) out own m) (drop i part) h.opened next_numbered)

pub ruleset run_laws = (going_begins, going_ends, next_there, next_countable, going_more, rules)

-- ---- which steps follow

module _ (p : PartWay) (part out own m : List ℕ) (h : StepsTakeable p part out own m) where
  -- none, where the forecast has stopped
  pub steps_stopped : p.stopped ≡ true → StepsPassed p part out own m p out own m
  steps_stopped y = record { passing = none_passed p part out own m h.able; over = λ z l. absurd (true≢false (sym y ∙ z)) }

  -- nor where the opening is missing
  pub steps_unopened : p.reach.number ≡ 0 → StepsPassed p part out own m p out own m
  steps_unopened n = record { passing = none_passed p part out own m h.able; over = λ z l. absurd (omega (arith, l, h.opened z n)) }

  pub steps_runnable : (end : ℕ) → AllAhead p.reach.number p.next end (length part) → p.stopped ≡ false → (p.reach.number ≡ 0 → ⊥) → StepsAhead p part end out own m
  steps_runnable end a z n = record { able = h.able; ahead = a; going = z; opened = omega (arith, n) }

pub ruleset steps_laws = (steps_stopped, steps_unopened, steps_runnable, rules)
