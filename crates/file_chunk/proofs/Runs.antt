-- The steps that follow in a chunk, taken one after the other without a stand between them, on areas in order or refused. One law for each way of the
-- code, and `run_laws`. Rests on Passing and Records. Assumes nothing.
use Prim.Native.Nat.{◌*◌, ◌+◌, ◌-◌, ◌/◌, ◌<◌, ◌≤◌, ℕ}
use native.Mathlib.Omega.{arith}
use mathlib.Core.Path.{◌∙◌, ◌≡◌, ap, refl, sym}
use mathlib.Core.Bool.{Bool, false, not, true, true≢false}
use mathlib.Core.List.{List}
use lib.ListN.{drop, length}
use mir.Syntax.{w32}
use mir.Val.{Fits}
use borrow.Author.Rules.{rules}
use Rattle.std.specs.Prelude.{Err}
use Rattle.limits.specs.declared.Refusal.TheVariants.{NotInOrder}
use Rattle.limits.specs.Files.{file_record_width, line_limit, step_limit}
use Rattle.limits.specs.inner.Sizes.{file_record_limit, mark_area}
use Rattle.rules.specs.State.{mainframe}
use Rattle.layout.specs.Areas.{state_in}
use Rattle.fetch_index.specs.inner.Index.{unranked, IndexKept}
use Rattle.fetch_index.proofs.Kept.{new_kept}
use Rattle.step_act.specs.Telling.{Outcome}
use Rattle.engine.specs.inner.Needed.{SteppedKept}
use Rattle.engine.proofs.Answering.{ready_when_fine}
use Rattle.step_fields.specs.Records.{step_from}
use Rattle.step_record.specs.inner.Needed.{StepThere}
use Rattle.lines.specs.Lines.{line_bytes}
use Rattle.lines.specs.inner.Needed.{Countable, Counted, Room}
use Rattle.file_record.specs.declared.Stand.{Stand}
use Rattle.file_lines.specs.inner.Needed.{LinePut, Ahead, AllAhead}
use Rattle.file_record.specs.inner.Needed.{Reply, TotalThere, WordsAdded, reply_of, outcome_line, reply_words}
use Rattle.file_chunk.specs.inner.Needed.{Passing, RoomForSteps, Runnable, StepsPassable, StepsRefused, StepsTaken}
use Rattle.file_chunk.proofs.Passing.{passing_begins, passing_on, passing_one}
use Rattle.file_chunk.proofs.Records.{Answered, answered_in_order, answered_out_of_order, step_record}

-- ---- steps one after the other

-- the steps up to a place are taken, from this number on to that, and there are more up to the end; ready says whether the areas are in order
pub record Going (ready : Bool) (number₀ at₀ moved₀ : ℕ) (chunk : List ℕ) (from end : ℕ) (out₀ c₀ w₀ r₀ m₀ : List ℕ) (number at moved i : ℕ) (out c w r m : List ℕ) : Type 0 where
  pub passing :
      Passing (record { number = number₀; stopped = false; ready = ready; at = at₀; words = moved₀ }) chunk from out₀ c₀ w₀ r₀ m₀ (record { number = number; stopped = false; ready = ready; at = at; words = moved }) i out c w r m
  pub ahead : AllAhead number i end (length chunk)
  pub opened : 1 ≤ number

module _ (ready : Bool) (s : Stand) (chunk : List ℕ) (from end : ℕ) (out c w r m : List ℕ) (h : Runnable ready s chunk from end out c w r m) where
  -- none is taken yet
  going_begins : Going ready s.number s.at s.words chunk from end out c w r m s.number s.at s.words from out c w r m
  going_begins =
      record {
        passing =
            passing_begins (record { number = s.number; stopped = false; ready = ready; at = s.at; words = s.words }) chunk from out c w r m
            (record {
              few = h.passable.few;
              within = h.passable.within;
              room = h.passable.room;
              order = rw (← h.said) h.passable.order;
              total = h.passable.total;
            });
        ahead = h.ahead;
        opened = h.opened;
      }

  -- all are taken: they lead from the first stand to this one
  going_ends : (number at moved i : ℕ) (out' c' w' r' m' : List ℕ) → Going ready s.number s.at s.words chunk from end out c w r m number at moved i out' c' w' r' m' → end ≤ i
      → StepsTaken s chunk from out c w r m (record { number = number; stopped = s.stopped; ready = s.ready; at = at; words = moved }) end out' c' w' r' m'
  going_ends number at moved i out' c' w' r' m' g e =
      let z : i ≡ end = omega (arith, e, g.ahead.ahead.on) in
      let k = rw z at g in
      rw (h.going, h.said)
      (record {
        passing = k.passing;
        able =
            record {
              within = k.passing.able.within;
              room = k.passing.able.room;
              over = λ y l. omega (arith, l, k.ahead.all l);
            };
      })

module _ (ready : Bool) (number₀ at₀ moved₀ : ℕ) (chunk : List ℕ) (from end : ℕ) (out₀ c₀ w₀ r₀ m₀ : List ℕ) (number at moved i : ℕ) (out c w r m : List ℕ)
    (h : Going ready number₀ at₀ moved₀ chunk from end out₀ c₀ w₀ r₀ m₀ number at moved i out c w r m) (b : i < end) where
  -- the next record stands in the chunk, and is a step
  next_within : i + file_record_width ≤ length chunk
  next_within = omega (arith, b, h.ahead.ahead.whole, h.ahead.within)

  next_numbered : number ≤ step_limit
  next_numbered = omega (arith, b, h.ahead.ahead.whole, h.ahead.ahead.few)

  -- it is taken
  going_more : (o : Outcome) (c' w' r' m' out' : List ℕ) (at' moved' : ℕ) → Answered (step_from (drop i chunk)) c w r m o ready c' w' r' m'
      → LinePut out at (outcome_line number (reply_of o)) out' at' → WordsAdded moved (reply_of o) moved'
      → length c' ≡ length c → length w' ≡ length w → length r' ≡ length r → length m' ≡ length m
      → Going ready number₀ at₀ moved₀ chunk from end out₀ c₀ w₀ r₀ m₀ (number + 1) at' moved' (i + file_record_width) out' c' w' r' m'
  going_more o c' w' r' m' out' at' moved' a k v ec ew er em =
      let s₀ : Stand = record { number = number₀; stopped = false; ready = ready; at = at₀; words = moved₀ } in
      let s : Stand = record { number = number; stopped = false; ready = ready; at = at; words = moved } in
      let s' : Stand = record { number = number + 1; stopped = false; ready = ready; at = at'; words = moved' } in
      record {
        passing =
            passing_on s₀ chunk from out₀ c₀ w₀ r₀ m₀ s i out c w r m h.passing s' (i + file_record_width) out' c' w' r' m'
            (passing_one s chunk i out c w r m h.passing.able (omega (arith, next_within)) s' out' c' w' r' m' refl
            (step_record s chunk i out c w r m o c' w' r' m' out' at' moved' h.opened next_numbered h.passing.able.total a k v) ec ew er em);
        ahead =
            record {
              ahead =
                  record {
                    on = omega (arith, b, h.ahead.ahead.whole);
                    whole = omega (arith, b, h.ahead.ahead.whole);
                    few = omega (arith, b, h.ahead.ahead.whole, h.ahead.ahead.few);
                  };
              within = h.ahead.within;
              all = λ l. omega (arith, b, h.ahead.ahead.whole, h.ahead.all l);
            };
        opened = omega arith;
      }

-- ---- on areas in order

-- the steps so far are taken, and the index is kept
pub record Running (number₀ at₀ moved₀ : ℕ) (chunk : List ℕ) (from end : ℕ) (out₀ c₀ w₀ r₀ m₀ : List ℕ) (number at moved i : ℕ) (out c w r m x : List ℕ) : Type 0 where
  pub going : Going true number₀ at₀ moved₀ chunk from end out₀ c₀ w₀ r₀ m₀ number at moved i out c w r m
  pub kept : IndexKept c r m x

module _ (s : Stand) (chunk : List ℕ) (from end : ℕ) (out c w r m : List ℕ) (h : Runnable true s chunk from end out c w r m) where
  -- the marks have their size
  pub running_marks : length m ≡ mark_area
  running_marks = (ready_when_fine c w r m s.ready h.passable.order (ap not h.said)).lent.marks

  -- none is taken yet, and the index is new
  pub running_begins : (x : List ℕ) → x ≡ unranked m → Running s.number s.at s.words chunk from end out c w r m s.number s.at s.words from out c w r m x
  running_begins x e = record { going = going_begins true s chunk from end out c w r m h; kept = new_kept c r m x e }

  pub running_ends : {number at moved i : ℕ} {out' c' w' r' m' x : List ℕ} → Running s.number s.at s.words chunk from end out c w r m number at moved i out' c' w' r' m' x → end ≤ i
      → StepsTaken s chunk from out c w r m (record { number = number; stopped = s.stopped; ready = s.ready; at = at; words = moved }) end out' c' w' r' m'
  running_ends {number} {at} {moved} {i} {out'} {c'} {w'} {r'} {m'} {x} k e = going_ends true s chunk from end out c w r m h number at moved i out' c' w' r' m' k.going e

module _ {number₀ at₀ moved₀ : ℕ} {chunk : List ℕ} {from end : ℕ} {out₀ c₀ w₀ r₀ m₀ : List ℕ} {number at moved i : ℕ} {out c w r m x : List ℕ}
    (h : Running number₀ at₀ moved₀ chunk from end out₀ c₀ w₀ r₀ m₀ number at moved i out c w r m x) where
  module _ (b : i < end) where
    within : i + file_record_width ≤ length chunk
    within = next_within true number₀ at₀ moved₀ chunk from end out₀ c₀ w₀ r₀ m₀ number at moved i out c w r m h.going b

    numbered : number ≤ step_limit
    numbered = next_numbered true number₀ at₀ moved₀ chunk from end out₀ c₀ w₀ r₀ m₀ number at moved i out c w r m h.going b

    -- the next number is one of 32 bits
    pub next_fits : Fits w32 (number + 1)
    next_fits = omega (arith, numbered)

    -- what the next step and its line ask
    pub next_there : StepThere chunk i c w r m x
    next_there =
        record {
          ready = record { ready = ready_when_fine c w r m true h.going.passing.able.order refl; kept = h.kept };
          there = within;
        }

    pub room_for_next : Room out at line_limit
    room_for_next = record { room = omega (arith, within, h.going.passing.able.room) }

    -- the words that have moved
    pub total_there : TotalThere moved number
    total_there = record { few = omega (arith, numbered); bounded = h.going.passing.able.total }

    -- the digits of its number may be counted on
    pub next_countable : (d : List ℕ) (len : ℕ) → Counted d len number → Countable d len number
    next_countable d len k = record { now_counted = k; few = omega (arith, numbered) }

    -- one more is taken
    pub running_more : {o : Outcome} {q : Reply} {c' w' r' m' x' out' : List ℕ} {at' moved' : ℕ}
        → SteppedKept (state_in mainframe c w r m) (step_from (drop i chunk)) o c' w' r' m' x'
        → q ≡ reply_of o
        → WordsAdded moved q moved'
        → LinePut out at (outcome_line number q) out' at'
        → length c' ≡ length c → length w' ≡ length w → length r' ≡ length r → length m' ≡ length m
        → Running number₀ at₀ moved₀ chunk from end out₀ c₀ w₀ r₀ m₀ (number + 1) at' moved' (i + file_record_width) out' c' w' r' m' x'
    running_more {o} {q} {c'} {w'} {r'} {m'} {x'} {out'} {at'} {moved'} d n v k ec ew er em =
        record {
          going =
              going_more true number₀ at₀ moved₀ chunk from end out₀ c₀ w₀ r₀ m₀ number at moved i out c w r m h.going b o c' w' r' m' out' at' moved'
              (answered_in_order (step_from (drop i chunk)) c w r m h.going.passing.able.order o c' w' r' m' d.stepped) (rw n at k) (rw n at v) ec ew er em;
          kept = d.kept;
        }

-- ---- on areas that are not in order

-- the steps so far are refused, whatever the chunk and the areas, and there is room for the lines of the others
pub record Refusing (number₀ at₀ moved₀ from end : ℕ) (out₀ : List ℕ) (number at i : ℕ) (out : List ℕ) : Type 0 where
  pub ahead : Ahead number i end
  pub room : at + line_limit * ((end - i) / file_record_width) ≤ length out
  pub is : (chunk c w r m : List ℕ) → Going false number₀ at₀ moved₀ chunk from end out₀ c w r m number₀ at₀ moved₀ from out₀ c w r m
      → Going false number₀ at₀ moved₀ chunk from end out₀ c w r m number at moved₀ i out c w r m

module _ (s : Stand) (from end : ℕ) (out : List ℕ) where
  pub refusing_begins : RoomForSteps s from end out → Refusing s.number s.at s.words from end out s.number s.at from out
  refusing_begins h = record { ahead = h.ahead; room = h.room; is = λ chunk c w r m k. k }

  pub refusing_ends : {number at i : ℕ} {out' : List ℕ} → Refusing s.number s.at s.words from end out number at i out' → end ≤ i
      → StepsRefused s from end out (record { number = number; stopped = s.stopped; ready = s.ready; at = at; words = s.words }) end out'
  refusing_ends {number} {at} {i} {out'} k e =
      record {
        is = λ chunk c w r m h.
            going_ends false s chunk from end out c w r m h number at s.words i out' c w r m (k.is chunk c w r m (going_begins false s chunk from end out c w r m h)) e;
      }

module _ {number₀ at₀ moved₀ from end : ℕ} {out₀ : List ℕ} {number at i : ℕ} {out : List ℕ} (h : Refusing number₀ at₀ moved₀ from end out₀ number at i out) where
  module _ (b : i < end) where
    pub refusing_fits : Fits w32 (number + 1)
    refusing_fits = omega (arith, b, h.ahead.whole, h.ahead.few)

    pub refusing_room : Room out at line_limit
    refusing_room = record { room = omega (arith, b, h.ahead.whole, h.room) }

    -- one more is refused
    pub refusing_more : {n : ℕ} {out' : List ℕ} {at' : ℕ} → n ≡ 1 → LinePut out at (line_bytes number n 0 0) out' at'
        → Refusing number₀ at₀ moved₀ from end out₀ (number + 1) at' (i + file_record_width) out'
    unfolding outcome_line reply_of reply_words
    refusing_more {n} {out'} {at'} one k =
        record {
          ahead =
              record {
                on = omega (arith, b, h.ahead.whole);
                whole = omega (arith, b, h.ahead.whole);
                few = omega (arith, b, h.ahead.whole, h.ahead.few);
              };
          room = omega (arith, b, h.ahead.whole, h.room, k.near, k.kept.long);
          is = λ chunk c w r m g.
              let now = h.is chunk c w r m g in
              going_more false number₀ at₀ moved₀ chunk from end out₀ c w r m number at moved₀ i out c w r m now b (Err NotInOrder) c w r m out' at' moved₀
              (answered_out_of_order (step_from (drop i chunk)) c w r m now.passing.able.order) (rw one at k) (record { is = omega arith; few = omega arith }) refl refl refl refl;
        }

-- ---- which steps follow

module _ (s : Stand) (chunk : List ℕ) (from : ℕ) (out c w r m : List ℕ) (h : StepsPassable s chunk from out c w r m) where
  none_taken : (s.stopped ≡ false → from + file_record_width ≤ length chunk → s.number ≡ file_record_limit) → StepsTaken s chunk from out c w r m s from out c w r m
  none_taken o =
      record {
        passing = passing_begins s chunk from out c w r m h.passable;
        able = record { within = h.passable.within; room = h.passable.room; over = o };
      }

  -- none, where the run has stopped
  pub run_stopped : s.stopped ≡ true → StepsTaken s chunk from out c w r m s from out c w r m
  run_stopped y = none_taken (λ z l. absurd (true≢false (sym y ∙ z)))

  -- nor where the opening is missing
  pub run_unopened : s.number ≡ 0 → StepsTaken s chunk from out c w r m s from out c w r m
  run_unopened n = none_taken (λ z l. absurd (omega (arith, l, h.opened z n)))

  module _ (end : ℕ) (a : AllAhead s.number from end (length chunk)) where
    pub refusable : RoomForSteps s from end out
    refusable = record { ahead = a.ahead; room = omega (arith, a.ahead.on, a.within, h.passable.room) }

    module _ (z : s.stopped ≡ false) (n : s.number ≡ 0 → ⊥) where
      pub run_refused : (s' : Stand) (i : ℕ) (out' : List ℕ) → s.ready ≡ false → StepsRefused s from end out s' i out' → StepsTaken s chunk from out c w r m s' i out' c w r m
      run_refused s' i out' y d =
          d.is chunk c w r m (record { passable = h.passable; ahead = a; going = z; said = y; opened = omega (arith, n) })

      pub runnable : s.ready ≡ true → Runnable true s chunk from end out c w r m
      runnable y = record { passable = h.passable; ahead = a; going = z; said = y; opened = omega (arith, n) }

pub ruleset run_laws = (running_marks, running_begins, running_ends, next_fits, next_there, room_for_next, total_there, next_countable, refusing_begins, refusing_ends, refusing_fits, refusing_room, run_stopped, run_unopened, refusable, run_refused, runnable, rules)
