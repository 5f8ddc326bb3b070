-- From turn to turn: what `take` of forecast_file promises keeps what holds, and what holds where the program has ended. `turn_laws`. Assumes nothing.
use Prim.Native.Nat.{ℕ, ◌≤◌}
use native.Mathlib.Omega.{arith}
use mathlib.Core.Path.{◌≡◌, refl, sym, ap, ◌∙◌}
use mathlib.Core.Bool.{Bool, true, false, false≢true, ◌&&◌, ◌||◌}
use mathlib.Core.List.{List, [], append_assoc}
use lib.ListN.{length, take}
use lib.Dec.{leb}
use borrow.Author.Tests.{leb-true}
use Rattle.whole_reads.specs.Promises.{comes_next}
use Rattle.whole_reads.specs.inner.Going.{FlowGoing, Takes, TakesNext}
use Rattle.whole_reads.specs.declared.Flow.{Flow}
use Rattle.whole_reads.proofs.Coming.{MayTake, taking}
use Rattle.whole_reads.proofs.Turns.{bytes_counted, going_through, turning_laws}
use Rattle.whole_calls.specs.Promises.{is_stop}
use Rattle.whole_calls.proofs.Calls.{nothing_next}
use Rattle.forecast_file.specs.Files.{forecast_lines}
use Rattle.forecast_file.specs.Standing.{Foresight, foreseen, nothing_foreseen, records_foreseen}
use Rattle.forecast_file.specs.Promises.{Begun, TakenAs, foresight_at}
use Rattle.forecast_file.specs.inner.Needed.{MemorySound, PartTakeable}
use Rattle.forecast_file.specs.declared.Reach.{Reach}
use Rattle.forecast_file.specs.declared.PartTaken.{PartTaken}
use Rattle.forecast.specs.Promises.{ForecastTold}
use Rattle.forecast.specs.inner.Going.{ForecastAmple, Held}

-- ---- the start

-- no record has been taken
none_taken : (s : Reach) → Begun s → s.number ≡ 0
unfolding foresight_at foreseen records_foreseen nothing_foreseen
none_taken s b = ap (λ (f : Foresight). f.number) (b.reached [] []).stands

pub holds_none : (s : Reach) (buffer out own m : List ℕ) → Begun s → ForecastAmple buffer out own m → Held s own m (length buffer) (length out) [] [] false false
holds_none s buffer out own m b a =
    record {
      roomy = a.roomy;
      sound =
          record {
            few = omega (arith, none_taken s b);
            entries = a.entries;
            marks = a.marks;
            foreseen = λ e l. absurd (omega (arith, none_taken s b));
          };
      on = λ e. b.reached own m;
      all = λ e. absurd (false≢true e);
    }

-- ---- the bytes are taken

-- where the input goes on the buffer is full
full : (ended : Bool) (room have : ℕ) → (ended || leb room have) ≡ true → ended ≡ false → room ≤ have
full true room have h e = absurd (false≢true (sym e))
full false room have h e = leb-true room have h

pub takeable : (s : Reach) (f : Flow) (buffer out own m : List ℕ) → TakesNext (Held s own m) f buffer out → PartTakeable s (take f.have buffer) f.ended out own m
takeable s f buffer out own m t =
    record {
      sound = rw may.due.more at h.sound;
      room = omega (arith, many, t.going.flows.filled, h.roomy.fits);
      whole = λ e. omega (arith, many, t.going.flows.filled, full f.ended (length buffer) f.have may.whole e, h.roomy.whole);
    }
  where
    may : MayTake f (length buffer)
    may = taking f (length buffer) t.next

    many : length (take f.have buffer) ≡ f.have
    many = bytes_counted (Held s own m) f buffer out t

    h : Held s own m (length buffer) (length out) t.going.taken t.going.made f.done (f.done && f.ended)
    h = t.going.stands

pub takes : (s : Reach) (f : Flow) (buffer out own m : List ℕ) (t : PartTaken) (out' own' m' : List ℕ) → TakenAs s (take f.have buffer) f.ended out own m t out' own' m' → MemorySound t.reach t.done own' m'
    → Takes (Held s own m) (Held t.reach own' m') f buffer out' t.made t.done
takes s f buffer out own m t out' own' m' h k =
    record {
      few = h.within;
      on = λ taken made g.
          record {
            roomy = g.roomy;
            sound = k;
            on = λ e. h.on taken made (g.on refl) e;
            all = λ e rest z. h.all taken made rest (g.on refl) e (λ y. z (both t.done f.ended e y)) ∙ ap forecast_lines (sym (append_assoc taken (take f.have buffer) rest));
          };
    }
  where
    both : (a b : Bool) → a ≡ true → b ≡ true → (a && b) ≡ true
    both a b p q = rw (p, q)

-- ---- the end

module _ (s : Reach) (f : Flow) (turns : ℕ) (buffer out own m : List ℕ) (g : FlowGoing (Held s own m) f buffer out) where
  -- nothing is left to do
  pub told_all : (b : Bool) → b ≡ is_stop (comes_next f (length buffer)) → b ≡ true → ForecastTold (record { flow = f; turns = turns }) buffer out
  told_all b e y =
      record {
        read = g.read;
        taken = g.taken;
        made = g.made;
        written = g.written;
        flows = g.flows;
        all = λ l w rest z. (going_through (Held s own m) f buffer out (nothing_next (comes_next f (length buffer)) (sym e ∙ y)) w g).all refl rest z;
      }

  -- no turn is left
  pub told_some : turns ≤ 0 → ForecastTold (record { flow = f; turns = turns }) buffer out
  told_some n = record { read = g.read; taken = g.taken; made = g.made; written = g.written; flows = g.flows; all = λ l. absurd (omega (arith, l, n)) }

pub ruleset turn_laws = (turning_laws, holds_none, takeable, takes, told_all, told_some)
