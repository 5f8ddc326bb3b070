-- From turn to turn, for the program that reads and writes: what a read, a write and the taking of the bytes keep. `turning_laws`. Rests on Coming.
-- Assumes nothing.
use Prim.Native.Nat.{ℕ, ◌≤◌}
use native.Mathlib.Omega.{arith}
use mathlib.Core.Path.{◌≡◌, refl, sym, ap, subst, ◌∙◌}
use mathlib.Core.Bool.{Bool, true, false, false≢true, ◌&&◌}
use mathlib.Core.List.{List, [], ◌++◌, append-nil}
use lib.ListN.{length, take, drop}
use lib.Seq.{length-take-le, take_at}
use borrow.Author.Rules.{rules}
use Rattle.std.specs.Prelude.{None, Result, Ok, Err}
use Rattle.whole_reads.specs.Promises.{FlowBegins, ReadNoted, NextAs, WriteNoted, TakeNoted, comes_next, failed_flow, filled_flow, got_flow, left_to_write, moved_bytes, put_flow, taken_flow, wrote_flow}
use Rattle.whole_reads.specs.inner.Going.{FlowGoing, InputKept, ReadOn, Standing, Takes, TakesNext, WroteOn}
use Rattle.whole_reads.specs.declared.Flow.{Flow}
use Rattle.whole_reads.specs.declared.Failure.{Failure}
use Rattle.whole_reads.specs.declared.Failure.TheVariants.{Reading, Writing}
use Rattle.whole_reads.specs.declared.Next.{Next}
use Rattle.whole_reads.specs.declared.Next.TheVariants.{Read, Take, Stop}
use Rattle.whole_reads.proofs.Coming.{Over, all_written, flow_reading, stopping, taking}

-- ---- the start

pub flow_going_begins : (S : Standing) (f : Flow) (buffer out : List ℕ) → FlowBegins f → S (length buffer) (length out) [] [] false false → FlowGoing S f buffer out
flow_going_begins S f buffer out b s =
    record {
      read = [];
      taken = [];
      made = [];
      written = [];
      flows = b.flows buffer out;
      stands = rw more s;
      emptied = λ d. absurd (false≢true (sym more ∙ d));
    }
  where
    more : f.done ≡ false
    more = (flow_reading f 1 (b.reads 1 (omega arith))).due.more

-- ---- a call that failed

failed_keeps : (f : Flow) (failure : Failure) (again : Bool) → InputKept f (failed_flow f failure again)
unfolding failed_flow
failed_keeps f failure true = record { have = refl; ended = refl; done = refl }
failed_keeps f failure false = record { have = refl; ended = refl; done = refl }

-- ---- a read

got_done : (f : Flow) (got : Result ℕ Bool) (buffer : List ℕ) → (got_flow f got buffer).done ≡ f.done
unfolding got_flow filled_flow
got_done f (Ok n) buffer = refl
got_done f (Err again) buffer = (failed_keeps f Reading again).done

-- whatever a read puts behind them, the first bytes stay
pub first_bytes_stay : (n : ℕ) (buffer rest : List ℕ) → n ≤ length buffer → take n buffer ≡ take n (take n buffer ++ rest)
first_bytes_stay n buffer rest l = sym (take_at (take n buffer) rest n (length-take-le n buffer l))

pub read_on : (f : Flow) (got : Result ℕ Bool) (buffer : List ℕ) (f' : Flow) (buffer' : List ℕ) → ReadNoted f got buffer' f' → length buffer' ≡ length buffer
    → take f.have buffer ≡ take f.have buffer' → ReadOn f buffer f' buffer'
read_on f got buffer f' buffer' h l s =
    record {
      came = moved_bytes got (drop f.have buffer');
      on = λ read taken made written out w. h.flows read taken made written buffer out (sym l) s w;
      long = l;
      done = ap (λ (x : Flow). x.done) h.flow ∙ got_done f got buffer';
    }

pub going_read : (S : Standing) (f : Flow) (buffer out : List ℕ) (x : Next) (f' : Flow) (buffer' : List ℕ) → NextAs f (length buffer) x → x ≡ Read → ReadOn f buffer f' buffer' → FlowGoing S f buffer out
    → FlowGoing S f' buffer' out
going_read S f buffer out x f' buffer' n e h g =
    record {
      read = g.read ++ h.came;
      taken = g.taken;
      made = g.made;
      written = g.written;
      flows = h.on g.read g.taken g.made g.written out g.flows;
      stands = rw (h.long, h.done ∙ more) (subst (λ (d : Bool). S (length buffer) (length out) g.taken g.made d (d && f.ended)) more g.stands);
      emptied = λ d. absurd (false≢true (sym (h.done ∙ more) ∙ d));
    }
  where
    more : f.done ≡ false
    more = (flow_reading f (length buffer) (sym n.is ∙ e)).due.more

-- ---- a write

put_keeps : (f : Flow) (put : Result ℕ Bool) (out : List ℕ) → InputKept f (put_flow f put out)
unfolding put_flow wrote_flow
put_keeps f (Ok n) out = record { have = refl; ended = refl; done = refl }
put_keeps f (Err again) out = failed_keeps f Writing again

pub wrote_on : (f : Flow) (put : Result ℕ Bool) (out : List ℕ) (f' : Flow) → WriteNoted f put out f' → WroteOn f out f'
wrote_on f put out f' h =
    record {
      went = moved_bytes put (left_to_write f out);
      on = h.flows;
      input = rw h.flow (put_keeps f put out);
    }

pub going_wrote : (S : Standing) (f : Flow) (buffer out : List ℕ) (f' : Flow) → WroteOn f out f' → FlowGoing S f buffer out → FlowGoing S f' buffer out
going_wrote S f buffer out f' h g =
    let k : InputKept f f' = h.input in
    record {
      read = g.read;
      taken = g.taken;
      made = g.made;
      written = g.written ++ h.went;
      flows = h.on g.read g.taken g.made g.written buffer g.flows;
      stands = rw (k.done, k.ended) g.stands;
      emptied = λ d. k.have ∙ g.emptied (sym k.done ∙ d);
    }

-- ---- the bytes are taken

pub takes_next : (S : Standing) (f : Flow) (buffer out : List ℕ) (x : Next) → NextAs f (length buffer) x → x ≡ Take → FlowGoing S f buffer out → TakesNext S f buffer out
takes_next S f buffer out x h e g = record { next = sym h.is ∙ e; going = g }

-- as many bytes are taken as stand in the buffer
pub bytes_counted : (S : Standing) (f : Flow) (buffer out : List ℕ) → TakesNext S f buffer out → length (take f.have buffer) ≡ f.have
bytes_counted S f buffer out t = length-take-le f.have buffer t.going.flows.filled

pub going_took : (S S' : Standing) (f : Flow) (n : ℕ) (done : Bool) (buffer out : List ℕ) (f' : Flow) (out' : List ℕ) → TakeNoted f n done f' → TakesNext S f buffer out
    → length out' ≡ length out → Takes S S' f buffer out' n done → FlowGoing S' f' buffer out'
unfolding taken_flow
going_took S S' f n done buffer out f' out' h t l s =
    let g : FlowGoing S f buffer out = t.going in
    record {
      read = g.read;
      taken = g.read;
      made = g.made ++ take n out';
      written = g.written;
      flows = h.flows (length buffer) g.read g.taken g.made g.written buffer out out' t.next s.few g.flows;
      stands = rw (h.flow, ← g.flows.bytes) (s.on g.taken g.made (rw l (subst (λ (d : Bool). S (length buffer) (length out) g.taken g.made d (d && f.ended)) more g.stands)));
      emptied = λ d. ap (λ (x : Flow). x.have) h.flow;
    }
  where
    more : f.done ≡ false
    more = (taking f (length buffer) t.next).due.more

-- ---- the end

-- where nothing is left to do and nothing went wrong, all that was read is taken, and all lines made of it are written
pub going_through : (S : Standing) (f : Flow) (buffer out : List ℕ) → comes_next f (length buffer) ≡ Stop → f.failure ≡ None → (g : FlowGoing S f buffer out)
    → S (length buffer) (length out) g.read g.written true f.ended
going_through S f buffer out e w g = rw (taken, made) at (subst (λ (d : Bool). S (length buffer) (length out) g.taken g.made d (d && f.ended)) o.done g.stands)
  where
    o : Over f
    o = stopping f (length buffer) e w

    taken : g.taken ≡ g.read
    taken = sym (append-nil g.taken) ∙ ap (λ (n : ℕ). g.taken ++ take n buffer) (sym (g.emptied o.done)) ∙ g.flows.bytes

    made : g.made ≡ g.written
    made = sym (all_written g.read g.taken g.made g.written f buffer out g.flows o.none)

pub ruleset turning_laws = (flow_going_begins, first_bytes_stay, read_on, going_read, wrote_on, going_wrote, takes_next, bytes_counted, going_took, rules)
