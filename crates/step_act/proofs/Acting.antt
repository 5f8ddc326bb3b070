-- What an accepted step does, by its kind: what the steps ask holds, and what they leave is the rules' effect. One law for each way of the
-- code; those of the tallies and of the queue are in ActingOnShared. Assumes nothing.
use Prim.Native.Nat.{ℕ, ◌*◌, ◌<◌}
use native.Mathlib.Omega.{arith}
use mathlib.Core.Path.{◌≡◌, refl, sym, ap, ◌∙◌}
use mathlib.Core.List.{List}
use lib.ListN.{length}
use Rattle.limits.specs.Limits.{page_width}
use Rattle.limits.specs.inner.Sizes.{mark_area}
use Rattle.rules.specs.Refusals.{step_of, Action, Read, Write, Acquire, Release, Arrive, Want, action_of, object_bound, effect}
use Rattle.rules.specs.State.{mainframe, State, own}
use Rattle.rules.specs.Steps.{Effect, read, write, acquire, release, arrive}
use Rattle.rules.proofs.inorder.Accepted.{Accepted, accepted_says, present_says, object_there, acquire_there, release_there, late_arrive}
use Rattle.rules.proofs.inorder.Kept.{effect_keeps_order}
use Rattle.rules.proofs.order.Timeline.{effect_keeps_counts}
use Rattle.rules.proofs.inorder.KindsOfSteps.{object_in, kind_reads, kind_writes, kind_acquires, kind_releases, kind_arrives, kind_wants}
use Rattle.rules.proofs.inorder.Standing.{StillStand, still_stand}
use Rattle.layout.specs.Areas.{state_in}
use Rattle.layout.specs.inner.Needed.{Acts, Ready, Holds}
use Rattle.fetch_index.proofs.Kept.{bounds_stay, kept_while_standing}
use Rattle.step_collect.specs.inner.Effects.{CountedKept}
use Rattle.std.specs.Prelude.{Ok}
use Rattle.step_access.specs.declared.Answered.{Answered}
use Rattle.step_access.specs.inner.Effects.{AnsweredKept}
use Rattle.step_access.specs.inner.Needed.{ActsOnWord, AccessesKept}
use Rattle.step_lock.specs.inner.Needed.{ActsOnLock}
use Rattle.barrier_marks.specs.inner.Effects.{Wanted}
use Rattle.step_barrier.specs.inner.Needed.{ArrivesKept}
use Rattle.step_act.specs.Telling.{Outcome, answered}
use Rattle.step_act.specs.inner.Needed.{Acting, ActingKept, DoneAs, DoneKept}
use Rattle.step_act.proofs.Telling.{done_tells}

-- ---- the effect of an action that is known

pub done_by : (e f : Effect) (o : Outcome) (c w r m : List ℕ) → e ≡ f → DoneAs f o c w r m → DoneAs e o c w r m
done_by e f o c w r m q d =
    record {
      outcome = rw q d.outcome;
      areas = record { lent = d.areas.lent; is = d.areas.is ∙ ap (λ (x : Effect). x.after) (sym q) };
    }

pub done_with : (e : Effect) (x n j : ℕ) (c w r m : List ℕ) → x ≡ e.value → n ≡ e.count → j ≡ e.words → Holds c w r m e.after → DoneAs e (answered x n j) c w r m
done_with e x n j c w r m ex en ej h = record { outcome = rw (← ex, ← en, ← ej) (done_tells x n j); areas = h }

-- ---- what the steps ask

module _ (c w r m : List ℕ) (k p o v : ℕ) (h : Acting c w r m k p o v) where
  pub accepted : Accepted mainframe (state_in mainframe c w r m) (step_of k p o v)
  accepted = accepted_says mainframe (state_in mainframe c w r m) (step_of k p o v) h.accepted

  pub acts : Acts c w r m p
  unfolding step_of
  acts =
      let is = present_says (state_in mainframe c w r m) p accepted.processor_present in
      record { lent = h.ready.lent; in_order = h.ready.in_order; from = is.0; to = is.1 }

  on_word : o < (state_in mainframe c w r m).counts.pages * page_width → ActsOnWord c w r m p o
  on_word b = record { acts = acts; word = b }

  on_lock : o < (state_in mainframe c w r m).counts.locks → ActsOnLock c w r m p o
  on_lock b = record { acts = acts; lock = b }

pub effect_by : (s : State) (p : ℕ) (a b : Action) → a ≡ b → effect mainframe s p a ≡ effect mainframe s p b
effect_by s p a b e = ap (λ (x : Action). effect mainframe s p x) e

-- ---- read and write

module _ (c w r m : List ℕ) (k p o v : ℕ) (x : List ℕ) (q : ActingKept c w r m k p o v x) where
  abbrev h : Acting c w r m k p o v
  h = q.acting

  word_of_read : k ≡ 1 → ActsOnWord c w r m p o
  unfolding object_bound object_in mainframe
  word_of_read e =
      on_word c w r m k p o v h
      (object_there mainframe (state_in mainframe c w r m) (step_of k p o v) (Read o) (kind_reads k p o v e) (accepted c w r m k p o v h).fields_fit)

  -- a read has its word
  pub read_there : k ≡ 1 → AccessesKept c w r m p o x
  read_there e = record { word = word_of_read e; kept = q.kept }

  -- a read was done
  pub read_done : (y : Answered) (c' w' x' : List ℕ) → k ≡ 1
      → AnsweredKept (read mainframe (state_in mainframe c w r m) p o) y.value y.count y.words c' w' r m x'
      → DoneKept (effect mainframe (state_in mainframe c w r m) p (action_of (step_of k p o v))) (Ok y) c' w' r m x'
  unfolding effect
  read_done y c' w' x' e f =
      let a = f.answered in
      record {
        done =
            done_by (effect mainframe (state_in mainframe c w r m) p (action_of (step_of k p o v))) (read mainframe (state_in mainframe c w r m) p o) (Ok y) c' w' r m
            (effect_by (state_in mainframe c w r m) p (action_of (step_of k p o v)) (Read o) (kind_reads k p o v e))
            (done_with (read mainframe (state_in mainframe c w r m) p o) y.value y.count y.words c' w' r m a.answer a.applied a.moved_is a.areas);
        kept = f.kept;
      }

  word_of_write : k ≡ 2 → ActsOnWord c w r m p o
  unfolding object_bound object_in mainframe
  word_of_write z =
      on_word c w r m k p o v h
      (object_there mainframe (state_in mainframe c w r m) (step_of k p o v) (Write o v) (kind_writes k p o v z) (accepted c w r m k p o v h).fields_fit)

  -- a write has its word
  pub write_there : k ≡ 2 → AccessesKept c w r m p o x
  write_there z = record { word = word_of_write z; kept = q.kept }

  -- a write was done
  pub write_done : (y : Answered) (c' w' m' x' : List ℕ) → k ≡ 2
      → AnsweredKept (write mainframe (state_in mainframe c w r m) p o v) y.value y.count y.words c' w' r m' x'
      → DoneKept (effect mainframe (state_in mainframe c w r m) p (action_of (step_of k p o v))) (Ok y) c' w' r m' x'
  unfolding effect write
  write_done y c' w' m' x' z f =
      let a = f.answered in
      record {
        done =
            done_by (effect mainframe (state_in mainframe c w r m) p (action_of (step_of k p o v))) (write mainframe (state_in mainframe c w r m) p o v) (Ok y) c' w' r m'
            (effect_by (state_in mainframe c w r m) p (action_of (step_of k p o v)) (Write o v) (kind_writes k p o v z))
            (done_with (write mainframe (state_in mainframe c w r m) p o v) y.value y.count y.words c' w' r m' a.answer a.applied a.moved_is a.areas);
        kept = f.kept;
      }

-- ---- the index is kept by a step that is no access and no arrival

module _ (c w r m : List ℕ) (k p o v : ℕ) (x : List ℕ) (q : ActingKept c w r m k p o v x) (no_access : 2 < k) (no_arrival : k ≡ 5 → ⊥)
    (y : Outcome) (c' w' r' m' : List ℕ) (d : DoneAs (effect mainframe (state_in mainframe c w r m) p (action_of (step_of k p o v))) y c' w' r' m') where
  abbrev before : State
  before = state_in mainframe c w r m

  after_ready : Ready c' w' r' m'
  unfolding step_of
  after_ready =
      record {
        lent = d.areas.lent;
        in_order = rw d.areas.is (effect_keeps_order mainframe before (step_of k p o v) q.acting.ready.in_order q.acting.accepted);
      }

  still : StillStand before (state_in mainframe c' w' r' m')
  unfolding step_of
  still = rw d.areas.is (still_stand mainframe before (step_of k p o v) q.acting.ready.in_order no_access no_arrival)

  pub apart_done : DoneKept (effect mainframe (state_in mainframe c w r m) p (action_of (step_of k p o v))) y c' w' r' m' x
  apart_done =
      record {
        done = d;
        kept =
            kept_while_standing c w r m c' w' r' m' q.acting.ready after_ready still x
            (bounds_stay c w r m c' w' r' m' (ap (λ (s : State). s.counts) d.areas.is ∙ effect_keeps_counts mainframe before p (action_of (step_of k p o v)))) q.kept;
      }

-- ---- acquire and release

module _ (c w r m : List ℕ) (k p o v : ℕ) (x : List ℕ) (q : ActingKept c w r m k p o v x) where
  -- an acquire has its lock
  pub acquire_has_lock : k ≡ 3 → ActsOnLock c w r m p o
  acquire_has_lock e =
      on_lock c w r m k p o v q.acting
      (acquire_there mainframe (state_in mainframe c w r m) (step_of k p o v) o (kind_acquires k p o v e) (accepted c w r m k p o v q.acting))

  -- an acquire was done
  pub acquire_done : (y : Outcome) (c' r' m' : List ℕ) → k ≡ 3 → Holds c' w r' m' (acquire (state_in mainframe c w r m) p o) → y ≡ answered 0 0 0
      → DoneKept (effect mainframe (state_in mainframe c w r m) p (action_of (step_of k p o v))) y c' w r' m' x
  unfolding effect
  acquire_done y c' r' m' e a is =
      let f = effect mainframe (state_in mainframe c w r m) p (Acquire o) in
      rw is
      (apart_done c w r m k p o v x q (omega (arith, e)) (λ five. omega (arith, five, e)) (answered 0 0 0) c' w r' m'
      (done_by (effect mainframe (state_in mainframe c w r m) p (action_of (step_of k p o v))) f (answered 0 0 0) c' w r' m'
      (effect_by (state_in mainframe c w r m) p (action_of (step_of k p o v)) (Acquire o) (kind_acquires k p o v e))
      (done_with f 0 0 0 c' w r' m' refl refl refl a)))

  -- a release has its lock
  pub release_has_lock : k ≡ 4 → ActsOnLock c w r m p o
  release_has_lock z =
      on_lock c w r m k p o v q.acting
      (release_there mainframe (state_in mainframe c w r m) (step_of k p o v) o (kind_releases k p o v z) (accepted c w r m k p o v q.acting))

  -- a release was done
  pub release_done : (y : Outcome) (c' r' m' : List ℕ) → k ≡ 4 → Holds c' w r' m' (release (state_in mainframe c w r m) p o) → y ≡ answered 0 0 0
      → DoneKept (effect mainframe (state_in mainframe c w r m) p (action_of (step_of k p o v))) y c' w r' m' x
  unfolding effect
  release_done y c' r' m' z a is =
      let f = effect mainframe (state_in mainframe c w r m) p (Release o) in
      rw is
      (apart_done c w r m k p o v x q (omega (arith, z)) (λ five. omega (arith, five, z)) (answered 0 0 0) c' w r' m'
      (done_by (effect mainframe (state_in mainframe c w r m) p (action_of (step_of k p o v))) f (answered 0 0 0) c' w r' m'
      (effect_by (state_in mainframe c w r m) p (action_of (step_of k p o v)) (Release o) (kind_releases k p o v z))
      (done_with f 0 0 0 c' w r' m' refl refl refl a)))

-- ---- arrive and want collection

module _ (c w r m : List ℕ) (k p o v : ℕ) (x : List ℕ) (q : ActingKept c w r m k p o v x) where
  -- the processor of an arrival is present, has not arrived, does not wait and holds no lock
  pub arrival_there : k ≡ 5 → ArrivesKept c w r m p x
  unfolding step_of
  arrival_there e =
      let ok = accepted c w r m k p o v q.acting in
      record {
        arrives =
            record {
              acts = acts c w r m k p o v q.acting;
              not_arrived = ok.not_arrived;
              not_waiting = ok.not_waiting;
              no_lock = late_arrive mainframe (state_in mainframe c w r m) (own (state_in mainframe c w r m) p) p (rw (kind_arrives k p o v e) at ok.not_late);
            };
        kept = q.kept;
      }

  -- an arrival was done
  pub arrival_done : (n j : ℕ) (c' w' r' m' x' : List ℕ) → k ≡ 5 → CountedKept (arrive mainframe (state_in mainframe c w r m) p) n j c' w' r' m' x'
      → DoneKept (effect mainframe (state_in mainframe c w r m) p (action_of (step_of k p o v))) (answered 0 n j) c' w' r' m' x'
  unfolding effect
  arrival_done n j c' w' r' m' x' e a =
      let f = effect mainframe (state_in mainframe c w r m) p Arrive in
      record {
        done =
            done_by (effect mainframe (state_in mainframe c w r m) p (action_of (step_of k p o v))) f (answered 0 n j) c' w' r' m'
            (effect_by (state_in mainframe c w r m) p (action_of (step_of k p o v)) Arrive (kind_arrives k p o v e))
            (done_with f 0 n j c' w' r' m' refl a.counted.applied a.counted.moved_is a.counted.areas);
        kept = a.kept;
      }

  -- the marks have their size
  pub wish_there : k ≡ 6 → length m ≡ mark_area
  wish_there z = q.acting.ready.lent.marks

  -- the wish was set
  pub wish_done : (y : Outcome) (m' : List ℕ) → k ≡ 6 → Wanted m m' → y ≡ answered 0 0 0
      → DoneKept (effect mainframe (state_in mainframe c w r m) p (action_of (step_of k p o v))) y c w r m' x
  unfolding effect
  wish_done y m' z a is =
      let f = effect mainframe (state_in mainframe c w r m) p Want in
      let l = q.acting.ready.lent in
      rw is
      (apart_done c w r m k p o v x q (omega (arith, z)) (λ five. omega (arith, five, z)) (answered 0 0 0) c w r m'
      (done_by (effect mainframe (state_in mainframe c w r m) p (action_of (step_of k p o v))) f (answered 0 0 0) c w r m'
      (effect_by (state_in mainframe c w r m) p (action_of (step_of k p o v)) Want (kind_wants k p o v z))
      (done_with f 0 0 0 c w r m' refl refl refl
      (record { lent = record { clocks = l.clocks; words = l.words; records = l.records; marks = a.marks }; is = a.is c w r }))))
