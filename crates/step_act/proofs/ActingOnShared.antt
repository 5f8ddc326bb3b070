-- What an accepted step on a tally or on the queue does: what the step asks holds, and what it leaves is the rules' effect. One law for each way of the
-- code, and `acting_laws` of all kinds. Rests on Acting. Assumes nothing.
use Prim.Native.Nat.{ℕ, ◌≤◌, ◌<◌}
use native.Mathlib.Omega.{arith}
use mathlib.Core.Path.{◌≡◌, refl, ap}
use mathlib.Core.List.{List}
use borrow.Author.Rules.{rules}
use Rattle.limits.specs.Limits.{processor_limit, tally_limit}
use Rattle.rules.specs.Refusals.{step_of, Action, TallyAdd, TallyRead, Enqueue, Dequeue, action_of, object_bound, effect}
use Rattle.rules.specs.State.{mainframe, own}
use Rattle.rules.specs.Steps.{enqueue, dequeue}
use Rattle.rules.specs.Tallies.{tally_total}
use Rattle.rules.proofs.inorder.Accepted.{object_there, late_enqueue, late_dequeue}
use Rattle.rules.proofs.inorder.KindsOfSteps.{object_in, kind_adds, kind_totals, kind_enqueues, kind_dequeues}
use Rattle.layout.specs.Areas.{shared_in, state_in}
use Rattle.layout.specs.inner.Needed.{Holds}
use Rattle.step_tally.specs.inner.Needed.{TallyIn}
use Rattle.step_tally.specs.inner.Effects.{AddDone}
use Rattle.step_queue.specs.inner.Needed.{ActsWithRoom, ActsOnJob}
use Rattle.step_queue.specs.inner.Effects.{Dequeued}
use Rattle.step_fields.specs.declared.kinds.Kind.{Kind}
use Rattle.step_fields.specs.declared.kinds.Kind.TheVariants as Kinds
use Rattle.step_fields.specs.Kinds.{number_of_kind}
use Rattle.step_act.specs.Telling.{Outcome, answered}
use Rattle.step_act.specs.inner.Needed.{ActingKept, DoneKept}
use Rattle.step_act.proofs.Acting.{accepted, acts, done_by, done_with, effect_by, apart_done, read_there, read_done, write_there, write_done, acquire_has_lock, acquire_done, release_has_lock, release_done, arrival_there, arrival_done, wish_there, wish_done}

-- ---- tallies

module _ (c w r m : List ℕ) (k p o v : ℕ) (x : List ℕ) (q : ActingKept c w r m k p o v x) where
  tally_in : o < tally_limit → TallyIn w p o
  tally_in b =
      let on_machine : p ≤ processor_limit = unfold mainframe in omega (arith, (acts c w r m k p o v q.acting).to, q.acting.ready.in_order.processors_fit) in
      record { words = q.acting.ready.lent.words; on_tally = record { from = (acts c w r m k p o v q.acting).from; to = on_machine; tally = b } }

  there : (a : Action) → action_of (step_of k p o v) ≡ a → object_in o a < object_bound mainframe (state_in mainframe c w r m) a
  there a e = unfold step_of in object_there mainframe (state_in mainframe c w r m) (step_of k p o v) a e (accepted c w r m k p o v q.acting).fields_fit

  -- an add has its tally
  pub add_there : k ≡ 8 → TallyIn w p o
  unfolding object_bound object_in mainframe
  add_there e = tally_in (there (TallyAdd o v) (kind_adds k p o v e))

  -- a read of a tally has it
  pub total_there : k ≡ 9 → TallyIn w p o
  unfolding object_bound object_in mainframe
  total_there e = tally_in (there (TallyRead o) (kind_totals k p o v e))

  -- an add was done
  pub add_done : (y : Outcome) (w' : List ℕ) → k ≡ 8 → AddDone w w' p o v → y ≡ answered 0 0 0
      → DoneKept (effect mainframe (state_in mainframe c w r m) p (action_of (step_of k p o v))) y c w' r m x
  unfolding effect state_in
  add_done y w' e a is =
      let f = effect mainframe (state_in mainframe c w r m) p (TallyAdd o v) in
      let l = q.acting.ready.lent in
      rw is
      (apart_done c w r m k p o v x q (omega (arith, e)) (λ five. omega (arith, five, e)) (answered 0 0 0) c w' r m
      (done_by (effect mainframe (state_in mainframe c w r m) p (action_of (step_of k p o v))) f (answered 0 0 0) c w' r m
      (effect_by (state_in mainframe c w r m) p (action_of (step_of k p o v)) (TallyAdd o v) (kind_adds k p o v e))
      (done_with f 0 0 0 c w' r m refl refl refl
      (record { lent = record { clocks = l.clocks; words = a.words; records = l.records; marks = l.marks }; is = a.is c r m }))))

  -- a total was read
  pub total_done : (n : ℕ) → k ≡ 9 → n ≡ tally_total (shared_in mainframe w) p o
      → DoneKept (effect mainframe (state_in mainframe c w r m) p (action_of (step_of k p o v))) (answered n 0 0) c w r m x
  unfolding effect state_in
  total_done n e is =
      let f = effect mainframe (state_in mainframe c w r m) p (TallyRead o) in
      apart_done c w r m k p o v x q (omega (arith, e)) (λ five. omega (arith, five, e)) (answered n 0 0) c w r m
      (done_by (effect mainframe (state_in mainframe c w r m) p (action_of (step_of k p o v))) f (answered n 0 0) c w r m
      (effect_by (state_in mainframe c w r m) p (action_of (step_of k p o v)) (TallyRead o) (kind_totals k p o v e))
      (done_with f n 0 0 c w r m is refl refl (record { lent = q.acting.ready.lent; is = refl })))

-- ---- the queue

module _ (c w r m : List ℕ) (k p o v : ℕ) (x : List ℕ) (q : ActingKept c w r m k p o v x) where
  -- a job waits for a dequeue
  pub dequeue_has_job : k ≡ 11 → ActsOnJob c w r m p
  unfolding step_of
  dequeue_has_job e =
      let s = state_in mainframe c w r m in
      record {
        acts = acts c w r m k p o v q.acting;
        some =
            omega (
              arith,
              late_dequeue mainframe s (own s p) p (rw (kind_dequeues k p o v e) at (accepted c w r m k p o v q.acting).not_late),
            );
      }

  -- a dequeue was done
  pub dequeue_done : (n : ℕ) (c' r' m' : List ℕ) → k ≡ 11 → Dequeued (state_in mainframe c w r m) p n c' w r' m'
      → DoneKept (effect mainframe (state_in mainframe c w r m) p (action_of (step_of k p o v))) (answered n 0 0) c' w r' m' x
  unfolding effect dequeue
  dequeue_done n c' r' m' e d =
      let f = dequeue mainframe (state_in mainframe c w r m) p in
      apart_done c w r m k p o v x q (omega (arith, e)) (λ five. omega (arith, five, e)) (answered n 0 0) c' w r' m'
      (done_by (effect mainframe (state_in mainframe c w r m) p (action_of (step_of k p o v))) f (answered n 0 0) c' w r' m'
      (effect_by (state_in mainframe c w r m) p (action_of (step_of k p o v)) Dequeue (kind_dequeues k p o v e))
      (done_with f n 0 0 c' w r' m' d.answer refl refl d.areas))

  -- an enqueue finds room
  pub enqueue_has_room : k ≡ 10 → ActsWithRoom c w r m p
  unfolding step_of mainframe
  enqueue_has_room e =
      let s = state_in mainframe c w r m in
      record {
        acts = acts c w r m k p o v q.acting;
        room =
            omega (
              arith,
              q.acting.ready.in_order.few_jobs,
              late_enqueue mainframe s (own s p) p v (rw (kind_enqueues k p o v e) at (accepted c w r m k p o v q.acting).not_late),
            );
      }

  -- an enqueue was done
  pub enqueue_done : (y : Outcome) (c' w' r' m' : List ℕ) → k ≡ 10 → Holds c' w' r' m' (enqueue mainframe (state_in mainframe c w r m) p v) → y ≡ answered 0 0 0
      → DoneKept (effect mainframe (state_in mainframe c w r m) p (action_of (step_of k p o v))) y c' w' r' m' x
  unfolding effect
  enqueue_done y c' w' r' m' e a is =
      let f = effect mainframe (state_in mainframe c w r m) p (Enqueue v) in
      rw is
      (apart_done c w r m k p o v x q (omega (arith, e)) (λ five. omega (arith, five, e)) (answered 0 0 0) c' w' r' m'
      (done_by (effect mainframe (state_in mainframe c w r m) p (action_of (step_of k p o v))) f (answered 0 0 0) c' w' r' m'
      (effect_by (state_in mainframe c w r m) p (action_of (step_of k p o v)) (Enqueue v) (kind_enqueues k p o v e))
      (done_with f 0 0 0 c' w' r' m' refl refl refl a)))

-- ---- the numbers of the kinds

pub number_read : (k : Kind) → k ≡ Kinds.Read → number_of_kind k ≡ 1
number_read k e = ap number_of_kind e

pub number_write : (k : Kind) → k ≡ Kinds.Write → number_of_kind k ≡ 2
number_write k e = ap number_of_kind e

pub number_acquire : (k : Kind) → k ≡ Kinds.Acquire → number_of_kind k ≡ 3
number_acquire k e = ap number_of_kind e

pub number_release : (k : Kind) → k ≡ Kinds.Release → number_of_kind k ≡ 4
number_release k e = ap number_of_kind e

pub number_arrive : (k : Kind) → k ≡ Kinds.Arrive → number_of_kind k ≡ 5
number_arrive k e = ap number_of_kind e

pub number_want : (k : Kind) → k ≡ Kinds.Want → number_of_kind k ≡ 6
number_want k e = ap number_of_kind e

pub number_tally_add : (k : Kind) → k ≡ Kinds.TallyAdd → number_of_kind k ≡ 8
number_tally_add k e = ap number_of_kind e

pub number_tally_read : (k : Kind) → k ≡ Kinds.TallyRead → number_of_kind k ≡ 9
number_tally_read k e = ap number_of_kind e

pub number_enqueue : (k : Kind) → k ≡ Kinds.Enqueue → number_of_kind k ≡ 10
number_enqueue k e = ap number_of_kind e

pub number_dequeue : (k : Kind) → k ≡ Kinds.Dequeue → number_of_kind k ≡ 11
number_dequeue k e = ap number_of_kind e

pub ruleset acting_laws = (number_read, number_write, number_acquire, number_release, number_arrive, number_want, number_tally_add, number_tally_read, number_enqueue, number_dequeue, read_there, read_done, write_there, write_done, acquire_has_lock, acquire_done, release_has_lock, release_done, arrival_there, arrival_done, wish_there, wish_done, add_there, add_done, total_there, total_done, dequeue_has_job, dequeue_done, enqueue_has_room, enqueue_done, rules)
