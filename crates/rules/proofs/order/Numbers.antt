-- The numbers of known writes (ghosts) along a run: what holds of them at every time, that none of a processor or a lock falls, and what a
-- round hands on. Rests on StrictOrder, Rounds and NumbersAfter. Assumes nothing.
use Prim.Native.Nat.{ℕ, zero, suc, ◌+◌, ◌≤◌, ◌<◌}
use native.Mathlib.Omega.{arith}
use native.Mathlib.Decide.{dec_lt, ℕ_discrete}
use mathlib.Core.Path.{◌≡◌, refl, ap}
use mathlib.Core.Bool.{Bool, true, false, cond, ◌&&◌}
use mathlib.Core.List.{List}
use lib.Dec.{eqb}
use Rattle.rules.specs.State.{Limits, Counts, Holder, Processor, Lock, Barrier, State, holder}
use Rattle.rules.specs.Lines.{first_in_line}
use Rattle.rules.specs.Refusals.{Action, Read, Write, Acquire, Release, Arrive, Want, TallyAdd, TallyRead, Enqueue, Dequeue, Unknown}
use Rattle.rules.specs.Order.{Event, Took, rounds}
use Rattle.rules.proofs.state.Holders.{same_holder}
use Rattle.rules.proofs.order.Timeline.{Timeline, Moment, Refused, Taken, moment, counts_stay}
use Rattle.rules.proofs.order.Ghosts.{Ghost, with_number, learned_numbers, freed_numbers, round_numbers, completes, arrived_numbers, ghost_after, ghost_at, ghost_refused, ghost_taken}
use Rattle.rules.proofs.StrictOrder.{never_falls, rounds_never_fall}
use Rattle.rules.proofs.order.ActionKinds.{arrives_by, arrives_is}
use Rattle.rules.proofs.order.Allowed.{allowed}
use Rattle.rules.proofs.order.Rounds.{rounds_after_step, rounds_after_refusal}
use Rattle.rules.proofs.order.NumbersAfter.{Knowing, granted_grows, processor_grows, lock_grows, knowing_after}

-- ---- what an arrival hands on

module _ (w : ℕ) (s : State) (p : ℕ) (γ : Ghost) where
  -- a step that completes no round leaves the barrier what it knew
  barrier_grows : (a : Action) → arrives_by a && completes s p ≡ false → γ.known Barrier ≤ (ghost_after w s p a γ).known Barrier
  unfolding ghost_after with_number same_holder arrived_numbers arrives_by
  barrier_grows (Read x) e = omega arith
  barrier_grows (Write x v) e = go (eqb x w)
    where
      go : (b : Bool) → γ.known Barrier ≤ cond b (with_number γ.known (Processor p) (γ.writes + 1)) γ.known Barrier
      go true = omega arith
      go false = omega arith
  barrier_grows (Acquire l) e = go (eqb (holder s l) 0)
    where
      go : (b : Bool) → γ.known Barrier ≤ cond b (learned_numbers γ.known (Processor p) (Lock l)) γ.known Barrier
      go true = omega arith
      go false = omega arith
  barrier_grows (Release l) e = granted_grows (freed_numbers γ p l) (first_in_line s.counts.processors s.marks l) l Barrier
  barrier_grows Arrive e = rw e (omega arith)
  barrier_grows Want e = omega arith
  barrier_grows (TallyAdd j x) e = omega arith
  barrier_grows (TallyRead j) e = omega arith
  barrier_grows (Enqueue j) e = omega arith
  barrier_grows Dequeue e = omega arith
  barrier_grows Unknown e = omega arith

  -- a completed round hands on what the barrier knew and what its last processor knew
  round_hands_on : completes s p ≡ true → (q : ℕ) → γ.known Barrier ≤ (ghost_after w s p Arrive γ).known (Processor q)
  unfolding ghost_after with_number same_holder arrived_numbers round_numbers
  round_hands_on e q = rw e (omega arith)

  last_hands_on : completes s p ≡ true → (q : ℕ) → (ghost_after w s p Arrive γ).known (Processor p) ≤ (ghost_after w s p Arrive γ).known (Processor q)
  unfolding ghost_after with_number same_holder arrived_numbers round_numbers
  last_hands_on e q = rw e (omega arith)

  arrival_hands_on : completes s p ≡ false → (ghost_after w s p Arrive γ).known (Processor p) ≤ (ghost_after w s p Arrive γ).known Barrier
  unfolding ghost_after with_number same_holder arrived_numbers
  arrival_hands_on e = rw e (omega arith)

module _ (lim : Limits) (c : Counts) (es : List Event) (r : Timeline lim c es) (w : ℕ) where
  -- what holds of the numbers holds at every time
  pub knowing : (t : ℕ) → Knowing c.processors (r.state t) (ghost_at lim c es r w t)
  unfolding ghost_at
  knowing zero =
      record {
        at_most = λ h. omega arith;
        holder_knows = λ l h. omega arith;
        arrived_knows = λ q h. omega arith;
        knower = 1;
        knower_from = omega arith;
        knower_to = rw (ap (λ (k : Counts). k.processors) (counts_stay lim c es r 0)) at (r.ordered 0).some_processor;
        knows_all = refl;
      }
  knowing (suc t) = go (moment lim c es r t) (knowing t)
    where
      go : Moment lim es t (r.state t) (r.state (suc t)) → Knowing c.processors (r.state t) (ghost_at lim c es r w t)
          → Knowing c.processors (r.state (suc t)) (ghost_at lim c es r w (suc t))
      go (Refused e k) ih = rw (k, ghost_refused lim c es r w t e) ih
      go (Taken p a took acc k) ih =
          rw (k, ghost_taken lim c es r w t p a took)
          (knowing_after c.processors w (r.state t) p (ghost_at lim c es r w t) lim (r.ordered t).lines ih a (allowed lim c es r t p a took acc))

  -- no number is above the writes
  pub known_at_most_writes : (t : ℕ) (h : Holder) → (ghost_at lim c es r w t).known h ≤ (ghost_at lim c es r w t).writes
  known_at_most_writes t h = (knowing t).at_most h

  -- ---- what never falls

  processor_step_lem : (q t : ℕ) → (ghost_at lim c es r w t).known (Processor q) ≤ (ghost_at lim c es r w (suc t)).known (Processor q)
  processor_step_lem q t = go (moment lim c es r t)
    where
      go : Moment lim es t (r.state t) (r.state (suc t)) → (ghost_at lim c es r w t).known (Processor q) ≤ (ghost_at lim c es r w (suc t)).known (Processor q)
      go (Refused e k) = rw (ghost_refused lim c es r w t e) (omega arith)
      go (Taken p a took acc k) =
          rw (ghost_taken lim c es r w t p a took)
          (processor_grows c.processors w (r.state t) p (ghost_at lim c es r w t) (knowing t) a q)

  lock_step : (l t : ℕ) → (ghost_at lim c es r w t).known (Lock l) ≤ (ghost_at lim c es r w (suc t)).known (Lock l)
  lock_step l t = go (moment lim c es r t)
    where
      go : Moment lim es t (r.state t) (r.state (suc t)) → (ghost_at lim c es r w t).known (Lock l) ≤ (ghost_at lim c es r w (suc t)).known (Lock l)
      go (Refused e k) = rw (ghost_refused lim c es r w t e) (omega arith)
      go (Taken p a took acc k) =
          rw (ghost_taken lim c es r w t p a took)
          (lock_grows c.processors w (r.state t) p (ghost_at lim c es r w t) (knowing t) a (allowed lim c es r t p a took acc) l)

  -- the number of a processor
  pub processor_never_falls : (q i j : ℕ) → i ≤ j → (ghost_at lim c es r w i).known (Processor q) ≤ (ghost_at lim c es r w j).known (Processor q)
  processor_never_falls q = never_falls (λ t. (ghost_at lim c es r w t).known (Processor q)) (processor_step_lem q)

  -- the number of a lock
  pub lock_never_falls : (l i j : ℕ) → i ≤ j → (ghost_at lim c es r w i).known (Lock l) ≤ (ghost_at lim c es r w j).known (Lock l)
  lock_never_falls l = never_falls (λ t. (ghost_at lim c es r w t).known (Lock l)) (lock_step l)

  -- ---- an arrival at place i and a later time

  -- a number x is handed on from a round: the barrier has it while the round is the same, every processor in later rounds
  record HandedOn (i t x : ℕ) : Type 0 where
    same_round : rounds c.processors es t ≡ rounds c.processors es i → x ≤ (ghost_at lim c es r w t).known Barrier
    later_round : rounds c.processors es i < rounds c.processors es t → (q : ℕ) → x ≤ (ghost_at lim c es r w t).known (Processor q)

  handed_on_at_once : (i p : ℕ) → Took es i p Arrive → HandedOn i (suc i) ((ghost_at lim c es r w (suc i)).known (Processor p))
  unfolding arrives_by
  handed_on_at_once i p took = go (completes (r.state i) p) refl (rounds_after_step lim c es r i p Arrive took)
    where
      γ : ghost_at lim c es r w (suc i) ≡ ghost_after w (r.state i) p Arrive (ghost_at lim c es r w i)
      γ = ghost_taken lim c es r w i p Arrive took

      go : (b : Bool) → completes (r.state i) p ≡ b
          → rounds c.processors es (suc i) ≡ cond b (rounds c.processors es i + 1) (rounds c.processors es i)
          → HandedOn i (suc i) ((ghost_at lim c es r w (suc i)).known (Processor p))
      go true e k =
          record {
            same_round = λ z. absurd (omega (arith, k, z));
            later_round = λ z q. rw γ (last_hands_on w (r.state i) p (ghost_at lim c es r w i) e q);
          }
      go false e k =
          record {
            same_round = λ z. rw γ (arrival_hands_on w (r.state i) p (ghost_at lim c es r w i) e);
            later_round = λ z. absurd (omega (arith, k, z));
          }

  handed_on_step : (i t x : ℕ) → rounds c.processors es i ≤ rounds c.processors es t → HandedOn i t x → HandedOn i (suc t) x
  handed_on_step i t x le h = go (moment lim c es r t)
    where
      later : rounds c.processors es i < rounds c.processors es t → (q : ℕ) → x ≤ (ghost_at lim c es r w (suc t)).known (Processor q)
      later z q = omega (arith, h.later_round z q, processor_step_lem q t)

      barrier : (p : ℕ) (a : Action) → Took es t p a → arrives_by a && completes (r.state t) p ≡ false
          → rounds c.processors es t ≡ rounds c.processors es i → x ≤ (ghost_at lim c es r w (suc t)).known Barrier
      barrier p a took e z =
          rw (ghost_taken lim c es r w t p a took) (omega (arith, h.same_round z, barrier_grows w (r.state t) p (ghost_at lim c es r w t) a e))

      taken : (p : ℕ) (a : Action) → Took es t p a → (b d : Bool) → arrives_by a ≡ b → completes (r.state t) p ≡ d
          → rounds c.processors es (suc t) ≡ cond b (cond d (rounds c.processors es t + 1) (rounds c.processors es t)) (rounds c.processors es t)
          → HandedOn i (suc t) x
      taken p a took true true arr full k =
          record {
            same_round = λ z. absurd (omega (arith, k, z, le));
            later_round = λ z q. completed (ℕ_discrete (rounds c.processors es t) (rounds c.processors es i)) q;
          }
        where
          completed : Dec (rounds c.processors es t ≡ rounds c.processors es i) → (q : ℕ) → x ≤ (ghost_at lim c es r w (suc t)).known (Processor q)
          completed (yes e) q =
              rw (ghost_taken lim c es r w t p a took, arrives_is a arr)
              (omega (arith, h.same_round e, round_hands_on w (r.state t) p (ghost_at lim c es r w t) full q))
          completed (no e) q = later (omega (arith, le, e)) q
      taken p a took true false arr full k =
          record { same_round = λ z. barrier p a took (rw (arr, full)) (omega (arith, k, z)); later_round = λ z. later (omega (arith, k, z)) }
      taken p a took false d arr full k =
          record { same_round = λ z. barrier p a took (rw arr) (omega (arith, k, z)); later_round = λ z. later (omega (arith, k, z)) }

      go : Moment lim es t (r.state t) (r.state (suc t)) → HandedOn i (suc t) x
      go (Refused e k) =
          let same : rounds c.processors es (suc t) ≡ rounds c.processors es t = rounds_after_refusal lim c es r t e in
          record {
            same_round = λ z. rw (ghost_refused lim c es r w t e) (h.same_round (omega (arith, same, z)));
            later_round = λ z. later (omega (arith, same, z));
          }
      go (Taken p a took acc k) = taken p a took (arrives_by a) (completes (r.state t) p) refl refl (rounds_after_step lim c es r t p a took)

  handed_on : (i p : ℕ) → Took es i p Arrive → (t : ℕ) → i < t → HandedOn i t ((ghost_at lim c es r w (suc i)).known (Processor p))
  handed_on i p took zero l = absurd (omega (arith, l))
  handed_on i p took (suc t) l = go (ℕ_discrete t i) (handed_on i p took t)
    where
      go : Dec (t ≡ i) → (i < t → HandedOn i t ((ghost_at lim c es r w (suc i)).known (Processor p)))
          → HandedOn i (suc t) ((ghost_at lim c es r w (suc i)).known (Processor p))
      go (yes e) below = rw e (handed_on_at_once i p took)
      go (no e) below =
          handed_on_step i t ((ghost_at lim c es r w (suc i)).known (Processor p)) (rounds_never_fall c.processors es i t (omega (arith, l)))
          (below (omega (arith, l, e)))

  -- after a completed round every processor knows it
  pub round_tells : (i p : ℕ) → Took es i p Arrive → (t : ℕ) → rounds c.processors es i < rounds c.processors es t
      → (q : ℕ) → (ghost_at lim c es r w (suc i)).known (Processor p) ≤ (ghost_at lim c es r w t).known (Processor q)
  round_tells i p took t l = go (dec_lt i t)
    where
      go : Dec (i < t) → (q : ℕ) → (ghost_at lim c es r w (suc i)).known (Processor p) ≤ (ghost_at lim c es r w t).known (Processor q)
      go (yes k) = (handed_on i p took t k).later_round l
      go (no k) = absurd (omega (arith, l, rounds_never_fall c.processors es t i (omega (arith, k))))
