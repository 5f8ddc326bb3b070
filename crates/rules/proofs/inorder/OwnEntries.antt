-- What each kind of step that closes leaves of the own entries, which a forecast keeps: those that closing leaves. Rests on KeptLocks, KeptRounds and KeptQueue.
-- Assumes nothing.
use Prim.Native.Nat.{ℕ, ◌<◌}
use native.Mathlib.Omega.{arith}
use mathlib.Core.Path.{◌≡◌, refl}
use mathlib.Core.Bool.{Bool, true, false, cond}
use lib.Dec.{eqb}
use Rattle.rules.specs.State.{Limits, Processor, Lock, Barrier, State, holder, Job}
use Rattle.rules.specs.Close.{closed}
use Rattle.rules.specs.Steps.{learned, acquire, release, at_barrier, round_done, free_place, enqueue, dequeue}
use Rattle.rules.proofs.state.Holders.{barrier_carries, job_carries}
use Rattle.rules.proofs.inorder.Facts.{Within}
use Rattle.rules.proofs.inorder.KeptQueue.{free_within, first_in}
use Rattle.rules.proofs.inorder.KeptParts.{present_among, own_in, Parts}
use Rattle.rules.proofs.inorder.KeptMoves.{OwnKept, lock_within}
use Rattle.rules.proofs.inorder.KeptRounds.{processor_learned, carrier_learned, round_clocks, carrier_handed}
use Rattle.rules.proofs.inorder.KeptClose.{closed_parts}
use Rattle.rules.proofs.inorder.KeptLocks.{release_moves}

-- ---- locks

module _ (lim : Limits) (s : State) (p l : ℕ) (f : Parts lim s) (a : present_among s.counts p ≡ true) (there : l < s.counts.locks) where
  pub acquired_own : (q : ℕ) → own_in (acquire s p l).clocks q ≡ own_in (closed s p).clocks q
  unfolding acquire
  acquired_own q = go (eqb (holder (closed s p) l) 0)
    where
      go : (b : Bool) → own_in (cond b (learned (closed s p).clocks (Processor p) (Lock l)) (closed s p).clocks) q ≡ own_in (closed s p).clocks q
      go true =
          (processor_learned lim s.counts (closed s p).clocks p (Lock l) f.counts (unfold closed in (closed_parts lim s p f a).clocks) a
          (lock_within lim s.counts f.counts l there)).own_kept q
      go false = refl

  pub released_own : (q : ℕ) → own_in (release s p l).clocks q ≡ own_in (closed s p).clocks q
  released_own q = (release_moves lim s p l f a there).own_kept q

module _ (lim : Limits) (s : State) (p : ℕ) (f : Parts lim s) (a : present_among s.counts p ≡ true) where
  -- ---- the queue

  pub enqueued_own : (v : ℕ) → s.marks.jobs < lim.jobs → (q : ℕ) → own_in (enqueue lim s p v).clocks q ≡ own_in (closed s p).clocks q
  unfolding enqueue
  enqueued_own v room q =
      (carrier_handed lim s.counts (closed s p).clocks (Job (free_place lim (closed s p))) p f.counts (unfold closed in (closed_parts lim s p f a).clocks)
      (job_carries s.counts (free_place lim (closed s p))) (unfold Within in there) a).own_kept q
    where
      there : free_place lim (closed s p) < lim.jobs
      there = free_within lim (closed s p) (unfold closed in first_in lim s.counts s.marks f.marks (omega (arith, room))) (unfold closed in room)

  pub dequeued_own : 0 < lim.jobs → (q : ℕ) → own_in (dequeue lim s p).after.clocks q ≡ own_in (closed s p).clocks q
  unfolding dequeue
  dequeued_own some q =
      (processor_learned lim s.counts (closed s p).clocks p (Job (closed s p).marks.first) f.counts (unfold closed in (closed_parts lim s p f a).clocks) a
      (unfold Within closed in first_in lim s.counts s.marks f.marks some)).own_kept q

  -- ---- the barrier

  -- the barrier has learned the clock of a processor that has closed
  told : OwnKept lim s.counts (closed s p).clocks (learned (closed s p).clocks Barrier (Processor p))
  unfolding closed
  told = carrier_learned lim s.counts (closed s p).clocks Barrier p f.counts (closed_parts lim s p f a).clocks (barrier_carries s.counts) (unfold Within in tt) a

  -- and every processor the barrier's
  pub round_own : (q : ℕ) → own_in (round_done (at_barrier s p)).clocks q ≡ own_in (at_barrier s p).clocks q
  unfolding round_done at_barrier closed
  round_own q = (round_clocks lim s.counts (learned (closed s p).clocks Barrier (Processor p)) f.counts told.in_order).own_kept q

  pub arrived_own : (q : ℕ) → own_in (at_barrier s p).clocks q ≡ own_in (closed s p).clocks q
  unfolding at_barrier
  arrived_own q = told.own_kept q
