-- A completed round keeps the invariant: every processor learns the barrier's clock, which is then cleared. Rests on NumbersAfter and
-- InvBarrier. Assumes nothing.
use Prim.Native.Nat.{ℕ, zero, suc, ◌≤◌, ◌<◌, max}
use native.Mathlib.Omega.{arith}
use native.Mathlib.Decide.{ℕ_discrete}
use mathlib.Core.Path.{◌≡◌, refl, sym, ap, ap₂, ◌∙◌}
use mathlib.Core.Bool.{Bool, true, false, cond, false≢true}
use lib.ListN.{length}
use lib.Dec.{eqb}
use borrow.Author.Tests.{eqb-true, eq-eqb, ne_eqb}
use Rattle.lists.proofs.Tables.{every_at}
use Rattle.rules.specs.State.{Limits, Counts, Holder, Processor, Lock, Barrier, Applied, Interval, Job, cleared, dirty_at, State, with_clocks, standing, has_arrived, with_marks, with_clock}
use Rattle.rules.specs.Close.{closed}
use Rattle.rules.specs.Steps.{at_barrier, all_arrived, all_learned, round_done}
use Rattle.rules.proofs.state.Holders.{same_holder, Knows, barrier_carries}
use Rattle.rules.proofs.inorder.Facts.{InOrder}
use Rattle.rules.proofs.inorder.Accepted.{present_when}
use Rattle.rules.proofs.inorder.KeptClose.{closed_keeps}
use Rattle.rules.proofs.order.Ghosts.{Ghost, with_number, learned_numbers, round_numbers, completes, writer_closed, closed_ghost, arrived_numbers}
use Rattle.rules.proofs.order.MarksAfter.{arrived_at_barrier, arrived_rests}
use Rattle.rules.proofs.order.NumbersAfter.{learned_at_most, Knowing}
use Rattle.rules.proofs.word.WordOfRecords.{nth}
use Rattle.rules.proofs.invariant.Invariant.{Inv}
use Rattle.rules.proofs.invariant.InvClocks.{informed_when_cleared}
use Rattle.rules.proofs.invariant.InvSame.{interval_made, shared_aside}
use Rattle.rules.proofs.invariant.InvMoves.{with_known, clean_carrier, clean_processor, inv_same_numbers, clock_move_keeps, learn_keeps}
use Rattle.rules.proofs.invariant.InvBarrier.{arrived_ghost, at_barrier_keeps}

-- ---- the numbers while the processors learn the barrier's clock

-- for the first n processors
unfoldable all_learned_numbers : (Holder → ℕ) → ℕ → Holder → ℕ
all_learned_numbers f zero = f
all_learned_numbers f (suc k) = learned_numbers (all_learned_numbers f k) (Processor (suc k)) Barrier

-- none comes above what none was above
all_learned_at_most : (f : Holder → ℕ) (m : ℕ) → ((h : Holder) → f h ≤ m) → (n : ℕ) (h : Holder) → all_learned_numbers f n h ≤ m
unfolding all_learned_numbers
all_learned_at_most f m all zero = all
all_learned_at_most f m all (suc k) = learned_at_most (all_learned_numbers f k) (Processor (suc k)) Barrier m (all_learned_at_most f m all k)

module _ (f : Holder → ℕ) where
  -- the number of a holder that is no processor stays
  all_learned_other : (n : ℕ) (h : Holder) → ((q : ℕ) → same_holder (Processor q) h ≡ false) → all_learned_numbers f n h ≡ f h
  unfolding all_learned_numbers with_number
  all_learned_other zero h e = refl
  all_learned_other (suc k) h e = rw (e (suc k)) (all_learned_other k h e)

  -- a processor above n has not learned it yet
  not_yet_learned : (n q : ℕ) → n < q → all_learned_numbers f n (Processor q) ≡ f (Processor q)
  unfolding all_learned_numbers with_number same_holder
  not_yet_learned zero q h = refl
  not_yet_learned (suc k) q h = rw (ne_eqb q (suc k) (λ e. omega (arith, e, h))) (not_yet_learned k q (omega arith))

  -- the processors 1 to n have
  all_learned_processor : (n q : ℕ) → 1 ≤ q → q ≤ n → all_learned_numbers f n (Processor q) ≡ max (f (Processor q)) (f Barrier)
  unfolding all_learned_numbers with_number same_holder
  all_learned_processor zero q h l = absurd (omega arith)
  all_learned_processor (suc k) q h l = go (ℕ_discrete q (suc k)) (all_learned_processor k q h)
    where
      go : Dec (q ≡ suc k) → (q ≤ k → all_learned_numbers f k (Processor q) ≡ max (f (Processor q)) (f Barrier))
          → cond (eqb q (suc k)) (max (all_learned_numbers f k (Processor (suc k))) (all_learned_numbers f k Barrier)) (all_learned_numbers f k (Processor q)) ≡ max (f (Processor q)) (f Barrier)
      go (yes e) r = rw (eq-eqb q (suc k) e, e) (ap₂ max (not_yet_learned k (suc k) (omega arith)) (all_learned_other k Barrier (λ i. refl)))
      go (no e) r = rw (ne_eqb q (suc k) e) (r (omega arith))

  -- with the barrier's number 0 they are those of the completed round
  round_number : (n : Counts) (h : Holder) → Knows n h → round_numbers f h ≡ with_number (all_learned_numbers f n.processors) Barrier 0 h
  unfolding round_numbers with_number same_holder Knows
  round_number n (Processor q) k = sym (all_learned_processor n.processors q k.0 k.1)
  round_number n (Lock l) k = sym (all_learned_other n.processors (Lock l) (λ i. refl))
  round_number n Barrier k = refl
  round_number n (Applied p g) k = absurd k
  round_number n (Interval p i) k = absurd k
  round_number n (Job j) k = sym (all_learned_other n.processors (Job j) (λ i. refl))

-- ---- the round

module _ (words g o : ℕ) (s : State) (γ : Ghost) (inv : Inv words g o s γ) (few : (h : Holder) → γ.known h ≤ γ.writes) (no-writer : γ.writer ≡ 0)
    (clean : (q : ℕ) → 1 ≤ q → q ≤ s.counts.processors → dirty_at s.pages q g ≡ false) where
  -- the first k processors have learned the barrier's clock
  learned_keeps : (k : ℕ) → k ≤ s.counts.processors → Inv words g o (with_clocks s (all_learned s.clocks k)) (with_known γ (all_learned_numbers γ.known k))
  unfolding with_known all_learned all_learned_numbers standing
  learned_keeps zero h = inv
  learned_keeps (suc k) h = one_more (learned_keeps k (omega arith))
    where
      one_more : Inv words g o (with_clocks s (all_learned s.clocks k)) (with_known γ (all_learned_numbers γ.known k))
          → Inv words g o (with_clocks s (all_learned s.clocks (suc k))) (with_known γ (all_learned_numbers γ.known (suc k)))
      one_more before =
          let s₁ : State = with_clocks s (all_learned s.clocks k) in
          learn_keeps words g o s₁ (with_known γ (all_learned_numbers γ.known k)) before (Processor (suc k)) Barrier
          (clean_processor g s₁ (suc k) (omega arith) h (clean (suc k) (omega arith) h)) (clean_carrier g s₁ (barrier_carries s.counts))
          s.marks inv.resting_clean (all_learned_at_most γ.known γ.writes few k)

  -- then its clock is cleared, and so are the marks
  pub round_keeps : ((i : ℕ) → i < length (standing s) → 1 ≤ (nth (standing s) i).interval) → Inv words g o (round_done s) (with_known γ (round_numbers γ.known))
  unfolding round_done with_known Knows same_holder standing
  round_keeps made =
      let n : ℕ = s.counts.processors in
      let all : Inv words g o (with_clocks s (all_learned s.clocks n)) (with_known γ (all_learned_numbers γ.known n)) = learned_keeps n (omega arith) in
      inv_same_numbers words g o (round_done s) (with_known γ (with_number (all_learned_numbers γ.known n) Barrier 0)) (round_numbers γ.known)
      (round_number γ.known s.counts)
      (shared_aside words g o (with_marks (with_clocks s (with_clock (all_learned s.clocks n) Barrier (cleared s.clocks.barrier))) (round_done s).marks) (with_known γ (with_number (all_learned_numbers γ.known n) Barrier 0)) (round_done s).shared
      (clock_move_keeps words g o (with_clocks s (all_learned s.clocks n)) (with_known γ (all_learned_numbers γ.known n)) all Barrier (cleared s.clocks.barrier) 0
      (round_done s).marks (clean_carrier g (with_clocks s (all_learned s.clocks n)) (barrier_carries s.counts))
      (informed_when_cleared words g o (all_learned s.clocks n) (standing s) γ.writes s.clocks.barrier inv.clocks.none_yet made)
      (λ e. absurd (e no-writer)) (λ q h k e. clean q h k)))

-- ---- the arrival that completes the round

-- the counts after it
unfoldable pub round_ghost : Ghost → ℕ → Ghost
round_ghost γ p = with_known (closed_ghost γ p) (round_numbers (arrived_numbers γ p))

module _ (lim : Limits) (g o : ℕ) (s : State) (γ : Ghost) (p : ℕ) (from : 1 ≤ p) (to : p ≤ s.counts.processors)
    (closing : Inv lim.words g o (closed s p) (closed_ghost γ p)) (numbers : Knowing s.counts.processors s γ) (full : completes s p ≡ true) where
  all_arrived_lem : (q : ℕ) → 1 ≤ q → q ≤ s.counts.processors → has_arrived (at_barrier s p) q ≡ true
  unfolding completes all_arrived at_barrier closed
  all_arrived_lem zero h k = absurd (omega arith)
  all_arrived_lem (suc i) h k = every_at s.counts.processors (λ j. has_arrived (at_barrier s p) (suc j)) i full k

  at_barrier_lem : Inv lim.words g o (at_barrier s p) (arrived_ghost γ p)
  at_barrier_lem = at_barrier_keeps lim g o s γ p from to closing numbers.at_most

  -- the page is clean everywhere
  pub completed_clean : (q : ℕ) → 1 ≤ q → q ≤ s.counts.processors → dirty_at (at_barrier s p).pages q g ≡ false
  unfolding at_barrier closed
  completed_clean q h k = at_barrier_lem.resting_clean q h k (arrived_rests (at_barrier s p) q (all_arrived_lem q h k))

  -- so every store has its interval
  pub completed_no_writer : writer_closed γ p ≡ 0
  unfolding arrived_ghost closed_ghost with_known at_barrier closed
  completed_no_writer = go (ℕ_discrete (writer_closed γ p) 0)
    where
      go : Dec (writer_closed γ p ≡ 0) → writer_closed γ p ≡ 0
      go (yes e) = e
      go (no e) =
          let b = at_barrier_lem.clocks.writer_present e in
          absurd (false≢true (sym (completed_clean (writer_closed γ p) b.0 b.1) ∙ (at_barrier_lem.page (writer_closed γ p) b.0 b.1).writer_dirty refl))

  -- the barrier knows of every write, since whoever knows of all has arrived
  barrier_knows_all : max (γ.known Barrier) (γ.known (Processor p)) ≡ γ.writes
  barrier_knows_all =
      go (eqb numbers.knower p) refl (sym (arrived_at_barrier s p numbers.knower) ∙ all_arrived_lem numbers.knower numbers.knower_from numbers.knower_to)
    where
      go : (b : Bool) → eqb numbers.knower p ≡ b → cond b true (has_arrived s numbers.knower) ≡ true → max (γ.known Barrier) (γ.known (Processor p)) ≡ γ.writes
      go true e a =
          omega (arith, numbers.at_most Barrier, numbers.at_most (Processor p), numbers.knows_all, ap (λ (q : ℕ). γ.known (Processor q)) (eqb-true numbers.knower p e))
      go false e a =
          omega (arith, numbers.at_most Barrier, numbers.at_most (Processor p), numbers.knows_all, numbers.arrived_knows numbers.knower a)

  -- and then so does every processor
  pub completed_knows : (q : ℕ) → round_numbers (arrived_numbers γ p) (Processor q) ≡ γ.writes
  unfolding round_numbers arrived_numbers with_number same_holder
  completed_knows q = omega (arith, barrier_knows_all, numbers.at_most (Processor q))

  -- the invariant after the round
  pub completed_keeps : InOrder lim s → Inv lim.words g o (round_done (at_barrier s p)) (round_ghost γ p)
  unfolding round_ghost arrived_ghost arrived_numbers with_number closed_ghost with_known at_barrier closed standing
  completed_keeps ord =
      round_keeps lim.words g o (at_barrier s p) (arrived_ghost γ p) at_barrier_lem (learned_at_most γ.known Barrier (Processor p) γ.writes numbers.at_most) completed_no_writer completed_clean
      (interval_made lim (closed s p) (closed_keeps lim s p (present_when s p from to) ord))
