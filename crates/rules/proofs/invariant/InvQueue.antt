-- Adding a job to the queue and removing one keep the invariant, where closing keeps it: the clock of a place becomes the processor's, or the
-- processor learns the clock of a place. Rests on InvLocks and InvMoves. Assumes nothing.
use Prim.Native.Nat.{ℕ, ◌+◌, ◌-◌, ◌≤◌}
use mathlib.Core.Path.{◌≡◌, refl, sym, ◌∙◌}
use lib.ListN.{length}
use Rattle.rules.specs.State.{Limits, Holder, Processor, Job, clock_of, with_clock, Marks, with_queue, State, with_clocks, with_marks}
use Rattle.rules.specs.Lines.{waits}
use Rattle.rules.specs.Close.{closed}
use Rattle.rules.specs.Steps.{place_behind, free_place, enqueue, dequeue}
use Rattle.rules.specs.Refusals.{Enqueue, Dequeue, effect}
use Rattle.rules.proofs.state.Holders.{job_carries}
use Rattle.rules.proofs.order.Ghosts.{Ghost, with_number, closed_ghost, ghost_place_lem, ghost_after}
use Rattle.rules.proofs.order.MarksAfter.{rests_in}
use Rattle.rules.proofs.invariant.Invariant.{Inv}
use Rattle.rules.proofs.invariant.InvMoves.{with_known, clean_carrier, hand_keeps, learn_keeps}
use Rattle.rules.proofs.invariant.InvSame.{shared_aside}
use Rattle.rules.proofs.invariant.InvLocks.{clean_closer}

module _ (lim : Limits) (g o : ℕ) (s : State) (γ : Ghost) (p : ℕ) (from : 1 ≤ p) (to : p ≤ s.counts.processors)
    (closing : Inv lim.words g o (closed s p) (closed_ghost γ p)) (few : (h : Holder) → γ.known h ≤ γ.writes) (size : length s.clocks.jobs ≡ lim.jobs) where
  -- the marks of the queue say nothing of who rests
  queue_rests : (m : Marks) (f j q : ℕ) → rests_in (with_queue m f j) q ≡ rests_in m q
  unfolding rests_in waits
  queue_rests m f j q = refl

  pub enqueue_keeps : (w v : ℕ) → Inv lim.words g o (effect lim s p (Enqueue v)).after (ghost_after w s p (Enqueue v) γ)
  unfolding effect enqueue ghost_after closed_ghost with_known closed free_place
  enqueue_keeps w v =
      rw (ghost_place_lem lim s size)
      (shared_aside lim.words g o
      (with_marks (with_clocks (closed s p) (with_clock (closed s p).clocks (Job (free_place lim (closed s p))) (clock_of (closed s p).clocks (Processor p)))) (with_queue s.marks s.marks.first (s.marks.jobs + 1)))
      (with_known (closed_ghost γ p) (with_number γ.known (Job (free_place lim s)) (γ.known (Processor p)))) (enqueue lim s p v).shared
      (hand_keeps lim.words g o (closed s p) (closed_ghost γ p) closing (Job (free_place lim (closed s p))) (Processor p) (clean_carrier g (closed s p) (job_carries s.counts (free_place lim (closed s p))))
      (clean_closer g s p from to) (with_queue s.marks s.marks.first (s.marks.jobs + 1)) (λ q h k e. closing.resting_clean q h k (sym (queue_rests s.marks s.marks.first (s.marks.jobs + 1) q) ∙ e))))

  pub dequeue_keeps : (w : ℕ) → Inv lim.words g o (effect lim s p Dequeue).after (ghost_after w s p Dequeue γ)
  unfolding effect dequeue ghost_after closed_ghost with_known closed
  dequeue_keeps w =
      learn_keeps lim.words g o (closed s p) (closed_ghost γ p) closing (Processor p) (Job s.marks.first) (clean_closer g s p from to)
      (clean_carrier g (closed s p) (job_carries s.counts s.marks.first)) (with_queue s.marks (place_behind lim s.marks.first) (s.marks.jobs - 1))
      (λ q h k e. closing.resting_clean q h k (sym (queue_rests s.marks (place_behind lim s.marks.first) (s.marks.jobs - 1) q) ∙ e)) few
