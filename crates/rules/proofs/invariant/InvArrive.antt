-- An arrival keeps the invariant, where closing keeps it: when it leaves the round open, when it completes it, and when garbage is
-- collected then. Rests on KeptBarrier, InvRound and InvCollect. Assumes nothing.
use Prim.Native.Nat.{ℕ, ◌≤◌, ◌<◌}
use mathlib.Core.Path.{◌≡◌, refl}
use mathlib.Core.Bool.{Bool, true, false, cond, ◌&&◌}
use Rattle.rules.specs.State.{Limits, State}
use Rattle.rules.specs.Close.{closed}
use Rattle.rules.specs.Steps.{at_barrier, round_done, none_fetched, collected, wants_collection, arrive}
use Rattle.rules.specs.Refusals.{Arrive, effect}
use Rattle.rules.proofs.inorder.Facts.{InOrder}
use Rattle.rules.proofs.inorder.KeptParts.{among_when, parts_of}
use Rattle.rules.proofs.inorder.KeptBarrier.{round_parts}
use Rattle.rules.proofs.order.Ghosts.{Ghost, round_numbers, completes, collects, writer_closed, closed_ghost, arrived_numbers, ghost_after}
use Rattle.rules.proofs.order.NumbersAfter.{Knowing}
use Rattle.rules.proofs.invariant.Invariant.{Inv}
use Rattle.rules.proofs.invariant.InvMoves.{with_known}
use Rattle.rules.proofs.invariant.InvBarrier.{arrived_ghost, at_barrier_keeps}
use Rattle.rules.proofs.invariant.InvRound.{round_ghost, completed_clean, completed_no_writer, completed_knows, completed_keeps}
use Rattle.rules.proofs.invariant.InvCollect.{collected_ghost, collect_keeps}

module _ (lim : Limits) (g o : ℕ) (s : State) (γ : Ghost) (p : ℕ) (from : 1 ≤ p) (to : p ≤ s.counts.processors) (ord : InOrder lim s) (in_page : o < lim.words)
    (closing : Inv lim.words g o (closed s p) (closed_ghost γ p)) (numbers : Knowing s.counts.processors s γ) where
  -- the round is completed and collects
  collected_keeps : completes s p ≡ true → Inv lim.words g o (collected lim (round_done (at_barrier s p))).after (collected_ghost (round_ghost γ p))
  unfolding round_done at_barrier closed round_ghost closed_ghost with_known
  collected_keeps full =
      collect_keeps lim g o (round_done (at_barrier s p)) (round_ghost γ p) (round_parts lim s p (parts_of lim s ord) (among_when s.counts p from to)) in_page
      (completed_keeps lim g o s γ p from to closing numbers full ord) (completed_no_writer lim g o s γ p from to closing numbers full)
      (completed_clean lim g o s γ p from to closing numbers full) (completed_knows lim g o s γ p from to closing numbers full)

  -- every arrival
  pub arrive_keeps : (w : ℕ) → Inv lim.words g o (effect lim s p Arrive).after (ghost_after w s p Arrive γ)
  unfolding effect arrive ghost_after completes collects wants_collection at_barrier closed arrived_ghost round_ghost closed_ghost collected_ghost with_known
  arrive_keeps w = go (completes s p) (wants_collection s) refl
    where
      go : (b c : Bool) → completes s p ≡ b
          → Inv lim.words g o
          (cond b (cond c (collected lim (round_done (at_barrier s p))) (none_fetched (round_done (at_barrier s p)))) (none_fetched (at_barrier s p))).after
          (record {
            writes = γ.writes;
            last = γ.last;
            base = cond (b && c) γ.last γ.base;
            writer = writer_closed γ p;
            known = cond b (round_numbers (arrived_numbers γ p)) (arrived_numbers γ p);
          })
      go true true full = collected_keeps full
      go true false full = completed_keeps lim g o s γ p from to closing numbers full ord
      go false c e = at_barrier_keeps lim g o s γ p from to closing numbers.at_most
