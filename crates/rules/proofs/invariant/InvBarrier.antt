-- An arrival keeps the invariant as far as its mark, before the round is completed or left open, where closing keeps it. Rests on
-- MarksAfter and InvLocks. Assumes nothing.
use Prim.Native.Nat.{ℕ, ◌≤◌}
use mathlib.Core.Path.{◌≡◌, refl, sym, ◌∙◌}
use mathlib.Core.Bool.{Bool, true, false, cond}
use lib.Dec.{eqb}
use borrow.Author.Tests.{eqb-true}
use Rattle.rules.specs.State.{Limits, Holder, Processor, Barrier, dirty_at, State}
use Rattle.rules.specs.Close.{closed}
use Rattle.rules.specs.Steps.{at_barrier}
use Rattle.rules.proofs.state.Holders.{barrier_carries}
use Rattle.rules.proofs.inorder.KeptClose.{closed_clean}
use Rattle.rules.proofs.order.Ghosts.{Ghost, closed_ghost, arrived_numbers}
use Rattle.rules.proofs.order.MarksAfter.{rests, rests_at_barrier}
use Rattle.rules.proofs.invariant.Invariant.{Inv}
use Rattle.rules.proofs.invariant.InvMoves.{with_known, clean_carrier, learn_keeps}
use Rattle.rules.proofs.invariant.InvLocks.{clean_closer}

-- the counts of the state at the barrier
unfoldable pub arrived_ghost : Ghost → ℕ → Ghost
arrived_ghost γ p = with_known (closed_ghost γ p) (arrived_numbers γ p)

module _ (lim : Limits) (g o : ℕ) (s : State) (γ : Ghost) (p : ℕ) (from : 1 ≤ p) (to : p ≤ s.counts.processors)
    (closing : Inv lim.words g o (closed s p) (closed_ghost γ p)) (few : (h : Holder) → γ.known h ≤ γ.writes) where
  -- the page of every processor that rests is clean, that of p too
  resting_are_clean : (q : ℕ) → 1 ≤ q → q ≤ s.counts.processors → rests (at_barrier s p) q ≡ true → dirty_at (closed s p).pages q g ≡ false
  unfolding closed
  resting_are_clean q h k e = go (eqb q p) refl (sym (rests_at_barrier s p q) ∙ e)
    where
      go : (b : Bool) → eqb q p ≡ b → cond b true (rests s q) ≡ true → dirty_at (closed s p).pages q g ≡ false
      go true d a = rw (eqb-true q p d) (closed_clean s p g)
      go false d a = closing.resting_clean q h k a

  -- the barrier's clock joins p's, and p is marked
  pub at_barrier_keeps : Inv lim.words g o (at_barrier s p) (arrived_ghost γ p)
  unfolding at_barrier arrived_ghost closed_ghost arrived_numbers with_known closed
  at_barrier_keeps =
      learn_keeps lim.words g o (closed s p) (closed_ghost γ p) closing Barrier (Processor p)
      (clean_carrier g (closed s p) (barrier_carries s.counts)) (clean_closer g s p from to) (at_barrier s p).marks resting_are_clean few
