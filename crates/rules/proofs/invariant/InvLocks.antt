-- Acquiring and releasing a lock keep the invariant, where closing keeps it: a processor takes the lock or begins to wait; a lock goes to its longest
-- waiter or to nobody. Rests on Waiters, KeptClose and InvMoves. Assumes nothing.
use Prim.Native.Nat.{ℕ, zero, suc, ◌≤◌, ◌<◌}
use native.Mathlib.Omega.{arith}
use mathlib.Core.Path.{◌≡◌, refl, sym, ◌∙◌}
use mathlib.Core.Bool.{Bool, true, false, cond, not, ◌||◌, false≢true}
use lib.ListN.{get_or}
use lib.Dec.{eqb}
use borrow.Author.Tests.{eqb-true, ne_eqb}
use Rattle.lists.proofs.Tables.{get_put}
use Rattle.rules.specs.State.{Limits, Holder, Processor, Lock, dirty_at, Marks, with_holder, State, with_clocks, with_marks, holder}
use Rattle.rules.specs.Lines.{waits, in_line, first_in_line, with_waiter, lock_asked, without_waiter, lock_handed}
use Rattle.rules.specs.Close.{closed}
use Rattle.rules.specs.Steps.{learned, acquire, lock_told, waiter_told, release}
use Rattle.rules.specs.Refusals.{Acquire, Release, effect}
use Rattle.rules.proofs.state.Holders.{lock_carries}
use Rattle.rules.proofs.state.Waiters.{holder_in, waiter_waits, found_stands}
use Rattle.rules.proofs.inorder.KeptClose.{closed_clean}
use Rattle.rules.proofs.order.Ghosts.{Ghost, learned_numbers, closed_ghost, freed_numbers, granted_numbers, ghost_after}
use Rattle.rules.proofs.order.NumbersAfter.{freed_at_most}
use Rattle.rules.proofs.order.MarksAfter.{rests_in, waiter_rests}
use Rattle.rules.proofs.invariant.Invariant.{Inv}
use Rattle.rules.proofs.invariant.InvMoves.{with_known, CleanHolder, clean_carrier, clean_processor, hand_keeps, learn_keeps, marks_keep}

-- a processor that has closed has clean pages
pub clean_closer : (g : ℕ) (s : State) (p : ℕ) → 1 ≤ p → p ≤ s.counts.processors → CleanHolder g (closed s p) (Processor p)
unfolding closed
clean_closer g s p from to = clean_processor g (closed s p) p from to (closed_clean s p g)

-- ---- who rests then

-- who takes a free lock does not rest by it
taken_rests : (m : Marks) (l p q : ℕ) → rests_in (with_holder m l p) q ≡ rests_in m q
unfolding rests_in waits with_holder
taken_rests m l p q = refl

-- of those who rest when p has asked for a held lock all but p rested before
asked_rests : (m : Marks) (l p x q : ℕ) → rests_in (with_waiter m l p x) q ≡ cond (eqb q p) true (rests_in m q)
unfolding rests_in waits with_waiter
asked_rests m l p x q = rw (get_put 0 m.awaited p q (suc l)) (go (eqb q p) (not (eqb (get_or m.arrived q 0) 0)))
  where
    go : (b a : Bool) → (a || not (eqb (cond b (suc l) (get_or m.awaited q 0)) 0)) ≡ cond b true (a || not (eqb (get_or m.awaited q 0) 0))
    go true true = refl
    go true false = rw (ne_eqb (suc l) 0 (λ e. omega (arith, e)))
    go false a = refl

-- who rests when a lock is handed on rested before
handed_rests : (n : ℕ) (m : Marks) (l q : ℕ) → rests_in (lock_handed n m l) q ≡ true → rests_in m q ≡ true
unfolding rests_in waits lock_handed with_holder without_waiter
handed_rests n m l q e = go (not (eqb (get_or m.arrived q 0) 0)) (eqb q (first_in_line n m l)) (rw (get_put 0 m.awaited (first_in_line n m l) q 0) at e)
  where
    go : (a b : Bool) → (a || not (eqb (cond b 0 (get_or m.awaited q 0)) 0)) ≡ true → (a || not (eqb (get_or m.awaited q 0) 0)) ≡ true
    go true b e = refl
    go false true e = absurd (false≢true e)
    go false false e = e

module _ (lim : Limits) (g o : ℕ) (s : State) (γ : Ghost) (p : ℕ) (from : 1 ≤ p) (to : p ≤ s.counts.processors)
    (closing : Inv lim.words g o (closed s p) (closed_ghost γ p)) (few : (h : Holder) → γ.known h ≤ γ.writes) where
  -- ---- asking

  -- the page of who rests then is clean
  asked_clean : (l x q : ℕ) → 1 ≤ q → q ≤ s.counts.processors → rests_in (with_waiter s.marks l p x) q ≡ true → dirty_at (closed s p).pages q g ≡ false
  unfolding closed
  asked_clean l x q h k e = go (eqb q p) refl (sym (asked_rests s.marks l p x q) ∙ e)
    where
      go : (b : Bool) → eqb q p ≡ b → cond b true (rests_in s.marks q) ≡ true → dirty_at (closed s p).pages q g ≡ false
      go true d a = rw (eqb-true q p d) (closed_clean s p g)
      go false d a = closing.resting_clean q h k a

  -- p's clock joins the lock's, or it waits
  pub acquire_keeps : (w l : ℕ) → l < s.counts.locks → Inv lim.words g o (effect lim s p (Acquire l)).after (ghost_after w s p (Acquire l) γ)
  unfolding effect acquire lock_asked ghost_after closed_ghost with_known closed holder
  acquire_keeps w l there = go (eqb (holder_in s.marks l) 0)
    where
      x : ℕ
      x = in_line s.counts.processors s.marks l

      go : (b : Bool)
          → Inv lim.words g o
          (with_clocks (with_marks (closed s p) (cond b (with_holder s.marks l p) (with_waiter s.marks l p (in_line s.counts.processors s.marks l))))
          (cond b (learned (closed s p).clocks (Processor p) (Lock l)) (closed s p).clocks))
          (with_known (closed_ghost γ p) (cond b (learned_numbers γ.known (Processor p) (Lock l)) γ.known))
      go true =
          learn_keeps lim.words g o (closed s p) (closed_ghost γ p) closing (Processor p) (Lock l) (clean_closer g s p from to)
          (clean_carrier g (closed s p) (lock_carries s.counts l there)) (with_holder s.marks l p)
          (λ q h k e. closing.resting_clean q h k (sym (taken_rests s.marks l p q) ∙ e)) few
      go false = marks_keep lim.words g o (closed s p) (closed_ghost γ p) closing (with_waiter s.marks l p x) (asked_clean l x)

  -- ---- handing on

  module _ (l : ℕ) (there : l < s.counts.locks) where
    m' : Marks
    m' = lock_handed s.counts.processors s.marks l

    handed_clean : (q : ℕ) → 1 ≤ q → q ≤ s.counts.processors → rests_in m' q ≡ true → dirty_at (closed s p).pages q g ≡ false
    unfolding m' closed
    handed_clean q h k e = closing.resting_clean q h k (handed_rests s.counts.processors s.marks l q e)

    freed : State
    freed = with_marks (with_clocks (closed s p) (lock_told (closed s p).clocks p l)) m'

    freed_ghost : Ghost
    freed_ghost = with_known (closed_ghost γ p) (freed_numbers γ p l)

    -- the lock's clock becomes p's
    freed_keeps : Inv lim.words g o freed freed_ghost
    unfolding freed freed_ghost lock_told closed closed_ghost with_known m'
    freed_keeps =
        hand_keeps lim.words g o (closed s p) (closed_ghost γ p) closing (Lock l) (Processor p) (clean_carrier g (closed s p) (lock_carries s.counts l there))
        (clean_closer g s p from to) m' handed_clean

    -- the longest waiter has a clean page
    waiter_clean : (h : ℕ) → first_in_line s.counts.processors s.marks l ≡ suc h → CleanHolder g freed (Processor (suc h))
    unfolding freed first_in_line closed
    waiter_clean h e =
        let first = found_stands s.counts.processors s.marks l 0 h e in
        clean_processor g freed (suc h) (omega arith) first.0
        (closing.resting_clean (suc h) (omega arith) first.0 (waiter_rests s (suc h) (waiter_waits s.marks h l first.1)))

    -- the lock's clock becomes p's, and the longest waiter, if there is one, learns it
    pub release_keeps : (w : ℕ) → Inv lim.words g o (effect lim s p (Release l)).after (ghost_after w s p (Release l) γ)
    unfolding effect release ghost_after closed_ghost with_known closed waiter_told granted_numbers freed freed_ghost m'
    release_keeps w = go (first_in_line s.counts.processors s.marks l) refl
      where
        go : (q : ℕ) → first_in_line s.counts.processors s.marks l ≡ q
            → Inv lim.words g o
            (with_clocks (with_marks (closed s p) m') (cond (eqb q 0) (lock_told (closed s p).clocks p l) (learned (lock_told (closed s p).clocks p l) (Processor q) (Lock l))))
            (with_known (closed_ghost γ p) (cond (eqb q 0) (freed_numbers γ p l) (learned_numbers (freed_numbers γ p l) (Processor q) (Lock l))))
        go zero e = freed_keeps
        go (suc h) e =
            rw (ne_eqb (suc h) 0 (λ z. omega (arith, z)))
            (learn_keeps lim.words g o freed freed_ghost freed_keeps (Processor (suc h)) (Lock l) (waiter_clean h e)
            (clean_carrier g freed (lock_carries s.counts l there)) m' handed_clean (freed_at_most γ p l γ.writes few))
