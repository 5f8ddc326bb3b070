-- Document 02, L7, the theorem: when a round completes, in every run, no lock is held and no line stands.
--
-- Take any limits, any opening that is accepted, and any list of steps with any fields, in any order, refused ones too. Where the next step is an accepted arrival
-- that completes its round, every lock is free and every line is empty, before it and after it. So nobody sits at a completed round with a lock for which
-- others wait. Rests on WaitsItsTurn and InOrderRuns. Assumes nothing.
use Prim.Native.Nat.{ℕ, zero, suc, ◌≤◌}
use native.Mathlib.Omega.{arith}
use mathlib.Core.Path.{◌≡◌, refl, sym, ap, ◌∙◌}
use mathlib.Core.Bool.{Bool, true, false, cond, false≢true}
use mathlib.Core.Logic.{◌⊎◌, inl, inr}
use mathlib.Core.List.{List, [], ◌∷◌}
use lib.Dec.{ltb, eqb}
use borrow.Author.Tests.{ltb-true, ltb-false}
use Rattle.lists.proofs.Tables.{every_at, any_holds}
use Rattle.rules.specs.State.{Limits, State, own, holder, has_arrived}
use Rattle.rules.specs.Opening.{Opening, opening_refusal, opened}
use Rattle.rules.specs.InOrder.{is_in_order, present}
use Rattle.rules.specs.Close.{closed}
use Rattle.rules.specs.Steps.{at_barrier, all_arrived}
use Rattle.rules.specs.Refusals.{Step, Arrive, action_of, holds_any, refusal, next}
use Rattle.rules.specs.Runs.{state_after}
use Rattle.rules.specs.LocksFree.{LocksFree, FindsLocksFree}
use Rattle.rules.proofs.inorder.Facts.{InOrder}
use Rattle.rules.proofs.inorder.InOrderSays.{in_order_says}
use Rattle.rules.proofs.inorder.InOrderWhen.{in_order_when}
use Rattle.rules.proofs.inorder.OpenedInOrder.{opened_in_order, opening_counts}
use Rattle.rules.proofs.inorder.Outside.{not_held_outside}
use Rattle.rules.proofs.inorder.Accepted.{Accepted, accepted_says, present_says, late_arrive}
use Rattle.rules.proofs.InOrderRuns.{step_keeps_order, refusal_is_not_one}
use Rattle.rules.proofs.order.MarksAfter.{arrived_at_barrier, line_marks_after}
use Rattle.rules.proofs.WaitsItsTurn.{lines_next, holder_next, round_meets_no_line}

-- ---- one step, from any state in order

module _ (lim : Limits) (s : State) (t : Step) (ordered : is_in_order lim s ≡ true) (e : refusal lim s t ≡ 0) (is : action_of t ≡ Arrive)
    (full : all_arrived (at_barrier s t.processor) ≡ true) where
  o : InOrder lim s
  o = in_order_says lim s ordered

  accepted : Accepted lim s t
  accepted = accepted_says lim s t (sym (refusal_is_not_one lim s t ordered) ∙ e)

  -- the processor that arrives holds no lock
  holds_none : holds_any lim s t.processor ≡ false
  holds_none = late_arrive lim s (own s t.processor) t.processor (rw is at accepted.not_late)

  -- every other has arrived, and a holder has not: so the holder of a lock would be the processor that arrives
  nobody_holds : (l : ℕ) → (present s (holder s l) ≡ true) → has_arrived s (holder s l) ≡ false → ⊥
  unfolding all_arrived at_barrier closed holds_any o
  nobody_holds l here away = go (eqb (holder s l) t.processor) refl
    where
      go : (b : Bool) → eqb (holder s l) t.processor ≡ b → ⊥
      go true z = among (ltb l lim.locks) refl
        where
          among : (b : Bool) → ltb l lim.locks ≡ b → ⊥
          among true h = false≢true (sym holds_none ∙ any_holds lim.locks (λ i. eqb (holder s i) t.processor) l (ltb-true l lim.locks h) z)
          among false h =
              omega (arith, not_held_outside lim s o.sized l (ltb-false l lim.locks h), (present_says s (holder s l) here).0)
      go false z =
          let b = present_says s (holder s l) here in
          let arrived : has_arrived s (holder s l) ≡ true =
          ap (λ (x : Bool). cond x true (has_arrived s (holder s l))) (sym z) ∙ sym (arrived_at_barrier s t.processor (holder s l)) ∙ at (holder s l) b.0 b.1 in
          false≢true (sym away ∙ arrived)
        where
          at : (q : ℕ) → 1 ≤ q → q ≤ s.counts.processors → has_arrived (at_barrier s t.processor) q ≡ true
          at zero h k = absurd (omega (arith, h))
          at (suc q) h k = every_at s.counts.processors (λ i. has_arrived (at_barrier s t.processor) (suc i)) q full (omega (arith, k))

  -- so every lock is free, and every line is empty
  pub round_meets_free_locks : LocksFree s
  unfolding o
  round_meets_free_locks = record { unheld = λ l. go l (o.holder_present l) (o.holder_away l); no_line = round_meets_no_line lim s t ordered e is full }
    where
      go : (l : ℕ) → (holder s l ≡ 0) ⊎ (present s (holder s l) ≡ true) → (holder s l ≡ 0) ⊎ (has_arrived s (holder s l) ≡ false) → holder s l ≡ 0
      go l (inl z) a = z
      go l (inr h) (inl z) = z
      go l (inr h) (inr a) = absurd (nobody_holds l h a)

  -- and so they are when the round has completed
  pub round_leaves_free_locks : LocksFree (next lim s t)
  unfolding line_marks_after holder
  round_leaves_free_locks =
      record {
        unheld = λ l. holder_next lim s t ordered Arrive e is l ∙ round_meets_free_locks.unheld l;
        no_line = λ l. lines_next lim s t ordered Arrive e is l ∙ round_meets_free_locks.no_line l;
      }

-- ---- "A state that has an arrived card holding a lock is no longer in order"

pub arrived_holder_out : (lim : Limits) (s : State) (l q : ℕ) → 1 ≤ q → holder s l ≡ q → has_arrived s q ≡ true → is_in_order lim s ≡ false
arrived_holder_out lim s l q from holds arrived = go (is_in_order lim s) refl
  where
    apart : (holder s l ≡ 0) ⊎ (has_arrived s (holder s l) ≡ false) → ⊥
    apart (inl z) = omega (arith, z, holds, from)
    apart (inr a) = false≢true (sym a ∙ ap (has_arrived s) holds ∙ arrived)

    go : (b : Bool) → is_in_order lim s ≡ b → is_in_order lim s ≡ false
    go true e = absurd (apart ((in_order_says lim s e).holder_away l))
    go false e = e

-- ---- every run

run_in_order : (lim : Limits) (s : State) (ts : List Step) → is_in_order lim s ≡ true → is_in_order lim (state_after lim s ts) ≡ true
unfolding state_after
run_in_order lim s [] e = e
run_in_order lim s (t ∷ ts) e = run_in_order lim (next lim s t) ts (step_keeps_order lim s t e)

pub round_finds_locks_free : (lim : Limits) (o : Opening) → opening_refusal lim o ≡ 0 → (ts : List Step) (t : Step)
    → refusal lim (state_after lim (opened lim o.counts) ts) t ≡ 0 → action_of t ≡ Arrive
    → all_arrived (at_barrier (state_after lim (opened lim o.counts) ts) t.processor) ≡ true
    → FindsLocksFree lim (state_after lim (opened lim o.counts) ts) t
round_finds_locks_free lim o z ts t e is full =
    let s : State = state_after lim (opened lim o.counts) ts in
    let ordered : is_in_order lim s ≡ true =
    run_in_order lim (opened lim o.counts) ts (in_order_when lim (opened lim o.counts) (opened_in_order lim o.counts (opening_counts lim o z))) in
    record { before = round_meets_free_locks lim s t ordered e is full; after = round_leaves_free_locks lim s t ordered e is full }
