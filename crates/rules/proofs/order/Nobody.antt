-- Nobody's places among the arrived marks and the marks of waiting stay 0: a step marks present processors alone. Rests on Accepted and
-- MarksAfter. Assumes nothing.
use Prim.Native.Nat.{ℕ, suc, ◌≤◌}
use native.Mathlib.Omega.{arith}
use mathlib.Core.Path.{◌≡◌, refl, ap, ◌∙◌}
use mathlib.Core.Bool.{Bool, true, false, cond, not}
use mathlib.Core.List.{List}
use lib.ListN.{get_or}
use lib.Dec.{eqb}
use borrow.Author.Tests.{eqb-true, eq-eqb, ne_eqb, not-false}
use Rattle.lists.proofs.Tables.{get_put, get_put_other}
use Rattle.rules.specs.State.{Limits, Counts, Marks, with_holder, State, has_arrived}
use Rattle.rules.specs.Lines.{in_line, first_in_line, with_waiter, lock_asked, without_waiter, lock_handed}
use Rattle.rules.specs.Opening.{zero_marks, opened}
use Rattle.rules.specs.Refusals.{Step, Action, Read, Write, Acquire, Release, Arrive, Want, TallyAdd, TallyRead, Enqueue, Dequeue, Unknown, action_of, refusal_in_order, effect, next_in_order}
use Rattle.rules.proofs.state.Waiters.{holder_in, moved_up_at}
use Rattle.rules.proofs.inorder.Accepted.{accepted_says, present_says}
use Rattle.rules.proofs.order.Ghosts.{completes}
use Rattle.rules.proofs.order.MarksAfter.{line_marks_after, lines_after, arrived_after, arrived_after_lem}

-- nobody has arrived, waits or has a turn
pub record NobodyMarked (m : Marks) : Type 0 where
  pub arrived : get_or m.arrived 0 0 ≡ 0
  pub awaited : get_or m.awaited 0 0 ≡ 0
  pub turn : get_or m.turns 0 0 ≡ 0

-- ---- the arrived mark

unmarked : (s : State) → has_arrived s 0 ≡ false → get_or s.marks.arrived 0 0 ≡ 0
unfolding has_arrived
unmarked s e = eqb-true (get_or s.marks.arrived 0 0) 0 (not-false (eqb (get_or s.marks.arrived 0 0) 0) e)

not_marked : (s : State) → get_or s.marks.arrived 0 0 ≡ 0 → has_arrived s 0 ≡ false
unfolding has_arrived
not_marked s e = ap (λ (b : Bool). not b) (eq-eqb (get_or s.marks.arrived 0 0) 0 e)

not_marked_after : (s : State) (p : ℕ) (a : Action) → 1 ≤ p → has_arrived s 0 ≡ false → arrived_after s p a 0 ≡ false
unfolding arrived_after
not_marked_after s p (Read x) h e = e
not_marked_after s p (Write x v) h e = e
not_marked_after s p (Acquire k) h e = e
not_marked_after s p (Release k) h e = e
not_marked_after s p Arrive h e = rw (ne_eqb 0 p (λ z. omega arith), e) (go (completes s p))
  where
    go : (b : Bool) → cond b false false ≡ false
    go true = refl
    go false = refl
not_marked_after s p Want h e = e
not_marked_after s p (TallyAdd j x) h e = e
not_marked_after s p (TallyRead j) h e = e
not_marked_after s p (Enqueue j) h e = e
not_marked_after s p Dequeue h e = e
not_marked_after s p Unknown h e = e

-- ---- the marks of waiting

-- nobody's two marks of waiting
abbrev Awake : Marks → Type 0
Awake m = (get_or m.awaited 0 0 ≡ 0) × (get_or m.turns 0 0 ≡ 0)

asked_awake : (n : ℕ) (m : Marks) (l p : ℕ) → 1 ≤ p → Awake m → Awake (lock_asked n m l p)
unfolding lock_asked with_holder with_waiter
asked_awake n m l p h f = go (eqb (holder_in m l) 0)
  where
    go : (b : Bool) → Awake (cond b (with_holder m l p) (with_waiter m l p (in_line n m l)))
    go true = f
    go false =
        (get_put_other 0 m.awaited p 0 (suc l) (λ e. omega (arith, e, h)) ∙ f.0, get_put_other 0 m.turns p 0 (in_line n m l) (λ e. omega (arith, e, h)) ∙ f.1)

handed_awake : (n : ℕ) (m : Marks) (l : ℕ) → Awake m → Awake (lock_handed n m l)
unfolding lock_handed with_holder without_waiter
handed_awake n m l f = (
  get_put 0 m.awaited (first_in_line n m l) 0 0 ∙ left (eqb 0 (first_in_line n m l)),
  moved_up_at l m.awaited m.turns 0 ∙ rw (f.0, ne_eqb 0 (suc l) (λ e. omega (arith, e))) f.1,
)
  where
    left : (b : Bool) → cond b 0 (get_or m.awaited 0 0) ≡ 0
    left true = refl
    left false = f.0

awake_after : (s : State) (p : ℕ) (a : Action) → 1 ≤ p → Awake s.marks → Awake (line_marks_after s p a)
unfolding line_marks_after
awake_after s p (Read x) h f = f
awake_after s p (Write x v) h f = f
awake_after s p (Acquire l) h f = asked_awake s.counts.processors s.marks l p h f
awake_after s p (Release l) h f = handed_awake s.counts.processors s.marks l f
awake_after s p Arrive h f = f
awake_after s p Want h f = f
awake_after s p (TallyAdd j x) h f = f
awake_after s p (TallyRead j) h f = f
awake_after s p (Enqueue j) h f = f
awake_after s p Dequeue h f = f
awake_after s p Unknown h f = f

-- ---- runs

-- every step, accepted or refused, leaves them 0
pub next_nobody_marked : (lim : Limits) (s : State) (t : Step) → NobodyMarked s.marks → NobodyMarked (next_in_order lim s t).marks
unfolding next_in_order
next_nobody_marked lim s t f = go (eqb (refusal_in_order lim s t) 0) refl
  where
    accepted : refusal_in_order lim s t ≡ 0 → NobodyMarked (effect lim s t.processor (action_of t)).after.marks
    accepted e =
        let from : 1 ≤ t.processor = (present_says s t.processor (accepted_says lim s t e).processor_present).0 in
        let same = lines_after lim s t.processor (action_of t) in
        let awake = awake_after s t.processor (action_of t) from (f.awaited, f.turn) in
        record {
          arrived =
              unmarked (effect lim s t.processor (action_of t)).after
              (arrived_after_lem lim s t.processor (action_of t) 0 ∙ not_marked_after s t.processor (action_of t) from (not_marked s f.arrived));
          awaited = ap (λ (l : List ℕ). get_or l 0 0) same.awaited ∙ awake.0;
          turn = ap (λ (l : List ℕ). get_or l 0 0) same.turns ∙ awake.1;
        }

    go : (b : Bool) → eqb (refusal_in_order lim s t) 0 ≡ b → NobodyMarked (cond b (effect lim s t.processor (action_of t)).after s).marks
    go true e = accepted (eqb-true (refusal_in_order lim s t) 0 e)
    go false e = f

-- and an opening makes them 0
pub opened_nobody_marked : (lim : Limits) (c : Counts) → NobodyMarked (opened lim c).marks
unfolding opened zero_marks
opened_nobody_marked lim c = record { arrived = refl; awaited = refl; turn = refl }
