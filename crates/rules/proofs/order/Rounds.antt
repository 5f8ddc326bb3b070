-- The arrived marks are the open group of arrivals, so a round is completed in the state when it is completed in the count. Rests on
-- OpenedInOrder, ActionKinds, MarksAfter and Allowed. Assumes nothing.
use Prim.Native.Nat.{ℕ, zero, suc, ◌+◌, ◌≤◌}
use native.Mathlib.Omega.{arith}
use mathlib.Core.Path.{◌≡◌, refl, sym, ap, ◌∙◌}
use mathlib.Core.Bool.{Bool, true, false, cond, ◌&&◌}
use mathlib.Core.List.{List}
use lib.Dec.{eqb}
use borrow.Author.Tests.{eqb-true, eqb-false, eq-eqb, ne_eqb}
use Rattle.lists.specs.Tables.{every, total}
use Rattle.lists.proofs.Tables.{total_same, total_zero, total_change}
use Rattle.rules.specs.State.{Limits, Counts, State, has_arrived}
use Rattle.rules.specs.Close.{closed}
use Rattle.rules.specs.Steps.{at_barrier, all_arrived}
use Rattle.rules.specs.Refusals.{Action, Read, Write, Acquire, Release, Arrive, Want, TallyAdd, TallyRead, Enqueue, Dequeue, Unknown, effect}
use Rattle.rules.specs.Order.{Event, event_at, Took, is_arrival, Groups, counted_off, groups_before, rounds}
use Rattle.rules.proofs.inorder.OpenedInOrder.{opened_not_arrived}
use Rattle.rules.proofs.order.Timeline.{Timeline, Moment, Refused, Taken, moment, counts_stay}
use Rattle.rules.proofs.order.Ghosts.{completes}
use Rattle.rules.proofs.order.ActionKinds.{arrives_by, took_arrival, refused_arrival}
use Rattle.rules.proofs.order.MarksAfter.{arrived_at_barrier, awake_not_arrived, arrived_after, arrived_after_lem}
use Rattle.rules.proofs.order.Allowed.{Allowed, allowed, took_allowed}

-- ---- tests counted

tests_at_most : (n : ℕ) (t : ℕ → Bool) → total n (λ k. cond (t k) 1 0) ≤ n
unfolding total
tests_at_most zero t = omega arith
tests_at_most (suc n) t = go (t n) (tests_at_most n t)
  where
    go : (b : Bool) → total n (λ k. cond (t k) 1 0) ≤ n → total n (λ k. cond (t k) 1 0) + cond b 1 0 ≤ suc n
    go true h = omega arith
    go false h = omega arith

-- every test passes when as many pass as there are
every_counts : (n : ℕ) (t : ℕ → Bool) → every n t ≡ eqb (total n (λ k. cond (t k) 1 0)) n
unfolding every total
every_counts zero t = refl
every_counts (suc n) t = go (every n t) (t n) refl (every_counts n t) (tests_at_most n t)
  where
    go : (a b : Bool) → every n t ≡ a → every n t ≡ eqb (total n (λ k. cond (t k) 1 0)) n → total n (λ k. cond (t k) 1 0) ≤ n
        → (a && b) ≡ eqb (total n (λ k. cond (t k) 1 0) + cond b 1 0) (suc n)
    go true true e ih h =
        sym (eq-eqb (total n (λ k. cond (t k) 1 0) + 1) (suc n) (omega (arith, eqb-true (total n (λ k. cond (t k) 1 0)) n (sym ih ∙ e))))
    go false true e ih h =
        sym (ne_eqb (total n (λ k. cond (t k) 1 0) + 1) (suc n) (λ z. eqb-false (total n (λ k. cond (t k) 1 0)) n (sym ih ∙ e) (omega (arith, z))))
    go true false e ih h = sym (ne_eqb (total n (λ k. cond (t k) 1 0) + 0) (suc n) (λ z. omega (arith, z, h)))
    go false false e ih h = sym (ne_eqb (total n (λ k. cond (t k) 1 0) + 0) (suc n) (λ z. omega (arith, z, h)))

-- ---- the marks counted

-- how many of n processors have arrived
unfoldable pub arrivals : ℕ → State → ℕ
arrivals n s = total n (λ k. cond (has_arrived s (suc k)) 1 0)

arrivals_at_barrier : (n : ℕ) (s : State) (p : ℕ) → 1 ≤ p → p ≤ n → has_arrived s p ≡ false → arrivals n (at_barrier s p) ≡ arrivals n s + 1
unfolding arrivals
arrivals_at_barrier n s zero from to e = absurd (omega (arith, from))
arrivals_at_barrier n s (suc i) from to e =
    omega (arith, own, was, total_change n (λ k. cond (has_arrived (at_barrier s (suc i)) (suc k)) 1 0) (λ k. cond (has_arrived s (suc k)) 1 0) i (omega (arith, to)) other)
  where
    own : cond {A = ℕ} (has_arrived (at_barrier s (suc i)) (suc i)) 1 0 ≡ 1
    own = rw (arrived_at_barrier s (suc i) (suc i), eq-eqb (suc i) (suc i) refl)

    was : cond {A = ℕ} (has_arrived s (suc i)) 1 0 ≡ 0
    was = rw e

    other : (k : ℕ) → (k ≡ i → ⊥) → cond {A = ℕ} (has_arrived (at_barrier s (suc i)) (suc k)) 1 0 ≡ cond (has_arrived s (suc k)) 1 0
    other k h = rw (arrived_at_barrier s (suc i) (suc k), ne_eqb (suc k) (suc i) (λ z. h (omega (arith, z))))

-- an arrival completes the round when it is the last of the n
pub completes_counts : (s : State) (p : ℕ) → 1 ≤ p → p ≤ s.counts.processors → has_arrived s p ≡ false
    → completes s p ≡ eqb (arrivals s.counts.processors s + 1) s.counts.processors
unfolding completes all_arrived arrivals at_barrier closed
completes_counts s p from to e =
    every_counts s.counts.processors (λ k. has_arrived (at_barrier s p) (suc k))
    ∙ ap (λ (x : ℕ). eqb x s.counts.processors) (arrivals_at_barrier s.counts.processors s p from to e)

-- the marks after a step
arrivals_same : (n : ℕ) (s s' : State) → ((q : ℕ) → has_arrived s' q ≡ has_arrived s q) → arrivals n s' ≡ arrivals n s
unfolding arrivals
arrivals_same n s s' h = total_same n (λ k. cond (has_arrived s' (suc k)) 1 0) (λ k. cond (has_arrived s (suc k)) 1 0) (λ k l. rw (h (suc k)))

arrivals_none : (n : ℕ) (s : State) → ((q : ℕ) → has_arrived s q ≡ false) → arrivals n s ≡ 0
unfolding arrivals
arrivals_none n s h = total_zero n (λ k. cond (has_arrived s (suc k)) 1 0) (λ k l. rw (h (suc k)))

arrivals_arrive : (n : ℕ) (lim : Limits) (s : State) (p : ℕ) → Allowed n s p Arrive
    → arrivals n (effect lim s p Arrive).after ≡ cond (completes s p) 0 (arrivals n s + 1)
unfolding arrived_after
arrivals_arrive n lim s p al = go (completes s p) (arrived_after_lem lim s p Arrive)
  where
    go : (b : Bool) → ((q : ℕ) → has_arrived (effect lim s p Arrive).after q ≡ cond b false (cond (eqb q p) true (has_arrived s q)))
        → arrivals n (effect lim s p Arrive).after ≡ cond b 0 (arrivals n s + 1)
    go true h = arrivals_none n (effect lim s p Arrive).after h
    go false h =
        arrivals_same n (at_barrier s p) (effect lim s p Arrive).after (λ q. h q ∙ sym (arrived_at_barrier s p q))
        ∙ arrivals_at_barrier n s p al.from al.to (awake_not_arrived s p al.not_resting)

arrivals_after : (n : ℕ) (lim : Limits) (s : State) (p : ℕ) (a : Action) → Allowed n s p a
    → arrivals n (effect lim s p a).after ≡ cond (arrives_by a) (cond (completes s p) 0 (arrivals n s + 1)) (arrivals n s)
unfolding arrives_by arrived_after
arrivals_after n lim s p (Read x) al = arrivals_same n s (effect lim s p (Read x)).after (arrived_after_lem lim s p (Read x))
arrivals_after n lim s p (Write x v) al = arrivals_same n s (effect lim s p (Write x v)).after (arrived_after_lem lim s p (Write x v))
arrivals_after n lim s p (Acquire l) al = arrivals_same n s (effect lim s p (Acquire l)).after (arrived_after_lem lim s p (Acquire l))
arrivals_after n lim s p (Release l) al = arrivals_same n s (effect lim s p (Release l)).after (arrived_after_lem lim s p (Release l))
arrivals_after n lim s p Arrive al = arrivals_arrive n lim s p al
arrivals_after n lim s p Want al = arrivals_same n s (effect lim s p Want).after (arrived_after_lem lim s p Want)
arrivals_after n lim s p (TallyAdd j x) al = arrivals_same n s (effect lim s p (TallyAdd j x)).after (arrived_after_lem lim s p (TallyAdd j x))
arrivals_after n lim s p (TallyRead j) al = arrivals_same n s (effect lim s p (TallyRead j)).after (arrived_after_lem lim s p (TallyRead j))
arrivals_after n lim s p (Enqueue j) al = arrivals_same n s (effect lim s p (Enqueue j)).after (arrived_after_lem lim s p (Enqueue j))
arrivals_after n lim s p Dequeue al = arrivals_same n s (effect lim s p Dequeue).after (arrived_after_lem lim s p Dequeue)
arrivals_after n lim s p Unknown al = arrivals_same n s (effect lim s p Unknown).after (arrived_after_lem lim s p Unknown)

-- ---- the groups

module _ (n : ℕ) (es : List Event) (t : ℕ) where
  waiting_after : (groups_before n es (suc t)).waiting
      ≡ cond (is_arrival (event_at es t)) (cond (eqb ((groups_before n es t).waiting + 1) n) 0 ((groups_before n es t).waiting + 1)) (groups_before n es t).waiting
  unfolding groups_before counted_off
  waiting_after = go (is_arrival (event_at es t)) (eqb ((groups_before n es t).waiting + 1) n) (groups_before n es t)
    where
      go : (a b : Bool) (g : Groups)
          → (cond {A = Groups} a (cond b (record { full = g.full + 1; waiting = 0 }) (record { full = g.full; waiting = g.waiting + 1 })) g).waiting
          ≡ cond a (cond b 0 (g.waiting + 1)) g.waiting
      go true true g = refl
      go true false g = refl
      go false b g = refl

  rounds_after : rounds n es (suc t)
      ≡ cond (is_arrival (event_at es t)) (cond (eqb ((groups_before n es t).waiting + 1) n) (rounds n es t + 1) (rounds n es t)) (rounds n es t)
  unfolding rounds groups_before counted_off
  rounds_after = go (is_arrival (event_at es t)) (eqb ((groups_before n es t).waiting + 1) n) (groups_before n es t)
    where
      go : (a b : Bool) (g : Groups)
          → (cond {A = Groups} a (cond b (record { full = g.full + 1; waiting = 0 }) (record { full = g.full; waiting = g.waiting + 1 })) g).full
          ≡ cond a (cond b (g.full + 1) g.full) g.full
      go true true g = refl
      go true false g = refl
      go false b g = refl

-- ---- the run

module _ (lim : Limits) (c : Counts) (es : List Event) (r : Timeline lim c es) where
  completes_at : (t p : ℕ) (a : Action) → Allowed c.processors (r.state t) p a
      → completes (r.state t) p ≡ eqb (arrivals c.processors (r.state t) + 1) c.processors
  completes_at t p a al =
      let e : (r.state t).counts.processors ≡ c.processors = ap (λ (k : Counts). k.processors) (counts_stay lim c es r t) in
      rw (← e) (completes_counts (r.state t) p al.from (rw e al.to) (awake_not_arrived (r.state t) p al.not_resting))

  -- the marks are the open group
  pub marks_are_waiting : (t : ℕ) → arrivals c.processors (r.state t) ≡ (groups_before c.processors es t).waiting
  unfolding groups_before
  marks_are_waiting zero = arrivals_none c.processors (r.state 0) (λ q. rw r.starts (opened_not_arrived lim c q))
  marks_are_waiting (suc t) = waiting (moment lim c es r t) (marks_are_waiting t) ∙ sym (waiting_after c.processors es t)
    where
      waiting : Moment lim es t (r.state t) (r.state (suc t)) → arrivals c.processors (r.state t) ≡ (groups_before c.processors es t).waiting
          → arrivals c.processors (r.state (suc t))
          ≡ cond (is_arrival (event_at es t))
          (cond (eqb ((groups_before c.processors es t).waiting + 1) c.processors) 0 ((groups_before c.processors es t).waiting + 1))
          (groups_before c.processors es t).waiting
      waiting (Refused e k) ih = rw (k, refused_arrival es t e) ih
      waiting (Taken p a took acc k) ih =
          let al : Allowed c.processors (r.state t) p a = allowed lim c es r t p a took acc in
          rw (k, took_arrival es t p a took, ← ih, ← completes_at t p a al) (arrivals_after c.processors lim (r.state t) p a al)

  -- an accepted arrival completes the round when it fills its group
  pub completes_when_full : (t p : ℕ) (a : Action) → Took es t p a
      → completes (r.state t) p ≡ eqb ((groups_before c.processors es t).waiting + 1) c.processors
  completes_when_full t p a took =
      completes_at t p a (took_allowed lim c es r t p a took) ∙ ap (λ (x : ℕ). eqb (x + 1) c.processors) (marks_are_waiting t)

  -- so the rounds rise by one exactly then
  pub rounds_after_step : (t p : ℕ) (a : Action) → Took es t p a
      → rounds c.processors es (suc t)
      ≡ cond (arrives_by a) (cond (completes (r.state t) p) (rounds c.processors es t + 1) (rounds c.processors es t)) (rounds c.processors es t)
  rounds_after_step t p a took = rw (completes_when_full t p a took, ← took_arrival es t p a took) (rounds_after c.processors es t)

  -- nor does a refused step
  pub rounds_after_refusal : (t : ℕ) → (event_at es t).accepted ≡ false → rounds c.processors es (suc t) ≡ rounds c.processors es t
  rounds_after_refusal t e = rounds_after c.processors es t ∙ (rw (refused_arrival es t e))
