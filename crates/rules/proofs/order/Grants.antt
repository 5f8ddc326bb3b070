-- At each time the accepted acquires of a lock are as many as its releases, its waiters and its holder together. So a processor that has asked and
-- is not served yet, by the count of acquires and releases in the list, stands in line; and the one that a release serves by the count is the holder
-- after it. (That every waiter has asked, and every new holder is served, is in Served.) Rests on Turns and Allowed. Assumes nothing.
use Prim.Native.Nat.{ℕ, zero, suc, ◌+◌, ◌-◌, ◌<◌}
use native.Mathlib.Omega.{arith}
use native.Mathlib.Decide.{ℕ_discrete}
use mathlib.Core.Path.{◌≡◌, refl, sym, ap, ◌∙◌}
use mathlib.Core.Bool.{Bool, true, false, cond}
use mathlib.Core.List.{List}
use lib.ListN.{get_or}
use lib.Dec.{eqb}
use borrow.Author.Tests.{eqb-true, eq-eqb, ne_eqb}
use Rattle.lists.specs.Tables.{total}
use Rattle.lists.proofs.Tables.{get_put, total_zero}
use Rattle.rules.specs.State.{Limits, Counts, Marks, with_holder, State, holder}
use Rattle.rules.specs.Lines.{waits_for, in_line, first_in_line, with_waiter, lock_asked, lock_handed}
use Rattle.rules.specs.Opening.{opened}
use Rattle.rules.specs.Refusals.{Action, Read, Write, Acquire, Release, Arrive, Want, TallyAdd, TallyRead, Enqueue, Dequeue, Unknown, effect}
use Rattle.rules.specs.Order.{Event, Took, counted, is_acquire_of, is_release_of, Serves}
use Rattle.rules.proofs.state.Lines.{waiting, waiting_not}
use Rattle.rules.proofs.state.Waiters.{awaits, holder_in, awake_says, in_line_is, asker_awaits, asker_turn, handed_holder, one_more_waits, one_fewer_waits, nobody_leaves, other_line_asked, other_line_handed}
use Rattle.rules.proofs.inorder.OpenedInOrder.{opened_not_held, opened_nobody_waits}
use Rattle.rules.proofs.order.Timeline.{Timeline, course_of, Moment, Refused, Taken, moment, effect_of, counts_stay}
use Rattle.rules.proofs.order.Counted.{flag, counted_fails, counted_on, counted_never_falls}
use Rattle.rules.proofs.order.ActionKinds.{acquires_lock, releases_lock, took_acquire, took_release, refused_acquire, refused_release}
use Rattle.rules.proofs.order.MarksAfter.{awake_not_waiting, SameLines, line_marks_after, lines_after}
use Rattle.rules.proofs.order.Turns.{StandsAt, place_in_line, served_in_turn}
use Rattle.rules.proofs.order.Allowed.{Allowed, allowed, took_allowed}

-- 1 for a lock that is held
held : Marks → ℕ → ℕ
held m l = cond (eqb (holder_in m l) 0) 0 1

module _ (m : Marks) (l : ℕ) where
  held_not : holder_in m l ≡ 0 → held m l ≡ 0
  unfolding held
  held_not e = rw (eq-eqb (holder_in m l) 0 e)

  held_is : (holder_in m l ≡ 0 → ⊥) → held m l ≡ 1
  unfolding held
  held_is e = rw (ne_eqb (holder_in m l) 0 e)

held_same : (m m' : Marks) (l : ℕ) → holder_in m l ≡ holder_in m' l → held m l ≡ held m' l
unfolding held
held_same m m' l e = rw e

-- those who wait for a lock, and its holder
abbrev taken : ℕ → Marks → ℕ → ℕ
taken n m l = in_line n m l + held m l

taken_same : (n : ℕ) (m m' : Marks) (l : ℕ) → SameLines m m' → taken n m l ≡ taken n m' l
unfolding in_line waits_for held
taken_same n m m' l e =
    ap (λ (w : List ℕ). total n (λ k. cond (eqb (get_or w (suc k) 0) (suc l)) 1 0) + cond (eqb (holder_in m l) 0) 0 1) e.awaited
    ∙ ap (λ (h : List ℕ). total n (λ k. cond (eqb (awaits m' k) (suc l)) 1 0) + cond (eqb (get_or h l 0) 0) 0 1) e.holders

-- ---- one step

-- processor k + 1 asks for lock i
asked_accounts : (n : ℕ) (m : Marks) (i k l : ℕ) → k < n → awaits m k ≡ 0 → taken n (lock_asked n m i (suc k)) l ≡ taken n m l + flag (eqb i l)
unfolding lock_asked
asked_accounts n m i k l b awake = go (eqb (holder_in m i) 0) refl (ℕ_discrete i l)
  where
    m₁ : Marks
    m₁ = with_holder m i (suc k)

    m₂ : Marks
    m₂ = with_waiter m i (suc k) (in_line n m i)

    same_line : in_line n m₁ l ≡ in_line n m l
    same_line = unfold in_line waits_for with_holder in refl

    holder_now : holder_in m₁ l ≡ cond (eqb l i) (suc k) (holder_in m l)
    holder_now = unfold with_holder in get_put 0 m.holders i l (suc k)

    same_held : held m₂ l ≡ held m l
    same_held = held_same m₂ m l (unfold with_waiter in refl)

    go : (x : Bool) → eqb (holder_in m i) 0 ≡ x → Dec (i ≡ l) → taken n (cond x (with_holder m i (suc k)) (with_waiter m i (suc k) (in_line n m i))) l ≡ taken n m l + flag (eqb i l)
    go true e (yes d) =
        let now : holder_in m₁ l ≡ suc k = holder_now ∙ rw (eq-eqb l i (sym d)) in
        let was : holder_in m l ≡ 0 = ap (holder_in m) (sym d) ∙ eqb-true (holder_in m i) 0 e in
        rw (eq-eqb i l d) (omega (arith, same_line, held_is m₁ l (λ z. omega (arith, z, now)), held_not m l was))
    go true e (no d) =
        let now : holder_in m₁ l ≡ holder_in m l = holder_now ∙ rw (ne_eqb l i (λ z. d (sym z))) in
        rw (ne_eqb i l d) (omega (arith, same_line, held_same m₁ m l now))
    go false e (yes d) = rw (eq-eqb i l d) (rw d (omega (arith, one_more_waits n m l k (in_line n m l) b awake, held_same (with_waiter m l (suc k) (in_line n m l)) m l (unfold with_waiter in refl))))
    go false e (no d) = rw (ne_eqb i l d) (omega (arith, other_line_asked n m i k (in_line n m i) l b awake (λ z. d (sym z)), same_held))

-- lock i, which is held, is handed on
handed_accounts : (n : ℕ) (m : Marks) (i l : ℕ) → (holder_in m i ≡ 0 → ⊥) → taken n (lock_handed n m i) l + flag (eqb i l) ≡ taken n m l
handed_accounts n m i l h = go (ℕ_discrete i l)
  where
    m' : Marks
    m' = lock_handed n m i

    by : (q : ℕ) → first_in_line n m l ≡ q → i ≡ l → in_line n (lock_handed n m l) l + held (lock_handed n m l) l + 1 ≡ in_line n m l + 1
    by zero e d = omega (arith, nobody_leaves n m l e l, held_not (lock_handed n m l) l (handed_holder n m l l ∙ rw (eq-eqb l l refl) e))
    by (suc k) e d =
        let now : holder_in (lock_handed n m l) l ≡ suc k = handed_holder n m l l ∙ rw (eq-eqb l l refl) e in
        omega (arith, one_fewer_waits n m l k e, held_is (lock_handed n m l) l (λ z. omega (arith, z, now)))

    go : Dec (i ≡ l) → taken n (lock_handed n m i) l + flag (eqb i l) ≡ taken n m l
    go (yes d) = rw (eq-eqb i l d) (rw d (omega (arith, by (first_in_line n m l) refl d, held_is m l (λ z. h (ap (holder_in m) d ∙ z)))))
    go (no d) =
        rw (ne_eqb i l d)
        (omega (arith, other_line_handed n m i l (λ z. d (sym z)), held_same (lock_handed n m i) m l (handed_holder n m i l ∙ rw (ne_eqb l i (λ z. d (sym z))))))

module _ (n : ℕ) (s : State) (same : s.counts.processors ≡ n) (l : ℕ) where
  asks : (p i : ℕ) → Allowed n s p (Acquire i) → taken n (lock_asked s.counts.processors s.marks i p) l ≡ taken n s.marks l + flag (eqb i l)
  asks zero i al = absurd (omega (arith, al.from))
  asks (suc k) i al = rw same (asked_accounts n s.marks i k l (omega (arith, al.to)) (awake_says s.marks k (awake_not_waiting s (suc k) al.not_resting)))

  -- each acquire of the lock takes it or waits for it, and each release makes one fewer of these
  step_accounts : (p : ℕ) (a : Action) → Allowed n s p a → taken n (line_marks_after s p a) l + flag (releases_lock l a) ≡ taken n s.marks l + flag (acquires_lock l a)
  unfolding line_marks_after releases_lock acquires_lock holder
  step_accounts p (Read x) al = refl
  step_accounts p (Write x v) al = refl
  step_accounts p (Acquire i) al = omega (arith, asks p i al)
  step_accounts p (Release i) al = rw same (omega (arith, handed_accounts n s.marks i l (λ z. omega (arith, z, al.holds i refl, al.from))))
  step_accounts p Arrive al = refl
  step_accounts p Want al = refl
  step_accounts p (TallyAdd j x) al = refl
  step_accounts p (TallyRead j) al = refl
  step_accounts p (Enqueue j) al = refl
  step_accounts p Dequeue al = refl
  step_accounts p Unknown al = refl

-- ---- over time

module _ (lim : Limits) (c : Counts) (es : List Event) (r : Timeline lim c es) (l : ℕ) where
  abbrev acquired : ℕ → ℕ
  acquired t = counted (is_acquire_of l) es t

  abbrev released : ℕ → ℕ
  released t = counted (is_release_of l) es t

  abbrev n : ℕ
  n = c.processors

  processors_are : (t : ℕ) → (r.state t).counts.processors ≡ n
  processors_are t = ap (λ (k : Counts). k.processors) (counts_stay lim c es r t)

  -- at the opening nobody waits, and the lock is free
  pub starts_awake : (k : ℕ) → awaits (r.state 0).marks k ≡ 0
  starts_awake k = ap (λ (s : State). awaits s.marks k) r.starts ∙ (unfold opened in opened_nobody_waits lim c (suc k))

  pub starts_free : holder_in (r.state 0).marks l ≡ 0
  starts_free = ap (λ (s : State). holder_in s.marks l) r.starts ∙ (unfold holder in opened_not_held lim c l)

  -- the accepted acquires of the lock are its releases, its waiters and its holder
  account : (t : ℕ) → acquired t ≡ released t + taken n (r.state t).marks l
  unfolding counted
  account zero =
      let nobody : total n (waiting (awaits (r.state 0).marks) l) ≡ 0 =
      total_zero n (waiting (awaits (r.state 0).marks) l) (λ k b. waiting_not (awaits (r.state 0).marks) l k (λ e. omega (arith, e, starts_awake k))) in
      omega (arith, in_line_is n (r.state 0).marks l, nobody, held_not (r.state 0).marks l starts_free)
  account (suc t) = go (moment lim c es r t) (account t)
    where
      go : Moment lim es t (r.state t) (r.state (suc t)) → acquired t ≡ released t + taken n (r.state t).marks l → acquired (suc t) ≡ released (suc t) + taken n (r.state (suc t)).marks l
      go (Refused e k) ih =
          rw k (omega (arith, ih, counted_fails (is_acquire_of l) es t (refused_acquire es t l e), counted_fails (is_release_of l) es t (refused_release es t l e)))
      go (Taken p a took acc k) ih =
          omega (
            arith,
            ih,
            counted_on (is_acquire_of l) es t (acquires_lock l a) (took_acquire es t l p a took),
            counted_on (is_release_of l) es t (releases_lock l a) (took_release es t l p a took),
            step_accounts n (r.state t) (processors_are t) l p a (allowed lim c es r t p a took acc),
            taken_same n (effect lim (r.state t) p a).after.marks (line_marks_after (r.state t) p a) l (lines_after lim (r.state t) p a),
            ap (λ (s : State). taken n s.marks l) k,
          )

  -- no line at a free lock
  free_no_line : (t : ℕ) → holder_in (r.state t).marks l ≡ 0 → in_line n (r.state t).marks l ≡ 0
  free_no_line t e =
      in_line_is n (r.state t).marks l
      ∙ total_zero n (waiting (awaits (r.state t).marks) l)
      (λ k b. waiting_not (awaits (r.state t).marks) l k (λ z. (r.ordered t).lines.for_held k l (rw (processors_are t) b) z e))

  -- a free lock has as many accepted acquires as releases
  pub free_account : (t : ℕ) → holder_in (r.state t).marks l ≡ 0 → acquired t ≡ released t
  free_account t e = omega (arith, account t, free_no_line t e, held_not (r.state t).marks l e)

  -- one that is held has an acquire more for its holder and for each in its line
  pub held_account : (t : ℕ) → (holder_in (r.state t).marks l ≡ 0 → ⊥) → acquired t ≡ released t + 1 + in_line n (r.state t).marks l
  held_account t h = omega (arith, account t, held_is (r.state t).marks l h)

  -- an acquire of a held lock waits behind those in line
  pub waits_behind : (a k : ℕ) → Took es a (suc k) (Acquire l) → (holder_in (r.state a).marks l ≡ 0 → ⊥) → StandsAt (r.state (suc a)).marks l k (in_line n (r.state a).marks l)
  unfolding line_marks_after lock_asked
  waits_behind a k took h =
      rw (effect_of lim es r.state (course_of lim c es r) a (suc k) (Acquire l) took)
      (record {
        for_lock = ap (λ (w : List ℕ). get_or w (suc k) 0) (lines_after lim (r.state a) (suc k) (Acquire l)).awaited ∙ rw (ne_eqb (holder_in (r.state a).marks l) 0 h, processors_are a) (asker_awaits n (r.state a).marks l k (in_line n (r.state a).marks l));
        turn = ap (λ (w : List ℕ). get_or w (suc k) 0) (lines_after lim (r.state a) (suc k) (Acquire l)).turns ∙ rw (ne_eqb (holder_in (r.state a).marks l) 0 h, processors_are a) (asker_turn n (r.state a).marks l k (in_line n (r.state a).marks l));
      })

  -- who has asked, and is not served yet by the count, stands in line behind those who asked before it and are not served either
  pub unserved_stands : (a k t : ℕ) → Took es a (suc k) (Acquire l) → a < t → released t < acquired a → StandsAt (r.state t).marks l k (acquired a - released t - 1)
  unserved_stands a k t took later few = rw (← place) (place_in_line lim es r.state (course_of lim c es r) l k (suc a) x (waits_behind a k took h) t later (omega (arith, few, held_account a h, kept)))
    where
      x : ℕ
      x = in_line n (r.state a).marks l

      kept : released (suc a) ≡ released a
      kept = counted_fails (is_release_of l) es a (took_release es a l (suc k) (Acquire l) took ∙ (unfold releases_lock in refl))

      h : holder_in (r.state a).marks l ≡ 0 → ⊥
      h e = omega (arith, few, free_account a e, counted_never_falls (is_release_of l) es a t (omega (arith, later)))

      place : released (suc a) + x - released t ≡ acquired a - released t - 1
      place = omega (arith, held_account a h, kept)

  -- the processor that a release serves is the holder after it
  pub served_holds : (i p a q : ℕ) → Serves es l i p a q → holder (r.state (suc i)) l ≡ q
  served_holds i p a zero s = absurd (omega (arith, (took_allowed lim c es r a zero (Acquire l) s.acquire).from))
  served_holds i p a (suc k) s =
      served_in_turn lim es r.state (course_of lim c es r) l k i (acquired a - released i - 1) (unserved_stands a k i s.acquire s.waited (omega (arith, s.next)))
      (rw (processors_are 0) (took_allowed lim c es r a (suc k) (Acquire l) s.acquire).to) i p (omega arith) s.release (omega (arith, s.next))
