-- Who waits for a lock or holds it has asked for it, and its acquire has the number that its place says: with m accepted releases of the lock so far, the
-- holder's acquire has m others before it, and that of the waiter with x waiters before it m + 1 + x. So whoever holds a lock after its release is
-- the one whom the release serves by the count, and who waits is known from the list: the converse of Grants, on which it rests. Assumes nothing.
use Prim.Native.Nat.{ℕ, zero, suc, ◌+◌, ◌≤◌, ◌<◌}
use native.Mathlib.Omega.{arith}
use native.Mathlib.Decide.{ℕ_discrete}
use mathlib.Core.Path.{◌≡◌, refl, sym, ap, ◌∙◌}
use mathlib.Core.Bool.{Bool, true, false, cond, ◌&&◌, false≢true}
use mathlib.Core.List.{List}
use lib.Dec.{eqb}
use borrow.Author.Tests.{eqb-true, eqb-false, eq-eqb, ne_eqb}
use Rattle.rules.specs.State.{Limits, Counts, Marks, with_holder, State, holder}
use Rattle.rules.specs.Lines.{waits, in_line, first_in_line, with_waiter, lock_asked, lock_handed}
use Rattle.rules.specs.InOrder.{present}
use Rattle.rules.specs.Refusals.{Action, Read, Write, Acquire, Release, Arrive, Want, TallyAdd, TallyRead, Enqueue, Dequeue, Unknown, action_of, effect}
use Rattle.rules.specs.Order.{Event, event_at, Took, counted, is_acquire_of, is_release_of}
use Rattle.rules.specs.Waiting.{HandsTo, HasLock, StillWaits}
use Rattle.rules.proofs.state.Waiters.{awaits, turn_at, holder_in, waiter_waits, found_stands, stands_found, asked_awaits, asked_turn, asked_holder, asked_others, handed_holder, waits_on, waits_no_more, moves_up, stands_still}
use Rattle.rules.proofs.inorder.Facts.{InOrder}
use Rattle.rules.proofs.inorder.Accepted.{present_says}
use Rattle.rules.proofs.order.Timeline.{Timeline, Moment, Refused, Taken, moment, counts_stay}
use Rattle.rules.proofs.order.Counted.{flag, counted_fails, counted_on}
use Rattle.rules.proofs.order.ActionKinds.{releases_lock, release_no_acquire, took_release, refused_release}
use Rattle.rules.proofs.order.MarksAfter.{line_marks_after, holder_after, awaits_after, turn_after_lem}
use Rattle.rules.proofs.order.Allowed.{took_allowed}
use Rattle.rules.proofs.order.Grants.{starts_awake, starts_free, free_account, held_account, unserved_stands}

-- ---- one step: where a waiter and a holder come from

-- processor k + 1 waits for lock l with x waiters before it after the step: it has just asked, or it waited before, and has moved up by a release
data WaitsBy (s : State) (p : ℕ) (a : Action) (l k x : ℕ) : Type 0 where
  Asks : p ≡ suc k → a ≡ Acquire l → (holder_in s.marks l ≡ 0 → ⊥) → x ≡ in_line s.counts.processors s.marks l → WaitsBy s p a l k x
  Waited : awaits s.marks k ≡ suc l → turn_at s.marks k ≡ x + flag (releases_lock l a) → WaitsBy s p a l k x

-- it holds the lock after the step: it has just taken it, it held it before, or it was first in line at a release
data HoldsBy (s : State) (p : ℕ) (a : Action) (l k : ℕ) : Type 0 where
  Takes : p ≡ suc k → a ≡ Acquire l → holder_in s.marks l ≡ 0 → HoldsBy s p a l k
  Held : holder_in s.marks l ≡ suc k → releases_lock l a ≡ false → HoldsBy s p a l k
  WasFirst : awaits s.marks k ≡ suc l → turn_at s.marks k ≡ 0 → releases_lock l a ≡ true → HoldsBy s p a l k

module _ (lim : Limits) (s : State) (o : InOrder lim s) where
  -- who waits is present
  waiter_present : (k l : ℕ) → awaits s.marks k ≡ suc l → k < s.counts.processors
  waiter_present k l e = go (present s (suc k)) refl
    where
      go : (b : Bool) → present s (suc k) ≡ b → k < s.counts.processors
      go true h = omega (arith, (present_says s (suc k) h).1)
      go false h = absurd (false≢true (sym (o.absent_awake (suc k) (omega arith) h) ∙ waiter_waits s.marks k l e))

  module _ (p l k : ℕ) where
    -- a waiter when lock i is asked for, and when it is handed on
    asked_waits : (i : ℕ) → awaits (lock_asked s.counts.processors s.marks i p) k ≡ suc l → WaitsBy s p (Acquire i) l k (turn_at (lock_asked s.counts.processors s.marks i p) k)
    unfolding lock_asked releases_lock with_holder
    asked_waits i e = go (ℕ_discrete p (suc k))
      where
        n : ℕ
        n = s.counts.processors

        mine : p ≡ suc k → (b : Bool) → eqb (holder_in s.marks i) 0 ≡ b
            → awaits (cond b (with_holder s.marks i p) (with_waiter s.marks i p (in_line n s.marks i))) k ≡ suc l
            → WaitsBy s p (Acquire i) l k (turn_at (cond b (with_holder s.marks i p) (with_waiter s.marks i p (in_line n s.marks i))) k)
        mine d true h e = Waited e (omega arith)
        mine d false h e =
            let now : awaits (with_waiter s.marks i p (in_line n s.marks i)) k ≡ suc i = asked_awaits s.marks i p (in_line n s.marks i) k ∙ rw (eq-eqb (suc k) p (sym d)) in
            let same : i ≡ l = omega (arith, e, now) in
            Asks d (ap Acquire same) (λ z. eqb-false (holder_in s.marks i) 0 h (ap (holder_in s.marks) same ∙ z))
            (asked_turn s.marks i p (in_line n s.marks i) k ∙ rw (eq-eqb (suc k) p (sym d)) (ap (in_line n s.marks) same))

        go : Dec (p ≡ suc k) → WaitsBy s p (Acquire i) l k (turn_at (lock_asked n s.marks i p) k)
        go (yes d) = mine d (eqb (holder_in s.marks i) 0) refl e
        go (no d) =
            let same = asked_others n s.marks i p k d in
            Waited (sym same.0 ∙ e) (omega (arith, same.1))

    handed_waits : (i : ℕ) → awaits (lock_handed s.counts.processors s.marks i) k ≡ suc l → WaitsBy s p (Release i) l k (turn_at (lock_handed s.counts.processors s.marks i) k)
    unfolding releases_lock first_in_line
    handed_waits i e = go (ℕ_discrete (first_in_line n s.marks i) (suc k))
      where
        n : ℕ
        n = s.counts.processors

        m' : Marks
        m' = lock_handed n s.marks i

        by : (first_in_line n s.marks i ≡ suc k → ⊥) → awaits s.marks k ≡ suc l → Dec (i ≡ l) → WaitsBy s p (Release i) l k (turn_at m' k)
        by z w (yes d) =
            let here : awaits s.marks k ≡ suc i = w ∙ ap suc (sym d) in
            let behind : turn_at s.marks k ≡ 0 → ⊥ = λ y. z (stands_found n s.marks i o.lines.lines 0 k (waiter_present k l w) here y) in
            Waited w (rw (eq-eqb i l d) (omega (arith, moves_up n s.marks i k here, behind)))
        by z w (no d) = Waited w (rw (ne_eqb i l d) (omega (arith, stands_still n s.marks i k (λ y. d (omega (arith, y, w))))))

        go : Dec (first_in_line n s.marks i ≡ suc k) → WaitsBy s p (Release i) l k (turn_at m' k)
        go (yes z) = absurd (omega (arith, e, waits_no_more n s.marks i k z))
        go (no z) = by z (sym (waits_on n s.marks i k z) ∙ e) (ℕ_discrete i l)

    -- a waiter after any step
    waits_by : (a : Action) → awaits (line_marks_after s p a) k ≡ suc l → WaitsBy s p a l k (turn_at (line_marks_after s p a) k)
    unfolding line_marks_after releases_lock
    waits_by (Read x) e = Waited e (omega arith)
    waits_by (Write x v) e = Waited e (omega arith)
    waits_by (Acquire i) e = asked_waits i e
    waits_by (Release i) e = handed_waits i e
    waits_by Arrive e = Waited e (omega arith)
    waits_by Want e = Waited e (omega arith)
    waits_by (TallyAdd j x) e = Waited e (omega arith)
    waits_by (TallyRead j) e = Waited e (omega arith)
    waits_by (Enqueue v) e = Waited e (omega arith)
    waits_by Dequeue e = Waited e (omega arith)
    waits_by Unknown e = Waited e (omega arith)

    -- a holder when lock i is asked for, and when it is handed on
    asked_holds : (i : ℕ) → holder_in (lock_asked s.counts.processors s.marks i p) l ≡ suc k → HoldsBy s p (Acquire i) l k
    unfolding releases_lock
    asked_holds i e = go (eqb (holder_in s.marks i) 0) (eqb l i) refl refl (sym (asked_holder s.counts.processors s.marks i p l) ∙ e)
      where
        go : (b c : Bool) → eqb (holder_in s.marks i) 0 ≡ b → eqb l i ≡ c → cond (b && c) p (holder_in s.marks l) ≡ suc k → HoldsBy s p (Acquire i) l k
        go true true h d e =
            let same : l ≡ i = eqb-true l i d in
            Takes e (ap Acquire (sym same)) (ap (holder_in s.marks) same ∙ eqb-true (holder_in s.marks i) 0 h)
        go true false h d e = Held e refl
        go false c h d e = Held e refl

    handed_holds : (i : ℕ) → holder_in (lock_handed s.counts.processors s.marks i) l ≡ suc k → HoldsBy s p (Release i) l k
    unfolding releases_lock first_in_line
    handed_holds i e = go (eqb l i) refl (sym (handed_holder s.counts.processors s.marks i l) ∙ e)
      where
        go : (b : Bool) → eqb l i ≡ b → cond b (first_in_line s.counts.processors s.marks i) (holder_in s.marks l) ≡ suc k → HoldsBy s p (Release i) l k
        go true d e =
            let same : l ≡ i = eqb-true l i d in
            let first = found_stands s.counts.processors s.marks i 0 k e in
            WasFirst (first.1 ∙ ap suc (sym same)) first.2 (eq-eqb i l (sym same))
        go false d e = Held e (ne_eqb i l (λ z. eqb-false l i d (sym z)))

    -- a holder after any step
    holds_by : (a : Action) → holder_in (line_marks_after s p a) l ≡ suc k → HoldsBy s p a l k
    unfolding line_marks_after releases_lock
    holds_by (Read x) e = Held e refl
    holds_by (Write x v) e = Held e refl
    holds_by (Acquire i) e = asked_holds i e
    holds_by (Release i) e = handed_holds i e
    holds_by Arrive e = Held e refl
    holds_by Want e = Held e refl
    holds_by (TallyAdd j x) e = Held e refl
    holds_by (TallyRead j) e = Held e refl
    holds_by (Enqueue v) e = Held e refl
    holds_by Dequeue e = Held e refl
    holds_by Unknown e = Held e refl

-- ---- over time

-- processor p has asked for lock l before time t, by an accepted acquire that has y others before it
pub record Asked (es : List Event) (l p t y : ℕ) : Type 0 where
  pub place : ℕ
  pub acquire : Took es place p (Acquire l)
  pub earlier : place < t
  pub number : counted (is_acquire_of l) es place ≡ y

-- and so it has at the next time
asked_on : (es : List Event) (l p t y x : ℕ) → Asked es l p t y → y ≡ x → Asked es l p (suc t) x
asked_on es l p t y x h e = record { place = h.place; acquire = h.acquire; earlier = omega (arith, h.earlier); number = h.number ∙ e }

module _ (lim : Limits) (c : Counts) (es : List Event) (r : Timeline lim c es) (l : ℕ) where
  abbrev acquired : ℕ → ℕ
  acquired t = counted (is_acquire_of l) es t

  abbrev released : ℕ → ℕ
  released t = counted (is_release_of l) es t

  -- what is claimed at time t: the waiters and the holder have asked, in the order of their places
  record AskedInTurn (t : ℕ) : Type 0 where
    waiting : (k : ℕ) → awaits (r.state t).marks k ≡ suc l → Asked es l (suc k) t (released t + 1 + turn_at (r.state t).marks k)
    holding : (k : ℕ) → holder_in (r.state t).marks l ≡ suc k → Asked es l (suc k) t (released t)

  -- who asks has asked at the next time
  asks_now : (t p k : ℕ) (a : Action) (y : ℕ) → Took es t p a → p ≡ suc k → a ≡ Acquire l → acquired t ≡ y → Asked es l (suc k) (suc t) y
  asks_now t p k a y took d e z =
      record { place = t; acquire = record { accepted = took.accepted; processor = took.processor ∙ d; action = took.action ∙ e }; earlier = omega arith; number = z }

  -- after a step that was taken
  taken_on : (t p : ℕ) (a : Action) → Took es t p a → r.state (suc t) ≡ (effect lim (r.state t) p a).after → AskedInTurn t → AskedInTurn (suc t)
  unfolding releases_lock holder
  taken_on t p a took z ih =
      record {
        waiting = λ k w.
            let by = waits_by lim (r.state t) (r.ordered t) p l k a (sym (awaits_after lim (r.state t) p a k) ∙ ap (λ (s : State). awaits s.marks k) (sym z) ∙ w) in
            from_waits k (turn_at (line_marks_after (r.state t) p a) k) (sym (turn_after_lem lim (r.state t) p a k) ∙ ap (λ (s : State). turn_at s.marks k) (sym z)) by;
        holding = λ k w. from_holds k (holds_by lim (r.state t) (r.ordered t) p l k a (sym (holder_after lim (r.state t) p a l) ∙ ap (λ (s : State). holder s l) (sym z) ∙ w));
      }
    where
      on : released (suc t) ≡ released t + flag (releases_lock l a)
      on = counted_on (is_release_of l) es t (releases_lock l a) (took_release es t l p a took)

      kept : a ≡ Acquire l → released (suc t) ≡ released t
      kept e = on ∙ rw e (omega arith)

      processors_are : (r.state t).counts.processors ≡ c.processors
      processors_are = ap (λ (k : Counts). k.processors) (counts_stay lim c es r t)

      from_waits : (k x : ℕ) → x ≡ turn_at (r.state (suc t)).marks k → WaitsBy (r.state t) p a l k x → Asked es l (suc k) (suc t) (released (suc t) + 1 + turn_at (r.state (suc t)).marks k)
      from_waits k x now (Asks d e h behind) =
          asks_now t p k a (released (suc t) + 1 + turn_at (r.state (suc t)).marks k) took d e
          (omega (arith, held_account lim c es r l t h, kept e, now, behind, ap (λ (n : ℕ). in_line n (r.state t).marks l) processors_are))
      from_waits k x now (Waited w turn) =
          asked_on es l (suc k) t (released t + 1 + turn_at (r.state t).marks k) (released (suc t) + 1 + turn_at (r.state (suc t)).marks k) (ih.waiting k w) (omega (arith, on, now, turn))

      from_holds : (k : ℕ) → HoldsBy (r.state t) p a l k → Asked es l (suc k) (suc t) (released (suc t))
      from_holds k (Takes d e free) = asks_now t p k a (released (suc t)) took d e (free_account lim c es r l t free ∙ sym (kept e))
      from_holds k (Held h e) = asked_on es l (suc k) t (released t) (released (suc t)) (ih.holding k h) (sym (on ∙ rw e (omega arith)))
      from_holds k (WasFirst w first e) =
          let one : released (suc t) ≡ released t + 1 = on ∙ rw e in
          asked_on es l (suc k) t (released t + 1 + turn_at (r.state t).marks k) (released (suc t)) (ih.waiting k w) (omega (arith, first, one))

  -- so it is at every time
  asked_in_turn : (t : ℕ) → AskedInTurn t
  asked_in_turn zero = record { waiting = λ k w. absurd (omega (arith, w, starts_awake lim c es r l k)); holding = λ k w. absurd (omega (arith, w, starts_free lim c es r l)) }
  asked_in_turn (suc t) = go (moment lim c es r t) (asked_in_turn t)
    where
      go : Moment lim es t (r.state t) (r.state (suc t)) → AskedInTurn t → AskedInTurn (suc t)
      go (Refused e z) ih =
          let kept : released (suc t) ≡ released t = counted_fails (is_release_of l) es t (refused_release es t l e) in
          record {
            waiting = λ k w.
                asked_on es l (suc k) t (released t + 1 + turn_at (r.state t).marks k) (released (suc t) + 1 + turn_at (r.state (suc t)).marks k)
                (ih.waiting k (ap (λ (s : State). awaits s.marks k) (sym z) ∙ w)) (rw (kept, z));
            holding = λ k w. asked_on es l (suc k) t (released t) (released (suc t)) (ih.holding k (ap (λ (s : State). holder_in s.marks l) (sym z) ∙ w)) (sym kept);
          }
      go (Taken p a took acc z) ih = taken_on t p a took z ih

  -- whoever waits has asked, with the acquires served, the holder's and one for each waiter before it in front of its own
  pub waiter_asked : (t k : ℕ) → awaits (r.state t).marks k ≡ suc l → Asked es l (suc k) t (released t + 1 + turn_at (r.state t).marks k)
  waiter_asked t k w = (asked_in_turn t).waiting k w

  -- so by the list it still waits
  pub waiter_still_waits : (t k : ℕ) → awaits (r.state t).marks k ≡ suc l → StillWaits es l (suc k) t
  waiter_still_waits t k w =
      let h = waiter_asked t k w in
      record { place = h.place; acquire = h.acquire; asked = h.earlier; unserved = omega (arith, h.number) }

  -- whoever holds the lock has it by the list
  pub holder_has_lock : (t q : ℕ) → 1 ≤ q → holder (r.state t) l ≡ q → HasLock es l q t
  unfolding holder
  holder_has_lock t zero from w = absurd (omega (arith, from))
  holder_has_lock t (suc k) from w =
      let h = (asked_in_turn t).holding k w in
      record { place = h.place; acquire = h.acquire; asked = h.earlier; served = h.number }

  -- whoever holds it after a release is the one whom the release serves
  pub holder_is_served : (i p q : ℕ) → Took es i p (Release l) → 1 ≤ q → holder (r.state (suc i)) l ≡ q → HandsTo es l i p q
  unfolding releases_lock
  holder_is_served i p q took from w =
      let h = holder_has_lock (suc i) q from w in
      let one : released (suc i) ≡ released i + 1 = counted_on (is_release_of l) es i true (took_release es i l p (Release l) took ∙ eq-eqb l l refl) in
      record { place = h.place; serves = record { release = took; acquire = h.acquire; waited = before h.place h.acquire h.asked (ℕ_discrete h.place i); next = h.served ∙ one } }
    where
      before : (a : ℕ) → Took es a q (Acquire l) → a < suc i → Dec (a ≡ i) → a < i
      before a asks earlier (yes e) = absurd (release_no_acquire l l (sym took.action ∙ ap (λ (x : ℕ). action_of (event_at es x).step) (sym e) ∙ asks.action))
      before a asks earlier (no e) = omega (arith, earlier, e)

  -- and who still waits by the list waits
  pub unserved_awaits : (k t : ℕ) → StillWaits es l (suc k) t → awaits (r.state t).marks k ≡ suc l
  unserved_awaits k t h = (unserved_stands lim c es r l h.place k t h.acquire h.asked h.unserved).for_lock

  pub unserved_waits : (q t : ℕ) → StillWaits es l q t → waits (r.state t).marks q ≡ true
  unserved_waits zero t h = absurd (omega (arith, (took_allowed lim c es r h.place zero (Acquire l) h.acquire).from))
  unserved_waits (suc k) t h = waiter_waits (r.state t).marks k l (unserved_awaits k t h)
