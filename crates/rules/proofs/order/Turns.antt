-- A waiter keeps its place in line until its lock is released, moves up by one then, and gets the lock when it is first, whatever the others do; so
-- it has its place by the releases that were accepted since. Rests on Timeline, Counted, ActionKinds and MarksAfter. Assumes nothing.
use Prim.Native.Nat.{ℕ, zero, suc, ◌+◌, ◌-◌, ◌≤◌, ◌<◌}
use native.Mathlib.Omega.{arith}
use native.Mathlib.Decide.{ℕ_discrete}
use mathlib.Core.Path.{◌≡◌, refl, sym, ap, ◌∙◌}
use mathlib.Core.Bool.{Bool, true, false, false≢true}
use mathlib.Core.Logic.{◌⊎◌, inl, inr}
use mathlib.Core.List.{List}
use borrow.Author.Tests.{eq-eqb}
use Rattle.rules.specs.State.{Limits, Counts, Marks, State, holder}
use Rattle.rules.specs.Lines.{waits, first_in_line}
use Rattle.rules.specs.Refusals.{Action, Read, Write, Acquire, Release, Arrive, Want, TallyAdd, TallyRead, Enqueue, Dequeue, Unknown, effect}
use Rattle.rules.specs.Order.{Event, event_at, Took, counted, is_release_of}
use Rattle.rules.proofs.state.Waiters.{awaits, turn_at, holder_in, waiter_waits, found_stands, stands_found, asked_others, handed_holder, waits_on, moves_up, stands_still}
use Rattle.rules.proofs.inorder.Facts.{LinesInOrder}
use Rattle.rules.proofs.inorder.Accepted.{Accepted}
use Rattle.rules.proofs.order.Timeline.{Course, Moment, Refused, Taken, moment_of, effect_of, counts_kept}
use Rattle.rules.proofs.order.Counted.{counted_passes, counted_fails, counted_never_falls}
use Rattle.rules.proofs.order.ActionKinds.{releases_lock, releases_is, took_release, refused_release}
use Rattle.rules.proofs.order.MarksAfter.{line_marks_after, holder_after, awaits_after, turn_after_lem}

-- ---- one step

-- processor k + 1 waits for lock l with x waiters before it
pub record StandsAt (m : Marks) (l k x : ℕ) : Type 0 where
  pub for_lock : awaits m k ≡ suc l
  pub turn : turn_at m k ≡ x

module _ (lim : Limits) (s : State) (p : ℕ) (l k x : ℕ) (st : StandsAt s.marks l k x) where
  -- what another does leaves its place, unless that is a release of the lock
  stays_in_line : (p ≡ suc k → ⊥) → (a : Action) → releases_lock l a ≡ false → StandsAt (line_marks_after s p a) l k x
  unfolding line_marks_after releases_lock
  stays_in_line d (Read w) e = st
  stays_in_line d (Write w v) e = st
  stays_in_line d (Acquire i) e =
      let same = asked_others s.counts.processors s.marks i p k d in
      record { for_lock = same.0 ∙ st.for_lock; turn = same.1 ∙ st.turn }
  stays_in_line d (Release i) e =
      record {
        for_lock = waits_on s.counts.processors s.marks i k (λ z. other (unfold first_in_line in (found_stands s.counts.processors s.marks i 0 k z).1)) ∙ st.for_lock;
        turn = stands_still s.counts.processors s.marks i k other ∙ st.turn;
      }
    where
      other : awaits s.marks k ≡ suc i → ⊥
      other z = false≢true (sym e ∙ eq-eqb i l (omega (arith, z, st.for_lock)))
  stays_in_line d Arrive e = st
  stays_in_line d Want e = st
  stays_in_line d (TallyAdd j x) e = st
  stays_in_line d (TallyRead j) e = st
  stays_in_line d (Enqueue j) e = st
  stays_in_line d Dequeue e = st
  stays_in_line d Unknown e = st

  -- a release of it moves it up
  moves_up_one : (y : ℕ) → x ≡ suc y → StandsAt (line_marks_after s p (Release l)) l k y
  unfolding line_marks_after first_in_line
  moves_up_one y e =
      record {
        for_lock = waits_on s.counts.processors s.marks l k (λ z. omega (arith, e, st.turn, (found_stands s.counts.processors s.marks l 0 k z).2)) ∙ st.for_lock;
        turn = moves_up s.counts.processors s.marks l k st.for_lock ∙ omega (arith, e, st.turn);
      }

  -- and gives it the lock where it is first
  gets_the_lock : LinesInOrder s.counts s.marks → k < s.counts.processors → x ≡ 0 → holder_in (line_marks_after s p (Release l)) l ≡ suc k
  unfolding line_marks_after first_in_line
  gets_the_lock f b e =
      handed_holder s.counts.processors s.marks l l ∙ rw (eq-eqb l l refl) (stands_found s.counts.processors s.marks l f.lines 0 k b st.for_lock (st.turn ∙ e))

  -- the same of the state after the step
  after_lines : (a : Action) (y : ℕ) → StandsAt (line_marks_after s p a) l k y → StandsAt (effect lim s p a).after.marks l k y
  after_lines a y h = record { for_lock = awaits_after lim s p a k ∙ h.for_lock; turn = turn_after_lem lim s p a k ∙ h.turn }

-- ---- over time

module _ (lim : Limits) (es : List Event) (state : ℕ → State) (r : Course lim es state) (l k : ℕ) where
  -- the accepted releases of the lock before a time
  abbrev released : ℕ → ℕ
  released t = counted (is_release_of l) es t

  -- who waits does not act
  not_acting : (t p : ℕ) (a : Action) (x : ℕ) → Took es t p a → Accepted lim (state t) (event_at es t).step → StandsAt (state t).marks l k x → p ≡ suc k → ⊥
  not_acting t p a x took acc st e =
      false≢true (sym acc.not_waiting ∙ ap (waits (state t).marks) (took.processor ∙ e) ∙ waiter_waits (state t).marks k l st.for_lock)

  -- after a step it waits on, or holds the lock
  pub waits_or_holds : (t x : ℕ) → k < (state 0).counts.processors → StandsAt (state t).marks l k x → (awaits (state (suc t)).marks k ≡ suc l) ⊎ (holder (state (suc t)) l ≡ suc k)
  waits_or_holds t x b st = go (moment_of lim es state r t)
    where
      served : (p y : ℕ) → Took es t p (Release l) → x ≡ y → (awaits (effect lim (state t) p (Release l)).after.marks k ≡ suc l) ⊎ (holder (effect lim (state t) p (Release l)).after l ≡ suc k)
      served p zero took e =
          inr (holder_after lim (state t) p (Release l) l ∙ gets_the_lock lim (state t) p l k x st (r.ordered t).lines (rw (ap (λ (c : Counts). c.processors) (counts_kept lim es state r t)) b) e)
      served p (suc y) took e = inl (after_lines lim (state t) p l k x st (Release l) y (moves_up_one lim (state t) p l k x st y e)).for_lock

      taken : (p : ℕ) (a : Action) → Took es t p a → Accepted lim (state t) (event_at es t).step → (c : Bool) → releases_lock l a ≡ c
          → (awaits (effect lim (state t) p a).after.marks k ≡ suc l) ⊎ (holder (effect lim (state t) p a).after l ≡ suc k)
      taken p a took acc true e = rw (releases_is l a e) (served p x (record { accepted = took.accepted; processor = took.processor; action = took.action ∙ releases_is l a e }) refl)
      taken p a took acc false e = inl (after_lines lim (state t) p l k x st a x (stays_in_line lim (state t) p l k x st (not_acting t p a x took acc st) a e)).for_lock

      go : Moment lim es t (state t) (state (suc t)) → (awaits (state (suc t)).marks k ≡ suc l) ⊎ (holder (state (suc t)) l ≡ suc k)
      go (Refused e z) = inl (ap (λ (s : State). awaits s.marks k) z ∙ st.for_lock)
      go (Taken p a took acc z) = rw z (taken p a took acc (releases_lock l a) refl)

  module _ (t₀ x : ℕ) (start : StandsAt (state t₀).marks l k x) where
    -- while no more than x releases have been accepted since, it stands behind x less those
    pub place_in_line : (t : ℕ) → t₀ ≤ t → released t ≤ released t₀ + x → StandsAt (state t).marks l k (released t₀ + x - released t)
    place_in_line zero from few = here (omega (arith, from))
      where
        here : t₀ ≡ 0 → StandsAt (state 0).marks l k (released t₀ + x - released 0)
        here e = record { for_lock = ap (λ (t : ℕ). awaits (state t).marks k) (sym e) ∙ start.for_lock; turn = ap (λ (t : ℕ). turn_at (state t).marks k) (sym e) ∙ start.turn ∙ omega (arith, ap released e) }
    place_in_line (suc t) from few = go (ℕ_discrete t₀ (suc t)) (place_in_line t)
      where
        never : released t ≤ released (suc t)
        never = counted_never_falls (is_release_of l) es t (suc t) (omega arith)

        since : t₀ ≤ t → released t₀ ≤ released t
        since h = counted_never_falls (is_release_of l) es t₀ t h

        step : t₀ ≤ t → StandsAt (state t).marks l k (released t₀ + x - released t) → Moment lim es t (state t) (state (suc t)) → StandsAt (state (suc t)).marks l k (released t₀ + x - released (suc t))
        step h st (Refused e z) = rw (z, counted_fails (is_release_of l) es t (refused_release es t l e)) st
        step h st (Taken p a took acc z) = rw z (after_lines lim (state t) p l k (released t₀ + x - released t) st a (released t₀ + x - released (suc t)) (by (releases_lock l a) refl))
          where
            by : (b : Bool) → releases_lock l a ≡ b → StandsAt (line_marks_after (state t) p a) l k (released t₀ + x - released (suc t))
            by true e =
                let one : released (suc t) ≡ released t + 1 = counted_passes (is_release_of l) es t (took_release es t l p a took ∙ e) in
                rw (releases_is l a e) (moves_up_one lim (state t) p l k (released t₀ + x - released t) st (released t₀ + x - released (suc t)) (omega (arith, one, few)))
            by false e =
                rw (counted_fails (is_release_of l) es t (took_release es t l p a took ∙ e))
                (stays_in_line lim (state t) p l k (released t₀ + x - released t) st (not_acting t p a (released t₀ + x - released t) took acc st) a e)

        go : Dec (t₀ ≡ suc t) → (t₀ ≤ t → released t ≤ released t₀ + x → StandsAt (state t).marks l k (released t₀ + x - released t))
            → StandsAt (state (suc t)).marks l k (released t₀ + x - released (suc t))
        go (yes e) before = rw (← e) (record { for_lock = start.for_lock; turn = start.turn ∙ omega arith })
        go (no e) before = let h : t₀ ≤ t = omega (arith, from, e) in step h (before h (omega (arith, never, few))) (moment_of lim es state r t)

    -- the release that has as many before it since then makes it the holder
    pub served_in_turn : k < (state 0).counts.processors → (t p : ℕ) → t₀ ≤ t → Took es t p (Release l) → released t ≡ released t₀ + x → holder (state (suc t)) l ≡ suc k
    served_in_turn b t p from took e =
        ap (λ (s : State). holder s l) (effect_of lim es state r t p (Release l) took)
        ∙ holder_after lim (state t) p (Release l) l
        ∙ gets_the_lock lim (state t) p l k (released t₀ + x - released t) (place_in_line t from (omega (arith, e))) (r.ordered t).lines
        (rw (ap (λ (c : Counts). c.processors) (counts_kept lim es state r t)) b) (omega (arith, e))
