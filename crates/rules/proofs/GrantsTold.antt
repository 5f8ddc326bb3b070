-- Document 02, L1, the theorems about grants told from the list: who gets a lock, and who waits for it, is seen from the steps and their answers alone.
--
-- Take any limits with pages of at least one word, any opening that they accept, and any list of steps with any fields, in any order, refused ones too.
-- After an accepted release of a lock a processor holds the lock exactly if the release serves an acquire of it by the count, which is what the edge
-- `granted` of happens-before-1 says (`grants_exactly`). And of the answers (`locks_served`):
--   * an accepted release is by the processor whose acquire has as many acquires of the lock before it as the release has releases;
--   * each step of a processor that has asked for a lock and is not served yet is refused, with 17 where neither 3 nor 5 applies;
--   * 17 is given to nobody else.
-- Rests on Served, Grants and ListRuns. Assumes nothing.
use Prim.Native.Nat.{ℕ, zero, suc, ◌≤◌, ◌<◌}
use native.Mathlib.Omega.{arith}
use mathlib.Core.Path.{◌≡◌, refl, sym, ap, ◌∙◌}
use mathlib.Core.Bool.{Bool, true, false, cond, not, false≢true}
use mathlib.Core.Logic.{◌⊎◌, inl, inr, ◌↔◌}
use mathlib.Core.List.{List}
use lib.ListN.{take}
use Rattle.rules.specs.State.{Limits, Counts, State, own, holder, has_arrived}
use Rattle.rules.specs.Lines.{waits}
use Rattle.rules.specs.InOrder.{present}
use Rattle.rules.specs.Opening.{Opening, opening_refusal, opened}
use Rattle.rules.specs.Refusals.{Step, Acquire, Release, action_of, known_kind, fits, late_refusal, refusal_by, refusal_in_order}
use Rattle.rules.specs.Runs.{answers, state_after}
use Rattle.rules.specs.Order.{Event, event_at, Took}
use Rattle.rules.specs.Waiting.{events_in, HandsTo, StillWaits, SomeLockAwaited, ServedInTurn}
use Rattle.rules.proofs.state.Waiters.{awaits, awake_when}
use Rattle.rules.proofs.inorder.Accepted.{present_says, present_when}
use Rattle.rules.proofs.inorder.OpenedInOrder.{opened_in_order, opening_counts}
use Rattle.rules.proofs.InOrderRuns.{answers_in_order_lem, state_in_order_lem}
use Rattle.rules.proofs.RowsExactly.{late_by_kind}
use Rattle.rules.proofs.order.Timeline.{Timeline, counts_stay}
use Rattle.rules.proofs.order.Allowed.{Allowed, took_allowed}
use Rattle.rules.proofs.order.Grants.{served_holds}
use Rattle.rules.proofs.order.Served.{waiter_still_waits, holder_has_lock, holder_is_served, unserved_awaits, unserved_waits}
use Rattle.rules.proofs.demand.ListRuns.{events_of, timeline, state_at, refusal_answer}

-- ---- the table's row 17

module _ (lim : Limits) (s : State) (t : Step) where
  -- a step by a present processor that waits and has not arrived is refused by 3, 5 or 17
  waiter_refused : present s t.processor ≡ true → has_arrived s t.processor ≡ false → waits s.marks t.processor ≡ true
      → (refusal_in_order lim s t ≡ 3) ⊎ ((refusal_in_order lim s t ≡ 5) ⊎ (refusal_in_order lim s t ≡ 17))
  unfolding refusal_in_order refusal_by
  waiter_refused there away waiting = rw (there, away, waiting) (go (known_kind t.kind) (fits lim s t))
    where
      row : (a b : Bool) → ℕ
      row a b = cond (not a) 3 (cond (not b) 5 17)

      go : (a b : Bool) → (row a b ≡ 3) ⊎ ((row a b ≡ 5) ⊎ (row a b ≡ 17))
      go false b = inl refl
      go true false = inr (inl refl)
      go true true = inr (inr refl)

  -- and 17 is given to none but a present processor that waits
  seventeen_waits : refusal_in_order lim s t ≡ 17 → (present s t.processor ≡ true) × (waits s.marks t.processor ≡ true)
  unfolding refusal_in_order refusal_by
  seventeen_waits e = go (known_kind t.kind) (present s t.processor) (fits lim s t) (has_arrived s t.processor) (waits s.marks t.processor) refl refl e
    where
      late : ℕ
      late = late_refusal lim s (own s t.processor) t.processor (action_of t)

      go : (a b c d w : Bool) → present s t.processor ≡ b → waits s.marks t.processor ≡ w → cond (not a) 3 (cond (not b) 4 (cond (not c) 5 (cond d 6 (cond w 17 late)))) ≡ 17
          → (present s t.processor ≡ true) × (waits s.marks t.processor ≡ true)
      go false b c d w p q e = absurd (omega (arith, e))
      go true false c d w p q e = absurd (omega (arith, e))
      go true true false d w p q e = absurd (omega (arith, e))
      go true true true true w p q e = absurd (omega (arith, e))
      go true true true false true p q e = (p, q)
      go true true true false false p q e = absurd ((late_by_kind lim s t (own s t.processor) t.processor (action_of t)).not_17 e)

-- ---- a run

module _ (lim : Limits) (c : Counts) (es : List Event) (r : Timeline lim c es) where
  -- a step of one who still waits by the list
  still_refused : (l q k : ℕ) → StillWaits es l q k → (event_at es k).step.processor ≡ q
      → (refusal_in_order lim (r.state k) (event_at es k).step ≡ 3) ⊎ ((refusal_in_order lim (r.state k) (event_at es k).step ≡ 5) ⊎ (refusal_in_order lim (r.state k) (event_at es k).step ≡ 17))
  still_refused l q k h by =
      waiter_refused lim (r.state k) (event_at es k).step (rw by (present_when (r.state k) q al.from there)) (rw by (away q al.from there h)) (rw by (unserved_waits lim c es r l q k h))
    where
      al : Allowed c.processors (r.state h.place) q (Acquire l)
      al = took_allowed lim c es r h.place q (Acquire l) h.acquire

      there : q ≤ (r.state k).counts.processors
      there = rw (ap (λ (n : Counts). n.processors) (counts_stay lim c es r k)) al.to

      away : (p : ℕ) → 1 ≤ p → p ≤ (r.state k).counts.processors → StillWaits es l p k → has_arrived (r.state k) p ≡ false
      away zero from to h = absurd (omega (arith, from))
      away (suc j) from to h = unfold has_arrived in (r.ordered k).lines.not_arrived j l (omega (arith, to)) (unserved_awaits lim c es r l j k h)

  -- one who waits still waits for some lock by the list
  awaits_some : (q k : ℕ) → 1 ≤ q → waits (r.state k).marks q ≡ true → SomeLockAwaited es q k
  awaits_some zero k from w = absurd (omega (arith, from))
  awaits_some (suc h) k from w = go (awaits (r.state k).marks h) refl
    where
      go : (x : ℕ) → awaits (r.state k).marks h ≡ x → SomeLockAwaited es (suc h) k
      go zero e = absurd (false≢true (sym (awake_when (r.state k).marks h e) ∙ w))
      go (suc l) e = record { lock = l; waits = waiter_still_waits lim c es r l k h e }

-- ---- the theorems, over every list of steps from an accepted opening

-- after an accepted release of a lock its holder is the processor whom the release serves by the count, and none if it serves none
pub grants_exactly : (lim : Limits) (o : Opening) → 0 < lim.words → opening_refusal lim o ≡ 0 → (ts : List Step) (l i p q : ℕ) → 1 ≤ q
    → Took (events_in lim (opened lim o.counts) ts) i p (Release l)
    → (holder (state_after lim (opened lim o.counts) (take (suc i) ts)) l ≡ q) ↔ HandsTo (events_in lim (opened lim o.counts) ts) l i p q
grants_exactly lim o words_there accepted ts l i p q from took =
    let in-range = opening_counts lim o accepted in
    let start = opened_in_order lim o.counts in-range in
    let same = answers_in_order_lem lim (opened lim o.counts) ts start in
    let es : List Event = events_of lim (opened lim o.counts) ts in
    let r : Timeline lim o.counts es = timeline lim o.counts in-range words_there ts in
    rw (same, state_in_order_lem lim (opened lim o.counts) (take (suc i) ts) start, ← state_at lim o.counts in-range words_there ts (suc i)) (
      holder_is_served lim o.counts es r l i p q (rw same at took) from,
      λ h. served_holds lim o.counts es r l i p h.place q h.serves,
    )

-- locks are given in the order in which they are asked for, and who waits takes no step
pub locks_served : (lim : Limits) (o : Opening) → 0 < lim.words → opening_refusal lim o ≡ 0 → (ts : List Step) → ServedInTurn ts (answers lim (opened lim o.counts) ts)
locks_served lim o words_there accepted ts =
    let in-range = opening_counts lim o accepted in
    let es : List Event = events_of lim (opened lim o.counts) ts in
    let r : Timeline lim o.counts es = timeline lim o.counts in-range words_there ts in
    let answer = refusal_answer lim o.counts in-range words_there ts in
    rw (answers_in_order_lem lim (opened lim o.counts) ts (opened_in_order lim o.counts in-range))
    (record {
      in_turn = λ l i p took.
          let al = took_allowed lim o.counts es r i p (Release l) took in
          holder_has_lock lim o.counts es r l i p al.from (al.holds l refl);
      refused = λ l q k h by. rw (answer k) (still_refused lim o.counts es r l q k h by);
      seventeen = λ k e.
          let h = seventeen_waits lim (r.state k) (event_at es k).step (sym (answer k) ∙ e) in
          awaits_some lim o.counts es r (event_at es k).step.processor k (present_says (r.state k) (event_at es k).step.processor h.0).0 h.1;
    })
