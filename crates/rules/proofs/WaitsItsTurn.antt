-- Document 02, L1, the theorem: nobody who waits for a lock is passed over.
--
-- Take any limits, any state in order, and any list of steps with any fields, in any order, refused ones too. A processor that stands in a lock's line
-- with k waiters before it:
--   * stands there with k - m waiters before it as long as m releases of that lock, at most k, have been accepted;
--   * is the holder right after the accepted release that has k others before it, "numbered k + 1 from then".
-- "No steps of others change that": the steps of the list are any. Then the lines, said as document 02 says it: asking puts a processor at the end of the
-- line, a release takes its first and makes it the holder, nothing else changes a line, and no round is completed while somebody waits.
-- Rests on LineOf, Turns and ListRuns. Assumes nothing.
use Prim.Native.Nat.{ℕ, zero, suc, ◌-◌, ◌≤◌, ◌<◌}
use native.Mathlib.Omega.{arith}
use native.Mathlib.Decide.{ℕ_discrete}
use mathlib.Core.Path.{◌≡◌, refl, sym, ap, ◌∙◌}
use mathlib.Core.Bool.{Bool, true, false, cond, false≢true}
use mathlib.Core.List.{List, [], ◌∷◌, ◌++◌}
use lib.ListN.{length, get_or, take}
use lib.Dec.{eqb}
use borrow.Author.Tests.{eqb-true, eqb-false, eq-eqb, ne_eqb}
use Rattle.lists.proofs.Tables.{every_at, total_zero}
use Rattle.lists.proofs.Tabulated.{length_tabulate}
use Rattle.rules.specs.State.{Limits, Counts, Marks, with_holder, with_lines, State, own, holder, has_arrived}
use Rattle.rules.specs.Close.{closed}
use Rattle.rules.specs.Lines.{waits, waits_for, turn_of, in_line, waiter_at, first_in_line, line_of, with_waiter, lock_asked, lock_handed}
use Rattle.rules.specs.InOrder.{is_in_order}
use Rattle.rules.specs.Steps.{at_barrier, all_arrived}
use Rattle.rules.specs.Refusals.{Step, Action, Read, Write, Acquire, Release, Arrive, Want, TallyAdd, TallyRead, Enqueue, Dequeue, Unknown, action_of, refusal_in_order, effect, next_in_order, refusal, next}
use Rattle.rules.specs.Runs.{state_in_order}
use Rattle.rules.specs.Order.{counted, is_release_of}
use Rattle.rules.specs.Waiting.{line_in, InTurn}
use Rattle.rules.proofs.state.Lines.{waiting, waiting_not}
use Rattle.rules.proofs.state.Waiters.{awaits, turn_at, holder_in, awake_says, waiter_waits, in_line_is, nobody_leaves, handed_holder}
use Rattle.rules.proofs.state.LineOf.{in_line_stands, stands_in_line, no_line, asking_appends_at, asking_leaves, handing_takes_first, nobody_first, handing_leaves}
use Rattle.rules.proofs.inorder.Facts.{InOrder}
use Rattle.rules.proofs.inorder.InOrderSays.{in_order_says}
use Rattle.rules.proofs.inorder.KeptLines.{waiter_lines}
use Rattle.rules.proofs.inorder.Accepted.{Accepted, accepted_says, present_says, late_acquire, acquire_there}
use Rattle.rules.proofs.InOrderRuns.{refused_leaves_state, answers_in_order_lem, state_in_order_lem}
use Rattle.rules.proofs.order.Timeline.{Course, effect_keeps_counts, counts_kept}
use Rattle.rules.proofs.order.MarksAfter.{arrived_at_barrier, line_marks_after, lines_after, holder_after}
use Rattle.rules.proofs.order.Turns.{StandsAt, place_in_line, served_in_turn}
use Rattle.rules.proofs.demand.ListRuns.{state_before, events_of, course}

-- ---- the theorem over every list

pub waits_its_turn : (lim : Limits) (s : State) → is_in_order lim s ≡ true → (q l k : ℕ) → 1 ≤ q → get_or (line_in s l) k 0 ≡ q → (ts : List Step) → InTurn lim s ts q l k
unfolding state_in_order counted
waits_its_turn lim s ordered zero l k from there ts = absurd (omega (arith, from))
waits_its_turn lim s ordered (suc h) l k from there ts =
    record {
      moves_up = λ i few.
          let e = answers_in_order_lem lim s ts o in
          rw (state_in_order_lem lim s (take i ts) o, e) (in_line_lem i (rw e at few));
      served = λ i p took is.
          let e = answers_in_order_lem lim s ts o in
          rw (state_in_order_lem lim s (take (suc i) ts) o)
          (served_in_turn lim (events_of lim s ts) (state_before lim s ts) r l h 0 k start stands.0 i p (omega arith) (rw e at took) (omega (arith, rw e at is, none_yet)));
    }
  where
    o : InOrder lim s
    o = in_order_says lim s ordered

    r : Course lim (events_of lim s ts) (state_before lim s ts)
    r = course lim s ts o

    stands : (h < s.counts.processors) × (awaits s.marks h ≡ suc l) × (turn_at s.marks h ≡ k)
    stands = in_line_stands s.counts.processors s.marks l k h there

    start : StandsAt s.marks l h k
    start = record { for_lock = stands.1; turn = stands.2 }

    none_yet : counted (is_release_of l) (events_of lim s ts) 0 ≡ 0
    none_yet = refl

    in_line_lem : (i : ℕ) → counted (is_release_of l) (events_of lim s ts) i ≤ k → get_or (line_in (state_in_order lim s (take i ts)) l) (k - counted (is_release_of l) (events_of lim s ts) i) 0 ≡ suc h
    in_line_lem i few =
        let place = place_in_line lim (events_of lim s ts) (state_before lim s ts) r l h 0 k start i (omega arith) (omega (arith, few, none_yet)) in
        stands_in_line (state_before lim s ts i).counts.processors (state_before lim s ts i).marks l (r.ordered i).lines.lines (k - counted (is_release_of l) (events_of lim s ts) i) h
        (rw (ap (λ (c : Counts). c.processors) (counts_kept lim (events_of lim s ts) (state_before lim s ts) r i)) stands.0) place.for_lock (place.turn ∙ omega (arith, none_yet))

-- ---- the lines

-- the same waiters and turns are the same lines
line_same : (n : ℕ) (m m' : Marks) (l : ℕ) → m.awaited ≡ m'.awaited → m.turns ≡ m'.turns → line_of n m l ≡ line_of n m' l
unfolding line_of in_line waiter_at waits_for turn_of
line_same n m m' l a t = λ i. line_of n (with_lines m (a i) (t i)) l

-- what an accepted step leaves of holders and lines
module _ (lim : Limits) (s : State) (t : Step) (ordered : is_in_order lim s ≡ true) where
  n : ℕ
  n = s.counts.processors

  o : InOrder lim s
  o = in_order_says lim s ordered

  -- an accepted step has its effect
  pub accepted_next : refusal lim s t ≡ 0 → next lim s t ≡ (effect lim s t.processor (action_of t)).after
  unfolding next next_in_order refusal
  accepted_next e = rw ordered (ap (λ (b : Bool). cond b (effect lim s t.processor (action_of t)).after s) (eq-eqb (refusal_in_order lim s t) 0 (rw ordered at e)))

  accepted : refusal lim s t ≡ 0 → Accepted lim s t
  unfolding refusal
  accepted e = accepted_says lim s t (rw ordered at e)

  -- the lines that it leaves
  pub lines_next : (a : Action) → refusal lim s t ≡ 0 → action_of t ≡ a → (l : ℕ) → line_in (next lim s t) l ≡ line_of s.counts.processors (line_marks_after s t.processor a) l
  lines_next a e is l =
      ap (λ (u : State). line_in u l) (accepted_next e ∙ ap (λ (x : Action). (effect lim s t.processor x).after) is)
      ∙ ap (λ (c : Counts). line_of c.processors (effect lim s t.processor a).after.marks l) (effect_keeps_counts lim s t.processor a)
      ∙ line_same s.counts.processors (effect lim s t.processor a).after.marks (line_marks_after s t.processor a) l (lines_after lim s t.processor a).awaited (lines_after lim s t.processor a).turns

  pub holder_next : (a : Action) → refusal lim s t ≡ 0 → action_of t ≡ a → (l : ℕ) → holder (next lim s t) l ≡ holder_in (line_marks_after s t.processor a) l
  holder_next a e is l = ap (λ (u : State). holder u l) (accepted_next e) ∙ ap (λ (x : Action). holder (effect lim s t.processor x).after l) is ∙ holder_after lim s t.processor a l

  -- asking for a lock that another holds puts the processor at the end of its line
  pub asking_appends : (l : ℕ) → refusal lim s t ≡ 0 → action_of t ≡ Acquire l → (holder s l ≡ 0 → ⊥) → line_in (next lim s t) l ≡ line_in s l ++ t.processor ∷ []
  unfolding line_marks_after lock_asked holder n
  asking_appends l e is held = lines_next (Acquire l) e is l ∙ go t.processor refl
    where
      acc : Accepted lim s t
      acc = accepted e

      go : (p : ℕ) → t.processor ≡ p → line_of n (line_marks_after s p (Acquire l)) l ≡ line_in s l ++ p ∷ []
      go zero z = absurd (omega (arith, z, (present_says s t.processor acc.processor_present).0))
      go (suc k) z =
          let b : k < n = omega (arith, z, (present_says s t.processor acc.processor_present).1) in
          let awake : awaits s.marks k ≡ 0 = awake_says s.marks k (rw z at acc.not_waiting) in
          rw (ne_eqb (holder_in s.marks l) 0 held)
          (asking_appends_at n s.marks l k b awake
          (waiter_lines s.counts s.marks o.lines l k b (acquire_there lim s t l is acc) awake (unfold has_arrived in (rw z at acc.not_arrived)) held
          (λ y. late_acquire lim s (own s t.processor) t.processor l (rw is at acc.not_late) (y ∙ sym z))).lines)

  -- a release takes the first of the line, which becomes the holder
  pub release_takes_first : (l q : ℕ) (rest : List ℕ) → refusal lim s t ≡ 0 → action_of t ≡ Release l → line_in s l ≡ q ∷ rest
      → (holder (next lim s t) l ≡ q) × (line_in (next lim s t) l ≡ rest)
  unfolding line_marks_after n
  release_takes_first l q rest e is line = go (first_in_line n s.marks l) refl
    where
      go : (x : ℕ) → first_in_line n s.marks l ≡ x → (holder (next lim s t) l ≡ q) × (line_in (next lim s t) l ≡ rest)
      go zero z = let none : 0 ≡ suc (length rest) = ap length (sym (nobody_first n s.marks l o.lines.lines z) ∙ line) in absurd (omega (arith, none))
      go (suc h) z =
          let both : q ∷ rest ≡ suc h ∷ line_of n (lock_handed n s.marks l) l = sym line ∙ handing_takes_first n s.marks l o.lines.lines h z in
          let first : q ≡ suc h = cc in
          let others : rest ≡ line_of n (lock_handed n s.marks l) l = cc in (
            holder_next (Release l) e is l ∙ handed_holder n s.marks l l ∙ rw (eq-eqb l l refl) (z ∙ sym first),
            lines_next (Release l) e is l ∙ sym others,
          )

  -- a release of a lock for which nobody waits leaves it free
  pub release_frees : (l : ℕ) → refusal lim s t ≡ 0 → action_of t ≡ Release l → line_in s l ≡ [] → (holder (next lim s t) l ≡ 0) × (line_in (next lim s t) l ≡ [])
  unfolding line_marks_after line_of n
  release_frees l e is line = go (first_in_line n s.marks l) refl
    where
      go : (x : ℕ) → first_in_line n s.marks l ≡ x → (holder (next lim s t) l ≡ 0) × (line_in (next lim s t) l ≡ [])
      go zero z =
          let nobody : in_line n s.marks l ≡ 0 = sym (length_tabulate (in_line n s.marks l) (waiter_at n s.marks l)) ∙ ap length line in (
            holder_next (Release l) e is l ∙ handed_holder n s.marks l l ∙ rw (eq-eqb l l refl) z,
            lines_next (Release l) e is l ∙ no_line n (lock_handed n s.marks l) l (nobody_leaves n s.marks l z l ∙ nobody),
          )
      go (suc h) z =
          let none : 0 ≡ suc (length (line_of n (lock_handed n s.marks l) l)) = ap length (sym line ∙ handing_takes_first n s.marks l o.lines.lines h z) in
          absurd (omega (arith, none))

  -- nothing else changes a line: not a refused step, not another kind of step, not a step on another lock, not the acquire of a free lock
  pub nothing_else : (l : ℕ) → (refusal lim s t ≡ 0 → action_of t ≡ Acquire l → holder s l ≡ 0) → (refusal lim s t ≡ 0 → action_of t ≡ Release l → ⊥) → line_in (next lim s t) l ≡ line_in s l
  unfolding line_marks_after lock_asked holder n
  nothing_else l free kept = go (ℕ_discrete (refusal lim s t) 0)
    where
      asks : (p i : ℕ) → t.processor ≡ p → refusal lim s t ≡ 0 → action_of t ≡ Acquire i → line_of n (lock_asked n s.marks i p) l ≡ line_of n s.marks l
      asks zero i z e is = absurd (omega (arith, z, (present_says s t.processor (accepted e).processor_present).0))
      asks (suc k) i z e is = by (eqb (holder_in s.marks i) 0) refl
        where
          by : (b : Bool) → eqb (holder_in s.marks i) 0 ≡ b → line_of n (cond b (with_holder s.marks i (suc k)) (with_waiter s.marks i (suc k) (in_line n s.marks i))) l ≡ line_of n s.marks l
          by true d = line_same n (with_holder s.marks i (suc k)) s.marks l (unfold with_holder in refl) (unfold with_holder in refl)
          by false d =
              asking_leaves n s.marks i k (omega (arith, z, (present_says s t.processor (accepted e).processor_present).1)) (awake_says s.marks k (rw z at (accepted e).not_waiting)) l
              (λ y. eqb-false (holder_in s.marks i) 0 d (ap (holder_in s.marks) (sym y) ∙ free e (is ∙ ap Acquire (sym y))))

      by_action : (a : Action) → refusal lim s t ≡ 0 → action_of t ≡ a → line_of n (line_marks_after s t.processor a) l ≡ line_in s l
      by_action (Read x) e is = refl
      by_action (Write x v) e is = refl
      by_action (Acquire i) e is = asks t.processor i refl e is
      by_action (Release i) e is = handing_leaves n s.marks i o.lines.lines l (λ y. kept e (is ∙ ap Release (sym y)))
      by_action Arrive e is = refl
      by_action Want e is = refl
      by_action (TallyAdd j v) e is = refl
      by_action (TallyRead j) e is = refl
      by_action (Enqueue j) e is = refl
      by_action Dequeue e is = refl
      by_action Unknown e is = refl

      go : Dec (refusal lim s t ≡ 0) → line_in (next lim s t) l ≡ line_in s l
      go (yes e) = lines_next (action_of t) e refl l ∙ by_action (action_of t) e refl
      go (no e) = ap (λ (u : State). line_in u l) (refused_leaves_state lim s t e)

-- no round is completed while somebody waits: when the last processor arrives every line is empty
pub round_meets_no_line : (lim : Limits) (s : State) (t : Step) → is_in_order lim s ≡ true → refusal lim s t ≡ 0 → action_of t ≡ Arrive → all_arrived (at_barrier s t.processor) ≡ true
    → (l : ℕ) → line_in s l ≡ []
unfolding all_arrived at_barrier closed has_arrived
round_meets_no_line lim s t ordered e is full l =
    no_line s.counts.processors s.marks l
    (in_line_is s.counts.processors s.marks l
    ∙ total_zero s.counts.processors (waiting (awaits s.marks) l) (λ k b. waiting_not (awaits s.marks) l k (λ w. nobody k b w (eqb (suc k) t.processor) refl)))
  where
    o : InOrder lim s
    o = in_order_says lim s ordered

    nobody : (k : ℕ) → k < s.counts.processors → awaits s.marks k ≡ suc l → (b : Bool) → eqb (suc k) t.processor ≡ b → ⊥
    nobody k b w true z =
        false≢true (sym (accepted lim s t ordered e).not_waiting ∙ ap (waits s.marks) (sym (eqb-true (suc k) t.processor z)) ∙ waiter_waits s.marks k l w)
    nobody k b w false z =
        let here : has_arrived (at_barrier s t.processor) (suc k) ≡ true =
        every_at s.counts.processors (λ (i : ℕ). has_arrived (at_barrier s t.processor) (suc i)) k full b in
        let arrived : has_arrived s (suc k) ≡ true = ap (λ (x : Bool). cond x true (has_arrived s (suc k))) (sym z) ∙ sym (arrived_at_barrier s t.processor (suc k)) ∙ here in
        false≢true (sym (o.lines.not_arrived k l b w) ∙ arrived)
