-- Document 02, L1, one step from any state in order: an acquire of a lock that another holds is accepted, closes the asker's interval and puts it at the
-- end of the line; a release hands the lock to the first of its line, which learns the lock's clock; and what a state in order says of lines. Over lists
-- of steps see WaitsItsTurn. Rests on it, on RowsExactly and on LineOf. Assumes nothing.
use Prim.Native.Nat.{ℕ, zero, suc, ◌+◌, ◌≤◌}
use native.Mathlib.Omega.{arith}
use mathlib.Core.Path.{◌≡◌, refl, sym, ap, ap₂, ◌∙◌}
use mathlib.Core.Bool.{Bool, true, false, cond, not}
use mathlib.Core.List.{List, ◌∷◌}
use lib.ListN.{length, get_or}
use lib.Dec.{eqb}
use borrow.Author.Tests.{ne_eqb}
use Rattle.lists.proofs.Tables.{total_zero}
use Rattle.clock.specs.Clocks.{joined}
use Rattle.rules.specs.State.{Limits, Processor, Lock, Interval, Clocks, clock_of, with_clock, State, with_marks, clock, own, holder, has_arrived}
use Rattle.rules.specs.InOrder.{present, is_in_order}
use Rattle.rules.specs.Lines.{first_in_line, line_of, lock_handed}
use Rattle.rules.specs.Close.{any_dirty, raised, ticked, closed}
use Rattle.rules.specs.Steps.{learned, acquire, lock_told, waiter_told, release}
use Rattle.rules.specs.Refusals.{Step, Action, Write, Acquire, Release, Arrive, Enqueue, Dequeue, action_of, effect, refusal, next}
use Rattle.rules.specs.Rows.{Comes, NoRowApplies}
use Rattle.rules.specs.Waiting.{line_in, WaitsInLine, GoesTo, LinesAsClaimed}
use Rattle.rules.proofs.state.Lines.{waiting, waiting_not}
use Rattle.rules.proofs.state.Holders.{same_holder, clock_of_with_same, clock_of_with_other}
use Rattle.rules.proofs.state.Waiters.{awaits, in_line_is, found_stands}
use Rattle.rules.proofs.state.LineOf.{in_line_stands, no_line, handing_takes_first, nobody_first}
use Rattle.rules.proofs.inorder.Facts.{InOrder}
use Rattle.rules.proofs.inorder.InOrderSays.{in_order_says}
use Rattle.rules.proofs.inorder.Accepted.{present_when}
use Rattle.rules.proofs.InOrderRuns.{refusal_is_not_one}
use Rattle.rules.proofs.RowsExactly.{accepted_exactly_when}
use Rattle.rules.proofs.WaitsItsTurn.{accepted_next, asking_appends, release_takes_first}

-- an interval that p ends leaves the clocks of others
ticked_clock : (s : State) (p q : ℕ) → (q ≡ p → ⊥) → clock_of (ticked s p) (Processor q) ≡ clock_of s.clocks (Processor q)
unfolding ticked
ticked_clock s p q other =
    clock_of_with_other (with_clock s.clocks (Processor p) (raised (clock s p) p)) (Interval p (own s p + 1)) (raised (clock s p) p) (Processor q) (unfold same_holder in refl)
    ∙ clock_of_with_other s.clocks (Processor p) (raised (clock s p) p) (Processor q) (unfold same_holder in ne_eqb q p other)

module _ (lim : Limits) (s : State) (t : Step) (ordered : is_in_order lim s ≡ true) where
  -- ---- asking

  module _ (l : ℕ) (comes : Comes lim s t) (is : action_of t ≡ Acquire l) (held : holder s l ≡ 0 → ⊥) (by_another : holder s l ≡ t.processor → ⊥) where
    no_row : NoRowApplies lim s t
    no_row =
        record {
          comes = comes;
          holds_none = λ e. absurd (other_kind (sym is ∙ e));
          not_its_own = λ k e h. by_another (ap (holder s) (same_lock (sym is ∙ e)) ∙ h);
          its_own = λ k e. absurd (not_released k (sym is ∙ e));
          has_interval = λ w v e. absurd (not_written w v (sym is ∙ e));
          has_room = λ w v e. absurd (not_written w v (sym is ∙ e));
          has_place = λ v e. absurd (not_enqueued v (sym is ∙ e));
          has_job = λ e. absurd (not_dequeued (sym is ∙ e));
        }
      where
        other_kind : Acquire l ≡ Arrive → ⊥
        other_kind e = let z : ◌≡◌ {A = ℕ} 0 1 = cc in omega arith

        same_lock : {k : ℕ} → Acquire l ≡ Acquire k → l ≡ k
        same_lock e = cc

        not_released : (k : ℕ) → Acquire l ≡ Release k → ⊥
        not_released k e = let z : ◌≡◌ {A = ℕ} 0 1 = cc in omega arith

        not_written : (w v : ℕ) → Acquire l ≡ Write w v → ⊥
        not_written w v e = let z : ◌≡◌ {A = ℕ} 0 1 = cc in omega arith

        not_enqueued : (v : ℕ) → Acquire l ≡ Enqueue v → ⊥
        not_enqueued v e = let z : ◌≡◌ {A = ℕ} 0 1 = cc in omega arith

        not_dequeued : Acquire l ≡ Dequeue → ⊥
        not_dequeued e = let z : ◌≡◌ {A = ℕ} 0 1 = cc in omega arith

    asked : refusal lim s t ≡ 0
    asked = refusal_is_not_one lim s t ordered ∙ (accepted_exactly_when lim s t (in_order_says lim s ordered)).1 no_row

    after_asking : next lim s t ≡ acquire s t.processor l
    unfolding effect
    after_asking = accepted_next lim s t ordered asked ∙ ap (λ (a : Action). (effect lim s t.processor a).after) is

    -- it leaves all but the marks as closing does
    closed_only : acquire s t.processor l ≡ with_marks (closed s t.processor) (acquire s t.processor l).marks
    unfolding acquire closed holder
    closed_only = rw (ne_eqb (get_or s.marks.holders l 0) 0 held)

    -- an acquire of a lock that another holds
    pub waits_in_line : WaitsInLine lim s t l
    waits_in_line =
        record {
          accepted = asked;
          closes = after_asking ∙ closed_only ∙ ap (λ (u : State). with_marks (closed s t.processor) u.marks) (sym after_asking);
          waits = asking_appends lim s t ordered l asked is held;
        }

  -- ---- releasing

  module _ (l q : ℕ) (rest : List ℕ) (e : refusal lim s t ≡ 0) (is : action_of t ≡ Release l) (line : line_in s l ≡ q ∷ rest) where
    abbrev p : ℕ
    p = t.processor

    after_release : next lim s t ≡ release s t.processor l
    unfolding effect
    after_release = accepted_next lim s t ordered e ∙ ap (λ (a : Action). (effect lim s t.processor a).after) is

    -- who stands first in the line
    record First : Type 0 where
      place : ℕ
      named : q ≡ suc place
      found : first_in_line s.counts.processors s.marks l ≡ suc place

    first : First
    first = go (first_in_line s.counts.processors s.marks l) refl
      where
        go : (x : ℕ) → first_in_line s.counts.processors s.marks l ≡ x → First
        go zero z =
            let none : 0 ≡ suc (length rest) = ap length (sym (nobody_first s.counts.processors s.marks l (in_order_says lim s ordered).lines.lines z) ∙ line) in
            absurd (omega (arith, none))
        go (suc h) z =
            let both : q ∷ rest ≡ suc h ∷ line_of s.counts.processors (lock_handed s.counts.processors s.marks l) l =
            sym line ∙ handing_takes_first s.counts.processors s.marks l (in_order_says lim s ordered).lines.lines h z in
            record { place = h; named = cc; found = z }

    -- it is another than the processor that releases, which holds the lock
    not_itself : q ≡ t.processor → ⊥
    unfolding first_in_line holder
    not_itself same =
        let stands = found_stands s.counts.processors s.marks l 0 first.place first.found in
        let o = in_order_says lim s ordered in
        o.lines.by_another first.place l stands.0 stands.1
        (((accepted_exactly_when lim s t o).0 (sym (refusal_is_not_one lim s t ordered) ∙ e)).its_own l is ∙ sym same ∙ first.named)

    -- the clocks that the release leaves
    clocks_are : (next lim s t).clocks ≡ learned (lock_told (closed s t.processor).clocks t.processor l) (Processor q) (Lock l)
    unfolding release waiter_told closed
    clocks_are =
        ap (λ (u : State). u.clocks) after_release
        ∙ rw (first.found, ne_eqb (suc first.place) 0 (λ e. omega (arith, e))) (ap (λ (x : ℕ). learned (lock_told (closed s t.processor).clocks t.processor l) (Processor x) (Lock l)) (sym first.named))

    -- a closing leaves the clocks of others
    closed_clock : clock (closed s t.processor) q ≡ clock s q
    unfolding closed clock
    closed_clock = go (any_dirty s t.processor)
      where
        go : (b : Bool) → clock_of (cond b (ticked s t.processor) s.clocks) (Processor q) ≡ clock_of s.clocks (Processor q)
        go true = ticked_clock s t.processor q not_itself
        go false = refl

    -- a release of a lock for which somebody waits
    pub goes_to : GoesTo lim s t l q rest
    unfolding learned lock_told clock
    goes_to =
        let c : Clocks = (closed s t.processor).clocks in
        let handed : Clocks = with_clock c (Lock l) (clock_of c (Processor p)) in
        let apart : same_holder (Lock l) (Processor q) ≡ false = unfold same_holder in refl in
        let lock_told_lem : clock_of (next lim s t).clocks (Lock l) ≡ clock_of c (Processor p) =
        ap (λ (x : Clocks). clock_of x (Lock l)) clocks_are
        ∙ clock_of_with_other handed (Processor q) (joined (clock_of handed (Processor q)) (clock_of handed (Lock l))) (Lock l) (unfold same_holder in refl)
        ∙ clock_of_with_same c (Lock l) (clock_of c (Processor p)) in
        record {
          holds = (release_takes_first lim s t ordered l q rest e is line).0;
          line = (release_takes_first lim s t ordered l q rest e is line).1;
          told = lock_told_lem;
          learns =
              ap (λ (x : Clocks). clock_of x (Processor q)) clocks_are
              ∙ clock_of_with_same handed (Processor q) (joined (clock_of handed (Processor q)) (clock_of handed (Lock l)))
              ∙ ap₂ joined (clock_of_with_other c (Lock l) (clock_of c (Processor p)) (Processor q) apart ∙ closed_clock) (clock_of_with_same c (Lock l) (clock_of c (Processor p)) ∙ sym lock_told_lem);
        }

-- ---- "A state in order has only present cards in lines ..."

pub lines_as_claimed : (lim : Limits) (s : State) → is_in_order lim s ≡ true → LinesAsClaimed s
unfolding holder has_arrived
lines_as_claimed lim s ordered =
    record {
      only_present = λ l k q from there. present_at l k q from there;
      at_most_once = λ l k l' k' q from here there. once l k l' k' q from here there;
      none_at_free = λ l free.
          no_line n s.marks l
          (in_line_is n s.marks l ∙ total_zero n (waiting (awaits s.marks) l) (λ k b. waiting_not (awaits s.marks) l k (λ w. o.lines.for_held k l b w free)));
      none_arrived = λ l k q from there. away l k q from there;
      none_holds_it = λ l k q from there. other l k q from there;
    }
  where
    n : ℕ
    n = s.counts.processors

    o : InOrder lim s
    o = in_order_says lim s ordered

    present_at : (l k q : ℕ) → 1 ≤ q → get_or (line_in s l) k 0 ≡ q → present s q ≡ true
    present_at l k zero from there = absurd (omega (arith, from))
    present_at l k (suc h) from there = present_when s (suc h) from (omega (arith, (in_line_stands s.counts.processors s.marks l k h there).0))

    once : (l k l' k' q : ℕ) → 1 ≤ q → get_or (line_in s l) k 0 ≡ q → get_or (line_in s l') k' 0 ≡ q → (l ≡ l') × (k ≡ k')
    once l k l' k' zero from here there = absurd (omega (arith, from))
    once l k l' k' (suc h) from here there =
        let a = in_line_stands s.counts.processors s.marks l k h here in
        let b = in_line_stands s.counts.processors s.marks l' k' h there in
        (omega (arith, a.1, b.1), omega (arith, a.2, b.2))

    away : (l k q : ℕ) → 1 ≤ q → get_or (line_in s l) k 0 ≡ q → not (eqb (get_or s.marks.arrived q 0) 0) ≡ false
    away l k zero from there = absurd (omega (arith, from))
    away l k (suc h) from there = let a = in_line_stands s.counts.processors s.marks l k h there in o.lines.not_arrived h l a.0 a.1

    other : (l k q : ℕ) → 1 ≤ q → get_or (line_in s l) k 0 ≡ q → get_or s.marks.holders l 0 ≡ q → ⊥
    other l k zero from there holds = absurd (omega (arith, from))
    other l k (suc h) from there holds = let a = in_line_stands s.counts.processors s.marks l k h there in o.lines.by_another h l a.0 a.1 holds
