-- What the table of refusals leaves of a step that was taken, by its processor and its action. Rests on Timeline and MarksAfter. Assumes
-- nothing.
use Prim.Native.Nat.{ℕ, ◌≤◌, ◌<◌}
use native.Mathlib.Omega.{arith}
use mathlib.Core.Path.{◌≡◌, refl, ap}
use mathlib.Core.Bool.{Bool, true, false, cond}
use mathlib.Core.List.{List}
use lib.Dec.{eqb}
use borrow.Author.Tests.{eqb-true}
use Rattle.rules.specs.State.{Limits, Counts, State, own, holder}
use Rattle.rules.specs.Steps.{page_of_word}
use Rattle.rules.specs.Refusals.{Action, Read, Acquire, Release, late_refusal}
use Rattle.rules.specs.Order.{Event, event_at, Took}
use Rattle.rules.proofs.inorder.Accepted.{Accepted, present_says, late_acquire, read_on_page}
use Rattle.rules.proofs.order.Timeline.{Timeline, took_accepted, counts_stay}
use Rattle.rules.proofs.order.MarksAfter.{rests, awake_when}

-- the step's processor is one of the n, does not rest, holds the lock that it releases, and does not hold the one that it acquires
pub record Allowed (n : ℕ) (s : State) (p : ℕ) (a : Action) : Type 0 where
  pub from : 1 ≤ p
  pub to : p ≤ n
  pub not_resting : rests s p ≡ false
  pub holds : (l : ℕ) → a ≡ Release l → holder s l ≡ p
  pub asks : (l : ℕ) → a ≡ Acquire l → holder s l ≡ p → ⊥

late_release : (lim : Limits) (s : State) (e p l : ℕ) → late_refusal lim s e p (Release l) ≡ 0 → holder s l ≡ p
unfolding late_refusal
late_release lim s e p l = go (eqb (holder s l) p) refl
  where
    go : (b : Bool) → eqb (holder s l) p ≡ b → cond {A = ℕ} b 0 8 ≡ 0 → holder s l ≡ p
    go true e z = eqb-true (holder s l) p e
    go false e z = absurd (omega (arith, z))

module _ (lim : Limits) (c : Counts) (es : List Event) (r : Timeline lim c es) where
  -- what the table says of an accepted step, by its processor and action
  pub allowed : (t p : ℕ) (a : Action) → Took es t p a → Accepted lim (r.state t) (event_at es t).step → Allowed c.processors (r.state t) p a
  allowed t p a took acc =
      record {
        from = bounds.0;
        to = rw (ap (λ (k : Counts). k.processors) (counts_stay lim c es r t)) at bounds.1;
        not_resting = awake_when (r.state t) p (rw took.processor at acc.not_arrived) (rw took.processor at acc.not_waiting);
        holds = λ l e. late_release lim (r.state t) (own (r.state t) p) p l (rw e at late);
        asks = λ l e. late_acquire lim (r.state t) (own (r.state t) p) p l (rw e at late);
      }
    where
      bounds : (1 ≤ p) × (p ≤ (r.state t).counts.processors)
      bounds = present_says (r.state t) p (rw took.processor at acc.processor_present)

      late : late_refusal lim (r.state t) (own (r.state t) p) p a ≡ 0
      late = rw (took.processor, took.action) at acc.not_late

  -- the same of a step that was taken
  pub took_allowed : (t p : ℕ) (a : Action) → Took es t p a → Allowed c.processors (r.state t) p a
  took_allowed t p a took = allowed t p a took (took_accepted lim c es r t p a took)

  -- the page of a read that was taken is present
  pub took_read_page : (t p w : ℕ) → Took es t p (Read w) → page_of_word lim w < (r.state t).counts.pages
  took_read_page t p w took = read_on_page lim (r.state t) (event_at es t).step w took.action (took_accepted lim c es r t p (Read w) took)
