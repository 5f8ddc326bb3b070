-- A run of the rules as states by time: the state before each step of a list, all of them in order, with the counts of the first. Rests on
-- Fetches and Accepted. Assumes nothing.
use Prim.Native.Nat.{ℕ, zero, suc, ◌<◌}
use mathlib.Core.Path.{◌≡◌, refl, sym, ap, ◌∙◌}
use mathlib.Core.Bool.{Bool, true, false, cond}
use mathlib.Core.List.{List}
use lib.Dec.{eqb}
use borrow.Author.Tests.{eqb-true}
use Rattle.rules.specs.State.{Limits, Counts, State}
use Rattle.rules.specs.Opening.{opened}
use Rattle.rules.specs.Close.{closed}
use Rattle.rules.specs.Fetch.{fetched}
use Rattle.rules.specs.Steps.{read, write, acquire, release, at_barrier, all_arrived, round_done, none_fetched, emptied, collected, wants_collection, arrive, want, enqueue, dequeue}
use Rattle.rules.specs.Refusals.{Action, Read, Write, Acquire, Release, Arrive, Want, TallyAdd, TallyRead, Enqueue, Dequeue, Unknown, action_of, refusal_in_order, effect, next_in_order}
use Rattle.rules.specs.Order.{Event, event_at, Took}
use Rattle.rules.proofs.state.Fetches.{all_fetched_counts}
use Rattle.rules.proofs.inorder.Facts.{InOrder}
use Rattle.rules.proofs.inorder.Accepted.{Accepted, accepted_says}

-- the states of a run from an opening, and that the events say which of its steps were accepted
pub record Timeline (lim : Limits) (c : Counts) (es : List Event) : Type 0 where
  pub state : ℕ → State
  pub starts : state 0 ≡ opened lim c
  pub steps : (t : ℕ) → state (suc t) ≡ next_in_order lim (state t) (event_at es t).step
  pub judged : (t : ℕ) → (event_at es t).accepted ≡ eqb (refusal_in_order lim (state t) (event_at es t).step) 0
  pub ordered : (t : ℕ) → InOrder lim (state t)
  pub words_there : 0 < lim.words

-- the states of a run from any state in order
pub record Course (lim : Limits) (es : List Event) (state : ℕ → State) : Type 0 where
  pub steps : (t : ℕ) → state (suc t) ≡ next_in_order lim (state t) (event_at es t).step
  pub judged : (t : ℕ) → (event_at es t).accepted ≡ eqb (refusal_in_order lim (state t) (event_at es t).step) 0
  pub ordered : (t : ℕ) → InOrder lim (state t)

-- a run from an opening is one
pub course_of : (lim : Limits) (c : Counts) (es : List Event) (r : Timeline lim c es) → Course lim es r.state
course_of lim c es r = record { steps = r.steps; judged = r.judged; ordered = r.ordered }

-- what happens at one time: a refused step changes nothing, an accepted one has its effect
pub data Moment (lim : Limits) (es : List Event) (t : ℕ) (s s' : State) : Type 0 where
  Refused : (event_at es t).accepted ≡ false → s' ≡ s → Moment lim es t s s'
  Taken : (p : ℕ) (a : Action) → Took es t p a → Accepted lim s (event_at es t).step → s' ≡ (effect lim s p a).after → Moment lim es t s s'

module _ (lim : Limits) (es : List Event) (state : ℕ → State) (r : Course lim es state) where
  -- the moments of a run
  pub moment_of : (t : ℕ) → Moment lim es t (state t) (state (suc t))
  unfolding next_in_order
  moment_of t = go (eqb (refusal_in_order lim (state t) (event_at es t).step) 0) refl (r.steps t)
    where
      go : (b : Bool) → eqb (refusal_in_order lim (state t) (event_at es t).step) 0 ≡ b
          → state (suc t) ≡ cond b (effect lim (state t) (event_at es t).step.processor (action_of (event_at es t).step)).after (state t)
          → Moment lim es t (state t) (state (suc t))
      go true e k =
          Taken (event_at es t).step.processor (action_of (event_at es t).step) (record { accepted = r.judged t ∙ e; processor = refl; action = refl })
          (accepted_says lim (state t) (event_at es t).step (eqb-true (refusal_in_order lim (state t) (event_at es t).step) 0 e)) k
      go false e k = Refused (r.judged t ∙ e) k

  -- a step that was taken was accepted
  pub accepted_of : (t p : ℕ) (a : Action) → Took es t p a → Accepted lim (state t) (event_at es t).step
  accepted_of t p a took =
      accepted_says lim (state t) (event_at es t).step (eqb-true (refusal_in_order lim (state t) (event_at es t).step) 0 (sym (r.judged t) ∙ took.accepted))

  -- and it had its effect
  pub effect_of : (t p : ℕ) (a : Action) → Took es t p a → state (suc t) ≡ (effect lim (state t) p a).after
  unfolding next_in_order
  effect_of t p a took = r.steps t ∙ rw (sym (r.judged t) ∙ took.accepted, took.processor, took.action)

module _ (lim : Limits) (c : Counts) (es : List Event) (r : Timeline lim c es) where
  -- those of a run from an opening
  pub moment : (t : ℕ) → Moment lim es t (r.state t) (r.state (suc t))
  moment = moment_of lim es r.state (course_of lim c es r)

  pub took_accepted : (t p : ℕ) (a : Action) → Took es t p a → Accepted lim (r.state t) (event_at es t).step
  took_accepted = accepted_of lim es r.state (course_of lim c es r)

-- ---- no step changes the counts of the opening

arrive_counts : (lim : Limits) (s : State) (p : ℕ) → (arrive lim s p).after.counts ≡ s.counts
unfolding arrive collected emptied round_done at_barrier closed
arrive_counts lim s p = go (all_arrived (at_barrier s p)) (wants_collection (at_barrier s p))
  where
    go : (a b : Bool) → (cond a (cond b (collected lim (round_done (at_barrier s p))) (none_fetched (round_done (at_barrier s p)))) (none_fetched (at_barrier s p))).after.counts ≡ s.counts
    go true true = all_fetched_counts lim (round_done (at_barrier s p))
    go true false = refl
    go false b = refl

pub effect_keeps_counts : (lim : Limits) (s : State) (p : ℕ) (a : Action) → (effect lim s p a).after.counts ≡ s.counts
unfolding effect read write acquire release want closed fetched enqueue dequeue
effect_keeps_counts lim s p (Read w) = refl
effect_keeps_counts lim s p (Write w v) = refl
effect_keeps_counts lim s p (Acquire l) = refl
effect_keeps_counts lim s p (Release l) = refl
effect_keeps_counts lim s p Arrive = arrive_counts lim s p
effect_keeps_counts lim s p Want = refl
effect_keeps_counts lim s p (TallyAdd j x) = refl
effect_keeps_counts lim s p (TallyRead j) = refl
effect_keeps_counts lim s p (Enqueue j) = refl
effect_keeps_counts lim s p Dequeue = refl
effect_keeps_counts lim s p Unknown = refl

pub counts_kept : (lim : Limits) (es : List Event) (state : ℕ → State) → Course lim es state → (t : ℕ) → (state t).counts ≡ (state 0).counts
counts_kept lim es state r zero = refl
counts_kept lim es state r (suc t) = go (moment_of lim es state r t) (counts_kept lim es state r t)
  where
    go : Moment lim es t (state t) (state (suc t)) → (state t).counts ≡ (state 0).counts → (state (suc t)).counts ≡ (state 0).counts
    go (Refused e k) h = ap (λ (s : State). s.counts) k ∙ h
    go (Taken p a took acc k) h = ap (λ (s : State). s.counts) k ∙ effect_keeps_counts lim (state t) p a ∙ h

pub counts_stay : (lim : Limits) (c : Counts) (es : List Event) (r : Timeline lim c es) (t : ℕ) → (r.state t).counts ≡ c
unfolding opened
counts_stay lim c es r t = counts_kept lim es r.state (course_of lim c es r) t ∙ ap (λ (s : State). s.counts) r.starts
