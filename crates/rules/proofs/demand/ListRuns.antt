-- The run over a list of steps as states by time, and what its steps answer. Rests on OpenedInOrder, InOrderRuns and Timeline. Assumes
-- nothing.
use Prim.Native.Nat.{ℕ, zero, suc, ◌<◌}
use mathlib.Core.Path.{◌≡◌, refl, sym, ap, ap₂, ◌∙◌}
use mathlib.Core.Bool.{Bool, true, false, cond, false≢true}
use mathlib.Core.List.{List, [], ◌∷◌}
use lib.ListN.{get_or, take}
use lib.Dec.{eqb}
use borrow.Author.Tests.{eqb-true}
use Rattle.rules.specs.State.{Limits, Counts, State}
use Rattle.rules.specs.InOrder.{counts_in_range}
use Rattle.rules.specs.Opening.{opened}
use Rattle.rules.specs.Steps.{read}
use Rattle.rules.specs.Refusals.{Step, Action, Read, action_of, known_kind, refusal_by, refusal_in_order, effect, Answer, accepted_as, refused_with, answer_in_order, next_in_order}
use Rattle.rules.specs.Runs.{answers_in_order, state_in_order}
use Rattle.rules.specs.Order.{Event, events, no_event, event_at, Took}
use Rattle.rules.specs.Demand.{value_at}
use Rattle.rules.specs.Waiting.{refusal_at}
use Rattle.rules.proofs.inorder.Facts.{InOrder}
use Rattle.rules.proofs.inorder.OpenedInOrder.{opened_in_order}
use Rattle.rules.proofs.InOrderRuns.{run_stays_in_order}
use Rattle.rules.proofs.order.Timeline.{Timeline, Course}

-- ---- one step

-- an answer's refusal is the step's
pub answer_refusal : (lim : Limits) (s : State) (t : Step) → (answer_in_order lim s t).refusal ≡ refusal_in_order lim s t
unfolding answer_in_order refused_with
answer_refusal lim s t = go (eqb (refusal_in_order lim s t) 0) refl
  where
    go : (b : Bool) → eqb (refusal_in_order lim s t) 0 ≡ b
        → (cond {A = Answer} b (accepted_as (effect lim s t.processor (action_of t)))
        (refused_with (refusal_in_order lim s t))).refusal
        ≡ refusal_in_order lim s t
    go true e = sym (eqb-true (refusal_in_order lim s t) 0 e)
    go false e = refl

-- an accepted step answers its effect
answer_accepted : (lim : Limits) (s : State) (t : Step) → eqb (refusal_in_order lim s t) 0 ≡ true → answer_in_order lim s t ≡ accepted_as (effect lim s t.processor (action_of t))
unfolding answer_in_order
answer_accepted lim s t e = rw e

-- a refused one its refusal and nothing else
answer_refused : (lim : Limits) (s : State) (t : Step) → eqb (refusal_in_order lim s t) 0 ≡ false → answer_in_order lim s t ≡ refused_with (answer_in_order lim s t).refusal
unfolding answer_in_order refused_with
answer_refused lim s t e = rw e

-- past the end of the list nothing happens
idle_refused : (lim : Limits) (s : State) → refusal_in_order lim s no_event.step ≡ 3
unfolding refusal_in_order refusal_by known_kind no_event
idle_refused lim s = refl

idle_stays : (lim : Limits) (s : State) → next_in_order lim s no_event.step ≡ s
unfolding next_in_order
idle_stays lim s = rw (idle_refused lim s)

-- ---- the list

-- the state before the step at place t
abbrev pub state_before : Limits → State → List Step → ℕ → State
state_before lim s ts t = state_in_order lim s (take t ts)

abbrev pub events_of : Limits → State → List Step → List Event
events_of lim s ts = events ts (answers_in_order lim s ts)

steps_of : (lim : Limits) (s : State) (ts : List Step) (t : ℕ) → state_before lim s ts (suc t) ≡ next_in_order lim (state_before lim s ts t) (event_at (events_of lim s ts) t).step
unfolding state_in_order events answers_in_order event_at
steps_of lim s [] zero = sym (idle_stays lim s)
steps_of lim s [] (suc t) = sym (idle_stays lim s)
steps_of lim s (a ∷ ts) zero = refl
steps_of lim s (a ∷ ts) (suc t) = steps_of lim (next_in_order lim s a) ts t

judged_of : (lim : Limits) (s : State) (ts : List Step) (t : ℕ)
    → (event_at (events_of lim s ts) t).accepted ≡ eqb (refusal_in_order lim (state_before lim s ts t) (event_at (events_of lim s ts) t).step) 0
unfolding state_in_order events answers_in_order event_at no_event
judged_of lim s [] zero = sym (rw (idle_refused lim s) refl)
judged_of lim s [] (suc t) = sym (rw (idle_refused lim s) refl)
judged_of lim s (a ∷ ts) zero = ap (λ (n : ℕ). eqb n 0) (answer_refusal lim s a)
judged_of lim s (a ∷ ts) (suc t) = judged_of lim (next_in_order lim s a) ts t

refusal_of : (lim : Limits) (s : State) (ts : List Step) (t : ℕ)
    → refusal_at (answers_in_order lim s ts) t ≡ refusal_in_order lim (state_before lim s ts t) (event_at (events_of lim s ts) t).step
unfolding state_in_order events answers_in_order event_at refusal_at refused_with
refusal_of lim s [] zero = sym (idle_refused lim s)
refusal_of lim s [] (suc t) = sym (idle_refused lim s)
refusal_of lim s (a ∷ ts) zero = answer_refusal lim s a
refusal_of lim s (a ∷ ts) (suc t) = refusal_of lim (next_in_order lim s a) ts t

answer_of_lem : (lim : Limits) (s : State) (ts : List Step) (t : ℕ) → (event_at (events_of lim s ts) t).accepted ≡ true
    → get_or (answers_in_order lim s ts) t (refused_with 3)
    ≡ accepted_as (effect lim (state_before lim s ts t) (event_at (events_of lim s ts) t).step.processor (action_of (event_at (events_of lim s ts) t).step))
unfolding state_in_order events answers_in_order event_at no_event
answer_of_lem lim s [] t e = absurd (false≢true e)
answer_of_lem lim s (a ∷ ts) zero e = answer_accepted lim s a (ap (λ (n : ℕ). eqb n 0) (sym (answer_refusal lim s a)) ∙ e)
answer_of_lem lim s (a ∷ ts) (suc t) e = answer_of_lem lim (next_in_order lim s a) ts t e

-- a refused step answers its refusal alone
pub refused_answer_of : (lim : Limits) (s : State) (ts : List Step) (t : ℕ) → (event_at (events_of lim s ts) t).accepted ≡ false
    → get_or (answers_in_order lim s ts) t (refused_with 3) ≡ refused_with (get_or (answers_in_order lim s ts) t (refused_with 3)).refusal
unfolding state_in_order events answers_in_order event_at no_event
refused_answer_of lim s [] t e = unfold refused_with in refl
refused_answer_of lim s (a ∷ ts) zero e = answer_refused lim s a (ap (λ (n : ℕ). eqb n 0) (sym (answer_refusal lim s a)) ∙ e)
refused_answer_of lim s (a ∷ ts) (suc t) e = refused_answer_of lim (next_in_order lim s a) ts t e

-- the run from any state in order
pub course : (lim : Limits) (s : State) (ts : List Step) → InOrder lim s → Course lim (events_of lim s ts) (state_before lim s ts)
course lim s ts o = record { steps = steps_of lim s ts; judged = judged_of lim s ts; ordered = λ t. run_stays_in_order lim s (take t ts) o }

-- ---- the run from an opening

module _ (lim : Limits) (c : Counts) (in-range : counts_in_range lim c ≡ true) (words_there : 0 < lim.words) (ts : List Step) where
  pub timeline : Timeline lim c (events_of lim (opened lim c) ts)
  unfolding state_in_order
  timeline =
      record {
        state = state_before lim (opened lim c) ts;
        starts = refl;
        steps = steps_of lim (opened lim c) ts;
        judged = judged_of lim (opened lim c) ts;
        ordered = λ t. run_stays_in_order lim (opened lim c) (take t ts) (opened_in_order lim c in-range);
        words_there = words_there;
      }

  -- its states
  pub state_at : (j : ℕ) → timeline.state j ≡ state_before lim (opened lim c) ts j
  unfolding timeline
  state_at j = refl

  -- the refusal answered at a place; past the end of the list it is that of a step of no kind
  pub refusal_answer : (j : ℕ) → refusal_at (answers_in_order lim (opened lim c) ts) j ≡ refusal_in_order lim (timeline.state j) (event_at (events_of lim (opened lim c) ts) j).step
  unfolding timeline
  refusal_answer j = refusal_of lim (opened lim c) ts j

  -- what an accepted step answers
  pub step_effect : (j p : ℕ) (a : Action) → Took (events_of lim (opened lim c) ts) j p a
      → get_or (answers_in_order lim (opened lim c) ts) j (refused_with 3) ≡ accepted_as (effect lim (timeline.state j) p a)
  unfolding timeline state_in_order
  step_effect j p a took =
      answer_of_lem lim (opened lim c) ts j took.accepted
      ∙ ap₂ (λ (q : ℕ) (b : Action). accepted_as (effect lim (state_before lim (opened lim c) ts j) q b)) took.processor took.action

  -- the value of it
  pub step_answer : (j p : ℕ) (a : Action) → Took (events_of lim (opened lim c) ts) j p a
      → value_at (answers_in_order lim (opened lim c) ts) j ≡ (effect lim (timeline.state j) p a).value
  unfolding value_at
  step_answer j p a took = ap (λ (x : Answer). x.value) (step_effect j p a took)

  -- and to an accepted read
  pub read_answer : (j p w : ℕ) → Took (events_of lim (opened lim c) ts) j p (Read w)
      → value_at (answers_in_order lim (opened lim c) ts) j ≡ (read lim (timeline.state j) p w).value
  unfolding effect
  read_answer j p w took = step_answer j p (Read w) took
