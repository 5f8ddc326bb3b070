-- In order is kept over a whole list of steps from an opening, so refusal 1 never arises in a run. Rests on InOrderSays, InOrderWhen and
-- Kept. Assumes nothing.
use mathlib.Core.Path.{◌≡◌, refl, ap}
use mathlib.Core.Bool.{Bool, true, false, cond}
use mathlib.Core.List.{List, [], ◌∷◌}
use lib.Dec.{eqb}
use borrow.Author.Tests.{eqb-true}
use Rattle.rules.specs.State.{Limits, State}
use Rattle.rules.specs.InOrder.{is_in_order}
use Rattle.rules.specs.Refusals.{Step, action_of, refusal_in_order, effect, Answer, answer_in_order, next_in_order, refusal, answer, next}
use Rattle.rules.specs.Runs.{answers, state_after, answers_in_order, state_in_order}
use Rattle.rules.proofs.inorder.Facts.{InOrder}
use Rattle.rules.proofs.inorder.InOrderSays.{in_order_says}
use Rattle.rules.proofs.inorder.InOrderWhen.{in_order_when}
use Rattle.rules.proofs.inorder.Kept.{next_keeps_order}

-- ---- theorem 2: steps and order

-- an accepted step takes a state in order to a state in order, and a refused one leaves it as it was
pub step_keeps_order : (lim : Limits) (s : State) (t : Step) → is_in_order lim s ≡ true → is_in_order lim (next lim s t) ≡ true
unfolding next
step_keeps_order lim s t e = rw e (in_order_when lim (next_in_order lim s t) (next_keeps_order lim s t (in_order_says lim s e)))

pub refused_leaves_state : (lim : Limits) (s : State) (t : Step) → (refusal lim s t ≡ 0 → ⊥) → next lim s t ≡ s
unfolding next next_in_order refusal
refused_leaves_state lim s t h = go (is_in_order lim s) (eqb (refusal_in_order lim s t) 0) refl refl
  where
    go : (a b : Bool) → is_in_order lim s ≡ a → eqb (refusal_in_order lim s t) 0 ≡ b
        → cond a (cond b (effect lim s t.processor (action_of t)).after s) s ≡ s
    go false b p q = refl
    go true false p q = refl
    go true true p q = absurd (h (rw p (eqb-true (refusal_in_order lim s t) 0 q)))

-- ---- runs

-- in a state in order a step's refusal is never 1
pub refusal_is_not_one : (lim : Limits) (s : State) (t : Step) → is_in_order lim s ≡ true → refusal lim s t ≡ refusal_in_order lim s t
unfolding refusal
refusal_is_not_one lim s t e = rw e

pub answers_in_order_lem : (lim : Limits) (s : State) (ts : List Step) → InOrder lim s → answers lim s ts ≡ answers_in_order lim s ts
unfolding answers answers_in_order answer next
answers_in_order_lem lim s [] h = refl
answers_in_order_lem lim s (t ∷ ts) h = rw (in_order_when lim s h) (ap (λ (l : List Answer). answer_in_order lim s t ∷ l) (answers_in_order_lem lim (next_in_order lim s t) ts (next_keeps_order lim s t h)))

pub state_in_order_lem : (lim : Limits) (s : State) (ts : List Step) → InOrder lim s → state_after lim s ts ≡ state_in_order lim s ts
unfolding state_after state_in_order next
state_in_order_lem lim s [] h = refl
state_in_order_lem lim s (t ∷ ts) h = rw (in_order_when lim s h) (state_in_order_lem lim (next_in_order lim s t) ts (next_keeps_order lim s t h))

-- every list of steps from an accepted opening leaves a state in order
pub run_stays_in_order : (lim : Limits) (s : State) (ts : List Step) → InOrder lim s → InOrder lim (state_in_order lim s ts)
unfolding state_in_order
run_stays_in_order lim s [] h = h
run_stays_in_order lim s (t ∷ ts) h = run_stays_in_order lim (next_in_order lim s t) ts (next_keeps_order lim s t h)
