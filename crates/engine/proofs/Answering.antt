-- A step on areas of any sizes and contents: 1 where they are not in order, else the step in order; and the areas are those that hold the
-- rules' next state. One law for each way of the code, and `answering_laws`. Assumes nothing.
use Prim.Native.Nat.{ℕ}
use mathlib.Core.Path.{◌≡◌, refl, sym, ap, ◌∙◌}
use mathlib.Core.Bool.{Bool, true, false, cond, not, ◌&&◌, and-eq-true_iff}
use mathlib.Core.List.{List}
use lib.ListN.{length}
use borrow.Author.Tests.{not-false}
use borrow.Author.Rules.{rules}
use Rattle.limits.specs.inner.Sizes.{mark_area}
use Rattle.rules.specs.InOrder.{is_in_order}
use Rattle.rules.specs.Refusals.{Step, refused_with, answer_in_order, next_in_order, answer}
use Rattle.rules.specs.State.{mainframe, State}
use Rattle.rules.proofs.inorder.InOrderSays.{in_order_says}
use Rattle.rules.proofs.inorder.Kept.{next_keeps_order}
use Rattle.layout.specs.Areas.{state_in, sizes_right, areas, held_state, holding, right_sizes}
use Rattle.layout.specs.inner.Needed.{Ready}
use Rattle.layout.proofs.Encoding.{right_lent, holding_is}
use Rattle.inorder.specs.Areas.{areas_in_order, OrderIs}
use Rattle.fetch_index.specs.inner.Index.{unranked}
use Rattle.fetch_index.proofs.Kept.{new_kept}
use Rattle.step_collect.specs.inner.Needed.{ReadyKept}
use Rattle.step_act.specs.Telling.{Outcome}
use Rattle.std.specs.Prelude.{Err}
use Rattle.limits.specs.declared.Refusal.TheVariants.{NotInOrder}
use Rattle.step_act.specs.Telling.{Tells}
use Rattle.step_act.proofs.Telling.{refused_tells}
use Rattle.engine.specs.Promises.{answer_of, areas_after}
use Rattle.engine.specs.inner.Needed.{SteppedAs, SteppedKept}

-- ---- in order or not

module _ (c w r m : List ℕ) (t : Step) where
  -- the answer by the test of the whole memory
  answer_by_test : answer_of (areas c w r m) t ≡ cond (areas_in_order c w r m) (answer_in_order mainframe (state_in mainframe c w r m) t) (refused_with 1)
  unfolding answer_of answer areas held_state right_sizes areas_in_order
  answer_by_test = go (sizes_right mainframe c w r m)
    where
      go : (b : Bool) → cond b (answer mainframe (state_in mainframe c w r m) t) (refused_with 1)
          ≡ cond (b && is_in_order mainframe (state_in mainframe c w r m)) (answer_in_order mainframe (state_in mainframe c w r m) t) (refused_with 1)
      go true = refl
      go false = refl

  -- the areas by the same test
  areas_by_test : areas_after (areas c w r m) t ≡ cond (areas_in_order c w r m) (holding (next_in_order mainframe (state_in mainframe c w r m) t)) (areas c w r m)
  unfolding areas_after areas held_state
  areas_by_test = refl

module _ (c w r m : List ℕ) (b : Bool) (e : OrderIs b c w r m) where
  module _ (t : Step) (z : not b ≡ true) where
    out : areas_in_order c w r m ≡ false
    out = sym e.is ∙ go b z
      where
        go : (x : Bool) → not x ≡ true → x ≡ false
        go true y = sym y
        go false y = refl

    -- 1: "not in order"
    pub out_of_order : Tells (Err NotInOrder) (answer_of (areas c w r m) t)
    out_of_order = rw (answer_by_test c w r m t, out) (refused_tells NotInOrder)

    -- "every lent area untouched"
    pub out_of_order_untouched : areas c w r m ≡ areas_after (areas c w r m) t
    out_of_order_untouched =
        ap (λ (d : Bool). cond d (holding (next_in_order mainframe (state_in mainframe c w r m) t)) (areas c w r m)) (sym out)
        ∙ sym (areas_by_test c w r m t)

  module _ (z : not b ≡ false) where
    fine : areas_in_order c w r m ≡ true
    fine = sym e.is ∙ not-false b z

    -- memory in order
    pub ready_when_fine : Ready c w r m
    unfolding areas_in_order
    ready_when_fine =
        let both = (and-eq-true_iff (sizes_right mainframe c w r m) (is_in_order mainframe (state_in mainframe c w r m))).0 fine in
        record { lent = right_lent c w r m both.0; in_order = in_order_says mainframe (state_in mainframe c w r m) both.1 }

    module _ (t : Step) (x : Outcome) (c' w' r' m' : List ℕ) (d : SteppedAs (state_in mainframe c w r m) t x c' w' r' m') where
      -- the step's answer
      pub in_order_answered : Tells x (answer_of (areas c w r m) t)
      in_order_answered = rw (answer_by_test c w r m t, fine) d.outcome

      -- the step's areas
      pub in_order_after : areas c' w' r' m' ≡ areas_after (areas c w r m) t
      in_order_after =
          holding_is c' w' r' m' (next_in_order mainframe (state_in mainframe c w r m) t) d.areas (next_keeps_order mainframe (state_in mainframe c w r m) t ready_when_fine.in_order)
          ∙ ap (λ (y : Bool). cond y (holding (next_in_order mainframe (state_in mainframe c w r m) t)) (areas c w r m)) (sym fine)
          ∙ sym (areas_by_test c w r m t)

-- ---- step_once

module _ (c w r m : List ℕ) (h : Ready c w r m) where
  -- the marks have their size
  pub once_marks : length m ≡ mark_area
  once_marks = h.lent.marks

  -- a new index is kept
  pub once_ready : (x : List ℕ) → x ≡ unranked m → ReadyKept c w r m x
  once_ready x e = record { ready = h; kept = new_kept c r m x e }

-- what it is afterwards nobody asks
pub once_stepped : (s : State) (t : Step) (y : Outcome) (c w r m x : List ℕ) → SteppedKept s t y c w r m x → SteppedAs s t y c w r m
once_stepped s t y c w r m x k = k.stepped

pub ruleset answering_laws = (out_of_order, out_of_order_untouched, ready_when_fine, in_order_answered, in_order_after, rules)

pub ruleset once_laws = (once_marks, once_ready, once_stepped, rules)
