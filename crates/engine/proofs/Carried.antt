-- A state that is carried through a run: the areas in which it is laid out hold it again after every step, so a step on the areas is a step
-- of the rules. Assumes nothing.
use mathlib.Core.Path.{◌≡◌, ap, ◌∙◌}
use mathlib.Core.Bool.{Bool, true, cond}
use Rattle.rules.specs.Opening.{Opening, opening_refusal, opened}
use Rattle.rules.specs.Refusals.{Step, answer, next, next_in_order, refused_with}
use Rattle.rules.specs.State.{mainframe, State}
use Rattle.rules.proofs.inorder.Facts.{InOrder}
use Rattle.rules.proofs.inorder.InOrderWhen.{in_order_when}
use Rattle.rules.proofs.inorder.Kept.{next_keeps_order}
use Rattle.rules.proofs.order.Nobody.{NobodyMarked, next_nobody_marked, opened_nobody_marked}
use Rattle.rules.proofs.inorder.OpenedInOrder.{opened_in_order, opening_counts}
use Rattle.layout.specs.Areas.{clock_bytes, area_words, record_bytes, mark_bytes, areas, held_state, holding, right_sizes}
use Rattle.layout.proofs.Encoding.{lent_right}
use Rattle.layout.proofs.Decoding.{encoded_lent, decoded}
use Rattle.inorder.specs.Areas.{areas_in_order}
use Rattle.engine.specs.Promises.{answer_of, areas_after}

-- a state in order in which nobody's marks, which are laid out nowhere, are 0
pub record Carried (s : State) : Type 0 where
  pub in_order : InOrder mainframe s
  pub nobody : NobodyMarked s.marks

-- ---- from an opening on

-- an accepted opening leaves such a state
pub opened_carried : (o : Opening) → opening_refusal mainframe o ≡ 0 → Carried (opened mainframe o.counts)
opened_carried o e =
    record { in_order = opened_in_order mainframe o.counts (opening_counts mainframe o e); nobody = opened_nobody_marked mainframe o.counts }

-- and so does every step after it
pub next_carried : (s : State) (t : Step) → Carried s → Carried (next mainframe s t)
unfolding next
next_carried s t h =
    rw (in_order_when mainframe s h.in_order) (record { in_order = next_keeps_order mainframe s t h.in_order; nobody = next_nobody_marked mainframe s t h.nobody })

-- ---- in its areas

module _ (s : State) (h : Carried s) where
  -- its areas have the fixed sizes
  pub carried_sizes : right_sizes (holding s) ≡ true
  unfolding right_sizes holding areas
  carried_sizes = lent_right (clock_bytes s.clocks) (area_words s.pages s.shared) (record_bytes s.records) (mark_bytes s) (encoded_lent s h.in_order.sized)

  -- and hold it
  pub carried_held : held_state (holding s) ≡ s
  unfolding held_state holding areas
  carried_held = decoded s h.in_order.sized h.nobody

  -- they are in order
  carried_in_order : areas_in_order (holding s).clocks (holding s).words (holding s).records (holding s).marks ≡ true
  unfolding areas_in_order
  carried_in_order = unfold right_sizes held_state in rw (carried_sizes, carried_held, in_order_when mainframe s h.in_order)

  -- a step on the areas answers as in the state
  pub carried_answer : (t : Step) → answer_of (holding s) t ≡ answer mainframe s t
  unfolding answer_of
  carried_answer t =
      ap (λ (b : Bool). cond b (answer mainframe (held_state (holding s)) t) (refused_with 1)) carried_sizes ∙ ap (λ (u : State). answer mainframe u t) carried_held

  -- and leaves the areas of the state after it
  pub carried_after : (t : Step) → areas_after (holding s) t ≡ holding (next mainframe s t)
  unfolding areas_after next
  carried_after t =
      ap (λ (b : Bool). cond b (holding (next_in_order mainframe (held_state (holding s)) t)) (holding s)) carried_in_order
      ∙ ap (λ (u : State). holding (next_in_order mainframe u t)) carried_held
      ∙ (rw (in_order_when mainframe s h.in_order))
