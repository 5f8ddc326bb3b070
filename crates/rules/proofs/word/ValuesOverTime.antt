-- The values that words can have over a whole run: what may be a value at a time holds of all copies and records at that time. Rests on
-- OpenedInOrder, Timeline and Values. Assumes nothing.
use Prim.Native.Nat.{ℕ, zero, suc, ◌%◌, ◌<◌}
use native.Mathlib.Omega.{arith}
use mathlib.Core.Path.{◌≡◌, sym, ap₂, ◌∙◌, subst}
use mathlib.Core.List.{List}
use lib.ListN.{get_or}
use Rattle.limits.specs.Limits.{word_values}
use Rattle.rules.specs.State.{Limits, Counts, copy_of, State}
use Rattle.rules.specs.InOrder.{record_at}
use Rattle.rules.specs.Opening.{opened}
use Rattle.rules.specs.Steps.{page_of_word, offset_of_word}
use Rattle.rules.specs.Refusals.{Action, Write, action_of, effect}
use Rattle.rules.specs.Order.{Event, event_at, Took}
use Rattle.rules.proofs.inorder.OpenedInOrder.{opened_word}
use Rattle.rules.proofs.order.Timeline.{Timeline, Moment, Refused, Taken, moment}
use Rattle.rules.proofs.word.Values.{ValuesGood, effect_keeps_values}

-- where all values have a property they have every weaker one
values_weaken : (lim : Limits) (Good Fair : ℕ → ℕ → ℕ → Type 0) (s : State) → ((g o x : ℕ) → Good g o x → Fair g o x) → ValuesGood lim Good s → ValuesGood lim Fair s
values_weaken lim Good Fair s f h =
    record {
      copies = λ p g o a b l m. f g o (get_or (copy_of s.pages p g) o 0) (h.copies p g o a b l m);
      records = λ i o v l m e. f (record_at s i).page o v (h.records i o v l m e);
    }

-- Good t g o x: at time t, x may be a value of the word at offset o of page g
module _ (lim : Limits) (c : Counts) (es : List Event) (r : Timeline lim c es) (Good : ℕ → ℕ → ℕ → ℕ → Type 0)
    (bounded : (t g o x : ℕ) → Good t g o x → x < word_values)
    (at_first : (g o : ℕ) → Good 0 g o 0)
    (later : (t g o x : ℕ) → Good t g o x → Good (suc t) g o x)
    (on-write : (t p x v : ℕ) → Took es t p (Write x v) → Good (suc t) (page_of_word lim x) (offset_of_word lim x) (v % word_values)) where
  values_at_first : ValuesGood lim (Good 0) (opened lim c)
  unfolding opened
  values_at_first =
      record {
        copies = λ p g o a b l m. rw (opened_word lim p g o) (at_first g o);
        records = λ i o v l m e. absurd (omega (arith, l));
      }

  -- every word of a copy and every word that a record sets has a value that it may have
  pub values_over_time : (t : ℕ) → ValuesGood lim (Good t) (r.state t)
  values_over_time zero = subst (ValuesGood lim (Good 0)) (sym r.starts) values_at_first
  values_over_time (suc t) = go (moment lim c es r t) (values_weaken lim (Good t) (Good (suc t)) (r.state t) (later t) (values_over_time t))
    where
      go : Moment lim es t (r.state t) (r.state (suc t)) → ValuesGood lim (Good (suc t)) (r.state t) → ValuesGood lim (Good (suc t)) (r.state (suc t))
      go (Refused e k) h = subst (ValuesGood lim (Good (suc t))) (sym k) h
      go (Taken p a took acc k) h =
          let same : r.state (suc t) ≡ (effect lim (r.state t) (event_at es t).step.processor (action_of (event_at es t).step)).after =
          k ∙ ap₂ (λ (q : ℕ) (b : Action). (effect lim (r.state t) q b).after) (sym took.processor) (sym took.action) in
          subst (ValuesGood lim (Good (suc t))) (sym same)
          (effect_keeps_values lim (Good (suc t)) (r.state t) (event_at es t).step (bounded (suc t))
          (λ x v e. on-write t p x v (record { accepted = took.accepted; processor = took.processor; action = e })) (r.ordered t) acc h)
