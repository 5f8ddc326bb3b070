-- A step that the narrower limits do not refuse by 10 has the same answer in states of two limits that are alike, and leaves them alike. Rests on Like and
-- Effects. Assumes nothing.
use Prim.Native.Nat.{ℕ, suc, ◌+◌, ◌/◌, ◌≤◌, ◌<◌}
use native.Mathlib.Omega.{arith}
use native.Mathlib.Decide.{ℕ_discrete}
use mathlib.Core.Path.{◌≡◌, refl, sym, ap, ◌∙◌, subst}
use mathlib.Core.Bool.{Bool, true, false, cond, not, ◌&&◌, ◌||◌}
use lib.Dec.{eqb, ltb}
use borrow.Author.Tests.{eqb-true, eq-eqb, ne_eqb}
use Rattle.lists.specs.Tables.{total}
use Rattle.lists.proofs.Tables.{total_same}
use Rattle.rules.specs.State.{Limits, clock_of, dirty_at, State, clock, own, holder, has_arrived}
use Rattle.rules.specs.Lines.{waits}
use Rattle.rules.specs.InOrder.{present, dirty_pages}
use Rattle.rules.specs.Steps.{Effect, page_of_word, write}
use Rattle.rules.specs.Refusals.{Step, Action, Read, Write, Acquire, Release, Arrive, Want, TallyAdd, TallyRead, Enqueue, Dequeue, Unknown, action_of, known_kind, object_bound, uses_value, fits, holds_any, late_refusal, refusal_by, refusal_in_order, effect, accepted_as, refused_with, answer_in_order, next_in_order}
use Rattle.rules.specs.WiderLimits.{wider}
use Rattle.rules.proofs.inorder.Accepted.{accepted_says, object_there, word_on_page}
use Rattle.rules.proofs.inorder.KindsOfSteps.{object_in}
use Rattle.rules.proofs.inorder.Facts.{InOrder}
use Rattle.rules.proofs.inorder.KeptParts.{parts_of}
use Rattle.rules.proofs.wider.Like.{Tables, tables_of, other, Fits, Like, dirty_same}
use Rattle.rules.proofs.wider.Effects.{SameEffect, effect_like}

module _ (lim : Limits) (pages records : ℕ) where
  abbrev big : Limits
  big = wider lim pages records

  -- ---- refusals

  pub dirty_pages_same : (s : State) (x : Tables) → Fits s x → dirty_pages (other s x) ≡ dirty_pages s
  unfolding dirty_pages
  dirty_pages_same s x f =
      total_same s.counts.processors (λ k. total s.counts.pages (λ g. cond (dirty_at (other s x).pages (suc k) g) 1 0)) (λ k. total s.counts.pages (λ g. cond (dirty_at s.pages (suc k) g) 1 0))
      (λ k b. total_same s.counts.pages (λ g. cond (dirty_at (other s x).pages (suc k) g) 1 0) (λ g. cond (dirty_at s.pages (suc k) g) 1 0) (λ g l. ap (λ (c : Bool). cond c 1 0) (dirty_same s x f (suc k) g l)))

  bound_same : (s : State) (x : Tables) (a : Action) → object_bound big (other s x) a ≡ object_bound lim s a
  unfolding object_bound
  bound_same s x (Read w) = refl
  bound_same s x (Write w v) = refl
  bound_same s x (Acquire l) = refl
  bound_same s x (Release l) = refl
  bound_same s x Arrive = refl
  bound_same s x Want = refl
  bound_same s x (TallyAdd j v) = refl
  bound_same s x (TallyRead j) = refl
  bound_same s x (Enqueue v) = refl
  bound_same s x Dequeue = refl
  bound_same s x Unknown = refl

  module _ (s : State) (x : Tables) (f : Fits s x) (room : s.records.standing + dirty_pages s ≤ lim.records) (more : lim.records ≤ records) where
    -- a write, unless the narrower limits refuse it by 10
    late_write : (e p w v : ℕ) → page_of_word lim w < s.counts.pages → (late_refusal lim s e p (Write w v) ≡ 10 → ⊥) → late_refusal big (other s x) e p (Write w v) ≡ late_refusal lim s e p (Write w v)
    unfolding late_refusal page_of_word
    late_write e p w v there not-ten =
        rw (dirty_same s x f p (w / lim.words) there, dirty_pages_same s x f)
        (go (dirty_at s.pages p (w / lim.words)) (eqb e lim.intervals) (ℕ_discrete (s.records.standing + dirty_pages s) lim.records) (ℕ_discrete (s.records.standing + dirty_pages s) records) not-ten)
      where
        sum : ℕ
        sum = s.records.standing + dirty_pages s

        go : (a b : Bool) → Dec (sum ≡ lim.records) → Dec (sum ≡ records) → (◌≡◌ {A = ℕ} (cond a 0 (cond b 9 (cond (eqb sum lim.records) 10 0))) 10 → ⊥) → ◌≡◌ {A = ℕ} (cond a 0 (cond b 9 (cond (eqb sum records) 10 0))) (cond a 0 (cond b 9 (cond (eqb sum lim.records) 10 0)))
        go true b c d n = refl
        go false true c d n = refl
        go false false (yes c) d n = absurd (n (rw (eq-eqb sum lim.records c) refl))
        go false false (no c) (yes d) n = absurd (c (omega (arith, d, room, more)))
        go false false (no c) (no d) n = rw (ne_eqb sum lim.records c, ne_eqb sum records d) refl

    late_same : (t : Step) (e p : ℕ) (a : Action) → action_of t ≡ a → fits lim s t ≡ true → (late_refusal lim s e p a ≡ 10 → ⊥) → late_refusal big (other s x) e p a ≡ late_refusal lim s e p a
    unfolding late_refusal holds_any holder
    late_same t e p (Read w) k h n = refl
    late_same t e p (Write w v) k h n = unfold late_refusal in late_write e p w v (unfold page_of_word in word_on_page w lim.words s.counts.pages (unfold object_bound object_in in object_there lim s t (Write w v) k h)) n
    late_same t e p (Acquire l) k h n = refl
    late_same t e p (Release l) k h n = refl
    late_same t e p Arrive k h n = refl
    late_same t e p Want k h n = refl
    late_same t e p (TallyAdd j v) k h n = refl
    late_same t e p (TallyRead j) k h n = refl
    late_same t e p (Enqueue v) k h n = refl
    late_same t e p Dequeue k h n = refl
    late_same t e p Unknown k h n = refl

    -- every step, unless the narrower limits refuse it by 10
    refusal_same : (t : Step) → (refusal_in_order lim s t ≡ 10 → ⊥) → refusal_in_order big (other s x) t ≡ refusal_in_order lim s t
    unfolding refusal_in_order refusal_by present has_arrived own clock clock_of
    refusal_same t not-ten = rw fit (at (known_kind t.kind) (present s p) (fits lim s t) (has_arrived s p) (waits s.marks p) refl not-ten)
      where
        p : ℕ
        p = t.processor

        fit : fits big (other s x) t ≡ fits lim s t
        fit = unfold fits in ap (λ (b : ℕ). ltb t.object b && (uses_value t.kind || eqb t.value 0)) (bound_same s x (action_of t))

        row : Bool → Bool → Bool → Bool → Bool → ℕ → ℕ
        row a b c d w n = cond (not a) 3 (cond (not b) 4 (cond (not c) 5 (cond d 6 (cond w 17 n))))

        at : (a b c d w : Bool) → fits lim s t ≡ c → (row a b c d w (late_refusal lim s (own s p) p (action_of t)) ≡ 10 → ⊥)
            → row a b c d w (late_refusal big (other s x) (own s p) p (action_of t)) ≡ row a b c d w (late_refusal lim s (own s p) p (action_of t))
        at false b c d w e n = refl
        at true false c d w e n = refl
        at true true false d w e n = refl
        at true true true true w e n = refl
        at true true true false true e n = refl
        at true true true false false e n = late_same t (own s p) p (action_of t) refl e n

  -- ---- one step

  pub record SameStep (s u : State) (t : Step) : Type 0 where
    pub answer : answer_in_order big u t ≡ answer_in_order lim s t
    pub after : Like (next_in_order lim s t) (next_in_order big u t)

  module _ (s : State) (x : Tables) (f : Fits s x) (t : Step) (same : refusal_in_order big (other s x) t ≡ refusal_in_order lim s t) where
    abbrev e₁ : Effect
    e₁ = effect lim s t.processor (action_of t)

    abbrev e₂ : Effect
    e₂ = effect big (other s x) t.processor (action_of t)

    effects : eqb (refusal_in_order lim s t) 0 ≡ true → SameEffect e₁ e₂
    effects e = effect_like lim pages records s x f t (action_of t) refl (accepted_says lim s t (eqb-true (refusal_in_order lim s t) 0 e))

    answer_same : answer_in_order big (other s x) t ≡ answer_in_order lim s t
    unfolding answer_in_order
    answer_same = ap (λ (r : ℕ). cond (eqb r 0) (accepted_as e₂) (refused_with r)) same ∙ go (eqb (refusal_in_order lim s t) 0) refl
      where
        go : (b : Bool) → eqb (refusal_in_order lim s t) 0 ≡ b → cond b (accepted_as e₂) (refused_with (refusal_in_order lim s t)) ≡ cond b (accepted_as e₁) (refused_with (refusal_in_order lim s t))
        go true e = let k = effects e in λ i. record { refusal = 0; value = k.value i; count = k.count i; words = k.words i }
        go false e = refl

    next_like : Like (next_in_order lim s t) (next_in_order big (other s x) t)
    unfolding next_in_order
    next_like = rw same (go (eqb (refusal_in_order lim s t) 0) refl)
      where
        go : (b : Bool) → eqb (refusal_in_order lim s t) 0 ≡ b → Like (cond b e₁.after s) (cond b e₂.after (other s x))
        go true e = (effects e).after
        go false e = record { same = refl; agrees = f }

  pub step_same : lim.records ≤ records → (s u : State) → Like s u → InOrder lim s → (t : Step) → (refusal_in_order lim s t ≡ 10 → ⊥) → SameStep s u t
  step_same more s u k o t not-ten = subst (λ (y : State). SameStep s y t) (sym k.same) (record { answer = answer_same s x k.agrees t same; after = next_like s x k.agrees t same })
    where
      x : Tables
      x = tables_of u

      same : refusal_in_order big (other s x) t ≡ refusal_in_order lim s t
      same = refusal_same s x k.agrees (unfold dirty_pages in (parts_of lim s o).room) more t not-ten
