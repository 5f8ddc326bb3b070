-- A computed run judged by demand 3: its accepted steps are computed, the premise follows from the writes being before one another and before
-- the read, and the theorem over every list of steps gives the value. Rests on DemandThree, InOrderRuns and Edges. Assumes nothing.
use Prim.Native.Nat.{ℕ, zero, suc, ◌<◌}
use native.Mathlib.Omega.{arith}
use native.Mathlib.Decide.{ℕ_discrete}
use mathlib.Core.Path.{◌≡◌, refl, sym, ap, ◌∙◌, subst}
use mathlib.Core.Bool.{Bool, true, false, cond}
use mathlib.Core.Logic.{◌⊎◌, inl, inr}
use mathlib.Core.List.{List, [], ◌∷◌, map}
use borrow.Author.Tests.{eq-eqb}
use Rattle.rules.specs.State.{mainframe, Counts}
use Rattle.rules.specs.InOrder.{counts_in_range}
use Rattle.rules.specs.Opening.{Opening, opening_refusal, opened}
use Rattle.rules.specs.Refusals.{Step, Action, Read, Write, action_of}
use Rattle.rules.specs.Runs.{answers, answers_in_order}
use Rattle.rules.specs.Order.{Event, events, event_at, Took, Before, chain, Ordered}
use Rattle.rules.specs.Demand.{value_field, is_write_to, last_written, EarlierWrite, Synchronized, FromWrite, Judged, value_at, DemandThree}
use Rattle.rules.proofs.inorder.OpenedInOrder.{opened_in_order}
use Rattle.rules.proofs.InOrderRuns.{answers_in_order_lem}
use Rattle.rules.proofs.order.ActionKinds.{writes_to, stored_by, took_write, took_value}
use Rattle.rules.proofs.order.Edges.{joins}
use Rattle.rules.proofs.DemandThree.{demand_three}

-- ---- the premise

-- a number for each accepted write to w before place j, by its place, the last one first
of_writes : (ℕ → ℕ) → List Event → ℕ → ℕ → List ℕ
of_writes f es w zero = []
of_writes f es w (suc t) = cond (is_write_to (event_at es t) w) (f t ∷ of_writes f es w t) (of_writes f es w t)

-- their places
unfoldable pub writes_before : List Event → ℕ → ℕ → List ℕ
unfolding of_writes
writes_before es w j = of_writes (λ t. t) es w j

-- and their value fields
unfoldable pub values_before : List Event → ℕ → ℕ → List ℕ
unfolding of_writes
values_before es w j = of_writes (λ t. value_field (event_at es t).step.value) es w j

unfoldable pub Among : ℕ → List ℕ → Type 0
Among i [] = ⊥
Among i (x ∷ l) = (i ≡ x) ⊎ Among i l

module _ (n : ℕ) (es : List Event) where
  -- the first of some places is before j, and each other one before the place in front of it
  unfoldable pub LeadUp : ℕ → List ℕ → Type 0
  LeadUp j [] = Unit {0}
  LeadUp j (x ∷ l) = Before n es x j × LeadUp x l

  all_before : (l : List ℕ) (i j : ℕ) → LeadUp j l → Among i l → Before n es i j
  unfolding LeadUp Among
  all_before [] i j h m = absurd m
  all_before (x ∷ l) i j h (inl e) = subst (λ (k : ℕ). Before n es k j) (sym e) h.0
  all_before (x ∷ l) i j h (inr m) = chain x (all_before l i x h.1 m) h.0

  all_ordered : (l : List ℕ) (i k j : ℕ) → LeadUp j l → Among i l → Among k l → (i ≡ k) ⊎ Ordered n es i k
  unfolding LeadUp Among Ordered
  all_ordered [] i k j h a b = absurd a
  all_ordered (x ∷ l) i k j h (inl a) (inl b) = inl (a ∙ sym b)
  all_ordered (x ∷ l) i k j h (inl a) (inr b) = inr (inr (subst (λ (y : ℕ). Before n es k y) (sym a) (all_before l k x h.1 b)))
  all_ordered (x ∷ l) i k j h (inr a) (inl b) = inr (inl (subst (λ (y : ℕ). Before n es i y) (sym b) (all_before l i x h.1 a)))
  all_ordered (x ∷ l) i k j h (inr a) (inr b) = all_ordered l i k x h.1 a b

module _ (es : List Event) (w : ℕ) where
  -- every accepted write to w before place j is among them
  write_among : (f : ℕ → ℕ) (j i p v : ℕ) → Took es i p (Write w v) → i < j → Among (f i) (of_writes f es w j)
  unfolding of_writes Among writes_to
  write_among f zero i p v took h = absurd (omega (arith, h))
  write_among f (suc t) i p v took h = go (ℕ_discrete i t) (write_among f t i p v took)
    where
      is_write : is_write_to (event_at es i) w ≡ true
      is_write = took_write es i w p (Write w v) took ∙ eq-eqb w w refl

      later : (b : Bool) → Among (f i) (of_writes f es w t) → Among (f i) (cond b (f t ∷ of_writes f es w t) (of_writes f es w t))
      later true m = inr m
      later false m = m

      go : Dec (i ≡ t) → (i < t → Among (f i) (of_writes f es w t)) → Among (f i) (cond (is_write_to (event_at es t) w) (f t ∷ of_writes f es w t) (of_writes f es w t))
      go (yes e) below = rw (ap (λ (k : ℕ). is_write_to (event_at es k) w) (sym e) ∙ is_write) (inl (ap f e))
      go (no e) below = later (is_write_to (event_at es t) w) (below (omega (arith, h, e)))

-- demand 3 leaves 0 and the value fields of the earlier writes, and no other value
pub value_left : (n : ℕ) (es : List Event) (w j x : ℕ) → Judged n es w j x → (x ≡ 0) ⊎ Among x (values_before es w j)
unfolding values_before writes_to stored_by
value_left n es w j x judged = go judged.some_write
  where
    go : (x ≡ 0) ⊎ FromWrite es w j x → (x ≡ 0) ⊎ Among x (of_writes (λ t. value_field (event_at es t).step.value) es w j)
    go (inl e) = inl e
    go (inr h) =
        let took = h.write.wrote in
        let value : (event_at es h.place).step.value ≡ h.value = took_value es h.place w h.processor (Write w h.value) took (eq-eqb w w refl) in
        let found = write_among es w (λ t. value_field (event_at es t).step.value) j h.place h.processor h.value took h.write.earlier in
        inr (subst (λ (y : ℕ). Among y (of_writes (λ t. value_field (event_at es t).step.value) es w j)) (ap value_field value ∙ sym h.is) found)

-- where the writes to w lead up to the read, the premise of demand 3 is met
pub synchronized : (n : ℕ) (es : List Event) (w j : ℕ) (l : List ℕ) → writes_before es w j ≡ l → LeadUp n es j l → Synchronized n es w j
unfolding writes_before
synchronized n es w j l places h =
    record {
      ordered = λ i k p q u v a b by-others. go i k p q u v a b by-others (all_ordered n es l i k j h (at i p u a) (at k q v b));
      before = λ i p v a. all_before n es l i j h (at i p v a);
    }
  where
    at : (i p v : ℕ) → EarlierWrite es w j i p v → Among i l
    at i p v a = subst (Among i) places (write_among es w (λ t. t) j i p v a.wrote a.earlier)

    go : (i k p q u v : ℕ) → EarlierWrite es w j i p u → EarlierWrite es w j k q v → (p ≡ q → ⊥) → (i ≡ k) ⊎ Ordered n es i k → Ordered n es i k
    go i k p q u v a b by-others (inl e) =
        absurd (by-others (sym a.wrote.processor ∙ ap (λ (x : ℕ). (event_at es x).step.processor) e ∙ b.wrote.processor))
    go i k p q u v a b by-others (inr o) = o

-- ---- the run

-- so many processors and locks, and one page
abbrev pub counting : ℕ → ℕ → Counts
counting processors locks = record { processors = processors; pages = 1; locks = locks }

-- an opening with counts in range is accepted
abbrev pub opening_with : Counts → Opening
opening_with c = record { first = 0; counts = c; rest = 0 }

pub in_range_accepted : (c : Counts) → counts_in_range mainframe c ≡ true → opening_refusal mainframe (opening_with c) ≡ 0
unfolding opening_refusal
in_range_accepted c in-range = rw in-range

-- the steps of a list, all of them accepted; who unfolds it unfolds what is computed of their order
unfoldable pub all_accepted : List Step → List Event
unfolding event_at action_of joins writes_before values_before LeadUp last_written is_write_to value_field
all_accepted ts = map (λ t. record { step = t; accepted = true }) ts

-- a step of a computed list is what its fields say
pub taken : {es : List Event} {i p : ℕ} {a : Action} → (event_at es i).accepted ≡ true → (event_at es i).step.processor ≡ p → action_of (event_at es i).step ≡ a → Took es i p a
taken accepted processor action = record { accepted = accepted; processor = processor; action = action }

-- the accepted and refused steps of a run from an opening
abbrev pub events_from : Counts → List Step → List Event
events_from c ts = events ts (answers mainframe (opened mainframe c) ts)

module _ (c : Counts) (in-range : counts_in_range mainframe c ≡ true) (ts : List Step) where
  -- they are computed without the test of order at each step
  pub events_computed : (es : List Event) → events ts (answers_in_order mainframe (opened mainframe c) ts) ≡ es → events_from c ts ≡ es
  events_computed es computed =
      ap (events ts) (answers_in_order_lem mainframe (opened mainframe c) ts (opened_in_order mainframe c in-range)) ∙ computed

  -- demand 3 gives the value of a read whose premise is met
  pub read_judged : (j p w : ℕ) → Took (events_from c ts) j p (Read w) → Synchronized c.processors (events_from c ts) w j
      → value_at (answers mainframe (opened mainframe c) ts) j ≡ last_written (events_from c ts) w j
  unfolding DemandThree mainframe
  read_judged j p w took sync = ((demand_three mainframe (opening_with c) (omega arith) (in_range_accepted c in-range) ts).reads j p w took).last sync
