-- What an accepted step says: each row of the table of refusals that did not apply, and that its processor, its word and its lock are
-- present. Rests on KindsOfSteps and KeptParts. Assumes nothing.
use Prim.Native.Nat.{ℕ, zero, suc, ◌*◌, ◌/◌, ◌≤◌, ◌<◌}
use native.Mathlib.Omega.{arith}
use native.Mathlib.Nat.{mul-zero, div-lt_iff_lt-mul}
use mathlib.Core.Path.{◌≡◌, refl}
use mathlib.Core.Bool.{Bool, true, false, cond, not, ◌||◌, and-eq-true_iff}
use lib.Dec.{ltb, eqb}
use borrow.Author.Tests.{ltb-true, eqb-false}
use Rattle.rules.specs.State.{Limits, State, own, holder, has_arrived}
use Rattle.rules.specs.Lines.{waits}
use Rattle.rules.specs.InOrder.{present}
use Rattle.rules.specs.Steps.{page_of_word}
use Rattle.rules.specs.Refusals.{TallyAdd, Step, Action, Read, Write, Acquire, Release, Arrive, Enqueue, Dequeue, action_of, known_kind, object_bound, uses_value, fits, holds_any, late_refusal, refusal_by, refusal_in_order}
use Rattle.rules.proofs.inorder.KindsOfSteps.{object_in, object_in_lem}
use Rattle.rules.proofs.inorder.KeptParts.{among_says, among_when}

pub record Accepted (lim : Limits) (s : State) (t : Step) : Type 0 where
  pub known_kind_lem : known_kind t.kind ≡ true
  pub processor_present : present s t.processor ≡ true
  pub fields_fit : fits lim s t ≡ true
  pub not_arrived : has_arrived s t.processor ≡ false
  pub not_waiting : waits s.marks t.processor ≡ false
  pub not_late : late_refusal lim s (own s t.processor) t.processor (action_of t) ≡ 0

pub accepted_says : (lim : Limits) (s : State) (t : Step) → refusal_in_order lim s t ≡ 0 → Accepted lim s t
unfolding refusal_in_order refusal_by
accepted_says lim s t e =
    go (known_kind t.kind) (present s t.processor) (fits lim s t) (has_arrived s t.processor) (waits s.marks t.processor) refl refl refl refl refl e
  where
    go : (a b c d w : Bool) → known_kind t.kind ≡ a → present s t.processor ≡ b → fits lim s t ≡ c → has_arrived s t.processor ≡ d → waits s.marks t.processor ≡ w
        → cond (not a) 3 (cond (not b) 4 (cond (not c) 5 (cond d 6 (cond w 17 (late_refusal lim s (own s t.processor) t.processor (action_of t)))))) ≡ 0 → Accepted lim s t
    go false b c d w p q r u v e = absurd (omega arith)
    go true false c d w p q r u v e = absurd (omega arith)
    go true true false d w p q r u v e = absurd (omega arith)
    go true true true true w p q r u v e = absurd (omega arith)
    go true true true false true p q r u v e = absurd (omega arith)
    go true true true false false p q r u v e = record { known_kind_lem = p; processor_present = q; fields_fit = r; not_arrived = u; not_waiting = v; not_late = e }

-- an acquire that is not refused is not by the holder
pub late_acquire : (lim : Limits) (s : State) (e p l : ℕ) → late_refusal lim s e p (Acquire l) ≡ 0 → holder s l ≡ p → ⊥
unfolding late_refusal
late_acquire lim s e p l z same = go (eqb (holder s l) p) refl z
  where
    go : (b : Bool) → eqb (holder s l) p ≡ b → cond {A = ℕ} b 7 0 ≡ 0 → ⊥
    go true d z = omega (arith, z)
    go false d z = eqb-false (holder s l) p d same

-- an arrival that is not refused is not by a holder
pub late_arrive : (lim : Limits) (s : State) (e p : ℕ) → late_refusal lim s e p Arrive ≡ 0 → holds_any lim s p ≡ false
unfolding late_refusal
late_arrive lim s e p z = go (holds_any lim s p) refl z
  where
    go : (b : Bool) → holds_any lim s p ≡ b → cond {A = ℕ} b 18 0 ≡ 0 → holds_any lim s p ≡ false
    go true d z = absurd (omega (arith, z))
    go false d z = d

-- an enqueue that is not refused finds room, and a dequeue a job
pub late_enqueue : (lim : Limits) (s : State) (e p v : ℕ) → late_refusal lim s e p (Enqueue v) ≡ 0 → s.marks.jobs ≡ lim.jobs → ⊥
unfolding late_refusal
late_enqueue lim s e p v z same = go (eqb s.marks.jobs lim.jobs) refl z
  where
    go : (b : Bool) → eqb s.marks.jobs lim.jobs ≡ b → cond {A = ℕ} b 19 0 ≡ 0 → ⊥
    go true d z = omega (arith, z)
    go false d z = eqb-false s.marks.jobs lim.jobs d same

pub late_dequeue : (lim : Limits) (s : State) (e p : ℕ) → late_refusal lim s e p Dequeue ≡ 0 → s.marks.jobs ≡ 0 → ⊥
unfolding late_refusal
late_dequeue lim s e p z same = go (eqb s.marks.jobs 0) refl z
  where
    go : (b : Bool) → eqb s.marks.jobs 0 ≡ b → cond {A = ℕ} b 20 0 ≡ 0 → ⊥
    go true d z = omega (arith, z)
    go false d z = eqb-false s.marks.jobs 0 d same

-- ---- a present processor is 1 to the number of processors

pub present_says : (s : State) (p : ℕ) → present s p ≡ true → (1 ≤ p) × (p ≤ s.counts.processors)
unfolding present
present_says s p e = among_says s.counts p e

pub present_when : (s : State) (p : ℕ) → 1 ≤ p → p ≤ s.counts.processors → present s p ≡ true
unfolding present
present_when s p h k = among_when s.counts p h k

-- ---- the fields of an accepted step

-- a present word lies on a present page
pub word_on_page : (w words pages : ℕ) → w < pages * words → w / words < pages
word_on_page w zero pages h = absurd (omega (arith, h, mul-zero pages))
word_on_page w (suc words) pages h = (div-lt_iff_lt-mul {k = suc words} (omega arith)).1 h

-- it is below the bound of the action
pub object_there : (lim : Limits) (s : State) (t : Step) (a : Action) → action_of t ≡ a → fits lim s t ≡ true → object_in t.object a < object_bound lim s a
unfolding fits
object_there lim s t a e f =
    let below = ltb-true _ _ ((and-eq-true_iff (ltb t.object (object_bound lim s (action_of t))) (uses_value t.kind || eqb t.value 0)).0 f).0 in
    let here : object_in t.object (action_of t) < object_bound lim s (action_of t) = rw (object_in_lem t) below in
    rw e at here

-- the word of a read or write is on a present page
pub read_on_page : (lim : Limits) (s : State) (t : Step) (x : ℕ) → action_of t ≡ Read x → Accepted lim s t → page_of_word lim x < s.counts.pages
unfolding object_bound object_in page_of_word
read_on_page lim s t x e a = word_on_page x lim.words s.counts.pages (object_there lim s t (Read x) e a.fields_fit)

pub write_on_page : (lim : Limits) (s : State) (t : Step) (x v : ℕ) → action_of t ≡ Write x v → Accepted lim s t → page_of_word lim x < s.counts.pages
unfolding object_bound object_in page_of_word
write_on_page lim s t x v e a = word_on_page x lim.words s.counts.pages (object_there lim s t (Write x v) e a.fields_fit)

-- the lock of an acquire or release is present
pub acquire_there : (lim : Limits) (s : State) (t : Step) (x : ℕ) → action_of t ≡ Acquire x → Accepted lim s t → x < s.counts.locks
unfolding object_bound object_in
acquire_there lim s t x e a = object_there lim s t (Acquire x) e a.fields_fit

pub release_there : (lim : Limits) (s : State) (t : Step) (x : ℕ) → action_of t ≡ Release x → Accepted lim s t → x < s.counts.locks
unfolding object_bound object_in
release_there lim s t x e a = object_there lim s t (Release x) e a.fields_fit

-- the tally of an add is present
pub add_there : (lim : Limits) (s : State) (t : Step) (x v : ℕ) → action_of t ≡ TallyAdd x v → Accepted lim s t → x < lim.tallies
unfolding object_bound object_in
add_there lim s t x v e a = object_there lim s t (TallyAdd x v) e a.fields_fit
