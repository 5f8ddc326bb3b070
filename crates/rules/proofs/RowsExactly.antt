-- Document 01, "the first that applies is given, and only then": a step is accepted exactly when no row of the table of refusals applies to it, and
-- when 3, 7, 17 and 18 are given, and 5 for a tally. For 9 and 10 see Space, for 19 and 20 QueueSpace. Rests on Accepted and Outside. Assumes nothing.
use Prim.Native.Nat.{ℕ, ◌+◌, ◌≤◌}
use native.Mathlib.Omega.{arith}
use mathlib.Core.Path.{◌≡◌, refl, sym, ap, ◌∙◌}
use mathlib.Core.Bool.{Bool, true, false, cond, not, false≢true}
use mathlib.Core.Logic.{◌↔◌, ◌⊎◌, inl, inr}
use lib.Dec.{ltb, eqb}
use borrow.Author.Tests.{eqb-true, eqb-false, eq-eqb, ne_eqb, ltb-true, ltb-false, le-ltb}
use Rattle.lists.proofs.Tables.{any_at, any_holds}
use Rattle.rules.specs.State.{Limits, dirty_at, State, own, holder, has_arrived}
use Rattle.rules.specs.InOrder.{present, dirty_pages, is_in_order}
use Rattle.rules.specs.Lines.{waits}
use Rattle.rules.specs.Steps.{page_of_word}
use Rattle.rules.specs.Refusals.{Step, Action, Read, Write, Acquire, Release, Arrive, Want, TallyAdd, TallyRead, Enqueue, Dequeue, Unknown, action_of, known_kind, object_bound, fits, holds_any, late_refusal, refusal_by, refusal_in_order, refusal}
use Rattle.rules.specs.Rows.{Addressed, Comes, HoldsOne, NoRowApplies}
use Rattle.rules.proofs.inorder.Facts.{InOrder}
use Rattle.rules.proofs.inorder.Outside.{not_held_outside}
use Rattle.rules.proofs.inorder.Accepted.{Accepted, accepted_says, present_says, late_enqueue, late_dequeue}

-- ---- the rows for every step

module _ (lim : Limits) (s : State) (t : Step) where
  -- below them 17, and then the rows by kind
  addressed_refusal : Addressed lim s t
      → refusal_in_order lim s t ≡ cond (waits s.marks t.processor) 17 (late_refusal lim s (own s t.processor) t.processor (action_of t))
  unfolding refusal_in_order refusal_by
  addressed_refusal h = rw (h.known_kind_lem, h.processor_present, h.fields_fit, h.not_arrived)

  -- the rows by kind
  pub coming_refusal : Comes lim s t → refusal_in_order lim s t ≡ late_refusal lim s (own s t.processor) t.processor (action_of t)
  coming_refusal h = addressed_refusal h.addressed ∙ rw h.not_waiting

  -- the rows by kind give neither 17 nor a row above 7
  pub record ByKind (n : ℕ) : Type 0 where
    pub not_17 : n ≡ 17 → ⊥
    pub from_7 : 1 ≤ n → 7 ≤ n

  pub late_by_kind : (e p : ℕ) (a : Action) → ByKind (late_refusal lim s e p a)
  unfolding late_refusal
  late_by_kind e p (Read w) = record { not_17 = λ z. omega (arith, z); from_7 = λ z. omega (arith, z) }
  late_by_kind e p (Write w v) = go (dirty_at s.pages p (page_of_word lim w)) (eqb e lim.intervals) (eqb (s.records.standing + dirty_pages s) lim.records)
    where
      go : (a b c : Bool) → ByKind (cond a 0 (cond b 9 (cond c 10 0)))
      go true b c = record { not_17 = λ z. omega (arith, z); from_7 = λ z. omega (arith, z) }
      go false true c = record { not_17 = λ z. omega (arith, z); from_7 = λ z. omega (arith, z) }
      go false false true = record { not_17 = λ z. omega (arith, z); from_7 = λ z. omega (arith, z) }
      go false false false = record { not_17 = λ z. omega (arith, z); from_7 = λ z. omega (arith, z) }
  late_by_kind e p (Acquire l) = go (eqb (holder s l) p)
    where
      go : (b : Bool) → ByKind (cond b 7 0)
      go true = record { not_17 = λ z. omega (arith, z); from_7 = λ z. omega (arith, z) }
      go false = record { not_17 = λ z. omega (arith, z); from_7 = λ z. omega (arith, z) }
  late_by_kind e p (Release l) = go (eqb (holder s l) p)
    where
      go : (b : Bool) → ByKind (cond b 0 8)
      go true = record { not_17 = λ z. omega (arith, z); from_7 = λ z. omega (arith, z) }
      go false = record { not_17 = λ z. omega (arith, z); from_7 = λ z. omega (arith, z) }
  late_by_kind e p Arrive = go (holds_any lim s p)
    where
      go : (b : Bool) → ByKind (cond b 18 0)
      go true = record { not_17 = λ z. omega (arith, z); from_7 = λ z. omega (arith, z) }
      go false = record { not_17 = λ z. omega (arith, z); from_7 = λ z. omega (arith, z) }
  late_by_kind e p Want = record { not_17 = λ z. omega (arith, z); from_7 = λ z. omega (arith, z) }
  late_by_kind e p (TallyAdd j v) = record { not_17 = λ z. omega (arith, z); from_7 = λ z. omega (arith, z) }
  late_by_kind e p (TallyRead j) = record { not_17 = λ z. omega (arith, z); from_7 = λ z. omega (arith, z) }
  late_by_kind e p (Enqueue v) = go (eqb s.marks.jobs lim.jobs)
    where
      go : (b : Bool) → ByKind (cond b 19 0)
      go true = record { not_17 = λ z. omega (arith, z); from_7 = λ z. omega (arith, z) }
      go false = record { not_17 = λ z. omega (arith, z); from_7 = λ z. omega (arith, z) }
  late_by_kind e p Dequeue = go (eqb s.marks.jobs 0)
    where
      go : (b : Bool) → ByKind (cond b 20 0)
      go true = record { not_17 = λ z. omega (arith, z); from_7 = λ z. omega (arith, z) }
      go false = record { not_17 = λ z. omega (arith, z); from_7 = λ z. omega (arith, z) }
  late_by_kind e p Unknown = record { not_17 = λ z. omega (arith, z); from_7 = λ z. omega (arith, z) }

  -- where another number than theirs is given, none of the rows for every step applies
  pub late_rows_come : (n : ℕ) → 7 ≤ n → (n ≡ 17 → ⊥) → refusal_in_order lim s t ≡ n → Comes lim s t
  unfolding refusal_in_order refusal_by
  late_rows_come n late other = go (known_kind t.kind) (present s t.processor) (fits lim s t) (has_arrived s t.processor) (waits s.marks t.processor) refl refl refl refl refl
    where
      go : (a b c d w : Bool) → known_kind t.kind ≡ a → present s t.processor ≡ b → fits lim s t ≡ c → has_arrived s t.processor ≡ d → waits s.marks t.processor ≡ w
          → cond (not a) 3 (cond (not b) 4 (cond (not c) 5 (cond d 6 (cond w 17 (late_refusal lim s (own s t.processor) t.processor (action_of t)))))) ≡ n
          → Comes lim s t
      go false b c d w h₃ h₄ h₅ h₆ h₁₇ e = absurd (omega (arith, e, late))
      go true false c d w h₃ h₄ h₅ h₆ h₁₇ e = absurd (omega (arith, e, late))
      go true true false d w h₃ h₄ h₅ h₆ h₁₇ e = absurd (omega (arith, e, late))
      go true true true true w h₃ h₄ h₅ h₆ h₁₇ e = absurd (omega (arith, e, late))
      go true true true false true h₃ h₄ h₅ h₆ h₁₇ e = absurd (other (sym e))
      go true true true false false h₃ h₄ h₅ h₆ h₁₇ e =
          record { addressed = record { known_kind_lem = h₃; processor_present = h₄; fields_fit = h₅; not_arrived = h₆ }; not_waiting = h₁₇ }

  -- 3 is given exactly where the kind is not known
  pub three_exactly_when : refusal_in_order lim s t ≡ 3 ↔ known_kind t.kind ≡ false
  unfolding refusal_in_order refusal_by
  three_exactly_when = go (known_kind t.kind) (present s t.processor) (fits lim s t) (has_arrived s t.processor) (waits s.marks t.processor)
    where
      go : (a b c d w : Bool)
          → ◌≡◌ {A = ℕ} (cond (not a) 3 (cond (not b) 4 (cond (not c) 5 (cond d 6 (cond w 17 (late_refusal lim s (own s t.processor) t.processor (action_of t))))))) 3
          ↔ (a ≡ false)
      go false b c d w = (λ e. refl, λ e. refl)
      go true false c d w = (λ e. absurd (omega (arith, e)), λ e. absurd (false≢true (sym e)))
      go true true false d w = (λ e. absurd (omega (arith, e)), λ e. absurd (false≢true (sym e)))
      go true true true true w = (λ e. absurd (omega (arith, e)), λ e. absurd (false≢true (sym e)))
      go true true true false true = (λ e. absurd (omega (arith, e)), λ e. absurd (false≢true (sym e)))
      go true true true false false =
          (λ e. absurd (omega (arith, e, (late_by_kind (own s t.processor) t.processor (action_of t)).from_7 (omega (arith, e)))), λ e. absurd (false≢true (sym e)))

  -- 17 is given exactly where the processor waits
  pub seventeen_exactly_when : Addressed lim s t → refusal_in_order lim s t ≡ 17 ↔ waits s.marks t.processor ≡ true
  seventeen_exactly_when h = rw (addressed_refusal h) (go (waits s.marks t.processor))
    where
      go : (b : Bool) → (◌≡◌ {A = ℕ} (cond b 17 (late_refusal lim s (own s t.processor) t.processor (action_of t))) 17) ↔ (b ≡ true)
      go true = (λ e. refl, λ e. refl)
      go false = (λ e. absurd ((late_by_kind (own s t.processor) t.processor (action_of t)).not_17 e), λ e. absurd (false≢true e))

  -- 7 exactly where the processor that acquires holds the lock
  pub seven_exactly_when : (l : ℕ) → Comes lim s t → action_of t ≡ Acquire l → refusal_in_order lim s t ≡ 7 ↔ holder s l ≡ t.processor
  unfolding late_refusal
  seven_exactly_when l h is = rw (coming_refusal h, is) (go (eqb (holder s l) t.processor) refl)
    where
      go : (b : Bool) → eqb (holder s l) t.processor ≡ b → (◌≡◌ {A = ℕ} (cond b 7 0) 7) ↔ (holder s l ≡ t.processor)
      go true d = (λ e. eqb-true (holder s l) t.processor d, λ e. refl)
      go false d = (λ e. absurd (omega (arith, e)), λ e. absurd (eqb-false (holder s l) t.processor d e))

-- so a known kind is never refused with 3
pub known_never_3 : (lim : Limits) (s : State) (t : Step) → known_kind t.kind ≡ true → refusal lim s t ≡ 3 → ⊥
unfolding refusal
known_never_3 lim s t known = go (is_in_order lim s)
  where
    go : (o : Bool) → ◌≡◌ {A = ℕ} (cond o (refusal_in_order lim s t) 1) 3 → ⊥
    go true e = false≢true (sym ((three_exactly_when lim s t).0 e) ∙ known)
    go false e = omega (arith, e)

-- ---- tallies: "an absent tally is 5, and kinds 8 and 9 leave the reach of 3"

-- the kinds of the tallies are known
tallies_known : (k : ℕ) → (k ≡ 8) ⊎ (k ≡ 9) → known_kind k ≡ true
unfolding known_kind
tallies_known k (inl e) = rw e
tallies_known k (inr e) = rw e

-- their object is below the number of tallies
tally_bound : (lim : Limits) (s : State) (t : Step) → (t.kind ≡ 8) ⊎ (t.kind ≡ 9) → object_bound lim s (action_of t) ≡ lim.tallies
unfolding action_of object_bound
tally_bound lim s t (inl e) = rw e
tally_bound lim s t (inr e) = rw e

module _ (lim : Limits) (s : State) (t : Step) (tally : (t.kind ≡ 8) ⊎ (t.kind ≡ 9)) where
  pub absent_tally_is_5 : is_in_order lim s ≡ true → present s t.processor ≡ true → lim.tallies ≤ t.object → refusal lim s t ≡ 5
  unfolding refusal refusal_in_order refusal_by fits
  absent_tally_is_5 ordered here absent =
      rw (ordered, tallies_known t.kind tally, here, tally_bound lim s t tally, le-ltb t.object lim.tallies absent)

  pub tally_never_3 : refusal lim s t ≡ 3 → ⊥
  tally_never_3 = known_never_3 lim s t (tallies_known t.kind tally)

-- ---- who holds a lock

-- a lock that a processor holds is one of those there is place for
pub holds_any_exactly : (lim : Limits) (s : State) (p : ℕ) → InOrder lim s → present s p ≡ true → holds_any lim s p ≡ true ↔ HoldsOne s p
unfolding holds_any
holds_any_exactly lim s p o here = (
  λ e. let found = any_at lim.locks (λ l. eqb (holder s l) p) e in record { lock = found.at; holds = eqb-true (holder s found.at) p found.passes },
  λ h. go h (ltb h.lock lim.locks) refl,
)
  where
    go : (h : HoldsOne s p) (b : Bool) → ltb h.lock lim.locks ≡ b → holds_any lim s p ≡ true
    go h true e = any_holds lim.locks (λ l. eqb (holder s l) p) h.lock (ltb-true h.lock lim.locks e) (eq-eqb (holder s h.lock) p h.holds)
    go h false e = absurd (omega (arith, h.holds, not_held_outside lim s o.sized h.lock (ltb-false h.lock lim.locks e), (present_says s p here).0))

-- 18 exactly where the processor that arrives holds a lock
pub eighteen_exactly_when : (lim : Limits) (s : State) (t : Step) → InOrder lim s → Comes lim s t → action_of t ≡ Arrive → refusal_in_order lim s t ≡ 18 ↔ HoldsOne s t.processor
unfolding late_refusal
eighteen_exactly_when lim s t o h is = rw (coming_refusal lim s t h, is) (go (holds_any lim s t.processor) refl)
  where
    both : holds_any lim s t.processor ≡ true ↔ HoldsOne s t.processor
    both = holds_any_exactly lim s t.processor o h.addressed.processor_present

    go : (b : Bool) → holds_any lim s t.processor ≡ b → (◌≡◌ {A = ℕ} (cond b 18 0) 18) ↔ HoldsOne s t.processor
    go true d = (λ e. both.0 d, λ e. refl)
    go false d = (λ e. absurd (omega (arith, e)), λ e. absurd (false≢true (sym d ∙ both.1 e)))

-- ---- no row

module _ (lim : Limits) (s : State) (t : Step) (o : InOrder lim s) where
  abbrev p : ℕ
  p = t.processor

  -- where the rows for every step do not apply, no row by kind does
  late_none : NoRowApplies lim s t → (a : Action) → action_of t ≡ a → late_refusal lim s (own s t.processor) t.processor a ≡ 0
  unfolding late_refusal
  late_none h (Read w) is = refl
  late_none h (Write w v) is =
      go (dirty_at s.pages p (page_of_word lim w)) (eqb (own s p) lim.intervals) (eqb (s.records.standing + dirty_pages s) lim.records) refl refl refl
    where
      go : (a b c : Bool) → dirty_at s.pages p (page_of_word lim w) ≡ a → eqb (own s p) lim.intervals ≡ b → eqb (s.records.standing + dirty_pages s) lim.records ≡ c
          → ◌≡◌ {A = ℕ} (cond a 0 (cond b 9 (cond c 10 0))) 0
      go true b c d e f = refl
      go false true c d e f = absurd (h.has_interval w v is d (eqb-true (own s p) lim.intervals e))
      go false false true d e f = absurd (h.has_room w v is d (eqb-true (s.records.standing + dirty_pages s) lim.records f))
      go false false false d e f = refl
  late_none h (Acquire l) is = ap (λ (b : Bool). cond b 7 0) (ne_eqb (holder s l) p (h.not_its_own l is))
  late_none h (Release l) is = ap (λ (b : Bool). cond b 0 8) (eq-eqb (holder s l) p (h.its_own l is))
  late_none h Arrive is = go (holds_any lim s p) refl
    where
      go : (b : Bool) → holds_any lim s p ≡ b → ◌≡◌ {A = ℕ} (cond b 18 0) 0
      go true e = absurd (h.holds_none is ((holds_any_exactly lim s p o h.comes.addressed.processor_present).0 e))
      go false e = refl
  late_none h Want is = refl
  late_none h (TallyAdd j v) is = refl
  late_none h (TallyRead j) is = refl
  late_none h (Enqueue v) is = ap (λ (b : Bool). cond b 19 0) (ne_eqb s.marks.jobs lim.jobs (h.has_place v is))
  late_none h Dequeue is = ap (λ (b : Bool). cond b 20 0) (ne_eqb s.marks.jobs 0 (h.has_job is))
  late_none h Unknown is = refl

  -- what an accepted step says, row by row
  none_applies : Accepted lim s t → NoRowApplies lim s t
  unfolding late_refusal
  none_applies a =
      record {
        comes =
            record {
              addressed = record { known_kind_lem = a.known_kind_lem; processor_present = a.processor_present; fields_fit = a.fields_fit; not_arrived = a.not_arrived };
              not_waiting = a.not_waiting;
            };
        holds_none = λ is h. arrives (rw is at a.not_late) ((holds_any_exactly lim s p o a.processor_present).1 h);
        not_its_own = λ l is e. acquires l (rw is at a.not_late) (eq-eqb (holder s l) p e);
        its_own = λ l is. releases l (rw is at a.not_late) (eqb (holder s l) p) refl;
        has_interval = λ w v is clean e. writes w (rw is at a.not_late) clean (eq-eqb (own s p) lim.intervals e);
        has_room = λ w v is clean e. room w (rw is at a.not_late) clean (eqb (own s p) lim.intervals) refl (eq-eqb (s.records.standing + dirty_pages s) lim.records e);
        has_place = λ v is. late_enqueue lim s (own s p) p v (rw is at a.not_late);
        has_job = λ is. late_dequeue lim s (own s p) p (rw is at a.not_late);
      }
    where
      arrives : ◌≡◌ {A = ℕ} (cond (holds_any lim s p) 18 0) 0 → holds_any lim s p ≡ true → ⊥
      arrives z e = omega (arith, ap (λ (b : Bool). cond {A = ℕ} b 18 0) (sym e) ∙ z)

      acquires : (l : ℕ) → ◌≡◌ {A = ℕ} (cond (eqb (holder s l) p) 7 0) 0 → eqb (holder s l) p ≡ true → ⊥
      acquires l z e = omega (arith, ap (λ (b : Bool). cond {A = ℕ} b 7 0) (sym e) ∙ z)

      releases : (l : ℕ) → ◌≡◌ {A = ℕ} (cond (eqb (holder s l) p) 0 8) 0 → (b : Bool) → eqb (holder s l) p ≡ b → holder s l ≡ p
      releases l z true e = eqb-true (holder s l) p e
      releases l z false e = absurd (omega (arith, ap (λ (b : Bool). cond {A = ℕ} b 0 8) (sym e) ∙ z))

      writes : (w : ℕ) → ◌≡◌ {A = ℕ} (cond (dirty_at s.pages p (page_of_word lim w)) 0 (cond (eqb (own s p) lim.intervals) 9 (cond (eqb (s.records.standing + dirty_pages s) lim.records) 10 0))) 0
          → dirty_at s.pages p (page_of_word lim w) ≡ false → eqb (own s p) lim.intervals ≡ true → ⊥
      writes w z clean e = omega (arith, rw (clean, e) at z)

      room : (w : ℕ) → ◌≡◌ {A = ℕ} (cond (dirty_at s.pages p (page_of_word lim w)) 0 (cond (eqb (own s p) lim.intervals) 9 (cond (eqb (s.records.standing + dirty_pages s) lim.records) 10 0))) 0
          → dirty_at s.pages p (page_of_word lim w) ≡ false → (b : Bool) → eqb (own s p) lim.intervals ≡ b → eqb (s.records.standing + dirty_pages s) lim.records ≡ true → ⊥
      room w z clean true e full = omega (arith, rw (clean, e) at z)
      room w z clean false e full = omega (arith, rw (clean, e, full) at z)

  -- a step is accepted exactly when no row applies
  pub accepted_exactly_when : refusal_in_order lim s t ≡ 0 ↔ NoRowApplies lim s t
  accepted_exactly_when = (λ e. none_applies (accepted_says lim s t e), λ h. coming_refusal lim s t h.comes ∙ late_none h (action_of t) refl)
