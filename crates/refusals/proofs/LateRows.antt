-- The rows behind 17, each for its kind. Assumes nothing.
use Rattle.std.proofs.Common.{◌≡◌, ℕ, ◌<◌, Bool, true, false, not, eqb, List, sym, ap, ◌∙◌, arith, ne_eqb}
use borrow.Author.Tests.{not-true, not-false}
use Rattle.limits.specs.Limits.{job_limit}
use Rattle.rules.specs.Refusals.{Write, holds_any, late_refusal}
use Rattle.rules.specs.State.{mainframe, holder}
use Rattle.layout.specs.Areas.{marks_in, state_in}
use Rattle.layout.specs.inner.Marks.{holder_mark, jobs_mark}
use Rattle.layout.specs.inner.Needed.{LockMark}
use Rattle.step_fields.specs.Kinds.{number_of_kind}
use Rattle.step_fields.specs.declared.kinds.Kind.{Kind}
use Rattle.step_fields.specs.declared.kinds.Kind.TheVariants as kinds
use Rattle.refusals.specs.inner.Parts.{seen, refusal_of_kind}
use Rattle.refusals.specs.inner.Needed.{FittingStep, WriteOf}
use Rattle.refusals.proofs.Marked.{holder_seen}

module _ (m : List ℕ) (n p o : ℕ) (k : Kind) (h : FittingStep m (number_of_kind k) p o) where
  -- what a write asks of word and processor
  pub write_of_kind : k ≡ kinds.Write → WriteOf m p o
  write_of_kind e = record { by = h.by; word = h.word (ap number_of_kind e) }

  -- 9 and 10
  pub write_decides : (r : ℕ) → k ≡ kinds.Write → r ≡ late_refusal mainframe (seen m) n p (Write o 0) → r ≡ refusal_of_kind (seen m) n (number_of_kind k) p o
  unfolding refusal_of_kind
  write_decides r e i = rw e i

  -- what an acquire or a release asks of its lock
  pub lock_of_acquire : k ≡ kinds.Acquire → LockMark m o
  lock_of_acquire e =
      let is : number_of_kind k ≡ 3 = ap number_of_kind e in
      record { marks = h.by.counted.marks; lock = h.lock (omega arith) (omega arith) }

  pub lock_of_release : k ≡ kinds.Release → LockMark m o
  lock_of_release e =
      let is : number_of_kind k ≡ 4 = ap number_of_kind e in
      record { marks = h.by.counted.marks; lock = h.lock (omega arith) (omega arith) }

  module _ (x : ℕ) (mark : x ≡ holder_mark m o) where
    acquires : k ≡ kinds.Acquire → x ≡ holder (seen m) o
    acquires e = holder_seen m o x (lock_of_acquire e) mark

    releases : k ≡ kinds.Release → x ≡ holder (seen m) o
    releases e = holder_seen m o x (lock_of_release e) mark

    module _ (b : Bool) where
      -- 7: "7 remains for the holder's own acquire"
      pub holder_asks : k ≡ kinds.Acquire → b ≡ eqb x p → b ≡ true → 7 ≡ refusal_of_kind (seen m) n (number_of_kind k) p o
      unfolding refusal_of_kind late_refusal
      holder_asks e is t = rw (e, ← acquires e, ← is, t)

      pub other_asks : k ≡ kinds.Acquire → b ≡ eqb x p → b ≡ false → 0 ≡ refusal_of_kind (seen m) n (number_of_kind k) p o
      unfolding refusal_of_kind late_refusal
      other_asks e is t = rw (e, ← acquires e, ← is, t)

      -- 8: "this card is not the holder"
      pub other_releases : k ≡ kinds.Release → b ≡ not (eqb x p) → b ≡ true → 8 ≡ refusal_of_kind (seen m) n (number_of_kind k) p o
      unfolding refusal_of_kind late_refusal
      other_releases e is t = rw (e, ← releases e, not-true (eqb x p) (sym is ∙ t))

      pub holder_releases : k ≡ kinds.Release → b ≡ not (eqb x p) → b ≡ false → 0 ≡ refusal_of_kind (seen m) n (number_of_kind k) p o
      unfolding refusal_of_kind late_refusal
      holder_releases e is t = rw (e, ← releases e, not-false (eqb x p) (sym is ∙ t))

  module _ (b : Bool) (is : b ≡ holds_any mainframe (seen m) p) where
    -- 18: "an arrival by a holder"
    pub holder_arrives : k ≡ kinds.Arrive → b ≡ true → 18 ≡ refusal_of_kind (seen m) n (number_of_kind k) p o
    unfolding refusal_of_kind late_refusal
    holder_arrives e t = rw (e, ← is, t)

    pub other_arrives : k ≡ kinds.Arrive → b ≡ false → 0 ≡ refusal_of_kind (seen m) n (number_of_kind k) p o
    unfolding refusal_of_kind late_refusal
    other_arrives e t = rw (e, ← is, t)

  module _ (x : ℕ) (jobs : (x ≡ jobs_mark m) × (x < 256)) where
    -- 19: "enqueue with 32 jobs waiting"
    pub queue_full : k ≡ kinds.Enqueue → x ≡ job_limit → 19 ≡ refusal_of_kind (seen m) n (number_of_kind k) p o
    unfolding refusal_of_kind late_refusal seen state_in marks_in mainframe
    queue_full e t = rw (e, ← jobs.0, t)

    pub queue_has_place : k ≡ kinds.Enqueue → (x ≡ job_limit → ⊥) → 0 ≡ refusal_of_kind (seen m) n (number_of_kind k) p o
    unfolding refusal_of_kind late_refusal seen state_in marks_in mainframe
    queue_has_place e t = rw (e, ← jobs.0, ne_eqb x job_limit t)

    -- 20: "dequeue with none"
    pub queue_empty : k ≡ kinds.Dequeue → x ≡ 0 → 20 ≡ refusal_of_kind (seen m) n (number_of_kind k) p o
    unfolding refusal_of_kind late_refusal seen state_in marks_in mainframe
    queue_empty e t = rw (e, ← jobs.0, t)

    pub queue_has_job : k ≡ kinds.Dequeue → (x ≡ 0 → ⊥) → 0 ≡ refusal_of_kind (seen m) n (number_of_kind k) p o
    unfolding refusal_of_kind late_refusal seen state_in marks_in mainframe
    queue_has_job e t = rw (e, ← jobs.0, ne_eqb x 0 t)
