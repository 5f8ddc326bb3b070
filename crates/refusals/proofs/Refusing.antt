-- The rows 3 to 6 and 17 in the table's order, the whole table, and `refusal_laws`, by which every function's proof searches. Assumes nothing.
use Rattle.std.proofs.Common.{◌≡◌, ℕ, Bool, true, false, cond, not, ◌&&◌, ◌||◌, eqb, ltb, List, sym, refl, ap, ◌∙◌, arith, rules}
use mathlib.Core.Bool.{and-eq-true_iff}
use borrow.Author.Tests.{not-true, not-false}
use Rattle.limits.specs.Refused.{number_of}
use Rattle.limits.specs.declared.Refusal.{Refusal}
use Rattle.limits.specs.declared.Refusal.TheVariants.{NotInOrder, BadOpening, UnknownKind, AbsentProcessor, BadField, HasArrived, HoldsAlready, NotHolder, NoIntervalLeft, NoRecordLeft, BadLength, BadPair, NoRoom, BadPage, EndsShort, TooManySteps, Waits, ArrivesHolding, QueueFull, QueueEmpty}
use Rattle.rules.specs.InOrder.{present, present_holder, dirty_pages}
use Rattle.rules.specs.Lines.{waits}
use Rattle.rules.specs.Refusals.{Step, step_of, Action, Read, Write, Acquire, Release, Arrive, Want, TallyAdd, TallyRead, Enqueue, Dequeue, Unknown, action_of, known_kind, object_bound, uses_value, fits, holds_any, late_refusal, refusal_by, refusal_in_order}
use Rattle.rules.specs.State.{mainframe, dirty_at, State, own, holder, has_arrived}
use Rattle.rules.proofs.inorder.Accepted.{present_says}
use Rattle.rules.proofs.inorder.KindsOfSteps.{by_kind}
use Rattle.layout.specs.Areas.{pages_in, records_in, state_in}
use Rattle.layout.specs.inner.Marks.{arrived_mark, awaited_mark}
use Rattle.layout.specs.inner.Needed.{MarksOf, Ready}
use Rattle.refusals.specs.inner.Parts.{seen, bound_of, fields_in_range, is_free, may_act, step_in_range, early_refusal, refusal_of_kind}
use Rattle.refusals.specs.inner.Needed.{MarksCountable, PagesOf, FittingStep}
use Rattle.refusals.proofs.Marked.{arrived_seen, waiting_seen}
use Rattle.refusals.proofs.Counting.{counting_begins, counting_more, counting_ends, records_to_come_are, marks_decide_room}
use Rattle.refusals.proofs.ByKind.{word_there, lock_there, page_of_word_lem, dirty_takes_stores, no_interval_left, no_room_left, write_has_space, write_has_ample_space, held_begins, held_more, held_ends}
use Rattle.refusals.proofs.LateRows.{write_of_kind, write_decides, lock_of_acquire, lock_of_release, holder_asks, other_asks, holder_releases, other_releases, holder_arrives, other_arrives, queue_full, queue_has_place, queue_empty, queue_has_job}
use Rattle.refusals.proofs.Fitting.{fields_flagged, processor_flagged, fits_by_flags}

-- ---- the rows 3 to 6 and 17, one after the other

module _ (m : List ℕ) (k p o v : ℕ) where
  -- 3: "kind not 1 to 6"
  pub kind_refused : known_kind k ≡ false → 3 ≡ early_refusal (seen m) k p o v
  unfolding early_refusal
  kind_refused e = rw e

  module _ (known : known_kind k ≡ true) (b : Bool) (there : b ≡ present (seen m) p) where
    -- 4: "card absent"
    pub processor_refused : not b ≡ true → 4 ≡ early_refusal (seen m) k p o v
    unfolding early_refusal
    processor_refused t = rw (known, ← there, t)

    module _ (counted : MarksCountable m) (is_there : not b ≡ false) where
      by : PagesOf m p
      unfolding seen state_in
      by =
          let is = present_says (seen m) p (sym there ∙ not-false b is_there) in
          record { counted = counted; from = is.0; to = omega (arith, is.1, counted.processors) }

      -- a present processor has marks
      pub marks_of_step : MarksOf m p
      marks_of_step = record { marks = counted.marks; from = by.from; to = by.to }

      module _ (f : Bool) (fit : f ≡ fields_in_range (seen m) k o v) where
        -- 5: "word or lock absent, or an unused field not 0"
        pub fields_refused : not f ≡ true → 5 ≡ early_refusal (seen m) k p o v
        unfolding early_refusal
        fields_refused t = rw (known, ← there, is_there, ← fit, t)

        module _ (fits? : not f ≡ false) (a : Bool) (mark : a ≡ not (eqb (arrived_mark m p) 0)) where
          arrived : a ≡ has_arrived (seen m) p
          arrived = arrived_seen m a p by.from by.to mark

          -- 6: "card has arrived, round not complete"
          pub arrived_refused : a ≡ true → 6 ≡ early_refusal (seen m) k p o v
          unfolding early_refusal
          arrived_refused t = rw (known, ← there, is_there, ← fit, fits?, ← arrived, t)

          module _ (away : a ≡ false) (w : Bool) (awaited : w ≡ not (eqb (awaited_mark m p) 0)) where
            waiting : w ≡ waits (seen m).marks p
            waiting = waiting_seen m w p by.from by.to awaited

            -- 17: "a step by a waiting card"
            pub waiter_refused : w ≡ true → 17 ≡ early_refusal (seen m) k p o v
            unfolding early_refusal
            waiter_refused t = rw (known, ← there, is_there, ← fit, fits?, ← arrived, away, ← waiting, t)

            -- then none of them refuses
            pub none_refuses : w ≡ false → 0 ≡ early_refusal (seen m) k p o v
            unfolding early_refusal
            none_refuses t = rw (known, ← there, is_there, ← fit, fits?, ← arrived, away, ← waiting, t)

-- ---- the whole table

module _ (s : State) (k p o v : ℕ) where
  module _ (known : known_kind k ≡ true) where
    fits_in_parts : fits mainframe s (step_of k p o v) ≡ fields_in_range s k o v
    unfolding fits object_bound action_of step_of fields_in_range bound_of
    fits_in_parts =
        by_kind (λ j. (ltb o (object_bound mainframe s (action_of (step_of j p o v))) && (uses_value j || eqb v 0)) ≡ fields_in_range s j o v) refl refl refl refl refl refl refl refl refl refl k known

    late_in_parts : (n : ℕ) → late_refusal mainframe s n p (action_of (step_of k p o v)) ≡ refusal_of_kind s n k p o
    unfolding late_refusal action_of step_of refusal_of_kind
    late_in_parts n = by_kind (λ j. late_refusal mainframe s n p (action_of (step_of j p o v)) ≡ refusal_of_kind s n j p o) refl refl refl refl refl refl refl refl refl refl k known

    known_in_parts : (n : ℕ) → refusal_by mainframe s n (step_of k p o v)
        ≡ cond (not (known_kind k)) 3 (cond (not (present s p)) 4 (cond (not (fields_in_range s k o v)) 5 (cond (has_arrived s p) 6 (cond (waits s.marks p) 17 (refusal_of_kind s n k p o)))))
    unfolding refusal_by step_of
    known_in_parts n = rw (fits_in_parts, late_in_parts n)

  -- a step that fits is refused by its kind, any other by a row up to 17
  pub refusal_in_two : (n : ℕ) → refusal_by mainframe s n (step_of k p o v) ≡ cond (step_in_range s k p o v) (refusal_of_kind s n k p o) (early_refusal s k p o v)
  unfolding refusal_by step_of step_in_range may_act is_free early_refusal
  refusal_in_two n = go (known_kind k) refl
    where
      cases : (a b c d : Bool) (r : ℕ)
          → cond (not a) 4 (cond (not b) 5 (cond c 6 (cond d 17 r)))
          ≡ cond (b && (a && (not c && not d))) r (cond (not a) 4 (cond (not b) 5 (cond c 6 (cond d 17 0))))
      cases false true c d r = refl
      cases false false c d r = refl
      cases true false c d r = refl
      cases true true true d r = refl
      cases true true false true r = refl
      cases true true false false r = refl

      go : (d : Bool) → known_kind k ≡ d
          → refusal_by mainframe s n (step_of k p o v)
          ≡ cond (known_kind k && fields_in_range s k o v && (present s p && (not (has_arrived s p) && not (waits s.marks p)))) (refusal_of_kind s n k p o)
          (cond (not (known_kind k)) 3 (cond (not (present s p)) 4 (cond (not (fields_in_range s k o v)) 5 (cond (has_arrived s p) 6 (cond (waits s.marks p) 17 0)))))
      go false e = rw e
      go true e = known_in_parts e n ∙ rw e (cases (present s p) (fields_in_range s k o v) (has_arrived s p) (waits s.marks p) (refusal_of_kind s n k p o))

  -- a step fits where no row up to 17 refuses it
  pub early_passes : early_refusal s k p o v ≡ 0 → step_in_range s k p o v ≡ true
  unfolding step_in_range may_act is_free early_refusal
  early_passes e = go (known_kind k) (present s p) (fields_in_range s k o v) (has_arrived s p) (waits s.marks p) e
    where
      go : (d a b c w : Bool) → cond {A = ℕ} (not d) 3 (cond (not a) 4 (cond (not b) 5 (cond c 6 (cond w 17 0)))) ≡ 0
          → (d && b && (a && (not c && not w))) ≡ true
      go false a b c w e = absurd (omega arith)
      go true false b c w e = absurd (omega arith)
      go true true false c w e = absurd (omega arith)
      go true true true true w e = absurd (omega arith)
      go true true true false true e = absurd (omega arith)
      go true true true false false e = refl

  -- and only there
  pub fitting_not_refused : step_in_range s k p o v ≡ true → early_refusal s k p o v ≡ 0
  unfolding step_in_range may_act is_free early_refusal
  fitting_not_refused e =
      let kind-and-fields = (and-eq-true_iff (known_kind k && fields_in_range s k o v) (present s p && (not (has_arrived s p) && not (waits s.marks p)))).0 e in
      let kind-is = (and-eq-true_iff (known_kind k) (fields_in_range s k o v)).0 kind-and-fields.0 in
      let acts = (and-eq-true_iff (present s p) (not (has_arrived s p) && not (waits s.marks p))).0 kind-and-fields.1 in
      let free = (and-eq-true_iff (not (has_arrived s p)) (not (waits s.marks p))).0 acts.1 in
      rw (kind-is.0, acts.0, kind-is.1, not-true (has_arrived s p) free.0, not-true (waits s.marks p) free.1)

module _ (m : List ℕ) (k p o v : ℕ) where
  -- what the rows from 7 on ask for
  pub fitting_step : MarksCountable m → step_in_range (seen m) k p o v ≡ true → FittingStep m k p o
  unfolding step_in_range may_act seen state_in
  fitting_step h e =
      let kind-and-fields = (and-eq-true_iff (known_kind k && fields_in_range (seen m) k o v) (may_act (seen m) p)).0 e in
      let fit = ((and-eq-true_iff (known_kind k) (fields_in_range (seen m) k o v)).0 kind-and-fields.0).1 in
      let is = present_says (seen m) p ((and-eq-true_iff (present (seen m) p) (is_free (seen m) p)).0 kind-and-fields.1).0 in
      record {
        by = record { counted = h; from = is.0; to = omega (arith, is.1, h.processors) };
        word = word_there m k o v h fit;
        lock = lock_there m k o v h fit;
      }

  module _ (x : ℕ) (early : x ≡ early_refusal (seen m) k p o v) where
    -- a row up to 17 refuses
    pub early_decides : (n : ℕ) → (x ≡ 0 → ⊥) → x ≡ refusal_by mainframe (seen m) n (step_of k p o v)
    early_decides n z = early ∙ sym (refusal_in_two (seen m) k p o v n ∙ go (step_in_range (seen m) k p o v) refl)
      where
        go : (b : Bool) → step_in_range (seen m) k p o v ≡ b → cond b (refusal_of_kind (seen m) n k p o) (early_refusal (seen m) k p o v) ≡ early_refusal (seen m) k p o v
        go true e = absurd (z (early ∙ fitting_not_refused (seen m) k p o v e))
        go false e = refl

    module _ (none : x ≡ 0) where
      passes : step_in_range (seen m) k p o v ≡ true
      passes = early_passes (seen m) k p o v (sym early ∙ none)

      -- what the rows from 7 on ask for
      pub step_fits : MarksCountable m → FittingStep m k p o
      step_fits h = fitting_step h passes

      -- then the kind decides
      pub kind_decides : (n r : ℕ) → r ≡ refusal_of_kind (seen m) n k p o → r ≡ refusal_by mainframe (seen m) n (step_of k p o v)
      kind_decides n r e = e ∙ sym (refusal_in_two (seen m) k p o v n ∙ rw passes)

-- ---- the state in lent memory

-- a state in order has its counts in range, and nothing absent is dirty
pub counted_when_ready : (c w r m : List ℕ) → Ready c w r m → MarksCountable m
unfolding state_in pages_in mainframe seen present_holder present dirty_at
counted_when_ready c w r m h =
    record {
      marks = h.lent.marks;
      processors = h.in_order.processors_fit;
      pages = h.in_order.pages_fit;
      locks = h.in_order.locks_fit;
      absent_clean = record { clean = λ p g e. h.in_order.absent_clean p g e };
    }

module _ (c w r m : List ℕ) where
  -- row 5 looks at the marks alone
  bound_by_marks : (a : Action) → object_bound mainframe (state_in mainframe c w r m) a ≡ object_bound mainframe (seen m) a
  unfolding object_bound seen state_in
  bound_by_marks (Read x) = refl
  bound_by_marks (Write x y) = refl
  bound_by_marks (Acquire l) = refl
  bound_by_marks (Release l) = refl
  bound_by_marks Arrive = refl
  bound_by_marks Want = refl
  bound_by_marks (TallyAdd t v) = refl
  bound_by_marks (TallyRead t) = refl
  bound_by_marks (Enqueue v) = refl
  bound_by_marks Dequeue = refl
  bound_by_marks Unknown = refl

  -- the rows 7 to 10 and 18 to 20 too
  late_by_marks : (n p : ℕ) (a : Action) → late_refusal mainframe (state_in mainframe c w r m) n p a ≡ late_refusal mainframe (seen m) n p a
  unfolding late_refusal holds_any seen state_in pages_in records_in dirty_at dirty_pages holder
  late_by_marks n p (Read x) = refl
  late_by_marks n p (Write x y) = refl
  late_by_marks n p (Acquire l) = refl
  late_by_marks n p (Release l) = refl
  late_by_marks n p Arrive = refl
  late_by_marks n p Want = refl
  late_by_marks n p (TallyAdd t v) = refl
  late_by_marks n p (TallyRead t) = refl
  late_by_marks n p (Enqueue v) = refl
  late_by_marks n p Dequeue = refl
  late_by_marks n p Unknown = refl

  -- the rows 3, 4, 6 and 17 too
  same : (t : Step) (b l : ℕ)
      → cond (not (known_kind t.kind)) 3
      (cond (not (present (state_in mainframe c w r m) t.processor)) 4
      (cond (not (ltb t.object b && (uses_value t.kind || eqb t.value 0))) 5 (cond (has_arrived (state_in mainframe c w r m) t.processor) 6 (cond (waits (state_in mainframe c w r m).marks t.processor) 17 l))))
      ≡ cond (not (known_kind t.kind)) 3
      (cond (not (present (seen m) t.processor)) 4
      (cond (not (ltb t.object b && (uses_value t.kind || eqb t.value 0))) 5 (cond (has_arrived (seen m) t.processor) 6 (cond (waits (seen m).marks t.processor) 17 l))))
  unfolding present has_arrived seen state_in
  same t b l = refl

  -- and so the whole table, given the own entry
  table_by_marks : (t : Step) (n : ℕ) → refusal_by mainframe (state_in mainframe c w r m) n t ≡ refusal_by mainframe (seen m) n t
  unfolding refusal_by fits
  table_by_marks t n = rw (bound_by_marks (action_of t), late_by_marks n t.processor (action_of t)) (same t (object_bound mainframe (seen m) (action_of t)) (late_refusal mainframe (seen m) n t.processor (action_of t)))

  -- marks and own entry decide
  pub table_decides : (t : Step) (n x : ℕ) → x ≡ refusal_by mainframe (seen m) n t → n ≡ own (state_in mainframe c w r m) t.processor
      → x ≡ refusal_in_order mainframe (state_in mainframe c w r m) t
  unfolding refusal_in_order
  table_decides t n x e i = e ∙ sym (table_by_marks t n) ∙ ap (λ (j : ℕ). refusal_by mainframe (state_in mainframe c w r m) j t) i

pub ruleset refusal_laws = (counting_begins, counting_more, records_to_come_are, marks_decide_room, dirty_takes_stores, no_interval_left, no_room_left, write_has_space, write_has_ample_space, write_of_kind, write_decides, lock_of_acquire, lock_of_release, holder_asks, other_asks, holder_releases, other_releases, holder_arrives, other_arrives, queue_full, queue_has_place, queue_empty, queue_has_job, held_begins, held_more, held_ends, kind_refused, processor_refused, marks_of_step, fields_refused, arrived_refused, waiter_refused, none_refuses, fields_flagged, processor_flagged, fits_by_flags, rules)
