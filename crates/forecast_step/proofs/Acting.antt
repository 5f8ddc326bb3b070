-- A write, and what an accepted step does by its kind: what the steps ask holds, and what they leave is the forecast's. One law for each way of the
-- code, `write_laws` and `act_laws`. Rests on Foreseeing. Assumes nothing.
use Prim.Native.Nat.{ℕ, ◌/◌, ◌<◌}
use native.Mathlib.Omega.{arith}
use mathlib.Core.Path.{◌≡◌, refl, sym, ap, ◌∙◌}
use mathlib.Core.Bool.{Bool, true, false, not}
use mathlib.Core.Logic.{◌⊎◌, inl, inr}
use mathlib.Core.List.{List, [], ◌∷◌}
use lib.ListN.{length, get_or, set, length-set}
use lib.Dec.{eqb}
use borrow.Author.Rules.{rules}
use Rattle.limits.specs.Limits.{page_width, job_limit}
use Rattle.rules.specs.State.{mainframe, Counts, Marks, dirty_at, State, own, has_arrived}
use Rattle.rules.specs.Steps.{page_of_word, wants_collection, want}
use Rattle.rules.specs.Refusals.{Step, step_of, Action, Read, Write, Acquire, Release, Arrive, Want, TallyAdd, TallyRead, Enqueue, Dequeue, action_of, object_bound, late_refusal}
use Rattle.rules.specs.Forecast.{bare, written_for, forecast_after}
use Rattle.rules.proofs.Foretold.{seen_in, refusal_foretold}
use Rattle.rules.proofs.inorder.Accepted.{Accepted, accepted_says, present_says, object_there, acquire_there, release_there, late_enqueue, late_dequeue}
use Rattle.rules.proofs.inorder.KindsOfSteps.{object_in, kind_reads, kind_writes, kind_acquires, kind_releases, kind_arrives, kind_wants, kind_adds, kind_totals, kind_enqueues, kind_dequeues}
use Rattle.layout.specs.Areas.{dirty_place, marks_in, state_in}
use Rattle.layout.specs.inner.Marks.{dirty_mark, jobs_mark}
use Rattle.layout.proofs.MarkLaws.{dirty_mark_written}
use Rattle.step_fields.specs.Kinds.{number_of_kind}
use Rattle.step_fields.specs.declared.kinds.Kind.{Kind}
use Rattle.step_fields.specs.declared.kinds.Kind.TheVariants as kinds
use Rattle.refusals.specs.inner.Needed.{WriteOf}
use Rattle.refusals.specs.inner.Parts.{seen}
use Rattle.refusals.proofs.ByKind.{page_of_word_lem}
use Rattle.refusals.proofs.Marked.{dirty_seen}
use Rattle.barrier_marks.specs.inner.Effects.{Wanted}
use Rattle.forecast_step.specs.Memory.{forecast_in}
use Rattle.forecast_step.specs.inner.Parts.{ActsForeseen, LockForeseen, RoomForeseen, JobForeseen, ArrivalForeseen, AcceptedForeseen, Shows, PageWritten}
use Rattle.forecast_step.proofs.Foreseeing.{counts_seen, marks_seen, counted_foreseen, first_foreseen, jobs_foreseen, pages_foreseen, marks_shown}

-- ---- a write

module _ (m : List ℕ) (p w : ℕ) (h : WriteOf m p w) (b : Bool) (mark : b ≡ not (eqb (dirty_mark m p (w / page_width)) 0)) where
  dirty_is : b ≡ dirty_at (seen m).pages p (w / page_width)
  dirty_is = dirty_seen m b p h.by.from h.by.to (w / page_width) (page_of_word_lem m p w h).page mark

  -- a dirty page stays as it is
  pub page_stays : b ≡ true → PageWritten m m p w
  unfolding written_for forecast_in seen_in bare dirty_at page_of_word mainframe seen
  page_stays e = record { marks = h.by.counted.marks; is = λ own. rw (sym dirty_is ∙ e) }

  -- a clean one becomes dirty
  pub page_marked : (m' : List ℕ) → b ≡ false → m' ≡ set m (dirty_place mainframe p (w / page_width)) 1 → PageWritten m m' p w
  unfolding written_for forecast_in seen_in bare dirty_at page_of_word mainframe seen
  page_marked m' e stored =
      record {
        marks = ap length stored ∙ length-set m (dirty_place mainframe p (w / page_width)) 1 ∙ h.by.counted.marks;
        is =
            λ own.
            rw (sym dirty_is ∙ e)
            (ap (λ (s : State). seen_in s (0 ∷ own))
            (ap seen stored ∙ dirty_mark_written [] [] [] m 1 h.by.counted.marks p (w / page_width) h.by.from h.by.to (page_of_word_lem m p w h).page));
      }

pub ruleset write_laws = (page_of_word_lem, page_stays, page_marked, rules)

-- ---- an accepted step

late_by : (s : State) (t : Step) (a : Action) → Accepted mainframe s t → action_of t ≡ a → late_refusal mainframe s (own s t.processor) t.processor a ≡ 0
late_by s t a h e = rw (← e) h.not_late

enqueue_finds_room : (s : State) (t : Step) (v : ℕ) → Accepted mainframe s t → action_of t ≡ Enqueue v → s.marks.jobs ≡ job_limit → ⊥
unfolding mainframe
enqueue_finds_room s t v h e = late_enqueue mainframe s (own s t.processor) t.processor v (late_by s t (Enqueue v) h e)

dequeue_finds_job : (s : State) (t : Step) → Accepted mainframe s t → action_of t ≡ Dequeue → s.marks.jobs ≡ 0 → ⊥
dequeue_finds_job s t h e = late_dequeue mainframe s (own s t.processor) t.processor (late_by s t Dequeue h e)

module _ (own m : List ℕ) (kind : Kind) (p o : ℕ) (h : AcceptedForeseen own m (number_of_kind kind) p o) where
  abbrev k : ℕ
  k = number_of_kind kind

  accepted : Accepted mainframe h.foreseen.state (step_of k p o h.value)
  accepted =
      accepted_says mainframe h.foreseen.state (step_of k p o h.value)
      (refusal_foretold mainframe h.foreseen.state (forecast_in own m) (step_of k p o h.value) h.foreseen.foretold ∙ h.accepted)

  acts : ActsForeseen own m p
  unfolding step_of seen state_in
  acts =
      let is = present_says h.foreseen.state p accepted.processor_present in
      record { foreseen = h.foreseen; from = is.0; to = omega (arith, is.1, ap (λ (n : Counts). n.processors) (counts_seen own m h.foreseen)) }

  -- what an action leaves is what the step leaves
  left_by : (a : Action) (own' m' : List ℕ) → action_of (step_of k p o 0) ≡ a → Shows own' m' (forecast_after mainframe (forecast_in own m) p a)
      → Shows own' m' (forecast_after mainframe (forecast_in own m) p (action_of (step_of k p o 0)))
  left_by a own' m' e d = rw e d

  -- a write has its word
  pub write_there : kind ≡ kinds.Write → WriteOf m p o
  unfolding step_of object_bound object_in mainframe seen state_in
  write_there e =
      record {
        by = pages_foreseen own m p acts;
        word =
            omega (
              arith,
              object_there mainframe h.foreseen.state (step_of k p o h.value) (Write o h.value) (kind_writes k p o h.value (ap number_of_kind e)) accepted.fields_fit,
              ap (λ (n : Counts). n.pages) (counts_seen own m h.foreseen),
              (counted_foreseen own m h.foreseen).pages,
            );
      }

  -- a write was done
  pub write_shown : (m' : List ℕ) → kind ≡ kinds.Write → PageWritten m m' p o → Shows own m' (forecast_after mainframe (forecast_in own m) p (action_of (step_of k p o 0)))
  unfolding forecast_after
  write_shown m' e d = left_by (Write o 0) own m' (kind_writes k p o 0 (ap number_of_kind e)) (record { entries = h.foreseen.entries; marks = d.marks; is = d.is own })

  on_lock : o < h.foreseen.state.counts.locks → LockForeseen own m p o
  unfolding seen state_in
  on_lock l = record { acts = acts; lock = omega (arith, l, ap (λ (n : Counts). n.locks) (counts_seen own m h.foreseen)) }

  -- an acquire has its lock
  pub acquire_on_lock : kind ≡ kinds.Acquire → LockForeseen own m p o
  acquire_on_lock e = on_lock (acquire_there mainframe h.foreseen.state (step_of k p o h.value) o (kind_acquires k p o h.value (ap number_of_kind e)) accepted)

  -- an acquire was done
  pub acquire_shown : (own' m' : List ℕ) → kind ≡ kinds.Acquire → Shows own' m' (forecast_after mainframe (forecast_in own m) p (Acquire o))
      → Shows own' m' (forecast_after mainframe (forecast_in own m) p (action_of (step_of k p o 0)))
  acquire_shown own' m' e d = left_by (Acquire o) own' m' (kind_acquires k p o 0 (ap number_of_kind e)) d

  -- a release has its lock
  pub release_on_lock : kind ≡ kinds.Release → LockForeseen own m p o
  release_on_lock e = on_lock (release_there mainframe h.foreseen.state (step_of k p o h.value) o (kind_releases k p o h.value (ap number_of_kind e)) accepted)

  -- a release was done
  pub release_shown : (own' m' : List ℕ) → kind ≡ kinds.Release → Shows own' m' (forecast_after mainframe (forecast_in own m) p (Release o))
      → Shows own' m' (forecast_after mainframe (forecast_in own m) p (action_of (step_of k p o 0)))
  release_shown own' m' e d = left_by (Release o) own' m' (kind_releases k p o 0 (ap number_of_kind e)) d

  -- the processor of an arrival has not arrived
  pub arrival_foreseen : kind ≡ kinds.Arrive → ArrivalForeseen own m p
  unfolding step_of has_arrived
  arrival_foreseen e = record { acts = acts; not_arrived = ap (λ (n : Marks). not (eqb (get_or n.arrived p 0) 0)) (marks_seen own m h.foreseen) ∙ accepted.not_arrived }

  -- an arrival was done
  pub arrival_shown : (own' m' : List ℕ) → kind ≡ kinds.Arrive → Shows own' m' (forecast_after mainframe (forecast_in own m) p Arrive)
      → Shows own' m' (forecast_after mainframe (forecast_in own m) p (action_of (step_of k p o 0)))
  arrival_shown own' m' e d = left_by Arrive own' m' (kind_arrives k p o 0 (ap number_of_kind e)) d

  -- the wish was set
  pub wish_shown : (m' : List ℕ) → kind ≡ kinds.Want → Wanted m m' → Shows own m' (forecast_after mainframe (forecast_in own m) p (action_of (step_of k p o 0)))
  unfolding forecast_after want wants_collection bare forecast_in seen_in seen
  wish_shown m' e d = left_by Want own m' (kind_wants k p o 0 (ap number_of_kind e)) (record { entries = h.foreseen.entries; marks = d.marks; is = marks_shown own m m' _ (d.is [] [] []) })

  jobs_are : jobs_mark m ≡ h.foreseen.state.marks.jobs
  unfolding seen state_in marks_in
  jobs_are = ap (λ (n : Marks). n.jobs) (marks_seen own m h.foreseen)

  -- an enqueue finds room
  pub room_foreseen : kind ≡ kinds.Enqueue → RoomForeseen own m p
  unfolding mainframe
  room_foreseen e =
      let some_room : (jobs_mark m ≡ job_limit → ⊥) =
      λ z. enqueue_finds_room h.foreseen.state (step_of k p o h.value) h.value accepted (kind_enqueues k p o h.value (ap number_of_kind e)) (sym jobs_are ∙ z) in
      record {
        acts = acts;
        queue = record { marks = h.foreseen.marks; first = first_foreseen own m h.foreseen; room = omega (arith, jobs_foreseen own m h.foreseen, some_room) };
      }

  -- a job was added
  pub enqueue_shown : (own' m' : List ℕ) → kind ≡ kinds.Enqueue → Shows own' m' (forecast_after mainframe (forecast_in own m) p (Enqueue 0))
      → Shows own' m' (forecast_after mainframe (forecast_in own m) p (action_of (step_of k p o 0)))
  enqueue_shown own' m' e d = left_by (Enqueue 0) own' m' (kind_enqueues k p o 0 (ap number_of_kind e)) d

  -- a dequeue finds a job
  pub job_foreseen : kind ≡ kinds.Dequeue → JobForeseen own m p
  unfolding mainframe
  job_foreseen e =
      let some : (jobs_mark m ≡ 0 → ⊥) = λ z. dequeue_finds_job h.foreseen.state (step_of k p o h.value) accepted (kind_dequeues k p o h.value (ap number_of_kind e)) (sym jobs_are ∙ z) in
      record {
        acts = acts;
        queue = record { marks = h.foreseen.marks; first = first_foreseen own m h.foreseen; some = omega (arith, some); few = jobs_foreseen own m h.foreseen };
      }

  -- the oldest job was removed
  pub dequeue_shown : (own' m' : List ℕ) → kind ≡ kinds.Dequeue → Shows own' m' (forecast_after mainframe (forecast_in own m) p Dequeue)
      → Shows own' m' (forecast_after mainframe (forecast_in own m) p (action_of (step_of k p o 0)))
  dequeue_shown own' m' e d = left_by Dequeue own' m' (kind_dequeues k p o 0 (ap number_of_kind e)) d

  -- the other kinds leave all as it is
  pub others_leave : (kind ≡ kinds.Read) ⊎ (kind ≡ kinds.TallyAdd) ⊎ (kind ≡ kinds.TallyRead) → Shows own m (forecast_after mainframe (forecast_in own m) p (action_of (step_of k p o 0)))
  unfolding forecast_after
  others_leave is = go is
    where
      as_it_was : Shows own m (forecast_in own m)
      as_it_was = record { entries = h.foreseen.entries; marks = h.foreseen.marks; is = refl }

      go : (kind ≡ kinds.Read) ⊎ (kind ≡ kinds.TallyAdd) ⊎ (kind ≡ kinds.TallyRead) → Shows own m (forecast_after mainframe (forecast_in own m) p (action_of (step_of k p o 0)))
      go (inl e) = left_by (Read o) own m (kind_reads k p o 0 (ap number_of_kind e)) as_it_was
      go (inr (inl e)) = left_by (TallyAdd o 0) own m (kind_adds k p o 0 (ap number_of_kind e)) as_it_was
      go (inr (inr e)) = left_by (TallyRead o) own m (kind_totals k p o 0 (ap number_of_kind e)) as_it_was

pub ruleset act_laws = (write_there, write_shown, acquire_on_lock, acquire_shown, release_on_lock, release_shown, arrival_foreseen, arrival_shown, wish_shown, room_foreseen, enqueue_shown, job_foreseen, dequeue_shown, others_leave, rules)
