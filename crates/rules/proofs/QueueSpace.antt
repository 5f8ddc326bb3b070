-- Document 02, L9: exactly when the queue refuses. Of one step: 19 where it holds as many jobs as there are places, 20 where it holds none, 5 for a field that the
-- kind does not use, 3 never. Of every list of steps from an accepted opening: it holds the jobs added less those removed, so space is used again after each
-- removal (`queue_refuses`). Rests on RowsExactly and Jobs. Assumes nothing.
use Prim.Native.Nat.{ℕ, ◌<◌}
use native.Mathlib.Omega.{arith}
use mathlib.Core.Path.{◌≡◌, refl, sym, ap, ◌∙◌}
use mathlib.Core.Bool.{Bool, true, false, cond, ◌&&◌, ◌||◌}
use mathlib.Core.Logic.{◌↔◌, ◌⊎◌, inl, inr}
use mathlib.Core.List.{List}
use lib.ListN.{take}
use lib.Dec.{ltb, eqb}
use borrow.Author.Tests.{eqb-true, eqb-false, ne_eqb, le-ltb}
use Rattle.rules.specs.State.{Limits, Counts, State}
use Rattle.rules.specs.InOrder.{present, is_in_order}
use Rattle.rules.specs.Opening.{Opening, opening_refusal, opened}
use Rattle.rules.specs.Refusals.{Step, Enqueue, Dequeue, action_of, known_kind, object_bound, uses_value, fits, late_refusal, refusal_by, refusal_in_order, refusal}
use Rattle.rules.specs.Rows.{Comes}
use Rattle.rules.specs.Runs.{answers}
use Rattle.rules.specs.Order.{Event, event_at}
use Rattle.rules.specs.Jobs.{jobs_waiting, QueueRefuses}
use Rattle.rules.proofs.InOrderRuns.{answers_in_order_lem, state_in_order_lem}
use Rattle.rules.proofs.inorder.OpenedInOrder.{opened_in_order, opening_counts}
use Rattle.rules.proofs.RowsExactly.{coming_refusal, known_never_3, late_rows_come}
use Rattle.rules.proofs.order.Timeline.{Timeline}
use Rattle.rules.proofs.order.Jobs.{counting}
use Rattle.rules.proofs.demand.ListRuns.{events_of, timeline, state_at, refusal_answer}

-- ---- one step

-- a row that one test decides
decided : (m k r : ℕ) → (r ≡ 0 → ⊥) → (b : Bool) → eqb m k ≡ b → (◌≡◌ {A = ℕ} (cond b r 0) r) ↔ (m ≡ k)
decided m k r some true e = (λ x. eqb-true m k e, λ x. refl)
decided m k r some false e = (λ x. absurd (some (sym x)), λ x. absurd (eqb-false m k e x))

module _ (lim : Limits) (s : State) (t : Step) where
  -- 19 exactly where every place holds a job
  pub nineteen_exactly_when : (v : ℕ) → Comes lim s t → action_of t ≡ Enqueue v → refusal_in_order lim s t ≡ 19 ↔ s.marks.jobs ≡ lim.jobs
  unfolding late_refusal
  nineteen_exactly_when v h is = rw (coming_refusal lim s t h, is) (decided s.marks.jobs lim.jobs 19 (λ e. omega (arith, e)) (eqb s.marks.jobs lim.jobs) refl)

  -- 20 exactly where there is no job
  pub twenty_exactly_when : Comes lim s t → action_of t ≡ Dequeue → refusal_in_order lim s t ≡ 20 ↔ s.marks.jobs ≡ 0
  unfolding late_refusal
  twenty_exactly_when h is = rw (coming_refusal lim s t h, is) (decided s.marks.jobs 0 20 (λ e. omega (arith, e)) (eqb s.marks.jobs 0) refl)

-- the kinds of the queue are known
jobs_known : (k : ℕ) → (k ≡ 10) ⊎ (k ≡ 11) → known_kind k ≡ true
unfolding known_kind
jobs_known k (inl e) = rw e
jobs_known k (inr e) = rw e

-- they use no object
job_bound : (lim : Limits) (s : State) (t : Step) → (t.kind ≡ 10) ⊎ (t.kind ≡ 11) → object_bound lim s (action_of t) ≡ 1
unfolding action_of object_bound
job_bound lim s t (inl e) = rw e
job_bound lim s t (inr e) = rw e

module _ (lim : Limits) (s : State) (t : Step) where
  -- "kinds 10 and 11 leave the reach of 3"
  pub job_never_3 : (t.kind ≡ 10) ⊎ (t.kind ≡ 11) → refusal lim s t ≡ 3 → ⊥
  job_never_3 job = known_never_3 lim s t (jobs_known t.kind job)

  -- "The object of both kinds is 0"
  pub job_object_is_5 : (t.kind ≡ 10) ⊎ (t.kind ≡ 11) → is_in_order lim s ≡ true → present s t.processor ≡ true → 0 < t.object → refusal lim s t ≡ 5
  unfolding refusal refusal_in_order refusal_by fits
  job_object_is_5 job ordered here used =
      rw (ordered, jobs_known t.kind job, here, job_bound lim s t job, le-ltb t.object 1 used)

  -- "and kind 11 has no value field in use"
  pub dequeue_value_is_5 : t.kind ≡ 11 → is_in_order lim s ≡ true → present s t.processor ≡ true → 0 < t.value → refusal lim s t ≡ 5
  unfolding refusal refusal_in_order refusal_by
  dequeue_value_is_5 kind ordered here used = rw (ordered, jobs_known t.kind (inr kind), here, unfit)
    where
      no_value : (uses_value t.kind || eqb t.value 0) ≡ false
      no_value = rw (ap uses_value kind, ne_eqb t.value 0 (λ e. omega (arith, e, used))) (unfold uses_value in refl)

      go : (b : Bool) → (b && false) ≡ false
      go true = refl
      go false = refl

      unfit : fits lim s t ≡ false
      unfit = unfold fits in rw no_value (go (ltb t.object (object_bound lim s (action_of t))))

-- ---- a list of steps

module _ (lim : Limits) (c : Counts) (es : List Event) (r : Timeline lim c es) (j : ℕ) where
  -- the jobs that wait by the list are those of the state
  pub waiting_are : jobs_waiting es j ≡ (r.state j).marks.jobs
  unfolding jobs_waiting
  waiting_are = omega (arith, (counting lim c es r j).jobs)

  abbrev here : Step
  here = (event_at es j).step

  full_here : (v : ℕ) → action_of (event_at es j).step ≡ Enqueue v
      → refusal_in_order lim (r.state j) (event_at es j).step ≡ 19 ↔ (Comes lim (r.state j) (event_at es j).step × (jobs_waiting es j ≡ lim.jobs))
  full_here v is = (
    λ e. let h = late_rows_come lim (r.state j) here 19 (omega arith) (λ z. omega (arith, z)) e in (h, waiting_are ∙ (nineteen_exactly_when lim (r.state j) here v h is).0 e),
    λ h. (nineteen_exactly_when lim (r.state j) here v h.0 is).1 (sym waiting_are ∙ h.1),
  )

  empty_here : action_of (event_at es j).step ≡ Dequeue
      → refusal_in_order lim (r.state j) (event_at es j).step ≡ 20 ↔ (Comes lim (r.state j) (event_at es j).step × (jobs_waiting es j ≡ 0))
  empty_here is = (
    λ e. let h = late_rows_come lim (r.state j) here 20 (omega arith) (λ z. omega (arith, z)) e in (h, waiting_are ∙ (twenty_exactly_when lim (r.state j) here h is).0 e),
    λ h. (twenty_exactly_when lim (r.state j) here h.0 is).1 (sym waiting_are ∙ h.1),
  )

-- "19, enqueue with 32 jobs waiting; 20, dequeue with none", over every list of steps from an accepted opening
pub queue_refuses : (lim : Limits) (o : Opening) → 0 < lim.words → opening_refusal lim o ≡ 0 → (ts : List Step)
    → QueueRefuses lim o.counts ts (answers lim (opened lim o.counts) ts)
queue_refuses lim o words_there accepted ts =
    let in-range = opening_counts lim o accepted in
    let start = opened_in_order lim o.counts in-range in
    let es : List Event = events_of lim (opened lim o.counts) ts in
    let r : Timeline lim o.counts es = timeline lim o.counts in-range words_there ts in
    rw (answers_in_order_lem lim (opened lim o.counts) ts start)
    (record {
      holds_up_to = λ j. rw (waiting_are lim o.counts es r j) (r.ordered j).few_jobs;
      full = λ j v is.
          rw (refusal_answer lim o.counts in-range words_there ts j, state_in_order_lem lim (opened lim o.counts) (take j ts) start, ← state_at lim o.counts in-range words_there ts j)
          (full_here lim o.counts es r j v is);
      empty = λ j is.
          rw (refusal_answer lim o.counts in-range words_there ts j, state_in_order_lem lim (opened lim o.counts) (take j ts) start, ← state_at lim o.counts in-range words_there ts j)
          (empty_here lim o.counts es r j is);
    })
