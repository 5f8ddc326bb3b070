-- Document 02, L9: what each kind of step does to the queue as a list of jobs, the oldest first, in every state in order: an enqueue adds one behind the others,
-- a dequeue removes the first, a collecting round sets the clocks to zeros, and no other step changes a job. Rests on QueueList. Assumes nothing.
use Prim.Native.Nat.{ℕ, zero, suc}
use native.Mathlib.Omega.{arith}
use mathlib.Core.Path.{◌≡◌, refl, sym, ap, ◌∙◌}
use mathlib.Core.Bool.{Bool, true, false}
use mathlib.Core.List.{List, [], ◌∷◌}
use lib.ListN.{get_or}
use lib.Dec.{eqb}
use borrow.Author.Tests.{eqb-true, eqb-false, ne_eqb}
use Rattle.lists.specs.Tables.{tabulate}
use Rattle.lists.proofs.Tabulated.{length_tabulate}
use Rattle.clock.specs.Clocks.{joined}
use Rattle.rules.specs.State.{Limits, Counts, Job, clock_of, job_value, State, clock}
use Rattle.rules.specs.InOrder.{is_in_order}
use Rattle.rules.specs.Opening.{zero_marks, opened}
use Rattle.rules.specs.Close.{closed}
use Rattle.rules.specs.Steps.{Effect, place_at, enqueue, dequeue}
use Rattle.rules.specs.Rows.{NoRowApplies}
use Rattle.rules.specs.Refusals.{Step, Action, Arrive, Enqueue, Dequeue, action_of, effect, accepted_as, answer_in_order, refusal, answer, next}
use Rattle.rules.specs.Jobs.{Queued, job_at, queue_in, QueueAsClaimed, AddsJob, RemovesJob, Collects, LeavesJobs}
use Rattle.rules.proofs.inorder.Facts.{InOrder}
use Rattle.rules.proofs.inorder.InOrderSays.{in_order_says}
use Rattle.rules.proofs.InOrderRuns.{refusal_is_not_one, refused_leaves_state}
use Rattle.rules.proofs.RowsExactly.{accepted_exactly_when}
use Rattle.rules.proofs.WaitsItsTurn.{accepted_next}
use Rattle.rules.proofs.order.ActionKinds.{adds_job, removes_job, kind_adds_job, kind_removes_job}
use Rattle.rules.proofs.order.QueueAfter.{queue_of, queue_after_lem, queue_stays, values_kept, jobs_after, jobs_after_lem, jobs_stay, arrival_leaves, arrival_clears, enqueue_leaves, dequeue_learns}
use Rattle.rules.proofs.order.QueueList.{place_of_first, job_added_lem, job_removed_lem, queue_kept, queue_cleared}

-- no job waits at the opening
pub opened_empty : (lim : Limits) (c : Counts) → queue_in lim (opened lim c) ≡ []
unfolding queue_in opened zero_marks tabulate
opened_empty lim c = refl

-- "A state in order has at most 32 jobs, and their clocks keep the bound of every clock"
pub queue_as_claimed : (lim : Limits) (s : State) → is_in_order lim s ≡ true → QueueAsClaimed lim s
unfolding queue_in job_at
queue_as_claimed lim s ordered =
    let o = in_order_says lim s ordered in
    record {
      at_most = rw (length_tabulate s.marks.jobs (job_at lim s)) o.few_jobs;
      bounded = λ k q l. o.known (Job (place_at lim s k)) q;
    }

module _ (lim : Limits) (s : State) (t : Step) (ordered : is_in_order lim s ≡ true) where
  after : (a : Action) → refusal lim s t ≡ 0 → action_of t ≡ a → next lim s t ≡ (effect lim s t.processor a).after
  after a e is = accepted_next lim s t ordered e ∙ ap (λ (x : Action). (effect lim s t.processor x).after) is

  accepted_answer : refusal lim s t ≡ 0 → answer lim s t ≡ accepted_as (effect lim s t.processor (action_of t))
  unfolding answer answer_in_order
  accepted_answer e = rw (ordered, sym (refusal_is_not_one lim s t ordered) ∙ e)

  -- no row applies to an accepted step
  rows : refusal lim s t ≡ 0 → NoRowApplies lim s t
  rows e = (accepted_exactly_when lim s t (in_order_says lim s ordered)).0 (sym (refusal_is_not_one lim s t ordered) ∙ e)

  -- "Kind 10 closes the card's interval and adds the value with the card's clock"
  pub adds_job_lem : (v : ℕ) → refusal lim s t ≡ 0 → action_of t ≡ Enqueue v → AddsJob lim s t v
  adds_job_lem v e is =
      record {
        closes = record { pages = ap (λ (u : State). u.pages) left ∙ pages_closed_lem; records = ap (λ (u : State). u.records) left ∙ records_closed };
        adds = ap (queue_in lim) left ∙ job_added_lem lim s o t.processor v (omega (arith, o.few_jobs, (rows e).has_place v is));
        learns_none = λ q. ap (λ (u : State). clock u q) left ∙ enqueue_leaves lim s t.processor v q;
      }
    where
      o : InOrder lim s
      o = in_order_says lim s ordered

      left : next lim s t ≡ enqueue lim s t.processor v
      left = unfold effect in after (Enqueue v) e is

      pages_closed_lem : (enqueue lim s t.processor v).pages ≡ (closed s t.processor).pages
      pages_closed_lem = unfold enqueue in refl

      records_closed : (enqueue lim s t.processor v).records ≡ (closed s t.processor).records
      records_closed = unfold enqueue in refl

  -- "kind 11 closes, removes the oldest job, learns its clock and answers its value"
  pub removes_job_lem : (job : Queued) (rest : List Queued) → refusal lim s t ≡ 0 → action_of t ≡ Dequeue → queue_in lim s ≡ job ∷ rest → RemovesJob lim s t job rest
  removes_job_lem job rest e is line = go s.marks.jobs refl
    where
      o : InOrder lim s
      o = in_order_says lim s ordered

      d : Effect
      d = dequeue lim s t.processor

      left : next lim s t ≡ d.after
      left = unfold effect in after Dequeue e is

      answered : answer lim s t ≡ accepted_as d
      answered = accepted_answer e ∙ ap (λ (a : Action). accepted_as (effect lim s t.processor a)) is ∙ (unfold effect in refl)

      -- the oldest job is the first of the list
      first_place_lem : (n : ℕ) → s.marks.jobs ≡ suc n → place_at lim s 0 ≡ s.marks.first
      first_place_lem n z = place_of_first lim s o t.processor (omega (arith, z, o.few_jobs))

      value : (n : ℕ) → s.marks.jobs ≡ suc n → d.value ≡ (job_at lim s 0).value
      value n z = unfold dequeue closed job_at in sym (ap (job_value s.shared) (first_place_lem n z))

      oldest : (n : ℕ) → s.marks.jobs ≡ suc n → get_or s.clocks.jobs s.marks.first [] ≡ (job_at lim s 0).clock
      oldest n z = unfold job_at clock_of in ap (λ (x : ℕ). get_or s.clocks.jobs x []) (sym (first_place_lem n z))

      go : (n : ℕ) → s.marks.jobs ≡ n → RemovesJob lim s t job rest
      go zero z = absurd ((rows e).has_job is z)
      go (suc n) z =
          let both : job_at lim s 0 ∷ queue_in lim d.after ≡ job ∷ rest = sym (job_removed_lem lim s o t.processor n z) ∙ line in
          let head : job_at lim s 0 ≡ job = cc in
          let tail : queue_in lim d.after ≡ rest = cc in
          record {
            closes = record { pages = ap (λ (u : State). u.pages) left ∙ pages_closed_lem; records = ap (λ (u : State). u.records) left ∙ records_closed };
            removes = ap (queue_in lim) left ∙ tail;
            learns =
                ap (λ (u : State). clock u t.processor) left ∙ dequeue_learns lim s t.processor
                ∙ ap (joined (clock (closed s t.processor) t.processor)) (oldest n z ∙ ap (λ (j : Queued). j.clock) head);
            answers = answered ∙ told ∙ ap (λ (v : ℕ). record { refusal = 0; value = v; count = 0; words = 0 }) (value n z ∙ ap (λ (j : Queued). j.value) head);
          }
        where
          pages_closed_lem : d.after.pages ≡ (closed s t.processor).pages
          pages_closed_lem = unfold dequeue in refl

          records_closed : d.after.records ≡ (closed s t.processor).records
          records_closed = unfold dequeue in refl

          told : accepted_as d ≡ record { refusal = 0; value = d.value; count = 0; words = 0 }
          told = unfold dequeue in refl

  -- "A collecting round sets the clocks of queued jobs to zeros", and nothing else changes a job
  pub leaves_jobs : (t.kind ≡ 10 → ⊥) → (t.kind ≡ 11 → ⊥) → LeavesJobs lim s t
  leaves_jobs no-enqueue no-dequeue =
      record {
        kept = λ none. either_way none (eqb (refusal lim s t) 0) refl;
        zeros = λ e is h.
            ap (queue_in lim) (accepted_next lim s t ordered e)
            ∙ queue_cleared lim s u marks values (jobs_after_lem lim s t.processor (action_of t) ∙ ap (jobs_after lim s t.processor) is ∙ (unfold jobs_after in arrival_clears s t.processor h));
      }
    where
      u : State
      u = (effect lim s t.processor (action_of t)).after

      adds_none : adds_job (action_of t) ≡ false
      adds_none = sym (kind_adds_job t) ∙ ne_eqb t.kind 10 no-enqueue

      removes_none : removes_job (action_of t) ≡ false
      removes_none = sym (kind_removes_job t) ∙ ne_eqb t.kind 11 no-dequeue

      marks : queue_of u.marks ≡ queue_of s.marks
      marks = queue_after_lem lim s t.processor (action_of t) ∙ queue_stays lim s.marks (action_of t) adds_none removes_none

      values : u.shared.values ≡ s.shared.values
      values = values_kept lim s t.processor (action_of t) adds_none

      either_way : (refusal lim s t ≡ 0 → action_of t ≡ Arrive → Collects s t.processor → ⊥) → (b : Bool) → eqb (refusal lim s t) 0 ≡ b → queue_in lim (next lim s t) ≡ queue_in lim s
      either_way none true z =
          let e : refusal lim s t ≡ 0 = eqb-true (refusal lim s t) 0 z in
          ap (queue_in lim) (accepted_next lim s t ordered e)
          ∙ queue_kept lim s u marks values
          (jobs_after_lem lim s t.processor (action_of t) ∙ jobs_stay lim s t.processor (action_of t) adds_none (λ is. arrival_leaves s t.processor (none e is)))
      either_way none false z = ap (queue_in lim) (refused_leaves_state lim s t (eqb-false (refusal lim s t) 0 z))
