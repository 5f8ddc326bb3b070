-- Document 02, L9: "first in first out".
--
-- Take any limits with pages of at least one word, any opening that they accept, and any list of steps with any fields, in any order, refused ones too. Every
-- accepted dequeue returns the job of an earlier enqueue, the m-th that of the m-th, and answers its value field (`first_in_first_out`). So each job is returned
-- at most once, and no job is passed over. Rests on Jobs and QueueAfter. Assumes nothing.
use Prim.Native.Nat.{ℕ, zero, suc, ◌%◌, ◌<◌}
use native.Mathlib.Omega.{arith}
use mathlib.Core.Path.{◌≡◌, refl, sym, ap, ◌∙◌}
use mathlib.Core.Bool.{false}
use mathlib.Core.List.{List}
use lib.ListN.{get_or}
use Rattle.lists.proofs.Tables.{get_put_same, get_put_other}
use Rattle.limits.specs.Limits.{word_values}
use Rattle.rules.specs.State.{Limits, Counts, Shared, job_value, State}
use Rattle.rules.specs.Opening.{Opening, opening_refusal, opened}
use Rattle.rules.specs.Close.{closed}
use Rattle.rules.specs.Steps.{free_place, enqueue, dequeue}
use Rattle.rules.specs.Refusals.{Step, Enqueue, Dequeue, effect}
use Rattle.rules.specs.Runs.{answers}
use Rattle.rules.specs.Order.{Event, event_at, Took, counted, is_enqueue, is_dequeue, Returns}
use Rattle.rules.specs.Demand.{value_field}
use Rattle.rules.specs.Jobs.{ReturnsOne, FirstInFirstOut}
use Rattle.rules.proofs.InOrderRuns.{answers_in_order_lem}
use Rattle.rules.proofs.inorder.OpenedInOrder.{opened_in_order, opening_counts}
use Rattle.rules.proofs.order.Timeline.{Timeline, Moment, Refused, Taken, moment, effect_of, course_of}
use Rattle.rules.proofs.order.Counted.{numbered, counted_once}
use Rattle.rules.proofs.order.ActionKinds.{adds_job, removes_job, took_enqueue, took_dequeue, enqueue_of}
use Rattle.rules.proofs.order.QueueAfter.{values_kept}
use Rattle.rules.proofs.order.Ring.{ring, Stays, keeps_its_place}
use Rattle.rules.proofs.order.Jobs.{counting, finds_room, finds_job, free_is, queue}
use Rattle.rules.proofs.demand.ListRuns.{events_of, timeline, step_answer}

-- ---- the one enqueue that a dequeue returns, and the one dequeue that returns it

module _ (es : List Event) where
  pub one_enqueue : (i i' p p' v v' j q : ℕ) → Returns es i p v j q → Returns es i' p' v' j q → i ≡ i'
  unfolding adds_job
  one_enqueue i i' p p' v v' j q a b =
      counted_once is_enqueue es i i' (took_enqueue es i p (Enqueue v) a.enqueue) (took_enqueue es i' p' (Enqueue v') b.enqueue) (a.same ∙ sym b.same)

  pub one_dequeue : (i p v j j' q q' : ℕ) → Returns es i p v j q → Returns es i p v j' q' → j ≡ j'
  unfolding removes_job
  one_dequeue i p v j j' q q' a b =
      counted_once is_dequeue es j j' (took_dequeue es j q Dequeue a.dequeue) (took_dequeue es j' q' Dequeue b.dequeue) (sym a.same ∙ b.same)

-- ---- values

module _ (lim : Limits) (c : Counts) (es : List Event) (r : Timeline lim c es) where
  abbrev value_of : ℕ → ℕ → ℕ
  value_of t k = job_value (r.state t).shared k

  -- an enqueue puts its value field at its place
  enqueued : (t p v : ℕ) → Took es t p (Enqueue v) → (r.state (suc t)).shared ≡ (enqueue lim (r.state t) p v).shared
  enqueued t p v took = ap (λ (s : State). s.shared) (effect_of lim es r.state (course_of lim c es r) t p (Enqueue v) took) ∙ (unfold effect in refl)

  put_there : (t p v : ℕ) → Took es t p (Enqueue v) → value_of (suc t) (ring lim.jobs (counted is_enqueue es t)) ≡ value_field v
  unfolding value_field
  put_there t p v took =
      ap (λ (h : Shared). get_or h.values (ring lim.jobs (counted is_enqueue es t)) 0) (enqueued t p v took)
      ∙ ap (λ (k : ℕ). get_or (enqueue lim (r.state t) p v).shared.values k 0) (sym (free_is lim c es r t p v took))
      ∙ (unfold enqueue closed free_place in get_put_same 0 (r.state t).shared.values (free_place lim (r.state t)) (v % word_values))

  put_elsewhere : (t p v k : ℕ) → Took es t p (Enqueue v) → (k ≡ ring lim.jobs (counted is_enqueue es t) → ⊥) → value_of (suc t) k ≡ value_of t k
  put_elsewhere t p v k took d =
      ap (λ (h : Shared). get_or h.values k 0) (enqueued t p v took)
      ∙ (unfold enqueue closed free_place in get_put_other 0 (r.state t).shared.values (free_place lim (r.state t)) k (v % word_values) (λ z. d (z ∙ free_is lim c es r t p v took)))

  -- what stands at a place stays, but where a job is added there
  value_stays : (x : ℕ) → Stays lim.jobs (counted is_enqueue es) (λ t. is_enqueue (event_at es t)) (λ t k. value_of t k ≡ x)
  value_stays x =
      record {
        elsewhere = λ t k e other h. put_elsewhere t (event_at es t).step.processor (event_at es t).step.value k (enqueue_of es t e) other ∙ h;
        otherwise = λ t k e h. still t k e (moment lim c es r t) ∙ h;
      }
    where
      still : (t k : ℕ) → is_enqueue (event_at es t) ≡ false → Moment lim es t (r.state t) (r.state (suc t)) → value_of (suc t) k ≡ value_of t k
      still t k e (Refused z y) = ap (λ (s : State). job_value s.shared k) y
      still t k e (Taken p a took acc y) =
          ap (λ (s : State). job_value s.shared k) y ∙ ap (λ (l : List ℕ). get_or l k 0) (values_kept lim (r.state t) p a (sym (took_enqueue es t p a took) ∙ e))

  -- a dequeue answers the value field of the enqueue whose job it returns
  returns_value : (i p v j q : ℕ) → Returns es i p v j q → (dequeue lim (r.state j) q).value ≡ value_field v
  unfolding dequeue closed adds_job
  returns_value i p v j q ret =
      ap (value_of j) ((counting lim c es r j).first ∙ ap (ring lim.jobs) (sym ret.same))
      ∙ keeps_its_place lim.jobs (counted is_enqueue es) (counted is_dequeue es) (λ t. is_enqueue (event_at es t)) (queue lim c es r (omega (arith, finds_room lim c es r i p v ret.enqueue)))
      (λ t k. value_of t k ≡ value_field v) (value_stays (value_field v)) i
      (took_enqueue es i p (Enqueue v) ret.enqueue) (put_there i p v ret.enqueue) j ret.waited (omega (arith, ret.same))

  -- every accepted dequeue returns the job of an earlier enqueue
  returns_one : (j q : ℕ) → Took es j q Dequeue → ReturnsOne es j q (dequeue lim (r.state j) q).value
  returns_one j q took =
      let k = numbered is_enqueue es j (counted is_dequeue es j) (some (r.state j).marks.jobs refl) in
      let ret : Returns es k.place (event_at es k.place).step.processor (event_at es k.place).step.value j q =
      record { enqueue = enqueue_of es k.place k.passes; dequeue = took; waited = k.below; same = k.number } in
      record {
        place = k.place;
        processor = (event_at es k.place).step.processor;
        value = (event_at es k.place).step.value;
        returns = ret;
        is = returns_value k.place (event_at es k.place).step.processor (event_at es k.place).step.value j q ret;
      }
    where
      some : (n : ℕ) → (r.state j).marks.jobs ≡ n → counted is_dequeue es j < counted is_enqueue es j
      some zero e = absurd (finds_job lim c es r j q took e)
      some (suc n) e = omega (arith, e, (counting lim c es r j).jobs)

-- ---- the theorem

pub first_in_first_out : (lim : Limits) (o : Opening) → 0 < lim.words → opening_refusal lim o ≡ 0 → (ts : List Step)
    → FirstInFirstOut ts (answers lim (opened lim o.counts) ts)
unfolding effect
first_in_first_out lim o words_there accepted ts =
    let in-range = opening_counts lim o accepted in
    rw (answers_in_order_lem lim (opened lim o.counts) ts (opened_in_order lim o.counts in-range))
    (record {
      returned = λ j q took.
          rw (step_answer lim o.counts in-range words_there ts j q Dequeue took)
          (returns_one lim o.counts (events_of lim (opened lim o.counts) ts) (timeline lim o.counts in-range words_there ts) j q took);
    })
