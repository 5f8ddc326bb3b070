-- Document 02, L9, the queue told from the list: which job a dequeue takes, and which clock it learns, is seen from the steps and their answers alone.
--
-- Take any limits with pages of at least one word, any opening that they accept, and any list of steps with any fields, in any order, refused ones too. An
-- accepted dequeue takes the job of an accepted enqueue from the place where that one put it exactly if it returns it by the count, which is what the edge `job`
-- of happens-before-1 says (`returns_exactly`). And then it learns the clock that the enqueuer had, or zeros where a collecting round came between
-- (`learns_its_clock`). And in any list an enqueue precedes nothing but by a later step of its processor or by that dequeue (`precedes_no_other`). Rests on
-- Jobs and JobClocks. Assumes nothing.
use Prim.Native.Nat.{ℕ, suc, ◌+◌, ◌-◌, ◌<◌}
use native.Mathlib.Omega.{arith}
use native.Mathlib.Decide.{dec_lt}
use mathlib.Core.Path.{◌≡◌, refl, sym, ap, ◌∙◌}
use mathlib.Core.Logic.{◌↔◌, ◌⊎◌, inl, inr}
use mathlib.Core.List.{List}
use lib.ListN.{take}
use Rattle.rules.specs.State.{Limits, Counts, State}
use Rattle.rules.specs.Opening.{Opening, opening_refusal, opened}
use Rattle.rules.specs.Steps.{free_place}
use Rattle.rules.specs.Refusals.{Step, Release, Arrive, Enqueue, Dequeue}
use Rattle.rules.specs.Runs.{answers, state_after, answers_in_order}
use Rattle.rules.specs.Order.{Event, event_at, Took, counted, is_enqueue, is_dequeue, Returns, Before, program, lock, round, granted, job, chain}
use Rattle.rules.specs.Waiting.{events_in}
use Rattle.rules.specs.Jobs.{PrecedesBy, TakesItsJob, CollectsAt, LearnsItsClock}
use Rattle.rules.proofs.InOrderRuns.{answers_in_order_lem, state_in_order_lem}
use Rattle.rules.proofs.inorder.OpenedInOrder.{opened_in_order, opening_counts}
use Rattle.rules.proofs.order.Timeline.{Timeline}
use Rattle.rules.proofs.order.Counted.{numbered, counted_passes, counted_never_falls}
use Rattle.rules.proofs.order.ActionKinds.{adds_job, took_enqueue, enqueue_of}
use Rattle.rules.proofs.order.Ring.{ring, ring_apart}
use Rattle.rules.proofs.order.Jobs.{counting, finds_job, free_is}
use Rattle.rules.proofs.demand.ListRuns.{events_of, timeline, state_at}
use Rattle.rules.proofs.order.JobClocks.{Collecting, learns_kept, learns_zeros}

-- ---- "and of itself no other"

-- every derivation that an enqueue is before a step begins with a later step of its processor or with the dequeue that returns its job
pub precedes_no_other : (n : ℕ) (es : List Event) (i p v j : ℕ) → Took es i p (Enqueue v) → Before n es i j → PrecedesBy n es i p v j
precedes_no_other n es i p v j took (program q a b from to h) =
    record { place = j; first = inl (record { action = b; took = rw (sym from.processor ∙ took.processor) at to; later = h }); rest = inl refl }
precedes_no_other n es i p v j took (lock q r l from to h) = absurd (no_release (sym took.action ∙ from.action))
  where
    no_release : Enqueue v ≡ Release l → ⊥
    no_release e = let z : ◌≡◌ {A = ℕ} 0 1 = cc in omega arith
precedes_no_other n es i p v j took (round q r b from to h) = absurd (no_arrival (sym took.action ∙ from.action))
  where
    no_arrival : Enqueue v ≡ Arrive → ⊥
    no_arrival e = let z : ◌≡◌ {A = ℕ} 0 1 = cc in omega arith
precedes_no_other n es i p v j took (granted q r l a b s to h) = absurd (no_release (sym took.action ∙ s.release.action))
  where
    no_release : Enqueue v ≡ Release l → ⊥
    no_release e = let z : ◌≡◌ {A = ℕ} 0 1 = cc in omega arith
precedes_no_other n es i p v j took (job q w u r) =
    record { place = j; first = inr (record { processor = u; returns = record { enqueue = took; dequeue = r.dequeue; waited = r.waited; same = r.same } }); rest = inl refl }
precedes_no_other n es i p v j took (chain k x y) =
    let h = precedes_no_other n es i p v k took x in
    record { place = h.place; first = h.first; rest = inr (on h.place h.rest) }
  where
    on : (m : ℕ) → (m ≡ k) ⊎ Before n es m k → Before n es m j
    on m (inl e) = rw e y
    on m (inr z) = chain k z y

-- ---- which job

module _ (lim : Limits) (c : Counts) (es : List Event) (r : Timeline lim c es) where
  abbrev added : ℕ → ℕ
  added t = counted is_enqueue es t

  abbrev removed : ℕ → ℕ
  removed t = counted is_dequeue es t

  -- the places of two enqueues that both wait or are removed since differ, and so they do from one another's
  apart : (x y : ℕ) → x < y → y < x + lim.jobs → ring lim.jobs x ≡ ring lim.jobs y → ⊥
  apart x y less few e =
      let split : y ≡ x + (y - x) = omega (arith, less) in
      ring_apart lim.jobs x (y - x) (omega (arith, less)) (omega (arith, less, few)) (ap (ring lim.jobs) (sym split) ∙ sym e)

  -- the marks of the rules' run: what a dequeue takes, by the count
  taken_from_lem : (j : ℕ) → (r.state j).marks.first ≡ ring lim.jobs (removed j)
  taken_from_lem j = (counting lim c es r j).first

  -- an enqueue with more others before it comes later
  later : (i k p q v w : ℕ) → Took es i p (Enqueue v) → Took es k q (Enqueue w) → added i < added k → i < k
  later i k p q v w a b less = go (dec_lt i k)
    where
      go : Dec (i < k) → i < k
      go (yes h) = h
      go (no h) = absurd (omega (arith, less, counted_never_falls is_enqueue es k i (omega (arith, h))))

  -- what the state does says what the list says
  takes_returns : (i p v j q : ℕ) → Took es i p (Enqueue v) → Took es j q Dequeue → i < j → free_place lim (r.state i) ≡ (r.state j).marks.first
      → ((k u w : ℕ) → i < k → k < j → Took es k u (Enqueue w) → free_place lim (r.state k) ≡ (r.state j).marks.first → ⊥) → Returns es i p v j q
  takes_returns i p v j q a d before place alone = record { enqueue = a; dequeue = d; waited = before; same = same (dec_lt (added i) (removed j)) (dec_lt (removed j) (added i)) }
    where
      -- the two places by the count
      places : ring lim.jobs (added i) ≡ ring lim.jobs (removed j)
      places = sym (free_is lim c es r i p v a) ∙ place ∙ taken_from_lem j

      -- no more are added than removed and waiting
      few : added i < removed j + lim.jobs
      few = omega (arith, (counting lim c es r j).jobs, (r.ordered j).few_jobs, counted_passes is_enqueue es i (took_enqueue es i p (Enqueue v) a ∙ (unfold adds_job in refl)), counted_never_falls is_enqueue es (suc i) j before)

      some : removed j < added j
      some = omega (arith, (counting lim c es r j).jobs, finds_job lim c es r j q d)

      same : Dec (added i < removed j) → Dec (removed j < added i) → added i ≡ removed j
      same (yes h) z =
          let k = numbered is_enqueue es j (removed j) some in
          let b = enqueue_of es k.place k.passes in
          let x = (event_at es k.place).step.processor in
          let y = (event_at es k.place).step.value in
          absurd (alone k.place x y (later i k.place p x v y a b (omega (arith, h, k.number))) k.below b (free_is lim c es r k.place x y b ∙ ap (ring lim.jobs) k.number ∙ sym (taken_from_lem j)))
      same (no h) (yes z) = absurd (apart (removed j) (added i) z few (sym places))
      same (no h) (no z) = omega (arith, h, z)

  -- and the other way round
  returns_takes : (i p v j q : ℕ) → Returns es i p v j q → (free_place lim (r.state i) ≡ (r.state j).marks.first)
      × ((k u w : ℕ) → i < k → k < j → Took es k u (Enqueue w) → free_place lim (r.state k) ≡ (r.state j).marks.first → ⊥)
  returns_takes i p v j q ret = (
    free_is lim c es r i p v ret.enqueue ∙ ap (ring lim.jobs) ret.same ∙ sym (taken_from_lem j),
    λ k u w after before b e.
        let more = counted_never_falls is_enqueue es (suc i) k after in
        let one = counted_passes is_enqueue es i (took_enqueue es i p (Enqueue v) ret.enqueue ∙ (unfold adds_job in refl)) in
        let another = counted_passes is_enqueue es k (took_enqueue es k u (Enqueue w) b ∙ (unfold adds_job in refl)) in
        let few : added k < removed j + lim.jobs =
        omega (arith, (counting lim c es r j).jobs, (r.ordered j).few_jobs, another, counted_never_falls is_enqueue es (suc k) j before) in
        apart (removed j) (added k) (omega (arith, more, one, ret.same)) few (sym (sym (free_is lim c es r k u w b) ∙ e ∙ taken_from_lem j)),
  )

-- ---- the theorems, over every list of steps from an accepted opening

module _ (lim : Limits) (o : Opening) (words_there : 0 < lim.words) (accepted : opening_refusal lim o ≡ 0) (ts : List Step) where
  abbrev start : State
  start = opened lim o.counts

  abbrev es : List Event
  es = events_of lim (opened lim o.counts) ts

  abbrev run : Timeline lim o.counts (events_of lim (opened lim o.counts) ts)
  run = timeline lim o.counts (opening_counts lim o accepted) words_there ts

  same_answers : answers lim (opened lim o.counts) ts ≡ answers_in_order lim (opened lim o.counts) ts
  same_answers = answers_in_order_lem lim (opened lim o.counts) ts (opened_in_order lim o.counts (opening_counts lim o accepted))

  same_state : (k : ℕ) → state_after lim (opened lim o.counts) (take k ts) ≡ run.state k
  same_state k =
      state_in_order_lem lim (opened lim o.counts) (take k ts) (opened_in_order lim o.counts (opening_counts lim o accepted))
      ∙ sym (state_at lim o.counts (opening_counts lim o accepted) words_there ts k)

  -- a dequeue takes the job that an enqueue put into the queue exactly if it returns it by the count
  pub returns_exactly : (i p v j q : ℕ) → Took (events_in lim (opened lim o.counts) ts) i p (Enqueue v) → Took (events_in lim (opened lim o.counts) ts) j q Dequeue
      → TakesItsJob lim (opened lim o.counts) ts i j ↔ Returns (events_in lim (opened lim o.counts) ts) i p v j q
  returns_exactly i p v j q a d =
      rw same_answers (
        λ h.
            takes_returns lim o.counts es run i p v j q (rw same_answers at a) (rw same_answers at d) h.later (rw (same_state i, same_state j) at h.place)
            (λ k u w after before b e. h.still_there k u w after before (rw same_answers b) (rw (same_state k, same_state j) e)),
        λ ret.
            let takes = returns_takes lim o.counts es run i p v j q ret in
            record {
              later = ret.waited;
              place = rw (same_state i, same_state j) takes.0;
              still_there = λ k u w after before b e. takes.1 k u w after before (rw same_answers at b) (rw (same_state k, same_state j) at e);
            },
      )

  -- and then it learns the clock of that enqueue
  pub learns_its_clock : (i p v j q : ℕ) → Returns (events_in lim (opened lim o.counts) ts) i p v j q → LearnsItsClock lim (opened lim o.counts) ts i p j q
  learns_its_clock i p v j q ret =
      record {
        kept = λ none. rw (same_state (suc j), same_state j, same_state (suc i)) (learns_kept lim o.counts es run i p v j q (rw same_answers at ret) (λ k a b h. none k a b (collects_at k h)));
        zeros = λ k a b h.
            rw (same_state (suc j), same_state j, same_state (suc i)) (learns_zeros lim o.counts es run i p v j q (rw same_answers at ret) k a b (collecting_at k h));
      }
    where
      collects_at : (k : ℕ) → Collecting lim o.counts es run k → CollectsAt lim (opened lim o.counts) ts k
      collects_at k h = record { processor = h.processor; arrival = rw same_answers h.arrival; collects = rw (same_state k) h.collects }

      collecting_at : (k : ℕ) → CollectsAt lim (opened lim o.counts) ts k → Collecting lim o.counts es run k
      collecting_at k h = record { processor = h.processor; arrival = rw same_answers at h.arrival; collects = rw (same_state k) at h.collects }
