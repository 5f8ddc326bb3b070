-- L9: the queue told from the list alone is the state's: its jobs are those added less those removed, and the oldest one's place is that of the
-- number of those removed; so what an enqueue leaves at its place stands there until the dequeue that returns its job. Rests on Ring and Numbers.
-- Assumes nothing.
use Prim.Native.Nat.{ℕ, zero, suc, ◌+◌, ◌-◌, ◌≤◌, ◌<◌}
use native.Mathlib.Omega.{arith}
use mathlib.Core.Path.{◌≡◌, refl, sym, ap, ◌∙◌}
use mathlib.Core.Bool.{Bool, true, false, cond, false≢true}
use mathlib.Core.List.{List}
use lib.ListN.{get_or}
use lib.Dec.{eqb, ltb}
use borrow.Author.Tests.{ne_eqb}
use Rattle.rules.specs.State.{Limits, Counts, Holder, Processor, Lock, Job, State, own, holder}
use Rattle.rules.specs.Lines.{first_in_line}
use Rattle.rules.specs.Opening.{opened, zero_marks}
use Rattle.rules.specs.Steps.{place_behind, free_place}
use Rattle.rules.specs.Refusals.{Action, Read, Write, Acquire, Release, Arrive, Want, TallyAdd, TallyRead, Enqueue, Dequeue, Unknown}
use Rattle.rules.specs.Order.{Event, event_at, Took, counted, is_enqueue, is_dequeue, Returns}
use Rattle.rules.proofs.state.Holders.{same_holder}
use Rattle.rules.proofs.inorder.Accepted.{late_enqueue, late_dequeue}
use Rattle.rules.proofs.order.Timeline.{Timeline, Moment, Refused, Taken, moment, took_accepted}
use Rattle.rules.proofs.order.Counted.{flag, counted_passes, counted_fails, counted_on, counted_never_falls}
use Rattle.rules.proofs.order.QueueAfter.{queue_of, queue_after, queue_after_lem}
use Rattle.rules.proofs.order.ActionKinds.{adds_job, removes_job, took_enqueue, took_dequeue, refused_enqueue, refused_dequeue, enqueue_of}
use Rattle.rules.proofs.order.Ghosts.{Ghost, with_number, learned_numbers, round_numbers, arrived_numbers, freed_numbers, granted_numbers, ghost_place, ghost_place_lem, completes, ghost_after, ghost_at, ghost_refused, ghost_taken}
use Rattle.rules.proofs.order.NumbersAfter.{with_number_same, with_number_other, learner_knows}
use Rattle.rules.proofs.order.Ring.{ring, wrapped, ring_ahead, Queue, Stays, keeps_its_place}

-- the number of a place stays, but where a job is added at it
job_kept : (w : ℕ) (s : State) (p : ℕ) (γ : Ghost) (k : ℕ) (a : Action) → adds_job a ≡ false → (ghost_after w s p a γ).known (Job k) ≡ γ.known (Job k)
unfolding ghost_after with_number same_holder arrived_numbers round_numbers granted_numbers adds_job
job_kept w s p γ k (Read x) e = refl
job_kept w s p γ k (Write x v) e = go (eqb x w)
  where
    go : (b : Bool) → cond b (with_number γ.known (Processor p) (γ.writes + 1)) γ.known (Job k) ≡ γ.known (Job k)
    go true = refl
    go false = refl
job_kept w s p γ k (Acquire l) e = go (eqb (holder s l) 0)
  where
    go : (b : Bool) → cond b (learned_numbers γ.known (Processor p) (Lock l)) γ.known (Job k) ≡ γ.known (Job k)
    go true = refl
    go false = refl
job_kept w s p γ k (Release l) e = go (first_in_line s.counts.processors s.marks l) (eqb (first_in_line s.counts.processors s.marks l) 0)
  where
    go : (q : ℕ) (b : Bool) → cond b (freed_numbers γ p l) (learned_numbers (freed_numbers γ p l) (Processor q) (Lock l)) (Job k) ≡ γ.known (Job k)
    go q true = refl
    go q false = refl
job_kept w s p γ k Arrive e = go (completes s p)
  where
    go : (b : Bool) → cond b (round_numbers (arrived_numbers γ p)) (arrived_numbers γ p) (Job k) ≡ γ.known (Job k)
    go true = refl
    go false = refl
job_kept w s p γ k Want e = refl
job_kept w s p γ k (TallyAdd j x) e = refl
job_kept w s p γ k (TallyRead j) e = refl
job_kept w s p γ k (Enqueue v) e = absurd (false≢true (sym e))
job_kept w s p γ k Dequeue e = refl
job_kept w s p γ k Unknown e = refl

module _ (lim : Limits) (c : Counts) (es : List Event) (r : Timeline lim c es) where
  abbrev added : ℕ → ℕ
  added t = counted is_enqueue es t

  abbrev removed : ℕ → ℕ
  removed t = counted is_dequeue es t

  -- what holds of the queue's marks at a time
  pub record Counting (t : ℕ) : Type 0 where
    pub jobs : (r.state t).marks.jobs + removed t ≡ added t
    pub first : (r.state t).marks.first ≡ ring lim.jobs (removed t)

  -- an accepted enqueue finds room
  pub finds_room : (t p v : ℕ) → Took es t p (Enqueue v) → (r.state t).marks.jobs < lim.jobs
  finds_room t p v took =
      omega (arith, (r.ordered t).few_jobs, late_enqueue lim (r.state t) (own (r.state t) (event_at es t).step.processor) (event_at es t).step.processor v (rw took.action at (took_accepted lim c es r t p (Enqueue v) took).not_late))

  -- an accepted dequeue finds a job
  pub finds_job : (t p : ℕ) → Took es t p Dequeue → (r.state t).marks.jobs ≡ 0 → ⊥
  finds_job t p took = late_dequeue lim (r.state t) (own (r.state t) (event_at es t).step.processor) (event_at es t).step.processor (rw took.action at (took_accepted lim c es r t p Dequeue took).not_late)

  -- the marks of the queue by what a step does to the counts
  record Marked (l : List ℕ) (gone come : ℕ) : Type 0 where
    jobs : get_or l 1 0 + gone ≡ come
    first : get_or l 0 0 ≡ ring lim.jobs gone

  marked : (t p : ℕ) (a : Action) → Took es t p a → Counting t → Marked (queue_after lim (r.state t).marks a) (removed t + flag (removes_job a)) (added t + flag (adds_job a))
  unfolding queue_after adds_job removes_job
  marked t p a took ih = go a took
    where
      plus_zero : (k : ℕ) → k ≡ k + 0
      plus_zero k = omega arith

      one_more : (k : ℕ) → suc k ≡ k + 1
      one_more k = omega arith

      behind : place_behind lim (ring lim.jobs (removed t)) ≡ ring lim.jobs (suc (removed t))
      behind = unfold place_behind ring in refl

      still : Marked (queue_of (r.state t).marks) (removed t + 0) (added t + 0)
      still = record { jobs = omega (arith, ih.jobs); first = ih.first ∙ ap (ring lim.jobs) (plus_zero (removed t)) }

      go : (a : Action) → Took es t p a → Marked (queue_after lim (r.state t).marks a) (removed t + flag (removes_job a)) (added t + flag (adds_job a))
      go (Read x) took = still
      go (Write x v) took = still
      go (Acquire l) took = still
      go (Release l) took = still
      go Arrive took = still
      go Want took = still
      go (TallyAdd j x) took = still
      go (TallyRead j) took = still
      go (Enqueue v) took = record { jobs = omega (arith, ih.jobs); first = ih.first ∙ ap (ring lim.jobs) (plus_zero (removed t)) }
      go Dequeue took =
          record {
            jobs = omega (arith, ih.jobs, finds_job t p took);
            first = ap (place_behind lim) ih.first ∙ behind ∙ ap (ring lim.jobs) (one_more (removed t));
          }
      go Unknown took = still

  -- always
  pub counting : (t : ℕ) → Counting t
  unfolding counted
  counting zero =
      record {
        jobs = ap (λ (s : State). s.marks.jobs + 0) r.starts ∙ (unfold opened zero_marks in refl);
        first = ap (λ (s : State). s.marks.first) r.starts ∙ (unfold opened zero_marks ring in refl);
      }
  counting (suc t) = go (moment lim c es r t) (counting t)
    where
      go : Moment lim es t (r.state t) (r.state (suc t)) → Counting t → Counting (suc t)
      go (Refused e k) ih =
          let a = counted_fails is_enqueue es t (refused_enqueue es t e) in
          let d = counted_fails is_dequeue es t (refused_dequeue es t e) in
          record { jobs = omega (arith, ih.jobs, a, d, ap (λ (s : State). s.marks.jobs) k); first = ap (λ (s : State). s.marks.first) k ∙ ih.first ∙ ap (ring lim.jobs) (sym d) }
      go (Taken p a took acc k) ih =
          let now = marked t p a took ih in
          let q = ap (λ (s : State). queue_of s.marks) k ∙ queue_after_lem lim (r.state t) p a in
          let e = counted_on is_enqueue es t (adds_job a) (took_enqueue es t p a took) in
          let d = counted_on is_dequeue es t (removes_job a) (took_dequeue es t p a took) in
          record {
            jobs = omega (arith, now.jobs, e, d, ap (λ (l : List ℕ). get_or l 1 0) q);
            first = ap (λ (l : List ℕ). get_or l 0 0) q ∙ now.first ∙ ap (ring lim.jobs) (sym d);
          }

  -- the place of a job that is added
  pub adds_at : (t p v : ℕ) → Took es t p (Enqueue v) → ghost_place (r.state t) ≡ ring lim.jobs (added t)
  unfolding ghost_place
  adds_at t p v took =
      ap (λ (m : ℕ). cond (ltb (s.marks.first + s.marks.jobs) m) (s.marks.first + s.marks.jobs) (s.marks.first + s.marks.jobs - m)) (r.ordered t).sized.jobs
      ∙ ap (λ (f : ℕ). cond (ltb (f + s.marks.jobs) lim.jobs) (f + s.marks.jobs) (f + s.marks.jobs - lim.jobs)) (counting t).first
      ∙ sym (ring_ahead lim.jobs (removed t) s.marks.jobs (finds_room t p v took) ∙ (unfold wrapped in refl))
      ∙ ap (ring lim.jobs) (swap (removed t) s.marks.jobs ∙ (counting t).jobs)
    where
      s : State
      s = r.state t

      swap : (a b : ℕ) → a + b ≡ b + a
      swap a b = omega arith

  -- which is the free place
  pub free_is : (t p v : ℕ) → Took es t p (Enqueue v) → free_place lim (r.state t) ≡ ring lim.jobs (added t)
  free_is t p v took = sym (ghost_place_lem lim (r.state t) (r.ordered t).sized.jobs) ∙ adds_at t p v took

  -- the queue as Ring speaks of it
  pub queue : 0 < lim.jobs → Queue lim.jobs added removed (λ t. is_enqueue (event_at es t))
  queue some =
      record {
        room = some;
        one_more = λ t e. omega (arith, counted_passes is_enqueue es t e);
        not_full = λ t e. let took = enqueue_of es t e in omega (arith, (counting t).jobs, finds_room t (event_at es t).step.processor (event_at es t).step.value took);
        as_many = λ t e. counted_fails is_enqueue es t e;
        grows = λ t. counted_never_falls is_dequeue es t (suc t) (omega arith);
      }

  module _ (w x : ℕ) where
    abbrev number_at : ℕ → Holder → ℕ
    number_at t h = (ghost_at lim c es r w t).known h

    -- what a place knows stays, but where a job is added at it
    stays : Stays lim.jobs added (λ t. is_enqueue (event_at es t)) (λ t k. x ≤ number_at t (Job k))
    stays = record { elsewhere = λ t k e other h. there t k e other h; otherwise = λ t k e h. still t k e h (moment lim c es r t) }
      where
        there : (t k : ℕ) → is_enqueue (event_at es t) ≡ true → (k ≡ ring lim.jobs (added t) → ⊥) → x ≤ number_at t (Job k) → x ≤ number_at (suc t) (Job k)
        there t k e other h =
            let took = enqueue_of es t e in
            let place = adds_at t (event_at es t).step.processor (event_at es t).step.value took in
            let now = ap (λ (γ : Ghost). γ.known (Job k)) (ghost_taken lim c es r w t (event_at es t).step.processor (Enqueue (event_at es t).step.value) took) in
            omega (arith, h, now, kept t k (event_at es t).step.processor (event_at es t).step.value (λ z. other (z ∙ place)))
          where
            kept : (t k p v : ℕ) → (k ≡ ghost_place (r.state t) → ⊥) → (ghost_after w (r.state t) p (Enqueue v) (ghost_at lim c es r w t)).known (Job k) ≡ number_at t (Job k)
            kept t k p v d = unfold ghost_after in with_number_other (number_at t) (Job (ghost_place (r.state t))) (number_at t (Processor p)) (Job k) (unfold same_holder in ne_eqb k (ghost_place (r.state t)) d)

        still : (t k : ℕ) → is_enqueue (event_at es t) ≡ false → x ≤ number_at t (Job k) → Moment lim es t (r.state t) (r.state (suc t)) → x ≤ number_at (suc t) (Job k)
        still t k e h (Refused z y) = omega (arith, h, ap (λ (γ : Ghost). γ.known (Job k)) (ghost_refused lim c es r w t z))
        still t k e h (Taken p a took acc y) =
            omega (
              arith,
              h,
              ap (λ (γ : Ghost). γ.known (Job k)) (ghost_taken lim c es r w t p a took),
              job_kept w (r.state t) p (ghost_at lim c es r w t) k a (sym (took_enqueue es t p a took) ∙ e),
            )

  -- an enqueue tells the dequeue that returns its job
  pub job_tells : (w i p v j q : ℕ) → Returns es i p v j q → (ghost_at lim c es r w (suc i)).known (Processor p) ≤ (ghost_at lim c es r w (suc j)).known (Processor q)
  job_tells w i p v j q ret =
      omega (arith, mine, told, at_j)
    where
      x : ℕ
      x = (ghost_at lim c es r w i).known (Processor p)

      place : ℕ
      place = ring lim.jobs (added i)

      some : 0 < lim.jobs
      some = omega (arith, finds_room i p v ret.enqueue)

      -- the enqueue leaves its processor's number, and puts it at its place
      mine : (ghost_at lim c es r w (suc i)).known (Processor p) ≡ x
      mine = ap (λ (γ : Ghost). γ.known (Processor p)) (ghost_taken lim c es r w i p (Enqueue v) ret.enqueue) ∙ (unfold ghost_after with_number same_holder in refl)

      put : (ghost_at lim c es r w (suc i)).known (Job place) ≡ x
      put =
          ap (λ (γ : Ghost). γ.known (Job place)) (ghost_taken lim c es r w i p (Enqueue v) ret.enqueue)
          ∙ ap (λ (k : ℕ). (ghost_after w (r.state i) p (Enqueue v) (ghost_at lim c es r w i)).known (Job k)) (sym (adds_at i p v ret.enqueue))
          ∙ (unfold ghost_after in with_number_same (ghost_at lim c es r w i).known (Job (ghost_place (r.state i))) x)

      told : x ≤ (ghost_at lim c es r w j).known (Job place)
      told =
          keeps_its_place lim.jobs added removed (λ t. is_enqueue (event_at es t)) (queue some) (λ t k. x ≤ (ghost_at lim c es r w t).known (Job k)) (stays w x) i
          (took_enqueue es i p (Enqueue v) ret.enqueue ∙ (unfold adds_job in refl)) (omega (arith, put)) j ret.waited (omega (arith, ret.same))

      first : (r.state j).marks.first ≡ place
      first = (counting j).first ∙ ap (ring lim.jobs) (sym ret.same)

      at_j : (ghost_at lim c es r w j).known (Job place) ≤ (ghost_at lim c es r w (suc j)).known (Processor q)
      at_j =
          let now = ap (λ (γ : Ghost). γ.known (Processor q)) (ghost_taken lim c es r w j q Dequeue ret.dequeue) in
          let learnt : (ghost_at lim c es r w j).known (Job (r.state j).marks.first) ≤ (ghost_after w (r.state j) q Dequeue (ghost_at lim c es r w j)).known (Processor q) = unfold ghost_after in learner_knows (ghost_at lim c es r w j).known (Processor q) (Job (r.state j).marks.first) in
          omega (arith, now, learnt, ap (λ (k : ℕ). (ghost_at lim c es r w j).known (Job k)) first)
