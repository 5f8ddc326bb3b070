-- The queue of a state as a list of jobs, the oldest first: a job added stands last, the one removed stood first, and where only the clocks change the list has
-- the new ones. Rests on QueueAfter and Ring. Assumes nothing.
use Prim.Native.Nat.{ℕ, suc, ◌+◌, ◌-◌, ◌%◌, ◌≤◌, ◌<◌}
use native.Mathlib.Omega.{arith}
use native.Mathlib.Numerals.{add-one}
use mathlib.Core.Path.{◌≡◌, refl, sym, ap, ap₂, ◌∙◌}
use mathlib.Core.Bool.{cond}
use mathlib.Core.Logic.{◌⊎◌, inl, inr}
use mathlib.Core.List.{List, [], ◌∷◌, ◌++◌, map}
use lib.ListN.{get_or}
use lib.Dec.{ltb}
use borrow.Author.Tests.{lt-ltb}
use Rattle.lists.specs.Tables.{put, tabulate}
use Rattle.lists.proofs.Tables.{get_put_same, get_put_other, get_map}
use Rattle.lists.proofs.Tabulated.{tabulate_same, tabulate_more, map_tabulate}
use Rattle.limits.specs.Limits.{word_values}
use Rattle.rules.specs.State.{Limits, Job, clock_of, cleared, job_value, State, clock}
use Rattle.rules.specs.Close.{closed}
use Rattle.rules.specs.Steps.{place_behind, place_at, free_place, enqueue, dequeue}
use Rattle.rules.specs.Refusals.{Enqueue, Dequeue, effect}
use Rattle.rules.specs.Demand.{value_field}
use Rattle.rules.specs.Jobs.{Queued, job_at, queue_in, with_zeros}
use Rattle.rules.proofs.inorder.Facts.{InOrder}
use Rattle.rules.proofs.order.QueueAfter.{queue_of, jobs_after, jobs_after_lem}
use Rattle.rules.proofs.order.Ring.{wrapped, wrapped_apart, wrapped_next}

module _ (lim : Limits) (s s' : State) where
  -- one job more at the end
  queue_longer : s'.marks.jobs ≡ s.marks.jobs + 1 → ((k : ℕ) → k < s.marks.jobs → job_at lim s' k ≡ job_at lim s k)
      → queue_in lim s' ≡ queue_in lim s ++ job_at lim s' s.marks.jobs ∷ []
  unfolding queue_in
  queue_longer more same =
      ap (λ (n : ℕ). tabulate n (job_at lim s')) (more ∙ add-one s.marks.jobs)
      ∙ tabulate_more s.marks.jobs (job_at lim s')
      ∙ ap (λ (l : List Queued). l ++ job_at lim s' s.marks.jobs ∷ []) (tabulate_same s.marks.jobs (job_at lim s') (job_at lim s) same)

  -- one fewer at the front
  queue_shorter : s.marks.jobs ≡ suc s'.marks.jobs → ((k : ℕ) → k < s'.marks.jobs → job_at lim s' k ≡ job_at lim s (suc k))
      → queue_in lim s ≡ job_at lim s 0 ∷ queue_in lim s'
  unfolding queue_in tabulate
  queue_shorter fewer same =
      ap (λ (n : ℕ). tabulate n (job_at lim s)) fewer
      ∙ ap (λ (l : List Queued). job_at lim s 0 ∷ l) (sym (tabulate_same s'.marks.jobs (job_at lim s') (λ k. job_at lim s (suc k)) same))

  -- each changed alike
  queue_changed : (g : Queued → Queued) → s'.marks.jobs ≡ s.marks.jobs → ((k : ℕ) → k < s.marks.jobs → job_at lim s' k ≡ g (job_at lim s k))
      → queue_in lim s' ≡ map g (queue_in lim s)
  unfolding queue_in
  queue_changed g jobs same =
      ap (λ (n : ℕ). tabulate n (job_at lim s')) jobs
      ∙ tabulate_same s.marks.jobs (job_at lim s') (λ k. g (job_at lim s k)) same
      ∙ sym (map_tabulate g s.marks.jobs (job_at lim s))

-- a job by its place
job_is : {x y : ℕ} {c d : List ℕ} → x ≡ y → c ≡ d → ◌≡◌ {A = Queued} (record { value = x; clock = c }) (record { value = y; clock = d })
job_is e f = ap₂ (λ (v : ℕ) (l : List ℕ). record { value = v; clock = l }) e f

-- the clock of a place
clock_there : (s : State) (k : ℕ) → clock_of s.clocks (Job k) ≡ get_or s.clocks.jobs k []
unfolding clock_of
clock_there s k = refl

module _ (lim : Limits) (s : State) (o : InOrder lim s) (p : ℕ) where
  -- where a job waits or has room, the oldest one's place is one
  first_within : 0 < lim.jobs → s.marks.first < lim.jobs
  first_within some = go o.first_there
    where
      go : (lim.jobs ≡ 0) ⊎ (s.marks.first < lim.jobs) → s.marks.first < lim.jobs
      go (inl e) = absurd (omega (arith, e, some))
      go (inr l) = l

  pub place_of_first : 0 < lim.jobs → place_at lim s 0 ≡ s.marks.first
  place_of_first some =
      let there : s.marks.first + 0 ≡ s.marks.first = omega arith in
      rw (there, lt-ltb s.marks.first lim.jobs (first_within some))

  -- ---- a job added

  module _ (v : ℕ) (room : s.marks.jobs < lim.jobs) where
    -- the clocks of the places
    jobs_are : (enqueue lim s p v).clocks.jobs ≡ put [] s.clocks.jobs (free_place lim s) (clock (closed s p) p)
    unfolding effect jobs_after
    jobs_are = jobs_after_lem lim s p (Enqueue v)

    clock_at_lem : (k : ℕ) → clock_of (enqueue lim s p v).clocks (Job k) ≡ get_or (put [] s.clocks.jobs (free_place lim s) (clock (closed s p) p)) k []
    clock_at_lem k = clock_there (enqueue lim s p v) k ∙ ap (λ (l : List (List ℕ)). get_or l k []) jobs_are

    -- another place is free
    other_place : (k : ℕ) → k < s.marks.jobs → place_at lim s k ≡ free_place lim s → ⊥
    unfolding free_place
    other_place k l e = wrapped_apart lim.jobs s.marks.first s.marks.jobs k (first_within (omega (arith, room))) l room (unfold wrapped in e)

    stays_there : (k : ℕ) → k < s.marks.jobs → job_at lim (enqueue lim s p v) k ≡ job_at lim s k
    unfolding job_at enqueue closed free_place
    stays_there k l =
        job_is (get_put_other 0 s.shared.values (free_place lim s) (place_at lim s k) (v % word_values) (other_place k l))
        (clock_at_lem (place_at lim s k) ∙ get_put_other [] s.clocks.jobs (free_place lim s) (place_at lim s k) (clock (closed s p) p) (other_place k l) ∙ sym (clock_there s (place_at lim s k)))

    stands_last : job_at lim (enqueue lim s p v) s.marks.jobs ≡ record { value = value_field v; clock = clock (closed s p) p }
    unfolding job_at enqueue closed free_place value_field
    stands_last =
        job_is (get_put_same 0 s.shared.values (free_place lim s) (v % word_values))
        (clock_at_lem (free_place lim s) ∙ get_put_same [] s.clocks.jobs (free_place lim s) (clock (closed s p) p))

    pub job_added_lem : queue_in lim (enqueue lim s p v) ≡ queue_in lim s ++ record { value = value_field v; clock = clock (closed s p) p } ∷ []
    job_added_lem =
        queue_longer lim s (enqueue lim s p v) (unfold enqueue closed in refl) stays_there
        ∙ ap (λ (j : Queued). queue_in lim s ++ j ∷ []) stands_last

  -- ---- the oldest removed

  module _ (n : ℕ) (some : s.marks.jobs ≡ suc n) where
    unmoved : (dequeue lim s p).after.clocks.jobs ≡ s.clocks.jobs
    unfolding effect jobs_after
    unmoved = jobs_after_lem lim s p Dequeue

    next_is_first : (k : ℕ) → k < n → job_at lim (dequeue lim s p).after k ≡ job_at lim s (suc k)
    unfolding job_at dequeue closed place_behind
    next_is_first k l =
        let few : suc n ≤ lim.jobs = omega (arith, some, o.few_jobs) in
        let place : place_at lim (dequeue lim s p).after k ≡ place_at lim s (suc k) = unfold wrapped in wrapped_next lim.jobs s.marks.first k (first_within (omega (arith, few))) (omega (arith, few, l)) in
        job_is (ap (job_value s.shared) place)
        (clock_there (dequeue lim s p).after (place_at lim (dequeue lim s p).after k) ∙ ap₂ (λ (l : List (List ℕ)) (x : ℕ). get_or l x []) unmoved place ∙ sym (clock_there s (place_at lim s (suc k))))

    pub job_removed_lem : queue_in lim s ≡ job_at lim s 0 ∷ queue_in lim (dequeue lim s p).after
    job_removed_lem = queue_shorter lim s (dequeue lim s p).after fewer (λ k l. next_is_first k (omega (arith, l, fewer, some)))
      where
        fewer : s.marks.jobs ≡ suc (dequeue lim s p).after.marks.jobs
        fewer = unfold dequeue closed in omega (arith, some)

-- ---- other steps

module _ (lim : Limits) (s s' : State) (marks : queue_of s'.marks ≡ queue_of s.marks) (values : s'.shared.values ≡ s.shared.values) where
  first_kept : s'.marks.first ≡ s.marks.first
  first_kept = ap (λ (l : List ℕ). get_or l 0 0) marks

  jobs_kept : s'.marks.jobs ≡ s.marks.jobs
  jobs_kept = ap (λ (l : List ℕ). get_or l 1 0) marks

  place_kept : (k : ℕ) → place_at lim s' k ≡ place_at lim s k
  place_kept k = ap (λ (f : ℕ). cond (ltb (f + k) lim.jobs) (f + k) (f + k - lim.jobs)) first_kept

  value_kept : (k : ℕ) → job_value s'.shared (place_at lim s' k) ≡ job_value s.shared (place_at lim s k)
  value_kept k = ap₂ (λ (l : List ℕ) (x : ℕ). get_or l x 0) values (place_kept k)

  -- the same clocks, the same queue
  pub queue_kept : s'.clocks.jobs ≡ s.clocks.jobs → queue_in lim s' ≡ queue_in lim s
  unfolding queue_in job_at
  queue_kept same =
      ap (λ (n : ℕ). tabulate n (job_at lim s')) jobs_kept
      ∙ tabulate_same s.marks.jobs (job_at lim s') (job_at lim s)
      (λ k l. job_is (value_kept k) (clock_there s' (place_at lim s' k) ∙ ap₂ (λ (c : List (List ℕ)) (x : ℕ). get_or c x []) same (place_kept k) ∙ sym (clock_there s (place_at lim s k))))

  -- clocks cleared
  pub queue_cleared : s'.clocks.jobs ≡ map cleared s.clocks.jobs → queue_in lim s' ≡ map with_zeros (queue_in lim s)
  unfolding job_at with_zeros cleared
  queue_cleared clears =
      queue_changed lim s s' with_zeros jobs_kept
      (λ k l. job_is (value_kept k)
      (clock_there s' (place_at lim s' k) ∙ ap₂ (λ (c : List (List ℕ)) (x : ℕ). get_or c x []) clears (place_kept k) ∙ get_map cleared [] s.clocks.jobs (place_at lim s k)
      ∙ ap cleared (sym (clock_there s (place_at lim s k)))))
