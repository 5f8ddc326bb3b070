-- The queue keeps the state in order: a job added at the free place with its processor's clock, and the oldest job removed, whose clock its processor
-- learns. Rests on KeptClose and KeptRounds. Assumes nothing.
use Prim.Native.Nat.{ℕ, suc, ◌+◌, ◌-◌, ◌%◌, ◌≤◌, ◌<◌}
use native.Mathlib.Omega.{arith}
use native.Mathlib.Decide.{ℕ_discrete}
use mathlib.Core.Path.{◌≡◌, refl, ◌∙◌}
use mathlib.Core.Bool.{Bool, true, false, cond}
use mathlib.Core.Logic.{◌⊎◌, inl, inr}
use lib.Dec.{eqb, ltb}
use borrow.Author.Tests.{ltb-true, ltb-false, eq-eqb, ne_eqb}
use Rattle.lists.specs.Tables.{put}
use Rattle.lists.proofs.Tables.{length_put_within}
use Rattle.limits.specs.Limits.{word_values}
use Rattle.rules.specs.State.{Limits, Counts, Processor, Job, clock_of, with_clock, Marks, with_queue, adds_of, State, with_clocks, with_marks}
use Rattle.rules.specs.Lines.{waits, turn_of}
use Rattle.rules.specs.Close.{closed}
use Rattle.rules.specs.Steps.{learned, place_behind, free_place, enqueue, dequeue}
use Rattle.rules.proofs.state.Holders.{job_carries}
use Rattle.rules.proofs.inorder.Facts.{Within}
use Rattle.rules.proofs.inorder.KeptParts.{present_among, MarksInOrder, Parts}
use Rattle.rules.proofs.inorder.KeptLines.{queue_lines}
use Rattle.rules.proofs.inorder.KeptRounds.{processor_learned, carrier_handed}
use Rattle.rules.proofs.inorder.KeptClose.{closed_parts}
use Rattle.rules.proofs.inorder.KeptShared.{shared_changed}
use Rattle.rules.proofs.inorder.KeptFetch.{moved_parts}

-- other marks of the queue
pub queue_set : (lim : Limits) (n : Counts) (k : Marks) (f j : ℕ) → MarksInOrder lim n k → (lim.jobs ≡ 0) ⊎ (f < lim.jobs) → j ≤ lim.jobs → MarksInOrder lim n (with_queue k f j)
queue_set lim n k f j m there few =
    record {
      holders = m.holders;
      arrived = m.arrived;
      awaited = m.awaited;
      turns = m.turns;
      absent_not_arrived = m.absent_not_arrived;
      absent_not_held = m.absent_not_held;
      absent_awake = unfold waits in m.absent_awake;
      absent_turn = unfold turn_of in m.absent_turn;
      holder_present = m.holder_present;
      someone_missing_lem = m.someone_missing_lem;
      lines = queue_lines n k m.lines f j;
      holder_away = m.holder_away;
      first_there = there;
      few_jobs = few;
    }

-- the free place is a place, unless the queue is full
pub free_within : (lim : Limits) (s : State) → s.marks.first < lim.jobs → s.marks.jobs < lim.jobs → free_place lim s < lim.jobs
unfolding free_place
free_within lim s z less = go (ltb (s.marks.first + s.marks.jobs) lim.jobs) refl
  where
    go : (b : Bool) → ltb (s.marks.first + s.marks.jobs) lim.jobs ≡ b → cond b (s.marks.first + s.marks.jobs) (s.marks.first + s.marks.jobs - lim.jobs) < lim.jobs
    go true h = ltb-true (s.marks.first + s.marks.jobs) lim.jobs h
    go false h = omega (arith, z, less, ltb-false (s.marks.first + s.marks.jobs) lim.jobs h)

-- the place behind a place is one
pub behind_within : (lim : Limits) (k : ℕ) → k < lim.jobs → place_behind lim k < lim.jobs
unfolding place_behind
behind_within lim k l = go (ℕ_discrete (suc k) lim.jobs)
  where
    go : Dec (suc k ≡ lim.jobs) → cond (eqb (suc k) lim.jobs) 0 (suc k) < lim.jobs
    go (yes e) = rw (eq-eqb (suc k) lim.jobs e) (omega (arith, l))
    go (no e) = rw (ne_eqb (suc k) lim.jobs e) (omega (arith, l, e))

-- where there is a job, or room for one, the oldest job's place is one
pub first_in : (lim : Limits) (n : Counts) (k : Marks) → MarksInOrder lim n k → 0 < lim.jobs → k.first < lim.jobs
first_in lim n k m some = go m.first_there
  where
    go : (lim.jobs ≡ 0) ⊎ (k.first < lim.jobs) → k.first < lim.jobs
    go (inl z) = absurd (omega (arith, z, some))
    go (inr z) = z

-- a job added where the queue is not full
pub enqueue_parts : (lim : Limits) (s : State) (p v : ℕ) → Parts lim s → present_among s.counts p ≡ true → (s.marks.jobs ≡ lim.jobs → ⊥) → Parts lim (enqueue lim s p v)
unfolding enqueue closed adds_of
enqueue_parts lim s p v f a free =
    shared_changed lim (with_marks (with_clocks s₁ (with_clock s₁.clocks (Job k) (clock_of s₁.clocks (Processor p)))) (with_queue s.marks s.marks.first (s.marks.jobs + 1)))
    (record { posted = s.shared.posted; adds = s.shared.adds; values = put 0 s.shared.values k (v % word_values) })
    (moved_parts lim s₁ (with_clock s₁.clocks (Job k) (clock_of s₁.clocks (Processor p))) (with_queue s.marks s.marks.first (s.marks.jobs + 1)) g
    (carrier_handed lim s.counts s₁.clocks (Job k) p f.counts g.clocks (job_carries s.counts k) (unfold Within in there) a)
    (queue_set lim s.counts s.marks s.marks.first (s.marks.jobs + 1) f.marks f.marks.first_there (omega (arith, less))))
    (record { posted = f.shared.posted; adds = f.shared.adds; absent_adds = f.shared.absent_adds; values = length_put_within 0 s.shared.values k (v % word_values) (omega (arith, there, f.shared.values)) ∙ f.shared.values })
  where
    s₁ : State
    s₁ = closed s p

    g : Parts lim s₁
    g = closed_parts lim s p f a

    k : ℕ
    k = free_place lim s₁

    less : s.marks.jobs < lim.jobs
    less = omega (arith, f.marks.few_jobs, free)

    there : k < lim.jobs
    there = free_within lim s₁ (unfold closed in first_in lim s.counts s.marks f.marks (omega (arith, less))) (unfold closed in less)

-- the oldest job removed where there is one
pub dequeue_parts : (lim : Limits) (s : State) (p : ℕ) → Parts lim s → present_among s.counts p ≡ true → (s.marks.jobs ≡ 0 → ⊥) → Parts lim (dequeue lim s p).after
unfolding dequeue closed
dequeue_parts lim s p f a some =
    moved_parts lim s₁ (learned s₁.clocks (Processor p) (Job k)) (with_queue s.marks (place_behind lim k) (s.marks.jobs - 1)) g
    (processor_learned lim s.counts s₁.clocks p (Job k) f.counts g.clocks a (unfold Within in there))
    (queue_set lim s.counts s.marks (place_behind lim k) (s.marks.jobs - 1) f.marks (inr (behind_within lim k there)) (omega (arith, f.marks.few_jobs)))
  where
    s₁ : State
    s₁ = closed s p

    g : Parts lim s₁
    g = closed_parts lim s p f a

    k : ℕ
    k = s.marks.first

    there : k < lim.jobs
    there = first_in lim s.counts s.marks f.marks (omega (arith, f.marks.few_jobs, some))
