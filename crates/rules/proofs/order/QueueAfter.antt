-- What each kind of step leaves of the queue: its two marks, the values of its places and their clocks. Rests on MarksAfter, TalliesAfter and Holders.
-- Assumes nothing.
use Prim.Native.Nat.{ℕ, zero, suc, ◌+◌, ◌-◌}
use mathlib.Core.Path.{◌≡◌, refl, sym, ap, ◌∙◌}
use mathlib.Core.Bool.{Bool, true, false, cond, false≢true}
use mathlib.Core.List.{List, [], ◌∷◌, map}
use lib.ListN.{get_or}
use lib.Dec.{eqb}
use Rattle.lists.specs.Tables.{put}
use Rattle.clock.specs.Clocks.{joined}
use Rattle.rules.specs.State.{Limits, Processor, Lock, Job, Clocks, clock_of, with_clock, cleared, Marks, with_holder, State, clock, holder}
use Rattle.rules.specs.Lines.{in_line, first_in_line, with_waiter, lock_asked, lock_handed, without_waiter}
use Rattle.rules.specs.Tallies.{tally_added, posting}
use Rattle.rules.specs.Close.{any_dirty, ticked, closed}
use Rattle.rules.specs.Fetch.{fetched}
use Rattle.rules.specs.Steps.{read, write, learned, acquire, lock_told, waiter_told, release, at_barrier, all_arrived, all_learned, round_done, all_fetched, none_fetched, all_cleared, emptied, collected, wants_collection, arrive, want, place_behind, free_place, enqueue, dequeue}
use Rattle.rules.specs.Refusals.{Action, Read, Write, Acquire, Release, Arrive, Want, TallyAdd, TallyRead, Enqueue, Dequeue, Unknown, effect}
use Rattle.rules.specs.Jobs.{Collects}
use Rattle.rules.proofs.state.Fetches.{all_fetched_keep}
use Rattle.rules.proofs.state.Holders.{clock_of_with_same}
use Rattle.rules.proofs.order.ActionKinds.{adds_job, removes_job}
use Rattle.rules.proofs.order.Ghosts.{completes}
use Rattle.rules.proofs.order.MarksAfter.{arrive_keeps}
use Rattle.rules.proofs.order.TalliesAfter.{shared_after, shared_after_lem}

-- ---- the marks

-- the place of the oldest job, and how many wait
abbrev pub queue_of : Marks → List ℕ
queue_of m = m.first ∷ m.jobs ∷ []

-- after a step that adds a job, removes one or does neither
unfoldable pub queue_after : Limits → Marks → Action → List ℕ
queue_after lim m (Read x) = queue_of m
queue_after lim m (Write x v) = queue_of m
queue_after lim m (Acquire l) = queue_of m
queue_after lim m (Release l) = queue_of m
queue_after lim m Arrive = queue_of m
queue_after lim m Want = queue_of m
queue_after lim m (TallyAdd j x) = queue_of m
queue_after lim m (TallyRead j) = queue_of m
queue_after lim m (Enqueue v) = m.first ∷ (m.jobs + 1) ∷ []
queue_after lim m Dequeue = place_behind lim m.first ∷ (m.jobs - 1) ∷ []
queue_after lim m Unknown = queue_of m

pub queue_after_lem : (lim : Limits) (s : State) (p : ℕ) (a : Action) → queue_of (effect lim s p a).after.marks ≡ queue_after lim s.marks a
unfolding effect read write acquire release want enqueue dequeue closed fetched queue_after
queue_after_lem lim s p (Read x) = refl
queue_after_lem lim s p (Write x v) = refl
queue_after_lem lim s p (Acquire l) = unfold lock_asked in go (eqb (get_or s.marks.holders l 0) 0)
  where
    go : (b : Bool) → queue_of (cond b (with_holder s.marks l p) (with_waiter s.marks l p (in_line s.counts.processors s.marks l))) ≡ queue_of s.marks
    go true = unfold with_holder in refl
    go false = unfold with_waiter in refl
queue_after_lem lim s p (Release l) = unfold lock_handed with_holder without_waiter in refl
queue_after_lem lim s p Arrive = arrive_keeps queue_of (λ m l. refl) (λ m w. refl) lim s p
queue_after_lem lim s p Want = refl
queue_after_lem lim s p (TallyAdd j x) = refl
queue_after_lem lim s p (TallyRead j) = refl
queue_after_lem lim s p (Enqueue v) = refl
queue_after_lem lim s p Dequeue = refl
queue_after_lem lim s p Unknown = refl

-- they stay, but where a job is added or removed
pub queue_stays : (lim : Limits) (m : Marks) (a : Action) → adds_job a ≡ false → removes_job a ≡ false → queue_after lim m a ≡ queue_of m
unfolding queue_after adds_job removes_job
queue_stays lim m (Read x) e d = refl
queue_stays lim m (Write x v) e d = refl
queue_stays lim m (Acquire l) e d = refl
queue_stays lim m (Release l) e d = refl
queue_stays lim m Arrive e d = refl
queue_stays lim m Want e d = refl
queue_stays lim m (TallyAdd j x) e d = refl
queue_stays lim m (TallyRead j) e d = refl
queue_stays lim m (Enqueue v) e d = absurd (false≢true (sym e))
queue_stays lim m Dequeue e d = absurd (false≢true (sym d))
queue_stays lim m Unknown e d = refl

-- ---- the values

-- they stay, but where a job is added
pub values_kept : (lim : Limits) (s : State) (p : ℕ) (a : Action) → adds_job a ≡ false → (effect lim s p a).after.shared.values ≡ s.shared.values
unfolding shared_after adds_job tally_added posting
values_kept lim s p a e = rw (shared_after_lem lim s p a) (go a e)
  where
    go : (a : Action) → adds_job a ≡ false → (shared_after lim s p a).values ≡ s.shared.values
    go (Read x) e = refl
    go (Write x v) e = refl
    go (Acquire l) e = refl
    go (Release l) e = refl
    go Arrive e = round (completes s p)
      where
        round : (b : Bool) → (cond b (posting s.shared s.counts.processors) s.shared).values ≡ s.shared.values
        round true = unfold posting in refl
        round false = refl
    go Want e = refl
    go (TallyAdd j x) e = refl
    go (TallyRead j) e = refl
    go (Enqueue v) e = absurd (false≢true (sym e))
    go Dequeue e = refl
    go Unknown e = refl

-- ---- the clocks

-- closing leaves them
pub closed_jobs : (s : State) (p : ℕ) → (closed s p).clocks.jobs ≡ s.clocks.jobs
unfolding closed
closed_jobs s p = go (any_dirty s p)
  where
    go : (b : Bool) → (cond b (ticked s p) s.clocks).jobs ≡ s.clocks.jobs
    go true = unfold ticked with_clock in refl
    go false = refl

-- and so does a round in which all learn what the barrier knows
all_learned_jobs : (c : Clocks) (n : ℕ) → (all_learned c n).jobs ≡ c.jobs
unfolding all_learned learned with_clock
all_learned_jobs c zero = refl
all_learned_jobs c (suc n) = all_learned_jobs c n

-- an arrival that collects clears them
unfoldable pub jobs_arrived : State → ℕ → List (List ℕ)
jobs_arrived s p = cond (all_arrived (at_barrier s p)) (cond (wants_collection (at_barrier s p)) (map cleared s.clocks.jobs) s.clocks.jobs) s.clocks.jobs

jobs_arrived_lem : (lim : Limits) (s : State) (p : ℕ) → (arrive lim s p).after.clocks.jobs ≡ jobs_arrived s p
unfolding arrive jobs_arrived
jobs_arrived_lem lim s p = go (all_arrived (at_barrier s p)) (wants_collection (at_barrier s p))
  where
    there : (at_barrier s p).clocks.jobs ≡ s.clocks.jobs
    there = unfold at_barrier learned with_clock in closed_jobs s p

    round : (round_done (at_barrier s p)).clocks.jobs ≡ s.clocks.jobs
    round = unfold round_done with_clock in (all_learned_jobs (at_barrier s p).clocks (at_barrier s p).counts.processors ∙ there)

    fetched_all : (all_fetched lim (round_done (at_barrier s p)) (round_done (at_barrier s p)).counts.processors).after.clocks.jobs ≡ s.clocks.jobs
    fetched_all = all_fetched_keep lim (round_done (at_barrier s p)) (λ u. u.clocks.jobs ≡ s.clocks.jobs) (λ u q g h k l e. unfold fetched with_clock in e) round

    go : (a b : Bool)
        → (cond a (cond b (collected lim (round_done (at_barrier s p))) (none_fetched (round_done (at_barrier s p)))) (none_fetched (at_barrier s p))).after.clocks.jobs
        ≡ cond a (cond b (map cleared s.clocks.jobs) s.clocks.jobs) s.clocks.jobs
    go true true = unfold collected emptied all_cleared in ap (map cleared) fetched_all
    go true false = round
    go false b = there

-- after a step: a job is added with its processor's clock
unfoldable pub jobs_after : Limits → State → ℕ → Action → List (List ℕ)
jobs_after lim s p (Read x) = s.clocks.jobs
jobs_after lim s p (Write x v) = s.clocks.jobs
jobs_after lim s p (Acquire l) = s.clocks.jobs
jobs_after lim s p (Release l) = s.clocks.jobs
jobs_after lim s p Arrive = jobs_arrived s p
jobs_after lim s p Want = s.clocks.jobs
jobs_after lim s p (TallyAdd j x) = s.clocks.jobs
jobs_after lim s p (TallyRead j) = s.clocks.jobs
jobs_after lim s p (Enqueue v) = put [] s.clocks.jobs (free_place lim s) (clock (closed s p) p)
jobs_after lim s p Dequeue = s.clocks.jobs
jobs_after lim s p Unknown = s.clocks.jobs

pub jobs_after_lem : (lim : Limits) (s : State) (p : ℕ) (a : Action) → (effect lim s p a).after.clocks.jobs ≡ jobs_after lim s p a
unfolding effect read write want fetched with_clock jobs_after
jobs_after_lem lim s p (Read x) = refl
jobs_after_lem lim s p (Write x v) = refl
jobs_after_lem lim s p (Acquire l) = unfold acquire in go (eqb (holder (closed s p) l) 0)
  where
    go : (b : Bool) → (cond b (learned (closed s p).clocks (Processor p) (Lock l)) (closed s p).clocks).jobs ≡ s.clocks.jobs
    go true = unfold learned with_clock in closed_jobs s p
    go false = closed_jobs s p
jobs_after_lem lim s p (Release l) = unfold release waiter_told in go (eqb (first_in_line (closed s p).counts.processors (closed s p).marks l) 0)
  where
    q : ℕ
    q = first_in_line (closed s p).counts.processors (closed s p).marks l

    go : (b : Bool) → (cond b (lock_told (closed s p).clocks p l) (learned (lock_told (closed s p).clocks p l) (Processor q) (Lock l))).jobs ≡ s.clocks.jobs
    go true = unfold lock_told with_clock in closed_jobs s p
    go false = unfold learned lock_told with_clock in closed_jobs s p
jobs_after_lem lim s p Arrive = jobs_arrived_lem lim s p
jobs_after_lem lim s p Want = refl
jobs_after_lem lim s p (TallyAdd j x) = refl
jobs_after_lem lim s p (TallyRead j) = refl
jobs_after_lem lim s p (Enqueue v) = unfold enqueue free_place closed clock in ap (λ (l : List (List ℕ)). put [] l (free_place lim s) (clock (closed s p) p)) (closed_jobs s p)
jobs_after_lem lim s p Dequeue = unfold dequeue learned in closed_jobs s p
jobs_after_lem lim s p Unknown = refl

-- they stay, but where a job is added or a round collects
pub jobs_stay : (lim : Limits) (s : State) (p : ℕ) (a : Action) → adds_job a ≡ false → (a ≡ Arrive → jobs_arrived s p ≡ s.clocks.jobs) → jobs_after lim s p a ≡ s.clocks.jobs
unfolding jobs_after adds_job
jobs_stay lim s p (Read x) e c = refl
jobs_stay lim s p (Write x v) e c = refl
jobs_stay lim s p (Acquire l) e c = refl
jobs_stay lim s p (Release l) e c = refl
jobs_stay lim s p Arrive e c = c refl
jobs_stay lim s p Want e c = refl
jobs_stay lim s p (TallyAdd j x) e c = refl
jobs_stay lim s p (TallyRead j) e c = refl
jobs_stay lim s p (Enqueue v) e c = absurd (false≢true (sym e))
jobs_stay lim s p Dequeue e c = refl
jobs_stay lim s p Unknown e c = refl

-- an arrival leaves them unless it completes a collecting round
pub arrival_leaves : (s : State) (p : ℕ) → (Collects s p → ⊥) → jobs_arrived s p ≡ s.clocks.jobs
unfolding jobs_arrived
arrival_leaves s p none = go (all_arrived (at_barrier s p)) (wants_collection (at_barrier s p)) refl refl
  where
    go : (a b : Bool) → all_arrived (at_barrier s p) ≡ a → wants_collection (at_barrier s p) ≡ b → cond a (cond b (map cleared s.clocks.jobs) s.clocks.jobs) s.clocks.jobs ≡ s.clocks.jobs
    go true true x y = absurd (none (record { last = x; wanted = y }))
    go true false x y = refl
    go false b x y = refl

-- and then clears them
pub arrival_clears : (s : State) (p : ℕ) → Collects s p → jobs_arrived s p ≡ map cleared s.clocks.jobs
unfolding jobs_arrived
arrival_clears s p h = rw (h.last, h.wanted)

-- ---- the clocks of processors

-- an enqueue leaves them as closing does
pub enqueue_leaves : (lim : Limits) (s : State) (p v q : ℕ) → clock (enqueue lim s p v) q ≡ clock (closed s p) q
unfolding enqueue clock clock_of with_clock
enqueue_leaves lim s p v q = refl

-- a dequeue joins the oldest job's to its processor's
pub dequeue_learns : (lim : Limits) (s : State) (p : ℕ) → clock (dequeue lim s p).after p ≡ joined (clock (closed s p) p) (get_or s.clocks.jobs s.marks.first [])
unfolding dequeue clock learned closed clock_of
dequeue_learns lim s p =
    clock_of_with_same (closed s p).clocks (Processor p) (joined (clock_of (closed s p).clocks (Processor p)) (clock_of (closed s p).clocks (Job s.marks.first)))
    ∙ ap (λ (l : List (List ℕ)). joined (clock (closed s p) p) (get_or l s.marks.first [])) (closed_jobs s p)
