-- What each kind of step leaves of the tallies, and what it adds to one. Rests on Fetches, KeptShared and Ghosts. Assumes nothing.
use Prim.Native.Nat.{ℕ, ◌+◌, ◌%◌, ◌<◌}
use mathlib.Core.Path.{◌≡◌, refl}
use mathlib.Core.Bool.{Bool, true, false, cond, ◌&&◌}
use lib.ListN.{length}
use lib.Dec.{eqb}
use Rattle.lists.proofs.Tables.{cell_put}
use Rattle.lists.proofs.Tabulated.{get_tabulate}
use Rattle.limits.specs.Limits.{word_values}
use Rattle.rules.specs.State.{Limits, Shared, posted_of, adds_of, State}
use Rattle.rules.specs.Tallies.{tally_added, total_after, posting}
use Rattle.rules.specs.Close.{closed}
use Rattle.rules.specs.Fetch.{fetched}
use Rattle.rules.specs.Steps.{read, write, acquire, release, at_barrier, all_arrived, round_done, none_fetched, emptied, collected, wants_collection, arrive, want, enqueue, dequeue}
use Rattle.rules.specs.Refusals.{Step, Action, Read, Write, Acquire, Release, Arrive, Want, TallyAdd, TallyRead, Enqueue, Dequeue, Unknown, action_of, known_kind, object_bound, effect}
use Rattle.rules.specs.Demand.{value_field}
use Rattle.rules.proofs.state.Fetches.{all_fetched_shared}
use Rattle.rules.proofs.inorder.KindsOfSteps.{unknown_differs, by_action, object_in}
use Rattle.rules.proofs.inorder.KeptShared.{no_adds_left}
use Rattle.rules.proofs.inorder.Accepted.{Accepted, object_there}
use Rattle.rules.proofs.order.Ghosts.{completes}

-- ---- the tallies after a step

-- after an accepted step of processor p in the state s
unfoldable pub shared_after : Limits → State → ℕ → Action → Shared
shared_after lim s p (Read w) = s.shared
shared_after lim s p (Write w v) = s.shared
shared_after lim s p (Acquire l) = s.shared
shared_after lim s p (Release l) = s.shared
shared_after lim s p Arrive = cond (completes s p) (posting s.shared s.counts.processors) s.shared
shared_after lim s p Want = s.shared
shared_after lim s p (TallyAdd t v) = tally_added s.shared p t v
shared_after lim s p (TallyRead t) = s.shared
shared_after lim s p (Enqueue t) = (enqueue lim s p t).shared
shared_after lim s p Dequeue = s.shared
shared_after lim s p Unknown = s.shared

shared_after_arrive : (lim : Limits) (s : State) (p : ℕ) → (arrive lim s p).after.shared ≡ shared_after lim s p Arrive
unfolding arrive collected emptied round_done at_barrier closed completes shared_after
shared_after_arrive lim s p = go (all_arrived (at_barrier s p)) (wants_collection (at_barrier s p))
  where
    go : (a b : Bool)
        → (cond a (cond b (collected lim (round_done (at_barrier s p))) (none_fetched (round_done (at_barrier s p)))) (none_fetched (at_barrier s p))).after.shared
        ≡ cond a (posting s.shared s.counts.processors) s.shared
    go true true = all_fetched_shared lim (round_done (at_barrier s p))
    go true false = refl
    go false b = refl

-- they are those of the state that the step leaves
pub shared_after_lem : (lim : Limits) (s : State) (p : ℕ) (a : Action) → (effect lim s p a).after.shared ≡ shared_after lim s p a
unfolding effect read write acquire release want closed fetched shared_after dequeue
shared_after_lem lim s p (Read w) = refl
shared_after_lem lim s p (Write w v) = refl
shared_after_lem lim s p (Acquire l) = refl
shared_after_lem lim s p (Release l) = refl
shared_after_lem lim s p Arrive = shared_after_arrive lim s p
shared_after_lem lim s p Want = refl
shared_after_lem lim s p (TallyAdd t v) = refl
shared_after_lem lim s p (TallyRead t) = refl
shared_after_lem lim s p (Enqueue t) = refl
shared_after_lem lim s p Dequeue = refl
shared_after_lem lim s p Unknown = refl

-- ---- one tally

-- an add leaves the posted totals
pub posted_added : (h : Shared) (p u v t : ℕ) → posted_of (tally_added h p u v) t ≡ posted_of h t
unfolding posted_of tally_added
posted_added h p u v t = refl

-- and adds to the tally of its processor
pub adds_added : (h : Shared) (p u v q t : ℕ) → adds_of (tally_added h p u v) q t ≡ cond (eqb q p && eqb t u) ((adds_of h p u + v) % word_values) (adds_of h q t)
unfolding adds_of tally_added
adds_added h p u v q t = cell_put 0 h.adds p u q t ((adds_of h p u + v) % word_values)

-- a posted total is that after the round
pub posted_posted : (h : Shared) (n t : ℕ) → t < length h.posted → posted_of (posting h n) t ≡ total_after h n t
unfolding posted_of posting
posted_posted h n t l = get_tabulate (length h.posted) (total_after h n) t 0 l

-- and nothing is added since
pub adds_posted : (h : Shared) (n q t : ℕ) → adds_of (posting h n) q t ≡ 0
unfolding adds_of posting
adds_posted h n q t = no_adds_left h.adds q t

-- ---- what a step adds

-- what an action adds to tally t
unfoldable pub adds_by : ℕ → Action → ℕ
adds_by t (Read w) = 0
adds_by t (Write w v) = 0
adds_by t (Acquire l) = 0
adds_by t (Release l) = 0
adds_by t Arrive = 0
adds_by t Want = 0
adds_by t (TallyAdd u v) = cond (eqb u t) (value_field v) 0
adds_by t (TallyRead u) = 0
adds_by t (Enqueue u) = 0
adds_by t Dequeue = 0
adds_by t Unknown = 0

-- it is the value field of a step of kind 8 with that object
pub kind_adds : (t : ℕ) (s : Step) → cond (eqb s.kind 8 && eqb s.object t) (value_field s.value) 0 ≡ adds_by t (action_of s)
unfolding adds_by known_kind
kind_adds t s =
    by_action (λ k a. cond (eqb k 8 && eqb s.object t) (value_field s.value) 0 ≡ adds_by t a) s refl refl refl refl refl refl refl refl refl refl (λ k u. rw (unknown_differs 8 refl k u))

-- the tally of a read that was accepted is present
pub total_there : (lim : Limits) (s : State) (t : Step) (x : ℕ) → action_of t ≡ TallyRead x → Accepted lim s t → x < lim.tallies
unfolding object_bound object_in
total_there lim s t x e a = object_there lim s t (TallyRead x) e a.fields_fit
