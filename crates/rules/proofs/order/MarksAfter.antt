-- What each kind of step leaves of the marks: the holder of each lock and its line of waiters, who has arrived at the barrier, and who rests.
-- Rests on Waiters, KeptParts and Ghosts. Assumes nothing.
use Prim.Native.Nat.{ℕ, suc}
use mathlib.Core.Path.{◌≡◌, refl, sym, ap, ◌∙◌}
use mathlib.Core.Bool.{Bool, true, false, cond, not, ◌||◌, false≢true}
use mathlib.Core.List.{List, map}
use lib.ListN.{get_or}
use lib.Dec.{eqb}
use Rattle.lists.specs.Tables.{put}
use Rattle.lists.proofs.Tables.{get_put, get_map}
use Rattle.rules.specs.State.{Limits, Marks, with_arrived, with_wanted, State, holder, has_arrived}
use Rattle.rules.specs.Lines.{waits, lock_asked, lock_handed}
use Rattle.rules.specs.Close.{closed}
use Rattle.rules.specs.Fetch.{fetched}
use Rattle.rules.specs.Steps.{read, write, acquire, release, at_barrier, all_arrived, round_done, all_fetched, none_fetched, emptied, collected, wants_collection, arrive, want, enqueue, dequeue}
use Rattle.rules.specs.Refusals.{Action, Read, Write, Acquire, Release, Arrive, Want, TallyAdd, TallyRead, Enqueue, Dequeue, Unknown, effect}
use Rattle.rules.proofs.state.Fetches.{all_fetched_marks}
use Rattle.rules.proofs.state.Waiters.{awaits, turn_at, holder_in, asked_arrived, handed_arrived}
use Rattle.rules.proofs.inorder.KeptParts.{arrived_in}
use Rattle.rules.proofs.order.Ghosts.{completes}

-- ---- an arrival

-- the marks of an arrival before its round is completed or left open
abbrev arrived_marks : State → ℕ → List ℕ
arrived_marks s p = put 0 s.marks.arrived p 1

-- what depends on neither the arrived marks nor the wish stays
pub arrive_keeps : (f : Marks → List ℕ) → ((m : Marks) (l : List ℕ) → f (with_arrived m l) ≡ f m) → ((m : Marks) (w : ℕ) → f (with_wanted m w) ≡ f m)
    → (lim : Limits) (s : State) (p : ℕ) → f (arrive lim s p).after.marks ≡ f s.marks
unfolding arrive collected emptied round_done at_barrier closed
arrive_keeps f marks_kept wish_kept lim s p = go (all_arrived (at_barrier s p)) (wants_collection (at_barrier s p))
  where
    there : f (at_barrier s p).marks ≡ f s.marks
    there = marks_kept s.marks (arrived_marks s p)

    round : f (round_done (at_barrier s p)).marks ≡ f s.marks
    round = marks_kept (at_barrier s p).marks (map (λ (mark : ℕ). 0) (arrived_marks s p)) ∙ there

    go : (a b : Bool)
        → f (cond a (cond b (collected lim (round_done (at_barrier s p))) (none_fetched (round_done (at_barrier s p)))) (none_fetched (at_barrier s p))).after.marks
        ≡ f s.marks
    go true true = wish_kept (all_fetched lim (round_done (at_barrier s p)) s.counts.processors).after.marks 0 ∙ ap f (all_fetched_marks lim (round_done (at_barrier s p))) ∙ round
    go true false = round
    go false b = there

arrive_arrived : (lim : Limits) (s : State) (p : ℕ)
    → (arrive lim s p).after.marks.arrived ≡ cond (completes s p) (map (λ (mark : ℕ). 0) (arrived_marks s p)) (arrived_marks s p)
unfolding arrive collected emptied round_done at_barrier closed completes
arrive_arrived lim s p = go (all_arrived (at_barrier s p)) (wants_collection (at_barrier s p))
  where
    go : (a b : Bool)
        → (cond a (cond b (collected lim (round_done (at_barrier s p))) (none_fetched (round_done (at_barrier s p)))) (none_fetched (at_barrier s p))).after.marks.arrived
        ≡ cond a (map (λ (mark : ℕ). 0) (arrived_marks s p)) (arrived_marks s p)
    go true true = ap (λ (m : Marks). m.arrived) (all_fetched_marks lim (round_done (at_barrier s p)))
    go true false = refl
    go false b = refl

-- whether a mark of a table is set
marked : List ℕ → ℕ → Bool
marked l q = not (eqb (get_or l q 0) 0)

marked_put : (l : List ℕ) (p q : ℕ) → marked (put 0 l p 1) q ≡ cond (eqb q p) true (marked l q)
unfolding marked
marked_put l p q = rw (get_put 0 l p q 1) (go (eqb q p))
  where
    go : (b : Bool) → not (eqb (cond b 1 (get_or l q 0)) 0) ≡ cond b true (not (eqb (get_or l q 0) 0))
    go true = refl
    go false = refl

marked_cleared : (l : List ℕ) (q : ℕ) → marked (map (λ (mark : ℕ). 0) l) q ≡ false
unfolding marked
marked_cleared l q = rw (get_map {B = ℕ} (λ mark. 0) 0 l q)

-- the marks with the arriving processor's
pub arrived_at_barrier : (s : State) (p q : ℕ) → has_arrived (at_barrier s p) q ≡ cond (eqb q p) true (has_arrived s q)
unfolding has_arrived at_barrier closed marked
arrived_at_barrier s p q = marked_put s.marks.arrived p q

-- ---- who rests

-- whether the marks say of a processor that it does nothing until others have acted: it has arrived, or waits for a lock
unfoldable pub rests_in : Marks → ℕ → Bool
rests_in m p = arrived_in m p || waits m p

-- the same of a state
abbrev pub rests : State → ℕ → Bool
rests s p = rests_in s.marks p

-- who has arrived rests
pub arrived_rests : (s : State) (p : ℕ) → has_arrived s p ≡ true → rests s p ≡ true
unfolding has_arrived rests_in
arrived_rests s p e = rw e

-- who waits rests
pub waiter_rests : (s : State) (p : ℕ) → waits s.marks p ≡ true → rests s p ≡ true
unfolding rests_in
waiter_rests s p e = rw e (go (arrived_in s.marks p))
  where
    go : (b : Bool) → (b || true) ≡ true
    go true = refl
    go false = refl

-- so who does not rest has not arrived
pub awake_not_arrived : (s : State) (p : ℕ) → rests s p ≡ false → has_arrived s p ≡ false
unfolding has_arrived rests_in
awake_not_arrived s p e = go (arrived_in s.marks p) e
  where
    go : (b : Bool) → (b || waits s.marks p) ≡ false → b ≡ false
    go true e = e
    go false e = refl

-- and waits for no lock
pub awake_not_waiting : (s : State) (p : ℕ) → rests s p ≡ false → waits s.marks p ≡ false
unfolding rests_in
awake_not_waiting s p e = go (arrived_in s.marks p) e
  where
    go : (b : Bool) → (b || waits s.marks p) ≡ false → waits s.marks p ≡ false
    go true e = absurd (false≢true (sym e))
    go false e = e

-- who has neither arrived nor waits does not rest
pub awake_when : (s : State) (p : ℕ) → has_arrived s p ≡ false → waits s.marks p ≡ false → rests s p ≡ false
unfolding has_arrived rests_in
awake_when s p e d = rw (e, d)

-- at the barrier the arriving processor rests, and who rested
pub rests_at_barrier : (s : State) (p q : ℕ) → rests (at_barrier s p) q ≡ cond (eqb q p) true (rests s q)
unfolding has_arrived rests_in at_barrier closed waits
rests_at_barrier s p q = rw (arrived_at_barrier s p q) (go (eqb q p))
  where
    go : (b : Bool) → (cond b true (has_arrived s q) || waits s.marks q) ≡ cond b true (has_arrived s q || waits s.marks q)
    go true = refl
    go false = refl

-- ---- holders and lines after a step

-- the marks as far as holders, waiters and turns go
unfoldable pub line_marks_after : State → ℕ → Action → Marks
line_marks_after s p (Read x) = s.marks
line_marks_after s p (Write x v) = s.marks
line_marks_after s p (Acquire l) = lock_asked s.counts.processors s.marks l p
line_marks_after s p (Release l) = lock_handed s.counts.processors s.marks l
line_marks_after s p Arrive = s.marks
line_marks_after s p Want = s.marks
line_marks_after s p (TallyAdd j x) = s.marks
line_marks_after s p (TallyRead j) = s.marks
line_marks_after s p (Enqueue j) = s.marks
line_marks_after s p Dequeue = s.marks
line_marks_after s p Unknown = s.marks

-- the same holders, waiters and turns
pub record SameLines (m m' : Marks) : Type 0 where
  pub holders : m.holders ≡ m'.holders
  pub awaited : m.awaited ≡ m'.awaited
  pub turns : m.turns ≡ m'.turns

-- they are those of the state that the step leaves
pub lines_after : (lim : Limits) (s : State) (p : ℕ) (a : Action) → SameLines (effect lim s p a).after.marks (line_marks_after s p a)
unfolding effect read write acquire release want closed fetched line_marks_after enqueue dequeue
lines_after lim s p (Read x) = record { holders = refl; awaited = refl; turns = refl }
lines_after lim s p (Write x v) = record { holders = refl; awaited = refl; turns = refl }
lines_after lim s p (Acquire l) = record { holders = refl; awaited = refl; turns = refl }
lines_after lim s p (Release l) = record { holders = refl; awaited = refl; turns = refl }
lines_after lim s p Arrive =
    record {
      holders = arrive_keeps (λ m. m.holders) (λ m l. refl) (λ m w. refl) lim s p;
      awaited = arrive_keeps (λ m. m.awaited) (λ m l. refl) (λ m w. refl) lim s p;
      turns = arrive_keeps (λ m. m.turns) (λ m l. refl) (λ m w. refl) lim s p;
    }
lines_after lim s p Want = record { holders = refl; awaited = refl; turns = refl }
lines_after lim s p (TallyAdd j x) = record { holders = refl; awaited = refl; turns = refl }
lines_after lim s p (TallyRead j) = record { holders = refl; awaited = refl; turns = refl }
lines_after lim s p (Enqueue j) = record { holders = refl; awaited = refl; turns = refl }
lines_after lim s p Dequeue = record { holders = refl; awaited = refl; turns = refl }
lines_after lim s p Unknown = record { holders = refl; awaited = refl; turns = refl }

module _ (lim : Limits) (s : State) (p : ℕ) (a : Action) where
  -- the holder of a lock
  pub holder_after : (l : ℕ) → holder (effect lim s p a).after l ≡ holder_in (line_marks_after s p a) l
  unfolding holder
  holder_after l = ap (λ (h : List ℕ). get_or h l 0) (lines_after lim s p a).holders

  -- the lock that a processor waits for
  pub awaits_after : (k : ℕ) → awaits (effect lim s p a).after.marks k ≡ awaits (line_marks_after s p a) k
  awaits_after k = ap (λ (h : List ℕ). get_or h (suc k) 0) (lines_after lim s p a).awaited

  -- its turn
  pub turn_after_lem : (k : ℕ) → turn_at (effect lim s p a).after.marks k ≡ turn_at (line_marks_after s p a) k
  turn_after_lem k = ap (λ (h : List ℕ). get_or h (suc k) 0) (lines_after lim s p a).turns

-- ---- who has arrived after a step

unfoldable pub arrived_after : State → ℕ → Action → ℕ → Bool
arrived_after s p (Read x) q = has_arrived s q
arrived_after s p (Write x v) q = has_arrived s q
arrived_after s p (Acquire k) q = has_arrived s q
arrived_after s p (Release k) q = has_arrived s q
arrived_after s p Arrive q = cond (completes s p) false (cond (eqb q p) true (has_arrived s q))
arrived_after s p Want q = has_arrived s q
arrived_after s p (TallyAdd j x) q = has_arrived s q
arrived_after s p (TallyRead j) q = has_arrived s q
arrived_after s p (Enqueue j) q = has_arrived s q
arrived_after s p Dequeue q = has_arrived s q
arrived_after s p Unknown q = has_arrived s q

arrived_after_arrive : (lim : Limits) (s : State) (p q : ℕ) → has_arrived (arrive lim s p).after q ≡ arrived_after s p Arrive q
unfolding has_arrived arrived_after marked
arrived_after_arrive lim s p q = ap (λ (l : List ℕ). marked l q) (arrive_arrived lim s p) ∙ go (completes s p)
  where
    go : (b : Bool) → marked (cond b (map (λ (mark : ℕ). 0) (arrived_marks s p)) (arrived_marks s p)) q ≡ cond b false (cond (eqb q p) true (marked s.marks.arrived q))
    go true = marked_cleared (arrived_marks s p) q
    go false = marked_put s.marks.arrived p q

-- it is the mark in the state that the step leaves
pub arrived_after_lem : (lim : Limits) (s : State) (p : ℕ) (a : Action) (q : ℕ) → has_arrived (effect lim s p a).after q ≡ arrived_after s p a q
unfolding effect read write acquire release want closed fetched has_arrived arrived_after enqueue dequeue
arrived_after_lem lim s p (Read x) q = refl
arrived_after_lem lim s p (Write x v) q = refl
arrived_after_lem lim s p (Acquire k) q = ap (λ (l : List ℕ). not (eqb (get_or l q 0) 0)) (asked_arrived s.counts.processors s.marks k p)
arrived_after_lem lim s p (Release k) q = ap (λ (l : List ℕ). not (eqb (get_or l q 0) 0)) (handed_arrived s.counts.processors s.marks k)
arrived_after_lem lim s p Arrive q = arrived_after_arrive lim s p q
arrived_after_lem lim s p Want q = refl
arrived_after_lem lim s p (TallyAdd j x) q = refl
arrived_after_lem lim s p (TallyRead j) q = refl
arrived_after_lem lim s p (Enqueue j) q = refl
arrived_after_lem lim s p Dequeue q = refl
arrived_after_lem lim s p Unknown q = refl
