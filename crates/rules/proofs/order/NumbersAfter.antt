-- What one accepted step does to the numbers of known writes (ghosts): none of a processor or a lock falls, and what holds of them between
-- processors, locks and the barrier stays. Rests on ActionKinds, MarksAfter and Allowed. Assumes nothing.
use Prim.Native.Nat.{ℕ, zero, suc, ◌+◌, ◌≤◌, max}
use native.Mathlib.Omega.{arith}
use mathlib.Core.Path.{◌≡◌, refl, sym, ◌∙◌}
use mathlib.Core.Bool.{Bool, true, false, cond, ◌&&◌, false≢true}
use lib.Dec.{eqb}
use borrow.Author.Tests.{eqb-true, eqb-false, ne_eqb}
use Rattle.rules.specs.State.{Limits, Holder, Processor, Lock, Barrier, Applied, Interval, Job, State, holder, has_arrived}
use Rattle.rules.specs.Lines.{first_in_line}
use Rattle.rules.specs.Refusals.{Action, Read, Write, Acquire, Release, Arrive, Want, TallyAdd, TallyRead, Enqueue, Dequeue, Unknown, effect}
use Rattle.rules.proofs.state.Holders.{same_holder, same_holder_refl, same_holder_lem}
use Rattle.rules.proofs.state.Waiters.{holder_in, found_stands, asked_holder, handed_holder}
use Rattle.rules.proofs.inorder.Facts.{LinesInOrder}
use Rattle.rules.proofs.order.Ghosts.{Ghost, with_number, learned_numbers, round_numbers, completes, arrived_numbers, freed_numbers, granted_numbers, ghost_after, ghost_place}
use Rattle.rules.proofs.order.ActionKinds.{writes_to}
use Rattle.rules.proofs.order.MarksAfter.{awake_not_arrived, line_marks_after, holder_after, arrived_after, arrived_after_lem}
use Rattle.rules.proofs.order.Allowed.{Allowed}

-- ---- the numbers with one of them replaced

-- the new number at its holder
pub with_number_same : (f : Holder → ℕ) (h : Holder) (n : ℕ) → with_number f h n h ≡ n
unfolding with_number
with_number_same f h n = rw (same_holder_refl h)

with_number_at_most : (f : Holder → ℕ) (h : Holder) (n m : ℕ) → n ≤ m → ((k : Holder) → f k ≤ m) → (k : Holder) → with_number f h n k ≤ m
unfolding with_number
with_number_at_most f h n m below all k = go (same_holder h k)
  where
    go : (b : Bool) → cond b n (f k) ≤ m
    go true = below
    go false = all k

with_number_grows : (f : Holder → ℕ) (h : Holder) (n : ℕ) → f h ≤ n → (k : Holder) → f k ≤ with_number f h n k
unfolding with_number
with_number_grows f h n below k = go (same_holder h k) refl
  where
    go : (b : Bool) → same_holder h k ≡ b → f k ≤ cond b n (f k)
    go true e = rw (← same_holder_lem h k e) below
    go false e = omega arith

pub with_number_other : (f : Holder → ℕ) (h : Holder) (n : ℕ) (k : Holder) → same_holder h k ≡ false → with_number f h n k ≡ f k
unfolding with_number
with_number_other f h n k e = rw e

-- ---- a holder that learns what another knows

-- it knows that then
pub learner_knows : (f : Holder → ℕ) (to from : Holder) → f from ≤ learned_numbers f to from to
learner_knows f to from = omega (arith, with_number_same f to (max (f to) (f from)))

-- and no number comes above what none was above, or falls
pub learned_at_most : (f : Holder → ℕ) (to from : Holder) (m : ℕ) → ((k : Holder) → f k ≤ m) → (k : Holder) → learned_numbers f to from k ≤ m
learned_at_most f to from m all = with_number_at_most f to (max (f to) (f from)) m (omega (arith, all to, all from)) all

learned_grows : (f : Holder → ℕ) (to from k : Holder) → f k ≤ learned_numbers f to from k
learned_grows f to from = with_number_grows f to (max (f to) (f from)) (omega arith)

-- ---- a lock that is handed on

-- no number comes above what none was above
pub freed_at_most : (γ : Ghost) (p l m : ℕ) → ((k : Holder) → γ.known k ≤ m) → (k : Holder) → freed_numbers γ p l k ≤ m
freed_at_most γ p l m all = with_number_at_most γ.known (Lock l) (γ.known (Processor p)) m (all (Processor p)) all

module _ (f : Holder → ℕ) (q l : ℕ) where
  granted_at_most : (m : ℕ) → ((k : Holder) → f k ≤ m) → (k : Holder) → granted_numbers f q l k ≤ m
  unfolding granted_numbers
  granted_at_most m all k = go (eqb q 0)
    where
      go : (b : Bool) → cond b f (learned_numbers f (Processor q) (Lock l)) k ≤ m
      go true = all k
      go false = learned_at_most f (Processor q) (Lock l) m all k

  -- no number falls
  pub granted_grows : (k : Holder) → f k ≤ granted_numbers f q l k
  unfolding granted_numbers
  granted_grows k = go (eqb q 0)
    where
      go : (b : Bool) → f k ≤ cond b f (learned_numbers f (Processor q) (Lock l)) k
      go true = omega arith
      go false = learned_grows f (Processor q) (Lock l) k

  -- those of locks and of the barrier stay
  granted_lock : (i : ℕ) → granted_numbers f q l (Lock i) ≡ f (Lock i)
  unfolding granted_numbers with_number same_holder
  granted_lock i = go (eqb q 0)
    where
      go : (b : Bool) → cond b f (learned_numbers f (Processor q) (Lock l)) (Lock i) ≡ f (Lock i)
      go true = refl
      go false = refl

  granted_barrier : granted_numbers f q l Barrier ≡ f Barrier
  unfolding granted_numbers with_number same_holder
  granted_barrier = go (eqb q 0)
    where
      go : (b : Bool) → cond b f (learned_numbers f (Processor q) (Lock l)) Barrier ≡ f Barrier
      go true = refl
      go false = refl

  -- and those of other processors
  granted_other : (r : ℕ) → (r ≡ q → q ≡ 0) → granted_numbers f q l (Processor r) ≡ f (Processor r)
  unfolding granted_numbers with_number same_holder
  granted_other r d = go (eqb q 0) refl
    where
      go : (b : Bool) → eqb q 0 ≡ b → cond b f (learned_numbers f (Processor q) (Lock l)) (Processor r) ≡ f (Processor r)
      go true e = refl
      go false e = rw (ne_eqb r q (λ z. eqb-false q 0 e (d z)))

  -- who knew no more than the lock knows no more than it
  pub granted_at_lock : (r : ℕ) → f (Processor r) ≤ f (Lock l) → granted_numbers f q l (Processor r) ≤ f (Lock l)
  unfolding granted_numbers with_number same_holder
  granted_at_lock r h = go (eqb q 0) (eqb r q) refl
    where
      go : (a b : Bool) → eqb r q ≡ b → cond a f (λ k. cond (same_holder (Processor q) k) (max (f (Processor q)) (f (Lock l))) (f k)) (Processor r) ≤ f (Lock l)
      go true b e = h
      go false true e = rw e (rw (← eqb-true r q e) (omega arith))
      go false false e = rw e h

  -- the new holder knows what the lock knows
  granted_knows : (q ≡ 0 → ⊥) → f (Lock l) ≤ granted_numbers f q l (Processor q)
  unfolding granted_numbers
  granted_knows d = rw (ne_eqb q 0 d) (learner_knows f (Processor q) (Lock l))

-- ---- a completed round

round_numbers_at_most : (f : Holder → ℕ) (m : ℕ) → ((k : Holder) → f k ≤ m) → (k : Holder) → round_numbers f k ≤ m
unfolding round_numbers
round_numbers_at_most f m all (Processor p) = omega (arith, all (Processor p), all Barrier)
round_numbers_at_most f m all (Lock l) = all (Lock l)
round_numbers_at_most f m all Barrier = omega arith
round_numbers_at_most f m all (Applied p g) = omega arith
round_numbers_at_most f m all (Interval p i) = omega arith
round_numbers_at_most f m all (Job k) = all (Job k)

-- ---- what holds of the numbers

-- no number is above the writes; the holder of a lock knows what the lock knows; the barrier knows what each arrived processor knows; one
-- of the n processors knows all
pub record Knowing (n : ℕ) (s : State) (γ : Ghost) : Type 0 where
  pub at_most : (h : Holder) → γ.known h ≤ γ.writes
  pub holder_knows : (l : ℕ) → (holder s l ≡ 0 → ⊥) → γ.known (Lock l) ≤ γ.known (Processor (holder s l))
  pub arrived_knows : (q : ℕ) → has_arrived s q ≡ true → γ.known (Processor q) ≤ γ.known Barrier
  pub knower : ℕ
  pub knower_from : 1 ≤ knower
  pub knower_to : knower ≤ n
  pub knows_all : γ.known (Processor knower) ≡ γ.writes

module _ (n w : ℕ) (s : State) (p : ℕ) (γ : Ghost) where
  at_most_after : Knowing n s γ → (a : Action) (h : Holder) → (ghost_after w s p a γ).known h ≤ (ghost_after w s p a γ).writes
  unfolding ghost_after arrived_numbers
  at_most_after k (Read x) h = k.at_most h
  at_most_after k (Write x v) h = go (eqb x w)
    where
      go : (b : Bool) → cond b (with_number γ.known (Processor p) (γ.writes + 1)) γ.known h ≤ cond b (γ.writes + 1) γ.writes
      go true = with_number_at_most γ.known (Processor p) (γ.writes + 1) (γ.writes + 1) (omega arith) (λ i. omega (arith, k.at_most i)) h
      go false = k.at_most h
  at_most_after k (Acquire l) h = go (eqb (holder s l) 0)
    where
      go : (b : Bool) → cond b (learned_numbers γ.known (Processor p) (Lock l)) γ.known h ≤ γ.writes
      go true = learned_at_most γ.known (Processor p) (Lock l) γ.writes k.at_most h
      go false = k.at_most h
  at_most_after k (Release l) h =
      granted_at_most (freed_numbers γ p l) (first_in_line s.counts.processors s.marks l) l γ.writes (freed_at_most γ p l γ.writes k.at_most) h
  at_most_after k Arrive h = go (completes s p)
    where
      arrived : (i : Holder) → arrived_numbers γ p i ≤ γ.writes
      arrived = learned_at_most γ.known Barrier (Processor p) γ.writes k.at_most

      go : (b : Bool) → cond b (round_numbers (arrived_numbers γ p)) (arrived_numbers γ p) h ≤ γ.writes
      go true = round_numbers_at_most (arrived_numbers γ p) γ.writes arrived h
      go false = arrived h
  at_most_after k Want h = k.at_most h
  at_most_after k (TallyAdd j x) h = k.at_most h
  at_most_after k (TallyRead j) h = k.at_most h
  at_most_after k (Enqueue j) h = with_number_at_most γ.known (Job (ghost_place s)) (γ.known (Processor p)) γ.writes (k.at_most (Processor p)) k.at_most h
  at_most_after k Dequeue h = learned_at_most γ.known (Processor p) (Job s.marks.first) γ.writes k.at_most h
  at_most_after k Unknown h = k.at_most h

  -- no processor's number falls
  pub processor_grows : Knowing n s γ → (a : Action) (q : ℕ) → γ.known (Processor q) ≤ (ghost_after w s p a γ).known (Processor q)
  unfolding ghost_after arrived_numbers with_number same_holder round_numbers
  processor_grows k (Read x) q = omega arith
  processor_grows k (Write x v) q = go (eqb x w)
    where
      go : (b : Bool) → γ.known (Processor q) ≤ cond b (with_number γ.known (Processor p) (γ.writes + 1)) γ.known (Processor q)
      go true = with_number_grows γ.known (Processor p) (γ.writes + 1) (omega (arith, k.at_most (Processor p))) (Processor q)
      go false = omega arith
  processor_grows k (Acquire l) q = go (eqb (holder s l) 0)
    where
      go : (b : Bool) → γ.known (Processor q) ≤ cond b (learned_numbers γ.known (Processor p) (Lock l)) γ.known (Processor q)
      go true = learned_grows γ.known (Processor p) (Lock l) (Processor q)
      go false = omega arith
  processor_grows k (Release l) q = granted_grows (freed_numbers γ p l) (first_in_line s.counts.processors s.marks l) l (Processor q)
  processor_grows k Arrive q = go (completes s p)
    where
      go : (b : Bool) → γ.known (Processor q) ≤ cond b (round_numbers (arrived_numbers γ p)) (arrived_numbers γ p) (Processor q)
      go true = omega arith
      go false = omega arith
  processor_grows k Want q = omega arith
  processor_grows k (TallyAdd j x) q = omega arith
  processor_grows k (TallyRead j) q = omega arith
  processor_grows k (Enqueue j) q = omega arith
  processor_grows k Dequeue q = learned_grows γ.known (Processor p) (Job s.marks.first) (Processor q)
  processor_grows k Unknown q = omega arith

  -- nor a lock's
  pub lock_grows : Knowing n s γ → (a : Action) → Allowed n s p a → (i : ℕ) → γ.known (Lock i) ≤ (ghost_after w s p a γ).known (Lock i)
  unfolding ghost_after arrived_numbers with_number same_holder round_numbers
  lock_grows k (Read x) al i = omega arith
  lock_grows k (Write x v) al i = go (eqb x w)
    where
      go : (b : Bool) → γ.known (Lock i) ≤ cond b (with_number γ.known (Processor p) (γ.writes + 1)) γ.known (Lock i)
      go true = omega arith
      go false = omega arith
  lock_grows k (Acquire l) al i = go (eqb (holder s l) 0)
    where
      go : (b : Bool) → γ.known (Lock i) ≤ cond b (learned_numbers γ.known (Processor p) (Lock l)) γ.known (Lock i)
      go true = omega arith
      go false = omega arith
  lock_grows k (Release l) al i =
      let held : holder s l ≡ p = al.holds l refl in
      omega (
        arith,
        with_number_grows γ.known (Lock l) (γ.known (Processor p)) (rw held at (k.holder_knows l (λ e. omega (arith, e, held, al.from)))) (Lock i),
        granted_lock (freed_numbers γ p l) (first_in_line s.counts.processors s.marks l) l i,
      )
  lock_grows k Arrive al i = go (completes s p)
    where
      go : (b : Bool) → γ.known (Lock i) ≤ cond b (round_numbers (arrived_numbers γ p)) (arrived_numbers γ p) (Lock i)
      go true = omega arith
      go false = omega arith
  lock_grows k Want al i = omega arith
  lock_grows k (TallyAdd j x) al i = omega arith
  lock_grows k (TallyRead j) al i = omega arith
  lock_grows k (Enqueue j) al i = omega arith
  lock_grows k Dequeue al i = omega arith
  lock_grows k Unknown al i = omega arith

  holder_knows_after : Knowing n s γ → (a : Action) (l : ℕ) → (holder_in (line_marks_after s p a) l ≡ 0 → ⊥)
      → (ghost_after w s p a γ).known (Lock l) ≤ (ghost_after w s p a γ).known (Processor (holder_in (line_marks_after s p a) l))
  unfolding ghost_after arrived_numbers with_number same_holder round_numbers line_marks_after holder
  holder_knows_after k (Read x) l h = k.holder_knows l h
  holder_knows_after k (Write x v) l h = go (eqb x w) (k.holder_knows l h)
    where
      go : (b : Bool) → γ.known (Lock l) ≤ γ.known (Processor (holder s l))
          → cond b (with_number γ.known (Processor p) (γ.writes + 1)) γ.known (Lock l)
          ≤ cond b (with_number γ.known (Processor p) (γ.writes + 1)) γ.known (Processor (holder s l))
      go true below =
          omega (arith, below, with_number_grows γ.known (Processor p) (γ.writes + 1) (omega (arith, k.at_most (Processor p))) (Processor (holder s l)))
      go false below = below
  holder_knows_after k (Acquire i) l h =
      rw (asked_holder s.counts.processors s.marks i p l) (go (eqb (holder s i) 0) (eqb l i) refl (λ e. h (asked_holder s.counts.processors s.marks i p l ∙ e)))
    where
      go : (a b : Bool) → eqb l i ≡ b → (cond (a && b) p (holder s l) ≡ 0 → ⊥)
          → cond a (learned_numbers γ.known (Processor p) (Lock i)) γ.known (Lock l)
          ≤ cond a (learned_numbers γ.known (Processor p) (Lock i)) γ.known (Processor (cond (a && b) p (holder s l)))
      go true true e h = rw (eqb-true l i e) (learner_knows γ.known (Processor p) (Lock i))
      go true false e h = omega (arith, k.holder_knows l h, learned_grows γ.known (Processor p) (Lock i) (Processor (holder s l)))
      go false b e h = k.holder_knows l h
  holder_knows_after k (Release i) l h =
      rw (handed_holder s.counts.processors s.marks i l) (go (eqb l i) refl (λ e. h (handed_holder s.counts.processors s.marks i l ∙ e)))
    where
      q : ℕ
      q = first_in_line s.counts.processors s.marks i

      go : (b : Bool) → eqb l i ≡ b → (cond b q (holder s l) ≡ 0 → ⊥)
          → granted_numbers (freed_numbers γ p i) q i (Lock l) ≤ granted_numbers (freed_numbers γ p i) q i (Processor (cond b q (holder s l)))
      go true e h = rw (eqb-true l i e) (omega (arith, granted_lock (freed_numbers γ p i) q i i, granted_knows (freed_numbers γ p i) q i h))
      go false e h =
          omega (
            arith,
            granted_lock (freed_numbers γ p i) q i l,
            with_number_other γ.known (Lock i) (γ.known (Processor p)) (Lock l) e,
            k.holder_knows l h,
            granted_grows (freed_numbers γ p i) q i (Processor (holder s l)),
          )
  holder_knows_after k Arrive l h = go (completes s p) (k.holder_knows l h)
    where
      go : (b : Bool) → γ.known (Lock l) ≤ γ.known (Processor (holder s l))
          → cond b (round_numbers (arrived_numbers γ p)) (arrived_numbers γ p) (Lock l)
          ≤ cond b (round_numbers (arrived_numbers γ p)) (arrived_numbers γ p) (Processor (holder s l))
      go true below = omega arith
      go false below = below
  holder_knows_after k Want l h = k.holder_knows l h
  holder_knows_after k (TallyAdd j x) l h = k.holder_knows l h
  holder_knows_after k (TallyRead j) l h = k.holder_knows l h
  holder_knows_after k (Enqueue j) l h = k.holder_knows l h
  holder_knows_after k Dequeue l h = omega (arith, k.holder_knows l h, learned_grows γ.known (Processor p) (Job s.marks.first) (Processor (holder s l)))
  holder_knows_after k Unknown l h = k.holder_knows l h

  -- who has arrived does not act, so a step leaves its number
  not_the_taker : (a : Action) → Allowed n s p a → (q : ℕ) → has_arrived s q ≡ true → same_holder (Processor p) (Processor q) ≡ false
  unfolding same_holder
  not_the_taker a al q h = ne_eqb q p (λ e. false≢true (sym (awake_not_arrived s p al.not_resting) ∙ (rw e at h)))

  -- nor does it wait, so no lock is handed to it
  not_served : LinesInOrder s.counts s.marks → (l q : ℕ) → has_arrived s q ≡ true → q ≡ first_in_line s.counts.processors s.marks l → first_in_line s.counts.processors s.marks l ≡ 0
  unfolding has_arrived first_in_line
  not_served f l zero h e = sym e
  not_served f l (suc q) h e =
      let first = found_stands s.counts.processors s.marks l 0 q (sym e) in
      absurd (false≢true (sym (f.not_arrived q l first.0 first.1) ∙ h))

  arrived_knows_after : LinesInOrder s.counts s.marks → Knowing n s γ → (a : Action) → Allowed n s p a → (q : ℕ) → arrived_after s p a q ≡ true
      → (ghost_after w s p a γ).known (Processor q) ≤ (ghost_after w s p a γ).known Barrier
  unfolding ghost_after arrived_numbers with_number same_holder round_numbers arrived_after
  arrived_knows_after f k (Read x) al q h = k.arrived_knows q h
  arrived_knows_after f k (Write x v) al q h = go (eqb x w)
    where
      go : (b : Bool)
          → cond b (with_number γ.known (Processor p) (γ.writes + 1)) γ.known (Processor q)
          ≤ cond b (with_number γ.known (Processor p) (γ.writes + 1)) γ.known Barrier
      go true = omega (arith, with_number_other γ.known (Processor p) (γ.writes + 1) (Processor q) (not_the_taker (Write x v) al q h), k.arrived_knows q h)
      go false = k.arrived_knows q h
  arrived_knows_after f k (Acquire l) al q h = go (eqb (holder s l) 0)
    where
      go : (b : Bool)
          → cond b (learned_numbers γ.known (Processor p) (Lock l)) γ.known (Processor q) ≤ cond b (learned_numbers γ.known (Processor p) (Lock l)) γ.known Barrier
      go true =
          omega (
            arith,
            with_number_other γ.known (Processor p) (max (γ.known (Processor p)) (γ.known (Lock l))) (Processor q) (not_the_taker (Acquire l) al q h),
            k.arrived_knows q h,
          )
      go false = k.arrived_knows q h
  arrived_knows_after f k (Release l) al q h =
      omega (
        arith,
        granted_other (freed_numbers γ p l) (first_in_line s.counts.processors s.marks l) l q (not_served f l q h),
        granted_barrier (freed_numbers γ p l) (first_in_line s.counts.processors s.marks l) l,
        k.arrived_knows q h,
      )
  arrived_knows_after f k Arrive al q h = go (completes s p) (eqb q p) refl h
    where
      go : (a b : Bool) → eqb q p ≡ b → cond a false (cond b true (has_arrived s q)) ≡ true
          → cond a (round_numbers (arrived_numbers γ p)) (arrived_numbers γ p) (Processor q)
          ≤ cond a (round_numbers (arrived_numbers γ p)) (arrived_numbers γ p) Barrier
      go true b e h = absurd (false≢true h)
      go false true e h = rw (eqb-true q p e) (omega arith)
      go false false e h = omega (arith, k.arrived_knows q h)
  arrived_knows_after f k Want al q h = k.arrived_knows q h
  arrived_knows_after f k (TallyAdd j x) al q h = k.arrived_knows q h
  arrived_knows_after f k (TallyRead j) al q h = k.arrived_knows q h
  arrived_knows_after f k (Enqueue j) al q h = k.arrived_knows q h
  arrived_knows_after f k Dequeue al q h =
      omega (
        arith,
        with_number_other γ.known (Processor p) (max (γ.known (Processor p)) (γ.known (Job s.marks.first))) (Processor q) (not_the_taker Dequeue al q h),
        k.arrived_knows q h,
      )
  arrived_knows_after f k Unknown al q h = k.arrived_knows q h

  -- a step that is no write to w leaves the number of writes
  pub writes_after : (a : Action) → writes_to w a ≡ false → (ghost_after w s p a γ).writes ≡ γ.writes
  unfolding ghost_after writes_to
  writes_after (Read x) e = refl
  writes_after (Write x v) e = rw e
  writes_after (Acquire l) e = refl
  writes_after (Release l) e = refl
  writes_after Arrive e = refl
  writes_after Want e = refl
  writes_after (TallyAdd j x) e = refl
  writes_after (TallyRead j) e = refl
  writes_after (Enqueue j) e = refl
  writes_after Dequeue e = refl
  writes_after Unknown e = refl

  -- and after a write to w its processor knows them all
  pub writer_knows : (a : Action) → writes_to w a ≡ true → (ghost_after w s p a γ).known (Processor p) ≡ (ghost_after w s p a γ).writes
  unfolding ghost_after writes_to
  writer_knows (Read x) e = absurd (false≢true e)
  writer_knows (Write x v) e = rw e (with_number_same γ.known (Processor p) (γ.writes + 1))
  writer_knows (Acquire l) e = absurd (false≢true e)
  writer_knows (Release l) e = absurd (false≢true e)
  writer_knows Arrive e = absurd (false≢true e)
  writer_knows Want e = absurd (false≢true e)
  writer_knows (TallyAdd j x) e = absurd (false≢true e)
  writer_knows (TallyRead j) e = absurd (false≢true e)
  writer_knows (Enqueue j) e = absurd (false≢true e)
  writer_knows Dequeue e = absurd (false≢true e)
  writer_knows Unknown e = absurd (false≢true e)

  -- all of it stays
  pub knowing_after : (lim : Limits) → LinesInOrder s.counts s.marks → Knowing n s γ → (a : Action) → Allowed n s p a → Knowing n (effect lim s p a).after (ghost_after w s p a γ)
  knowing_after lim f k a al = go (writes_to w a) refl
    where
      holder_knows : (l : ℕ) → (holder (effect lim s p a).after l ≡ 0 → ⊥)
          → (ghost_after w s p a γ).known (Lock l) ≤ (ghost_after w s p a γ).known (Processor (holder (effect lim s p a).after l))
      holder_knows l = rw (holder_after lim s p a l) (holder_knows_after k a l)

      arrived_knows : (q : ℕ) → has_arrived (effect lim s p a).after q ≡ true
          → (ghost_after w s p a γ).known (Processor q) ≤ (ghost_after w s p a γ).known Barrier
      arrived_knows q h = arrived_knows_after f k a al q (sym (arrived_after_lem lim s p a q) ∙ h)

      go : (b : Bool) → writes_to w a ≡ b → Knowing n (effect lim s p a).after (ghost_after w s p a γ)
      go true e =
          record {
            at_most = at_most_after k a;
            holder_knows = holder_knows;
            arrived_knows = arrived_knows;
            knower = p;
            knower_from = al.from;
            knower_to = al.to;
            knows_all = writer_knows a e;
          }
      go false e =
          record {
            at_most = at_most_after k a;
            holder_knows = holder_knows;
            arrived_knows = arrived_knows;
            knower = k.knower;
            knower_from = k.knower_from;
            knower_to = k.knower_to;
            knows_all =
                omega (arith, k.knows_all, writes_after a e, processor_grows k a k.knower, at_most_after k a (Processor k.knower));
          }
