-- Happens-before-1 is a strict order that goes forward in the list of steps, between accepted steps. Rests on the definitions alone.
-- Assumes nothing.
use Prim.Native.Nat.{ℕ, zero, suc, ◌+◌, ◌≤◌, ◌<◌}
use native.Mathlib.Omega.{arith}
use native.Mathlib.Decide.{dec_lt, ℕ_discrete}
use mathlib.Core.Path.{◌≡◌}
use mathlib.Core.Bool.{Bool, true, false, cond}
use mathlib.Core.List.{List}
use lib.Dec.{eqb}
use Rattle.rules.specs.Order.{Event, event_at, is_arrival, Groups, counted_off, groups_before, rounds, Before, program, lock, round, granted, job, chain}

-- ---- the rounds before a place never fall with the place

counted_off_full : (n : ℕ) (g : Groups) → g.full ≤ (counted_off n g).full
unfolding counted_off
counted_off_full n g = go (eqb (g.waiting + 1) n)
  where
    go : (b : Bool) → g.full ≤ (cond {A = Groups} b (record { full = g.full + 1; waiting = 0 }) (record { full = g.full; waiting = g.waiting + 1 })).full
    go true = omega arith
    go false = omega arith

rounds_step : (n : ℕ) (es : List Event) (t : ℕ) → rounds n es t ≤ rounds n es (suc t)
unfolding rounds groups_before
rounds_step n es t = go (is_arrival (event_at es t))
  where
    go : (b : Bool) → (groups_before n es t).full ≤ (cond b (counted_off n (groups_before n es t)) (groups_before n es t)).full
    go true = counted_off_full n (groups_before n es t)
    go false = omega arith

-- a number that never falls from one time to the next never falls
pub never_falls : (f : ℕ → ℕ) → ((t : ℕ) → f t ≤ f (suc t)) → (i j : ℕ) → i ≤ j → f i ≤ f j
never_falls f h i zero l = go (ℕ_discrete i 0)
  where
    go : Dec (i ≡ 0) → f i ≤ f 0
    go (yes e) = rw e (omega arith)
    go (no e) = absurd (omega (arith, l, e))
never_falls f h i (suc j) l = go (ℕ_discrete i (suc j)) (never_falls f h i j)
  where
    go : Dec (i ≡ suc j) → (i ≤ j → f i ≤ f j) → f i ≤ f (suc j)
    go (yes e) below = rw e (omega arith)
    go (no e) below = omega (arith, below (omega arith), h j)

-- the rounds before a place never fall
pub rounds_never_fall : (n : ℕ) (es : List Event) (i j : ℕ) → i ≤ j → rounds n es i ≤ rounds n es j
rounds_never_fall n es = never_falls (rounds n es) (rounds_step n es)

-- ---- the order

-- a step is before later ones alone
pub before_goes_forward : (n : ℕ) (es : List Event) (i j : ℕ) → Before n es i j → i < j
before_goes_forward n es i j (program p a b from to h) = omega (arith, h)
before_goes_forward n es i j (lock p q l from to h) = omega (arith, h)
before_goes_forward n es i j (round p q b from to h) = go (dec_lt i j)
  where
    go : Dec (i < j) → i < j
    go (yes k) = k
    go (no k) = absurd (omega (arith, h, rounds_never_fall n es j i (omega (arith, k))))
before_goes_forward n es i j (granted p q l a b serves to h) = omega (arith, h)
before_goes_forward n es i j (job p v q r) = omega (arith, r.waited)
before_goes_forward n es i j (chain k a b) = omega (arith, before_goes_forward n es i k a, before_goes_forward n es k j b)

-- no step is before itself
pub before_irreflexive : (n : ℕ) (es : List Event) (i : ℕ) → Before n es i i → ⊥
before_irreflexive n es i b = omega (arith, before_goes_forward n es i i b)

-- what is before a step that is before a third is before the third
pub before_transitive : (n : ℕ) (es : List Event) (i k j : ℕ) → Before n es i k → Before n es k j → Before n es i j
before_transitive n es i k j a b = chain k a b

-- both of its ends are accepted steps
pub before_from : (n : ℕ) (es : List Event) (i j : ℕ) → Before n es i j → (event_at es i).accepted ≡ true
before_from n es i j (program p a b from to h) = from.accepted
before_from n es i j (lock p q l from to h) = from.accepted
before_from n es i j (round p q b from to h) = from.accepted
before_from n es i j (granted p q l a b serves to h) = serves.release.accepted
before_from n es i j (job p v q r) = r.enqueue.accepted
before_from n es i j (chain k a b) = before_from n es i k a

-- the later end too
pub before_to : (n : ℕ) (es : List Event) (i j : ℕ) → Before n es i j → (event_at es j).accepted ≡ true
before_to n es i j (program p a b from to h) = to.accepted
before_to n es i j (lock p q l from to h) = to.accepted
before_to n es i j (round p q b from to h) = to.accepted
before_to n es i j (granted p q l a b serves to h) = to.accepted
before_to n es i j (job p v q r) = r.dequeue.accepted
before_to n es i j (chain k a b) = before_to n es k j b
