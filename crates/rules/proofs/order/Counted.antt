-- How many of the first steps of a list pass a test: the count by which a release finds the acquire that it serves, and a dequeue the enqueue whose job it
-- returns, from the list alone. Rests on StrictOrder. Assumes nothing.
use Prim.Native.Nat.{ℕ, zero, suc, ◌+◌, ◌≤◌, ◌<◌}
use native.Mathlib.Omega.{arith}
use native.Mathlib.Decide.{dec_lt}
use mathlib.Core.Path.{◌≡◌, refl, ◌∙◌}
use mathlib.Core.Bool.{Bool, true, false, cond}
use mathlib.Core.List.{List}
use Rattle.rules.specs.Order.{Event, event_at, counted}
use Rattle.rules.proofs.StrictOrder.{never_falls}

-- 1 for a test that passes
abbrev pub flag : Bool → ℕ
flag b = cond b 1 0

module _ (test : Event → Bool) (es : List Event) where
  -- a step that passes is one more
  pub counted_passes : (t : ℕ) → test (event_at es t) ≡ true → counted test es (suc t) ≡ counted test es t + 1
  unfolding counted
  counted_passes t e = rw e

  -- one that does not leaves the number
  pub counted_fails : (t : ℕ) → test (event_at es t) ≡ false → counted test es (suc t) ≡ counted test es t
  unfolding counted
  counted_fails t e = rw e

  -- so the number goes on by the step's flag
  pub counted_on : (t : ℕ) (b : Bool) → test (event_at es t) ≡ b → counted test es (suc t) ≡ counted test es t + flag b
  counted_on t true e = counted_passes t e
  counted_on t false e = counted_fails t e ∙ omega arith

  counted_step : (t : ℕ) → counted test es t ≤ counted test es (suc t)
  unfolding counted
  counted_step t = go (test (event_at es t))
    where
      go : (b : Bool) → counted test es t ≤ cond b (counted test es t + 1) (counted test es t)
      go true = omega arith
      go false = omega arith

  -- and it never falls
  pub counted_never_falls : (i j : ℕ) → i ≤ j → counted test es i ≤ counted test es j
  counted_never_falls = never_falls (counted test es) counted_step

  -- and at most one step that passes has a given number of others before it
  pub counted_once : (i j : ℕ) → test (event_at es i) ≡ true → test (event_at es j) ≡ true → counted test es i ≡ counted test es j → i ≡ j
  counted_once i j a b e = go (dec_lt i j) (dec_lt j i)
    where
      go : Dec (i < j) → Dec (j < i) → i ≡ j
      go (yes h) k = absurd (omega (arith, e, counted_passes i a, counted_never_falls (suc i) j h))
      go (no h) (yes k) = absurd (omega (arith, e, counted_passes j b, counted_never_falls (suc j) i k))
      go (no h) (no k) = omega (arith, h, k)

-- the step that has m others before it, of those that pass the test before place t
pub record Numbered (test : Event → Bool) (es : List Event) (t m : ℕ) : Type 0 where
  pub place : ℕ
  pub below : place < t
  pub passes : test (event_at es place) ≡ true
  pub number : counted test es place ≡ m

-- there is one for every number below the count
pub numbered : (test : Event → Bool) (es : List Event) (t m : ℕ) → m < counted test es t → Numbered test es t m
unfolding counted
numbered test es zero m l = absurd (omega (arith, l))
numbered test es (suc t) m l = go (test (event_at es t)) refl l (numbered test es t m)
  where
    go : (b : Bool) → test (event_at es t) ≡ b → m < cond b (counted test es t + 1) (counted test es t) → (m < counted test es t → Numbered test es t m) → Numbered test es (suc t) m
    go true e h ih = at (dec_lt m (counted test es t))
      where
        at : Dec (m < counted test es t) → Numbered test es (suc t) m
        at (yes z) = let k = ih z in record { place = k.place; below = omega (arith, k.below); passes = k.passes; number = k.number }
        at (no z) = record { place = t; below = omega arith; passes = e; number = omega (arith, h, z) }
    go false e h ih = let k = ih h in record { place = k.place; below = omega (arith, k.below); passes = k.passes; number = k.number }
