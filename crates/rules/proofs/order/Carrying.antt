-- What happens-before-1 carries from step to step: whatever a step has told its processor, each step that it is before has told its own. It
-- speaks of numbers by time, how many writes each processor and lock knows, and asks of them the facts of `Telling`. A processor may wait
-- for a lock and is then told later. Rests on StrictOrder and ActionKinds. Assumes nothing.
use Prim.Native.Nat.{ℕ, zero, suc, ◌≤◌, ◌<◌}
use native.Mathlib.Omega.{arith}
use native.Mathlib.Decide.{ℕ_discrete}
use mathlib.Core.Path.{◌≡◌, refl, sym, ◌∙◌}
use mathlib.Core.Bool.{Bool, true, false, false≢true}
use mathlib.Core.Logic.{◌⊎◌, inl, inr}
use mathlib.Core.List.{List}
use Rattle.rules.specs.Refusals.{Action, Acquire, Release, Arrive, Enqueue, Dequeue, action_of}
use Rattle.rules.specs.Order.{Event, event_at, Took, rounds, Serves, Before, program, lock, round, granted, Returns, job, chain}
use Rattle.rules.proofs.StrictOrder.{never_falls}
use Rattle.rules.proofs.order.ActionKinds.{is_acquire}

-- what is asked of the numbers: known t q is what processor q knows before the step at time t, lockKnown t l what lock l knows then; waits t q
-- says whether q waits then, and WaitsFor t q l that it waits for lock l
pub record Telling (n : ℕ) (es : List Event) (known lock_known : ℕ → ℕ → ℕ) (waits : ℕ → ℕ → Bool) (WaitsFor : ℕ → ℕ → ℕ → Type 0) : Type 0 where
  -- no number falls
  pub grows : (q t : ℕ) → known t q ≤ known (suc t) q
  pub lock_grows : (l t : ℕ) → lock_known t l ≤ lock_known (suc t) l
  -- who acts does not wait, and of its own steps only an acquire makes it wait
  pub acts_awake : (t p : ℕ) (a : Action) → Took es t p a → waits t p ≡ false
  pub stays_awake : (t p : ℕ) (a : Action) → Took es t p a → is_acquire a ≡ false → waits (suc t) p ≡ false
  -- a release tells its lock
  pub release_tells : (t p l : ℕ) → Took es t p (Release l) → known (suc t) p ≤ lock_known (suc t) l
  -- an acquire is told by the lock, or its processor waits for it; who waits is told when it waits no longer
  pub acquire_told : (t q l : ℕ) → Took es t q (Acquire l) → WaitsFor (suc t) q l ⊎ (lock_known t l ≤ known (suc t) q)
  pub waiting_told : (t q l : ℕ) → WaitsFor t q l → WaitsFor (suc t) q l ⊎ (lock_known t l ≤ known (suc t) q)
  pub waits_for_lem : (t q l : ℕ) → WaitsFor t q l → waits t q ≡ true
  -- a release tells the waiter that it serves
  pub grant_tells : (i p a q l : ℕ) → Serves es l i p a q → known (suc i) p ≤ known (suc i) q
  -- L9: an enqueue tells the dequeue that returns its job
  pub job_tells : (i p v j q : ℕ) → Returns es i p v j q → known (suc i) p ≤ known (suc j) q
  -- a completed round tells everybody
  pub round_tells : (i p : ℕ) → Took es i p Arrive → (t : ℕ) → rounds n es i < rounds n es t → (q : ℕ) → known (suc i) p ≤ known t q

-- step i has told q the number x: q knows it at every later time at which it does not wait
pub record Told (known : ℕ → ℕ → ℕ) (waits : ℕ → ℕ → Bool) (x i q : ℕ) : Type 0 where
  pub at : (t : ℕ) → i < t → waits t q ≡ false → x ≤ known t q

module _ {n : ℕ} {es : List Event} {known lock_known : ℕ → ℕ → ℕ} {waits : ℕ → ℕ → Bool} {WaitsFor : ℕ → ℕ → ℕ → Type 0}
    (f : Telling n es known lock_known waits WaitsFor) where
  -- step i has told its own processor the number x
  abbrev pub Tells : ℕ → ℕ → Type 0
  Tells x i = Told known waits x i (event_at es i).step.processor

  lock_later : (l i j : ℕ) → i ≤ j → lock_known i l ≤ lock_known j l
  lock_later l = never_falls (λ t. lock_known t l) (f.lock_grows l)

  -- what q knows after a step it is told
  pub told_at_once : (x i q : ℕ) → x ≤ known (suc i) q → Told known waits x i q
  told_at_once x i q h = record { at = λ t l z. omega (arith, h, never_falls (λ t. known t q) (f.grows q) (suc i) t l) }

  -- what its own step, no acquire, has told it, a processor knows after the step
  knows_after : (x i p : ℕ) (a : Action) → Took es i p a → is_acquire a ≡ false → Tells x i → x ≤ known (suc i) p
  knows_after x i p a took e told = (rw took.processor at told).at (suc i) (omega arith) (f.stays_awake i p a took e)

  -- an acquire is told what the lock knew, at once or at the end of its wait
  told_by_lock : (x j q l : ℕ) → Took es j q (Acquire l) → x ≤ lock_known j l → Told known waits x j q
  told_by_lock x j q l took h = record { at = λ t less awake. awake_knows t awake (waits_or_knows t less) }
    where
      told : (t : ℕ) → j ≤ t → WaitsFor (suc t) q l ⊎ (lock_known t l ≤ known (suc t) q) → WaitsFor (suc t) q l ⊎ (x ≤ known (suc t) q)
      told t le (inl v) = inl v
      told t le (inr k) = inr (omega (arith, h, k, lock_later l j t le))

      next : (t : ℕ) → j < t → WaitsFor t q l ⊎ (x ≤ known t q) → WaitsFor (suc t) q l ⊎ (x ≤ known (suc t) q)
      next t less (inl v) = told t (omega (arith, less)) (f.waiting_told t q l v)
      next t less (inr k) = inr (omega (arith, k, f.grows q t))

      waits_or_knows : (t : ℕ) → j < t → WaitsFor t q l ⊎ (x ≤ known t q)
      waits_or_knows zero less = absurd (omega (arith, less))
      waits_or_knows (suc t) less = go (ℕ_discrete t j) (waits_or_knows t)
        where
          go : Dec (t ≡ j) → (j < t → WaitsFor t q l ⊎ (x ≤ known t q)) → WaitsFor (suc t) q l ⊎ (x ≤ known (suc t) q)
          go (yes e) before = rw e (told j (omega arith) (f.acquire_told j q l took))
          go (no e) before = let later : j < t = omega (arith, less, e) in next t later (before later)

      awake_knows : (t : ℕ) → waits t q ≡ false → WaitsFor t q l ⊎ (x ≤ known t q) → x ≤ known t q
      awake_knows t awake (inl v) = absurd (false≢true (sym awake ∙ f.waits_for_lem t q l v))
      awake_knows t awake (inr k) = k

  -- what a step has told its processor, each step that it is before has told its own
  pub carries : (i j : ℕ) → Before n es i j → (x : ℕ) → Tells x i → Tells x j
  unfolding is_acquire
  carries i j (program p a b from to h) x told =
      rw to.processor (record { at = λ t l awake. (rw from.processor at told).at t (omega (arith, h, l)) awake })
  carries i j (lock p q l from to h) x told =
      let mine = knows_after x i p (Release l) from refl told in
      rw to.processor (told_by_lock x j q l to (omega (arith, mine, f.release_tells i p l from, lock_later l (suc i) j (omega (arith, h)))))
  carries i j (round p q b from to h) x told =
      let mine = knows_after x i p Arrive from refl told in
      rw to.processor (told_at_once x j q (omega (arith, mine, f.round_tells i p from j (omega (arith, h)) q, f.grows q j)))
  carries i j (granted p q l a b serves to h) x told =
      let mine = knows_after x i p (Release l) serves.release refl told in
      rw to.processor (told_at_once x j q (omega (arith, mine, f.grant_tells i p a q l serves, never_falls (λ t. known t q) (f.grows q) (suc i) (suc j) (omega (arith, h)))))
  carries i j (job p v q r) x told =
      let mine = knows_after x i p (Enqueue v) r.enqueue refl told in
      rw r.dequeue.processor (told_at_once x j q (omega (arith, mine, f.job_tells i p v j q r)))
  carries i j (chain k a b) x told = carries k j b x (carries i k a x told)

  -- and at a step that is no acquire its processor knows it before the step
  pub carries_strictly : (i j : ℕ) → Before n es i j → ((l : ℕ) → action_of (event_at es j).step ≡ Acquire l → ⊥) → (action_of (event_at es j).step ≡ Dequeue → ⊥) → (x : ℕ) → Tells x i → x ≤ known j (event_at es j).step.processor
  unfolding is_acquire
  carries_strictly i j (program p a b from to h) none-acquired none-removed x told =
      rw to.processor ((rw from.processor at told).at j (omega (arith, h)) (f.acts_awake j p b to))
  carries_strictly i j (lock p q l from to h) none-acquired none-removed x told = absurd (none-acquired l to.action)
  carries_strictly i j (round p q b from to h) none-acquired none-removed x told =
      rw to.processor (omega (arith, knows_after x i p Arrive from refl told, f.round_tells i p from j (omega (arith, h)) q))
  carries_strictly i j (granted p q l a b serves to h) none-acquired none-removed x told =
      let mine = knows_after x i p (Release l) serves.release refl told in
      rw to.processor (omega (arith, mine, f.grant_tells i p a q l serves, never_falls (λ t. known t q) (f.grows q) (suc i) j (omega (arith, h))))
  carries_strictly i j (job p v q r) none-acquired none-removed x told = absurd (none-removed r.dequeue.action)
  carries_strictly i j (chain k a b) none-acquired none-removed x told = carries_strictly k j b none-acquired none-removed x (carries i k a x told)
