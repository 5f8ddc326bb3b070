-- The places of a ring of m: the e-th job gets the place ring m e. A job's place is as far behind the first one's as the job is behind the first
-- job, and jobs of one filling have different places. No division. Assumes nothing.
use Prim.Native.Nat.{ℕ, zero, suc, ◌+◌, ◌-◌, ◌≤◌, ◌<◌}
use native.Mathlib.Omega.{arith}
use native.Mathlib.Decide.{dec_lt, ℕ_discrete}
use mathlib.Core.Path.{◌≡◌, refl, sym, ap, ◌∙◌}
use mathlib.Core.Bool.{Bool, true, false, cond, false≢true}
use lib.Dec.{eqb, ltb}
use borrow.Author.Tests.{lt-ltb, le-ltb, eq-eqb, ne_eqb}

unfoldable pub ring : ℕ → ℕ → ℕ
ring m zero = 0
ring m (suc e) = cond (eqb (suc (ring m e)) m) 0 (suc (ring m e))

unfoldable pub wrapped : ℕ → ℕ → ℕ
wrapped m x = cond (ltb x m) x (x - m)

wrapped_below : (m x : ℕ) → x < m → wrapped m x ≡ x
unfolding wrapped
wrapped_below m x h = rw (lt-ltb x m h)

wrapped_above : (m x : ℕ) → m ≤ x → wrapped m x ≡ x - m
unfolding wrapped
wrapped_above m x h = rw (le-ltb x m h)

ring_turns : (m e : ℕ) → suc (ring m e) ≡ m → ring m (suc e) ≡ 0
unfolding ring
ring_turns m e h = rw (eq-eqb (suc (ring m e)) m h)

ring_goes : (m e : ℕ) → (suc (ring m e) ≡ m → ⊥) → ring m (suc e) ≡ suc (ring m e)
unfolding ring
ring_goes m e h = rw (ne_eqb (suc (ring m e)) m h)

pub ring_below : (m e : ℕ) → 0 < m → ring m e < m
unfolding ring
ring_below m zero h = h
ring_below m (suc e) h = go (ℕ_discrete (suc (ring m e)) m) (ring_below m e h)
  where
    go : Dec (suc (ring m e) ≡ m) → ring m e < m → ring m (suc e) < m
    go (yes z) b = omega (arith, ring_turns m e z, h)
    go (no z) b = omega (arith, ring_goes m e z, z, b)

-- the place k behind
pub ring_ahead : (m e k : ℕ) → k < m → ring m (e + k) ≡ wrapped m (ring m e + k)
ring_ahead m e zero h = ap (ring m) (e0 e) ∙ sym (wrapped_below m (ring m e + 0) (omega (arith, ring_below m e h)) ∙ e0 (ring m e))
  where
    e0 : (x : ℕ) → x + 0 ≡ x
    e0 x = omega arith
ring_ahead m e (suc k) h = ap (ring m) (next e k) ∙ go (ℕ_discrete (suc (ring m (e + k))) m) (dec_lt (ring m e + k) m) (ring_ahead m e k (omega (arith, h)))
  where
    next : (x y : ℕ) → x + suc y ≡ suc (x + y)
    next x y = omega arith

    go : Dec (suc (ring m (e + k)) ≡ m) → Dec (ring m e + k < m) → ring m (e + k) ≡ wrapped m (ring m e + k) → ring m (suc (e + k)) ≡ wrapped m (ring m e + suc k)
    go (yes z) (yes b) ih =
        let here : ring m (e + k) ≡ ring m e + k = ih ∙ wrapped_below m (ring m e + k) b in
        omega (arith, ring_turns m (e + k) z, wrapped_above m (ring m e + suc k) (omega (arith, here, z)), here, z)
    go (yes z) (no b) ih =
        let here : ring m (e + k) ≡ (ring m e + k) - m = ih ∙ wrapped_above m (ring m e + k) (omega (arith, b)) in
        absurd (omega (arith, here, z, b, h, ring_below m e (omega (arith, h))))
    go (no z) (yes b) ih =
        let here : ring m (e + k) ≡ ring m e + k = ih ∙ wrapped_below m (ring m e + k) b in
        omega (arith, ring_goes m (e + k) z, wrapped_below m (ring m e + suc k) (omega (arith, here, z, b)), here)
    go (no z) (no b) ih =
        let here : ring m (e + k) ≡ (ring m e + k) - m = ih ∙ wrapped_above m (ring m e + k) (omega (arith, b)) in
        omega (arith, ring_goes m (e + k) z, wrapped_above m (ring m e + suc k) (omega (arith, b)), here, b)

-- jobs that are in the queue at once have different places
pub ring_apart : (m e k : ℕ) → 0 < k → k < m → ring m (e + k) ≡ ring m e → ⊥
ring_apart m e k some h z = go (dec_lt (ring m e + k) m)
  where
    go : Dec (ring m e + k < m) → ⊥
    go (yes b) = omega (arith, z, some, ring_ahead m e k h, wrapped_below m (ring m e + k) b)
    go (no b) = omega (arith, z, h, b, ring_ahead m e k h, wrapped_above m (ring m e + k) (omega (arith, b)))

-- the same of places counted from one of them
pub wrapped_apart : (m f j k : ℕ) → f < m → k < j → j < m → wrapped m (f + k) ≡ wrapped m (f + j) → ⊥
wrapped_apart m f j k l less few z = go (dec_lt (f + k) m) (dec_lt (f + j) m)
  where
    go : Dec (f + k < m) → Dec (f + j < m) → ⊥
    go (yes a) (yes b) = omega (arith, z, less, wrapped_below m (f + k) a, wrapped_below m (f + j) b)
    go (yes a) (no b) = omega (arith, z, less, few, l, wrapped_below m (f + k) a, wrapped_above m (f + j) (omega (arith, b)))
    go (no a) (yes b) = omega (arith, less, a, b)
    go (no a) (no b) = omega (arith, z, less, a, b, wrapped_above m (f + k) (omega (arith, a)), wrapped_above m (f + j) (omega (arith, b)))

-- k places behind the next place are k + 1 behind the place
pub wrapped_next : (m f k : ℕ) → f < m → k < m → wrapped m (cond (eqb (suc f) m) 0 (suc f) + k) ≡ wrapped m (f + suc k)
wrapped_next m f k l few = go (ℕ_discrete (suc f) m)
  where
    go : Dec (suc f ≡ m) → wrapped m (cond (eqb (suc f) m) 0 (suc f) + k) ≡ wrapped m (f + suc k)
    go (yes e) = rw (eq-eqb (suc f) m e) (omega (arith, e, wrapped_below m (0 + k) (omega (arith, few)), wrapped_above m (f + suc k) (omega (arith, e))))
    go (no e) = rw (ne_eqb (suc f) m e) (ap (wrapped m) (swap f k))
      where
        swap : (x y : ℕ) → suc x + y ≡ x + suc y
        swap x y = omega arith

-- ---- a job keeps its place

-- a queue over time: how many jobs were added and removed before a time, and whether the step at a time adds one
pub record Queue (m : ℕ) (added removed : ℕ → ℕ) (adds : ℕ → Bool) : Type 0 where
  pub room : 0 < m
  -- one more where a job is added, and then the queue was not full; nothing is taken back
  pub one_more : (t : ℕ) → adds t ≡ true → added (suc t) ≡ suc (added t)
  pub not_full : (t : ℕ) → adds t ≡ true → added t < removed t + m
  pub as_many : (t : ℕ) → adds t ≡ false → added (suc t) ≡ added t
  pub grows : (t : ℕ) → removed t ≤ removed (suc t)

-- what holds of a place stays, but where a job is added at that place
pub record Stays (m : ℕ) (added : ℕ → ℕ) (adds : ℕ → Bool) (P : ℕ → ℕ → Type 0) : Type 0 where
  pub elsewhere : (t k : ℕ) → adds t ≡ true → (k ≡ ring m (added t) → ⊥) → P t k → P (suc t) k
  pub otherwise : (t k : ℕ) → adds t ≡ false → P t k → P (suc t) k

module _ (m : ℕ) (added removed : ℕ → ℕ) (adds : ℕ → Bool) (q : Queue m added removed adds) (P : ℕ → ℕ → Type 0) (s : Stays m added adds P) where
  -- after a job is added, more are added
  later_added : (i t : ℕ) → adds i ≡ true → i < t → added i < added t
  later_added i zero e l = absurd (omega (arith, l))
  later_added i (suc t) e l = go (ℕ_discrete t i) (adds t) refl (later_added i t e)
    where
      go : Dec (t ≡ i) → (b : Bool) → adds t ≡ b → (i < t → added i < added t) → added i < added (suc t)
      go (yes d) true z ih = omega (arith, q.one_more t z, ap added d)
      go (yes d) false z ih = absurd (false≢true (sym z ∙ ap adds d ∙ e))
      go (no d) true z ih = omega (arith, q.one_more t z, ih (omega (arith, l, d)))
      go (no d) false z ih = omega (arith, q.as_many t z, ih (omega (arith, l, d)))

  removed_earlier : (t : ℕ) (x : ℕ) → removed (suc t) ≤ x → removed t ≤ x
  removed_earlier t x h = omega (arith, h, q.grows t)

  -- what the adding of a job leaves at its place stands there until the job is removed
  pub keeps_its_place : (i : ℕ) → adds i ≡ true → P (suc i) (ring m (added i)) → (t : ℕ) → i < t → removed t ≤ added i → P t (ring m (added i))
  keeps_its_place i e h zero l r = absurd (omega (arith, l))
  keeps_its_place i e h (suc t) l r = go (ℕ_discrete t i) (adds t) refl (λ b. keeps_its_place i e h t b (removed_earlier t (added i) r))
    where
      k : ℕ
      k = ring m (added i)

      -- another job that is added meanwhile has another place
      other : i < t → adds t ≡ true → k ≡ ring m (added t) → ⊥
      other b z same =
          let more = later_added i t e b in
          let few : added t < added i + m = omega (arith, q.not_full t z, removed_earlier t (added i) r) in
          let split : added t ≡ added i + (added t - added i) = omega (arith, more) in
          ring_apart m (added i) (added t - added i) (omega (arith, more)) (omega (arith, few, more)) (ap (ring m) (sym split) ∙ sym same)

      go : Dec (t ≡ i) → (b : Bool) → adds t ≡ b → (i < t → P t k) → P (suc t) k
      go (yes d) b z ih = rw d h
      go (no d) true z ih = let b : i < t = omega (arith, l, d) in s.elsewhere t k z (other b z) (ih b)
      go (no d) false z ih = s.otherwise t k z (ih (omega (arith, l, d)))
