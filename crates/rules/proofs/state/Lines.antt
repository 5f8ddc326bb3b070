-- Lines of waiters kept by processor, over plain functions: a k is the lock that processor k + 1 waits for, plus 1, or 0, and t k how many of
-- that lock's waiters stand before it. Asking and handing on keep them lines, a line that is not empty has a first, and the waiters of a lock
-- have the turns from 0 on. Rests on lists' Tables and Counting. Assumes nothing.
use Prim.Native.Nat.{ℕ, zero, suc, ◌-◌, ◌≤◌, ◌<◌}
use native.Mathlib.Omega.{arith}
use native.Mathlib.Decide.{dec_lt, ℕ_discrete}
use mathlib.Core.Path.{◌≡◌, refl, sym, ap, ◌∙◌}
use mathlib.Core.Bool.{cond, ◌&&◌}
use lib.Dec.{eqb, ltb}
use borrow.Author.Tests.{lt-ltb, le-ltb, eq-eqb, ne_eqb}
use Rattle.lists.specs.Tables.{total}
use Rattle.lists.proofs.Tables.{total_same, total_change}
use Rattle.lists.proofs.Counting.{Some, total_some, total_less}

-- 1 for who waits for lock l
unfoldable pub waiting : (ℕ → ℕ) → ℕ → ℕ → ℕ
waiting a l j = cond (eqb (a j) (suc l)) 1 0

-- 1 for a waiter of lock l that stands before k
unfoldable pub ahead : (ℕ → ℕ) → (ℕ → ℕ) → ℕ → ℕ → ℕ → ℕ
ahead a t l k j = cond (eqb (a j) (suc l) && ltb (t j) (t k)) 1 0

module _ (a : ℕ → ℕ) (l j : ℕ) where
  pub waiting_is : a j ≡ suc l → waiting a l j ≡ 1
  unfolding waiting
  waiting_is e = rw (eq-eqb (a j) (suc l) e)

  pub waiting_not : (a j ≡ suc l → ⊥) → waiting a l j ≡ 0
  unfolding waiting
  waiting_not e = rw (ne_eqb (a j) (suc l) e)

module _ (a t : ℕ → ℕ) (l k j : ℕ) where
  ahead_is : a j ≡ suc l → t j < t k → ahead a t l k j ≡ 1
  unfolding ahead
  ahead_is e h = rw (eq-eqb (a j) (suc l) e, lt-ltb (t j) (t k) h)

  ahead_not : a j ≡ suc l → t k ≤ t j → ahead a t l k j ≡ 0
  unfolding ahead
  ahead_not e h = rw (eq-eqb (a j) (suc l) e, le-ltb (t j) (t k) h)

  ahead_other : (a j ≡ suc l → ⊥) → ahead a t l k j ≡ 0
  unfolding ahead
  ahead_other e = rw (ne_eqb (a j) (suc l) e)

-- of n processors, each waiter's turn is how many of its lock's waiters have a smaller one, and no two of them have the same
pub record Lines (n : ℕ) (a t : ℕ → ℕ) : Type 0 where
  pub counts : (l k : ℕ) → k < n → a k ≡ suc l → total n (ahead a t l k) ≡ t k
  pub apart : (l j k : ℕ) → j < n → k < n → a j ≡ suc l → a k ≡ suc l → t j ≡ t k → j ≡ k

-- who is first in the line of l
pub record First (n : ℕ) (a t : ℕ → ℕ) (l : ℕ) : Type 0 where
  pub who : ℕ
  pub below : who < n
  pub waits : a who ≡ suc l
  pub first : t who ≡ 0

module _ (n : ℕ) (a t : ℕ → ℕ) (lines : Lines n a t) where
  first_within : (m l k : ℕ) → t k ≤ m → k < n → a k ≡ suc l → First n a t l
  first_within zero l k h b e = record { who = k; below = b; waits = e; first = omega (arith, h) }
  first_within (suc m) l k h b e = go (ℕ_discrete (t k) 0) (first_within m l)
    where
      go : Dec (t k ≡ 0) → ((j : ℕ) → t j ≤ m → j < n → a j ≡ suc l → First n a t l) → First n a t l
      go (yes z) r = record { who = k; below = b; waits = e; first = z }
      go (no z) r = step (total_some n (ahead a t l k) (omega (arith, lines.counts l k b e, z)))
        where
          step : Some n (ahead a t l k) → First n a t l
          step s = by (ℕ_discrete (a s.at) (suc l)) (dec_lt (t s.at) (t k))
            where
              by : Dec (a s.at ≡ suc l) → Dec (t s.at < t k) → First n a t l
              by (yes w) (yes v) = r s.at (omega (arith, v, h)) s.below w
              by (yes w) (no v) = absurd (omega (arith, s.some, ahead_not a t l k s.at w (omega (arith, v))))
              by (no w) v = absurd (omega (arith, s.some, ahead_other a t l k s.at w))

  -- a line that is not empty has a first
  pub line_has_first : (l k : ℕ) → k < n → a k ≡ suc l → First n a t l
  line_has_first l k = first_within (t k) l k (omega arith)

  -- a turn is below how many wait
  pub turn_below : (l k : ℕ) → k < n → a k ≡ suc l → t k < total n (waiting a l)
  turn_below l k b e = omega (arith, sym (lines.counts l k b e), total_less n (ahead a t l k) (waiting a l) k b small strict)
    where
      small : (j : ℕ) → j < n → ahead a t l k j ≤ waiting a l j
      small j m = go (ℕ_discrete (a j) (suc l)) (dec_lt (t j) (t k))
        where
          go : Dec (a j ≡ suc l) → Dec (t j < t k) → ahead a t l k j ≤ waiting a l j
          go (yes w) (yes v) = omega (arith, ahead_is a t l k j w v, waiting_is a l j w)
          go (yes w) (no v) = omega (arith, ahead_not a t l k j w (omega (arith, v)))
          go (no w) v = omega (arith, ahead_other a t l k j w)

      strict : ahead a t l k k < waiting a l k
      strict = omega (arith, ahead_not a t l k k e (omega arith), waiting_is a l k e)

  -- functions that agree below n are the same lines
  pub lines_same : (a' t' : ℕ → ℕ) → ((j : ℕ) → j < n → a' j ≡ a j) → ((j : ℕ) → j < n → t' j ≡ t j) → Lines n a' t'
  lines_same a' t' ea et =
      record {
        counts = λ l k b e. total_same n (ahead a' t' l k) (ahead a t l k) (λ j m. unfold ahead in rw (ea j m, et j m, et k b)) ∙ lines.counts l k b (sym (ea k b) ∙ e) ∙ sym (et k b);
        apart = λ l j k bj bk ej ek z. lines.apart l j k bj bk (sym (ea j bj) ∙ ej) (sym (ea k bk) ∙ ek) (sym (et j bj) ∙ z ∙ et k bk);
      }

  -- ---- p asks for lock l and stands behind those who wait

  module _ (p l : ℕ) (a' t' : ℕ → ℕ) (here : p < n) (free : a p ≡ 0) (asks : a' p ≡ suc l) (behind : t' p ≡ total n (waiting a l))
      (same : (j : ℕ) → (j ≡ p → ⊥) → a' j ≡ a j) (kept : (j : ℕ) → (j ≡ p → ⊥) → t' j ≡ t j) where
    -- the waiters are lines again
    pub asked_lines : Lines n a' t'
    asked_lines =
        record {
          counts = λ i k b e. at i k b e (ℕ_discrete k p);
          apart = λ i j k bj bk ej ek z. pair i j k bj bk ej ek z (ℕ_discrete j p) (ℕ_discrete k p);
        }
      where
        new : (j : ℕ) → j < n → ahead a' t' l p j ≡ waiting a l j
        new j m = go (ℕ_discrete j p) (ℕ_discrete (a j) (suc l))
          where
            go : Dec (j ≡ p) → Dec (a j ≡ suc l) → ahead a' t' l p j ≡ waiting a l j
            go (yes e) w = rw e (omega (arith, ahead_not a' t' l p p asks (omega arith), waiting_not a l p (λ z. omega (arith, z, free))))
            go (no e) (yes w) =
                omega (arith, ahead_is a' t' l p j (same j e ∙ w) (omega (arith, kept j e, behind, turn_below l j m w)), waiting_is a l j w)
            go (no e) (no w) = omega (arith, ahead_other a' t' l p j (λ z. w (sym (same j e) ∙ z)), waiting_not a l j w)

        old : (i k : ℕ) → k < n → (k ≡ p → ⊥) → a k ≡ suc i → (j : ℕ) → j < n → ahead a' t' i k j ≡ ahead a t i k j
        old i k b d e j m = go (ℕ_discrete j p) (ℕ_discrete (a j) (suc i)) (dec_lt (t j) (t k))
          where
            go : Dec (j ≡ p) → Dec (a j ≡ suc i) → Dec (t j < t k) → ahead a' t' i k j ≡ ahead a t i k j
            go (yes z) w v = rw z (omega (arith, ahead_other a t i k p (λ y. omega (arith, y, free)), mine (ℕ_discrete l i)))
              where
                mine : Dec (l ≡ i) → ahead a' t' i k p ≡ 0
                mine (yes y) =
                    ahead_not a' t' i k p (asks ∙ ap suc y) (omega (arith, kept k d, behind, turn_below l k b (e ∙ ap suc (sym y))))
                mine (no y) = ahead_other a' t' i k p (λ x. y (omega (arith, asks, x)))
            go (no z) (yes w) (yes v) = omega (arith, ahead_is a t i k j w v, ahead_is a' t' i k j (same j z ∙ w) (omega (arith, kept j z, kept k d, v)))
            go (no z) (yes w) (no v) = omega (arith, ahead_not a t i k j w (omega (arith, v)), ahead_not a' t' i k j (same j z ∙ w) (omega (arith, kept j z, kept k d, v)))
            go (no z) (no w) v = omega (arith, ahead_other a t i k j w, ahead_other a' t' i k j (λ x. w (sym (same j z) ∙ x)))

        at : (i k : ℕ) → k < n → a' k ≡ suc i → Dec (k ≡ p) → total n (ahead a' t' i k) ≡ t' k
        at i k b e (yes z) =
            let y : i ≡ l = omega (arith, sym e, ap a' z, asks) in
            rw (z, y) (total_same n (ahead a' t' l p) (waiting a l) new ∙ sym behind)
        at i k b e (no z) =
            let w : a k ≡ suc i = sym (same k z) ∙ e in
            total_same n (ahead a' t' i k) (ahead a t i k) (old i k b z w) ∙ lines.counts i k b w ∙ sym (kept k z)

        pair : (i j k : ℕ) → j < n → k < n → a' j ≡ suc i → a' k ≡ suc i → t' j ≡ t' k → Dec (j ≡ p) → Dec (k ≡ p) → j ≡ k
        pair i j k bj bk ej ek z (yes x) (yes y) = x ∙ sym y
        pair i j k bj bk ej ek z (yes x) (no y) =
            absurd (omega (arith, z, ap t' x, behind, kept k y, turn_below l k bk (sym (same k y) ∙ ek ∙ sym ej ∙ ap a' x ∙ asks)))
        pair i j k bj bk ej ek z (no x) (yes y) =
            absurd (omega (arith, z, ap t' y, behind, kept j x, turn_below l j bj (sym (same j x) ∙ ej ∙ sym ek ∙ ap a' y ∙ asks)))
        pair i j k bj bk ej ek z (no x) (no y) =
            lines.apart i j k bj bk (sym (same j x) ∙ ej) (sym (same k y) ∙ ek) (sym (kept j x) ∙ z ∙ kept k y)

  -- ---- the first of the line of l leaves it, and the others move up

  module _ (h l : ℕ) (a' t' : ℕ → ℕ) (here : h < n) (waits : a h ≡ suc l) (first : t h ≡ 0) (left : a' h ≡ 0)
      (same : (j : ℕ) → (j ≡ h → ⊥) → a' j ≡ a j) (up : (j : ℕ) → a j ≡ suc l → t' j ≡ t j - 1) (kept : (j : ℕ) → (a j ≡ suc l → ⊥) → t' j ≡ t j) where
    not_first : (i k : ℕ) → a' k ≡ suc i → k ≡ h → ⊥
    not_first i k e z = omega (arith, e, ap a' z, left)

    -- the others stand behind it
    pub behind_first : (k : ℕ) → k < n → (k ≡ h → ⊥) → a k ≡ suc l → 1 ≤ t k
    behind_first k b d e = go (ℕ_discrete (t k) 0)
      where
        go : Dec (t k ≡ 0) → 1 ≤ t k
        go (yes z) = absurd (d (lines.apart l k h b here e waits (z ∙ sym first)))
        go (no z) = omega (arith, z)

    -- the waiters are lines again
    pub handed_lines : Lines n a' t'
    handed_lines =
        record {
          counts = λ i k b e. at i k b e (not_first i k e) (ℕ_discrete i l);
          apart = λ i j k bj bk ej ek z. pair i j k bj bk (not_first i j ej) (not_first i k ek) ej ek z (ℕ_discrete i l);
        }
      where
        at : (i k : ℕ) → k < n → a' k ≡ suc i → (k ≡ h → ⊥) → Dec (i ≡ l) → total n (ahead a' t' i k) ≡ t' k
        at i k b e d (yes z) =
            rw z
            (omega (
              arith,
              up k w₀,
              behind_first k b d w₀,
              lines.counts l k b w₀,
              ahead_is a t l k h waits (omega (arith, first, behind_first k b d w₀)),
              total_change n (ahead a t l k) (λ j. cond (eqb j h) 0 (ahead a t l k j)) h here (λ j y. rw (ne_eqb j h y)),
              total_same n (ahead a' t' l k) (λ j. cond (eqb j h) 0 (ahead a t l k j)) (λ j m. moved j m (ℕ_discrete j h)),
              gap,
            ))
          where
            w₀ : a k ≡ suc l
            w₀ = sym (same k d) ∙ e ∙ ap suc z

            gap : ◌≡◌ {A = ℕ} (cond (eqb h h) 0 (ahead a t l k h)) 0
            gap = rw (eq-eqb h h refl)

            moved : (j : ℕ) → j < n → Dec (j ≡ h) → ahead a' t' l k j ≡ cond (eqb j h) 0 (ahead a t l k j)
            moved j m (yes y) = rw (eq-eqb j h y) (ahead_other a' t' l k j (λ x. omega (arith, x, ap a' y, left)))
            moved j m (no y) = rw (ne_eqb j h y) (go (ℕ_discrete (a j) (suc l)) (dec_lt (t j) (t k)))
              where
                go : Dec (a j ≡ suc l) → Dec (t j < t k) → ahead a' t' l k j ≡ ahead a t l k j
                go (yes v) (yes x) =
                    omega (arith, ahead_is a t l k j v x, ahead_is a' t' l k j (same j y ∙ v) (omega (arith, up j v, up k w₀, x, behind_first j m y v)))
                go (yes v) (no x) =
                    omega (arith, ahead_not a t l k j v (omega (arith, x)), ahead_not a' t' l k j (same j y ∙ v) (omega (arith, up j v, up k w₀, x)))
                go (no v) x = omega (arith, ahead_other a t l k j v, ahead_other a' t' l k j (λ u. v (sym (same j y) ∙ u)))
        at i k b e d (no z) =
            let w : a k ≡ suc i = sym (same k d) ∙ e in
            total_same n (ahead a' t' i k) (ahead a t i k) (λ j m. stays j (ℕ_discrete j h) (ℕ_discrete (a j) (suc i)) (dec_lt (t j) (t k)))
            ∙ lines.counts i k b w ∙ sym (kept k (λ x. z (omega (arith, x, w))))
          where
            w₀ : a k ≡ suc i
            w₀ = sym (same k d) ∙ e

            stays : (j : ℕ) → Dec (j ≡ h) → Dec (a j ≡ suc i) → Dec (t j < t k) → ahead a' t' i k j ≡ ahead a t i k j
            stays j (yes y) v x =
                omega (arith, ahead_other a' t' i k j (λ u. omega (arith, u, ap a' y, left)), ahead_other a t i k j (λ u. z (omega (arith, u, ap a y, waits))))
            stays j (no y) (yes v) (yes x) =
                omega (arith, ahead_is a t i k j v x, ahead_is a' t' i k j (same j y ∙ v) (omega (arith, kept j (λ u. z (omega (arith, u, v))), kept k (λ u. z (omega (arith, u, w₀))), x)))
            stays j (no y) (yes v) (no x) =
                omega (arith, ahead_not a t i k j v (omega (arith, x)), ahead_not a' t' i k j (same j y ∙ v) (omega (arith, kept j (λ u. z (omega (arith, u, v))), kept k (λ u. z (omega (arith, u, w₀))), x)))
            stays j (no y) (no v) x = omega (arith, ahead_other a t i k j v, ahead_other a' t' i k j (λ u. v (sym (same j y) ∙ u)))

        pair : (i j k : ℕ) → j < n → k < n → (j ≡ h → ⊥) → (k ≡ h → ⊥) → a' j ≡ suc i → a' k ≡ suc i → t' j ≡ t' k → Dec (i ≡ l) → j ≡ k
        pair i j k bj bk dj dk ej ek e (yes z) =
            let wj : a j ≡ suc l = sym (same j dj) ∙ ej ∙ ap suc z in
            let wk : a k ≡ suc l = sym (same k dk) ∙ ek ∙ ap suc z in
            lines.apart l j k bj bk wj wk (omega (arith, e, up j wj, up k wk, behind_first j bj dj wj, behind_first k bk dk wk))
        pair i j k bj bk dj dk ej ek e (no z) =
            let wj : a j ≡ suc i = sym (same j dj) ∙ ej in
            let wk : a k ≡ suc i = sym (same k dk) ∙ ek in
            lines.apart i j k bj bk wj wk (omega (arith, e, kept j (λ u. z (omega (arith, u, wj))), kept k (λ u. z (omega (arith, u, wk)))))
