-- The tests on the places of the lines of waiters as facts about each waiter, both ways. Assumes nothing.
use Prim.Native.Nat.{ℕ, zero, suc, ◌+◌, ◌-◌, ◌<◌}
use native.Mathlib.Numerals.{add-one}
use native.Mathlib.Omega.{arith}
use native.Mathlib.Decide.{dec_lt}
use mathlib.Core.Path.{◌≡◌, refl, sym, ap, ◌∙◌}
use mathlib.Core.Bool.{true, not, ◌&&◌, ◌||◌, false≢true}
use mathlib.Core.List.{List}
use lib.ListN.{get_or}
use lib.Dec.{ltb, eqb}
use borrow.Author.Tests.{ltb-true, eqb-true, eqb-false, not-true, not-false, lt-ltb, eq-eqb, ne_eqb}
use Rattle.lists.specs.Tables.{every, total}
use Rattle.lists.proofs.Conditions.{and_left, and_right, and_both, or_says, or_when}
use Rattle.lists.proofs.Tables.{every_at, every_holds, total_same}
use Rattle.limits.specs.Places.{first_arrived}
use Rattle.limits.specs.inner.Sizes.{first_holder}
use Rattle.rules.proofs.state.Lines.{ahead, Lines}
use Rattle.inorder_marks.specs.inner.Tests.{zero_at, awaited_byte, turn_byte, held_by_another, may_wait, is_before, before_count, bytes_before, is_apart, turn_holds, waiter_holds}

-- processor k + 1 waits for a present lock that another holds, has not arrived, and stands where its turn says
pub record LinesPass (m : List ℕ) (processors locks : ℕ) : Type 0 where
  pub lines : Lines processors (awaited_byte m) (turn_byte m)
  pub for_present : (k l : ℕ) → k < processors → awaited_byte m k ≡ suc l → l < locks
  pub for_held : (k l : ℕ) → k < processors → awaited_byte m k ≡ suc l → get_or m (first_holder + l) 0 ≡ 0 → ⊥
  pub by_another : (k l : ℕ) → k < processors → awaited_byte m k ≡ suc l → get_or m (first_holder + l) 0 ≡ suc k → ⊥
  pub not_arrived : (k l : ℕ) → k < processors → awaited_byte m k ≡ suc l → get_or m (first_arrived + k) 0 ≡ 0

-- those before a waiter of lock l, counted on places or in the line
before_ahead : (m : List ℕ) (processors k l : ℕ) → awaited_byte m k ≡ suc l → bytes_before m processors k ≡ total processors (ahead (awaited_byte m) (turn_byte m) l k)
unfolding bytes_before before_count is_before ahead
before_ahead m processors k l e = total_same processors (before_count m k) (ahead (awaited_byte m) (turn_byte m) l k) (λ j b. rw e)

-- ---- what the test says

module _ (m : List ℕ) (processors locks : ℕ) (h : every processors (waiter_holds m processors locks) ≡ true) where
  -- of a waiter of lock l both parts of the test pass
  stands : (k l : ℕ) → k < processors → awaited_byte m k ≡ suc l → (may_wait m locks k l && turn_holds m processors k) ≡ true
  unfolding waiter_holds
  stands k l b e =
      let lock : awaited_byte m k - 1 ≡ l = omega (arith, e) in
      rw lock at (or_says (eqb (awaited_byte m k) 0) _ (every_at processors (waiter_holds m processors locks) k h b) (ne_eqb (awaited_byte m k) 0 (λ z. omega (arith, z, e))))

  -- it may wait
  allowed : (k l : ℕ) → k < processors → awaited_byte m k ≡ suc l → may_wait m locks k l ≡ true
  allowed k l b e = and_left (may_wait m locks k l) (turn_holds m processors k) (stands k l b e)

  -- another holds the lock, and the waiter has not arrived
  held_meanwhile : (k l : ℕ) → k < processors → awaited_byte m k ≡ suc l → (held_by_another m k l && zero_at m first_arrived k) ≡ true
  unfolding may_wait
  held_meanwhile k l b e = and_right (ltb l locks) _ (allowed k l b e)

  -- another holds the lock
  held_by : (k l : ℕ) → k < processors → awaited_byte m k ≡ suc l → held_by_another m k l ≡ true
  held_by k l b e = and_left (held_by_another m k l) (zero_at m first_arrived k) (held_meanwhile k l b e)

  -- its turn is right
  turned : (k l : ℕ) → k < processors → awaited_byte m k ≡ suc l → turn_holds m processors k ≡ true
  turned k l b e = and_right (may_wait m locks k l) (turn_holds m processors k) (stands k l b e)

  -- no lower processor stands at its place
  lower_apart : (l j k : ℕ) → j < k → k < processors → awaited_byte m j ≡ suc l → awaited_byte m k ≡ suc l → turn_byte m j ≡ turn_byte m k → ⊥
  unfolding turn_holds is_apart
  lower_apart l j k a b ej ek t =
      let here : is_apart m k j ≡ true = every_at k (is_apart m k) j (and_left _ (eqb (turn_byte m k) (bytes_before m processors k)) (turned k l b ek)) a in
      false≢true (rw (eq-eqb (awaited_byte m j) (awaited_byte m k) (ej ∙ sym ek), eq-eqb (turn_byte m j) (turn_byte m k) t) at here)

  -- waiters that pass stand in lines
  pub waiters_say : LinesPass m processors locks
  unfolding turn_holds may_wait held_by_another zero_at
  waiters_say =
      record {
        lines = record { counts = λ l k b e. counts l k b e; apart = λ l j k bj bk ej ek t. apart l j k bj bk ej ek t (dec_lt j k) (dec_lt k j) };
        for_present = λ k l b e. ltb-true l locks (and_left _ (held_by_another m k l && zero_at m first_arrived k) (allowed k l b e));
        for_held = λ k l b e z.
            eqb-false (get_or m (first_holder + l) 0) 0 (not-true _ (and_left _ (not (eqb (get_or m (first_holder + l) 0) (k + 1))) (held_by k l b e))) z;
        by_another = λ k l b e z.
            eqb-false (get_or m (first_holder + l) 0) (k + 1) (not-true _ (and_right (not (eqb (get_or m (first_holder + l) 0) 0)) _ (held_by k l b e))) (z ∙ sym (add-one k));
        not_arrived = λ k l b e. eqb-true (get_or m (first_arrived + k) 0) 0 (and_right (held_by_another m k l) _ (held_meanwhile k l b e));
      }
    where
      counts : (l k : ℕ) → k < processors → awaited_byte m k ≡ suc l → total processors (ahead (awaited_byte m) (turn_byte m) l k) ≡ turn_byte m k
      counts l k b e = sym (eqb-true _ _ (and_right (every k (is_apart m k)) _ (turned k l b e)) ∙ before_ahead m processors k l e)

      apart : (l j k : ℕ) → j < processors → k < processors → awaited_byte m j ≡ suc l → awaited_byte m k ≡ suc l → turn_byte m j ≡ turn_byte m k → Dec (j < k) → Dec (k < j) → j ≡ k
      apart l j k bj bk ej ek t (yes a) d = absurd (lower_apart l j k a bk ej ek t)
      apart l j k bj bk ej ek t (no a) (yes d) = absurd (lower_apart l k j d bj ek ej (sym t))
      apart l j k bj bk ej ek t (no a) (no d) = omega (arith, a, d)

-- ---- when it passes

module _ (m : List ℕ) (processors locks : ℕ) (o : LinesPass m processors locks) where
  -- a waiter may wait for its lock
  may_wait_when : (k l : ℕ) → k < processors → awaited_byte m k ≡ suc l → may_wait m locks k l ≡ true
  unfolding may_wait held_by_another zero_at
  may_wait_when k l b e =
      rw (
        lt-ltb l locks (o.for_present k l b e),
        ne_eqb (get_or m (first_holder + l) 0) 0 (o.for_held k l b e),
        ne_eqb (get_or m (first_holder + l) 0) (k + 1) (λ z. o.by_another k l b e (z ∙ add-one k)),
        eq-eqb (get_or m (first_arrived + k) 0) 0 (o.not_arrived k l b e),
      )

  -- it stands alone at its place, and its turn counts those before it
  turn_when : (k l : ℕ) → k < processors → awaited_byte m k ≡ suc l → turn_holds m processors k ≡ true
  unfolding turn_holds is_apart
  turn_when k l b e =
      and_both (every k (is_apart m k)) (eqb (turn_byte m k) (bytes_before m processors k))
      (every_holds k (is_apart m k)
      (λ j a. or_when (not (eqb (awaited_byte m j) (awaited_byte m k))) _
      (λ same. ap not (ne_eqb (turn_byte m j) (turn_byte m k)
      (λ t. omega (arith, a, o.lines.apart l j k (omega (arith, a, b)) b (eqb-true (awaited_byte m j) (awaited_byte m k) (not-false _ same) ∙ e) e t))))))
      (eq-eqb _ _ (sym (before_ahead m processors k l e ∙ o.lines.counts l k b e)))

  -- waiters that stand in lines pass
  pub waiters_when : every processors (waiter_holds m processors locks) ≡ true
  unfolding waiter_holds
  waiters_when = every_holds processors (waiter_holds m processors locks) (λ k b. go k b (awaited_byte m k) refl)
    where
      go : (k : ℕ) → k < processors → (a : ℕ) → awaited_byte m k ≡ a → (eqb (awaited_byte m k) 0 || (may_wait m locks k (awaited_byte m k - 1) && turn_holds m processors k)) ≡ true
      go k b zero e = rw (eq-eqb (awaited_byte m k) 0 e)
      go k b (suc l) e =
          let lock : awaited_byte m k - 1 ≡ l = omega (arith, e) in
          or_when (eqb (awaited_byte m k) 0) _ (λ w. rw (lock, may_wait_when k l b e, turn_when k l b e))
