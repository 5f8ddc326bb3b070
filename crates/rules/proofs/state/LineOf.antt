-- The line of a lock as a list, the longest waiter first: asking puts a processor at its end, handing on takes its first, and the other lines
-- stay. Rests on Waiters. Assumes nothing.
use Prim.Native.Nat.{ℕ, suc, ◌-◌, ◌≤◌, ◌<◌}
use native.Mathlib.Omega.{arith}
use native.Mathlib.Decide.{dec_lt, ℕ_discrete}
use mathlib.Core.Path.{◌≡◌, refl, sym, ap, ◌∙◌}
use mathlib.Core.Bool.{Bool, true, false, ◌&&◌}
use mathlib.Core.List.{List, [], ◌∷◌, ◌++◌}
use lib.ListN.{get_or, get_or-eq_default}
use lib.Dec.{eqb}
use borrow.Author.Tests.{eq-eqb, ne_eqb}
use Rattle.lists.specs.Tables.{tabulate}
use Rattle.lists.proofs.Tables.{total_zero}
use Rattle.lists.proofs.Counting.{first_same}
use Rattle.lists.proofs.Tabulated.{length_tabulate, get_tabulate, tabulate_same, tabulate_more}
use Rattle.rules.specs.State.{Marks}
use Rattle.rules.specs.Lines.{waits_for, turn_of, in_line, waiter_at, first_in_line, line_of, with_waiter, lock_handed}
use Rattle.rules.proofs.state.Lines.{waiting, waiting_not, Lines, turn_below, behind_first}
use Rattle.rules.proofs.state.Waiters.{awaits, turn_at, in_line_is, found_stands, stands_found, no_first, asker_awaits, asker_turn, other_awaits, other_turn, waits_on, waits_no_more, moves_up, stands_still, one_more_waits, one_fewer_waits, other_line_asked, other_line_handed}

-- ---- who stands where

module _ (n : ℕ) (m : Marks) (l : ℕ) where
  -- who stands at a place of the line waits with so many before it
  pub in_line_stands : (x h : ℕ) → get_or (line_of n m l) x 0 ≡ suc h → (h < n) × (awaits m h ≡ suc l) × (turn_at m h ≡ x)
  unfolding line_of
  in_line_stands x h e = go (dec_lt x (in_line n m l))
    where
      go : Dec (x < in_line n m l) → (h < n) × (awaits m h ≡ suc l) × (turn_at m h ≡ x)
      go (yes b) = found_stands n m l x h (sym (get_tabulate (in_line n m l) (waiter_at n m l) x 0 b) ∙ e)
      go (no b) =
          let none : get_or (tabulate (in_line n m l) (waiter_at n m l)) x 0 ≡ 0 =
          get_or-eq_default (tabulate (in_line n m l) (waiter_at n m l)) 0 {n = x} (omega (arith, b, length_tabulate (in_line n m l) (waiter_at n m l))) in
          absurd (omega (arith, e, none))

  -- and who waits stands at the place of its turn
  pub stands_in_line : Lines n (awaits m) (turn_at m) → (x k : ℕ) → k < n → awaits m k ≡ suc l → turn_at m k ≡ x → get_or (line_of n m l) x 0 ≡ suc k
  unfolding line_of
  stands_in_line lines x k b w e =
      get_tabulate (in_line n m l) (waiter_at n m l) x 0 (omega (arith, sym e, in_line_is n m l, turn_below n (awaits m) (turn_at m) lines l k b w)) ∙ stands_found n m l lines x k b w e

  -- a line in which nobody waits is empty
  pub no_line : in_line n m l ≡ 0 → line_of n m l ≡ []
  unfolding line_of tabulate
  no_line e = rw e

-- the test of place x for processor j + 1
abbrev stands : Marks → ℕ → ℕ → ℕ → Bool
stands m l x j = eqb (awaits m j) (suc l) && eqb (turn_at m j) x

-- marks by which the same processors stand at the places x and y of a line
same_waiter : (n : ℕ) (m m' : Marks) (l x y : ℕ) → ((j : ℕ) → j < n → stands m' l y j ≡ stands m l x j) → waiter_at n m' l y ≡ waiter_at n m l x
unfolding waiter_at waits_for turn_of
same_waiter n m m' l x y h = first_same n (stands m' l y) (stands m l x) h

and_false : (a b : Bool) → b ≡ false → (a && b) ≡ false
and_false true b e = e
and_false false b e = refl

-- who does not wait for the lock stands nowhere in its line
stands_not : (m : Marks) (l x j : ℕ) → (awaits m j ≡ suc l → ⊥) → stands m l x j ≡ false
stands_not m l x j d = rw (ne_eqb (awaits m j) (suc l) d)

-- ---- asking

module _ (n : ℕ) (m : Marks) (l k : ℕ) (b : k < n) (awake : awaits m k ≡ 0) where
  abbrev asked : Marks
  asked = with_waiter m l (suc k) (in_line n m l)

  -- who stood in a line stands there
  others_stand : (i x j : ℕ) → (j ≡ k → stands asked i x k ≡ false) → stands asked i x j ≡ stands m i x j
  others_stand i x j mine = go (ℕ_discrete j k)
    where
      go : Dec (j ≡ k) → stands asked i x j ≡ stands m i x j
      go (yes e) = rw e (mine e ∙ sym (stands_not m i x k (λ z. omega (arith, z, awake))))
      go (no e) = rw (other_awaits n m l k (in_line n m l) j e, other_turn n m l k (in_line n m l) j e)

  -- "the card waits": at the end of the line
  pub asking_appends_at : Lines n (awaits asked) (turn_at asked) → line_of n asked l ≡ line_of n m l ++ suc k ∷ []
  unfolding line_of
  asking_appends_at lines =
      let more : in_line n asked l ≡ suc (in_line n m l) = omega (arith, one_more_waits n m l k (in_line n m l) b awake) in
      ap (λ (x : ℕ). tabulate x (waiter_at n asked l)) more
      ∙ tabulate_more (in_line n m l) (waiter_at n asked l)
      ∙ ap (λ (q : ℕ). tabulate (in_line n m l) (waiter_at n asked l) ++ q ∷ [])
      (stands_found n asked l lines (in_line n m l) k b (asker_awaits n m l k (in_line n m l)) (asker_turn n m l k (in_line n m l)))
      ∙ ap (λ (t : List ℕ). t ++ suc k ∷ []) (tabulate_same (in_line n m l) (waiter_at n asked l) (waiter_at n m l) (λ x c. same_waiter n m asked l x x (λ j d. others_stand l x j (λ e. later x c))))
    where
      later : (x : ℕ) → x < in_line n m l → stands asked l x k ≡ false
      later x c = and_false (eqb (awaits asked k) (suc l)) (eqb (turn_at asked k) x) (ne_eqb (turn_at asked k) x (λ z. omega (arith, z, c, asker_turn n m l k (in_line n m l))))

  -- the other lines stay
  pub asking_leaves : (i : ℕ) → (i ≡ l → ⊥) → line_of n asked i ≡ line_of n m i
  unfolding line_of
  asking_leaves i d =
      ap (λ (x : ℕ). tabulate x (waiter_at n asked i)) (other_line_asked n m l k (in_line n m l) i b awake d)
      ∙ tabulate_same (in_line n m i) (waiter_at n asked i) (waiter_at n m i)
      (λ x c. same_waiter n m asked i x x (λ j e. others_stand i x j (λ z. stands_not asked i x k (λ y. d (omega (arith, y, asker_awaits n m l k (in_line n m l)))))))

-- ---- handing on

module _ (n : ℕ) (m : Marks) (l : ℕ) (lines : Lines n (awaits m) (turn_at m)) where
  -- the longest waiter leaves the line
  pub handing_takes_first : (h : ℕ) → first_in_line n m l ≡ suc h → line_of n m l ≡ suc h ∷ line_of n (lock_handed n m l) l
  unfolding line_of first_in_line tabulate
  handing_takes_first h e =
      let fewer : in_line n m l ≡ suc (in_line n (lock_handed n m l) l) = omega (arith, one_fewer_waits n m l h e) in
      ap (λ (x : ℕ). tabulate x (waiter_at n m l)) fewer
      ∙ ap (λ (q : ℕ). q ∷ tabulate (in_line n (lock_handed n m l) l) (λ x. waiter_at n m l (suc x))) e
      ∙ ap (λ (t : List ℕ). suc h ∷ t)
      (tabulate_same (in_line n (lock_handed n m l) l) (λ x. waiter_at n m l (suc x)) (waiter_at n (lock_handed n m l) l)
      (λ x c. sym (same_waiter n m (lock_handed n m l) l (suc x) x (λ j d. moved x j d (ℕ_discrete j h) (ℕ_discrete (awaits m j) (suc l))))))
    where
      first : (h < n) × (awaits m h ≡ suc l) × (turn_at m h ≡ 0)
      first = found_stands n m l 0 h e

      moved : (x j : ℕ) → j < n → Dec (j ≡ h) → Dec (awaits m j ≡ suc l) → stands (lock_handed n m l) l x j ≡ stands m l (suc x) j
      moved x j b (yes z) w =
          rw z
          (stands_not (lock_handed n m l) l x h (λ y. omega (arith, y, waits_no_more n m l h e))
          ∙ sym (and_false (eqb (awaits m h) (suc l)) (eqb (turn_at m h) (suc x)) (ne_eqb (turn_at m h) (suc x) (λ y. omega (arith, y, first.2)))))
      moved x j b (no z) (no w) =
          stands_not (lock_handed n m l) l x j (λ y. w (sym (waits_on n m l j (λ u. z (omega (arith, u, e)))) ∙ y)) ∙ sym (stands_not m l (suc x) j w)
      moved x j b (no z) (yes w) = rw (waits_on n m l j (λ u. z (omega (arith, u, e))), moves_up n m l j w) (ap (λ (t : Bool). eqb (awaits m j) (suc l) && t) (turns (ℕ_discrete (turn_at m j) (suc x))))
        where
          behind : 1 ≤ turn_at m j
          behind =
              behind_first n (awaits m) (turn_at m) lines h l (awaits (lock_handed n m l)) (turn_at (lock_handed n m l)) first.0 first.1 first.2 (waits_no_more n m l h e)
              (λ i d. waits_on n m l i (λ u. d (omega (arith, u, e)))) (moves_up n m l) (stands_still n m l) j b z w

          turns : Dec (turn_at m j ≡ suc x) → eqb (turn_at m j - 1) x ≡ eqb (turn_at m j) (suc x)
          turns (yes y) = eq-eqb (turn_at m j - 1) x (omega (arith, y)) ∙ sym (eq-eqb (turn_at m j) (suc x) y)
          turns (no y) = ne_eqb (turn_at m j - 1) x (λ u. y (omega (arith, u, behind))) ∙ sym (ne_eqb (turn_at m j) (suc x) y)

  -- where there is none the line is empty and stays so
  pub nobody_first : first_in_line n m l ≡ 0 → line_of n m l ≡ []
  nobody_first e =
      no_line n m l
      (in_line_is n m l ∙ total_zero n (waiting (awaits m) l) (λ j b. waiting_not (awaits m) l j (no_first n m l lines e j b)))

  -- the other lines stay
  pub handing_leaves : (i : ℕ) → (i ≡ l → ⊥) → line_of n (lock_handed n m l) i ≡ line_of n m i
  unfolding line_of first_in_line
  handing_leaves i d =
      ap (λ (x : ℕ). tabulate x (waiter_at n (lock_handed n m l) i)) (other_line_handed n m l i d)
      ∙ tabulate_same (in_line n m i) (waiter_at n (lock_handed n m l) i) (waiter_at n m i) (λ x c. same_waiter n m (lock_handed n m l) i x x (λ j b. stay x j (ℕ_discrete (awaits m j) (suc i)) (ℕ_discrete (first_in_line n m l) (suc j))))
    where
      stay : (x j : ℕ) → Dec (awaits m j ≡ suc i) → Dec (first_in_line n m l ≡ suc j) → stands (lock_handed n m l) i x j ≡ stands m i x j
      stay x j (yes w) (yes z) = absurd (d (omega (arith, w, (found_stands n m l 0 j z).1)))
      stay x j (yes w) (no z) = rw (waits_on n m l j z, stands_still n m l j (λ y. d (omega (arith, w, y))))
      stay x j (no w) (yes z) = stands_not (lock_handed n m l) i x j (λ y. omega (arith, y, waits_no_more n m l j z)) ∙ sym (stands_not m i x j w)
      stay x j (no w) (no z) = stands_not (lock_handed n m l) i x j (λ y. w (sym (waits_on n m l j z) ∙ y)) ∙ sym (stands_not m i x j w)
