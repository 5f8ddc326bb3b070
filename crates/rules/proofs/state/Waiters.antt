-- The waiters that the marks say, as lines: who stands where, and what asking for a lock and handing it on leave of holders, waiters and turns.
-- Processor k + 1 stands at place k. Rests on Lines. Assumes nothing.
use Prim.Native.Nat.{ℕ, zero, suc, ◌+◌, ◌-◌, ◌<◌}
use native.Mathlib.Omega.{arith}
use native.Mathlib.Decide.{ℕ_discrete}
use mathlib.Core.Path.{◌≡◌, refl, sym, ap, ◌∙◌}
use mathlib.Core.Bool.{Bool, true, false, cond, not, ◌&&◌, and-eq-true_iff, false≢true}
use mathlib.Core.List.{List, [], ◌∷◌}
use lib.ListN.{length, get_or}
use lib.Dec.{eqb}
use borrow.Author.Tests.{eqb-true, eq-eqb, ne_eqb}
use Rattle.lists.specs.Tables.{total}
use Rattle.lists.proofs.Tables.{get_put, total_same, total_change}
use Rattle.lists.proofs.Counting.{first_passes, first_is}
use Rattle.rules.specs.State.{Marks, with_holder}
use Rattle.rules.specs.Lines.{waits, waits_for, turn_of, in_line, waiter_at, first_in_line, with_waiter, lock_asked, moved_up, without_waiter, lock_handed}
use Rattle.rules.proofs.state.Lines.{waiting, waiting_is, waiting_not, Lines, First, line_has_first}

-- the lock that processor k + 1 waits for, plus 1
abbrev pub awaits : Marks → ℕ → ℕ
awaits m k = get_or m.awaited (suc k) 0

-- how many stand before it
abbrev pub turn_at : Marks → ℕ → ℕ
turn_at m k = get_or m.turns (suc k) 0

-- the holder of lock l
abbrev pub holder_in : Marks → ℕ → ℕ
holder_in m l = get_or m.holders l 0

-- ---- who waits

module _ (m : Marks) (k : ℕ) where
  -- who waits for a lock waits
  pub waits_for_says : (l : ℕ) → waits_for m (suc k) l ≡ true → awaits m k ≡ suc l
  unfolding waits_for
  waits_for_says l e = eqb-true (awaits m k) (suc l) e

  pub waits_for_when : (l : ℕ) → awaits m k ≡ suc l → waits_for m (suc k) l ≡ true
  unfolding waits_for
  waits_for_when l e = eq-eqb (awaits m k) (suc l) e

  -- who does not wait has no lock
  pub awake_says : waits m (suc k) ≡ false → awaits m k ≡ 0
  unfolding waits
  awake_says e = go (eqb (awaits m k) 0) refl e
    where
      go : (b : Bool) → eqb (awaits m k) 0 ≡ b → not b ≡ false → awaits m k ≡ 0
      go true d e = eqb-true (awaits m k) 0 d
      go false d e = absurd (false≢true (sym e))

  pub awake_when : awaits m k ≡ 0 → waits m (suc k) ≡ false
  unfolding waits
  awake_when e = rw (eq-eqb (awaits m k) 0 e)

  -- who waits for a lock waits
  pub waiter_waits : (l : ℕ) → awaits m k ≡ suc l → waits m (suc k) ≡ true
  unfolding waits
  waiter_waits l e = rw (ne_eqb (awaits m k) 0 (λ z. omega (arith, z, e)))

-- ---- where they stand

module _ (n : ℕ) (m : Marks) (l : ℕ) where
  -- how many wait
  pub in_line_is : in_line n m l ≡ total n (waiting (awaits m) l)
  unfolding in_line waits_for waiting
  in_line_is = refl

  -- who is found at a place stands there
  pub found_stands : (x h : ℕ) → waiter_at n m l x ≡ suc h → (h < n) × (awaits m h ≡ suc l) × (turn_at m h ≡ x)
  unfolding waiter_at waits_for turn_of
  found_stands x h e =
      let f = first_passes n (λ j. eqb (awaits m j) (suc l) && eqb (turn_at m j) x) h e in
      let both = (and-eq-true_iff (eqb (awaits m h) (suc l)) (eqb (turn_at m h) x)).0 f.1 in
      (f.0, eqb-true (awaits m h) (suc l) both.0, eqb-true (turn_at m h) x both.1)

  module _ (lines : Lines n (awaits m) (turn_at m)) where
    -- who stands at a place is found there
    pub stands_found : (x k : ℕ) → k < n → awaits m k ≡ suc l → turn_at m k ≡ x → waiter_at n m l x ≡ suc k
    unfolding waiter_at waits_for turn_of
    stands_found x k b w e =
        first_is n (λ j. eqb (awaits m j) (suc l) && eqb (turn_at m j) x) k b ((and-eq-true_iff (eqb (awaits m k) (suc l)) (eqb (turn_at m k) x)).1 (eq-eqb _ _ w, eq-eqb _ _ e))
        (λ j c t.
        let both = (and-eq-true_iff (eqb (awaits m j) (suc l)) (eqb (turn_at m j) x)).0 t in
        lines.apart l j k c b (eqb-true (awaits m j) (suc l) both.0) w (eqb-true (turn_at m j) x both.1 ∙ sym e))

    -- where nobody is first nobody waits
    pub no_first : first_in_line n m l ≡ 0 → (k : ℕ) → k < n → awaits m k ≡ suc l → ⊥
    unfolding first_in_line
    no_first z k b w = go (line_has_first n (awaits m) (turn_at m) lines l k b w)
      where
        go : First n (awaits m) (turn_at m) l → ⊥
        go f = omega (arith, z, stands_found 0 f.who f.below f.waits f.first)

-- ---- asking

module _ (m : Marks) (l p x k : ℕ) where
  pub asked_awaits : awaits (with_waiter m l p x) k ≡ cond (eqb (suc k) p) (suc l) (awaits m k)
  unfolding with_waiter
  asked_awaits = get_put 0 m.awaited p (suc k) (suc l)

  pub asked_turn : turn_at (with_waiter m l p x) k ≡ cond (eqb (suc k) p) x (turn_at m k)
  unfolding with_waiter
  asked_turn = get_put 0 m.turns p (suc k) x

module _ (n : ℕ) (m : Marks) (l k x : ℕ) where
  pub asker_awaits : awaits (with_waiter m l (suc k) x) k ≡ suc l
  asker_awaits = asked_awaits m l (suc k) x k ∙ rw (eq-eqb (suc k) (suc k) refl)

  pub asker_turn : turn_at (with_waiter m l (suc k) x) k ≡ x
  asker_turn = asked_turn m l (suc k) x k ∙ rw (eq-eqb (suc k) (suc k) refl)

  pub other_awaits : (j : ℕ) → (j ≡ k → ⊥) → awaits (with_waiter m l (suc k) x) j ≡ awaits m j
  other_awaits j d = asked_awaits m l (suc k) x j ∙ rw (ne_eqb (suc j) (suc k) (λ e. d (omega (arith, e))))

  pub other_turn : (j : ℕ) → (j ≡ k → ⊥) → turn_at (with_waiter m l (suc k) x) j ≡ turn_at m j
  other_turn j d = asked_turn m l (suc k) x j ∙ rw (ne_eqb (suc j) (suc k) (λ e. d (omega (arith, e))))

module _ (n : ℕ) (m : Marks) (l p : ℕ) where
  -- a free lock gets the asker as its holder
  pub asked_holder : (i : ℕ) → holder_in (lock_asked n m l p) i ≡ cond (eqb (holder_in m l) 0 && eqb i l) p (holder_in m i)
  unfolding lock_asked with_holder with_waiter
  asked_holder i = go (eqb (holder_in m l) 0)
    where
      go : (b : Bool) → holder_in (cond b (with_holder m l p) (with_waiter m l p (in_line n m l))) i ≡ cond (b && eqb i l) p (holder_in m i)
      go true = get_put 0 m.holders l i p
      go false = refl

  -- nobody arrives
  pub asked_arrived : (lock_asked n m l p).arrived ≡ m.arrived
  unfolding lock_asked with_holder with_waiter
  asked_arrived = go (eqb (holder_in m l) 0)
    where
      go : (b : Bool) → (cond b (with_holder m l p) (with_waiter m l p (in_line n m l))).arrived ≡ m.arrived
      go true = refl
      go false = refl

  -- and nobody else waits
  pub asked_others : (k : ℕ) → (p ≡ suc k → ⊥) → (awaits (lock_asked n m l p) k ≡ awaits m k) × (turn_at (lock_asked n m l p) k ≡ turn_at m k)
  unfolding lock_asked with_holder
  asked_others k d = go (eqb (holder_in m l) 0)
    where
      go : (b : Bool)
          → (awaits (cond b (with_holder m l p) (with_waiter m l p (in_line n m l))) k ≡ awaits m k) × (turn_at (cond b (with_holder m l p) (with_waiter m l p (in_line n m l))) k ≡ turn_at m k)
      go true = (refl, refl)
      go false =
          (asked_awaits m l p (in_line n m l) k ∙ rw (ne_eqb (suc k) p (λ e. d (sym e))), asked_turn m l p (in_line n m l) k ∙ rw (ne_eqb (suc k) p (λ e. d (sym e))))

-- ---- handing on

-- the turns move up where the lock is waited for
pub moved_up_at : (l : ℕ) (ws ts : List ℕ) (j : ℕ) → get_or (moved_up l ws ts) j 0 ≡ cond (eqb (get_or ws j 0) (suc l)) (get_or ts j 0 - 1) (get_or ts j 0)
unfolding moved_up
moved_up_at l [] ts j = rw (ne_eqb 0 (suc l) (λ e. omega (arith, e)))
moved_up_at l (a ∷ ws) [] j = go (eqb (get_or (a ∷ ws) j 0) (suc l))
  where
    go : (b : Bool) → 0 ≡ cond {A = ℕ} b (0 - 1) 0
    go true = refl
    go false = refl
moved_up_at l (a ∷ ws) (t ∷ ts) zero = refl
moved_up_at l (a ∷ ws) (t ∷ ts) (suc j) = moved_up_at l ws ts j

pub length_moved_up : (l : ℕ) (ws ts : List ℕ) → length (moved_up l ws ts) ≡ length ts
unfolding moved_up
length_moved_up l [] ts = refl
length_moved_up l (a ∷ ws) [] = refl
length_moved_up l (a ∷ ws) (t ∷ ts) = ap suc (length_moved_up l ws ts)

module _ (m : Marks) (l q : ℕ) where
  pub left_awaits : (k : ℕ) → awaits (without_waiter m l q) k ≡ cond (eqb (suc k) q) 0 (awaits m k)
  unfolding without_waiter
  left_awaits k = get_put 0 m.awaited q (suc k) 0

  pub left_turn : (k : ℕ) → turn_at (without_waiter m l q) k ≡ cond (eqb (awaits m k) (suc l)) (turn_at m k - 1) (turn_at m k)
  unfolding without_waiter
  left_turn k = moved_up_at l m.awaited m.turns (suc k)

module _ (n : ℕ) (m : Marks) (l : ℕ) where
  -- the lock has the longest waiter as its holder, or nobody
  pub handed_holder : (i : ℕ) → holder_in (lock_handed n m l) i ≡ cond (eqb i l) (first_in_line n m l) (holder_in m i)
  unfolding lock_handed with_holder without_waiter
  handed_holder i = get_put 0 m.holders l i (first_in_line n m l)

  -- which waits no longer
  pub handed_awaits : (k : ℕ) → awaits (lock_handed n m l) k ≡ cond (eqb (suc k) (first_in_line n m l)) 0 (awaits m k)
  unfolding lock_handed with_holder
  handed_awaits k = left_awaits m l (first_in_line n m l) k

  pub handed_turn : (k : ℕ) → turn_at (lock_handed n m l) k ≡ cond (eqb (awaits m k) (suc l)) (turn_at m k - 1) (turn_at m k)
  unfolding lock_handed with_holder
  handed_turn k = left_turn m l (first_in_line n m l) k

  -- the others wait on
  pub waits_on : (k : ℕ) → (first_in_line n m l ≡ suc k → ⊥) → awaits (lock_handed n m l) k ≡ awaits m k
  waits_on k d = handed_awaits k ∙ rw (ne_eqb (suc k) (first_in_line n m l) (λ e. d (sym e)))

  pub waits_no_more : (k : ℕ) → first_in_line n m l ≡ suc k → awaits (lock_handed n m l) k ≡ 0
  waits_no_more k e = handed_awaits k ∙ rw (eq-eqb (suc k) (first_in_line n m l) (sym e))

  -- those of the line have moved up
  pub moves_up : (k : ℕ) → awaits m k ≡ suc l → turn_at (lock_handed n m l) k ≡ turn_at m k - 1
  moves_up k e = handed_turn k ∙ rw (eq-eqb (awaits m k) (suc l) e)

  -- and the others stand where they stood
  pub stands_still : (k : ℕ) → (awaits m k ≡ suc l → ⊥) → turn_at (lock_handed n m l) k ≡ turn_at m k
  stands_still k e = handed_turn k ∙ rw (ne_eqb (awaits m k) (suc l) e)

  -- nobody arrives
  pub handed_arrived : (lock_handed n m l).arrived ≡ m.arrived
  unfolding lock_handed with_holder without_waiter
  handed_arrived = refl

-- ---- how many wait

module _ (n : ℕ) (m : Marks) (l : ℕ) where
  -- one more with the asker
  pub one_more_waits : (k x : ℕ) → k < n → awaits m k ≡ 0 → in_line n (with_waiter m l (suc k) x) l ≡ in_line n m l + 1
  one_more_waits k x b e =
      let m' : Marks = with_waiter m l (suc k) x in
      omega (
        arith,
        in_line_is n m l,
        in_line_is n m' l,
        waiting_is (awaits m') l k (asker_awaits n m l k x),
        waiting_not (awaits m) l k (λ z. omega (arith, z, e)),
        total_change n (waiting (awaits m') l) (waiting (awaits m) l) k b (λ j d. unfold waiting in rw (other_awaits n m l k x j d)),
      )

  -- one fewer without the first
  pub one_fewer_waits : (h : ℕ) → first_in_line n m l ≡ suc h → in_line n (lock_handed n m l) l + 1 ≡ in_line n m l
  one_fewer_waits h e =
      let m' : Marks = lock_handed n m l in
      let first = found_stands n m l 0 h (unfold first_in_line in e) in
      omega (
        arith,
        in_line_is n m l,
        in_line_is n m' l,
        waiting_is (awaits m) l h first.1,
        waiting_not (awaits m') l h (λ z. omega (arith, z, waits_no_more n m l h e)),
        total_change n (waiting (awaits m') l) (waiting (awaits m) l) h first.0 (λ j d. unfold waiting in rw (waits_on n m l j (λ z. d (omega (arith, z, e))))),
      )

  -- as many where there is no first
  pub nobody_leaves : first_in_line n m l ≡ 0 → (i : ℕ) → in_line n (lock_handed n m l) i ≡ in_line n m i
  nobody_leaves z i =
      in_line_is n (lock_handed n m l) i ∙ total_same n (waiting (awaits (lock_handed n m l)) i) (waiting (awaits m) i) (λ j b. unfold waiting in rw (waits_on n m l j (λ e. omega (arith, e, z))))
      ∙ sym (in_line_is n m i)

  -- in another lock's line nothing changes
  pub other_line_asked : (k x i : ℕ) → k < n → awaits m k ≡ 0 → (i ≡ l → ⊥) → in_line n (with_waiter m l (suc k) x) i ≡ in_line n m i
  other_line_asked k x i b e d =
      in_line_is n (with_waiter m l (suc k) x) i ∙ total_same n (waiting (awaits (with_waiter m l (suc k) x)) i) (waiting (awaits m) i) (λ j c. go j (ℕ_discrete j k)) ∙ sym (in_line_is n m i)
    where
      go : (j : ℕ) → Dec (j ≡ k) → waiting (awaits (with_waiter m l (suc k) x)) i j ≡ waiting (awaits m) i j
      go j (yes z) =
          rw z
          (omega (
            arith,
            waiting_not (awaits (with_waiter m l (suc k) x)) i k (λ w. d (omega (arith, w, asker_awaits n m l k x))),
            waiting_not (awaits m) i k (λ w. omega (arith, w, e)),
          ))
      go j (no z) = unfold waiting in rw (other_awaits n m l k x j z)

  pub other_line_handed : (i : ℕ) → (i ≡ l → ⊥) → in_line n (lock_handed n m l) i ≡ in_line n m i
  other_line_handed i d =
      in_line_is n (lock_handed n m l) i ∙ total_same n (waiting (awaits (lock_handed n m l)) i) (waiting (awaits m) i) (λ j c. go j (ℕ_discrete (first_in_line n m l) (suc j))) ∙ sym (in_line_is n m i)
    where
      go : (j : ℕ) → Dec (first_in_line n m l ≡ suc j) → waiting (awaits (lock_handed n m l)) i j ≡ waiting (awaits m) i j
      go j (yes z) =
          omega (
            arith,
            waiting_not (awaits (lock_handed n m l)) i j (λ w. omega (arith, w, waits_no_more n m l j z)),
            waiting_not (awaits m) i j (λ w. d (omega (arith, w, (found_stands n m l 0 j (unfold first_in_line in z)).1))),
          )
      go j (no z) = unfold waiting in rw (waits_on n m l j z)
