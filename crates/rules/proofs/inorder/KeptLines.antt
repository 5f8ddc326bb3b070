-- The lines of waiters stay in order when a free lock is taken, when a processor asks for a held one, when a lock is handed on, and when an arrived
-- mark is set or all are cleared. Rests on Waiters and KeptParts. Assumes nothing.
use Prim.Native.Nat.{ℕ, zero, suc, ◌<◌}
use native.Mathlib.Omega.{arith}
use native.Mathlib.Decide.{ℕ_discrete}
use mathlib.Core.Path.{◌≡◌, refl, sym, ap, ◌∙◌}
use mathlib.Core.Bool.{false, not}
use mathlib.Core.List.{List, map}
use lib.ListN.{get_or}
use lib.Dec.{eqb}
use borrow.Author.Tests.{eq-eqb, ne_eqb}
use Rattle.lists.specs.Tables.{put}
use Rattle.lists.proofs.Tables.{get_put_other, get_map}
use Rattle.rules.specs.State.{Counts, Marks, with_arrived, with_wanted, with_queue, with_holder}
use Rattle.rules.specs.Lines.{in_line, first_in_line, with_waiter, without_waiter, lock_handed}
use Rattle.rules.proofs.state.Lines.{Lines, lines_same, asked_lines, handed_lines}
use Rattle.rules.proofs.state.Waiters.{awaits, turn_at, holder_in, in_line_is, found_stands, no_first, asker_awaits, asker_turn, other_awaits, other_turn, handed_holder, waits_on, waits_no_more, moves_up, stands_still}
use Rattle.rules.proofs.inorder.Facts.{LinesInOrder}

module _ (n : Counts) (m : Marks) (f : LinesInOrder n m) where
  -- ---- a free lock is taken: nobody waits for it

  pub taken_lines : (l p : ℕ) → holder_in m l ≡ 0 → LinesInOrder n (with_holder m l p)
  unfolding with_holder
  taken_lines l p free =
      record {
        lines = f.lines;
        for_present = f.for_present;
        for_held = λ k i b e. subst_holder k i b e (λ h. h ≡ 0 → ⊥) (f.for_held k i b e);
        by_another = λ k i b e. subst_holder k i b e (λ h. h ≡ suc k → ⊥) (f.by_another k i b e);
        not_arrived = f.not_arrived;
      }
    where
      -- a waiter's lock is held, so it is another one
      subst_holder : (k i : ℕ) → k < n.processors → awaits m k ≡ suc i → (P : ℕ → Type 0) → P (holder_in m i) → P (get_or (put 0 m.holders l p) i 0)
      subst_holder k i b e P h = rw (get_put_other 0 m.holders l i p (λ d. f.for_held k i b e (ap (holder_in m) d ∙ free))) h

  -- ---- processor k + 1 asks for a lock that another holds

  pub waiter_lines : (l k : ℕ) → k < n.processors → l < n.locks → awaits m k ≡ 0 → not (eqb (get_or m.arrived (suc k) 0) 0) ≡ false
      → (holder_in m l ≡ 0 → ⊥) → (holder_in m l ≡ suc k → ⊥) → LinesInOrder n (with_waiter m l (suc k) (in_line n.processors m l))
  waiter_lines l k here there awake missing held another =
      record {
        lines =
            asked_lines n.processors (awaits m) (turn_at m) f.lines k l (awaits m') (turn_at m') here awake (asker_awaits n.processors m l k x)
            (asker_turn n.processors m l k x ∙ in_line_is n.processors m l) (other_awaits n.processors m l k x) (other_turn n.processors m l k x);
        for_present = λ j i b e. by j i e (ℕ_discrete j k) (λ i. i < n.locks) there (f.for_present j i b);
        for_held = λ j i b e. unfold with_waiter in by j i e (ℕ_discrete j k) (λ i. holder_in m i ≡ 0 → ⊥) held (f.for_held j i b);
        by_another = λ j i b e. unfold with_waiter in mine j i b e (ℕ_discrete j k);
        not_arrived = λ j i b e. unfold with_waiter in there_too j i b e (ℕ_discrete j k);
      }
    where
      x : ℕ
      x = in_line n.processors m l

      m' : Marks
      m' = with_waiter m l (suc k) x

      -- who waits is the asker, or waited before
      by : (j i : ℕ) → awaits m' j ≡ suc i → Dec (j ≡ k) → (P : ℕ → Type 0) → P l → (awaits m j ≡ suc i → P i) → P i
      by j i e (yes d) P new old = let same : l ≡ i = omega (arith, sym (ap (awaits m') d), e, asker_awaits n.processors m l k x) in rw (← same) new
      by j i e (no d) P new old = old (sym (other_awaits n.processors m l k x j d) ∙ e)

      mine : (j i : ℕ) → j < n.processors → awaits m' j ≡ suc i → Dec (j ≡ k) → holder_in m i ≡ suc j → ⊥
      mine j i b e (yes d) z =
          let same : l ≡ i = omega (arith, sym (ap (awaits m') d), e, asker_awaits n.processors m l k x) in
          another (ap (holder_in m) same ∙ z ∙ ap suc d)
      mine j i b e (no d) z = f.by_another j i b (sym (other_awaits n.processors m l k x j d) ∙ e) z

      there_too : (j i : ℕ) → j < n.processors → awaits m' j ≡ suc i → Dec (j ≡ k) → not (eqb (get_or m.arrived (suc j) 0) 0) ≡ false
      there_too j i b e (yes d) = rw d missing
      there_too j i b e (no d) = f.not_arrived j i b (sym (other_awaits n.processors m l k x j d) ∙ e)

  -- ---- a lock is handed on to the first of its line, or to nobody

  module _ (l : ℕ) where
    q : ℕ
    q = first_in_line n.processors m l

    m' : Marks
    m' = lock_handed n.processors m l

    -- who waits afterwards waited before and is not the first
    waited : (k i : ℕ) → awaits m' k ≡ suc i → (awaits m k ≡ suc i) × (q ≡ suc k → ⊥)
    unfolding m' q
    waited k i e = go (ℕ_discrete (suc k) q)
      where
        go : Dec (suc k ≡ q) → (awaits m k ≡ suc i) × (q ≡ suc k → ⊥)
        go (yes d) = absurd (omega (arith, e, waits_no_more n.processors m l k (sym d)))
        go (no d) = (sym (waits_on n.processors m l k (λ z. d (sym z))) ∙ e, λ z. d (sym z))

    still_lines : (x : ℕ) → q ≡ x → Lines n.processors (awaits m') (turn_at m')
    unfolding m' q
    still_lines zero e =
        lines_same n.processors (awaits m) (turn_at m) f.lines (awaits m') (turn_at m')
        (λ j b. waits_on n.processors m l j (λ z. omega (arith, z, e)))
        (λ j b. stands_still n.processors m l j (no_first n.processors m l f.lines e j b))
    still_lines (suc h) e =
        let first = found_stands n.processors m l 0 h (unfold first_in_line in e) in
        handed_lines n.processors (awaits m) (turn_at m) f.lines h l (awaits m') (turn_at m') first.0 first.1 first.2
        (waits_no_more n.processors m l h e) (λ j d. waits_on n.processors m l j (λ z. d (omega (arith, z, e)))) (moves_up n.processors m l) (stands_still n.processors m l)

    pub handed_in_order : LinesInOrder n (lock_handed n.processors m l)
    unfolding m' q
    handed_in_order =
        record {
          lines = still_lines q refl;
          for_present = λ k i b e. f.for_present k i b (waited k i e).0;
          for_held = λ k i b e. held k i b (waited k i e).0 (ℕ_discrete i l);
          by_another = λ k i b e. another k i b (waited k i e).0 (waited k i e).1 (ℕ_discrete i l);
          not_arrived = λ k i b e. unfold lock_handed with_holder without_waiter in f.not_arrived k i b (waited k i e).0;
        }
      where
        held : (k i : ℕ) → k < n.processors → awaits m k ≡ suc i → Dec (i ≡ l) → holder_in (lock_handed n.processors m l) i ≡ 0 → ⊥
        held k i b e (yes d) z =
            no_first n.processors m l f.lines (sym (handed_holder n.processors m l i ∙ rw (eq-eqb i l d)) ∙ z) k b (e ∙ ap suc d)
        held k i b e (no d) z = f.for_held k i b e (sym (handed_holder n.processors m l i ∙ rw (ne_eqb i l d)) ∙ z)

        another : (k i : ℕ) → k < n.processors → awaits m k ≡ suc i → (first_in_line n.processors m l ≡ suc k → ⊥) → Dec (i ≡ l) → holder_in (lock_handed n.processors m l) i ≡ suc k → ⊥
        another k i b e other (yes d) z = other (sym (handed_holder n.processors m l i ∙ rw (eq-eqb i l d)) ∙ z)
        another k i b e other (no d) z = f.by_another k i b e (sym (handed_holder n.processors m l i ∙ rw (ne_eqb i l d)) ∙ z)

  -- ---- arrived marks

  -- a processor that does not wait arrives
  pub arrived_lines : (p : ℕ) → ((k l : ℕ) → k < n.processors → awaits m k ≡ suc l → p ≡ suc k → ⊥) → LinesInOrder n (with_arrived m (put 0 m.arrived p 1))
  arrived_lines p awake =
      record {
        lines = f.lines;
        for_present = f.for_present;
        for_held = f.for_held;
        by_another = f.by_another;
        not_arrived = λ k l b e.
            ap (λ (x : ℕ). not (eqb x 0)) (get_put_other 0 m.arrived p (suc k) 1 (λ d. awake k l b e (sym d))) ∙ f.not_arrived k l b e;
      }

  -- all marks clear
  pub cleared_lines : (marks : List ℕ) → LinesInOrder n (with_arrived m (map (λ mark. 0) marks))
  cleared_lines marks =
      record {
        lines = f.lines;
        for_present = f.for_present;
        for_held = f.for_held;
        by_another = f.by_another;
        not_arrived = λ k l b e. ap (λ (x : ℕ). not (eqb x 0)) (get_map (λ (mark : ℕ). 0) 0 marks (suc k));
      }

  -- the wish is in no condition
  pub queue_lines : (g j : ℕ) → LinesInOrder n (with_queue m g j)
  queue_lines g j = record { lines = f.lines; for_present = f.for_present; for_held = f.for_held; by_another = f.by_another; not_arrived = f.not_arrived }

  pub wanted_lines : (w : ℕ) → LinesInOrder n (with_wanted m w)
  wanted_lines w = record { lines = f.lines; for_present = f.for_present; for_held = f.for_held; by_another = f.by_another; not_arrived = f.not_arrived }
