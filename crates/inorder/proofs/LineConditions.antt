-- Lent memory passes the tests on the lines of waiters just when the state that it holds meets the rules' conditions on them. Assumes nothing.
use Prim.Native.Nat.{ℕ, zero, suc, ◌+◌, ◌-◌, ◌≤◌, ◌<◌}
use native.Mathlib.Omega.{arith}
use mathlib.Core.Path.{◌≡◌, sym, ap, ◌∙◌}
use mathlib.Core.Bool.{true, false, not, ◌&&◌, ◌||◌}
use mathlib.Core.List.{List}
use lib.Dec.{eqb}
use borrow.Author.Tests.{ltb-false, eqb-true, not-false, le-ltb, eq-eqb}
use Rattle.lists.specs.Tables.{every}
use Rattle.lists.proofs.Conditions.{and_left, and_right, or_when}
use Rattle.limits.specs.Limits.{lock_limit, processor_limit}
use Rattle.limits.specs.Places.{first_arrived}
use Rattle.limits.specs.inner.Sizes.{first_awaited, first_turn}
use Rattle.rules.specs.InOrder.{present, every_processor, lines_sound}
use Rattle.rules.specs.Lines.{waits, turn_of}
use Rattle.rules.specs.State.{mainframe, holder, has_arrived}
use Rattle.rules.proofs.inorder.Everywhere.{every_processor_holds}
use Rattle.rules.proofs.inorder.Facts.{LinesInOrder, InOrder}
use Rattle.rules.proofs.inorder.InOrderWhen.{lines_when}
use Rattle.rules.proofs.state.Lines.{lines_same}
use Rattle.rules.proofs.state.Waiters.{awaits, awake_says, awake_when}
use Rattle.layout.specs.Areas.{state_in}
use Rattle.layout.specs.inner.Marks.{lock_count, processor_count}
use Rattle.inorder_marks.specs.inner.Tests.{zero_at, awaited_byte, turn_byte, waiter_holds, lines_hold}
use Rattle.inorder.proofs.PlaceFacts.{marks_zero_at, marks_zero_when}
use Rattle.inorder.proofs.PlaceLines.{LinesPass, waiters_say, waiters_when}
use Rattle.inorder.proofs.StateReads.{arrived_mark_read, holder_mark_read, awaited_mark_read, turn_mark_read, present_read}
use Rattle.inorder.proofs.ClocksWhen.{held}

-- ---- lines in order pass

module _ (c w r m : List ℕ) (o : InOrder mainframe (state_in mainframe c w r m)) where
  -- the waiters stand so at their places
  lines_placed : LinesPass m (processor_count m) (lock_count m)
  unfolding state_in mainframe holder has_arrived turn_of zero_at
  lines_placed =
      record {
        lines = lines_same (processor_count m) _ _ o.lines.lines (awaited_byte m) (turn_byte m)
            (λ k b. sym (awaited_mark_read c w r m k (fits k b))) (λ k b. sym (turn_mark_read c w r m k (fits k b)));
        for_present = λ k l b e. o.lines.for_present k l b (waits_for_lem k l b e);
        for_held = λ k l b e z. o.lines.for_held k l b (waits_for_lem k l b e) (holder_mark_read c w r m l (there k l b e) ∙ z);
        by_another = λ k l b e z. o.lines.by_another k l b (waits_for_lem k l b e) (holder_mark_read c w r m l (there k l b e) ∙ z);
        not_arrived = λ k l b e.
            eqb-true _ _ (not-false (zero_at m first_arrived k) (sym (arrived_mark_read c w r m k (fits k b)) ∙ o.lines.not_arrived k l b (waits_for_lem k l b e)));
      }
    where
      fits : (k : ℕ) → k < processor_count m → k < processor_limit
      fits k b = omega (arith, b, o.processors_fit)

      waits_for_lem : (k l : ℕ) → k < processor_count m → awaited_byte m k ≡ suc l → awaits (state_in mainframe c w r m).marks k ≡ suc l
      waits_for_lem k l b e = awaited_mark_read c w r m k (fits k b) ∙ e

      there : (k l : ℕ) → k < processor_count m → awaited_byte m k ≡ suc l → l < lock_limit
      there k l b e = omega (arith, o.lines.for_present k l b (waits_for_lem k l b e), o.locks_fit)

  -- so they pass, and absent processors too
  pub lines_say : lines_hold m (processor_count m) (lock_count m) ≡ true
  unfolding lines_hold mainframe
  lines_say = rw (waiters_when m (processor_count m) (lock_count m) lines_placed, awaited, turns)
    where
      absent : (k : ℕ) → processor_count m ≤ k → present (state_in mainframe c w r m) (suc k) ≡ false
      absent k h = present_read c w r m k ∙ le-ltb k (processor_count m) h

      awaited : every (processor_limit - processor_count m) (zero_at m (first_awaited + processor_count m)) ≡ true
      awaited =
          marks_zero_when m first_awaited processor_limit (processor_count m)
          (λ k h b. sym (awaited_mark_read c w r m k b) ∙ awake_says (state_in mainframe c w r m).marks k (o.absent_awake (suc k) (omega arith) (absent k h)))

      turns : every (processor_limit - processor_count m) (zero_at m (first_turn + processor_count m)) ≡ true
      turns = marks_zero_when m first_turn processor_limit (processor_count m) (λ k h b. sym (turn_mark_read c w r m k b) ∙ o.absent_turn (suc k) (omega arith) (absent k h))

-- ---- lines that pass are in order

module _ (c w r m : List ℕ) (e : lines_hold m (processor_count m) (lock_count m) ≡ true) where
  -- every present processor passes
  waiters_pass : every (processor_count m) (waiter_holds m (processor_count m) (lock_count m)) ≡ true
  unfolding lines_hold
  waiters_pass = and_left _ (every (processor_limit - processor_count m) (zero_at m (first_awaited + processor_count m)) && every (processor_limit - processor_count m) (zero_at m (first_turn + processor_count m))) e

  -- the marks of absent processors are 0
  absent_zeros : (every (processor_limit - processor_count m) (zero_at m (first_awaited + processor_count m)) && every (processor_limit - processor_count m) (zero_at m (first_turn + processor_count m))) ≡ true
  unfolding lines_hold
  absent_zeros = and_right (every (processor_count m) (waiter_holds m (processor_count m) (lock_count m))) _ e

  -- absent processors do not wait
  pub absent_awake : every_processor mainframe (λ (p : ℕ). present (held c w r m) p || not (waits (held c w r m).marks p)) ≡ true
  unfolding mainframe
  absent_awake = every_processor_holds mainframe _ (λ p k l. or_when (present (held c w r m) p) _ (λ a. ap not (absent p k l a)))
    where
      absent : (p : ℕ) → 1 ≤ p → p ≤ processor_limit → present (held c w r m) p ≡ false → waits (held c w r m).marks p ≡ false
      absent zero k l a = absurd (omega arith)
      absent (suc p) k l a =
          awake_when (held c w r m).marks p
          (awaited_mark_read c w r m p l
          ∙ marks_zero_at m first_awaited processor_limit (processor_count m) p (and_left _ (every (processor_limit - processor_count m) (zero_at m (first_turn + processor_count m))) absent_zeros) (ltb-false p (processor_count m) (sym (present_read c w r m p) ∙ a)) l)

  -- and have no turn
  pub absent_turn : every_processor mainframe (λ (p : ℕ). present (held c w r m) p || eqb (turn_of (held c w r m).marks p) 0) ≡ true
  unfolding mainframe
  absent_turn = every_processor_holds mainframe _ (λ p k l. or_when (present (held c w r m) p) _ (λ a. eq-eqb _ _ (absent p k l a)))
    where
      absent : (p : ℕ) → 1 ≤ p → p ≤ processor_limit → present (held c w r m) p ≡ false → turn_of (held c w r m).marks p ≡ 0
      absent zero k l a = absurd (omega arith)
      absent (suc p) k l a =
          turn_mark_read c w r m p l
          ∙ marks_zero_at m first_turn processor_limit (processor_count m) p (and_right (every (processor_limit - processor_count m) (zero_at m (first_awaited + processor_count m))) _ absent_zeros) (ltb-false p (processor_count m) (sym (present_read c w r m p) ∙ a)) l

  module _ (fit : processor_count m ≤ processor_limit) (locks_fit : lock_count m ≤ lock_limit) where
    -- the waiters of the state that the memory holds stand as at their places
    lines_held : LinesInOrder (held c w r m).counts (held c w r m).marks
    unfolding state_in mainframe holder has_arrived turn_of zero_at
    lines_held = go (waiters_say m (processor_count m) (lock_count m) waiters_pass)
      where
        fits : (k : ℕ) → k < processor_count m → k < processor_limit
        fits k b = omega (arith, b, fit)

        waits_for_lem : (k l : ℕ) → k < processor_count m → awaits (held c w r m).marks k ≡ suc l → awaited_byte m k ≡ suc l
        waits_for_lem k l b x = sym (awaited_mark_read c w r m k (fits k b)) ∙ x

        go : LinesPass m (processor_count m) (lock_count m) → LinesInOrder (held c w r m).counts (held c w r m).marks
        go o =
            let there : (k l : ℕ) → k < processor_count m → awaits (held c w r m).marks k ≡ suc l → l < lock_limit = λ k l b x. omega (arith, o.for_present k l b (waits_for_lem k l b x), locks_fit) in
            record {
              lines = lines_same (processor_count m) _ _ o.lines _ _ (λ k b. awaited_mark_read c w r m k (fits k b)) (λ k b. turn_mark_read c w r m k (fits k b));
              for_present = λ k l b x. o.for_present k l b (waits_for_lem k l b x);
              for_held = λ k l b x z. o.for_held k l b (waits_for_lem k l b x) (sym (holder_mark_read c w r m l (there k l b x)) ∙ z);
              by_another = λ k l b x z. o.by_another k l b (waits_for_lem k l b x) (sym (holder_mark_read c w r m l (there k l b x)) ∙ z);
              not_arrived = λ k l b x. arrived_mark_read c w r m k (fits k b) ∙ ap not (eq-eqb _ _ (o.not_arrived k l b (waits_for_lem k l b x)));
            }

    -- the rules' condition on lines
    pub lines_sound_when : lines_sound (held c w r m) ≡ true
    lines_sound_when = lines_when (held c w r m) lines_held
