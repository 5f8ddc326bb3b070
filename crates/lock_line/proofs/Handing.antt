-- A lock is asked for and handed on: what this leaves of holders and lines, one law for each way of the code, and `line_laws`, by which the
-- crate's proofs search. Rests on Standing and Moving. Assumes nothing.
use Prim.Native.Nat.{ℕ, zero, suc, ◌+◌, ◌≤◌, ◌<◌}
use native.Mathlib.Numerals.{add-one}
use native.Mathlib.Omega.{arith}
use mathlib.Core.Path.{◌≡◌, sym, ap, ◌∙◌}
use mathlib.Core.Bool.{true, false}
use mathlib.Core.List.{List}
use lib.ListN.{length, get_or, set, length-set}
use lib.Seq.{ext_get_or}
use lib.Dec.{eqb}
use borrow.Author.Tests.{eq-eqb, ne_eqb}
use borrow.Author.Rules.{rules}
use Rattle.limits.specs.Limits.{lock_limit, processor_limit}
use Rattle.limits.specs.inner.Sizes.{mark_area}
use Rattle.lists.specs.Tables.{put}
use Rattle.lists.proofs.Tabulated.{get_tabulate, length_tabulate}
use Rattle.rules.specs.State.{mainframe, State, Marks, with_holder, with_lines, with_marks}
use Rattle.rules.specs.Lines.{in_line, first_in_line, with_waiter, lock_asked, moved_up, without_waiter, lock_handed}
use Rattle.rules.proofs.state.Waiters.{moved_up_at, length_moved_up}
use Rattle.layout.specs.Areas.{holder_place, awaited_place, turn_place, marks_in, state_in}
use Rattle.layout.specs.inner.Marks.{processor_count, holder_mark, awaited_mark, turn_mark}
use Rattle.layout.specs.inner.Needed.{MarksOf, LockMark}
use Rattle.layout.proofs.MarkLaws.{holder_read, holder_written, awaited_written, turn_written}
use Rattle.lock_line.specs.inner.Needed.{LineThere, InLine, Hands}
use Rattle.lock_line.specs.inner.Effects.{MarksBecome}
use Rattle.lock_line.proofs.Standing.{marks_in_line, waits_is, turn_decides, next_in_line, counted_none, counted_fits, counted_more, counted_whole, few_counted, none_first_yet, first_found, first_has_marks, none_first_more, nobody_found}
use Rattle.lock_line.proofs.Moving.{turn_ends, turn_less, turn_stays, turn_moved, moving_begins, moving_in_line, moving_more, moving_whole, leaving_in_line, line_left_lem}

-- ---- the lock has a holder

pub line_of_waiter : (m : List ℕ) (l p : ℕ) → InLine m l p → LineThere m l
line_of_waiter m l p h = h.line

pub lock_of_line : (m : List ℕ) (l : ℕ) → LineThere m l → LockMark m l
lock_of_line m l h = record { marks = h.marks; lock = h.lock }

holder_is : (m : List ℕ) (l : ℕ) → LineThere m l → get_or (marks_in mainframe m).holders l 0 ≡ holder_mark m l
unfolding state_in
holder_is m l h = holder_read m m m m l h.lock

-- ---- a processor asks

module _ (m : List ℕ) (l p x : ℕ) (h : InLine m l p) (e : x ≡ holder_mark m l) where
  -- the lock is free
  pub free_asked : x ≡ 0 → true ≡ eqb (holder_mark m l) 0
  free_asked z = sym (eq-eqb (holder_mark m l) 0 (sym e ∙ z))

  -- the asker holds it
  pub asker_holds : (m' : List ℕ) → x ≡ 0 → m' ≡ set m (holder_place mainframe l) p → MarksBecome m m' (lock_asked (processor_count m) (marks_in mainframe m) l p)
  unfolding lock_asked state_in
  asker_holds m' z s =
      rw (s, eq-eqb (get_or (marks_in mainframe m).holders l 0) 0 (holder_is m l h.line ∙ sym e ∙ z))
      (record { long = length-set m (holder_place mainframe l) p ∙ h.line.marks; is = λ c w r. holder_written c w r m p h.line.marks l h.line.lock })

  -- the lock is held
  pub held_asked : (x ≡ 0 → ⊥) → false ≡ eqb (holder_mark m l) 0
  held_asked z = sym (ne_eqb (holder_mark m l) 0 (λ y. z (e ∙ y)))

  module _ (k : ℕ) (at : k ≡ in_line (processor_count m) (marks_in mainframe m) l) where
    -- it stands behind those who wait
    pub asker_waits : (m₁ m₂ : List ℕ) → (x ≡ 0 → ⊥) → m₁ ≡ set m (awaited_place mainframe p) (l + 1) → m₂ ≡ set m₁ (turn_place mainframe p) k
        → MarksBecome m m₂ (lock_asked (processor_count m) (marks_in mainframe m) l p)
    unfolding lock_asked with_waiter state_in
    asker_waits m₁ m₂ z s t =
        rw (t, ne_eqb (get_or (marks_in mainframe m).holders l 0) 0 (λ y. z (e ∙ sym (holder_is m l h.line) ∙ y)), ← at)
        (record {
          long = length-set m₁ (turn_place mainframe p) k ∙ long;
          is =
              λ c w r. turn_written c w r m₁ k long p h.from h.to
              ∙ ap (λ (s : State). with_marks s (with_lines s.marks s.marks.awaited (put 0 s.marks.turns p k)))
              (ap (λ (n : List ℕ). state_in mainframe c w r n) s ∙ awaited_written c w r m (l + 1) h.line.marks p h.from h.to
              ∙ ap (λ (j : ℕ). let s = state_in mainframe c w r m in with_marks s (with_lines s.marks (put 0 s.marks.awaited p j) s.marks.turns)) (add-one l));
        })
      where
        long : length m₁ ≡ mark_area
        long = ap length s ∙ length-set m (awaited_place mainframe p) (l + 1) ∙ h.line.marks

pub asker_marked : (m m₁ : List ℕ) (l p v : ℕ) → InLine m l p → m₁ ≡ set m (awaited_place mainframe p) v → MarksOf m₁ p
asker_marked m m₁ l p v h s = record { marks = ap length s ∙ length-set m (awaited_place mainframe p) v ∙ h.line.marks; from = h.from; to = h.to }

pub lock_number : (m : List ℕ) (l p : ℕ) → InLine m l p → l + 1 ≤ lock_limit
lock_number m l p h = omega (arith, h.line.lock)

-- ---- a lock is handed on

module _ (m : List ℕ) (l q : ℕ) (h : Hands m l) (e : q ≡ first_in_line (processor_count m) (marks_in mainframe m) l) (few : q ≤ processor_limit) where
  -- where nobody waits the lock has no holder, and the lines stay
  pub nobody_holds : (m₁ m₂ : List ℕ) → q ≡ 0 → m₁ ≡ m → m₂ ≡ set m₁ (holder_place mainframe l) q → MarksBecome m m₂ (lock_handed (processor_count m) (marks_in mainframe m) l)
  unfolding lock_handed without_waiter marks_in state_in mainframe put
  nobody_holds m₁ m₂ z same s =
      rw (s, same, ← e, z)
      (record {
        long = length-set m (holder_place mainframe l) 0 ∙ h.line.marks;
        is =
            λ c w r. holder_written c w r m 0 h.line.marks l h.line.lock
            ∙ (λ i. let s = state_in mainframe c w r m in with_marks s (with_holder (with_lines s.marks s.marks.awaited (stays i)) l 0));
      })
    where
      was : Marks
      was = marks_in mainframe m

      nobody : (j : ℕ) → get_or was.awaited j 0 ≡ suc l → j < suc processor_limit → ⊥
      nobody zero w b = omega (arith, w)
      nobody (suc j) w b = h.nobody (sym e ∙ z) j (omega (arith, b)) (sym (get_tabulate processor_limit (λ i. awaited_mark m (suc i)) j 0 (omega (arith, b))) ∙ w)

      stays : was.turns ≡ moved_up l was.awaited was.turns
      stays =
          ext_get_or 0 was.turns (moved_up l was.awaited was.turns) (sym (length_moved_up l was.awaited was.turns))
          (λ j b. sym (moved_up_at l was.awaited was.turns j
          ∙ rw (ne_eqb (get_or was.awaited j 0) (suc l) (λ w. nobody j w (omega (arith, b, length_tabulate processor_limit (λ i. turn_mark m (suc i))))))))

  module _ (some : q ≡ 0 → ⊥) where
    -- the first stands in the line
    pub first_in_it : InLine m l q
    first_in_it = record { line = h.line; from = omega (arith, some); to = few }

    -- it leaves the line and holds the lock
    pub first_holds : (m₀ m₁ m₂ : List ℕ) → MarksBecome m m₀ (without_waiter (marks_in mainframe m) l q) → m₁ ≡ m₀ → m₂ ≡ set m₁ (holder_place mainframe l) q
        → MarksBecome m m₂ (lock_handed (processor_count m) (marks_in mainframe m) l)
    unfolding lock_handed state_in
    first_holds m₀ m₁ m₂ left same s =
        rw (s, same, ← e)
        (record {
          long = length-set m₀ (holder_place mainframe l) q ∙ left.long;
          is = λ c w r. holder_written c w r m₀ q left.long l h.line.lock ∙ ap (λ (s : State). with_marks s (with_holder s.marks l q)) (left.is c w r);
        })

pub ruleset line_laws = (marks_in_line, waits_is, turn_decides, next_in_line, counted_none, counted_fits, counted_more, counted_whole, few_counted, none_first_yet, first_found, first_has_marks, none_first_more, nobody_found, turn_ends, turn_less, turn_stays, turn_moved, moving_begins, moving_in_line, moving_more, moving_whole, leaving_in_line, line_left_lem, line_of_waiter, lock_of_line, free_asked, asker_holds, held_asked, asker_waits, asker_marked, lock_number, nobody_holds, first_in_it, first_holds, rules)
