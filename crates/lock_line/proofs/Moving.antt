-- The waiters of a lock move up, and the first leaves the line: what this leaves of the marks, one law for each way of the code. Rests on
-- Standing. Assumes nothing.
use Prim.Native.Nat.{ℕ, zero, suc, ◌+◌, ◌-◌, ◌≤◌, ◌<◌}
use native.Mathlib.Numerals.{add-one}
use native.Mathlib.Omega.{arith}
use native.Mathlib.Decide.{ℕ_discrete}
use mathlib.Core.Path.{◌≡◌, refl, sym, ap, ◌∙◌}
use mathlib.Core.Bool.{Bool, true, false, cond}
use mathlib.Core.List.{List}
use lib.ListN.{length, get_or, set, length-set}
use lib.Seq.{get_or-set_other, get_or-set_same, ext_get_or}
use lib.Dec.{eqb}
use borrow.Author.Tests.{ne_eqb}
use Rattle.limits.specs.Limits.{processor_limit}
use Rattle.limits.specs.inner.Sizes.{first_turn, mark_area, queue_first}
use Rattle.lists.specs.Tables.{put, tabulate}
use Rattle.lists.proofs.Tabulated.{length_tabulate, get_tabulate}
use Rattle.rules.specs.State.{mainframe, State, Marks, with_lines, with_marks}
use Rattle.rules.specs.Lines.{waits_for, moved_up, without_waiter}
use Rattle.rules.proofs.state.Waiters.{moved_up_at, length_moved_up}
use Rattle.layout.specs.Areas.{marks_in, awaited_place, turn_place, state_in}
use Rattle.layout.specs.inner.Marks.{awaited_mark, turn_mark}
use Rattle.layout.specs.inner.Needed.{MarksOf}
use Rattle.layout.proofs.MarksKept.{Agree, holders_kept, arrived_kept, wanted_kept, awaited_kept, first_kept, jobs_kept, marks_alone}
use Rattle.layout.proofs.MarkLaws.{awaited_written}
use Rattle.lock_line.specs.inner.Needed.{LineThere, InLine}
use Rattle.lock_line.specs.inner.Effects.{MarksBecome, turn_after, line_moved_up}
use Rattle.lock_line.proofs.Standing.{awaited_is}

-- ---- one turn

module _ (m : List ℕ) (l p t : ℕ) (e : (t ≡ turn_mark m p) × (t < 256)) where
  -- from 0 on there is nothing to move
  pub turn_ends : t ≡ 0 → 0 ≡ turn_after m l p
  turn_ends z = go (eqb (awaited_mark m p) (suc l))
    where
      go : (b : Bool) → 0 ≡ cond b (turn_mark m p - 1) (turn_mark m p)
      go true = omega (arith, z, e.0)
      go false = omega (arith, z, e.0)

  module _ (h : InLine m l p) (b : Bool) (w : b ≡ waits_for (marks_in mainframe m) p l) where
    waits : b ≡ eqb (awaited_mark m p) (suc l)
    unfolding waits_for
    waits = w ∙ ap (λ (x : ℕ). eqb x (suc l)) (awaited_is m l p h)

    -- a waiter of the lock moves up by one
    pub turn_less : b ≡ true → t - 1 ≡ turn_after m l p
    turn_less y = rw (← waits, y, ← e.0)

    -- the others stay
    pub turn_stays : b ≡ false → t ≡ turn_after m l p
    turn_stays y = rw (← waits, y, ← e.0)

-- it is stored
pub turn_moved : (m m' : List ℕ) (l p t : ℕ) → t ≡ turn_after m l p → m' ≡ set m (turn_place mainframe p) t → m' ≡ set m (turn_place mainframe p) (turn_after m l p)
turn_moved m m' l p t e s = s ∙ ap (λ (x : ℕ). set m (turn_place mainframe p) x) e

-- ---- all of them

-- the turns of the first k processors have moved up, and nothing else is changed
pub record Moving (m₀ m : List ℕ) (l k : ℕ) : Type 0 where
  pub there : LineThere m₀ l
  pub long : length m ≡ mark_area
  pub upto : k ≤ processor_limit
  pub rest : Agree m m₀ 0 first_turn
  pub queue : Agree m m₀ queue_first mark_area
  pub done : (j : ℕ) → j < k → turn_mark m (suc j) ≡ turn_after m₀ l (suc j)
  pub still : (j : ℕ) → k ≤ j → j < processor_limit → turn_mark m (suc j) ≡ turn_mark m₀ (suc j)

-- none has moved up yet
pub moving_begins : (m : List ℕ) (l : ℕ) → LineThere m l → Moving m m l 0
moving_begins m l h =
    record { there = h; long = h.marks; upto = omega arith; rest = λ j a b. refl; queue = λ j a b. refl; done = λ j b. absurd (omega (arith, b)); still = λ j a b. refl }

module _ (m₀ m : List ℕ) (l k : ℕ) (h : Moving m₀ m l k) where
  -- the next one has marks
  pub moving_in_line : k < processor_limit → InLine m l (k + 1)
  moving_in_line b =
      record {
        line = record { marks = h.long; processors = rw (h.rest 0 (omega arith) (omega arith)) h.there.processors; lock = h.there.lock };
        from = omega arith;
        to = omega arith;
      }

  -- it gets its turn
  pub moving_more : (m' : List ℕ) → m' ≡ set m (turn_place mainframe (k + 1)) (turn_after m l (k + 1)) → k < processor_limit → Moving m₀ m' l (k + 1)
  unfolding turn_place awaited_place mainframe
  moving_more m' is b =
      rw is
      (record {
        there = h.there;
        long = length-set m at t ∙ h.long;
        upto = omega arith;
        rest = λ j a c. get_or-set_other m at j t 0 (λ z. omega (arith, z, c)) ∙ h.rest j a c;
        queue = λ j a c. get_or-set_other m at j t 0 (λ z. omega (arith, z, a, b)) ∙ h.queue j a c;
        done = λ j c. now j c (ℕ_discrete j k);
        still = λ j a c. get_or-set_other m at (turn_place mainframe (suc j)) t 0 (λ z. omega (arith, z, a)) ∙ h.still j (omega (arith, a)) c;
      })
    where
      at : ℕ
      at = turn_place mainframe (k + 1)

      t : ℕ
      t = turn_after m l (k + 1)

      value : t ≡ turn_after m₀ l (suc k)
      value = ap (λ (j : ℕ). turn_after m l j) (add-one k) ∙ rw (h.rest (awaited_place mainframe (suc k)) (omega arith) (omega arith), h.still k (omega arith) b)

      now : (j : ℕ) → j < k + 1 → Dec (j ≡ k) → turn_mark (set m at t) (suc j) ≡ turn_after m₀ l (suc j)
      now j c (yes z) = rw z (ap (λ (i : ℕ). get_or (set m at t) i 0) (ap (turn_place mainframe) (sym (add-one k))) ∙ get_or-set_same m at t 0 (omega (arith, h.long)) ∙ value)
      now j c (no z) = get_or-set_other m at (turn_place mainframe (suc j)) t 0 (λ y. omega (arith, y, z)) ∙ h.done j (omega (arith, c, z))

  -- all have moved up
  pub moving_whole : processor_limit ≤ k → MarksBecome m₀ m (line_moved_up (marks_in mainframe m₀) l)
  unfolding line_moved_up marks_in mainframe
  moving_whole b =
      record {
        long = h.long;
        is =
            λ c w r. marks_alone m m₀ c w r (λ j x y. h.rest j x (omega (arith, y))) (λ j x y. h.rest j (omega arith) (omega (arith, y)))
            ∙ (λ i. with_marks (state_in mainframe c w r m₀)
            (record {
              holders = holders_kept m m₀ (λ j x y. h.rest j (omega arith) (omega (arith, y))) i;
              arrived = arrived_kept m m₀ (λ j x y. h.rest j (omega arith) (omega (arith, y))) i;
              wanted = wanted_kept m m₀ (λ j x y. h.rest j (omega arith) (omega (arith, y))) i;
              awaited = awaited_kept m m₀ (λ j x y. h.rest j (omega arith) (omega (arith, y))) i;
              turns = turns i;
              first = first_kept m m₀ (λ j x y. h.queue j x (omega (arith, y))) i;
              jobs = jobs_kept m m₀ (λ j x y. h.queue j (omega (arith, x)) y) i;
            }));
      }
    where
      was : Marks
      was = marks_in mainframe m₀

      long : length (marks_in mainframe m).turns ≡ length (moved_up l was.awaited was.turns)
      long =
          omega (
            arith,
            length_moved_up l was.awaited was.turns,
            length_tabulate processor_limit (λ j. turn_mark m (suc j)),
            length_tabulate processor_limit (λ j. turn_mark m₀ (suc j)),
          )

      at : (j : ℕ) → j < processor_limit → get_or (tabulate processor_limit (λ i. turn_mark m (suc i))) j 0 ≡ get_or (moved_up l was.awaited was.turns) (suc j) 0
      at j c =
          get_tabulate processor_limit (λ i. turn_mark m (suc i)) j 0 c ∙ h.done j (omega (arith, b, c))
          ∙ sym (moved_up_at l was.awaited was.turns (suc j)
          ∙ rw (get_tabulate processor_limit (λ i. awaited_mark m₀ (suc i)) j 0 c, get_tabulate processor_limit (λ i. turn_mark m₀ (suc i)) j 0 c))

      nobody : 0 ≡ get_or (moved_up l was.awaited was.turns) 0 0
      nobody = sym (moved_up_at l was.awaited was.turns 0 ∙ rw (ne_eqb 0 (suc l) (λ z. omega (arith, z))))

      get : (j : ℕ) → j < length (marks_in mainframe m).turns → get_or (marks_in mainframe m).turns j 0 ≡ get_or (moved_up l was.awaited was.turns) j 0
      get zero c = nobody
      get (suc j) c = at j (omega (arith, c, length_tabulate processor_limit (λ i. turn_mark m (suc i))))

      turns : (marks_in mainframe m).turns ≡ moved_up l was.awaited was.turns
      turns = ext_get_or 0 (marks_in mainframe m).turns (moved_up l was.awaited was.turns) long get

-- ---- the first leaves the line

module _ (m m₁ : List ℕ) (l p : ℕ) (h : InLine m l p) (up : MarksBecome m m₁ (line_moved_up (marks_in mainframe m) l)) where
  -- it still has marks
  pub leaving_in_line : MarksOf m₁ p
  leaving_in_line = record { marks = up.long; from = h.from; to = h.to }

  -- it waits for no lock
  pub line_left_lem : (m₂ : List ℕ) → m₂ ≡ set m₁ (awaited_place mainframe p) 0 → MarksBecome m m₂ (without_waiter (marks_in mainframe m) l p)
  unfolding without_waiter line_moved_up state_in
  line_left_lem m₂ e =
      rw e
      (record {
        long = length-set m₁ (awaited_place mainframe p) 0 ∙ up.long;
        is =
            λ c w r. awaited_written c w r m₁ 0 up.long p h.from h.to
            ∙ ap (λ (s : State). with_marks s (with_lines s.marks (put 0 s.marks.awaited p 0) s.marks.turns)) (up.is c w r);
      })
