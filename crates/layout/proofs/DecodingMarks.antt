-- The marks of a state laid out as their area: it has the fixed size, and the marks in it are those of the state, where nobody's places, of the arrived
-- marks and of the marks of waiting, are 0. Assumes nothing.
use Prim.Native.Nat.{ℕ, zero, suc, ◌+◌, ◌-◌, ◌*◌, ◌/◌, ◌%◌, ◌≤◌, ◌<◌}
use native.Mathlib.Omega.{arith}
use mathlib.Core.Path.{◌≡◌, refl, sym, ap, ◌∙◌}
use mathlib.Core.List.{List, [], ◌∷◌, ◌++◌}
use lib.ListN.{length, get_or, drop, length-append, length-drop, get_or-append}
use lib.Seq.{get_or-drop}
use Rattle.lists.specs.Tables.{cell, tabulate}
use Rattle.limits.specs.Limits.{lock_limit, page_limit, processor_limit}
use Rattle.limits.specs.Places.{first_arrived}
use Rattle.limits.specs.inner.Sizes.{copy_limit, first_awaited, first_dirty, first_holder, first_turn, mark_area, queue_first}
use Rattle.rules.specs.State.{mainframe, State}
use Rattle.rules.proofs.inorder.Facts.{Sized}
use Rattle.layout.specs.Layout.{join_rows}
use Rattle.layout.specs.Areas.{arrived_place, holder_place, dirty_place, awaited_place, turn_place, first_place, jobs_place, pages_in, marks_in, mark_bytes}
use Rattle.lists.proofs.Tabulated.{tabulate_same, tabulate_get}
use Rattle.layout.proofs.RowLaws.{page_table_same}
use Rattle.layout.proofs.Cuts.{get_behind, length_joined, joined_get, first_and_rest, table_joined, table_of_elements}

-- ---- the marks: six numbers, the arrived marks, the holders, the dirty marks, the locks waited for, the turns, the two of the queue

-- where the marks of each part stand
pub record MarkParts (a l g w t q all : List ℕ) : Type 0 where
  pub long : length all ≡ mark_area
  arrived : (j : ℕ) → j < processor_limit → get_or all (first_arrived + j) 0 ≡ get_or a j 0
  holders : (j : ℕ) → j < lock_limit → get_or all (first_holder + j) 0 ≡ get_or l j 0
  dirty : (j : ℕ) → j < copy_limit → get_or all (first_dirty + j) 0 ≡ get_or g j 0
  awaited : (j : ℕ) → j < processor_limit → get_or all (first_awaited + j) 0 ≡ get_or w j 0
  turns : (j : ℕ) → j < processor_limit → get_or all (first_turn + j) 0 ≡ get_or t j 0
  queue : (j : ℕ) → get_or all (queue_first + j) 0 ≡ get_or q j 0

mark_parts : (n a l g w t q : List ℕ) → length n ≡ first_arrived → length a ≡ processor_limit → length l ≡ lock_limit → length g ≡ copy_limit → length w ≡ processor_limit → length t ≡ processor_limit
    → length q ≡ mark_area - queue_first → MarkParts a l g w t q (n ++ a ++ l ++ g ++ w ++ t ++ q)
mark_parts n a l g w t q ln la ll lg lw lt lq =
    record {
      long = length-append (n ++ a ++ l ++ g ++ w ++ t) q ∙ omega (arith, six, lq);
      arrived =
          λ j h. before_turns (first_arrived + j) (omega (arith, h)) ∙ before_awaited (first_arrived + j) (omega (arith, h)) ∙ before_dirty (first_arrived + j) (omega (arith, h))
          ∙ get_or-append (n ++ a) l 0 (first_arrived + j) (omega (arith, two, h)) ∙ get_behind first_arrived j n a 0 ln;
      holders =
          λ j h. before_turns (first_holder + j) (omega (arith, h)) ∙ before_awaited (first_holder + j) (omega (arith, h)) ∙ before_dirty (first_holder + j) (omega (arith, h))
          ∙ get_behind first_holder j (n ++ a) l 0 two;
      dirty = λ j h. before_turns (first_dirty + j) (omega (arith, h)) ∙ before_awaited (first_dirty + j) (omega (arith, h)) ∙ get_behind first_dirty j (n ++ a ++ l) g 0 three;
      awaited = λ j h. before_turns (first_awaited + j) (omega (arith, h)) ∙ get_behind first_awaited j (n ++ a ++ l ++ g) w 0 four;
      turns = λ j h. before_queue (first_turn + j) (omega (arith, h)) ∙ get_behind first_turn j (n ++ a ++ l ++ g ++ w) t 0 five;
      queue = λ j. get_behind queue_first j (n ++ a ++ l ++ g ++ w ++ t) q 0 six;
    }
  where
    two : length (n ++ a) ≡ first_holder
    two = length-append n a ∙ omega (arith, ln, la)

    three : length (n ++ a ++ l) ≡ first_dirty
    three = length-append (n ++ a) l ∙ omega (arith, two, ll)

    four : length (n ++ a ++ l ++ g) ≡ first_awaited
    four = length-append (n ++ a ++ l) g ∙ omega (arith, three, lg)

    five : length (n ++ a ++ l ++ g ++ w) ≡ first_turn
    five = length-append (n ++ a ++ l ++ g) w ∙ omega (arith, four, lw)

    six : length (n ++ a ++ l ++ g ++ w ++ t) ≡ queue_first
    six = length-append (n ++ a ++ l ++ g ++ w) t ∙ omega (arith, five, lt)

    before_queue : (k : ℕ) → k < queue_first → get_or (n ++ a ++ l ++ g ++ w ++ t ++ q) k 0 ≡ get_or (n ++ a ++ l ++ g ++ w ++ t) k 0
    before_queue k h = get_or-append (n ++ a ++ l ++ g ++ w ++ t) q 0 k (omega (arith, six, h))

    before_turns : (k : ℕ) → k < first_turn → get_or (n ++ a ++ l ++ g ++ w ++ t ++ q) k 0 ≡ get_or (n ++ a ++ l ++ g ++ w) k 0
    before_turns k h = before_queue k (omega (arith, h)) ∙ get_or-append (n ++ a ++ l ++ g ++ w) t 0 k (omega (arith, five, h))

    before_awaited : (k : ℕ) → k < first_awaited → get_or (n ++ a ++ l ++ g ++ w) k 0 ≡ get_or (n ++ a ++ l ++ g) k 0
    before_awaited k h = get_or-append (n ++ a ++ l ++ g) w 0 k (omega (arith, four, h))

    before_dirty : (k : ℕ) → k < first_dirty → get_or (n ++ a ++ l ++ g) k 0 ≡ get_or (n ++ a ++ l) k 0
    before_dirty k h = get_or-append (n ++ a ++ l) g 0 k (omega (arith, three, h))

module _ (s : State) (h : Sized mainframe s) where
  dirty_joined : join_rows s.pages.dirty ≡ join_rows (tabulate processor_limit (λ k. get_or s.pages.dirty (suc k) []))
  unfolding mainframe
  dirty_joined = table_joined s.pages.dirty processor_limit h.dirty h.nobody_dirty

  dirty_wide : (k : ℕ) → k < processor_limit → length (get_or s.pages.dirty (suc k) []) ≡ page_limit
  unfolding mainframe
  dirty_wide k b = h.dirty_row (suc k) (omega arith) (omega arith)

  pub marks_of : MarkParts (drop 1 s.marks.arrived) s.marks.holders (join_rows s.pages.dirty) (drop 1 s.marks.awaited) (drop 1 s.marks.turns)
      (s.marks.first ∷ s.marks.jobs ∷ []) (mark_bytes s)
  unfolding mark_bytes mainframe
  marks_of =
      mark_parts (s.counts.processors ∷ s.counts.pages ∷ s.counts.locks ∷ s.records.standing % 256 ∷ s.records.standing / 256 ∷ s.marks.wanted ∷ [])
      (drop 1 s.marks.arrived) s.marks.holders (join_rows s.pages.dirty) (drop 1 s.marks.awaited) (drop 1 s.marks.turns) (s.marks.first ∷ s.marks.jobs ∷ []) refl
      (length-drop 1 s.marks.arrived ∙ omega (arith, h.arrived))
      h.holders
      (ap length dirty_joined ∙ length_joined processor_limit page_limit (λ k. get_or s.pages.dirty (suc k) []) dirty_wide)
      (length-drop 1 s.marks.awaited ∙ omega (arith, h.awaited))
      (length-drop 1 s.marks.turns ∙ omega (arith, h.turns))
      refl

  pub holders_again : (marks_in mainframe (mark_bytes s)).holders ≡ s.marks.holders
  unfolding marks_in mainframe holder_place
  holders_again =
      tabulate_same lock_limit (λ l. get_or (mark_bytes s) (holder_place mainframe l) 0) (λ l. get_or s.marks.holders l 0)
      (λ l b. ap (λ (j : ℕ). get_or (mark_bytes s) j 0) (at l) ∙ marks_of.holders l b)
      ∙ tabulate_get s.marks.holders lock_limit 0 h.holders
    where
      at : (l : ℕ) → holder_place mainframe l ≡ first_holder + l
      at l = omega arith

  -- a table by processor with nobody's place 0
  by_processor : (t : List ℕ) (place : ℕ → ℕ) (first : ℕ) → length t ≡ suc processor_limit → get_or t 0 0 ≡ 0 → ((k : ℕ) → place k ≡ first + k)
      → ((j : ℕ) → j < processor_limit → get_or (mark_bytes s) (first + j) 0 ≡ get_or (drop 1 t) j 0) → 0 ∷ tabulate processor_limit (λ k. get_or (mark_bytes s) (place k) 0) ≡ t
  by_processor t place first long z at there =
      ap (λ (l : List ℕ). 0 ∷ l)
      (tabulate_same processor_limit (λ k. get_or (mark_bytes s) (place k) 0) (λ k. get_or t (suc k) 0)
      (λ k b. ap (λ (j : ℕ). get_or (mark_bytes s) j 0) (at k) ∙ there k b ∙ get_or-drop 1 t k 0 ∙ ap (λ (j : ℕ). get_or t j 0) (next k)))
      ∙ ap (λ (x : ℕ). x ∷ tabulate processor_limit (λ k. get_or t (suc k) 0)) (sym z)
      ∙ first_and_rest t processor_limit 0 long
    where
      next : (k : ℕ) → 1 + k ≡ suc k
      next k = omega arith

  pub arrived_again : get_or s.marks.arrived 0 0 ≡ 0 → (marks_in mainframe (mark_bytes s)).arrived ≡ s.marks.arrived
  unfolding marks_in mainframe arrived_place
  arrived_again z = by_processor s.marks.arrived (λ k. arrived_place mainframe (suc k)) first_arrived h.arrived z (λ k. omega arith) marks_of.arrived

  pub awaited_again : get_or s.marks.awaited 0 0 ≡ 0 → (marks_in mainframe (mark_bytes s)).awaited ≡ s.marks.awaited
  unfolding marks_in mainframe awaited_place
  awaited_again z = by_processor s.marks.awaited (λ k. awaited_place mainframe (suc k)) first_awaited h.awaited z (λ k. omega arith) marks_of.awaited

  pub turns_again : get_or s.marks.turns 0 0 ≡ 0 → (marks_in mainframe (mark_bytes s)).turns ≡ s.marks.turns
  unfolding marks_in mainframe turn_place
  turns_again z = by_processor s.marks.turns (λ k. turn_place mainframe (suc k)) first_turn h.turns z (λ k. omega arith) marks_of.turns

  pub first_again : (marks_in mainframe (mark_bytes s)).first ≡ s.marks.first
  unfolding marks_in mainframe first_place
  first_again = marks_of.queue 0

  pub jobs_again : (marks_in mainframe (mark_bytes s)).jobs ≡ s.marks.jobs
  unfolding marks_in mainframe first_place jobs_place
  jobs_again = marks_of.queue 1

  pub dirty_again : (w : List ℕ) → (pages_in mainframe w (mark_bytes s)).dirty ≡ s.pages.dirty
  unfolding pages_in mainframe dirty_place
  dirty_again w =
      page_table_same processor_limit page_limit (λ p g. get_or (mark_bytes s) (dirty_place mainframe p g) 0) (λ p g. cell 0 s.pages.dirty p g) each
      ∙ table_of_elements s.pages.dirty processor_limit h.dirty h.nobody_dirty page_limit 0 h.dirty_row
    where
      at : (k g : ℕ) → dirty_place mainframe (suc k) g ≡ first_dirty + (page_limit * k + g)
      at k g = omega arith

      each : (p g : ℕ) → 1 ≤ p → p ≤ processor_limit → g < page_limit → get_or (mark_bytes s) (dirty_place mainframe p g) 0 ≡ cell 0 s.pages.dirty p g
      each zero g a b c = absurd (omega arith)
      each (suc k) g a b c =
          ap (λ (j : ℕ). get_or (mark_bytes s) j 0) (at k g)
          ∙ marks_of.dirty (page_limit * k + g) (omega arith)
          ∙ ap (λ (l : List ℕ). get_or l (page_limit * k + g) 0) dirty_joined
          ∙ joined_get processor_limit page_limit (λ k. get_or s.pages.dirty (suc k) []) k g 0 dirty_wide (omega arith) c
