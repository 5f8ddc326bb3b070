-- A move of one clock keeps the invariant: one holder's clock becomes or joins another's and the marks change, the pages and records stay.
-- Rests on InvSame. Assumes nothing.
use Prim.Native.Nat.{ℕ, ◌≤◌, ◌<◌, max}
use native.Mathlib.Omega.{arith}
use mathlib.Core.Path.{◌≡◌, refl, sym, ◌∙◌}
use mathlib.Core.Bool.{Bool, true, false, false≢true}
use mathlib.Core.List.{List}
use Rattle.clock.specs.Clocks.{joined}
use Rattle.rules.specs.State.{Holder, Processor, clock_of, with_clock, dirty_at, Record, Marks, State, with_clocks, with_marks, standing}
use Rattle.rules.specs.Fetch.{sum_at}
use Rattle.rules.specs.Steps.{learned}
use Rattle.rules.proofs.state.Holders.{same_holder, same_holder_refl, same_holder_lem, other_holder, clock_of_with_other, Knows, Carrier}
use Rattle.rules.proofs.order.Ghosts.{Ghost, with_number, learned_numbers}
use Rattle.rules.proofs.order.MarksAfter.{rests_in}
use Rattle.rules.proofs.invariant.Invariant.{Informed, Inv}
use Rattle.rules.proofs.invariant.InvClocks.{informed_by_join, sum_at_with, applied_with, clock_moved}
use Rattle.rules.proofs.invariant.InvSame.{page_inv_same}

-- the counts with other numbers of known writes
unfoldable pub with_known : Ghost → (Holder → ℕ) → Ghost
with_known γ f = record { writes = γ.writes; last = γ.last; base = γ.base; writer = γ.writer; known = f }

-- ---- holders of news without a dirty page

-- page g of the holder, if it is a processor, is clean
pub record CleanHolder (g : ℕ) (s : State) (h : Holder) : Type 0 where
  pub knows : Knows s.counts h
  pub clean : (q : ℕ) → h ≡ Processor q → dirty_at s.pages q g ≡ false

module _ (g : ℕ) (s : State) where
  -- a carrier has no page
  pub clean_carrier : {h : Holder} → Carrier s.counts h → CleanHolder g s h
  clean_carrier c = record { knows = c.knows; clean = λ q e. absurd (false≢true (sym (c.no_processor q) ∙ rw e (same_holder_refl (Processor q)))) }

  -- a processor may have a clean one
  pub clean_processor : (p : ℕ) → 1 ≤ p → p ≤ s.counts.processors → dirty_at s.pages p g ≡ false → CleanHolder g s (Processor p)
  unfolding Knows
  clean_processor p from to e = record { knows = (from, to); clean = λ q d. let same : p ≡ q = cc in rw (← same) e }

-- ---- a clock moves

module _ (words g o : ℕ) where
  -- the numbers matter only at holders whose clocks carry news
  pub inv_same_numbers : (s : State) (γ : Ghost) (f : Holder → ℕ) → ((h : Holder) → Knows s.counts h → f h ≡ γ.known h)
      → Inv words g o s γ → Inv words g o s (with_known γ f)
  unfolding with_known Knows
  inv_same_numbers s γ f same inv =
      record {
        clocks =
            record {
              none_yet = inv.clocks.none_yet;
              informed = λ h k. rw (same h k) (inv.clocks.informed h k);
              rising = inv.clocks.rising;
              writer_present = inv.clocks.writer_present;
              writer_knows = λ e. same (Processor γ.writer) (inv.clocks.writer_present e) ∙ inv.clocks.writer_knows e;
              others_behind = λ e h k d. rw (same h k) (inv.clocks.others_behind e h k d);
            };
        page = inv.page;
        closed_value = inv.closed_value;
        resting_clean = inv.resting_clean;
      }

  module _ (s : State) (γ : Ghost) (inv : Inv words g o s γ) where
    -- other marks, by which who rests has page g clean
    pub marks_keep : (marks : Marks) → ((q : ℕ) → 1 ≤ q → q ≤ s.counts.processors → rests_in marks q ≡ true → dirty_at s.pages q g ≡ false) → Inv words g o (with_marks s marks) γ
    unfolding standing
    marks_keep marks resting = record { clocks = inv.clocks; page = inv.page; closed_value = inv.closed_value; resting_clean = resting }

    -- such a holder is not the writer
    clean_is_other : (h : Holder) → CleanHolder g s h → (γ.writer ≡ 0 → ⊥) → h ≡ Processor γ.writer → ⊥
    clean_is_other h c e d = let b = inv.clocks.writer_present e in false≢true (sym (c.clean γ.writer d) ∙ (inv.page γ.writer b.0 b.1).writer_dirty refl)

    -- so it does not know of all writes while there is a writer
    clean_is_behind : (h : Holder) → CleanHolder g s h → (γ.writer ≡ 0 → ⊥) → γ.known h < γ.writes
    clean_is_behind h c e = inv.clocks.others_behind e h c.knows (other_holder (Processor γ.writer) h (λ d. clean_is_other h c e (sym d)))

    -- it gets the clock v, with its number k
    pub clock_move_keeps : (h : Holder) (v : List ℕ) (k : ℕ) (marks : Marks) → CleanHolder g s h
        → Informed words g o s.clocks (standing s) γ.writes v k → ((γ.writer ≡ 0 → ⊥) → k < γ.writes)
        → ((q : ℕ) → 1 ≤ q → q ≤ s.counts.processors → rests_in marks q ≡ true → dirty_at s.pages q g ≡ false)
        → Inv words g o (with_marks (with_clocks s (with_clock s.clocks h v)) marks) (with_known γ (with_number γ.known h k))
    unfolding with_known standing
    clock_move_keeps h v k marks c new behind resting =
        record {
          clocks =
              clock_moved words g o s.counts s.clocks (standing s) γ.writes γ.writer γ.known h v k inv.clocks c.knows new
              (λ e. other_holder h (Processor γ.writer) (clean_is_other h c e)) behind;
          page = λ q hq kq.
              page_inv_same words g o q s.clocks (with_clock s.clocks h v) s.pages s.pages (standing s) γ.writer γ.last γ.base sums
              (applied_with words g o s.counts s.clocks h v q g c.knows) (own_clock q (same_holder h (Processor q)) refl) refl refl refl (inv.page q hq kq);
          closed_value = inv.closed_value;
          resting_clean = resting;
        }
      where
        sums : (r : Record) → sum_at (with_clock s.clocks h v) r ≡ sum_at s.clocks r
        sums r = sum_at_with words g o s.counts s.clocks h v r c.knows

        own_clock : (q : ℕ) (b : Bool) → same_holder h (Processor q) ≡ b → dirty_at s.pages q g ≡ true → clock_of (with_clock s.clocks h v) (Processor q) ≡ clock_of s.clocks (Processor q)
        own_clock q true e d = absurd (false≢true (sym (c.clean q (same_holder_lem h (Processor q) e)) ∙ d))
        own_clock q false e d = clock_of_with_other s.clocks h v (Processor q) e

    -- the two moves between such holders
    module _ (to from : Holder) (t : CleanHolder g s to) (f : CleanHolder g s from) (marks : Marks)
        (resting : (q : ℕ) → 1 ≤ q → q ≤ s.counts.processors → rests_in marks q ≡ true → dirty_at s.pages q g ≡ false) where
      -- the clock of the one becomes that of the other
      pub hand_keeps : Inv words g o (with_marks (with_clocks s (with_clock s.clocks to (clock_of s.clocks from))) marks) (with_known γ (with_number γ.known to (γ.known from)))
      hand_keeps = clock_move_keeps to (clock_of s.clocks from) (γ.known from) marks t (inv.clocks.informed from f.knows) (clean_is_behind from f) resting

      -- the clock of the one joins that of the other
      pub learn_keeps : ((h : Holder) → γ.known h ≤ γ.writes)
          → Inv words g o (with_marks (with_clocks s (learned s.clocks to from)) marks) (with_known γ (learned_numbers γ.known to from))
      unfolding learned
      learn_keeps few =
          clock_move_keeps to (joined (clock_of s.clocks to) (clock_of s.clocks from)) (max (γ.known to) (γ.known from)) marks t
          (informed_by_join words g o s.clocks (standing s) γ.writes (clock_of s.clocks to) (clock_of s.clocks from) (γ.known to) (γ.known from) (few to) (few from)
          (inv.clocks.informed to t.knows) (inv.clocks.informed from f.knows))
          (λ e. omega (arith, clean_is_behind to t e, clean_is_behind from f e)) resting
