-- Closing keeps the invariant: what it is of the pages then, and the whole of it. Rests on KeptClose and InvCloseClocks. Assumes nothing.
use Prim.Native.Nat.{ℕ, suc, ◌+◌, ◌≤◌, ◌<◌}
use native.Mathlib.Omega.{arith}
use native.Mathlib.Decide.{dec_le, ℕ_discrete}
use mathlib.Core.Path.{◌≡◌, refl, sym, ap, ◌∙◌}
use mathlib.Core.Bool.{Bool, true, false, cond, not, false≢true}
use mathlib.Core.List.{List, ◌++◌}
use lib.ListN.{length, get_or, length-append}
use lib.Seq.{get_or-append-add}
use lib.Dec.{eqb}
use borrow.Author.Tests.{eqb-true, eqb-false, eq-eqb, ne_eqb}
use Rattle.lists.specs.Tables.{select}
use Rattle.lists.proofs.Selected.{select_append}
use Rattle.limits.specs.Limits.{word_values}
use Rattle.clock.specs.Clocks.{entry_of}
use Rattle.diff.specs.Format.{Below}
use Rattle.rules.specs.State.{Limits, Holder, Processor, Applied, Clocks, clock_of, copy_of, twin_of, dirty_at, Record, State, clock, own, standing}
use Rattle.rules.specs.Close.{new_record, cleaned, closed}
use Rattle.rules.specs.Fetch.{sum_at}
use Rattle.rules.proofs.state.Holders.{same_holder, Knows}
use Rattle.rules.proofs.state.Slots.{new_records, records_recorded}
use Rattle.rules.proofs.inorder.Facts.{InOrder, slots_enough}
use Rattle.rules.proofs.inorder.KeptClose.{closed_clean, closed_dirty}
use Rattle.rules.proofs.order.Ghosts.{Ghost, writer_closed, closed_ghost, writer_was, writer_stays}
use Rattle.rules.proofs.order.MarksAfter.{rests}
use Rattle.rules.proofs.word.WordOfRecords.{no_record, nth, word_after, HitAt, word_after_append}
use Rattle.rules.proofs.word.SortedRecords.{word_after_select_none}
use Rattle.rules.proofs.word.SelectedRecords.{nth_first, all_selected, nothing_set}
use Rattle.rules.proofs.word.FetchedWord.{above}
use Rattle.rules.proofs.word.NewRecords.{new_hit}
use Rattle.rules.proofs.invariant.Invariant.{Covered, seen, PageInv, Inv}
use Rattle.rules.proofs.invariant.InvSame.{above_says, above_when}
use Rattle.rules.proofs.invariant.InvTicks.{Ticks, old_hit, covers_old, old_sum, new_above_old, ticks_keep_clocks}
use Rattle.rules.proofs.invariant.InvCloseClocks.{new_word, new_is, closing_ticks}

-- the records after closing are the old ones and the new ones behind them
pub closed_standing : (lim : Limits) (s : State) (p : ℕ) → InOrder lim s → standing (closed s p) ≡ standing s ++ new_records s p s.counts.pages
unfolding standing closed
closed_standing lim s p ord = records_recorded s p s.counts.pages (slots_enough lim s ord)

module _ (lim : Limits) (g o : ℕ) (s : State) (γ : Ghost) (p : ℕ) (ord : InOrder lim s) (in_page : o < lim.words) (opened_page : g < s.counts.pages) (h : 1 ≤ p)
    (k : p ≤ s.counts.processors) (fit : Below word_values (copy_of s.pages p g)) (inv : Inv lim.words g o s γ) where
  abbrev l : List Record
  l = standing s

  abbrev new : List Record
  new = new_records s p s.counts.pages

  abbrev c' : Clocks
  c' = (closed s p).clocks

  abbrev applied_clock : ℕ → List ℕ
  applied_clock q = clock_of s.clocks (Applied q g)

  ticks : Ticks lim.words g o s.counts s.clocks c' p l (l ++ new) γ.writer
  ticks = closing_ticks lim g o s γ p ord in_page opened_page h k fit inv

  within : (x : Holder) (q : ℕ) → entry_of (clock_of s.clocks x) q ≤ entry_of (clock_of s.clocks (Processor q)) q
  unfolding own clock
  within x q = ord.known x q

  here : Knows s.counts (Processor p)
  unfolding Knows
  here = (h, k)

  was_hit : (i : ℕ) → HitAt lim.words g o (l ++ new) i → i < length l → HitAt lim.words g o l i
  was_hit = old_hit lim.words g o s.counts s.clocks c' p l (l ++ new) γ.writes γ.writer γ.known ticks here within inv.clocks

  was_sum : (i : ℕ) → i < length l → sum_at c' (nth (l ++ new) i) ≡ sum_at s.clocks (nth l i)
  was_sum = old_sum lim.words g o s.counts s.clocks c' p l (l ++ new) γ.writes γ.writer γ.known ticks here within inv.clocks

  not_before : (i j : ℕ) → HitAt lim.words g o (l ++ new) i → HitAt lim.words g o (l ++ new) j → j < length l → length l ≤ i
      → sum_at c' (nth (l ++ new) i) < sum_at c' (nth (l ++ new) j) → ⊥
  not_before = new_above_old lim.words g o s.counts s.clocks c' p l (l ++ new) γ.writes γ.writer γ.known ticks here within inv.clocks

  all_covered : (j : ℕ) → HitAt lim.words g o (l ++ new) j → length l ≤ j → (i : ℕ) → HitAt lim.words g o l i → Covered (clock_of s.clocks (Processor p)) (nth l i)
  all_covered = covers_old lim.words g o s.counts s.clocks c' p l (l ++ new) γ.writes γ.writer γ.known ticks here within inv.clocks

  -- freshness of old records goes on as before
  old_up : (q i j : ℕ) → 1 ≤ q → q ≤ s.counts.processors → HitAt lim.words g o (l ++ new) i → HitAt lim.words g o (l ++ new) j → i < length l → j < length l
      → sum_at c' (nth (l ++ new) i) < sum_at c' (nth (l ++ new) j) → above q (applied_clock q) (nth (l ++ new) i) ≡ true → above q (applied_clock q) (nth (l ++ new) j) ≡ true
  old_up q i j hq kq hi hj ki kj less e =
      ap (above q (applied_clock q)) (nth_first l new j kj)
      ∙ (inv.page q hq kq).fresh_up.up i j (was_hit i hi ki) (was_hit j hj kj) (omega (arith, less, was_sum i ki, was_sum j kj))
      (ap (above q (applied_clock q)) (sym (nth_first l new i ki)) ∙ e)

  -- a record among the new ones, by its place among all
  ahead : (j : ℕ) → HitAt lim.words g o new j → HitAt lim.words g o (l ++ new) (length l + j)
  ahead j hj = record { within = omega (arith, hj.within, length-append l new); hit = rw (get_or-append-add l new j no_record) hj.hit }

  new_is_of : (j : ℕ) → HitAt lim.words g o new j → nth new j ≡ new_record s p g
  new_is_of j hj = (new_hit s p lim.words g o s.counts.pages j hj).is

  -- ---- pages of other processors: the new records are fresh to them

  new_fresh : (q : ℕ) → (q ≡ p → ⊥) → above q (applied_clock q) (new_record s p g) ≡ true
  unfolding new_record
  new_fresh q d = above_when q (applied_clock q) (new_record s p g) (λ e. d (sym e)) (omega (arith, ord.known (Applied q g) p))

  seen_other : (q : ℕ) → (q ≡ p → ⊥) → seen lim.words g o q c' (l ++ new) γ.base ≡ seen lim.words g o q s.clocks l γ.base
  unfolding seen
  seen_other q d =
      let t : Record → Bool = λ r. not (above q (applied_clock q) r) in
      ap (λ (v : List ℕ). word_after lim.words g o (select (λ (r : Record). not (above q v r)) (l ++ new)) γ.base) (ticks.applied q)
      ∙ ap (λ (m : List Record). word_after lim.words g o m γ.base) (select_append t l new)
      ∙ word_after_append lim.words g o (select t l) (select t new) γ.base
      ∙ word_after_select_none lim.words g o t new (λ j hj. ap not (ap (above q (applied_clock q)) (new_is_of j hj) ∙ new_fresh q d)) (word_after lim.words g o (select t l) γ.base)

  page_other : (q : ℕ) → 1 ≤ q → q ≤ s.counts.processors → (q ≡ p → ⊥)
      → PageInv lim.words g o q c' (closed s p).pages (l ++ new) (writer_closed γ p) γ.last γ.base
  unfolding Knows same_holder closed cleaned copy_of twin_of
  page_other q hq kq d =
      let old = inv.page q hq kq in
      record {
        fresh_up = record { up = λ i j hi hj less e. rw (ticks.applied q) (up i j hi hj less (rw (ticks.applied q) at e) (dec_le (suc i) (length l)) (dec_le (suc j) (length l))) };
        dirty_applied = λ e x. rw (ticks.applied q, ticks.others (Processor q) (hq, kq) (ne_eqb q p d)) (old.dirty_applied (sym (closed_dirty s p q g d) ∙ e) x);
        clean_copy = λ e. old.clean_copy (sym (closed_dirty s p q g d) ∙ e) ∙ sym (seen_other q d);
        dirty_twin = λ e. old.dirty_twin (sym (closed_dirty s p q g d) ∙ e) ∙ sym (seen_other q d);
        dirty_copy = λ e z. old.dirty_copy (sym (closed_dirty s p q g d) ∙ e) (λ w. z (writer_stays γ p q d w)) ∙ sym (seen_other q d);
        writer_dirty = λ e. closed_dirty s p q g d ∙ old.writer_dirty (writer_was γ p q hq e).0;
        writer_copy = λ e. old.writer_copy (writer_was γ p q hq e).0;
      }
    where
      up : (i j : ℕ) → HitAt lim.words g o (l ++ new) i → HitAt lim.words g o (l ++ new) j → sum_at c' (nth (l ++ new) i) < sum_at c' (nth (l ++ new) j)
          → above q (applied_clock q) (nth (l ++ new) i) ≡ true → Dec (suc i ≤ length l) → Dec (suc j ≤ length l) → above q (applied_clock q) (nth (l ++ new) j) ≡ true
      up i j hi hj less e a (no b) =
          ap (above q (applied_clock q)) (new_is lim g o s γ p ord in_page opened_page h k fit inv j hj (omega (arith, b))) ∙ new_fresh q d
      up i j hi hj less e (yes a) (yes b) = old_up q i j hq kq hi hj a b less e
      up i j hi hj less e (no a) (yes b) = absurd (not_before i j hi hj b (omega (arith, a)) less)

  -- ---- the page of the processor itself: the new records are its own

  own_not_above : above p (applied_clock p) (new_record s p g) ≡ false
  unfolding above new_record
  own_not_above = rw (eq-eqb p p refl)

  seen_own : seen lim.words g o p c' (l ++ new) γ.base ≡ word_after lim.words g o new (seen lim.words g o p s.clocks l γ.base)
  unfolding seen
  seen_own =
      let t : Record → Bool = λ r. not (above p (applied_clock p) r) in
      ap (λ (v : List ℕ). word_after lim.words g o (select (λ (r : Record). not (above p v r)) (l ++ new)) γ.base) (ticks.applied p)
      ∙ ap (λ (m : List Record). word_after lim.words g o m γ.base) (select_append t l new)
      ∙ word_after_append lim.words g o (select t l) (select t new) γ.base
      ∙ all_selected lim.words g o t new (word_after lim.words g o (select t l) γ.base) (λ j hj. ap not (ap (above p (applied_clock p)) (new_is_of j hj) ∙ own_not_above))

  copy_after : word_after lim.words g o new (seen lim.words g o p s.clocks l γ.base) ≡ get_or (copy_of s.pages p g) o 0
  copy_after =
      new_word lim g o s γ p ord in_page opened_page h k fit inv (seen lim.words g o p s.clocks l γ.base) (λ d. sym ((inv.page p h k).dirty_twin d))
      (λ d. sym ((inv.page p h k).clean_copy d))

  page_own : PageInv lim.words g o p c' (closed s p).pages (l ++ new) (writer_closed γ p) γ.last γ.base
  unfolding Knows closed cleaned copy_of twin_of
  page_own =
      record {
        fresh_up = record { up = λ i j hi hj less e. rw (ticks.applied p) (up i j hi hj less (rw (ticks.applied p) at e) (dec_le (suc i) (length l)) (dec_le (suc j) (length l))) };
        dirty_applied = λ e. absurd (false≢true (sym (closed_clean s p g) ∙ e));
        clean_copy = λ e. sym (seen_own ∙ copy_after);
        dirty_twin = λ e. absurd (false≢true (sym (closed_clean s p g) ∙ e));
        dirty_copy = λ e. absurd (false≢true (sym (closed_clean s p g) ∙ e));
        writer_dirty = λ e. absurd ((writer_was γ p p h e).1 refl);
        writer_copy = λ e. absurd ((writer_was γ p p h e).1 refl);
      }
    where
      up : (i j : ℕ) → HitAt lim.words g o (l ++ new) i → HitAt lim.words g o (l ++ new) j → sum_at c' (nth (l ++ new) i) < sum_at c' (nth (l ++ new) j)
          → above p (applied_clock p) (nth (l ++ new) i) ≡ true → Dec (suc i ≤ length l) → Dec (suc j ≤ length l) → above p (applied_clock p) (nth (l ++ new) j) ≡ true
      up i j hi hj less e (no a) b =
          absurd (false≢true (sym own_not_above ∙ ap (above p (applied_clock p)) (sym (new_is lim g o s γ p ord in_page opened_page h k fit inv i hi (omega (arith, a)))) ∙ e))
      up i j hi hj less e (yes a) (yes b) = old_up p i j h k hi hj a b less e
      up i j hi hj less e (yes a) (no b) =
          let fresh-one = above_says p (applied_clock p) (nth l i) (ap (above p (applied_clock p)) (sym (nth_first l new i a)) ∙ e) in
          let known-one = all_covered j hj (omega (arith, b)) i (was_hit i hi a) in
          let current = (inv.page p h k).dirty_applied ((inv.page p h k).writer_dirty (ticks.new_writer j hj (omega (arith, b)))) (nth l i).processor in
          absurd (omega (arith, fresh-one.1, known-one, current))

  -- ---- the whole

  -- a processor with stores to w has fetched every record that sets it
  writer_saw_all : γ.writer ≡ p → seen lim.words g o p s.clocks l γ.base ≡ word_after lim.words g o l γ.base
  unfolding seen
  writer_saw_all e = all_selected lim.words g o (λ r. not (above p (applied_clock p) r)) l γ.base (λ i hi. ap not (not_above i hi (above p (applied_clock p) (nth l i)) refl))
    where
      some_writer : γ.writer ≡ 0 → ⊥
      some_writer z = omega (arith, z, e, h)

      not_above : (i : ℕ) → HitAt lim.words g o l i → (b : Bool) → above p (applied_clock p) (nth l i) ≡ b → b ≡ false
      not_above i hi false q = refl
      not_above i hi true q =
          let known-one = (inv.clocks.informed (Processor p) here).covers_hits (rw e at (inv.clocks.writer_knows some_writer)) i hi in
          let current = (inv.page p h k).dirty_applied ((inv.page p h k).writer_dirty e) (nth l i).processor in
          absurd (omega (arith, (above_says p (applied_clock p) (nth l i) q).1, known-one, current))

  -- once nobody has stores that no interval has, the records have the last value
  value_closed : writer_closed γ p ≡ 0 → word_after lim.words g o (l ++ new) γ.base ≡ γ.last
  unfolding writer_closed
  value_closed e = word_after_append lim.words g o l new γ.base ∙ go (eqb γ.writer p) refl e
    where
      go : (b : Bool) → eqb γ.writer p ≡ b → cond b 0 γ.writer ≡ 0 → word_after lim.words g o new (word_after lim.words g o l γ.base) ≡ γ.last
      go true d z =
          let w = eqb-true γ.writer p d in
          ap (word_after lim.words g o new) (sym (writer_saw_all w)) ∙ copy_after ∙ (inv.page p h k).writer_copy w
      go false d z =
          nothing_set lim.words g o new (word_after lim.words g o l γ.base)
          (λ j hj. eqb-false γ.writer p d (ticks.new_writer (length l + j) (ahead j hj) (omega arith)))
          ∙ inv.closed_value z

  pub close_keeps : Inv lim.words g o (closed s p) (closed_ghost γ p)
  unfolding closed_ghost writer_closed closed
  close_keeps =
      let e = closed_standing lim s p ord in
      record {
        clocks = rw e (ticks_keep_clocks lim.words g o s.counts s.clocks c' p l (l ++ new) γ.writes γ.writer γ.known ticks here within inv.clocks);
        page = λ q hq kq. rw e (whose q hq kq (ℕ_discrete q p));
        closed_value = λ z. rw e (value_closed z);
        resting_clean = λ q hq kq a. clean q hq kq a (ℕ_discrete q p);
      }
    where
      whose : (q : ℕ) → 1 ≤ q → q ≤ s.counts.processors → Dec (q ≡ p) → PageInv lim.words g o q c' (closed s p).pages (l ++ new) (writer_closed γ p) γ.last γ.base
      whose q hq kq (yes d) = rw d page_own
      whose q hq kq (no d) = page_other q hq kq d

      clean : (q : ℕ) → 1 ≤ q → q ≤ s.counts.processors → rests s q ≡ true → Dec (q ≡ p) → dirty_at (closed s p).pages q g ≡ false
      clean q hq kq a (yes d) = rw d (closed_clean s p g)
      clean q hq kq a (no d) = closed_dirty s p q g d ∙ inv.resting_clean q hq kq a
