-- Lent memory that passes the tests on its clocks meets the rules' conditions on clocks. Assumes nothing.
use Prim.Native.Nat.{ℕ, zero, suc, ◌+◌, ◌*◌, ◌≤◌, ◌<◌}
use native.Mathlib.Omega.{arith}
use native.Mathlib.Decide.{dec_lt}
use mathlib.Core.Path.{◌≡◌, refl, sym, ◌∙◌}
use mathlib.Core.Bool.{true, false, ◌||◌}
use mathlib.Core.List.{List}
use lib.ListN.{get_or}
use lib.Dec.{leb, eqb}
use borrow.Author.Tests.{ltb-false, leb-true, leb-false, le-leb, eq-eqb}
use Rattle.lists.proofs.Conditions.{and_both, or_when}
use Rattle.lists.proofs.Tables.{every_at}
use Rattle.limits.specs.Limits.{interval_limit, page_limit, processor_limit}
use Rattle.limits.specs.inner.Sizes.{clock_width}
use Rattle.clock.specs.Clocks.{entry_of}
use Rattle.rules.specs.InOrder.{present, every_processor, every_holder, present_holder, all_zero, later_intervals_zero, entries_known, applied_known}
use Rattle.rules.specs.State.{mainframe, Holder, Processor, Applied, Interval, clock_of, clock, own}
use Rattle.rules.proofs.inorder.Everywhere.{every_processor_holds, every_page_holds, every_interval_holds, every_holder_holds, entries_all_zero, entry_past, entries_covered}
use Rattle.rules.proofs.inorder.Facts.{Within, Sized}
use Rattle.layout.specs.Areas.{clock_row}
use Rattle.layout.specs.inner.Marks.{lock_count, page_count, processor_count}
use Rattle.inorder_records.specs.inner.Tests.{own_fits}
use Rattle.inorder.specs.inner.Tests.{own_entries}
use Rattle.inorder.proofs.StateReads.{entry_read, own_read, present_read}
use Rattle.inorder.proofs.ClocksWhen.{held, ClocksPass, row_known, applied_below, own_absent, later_zero, absent_zero_lem}

module _ (c w r m : List ℕ) (size : Sized mainframe (held c w r m)) (z : ClocksPass c (processor_count m) (page_count m) (lock_count m)) where
  -- an entry past the eighth is 0, and nobody's is
  past : (h : Holder) (q : ℕ) → Within mainframe h → (q < processor_limit → ⊥) → entry_of (clock_of (held c w r m).clocks h) (suc q) ≡ 0
  unfolding mainframe
  past h q t n = entry_past (clock_of (held c w r m).clocks h) (suc q) (λ a k. n (omega (arith, size.clocks h t)))

  -- a clock whose row is zeros
  clock_zero : (h : Holder) → Within mainframe h → ((q : ℕ) → q < processor_limit → get_or c (clock_width * clock_row mainframe h + q) 0 ≡ 0) → all_zero (clock_of (held c w r m).clocks h) ≡ true
  unfolding entry_of
  clock_zero h t f = entries_all_zero (clock_of (held c w r m).clocks h) each
    where
      each : (q : ℕ) → entry_of (clock_of (held c w r m).clocks h) q ≡ 0
      each zero = refl
      each (suc q) = go (dec_lt q processor_limit)
        where
          go : Dec (q < processor_limit) → entry_of (clock_of (held c w r m).clocks h) (suc q) ≡ 0
          go (yes b) = entry_read c w r m h q t b ∙ f q b
          go (no n) = past h q t n

  -- the clocks of absent holders are zeros
  pub absent_clocks : every_holder mainframe (λ (h : Holder). present_holder (held c w r m) h || all_zero (clock_of (held c w r m).clocks h)) ≡ true
  absent_clocks =
      every_holder_holds mainframe _ (λ h t. or_when (present_holder (held c w r m) h) _ (λ a. clock_zero h t (λ q b. absent_zero_lem c w r m z h q t b a)))

  -- entries for absent processors are 0
  pub absent_entries : every_holder mainframe (λ (h : Holder). every_processor mainframe (λ (q : ℕ). present (held c w r m) q || eqb (entry_of (clock_of (held c w r m).clocks h) q) 0)) ≡ true
  unfolding mainframe
  absent_entries =
      every_holder_holds mainframe _
      (λ h t. every_processor_holds mainframe _ (λ q k l. or_when (present (held c w r m) q) _ (λ a. eq-eqb _ _ (none h q t k l a))))
    where
      none : (h : Holder) (q : ℕ) → Within mainframe h → 1 ≤ q → q ≤ processor_limit → present (held c w r m) q ≡ false → entry_of (clock_of (held c w r m).clocks h) q ≡ 0
      none h zero t k l a = absurd (omega arith)
      none h (suc q) t k l a =
          omega (arith, entry_read c w r m h q t l, row_known c w r m z h q t l, own_absent c w r m z q (ltb-false q (processor_count m) (sym (present_read c w r m q) ∙ a)) l)

  -- the clocks of intervals not made are zeros
  pub later_intervals_when : later_intervals_zero mainframe (held c w r m) ≡ true
  unfolding later_intervals_zero mainframe Within
  later_intervals_when =
      every_interval_holds mainframe (λ (p i : ℕ). leb i (own (held c w r m) p) || all_zero (clock_of (held c w r m).clocks (Interval p i)))
      (λ p i k l a b. or_when (leb i (own (held c w r m) p)) _ (λ e. later p i k l a b (leb-false i (own (held c w r m) p) e)))
    where
      later : (p i : ℕ) → 1 ≤ p → p ≤ processor_limit → 1 ≤ i → i ≤ interval_limit → own (held c w r m) p < i → all_zero (clock_of (held c w r m).clocks (Interval p i)) ≡ true
      later zero i k l a b e = absurd (omega arith)
      later (suc p) zero k l a b e = absurd (omega arith)
      later (suc p) (suc i) k l a b e =
          clock_zero (Interval (suc p) (suc i)) (k, l, a, b) (λ q d. later_zero c w r m z p i q l b d (omega (arith, own_read c w r m p l)))

  -- no entry exceeds the own entry, which is at most 63
  pub entries_known_when : entries_known mainframe (held c w r m) ≡ true
  unfolding entries_known own_fits mainframe
  entries_known_when =
      and_both
      (every_holder mainframe (λ (h : Holder). every_processor mainframe (λ (q : ℕ). leb (entry_of (clock_of (held c w r m).clocks h) q) (own (held c w r m) q))))
      (every_processor mainframe (λ (p : ℕ). leb (own (held c w r m) p) interval_limit))
      (every_holder_holds mainframe _ (λ h t. every_processor_holds mainframe _ (λ q k l. le-leb _ _ (below h q t k l))))
      (every_processor_holds mainframe _ (λ p k l. le-leb _ _ (fits p k l)))
    where
      below : (h : Holder) (q : ℕ) → Within mainframe h → 1 ≤ q → q ≤ processor_limit → entry_of (clock_of (held c w r m).clocks h) q ≤ own (held c w r m) q
      below h zero t k l = absurd (omega arith)
      below h (suc q) t k l = omega (arith, entry_read c w r m h q t l, row_known c w r m z h q t l, own_read c w r m q l)

      fits : (p : ℕ) → 1 ≤ p → p ≤ processor_limit → own (held c w r m) p ≤ interval_limit
      fits zero k l = absurd (omega arith)
      fits (suc p) k l =
          let most : get_or (own_entries c) p 0 ≤ interval_limit = leb-true _ _ (every_at processor_limit (own_fits (own_entries c)) p z.own_fit l) in
          omega (arith, own_read c w r m p l)

  -- no applied clock exceeds its processor's
  pub applied_known_when : applied_known mainframe (held c w r m) ≡ true
  unfolding applied_known clock mainframe entry_of Within
  applied_known_when =
      every_page_holds mainframe _
      (λ p g k l n. entries_covered (clock_of (held c w r m).clocks (Processor p)) (clock_of (held c w r m).clocks (Applied p g)) (λ q. below p g q k l n))
    where
      below : (p g q : ℕ) → 1 ≤ p → p ≤ processor_limit → g < page_limit → entry_of (clock_of (held c w r m).clocks (Applied p g)) q ≤ entry_of (clock_of (held c w r m).clocks (Processor p)) q
      below zero g q k l n = absurd (omega arith)
      below (suc p) g zero k l n = omega arith
      below (suc p) g (suc q) k l n = go (dec_lt q processor_limit)
        where
          go : Dec (q < processor_limit) → entry_of (clock_of (held c w r m).clocks (Applied (suc p) g)) (suc q) ≤ entry_of (clock_of (held c w r m).clocks (Processor (suc p))) (suc q)
          go (yes b) =
              omega (arith, entry_read c w r m (Applied (suc p) g) q (k, l, n) b, entry_read c w r m (Processor (suc p)) q (k, l) b, applied_below c w r m z p g q l n b)
          go (no b) = omega (arith, past (Applied (suc p) g) q (k, l, n) b)
