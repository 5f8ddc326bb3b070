-- The clock of an interval that ends: the own entry rises and the interval's row keeps the clock. One law for each way of the code, and
-- `tick_laws`. Assumes nothing.
use Prim.Native.Nat.{ℕ, zero, suc, ◌+◌, ◌-◌, ◌*◌, ◌≤◌, ◌<◌}
use native.Mathlib.Omega.{arith}
use mathlib.Core.Path.{◌≡◌, refl, sym, ap, ◌∙◌}
use mathlib.Core.List.{List, []}
use lib.ListN.{length, get_or, set}
use lib.Seq.{sets, length-sets}
use mir.Syntax.{w8}
use mir.Val.{Fits}
use borrow.Author.Rules.{rules}
use Rattle.lists.proofs.Tables.{length_put_within, put_within}
use Rattle.limits.specs.Limits.{interval_limit, processor_limit}
use Rattle.limits.specs.inner.Sizes.{clock_row_limit, clock_width}
use Rattle.clock.specs.Clocks.{entry_of}
use Rattle.rules.specs.Close.{raised, ticked}
use Rattle.rules.specs.State.{mainframe, Processor, Interval, Clocks, with_clock, with_clocks, clock, own}
use Rattle.rules.proofs.inorder.Facts.{Within}
use Rattle.layout.specs.Areas.{interval_row, clock_row, clocks_in, state_in}
use Rattle.layout.specs.Layout.{row_of}
use Rattle.layout.specs.inner.Needed.{RowThere, MadeInterval, ClocksOf, OwnEntry}
use Rattle.layout.proofs.Rows.{processor_within}
use Rattle.layout.proofs.ClockLaws.{clock_read, clock_written}
use Rattle.layout.proofs.RowLaws.{length_row}
use Rattle.step_close.specs.inner.Parts.{Ticked}
use Rattle.step_close.specs.inner.Needed.{Raisable, Tickable}

-- ---- a clock with one entry higher

module _ (v : List ℕ) (p : ℕ) (ready : Raisable v p) where
  -- the entry has its place
  pub raise_place : p - 1 < processor_limit
  raise_place = omega (arith, ready.from, ready.to)

  -- the entry, one higher, fits its byte
  pub raise_fits : Fits w8 (get_or v (p - 1) 0 + 1)
  raise_fits = go p ready.from ready.left
    where
      go : (p : ℕ) → 1 ≤ p → entry_of v p < interval_limit → Fits w8 (get_or v (p - 1) 0 + 1)
      go zero h k = absurd (omega arith)
      go (suc q) h k = let e : suc q - 1 ≡ q = omega arith in rw e (unfold entry_of in omega (arith, k))

  -- the entry stored anew is the clock raised
  pub raise_done : length v ≡ clock_width → set v (p - 1) (get_or v (p - 1) 0 + 1) ≡ raised v p
  raise_done long = go p ready.from ready.to
    where
      go : (p : ℕ) → 1 ≤ p → p ≤ processor_limit → set v (p - 1) (get_or v (p - 1) 0 + 1) ≡ raised v p
      go zero h k = absurd (omega arith)
      go (suc q) h k = let e : suc q - 1 ≡ q = omega arith in rw e (unfold raised in sym (put_within 0 v q (get_or v q 0 + 1) (omega arith)))

length_raised : (v : List ℕ) (p : ℕ) → p ≤ length v → length (raised v p) ≡ length v
unfolding raised
length_raised v zero h = refl
length_raised v (suc q) h = length_put_within 0 v q (get_or v q 0 + 1) h

-- ---- the clock of the processor and of its interval

module _ (c : List ℕ) (p : ℕ) (ready : Tickable c p) where
  -- the processor has a clock
  pub tick_clocks : ClocksOf c p
  tick_clocks = record { clocks = ready.clocks; from = ready.from; to = ready.to }

  -- it has a row
  pub tick_row : RowThere clock_width c p
  tick_row = record { within = omega (arith, ready.clocks, ready.to) }

  -- so has the interval, also after the first store
  pub tick_kept_row : (c₁ v : List ℕ) (row : ℕ) → c₁ ≡ sets c (clock_width * p) v → row < clock_row_limit → RowThere clock_width c₁ row
  tick_kept_row c₁ v row e h = record { within = omega (arith, ap length e ∙ length-sets c (clock_width * p) v, ready.clocks) }

  -- both stores keep the length
  pub tick_same_length : (c₁ c₂ v u : List ℕ) (row : ℕ) → c₂ ≡ sets c₁ (clock_width * row) u → c₁ ≡ sets c (clock_width * p) v → length c₂ ≡ length c
  tick_same_length c₁ c₂ v u row f e = ap length f ∙ length-sets c₁ (clock_width * row) u ∙ ap length e ∙ length-sets c (clock_width * p) v

  row_long : length (row_of clock_width c p) ≡ clock_width
  row_long = length_row clock_width c p (omega (arith, ready.clocks, ready.to))

  raised_long : length (raised (row_of clock_width c p) p) ≡ clock_width
  raised_long = length_raised (row_of clock_width c p) p (omega (arith, row_long, ready.to)) ∙ row_long

  clock_is : (w r m : List ℕ) → clock (state_in mainframe c w r m) p ≡ row_of clock_width c p
  unfolding clock state_in clock_row
  clock_is w r m = clock_read c (Processor p) (processor_within p ready.from ready.to)

  -- its own entry can rise
  pub tick_raisable : (v : List ℕ) → v ≡ row_of clock_width c p → Raisable v p
  tick_raisable v e =
      let is : entry_of v p ≡ own (state_in mainframe c [] [] []) p = unfold own in ap (λ (l : List ℕ). entry_of l p) (e ∙ sym (clock_is [] [] [])) in
      record { from = ready.from; to = ready.to; left = omega (arith, is, ready.left [] [] []) }

  module _ (e : ℕ) (entry : OwnEntry c p e) where
    -- the next interval is there
    pub tick_interval : (x : ℕ) → x ≡ e → MadeInterval p (x + 1)
    tick_interval x k = record { from = ready.from; to = ready.to; first = omega arith; last = omega (arith, entry.is [] [] [], ready.left [] [] []) }

    interval_within : Within mainframe (Interval p (e + 1))
    unfolding Within mainframe
    interval_within = let i = tick_interval e refl in (i.from, i.to, i.first, i.last)

    clocks_after : clocks_in mainframe (sets (sets c (clock_width * p) (raised (row_of clock_width c p) p)) (clock_width * interval_row mainframe p (e + 1)) (raised (row_of clock_width c p) p))
        ≡ with_clock (with_clock (clocks_in mainframe c) (Processor p) (raised (row_of clock_width c p) p)) (Interval p (e + 1)) (raised (row_of clock_width c p) p)
    unfolding clock_row
    clocks_after =
        clock_written (sets c (clock_width * p) (raised (row_of clock_width c p) p)) (raised (row_of clock_width c p) p) (Interval p (e + 1)) (length-sets c (clock_width * p) (raised (row_of clock_width c p) p) ∙ ready.clocks) interval_within raised_long
        ∙ ap (λ (k : Clocks). with_clock k (Interval p (e + 1)) (raised (row_of clock_width c p) p))
        (clock_written c (raised (row_of clock_width c p) p) (Processor p) ready.clocks (processor_within p ready.from ready.to) raised_long)

    rule_is : (w r m : List ℕ)
        → with_clock (with_clock (clocks_in mainframe c) (Processor p) (raised (row_of clock_width c p) p)) (Interval p (e + 1)) (raised (row_of clock_width c p) p)
        ≡ ticked (state_in mainframe c w r m) p
    unfolding ticked state_in
    rule_is w r m =
        let v : row_of clock_width c p ≡ clock (state_in mainframe c w r m) p = sym (clock_is w r m) in
        λ i. with_clock (with_clock (clocks_in mainframe c) (Processor p) (raised (v i) p)) (Interval p (entry.is w r m i + 1)) (raised (v i) p)

    -- both clocks stored anew are the clocks of the rule
    pub tick_done : (c₁ c₂ v u : List ℕ) (x row : ℕ) → c₂ ≡ sets c₁ (clock_width * row) u → c₁ ≡ sets c (clock_width * p) u → u ≡ raised v p → v ≡ row_of clock_width c p
        → row ≡ interval_row mainframe p (x + 1) → x ≡ e → Ticked c c₂ p
    unfolding state_in
    tick_done c₁ c₂ v u x row second first up is at k =
        let done : clocks_in mainframe c₂ ≡ with_clock (with_clock (clocks_in mainframe c) (Processor p) (raised (row_of clock_width c p) p)) (Interval p (e + 1)) (raised (row_of clock_width c p) p) =
        ap (λ (l : List ℕ). clocks_in mainframe l) (second ∙ rw (first, up, is, at, k)) ∙ clocks_after in
        record {
          is = λ w r m. ap (λ (q : Clocks). with_clocks (state_in mainframe c w r m) q) (done ∙ rule_is w r m);
          as_long = tick_same_length c₁ c₂ u u row second first;
        }

pub ruleset tick_laws = (raise_place, raise_fits, raise_done, tick_clocks, tick_row, tick_kept_row, tick_same_length, tick_raisable, tick_interval, tick_done, rules)
