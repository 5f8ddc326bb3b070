-- The clocks' part of the invariant when one holder's clock is copied, joined or cleared. Rests on Invariant. Assumes nothing.
use Prim.Native.Nat.{ℕ, ◌≤◌, ◌<◌, max}
use native.Mathlib.Omega.{arith}
use native.Mathlib.Decide.{dec_le, ℕ_discrete}
use mathlib.Core.Path.{◌≡◌, refl, sym, ap}
use mathlib.Core.Bool.{Bool, true, false, cond}
use mathlib.Core.Logic.{◌⊎◌, inl, inr}
use mathlib.Core.List.{List}
use lib.ListN.{length}
use Rattle.clock.specs.Clocks.{joined, entry_of, sum_of}
use Rattle.clock.proofs.Laws.{join_covers_left, join_covers_right, entry_of_joined, sum_covered}
use Rattle.rules.specs.State.{Counts, Holder, Processor, Applied, Interval, Clocks, clock_of, with_clock, cleared, Record}
use Rattle.rules.specs.Fetch.{sum_at}
use Rattle.rules.proofs.state.Holders.{same_holder, other_holder, clock_of_with, clock_of_with_other, Knows, knows_no_applied, knows_no_interval, entry_cleared}
use Rattle.rules.proofs.order.Ghosts.{with_number}
use Rattle.rules.proofs.word.WordOfRecords.{nth, HitAt}
use Rattle.rules.proofs.invariant.Invariant.{Covered, Informed, ClockInv}

module _ (words g o : ℕ) where
  -- ---- what each kind of move makes of clocks that are informed

  pub informed_by_join : (c : Clocks) (l : List Record) (writes : ℕ) (a b : List ℕ) (j k : ℕ) → j ≤ writes → k ≤ writes
      → Informed words g o c l writes a j → Informed words g o c l writes b k → Informed words g o c l writes (joined a b) (max j k)
  informed_by_join c l writes a b j k hj hk p q =
      record {
        covers_hits = λ e i h. all_hits e i h;
        bounded = λ i h v. bound i h (either i v);
        downward = λ i₁ i₂ h₁ h₂ less v. down i₁ i₂ h₁ h₂ less (either i₂ v);
      }
    where
      left : (i : ℕ) → Covered a (nth l i) → Covered (joined a b) (nth l i)
      left i v = omega (arith, v, entry_of_joined a b (nth l i).processor)

      right : (i : ℕ) → Covered b (nth l i) → Covered (joined a b) (nth l i)
      right i v = omega (arith, v, entry_of_joined a b (nth l i).processor)

      either : (i : ℕ) → Covered (joined a b) (nth l i) → Covered a (nth l i) ⊎ Covered b (nth l i)
      either i v = go (dec_le (nth l i).interval (entry_of a (nth l i).processor))
        where
          go : Dec ((nth l i).interval ≤ entry_of a (nth l i).processor) → Covered a (nth l i) ⊎ Covered b (nth l i)
          go (yes h) = inl h
          go (no h) = inr (omega (arith, v, h, entry_of_joined a b (nth l i).processor))

      all_hits : max j k ≡ writes → (i : ℕ) → HitAt words g o l i → Covered (joined a b) (nth l i)
      all_hits e i h = go (ℕ_discrete j writes)
        where
          go : Dec (j ≡ writes) → Covered (joined a b) (nth l i)
          go (yes d) = left i (p.covers_hits d i h)
          go (no d) = right i (q.covers_hits (omega (arith, e, d)) i h)

      bound : (i : ℕ) → HitAt words g o l i → Covered a (nth l i) ⊎ Covered b (nth l i) → sum_at c (nth l i) ≤ sum_of (joined a b)
      bound i h (inl v) = omega (arith, p.bounded i h v, sum_covered (joined a b) a (join_covers_left a b))
      bound i h (inr v) = omega (arith, q.bounded i h v, sum_covered (joined a b) b (join_covers_right a b))

      down : (i₁ i₂ : ℕ) → HitAt words g o l i₁ → HitAt words g o l i₂ → sum_at c (nth l i₁) < sum_at c (nth l i₂) → Covered a (nth l i₂) ⊎ Covered b (nth l i₂) → Covered (joined a b) (nth l i₁)
      down i₁ i₂ h₁ h₂ less (inl v) = left i₁ (p.downward i₁ i₂ h₁ h₂ less v)
      down i₁ i₂ h₁ h₂ less (inr v) = right i₁ (q.downward i₁ i₂ h₁ h₂ less v)

  -- a cleared clock covers no record, and there is none while there is no write
  pub informed_when_cleared : (c : Clocks) (l : List Record) (writes : ℕ) (v : List ℕ) → (writes ≡ 0 → (i : ℕ) → HitAt words g o l i → ⊥)
      → ((i : ℕ) → i < length l → 1 ≤ (nth l i).interval) → Informed words g o c l writes (cleared v) 0
  informed_when_cleared c l writes v none_yet made =
      record {
        covers_hits = λ e i h. absurd (none_yet (sym e) i h);
        bounded = λ i h k. absurd (omega (arith, k, made i h.within, entry_cleared v (nth l i).processor));
        downward = λ i j h₁ h₂ less k. absurd (omega (arith, k, made j h₂.within, entry_cleared v (nth l j).processor));
      }

  -- ---- one holder's clock replaced

  -- the sums of the intervals' clocks do not change
  pub sum_at_with : (n : Counts) (c : Clocks) (h : Holder) (v : List ℕ) (r : Record) → Knows n h → sum_at (with_clock c h v) r ≡ sum_at c r
  unfolding sum_at
  sum_at_with n c h v r k =
      let i = Interval r.processor r.interval in
      ap sum_of (clock_of_with_other c h v i (other_holder h i (knows_no_interval n h r.processor r.interval k)))

  -- nor does an applied clock
  pub applied_with : (n : Counts) (c : Clocks) (h : Holder) (v : List ℕ) (p g₁ : ℕ) → Knows n h → clock_of (with_clock c h v) (Applied p g₁) ≡ clock_of c (Applied p g₁)
  applied_with n c h v p g₁ k = clock_of_with_other c h v (Applied p g₁) (other_holder h (Applied p g₁) (knows_no_applied n h p g₁ k))

  -- clocks that agree on the intervals inform alike
  pub informed_same_sums : (c d : Clocks) (l : List Record) (writes : ℕ) (v : List ℕ) (k : ℕ) → ((r : Record) → sum_at d r ≡ sum_at c r)
      → Informed words g o c l writes v k → Informed words g o d l writes v k
  informed_same_sums c d l writes v k same p =
      record {
        covers_hits = p.covers_hits;
        bounded = λ i h w. omega (arith, same (nth l i), p.bounded i h w);
        downward = λ i j h₁ h₂ less w. p.downward i j h₁ h₂ (omega (arith, less, same (nth l i), same (nth l j))) w;
      }

  -- the invariant of the clocks, with the clock v and its number k for a holder h that is not the writer
  pub clock_moved : (n : Counts) (c : Clocks) (l : List Record) (writes writer : ℕ) (known : Holder → ℕ) (h : Holder) (v : List ℕ) (k : ℕ)
      → ClockInv words g o n c l writes writer known → Knows n h → Informed words g o c l writes v k
      → ((writer ≡ 0 → ⊥) → same_holder h (Processor writer) ≡ false) → ((writer ≡ 0 → ⊥) → k < writes)
      → ClockInv words g o n (with_clock c h v) l writes writer (with_number known h k)
  unfolding with_number
  clock_moved n c l writes writer known h v k inv there new other behind =
      record {
        none_yet = inv.none_yet;
        informed = λ x kx. informed_same_sums c (with_clock c h v) l writes (clock_of (with_clock c h v) x) (cond (same_holder h x) k (known x)) same
            (holder x kx (same_holder h x) refl);
        rising = record { rises = λ i j hi hj less. omega (arith, same (nth l i), same (nth l j), inv.rising.rises i j hi hj less) };
        writer_present = inv.writer_present;
        writer_knows = λ some_writer. rw (other some_writer) (inv.writer_knows some_writer);
        others_behind = λ some_writer x kx apart. number some_writer x kx apart (same_holder h x);
      }
    where
      same : (r : Record) → sum_at (with_clock c h v) r ≡ sum_at c r
      same r = sum_at_with n c h v r there

      holder : (x : Holder) → Knows n x → (b : Bool) → same_holder h x ≡ b → Informed words g o c l writes (clock_of (with_clock c h v) x) (cond (same_holder h x) k (known x))
      holder x kx true e = rw (clock_of_with c h v x, e) new
      holder x kx false e = rw (clock_of_with c h v x, e) (inv.informed x kx)

      number : (writer ≡ 0 → ⊥) → (x : Holder) → Knows n x → same_holder (Processor writer) x ≡ false → (b : Bool) → cond b k (known x) < writes
      number some_writer x kx apart true = behind some_writer
      number some_writer x kx apart false = inv.others_behind some_writer x kx apart
