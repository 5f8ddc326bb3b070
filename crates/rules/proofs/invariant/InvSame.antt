-- What the invariant looks at: the standing records by their places, the records above a clock, and that it stays where clocks, words and
-- marks agree. Rests on Slots and InvClocks. Assumes nothing.
use Prim.Native.Nat.{ℕ, ◌≤◌, ◌<◌}
use native.Mathlib.Omega.{arith}
use mathlib.Core.Path.{◌≡◌, sym, ap, ◌∙◌, fun_ext}
use mathlib.Core.Bool.{Bool, true, not, ◌&&◌, and-eq-true_iff}
use mathlib.Core.List.{List}
use lib.ListN.{length, get_or}
use lib.Dec.{ltb, eqb}
use borrow.Author.Tests.{ltb-true, eqb-false, not-true, lt-ltb, ne_eqb}
use Rattle.clock.specs.Clocks.{entry_of}
use Rattle.rules.specs.State.{Limits, Counts, Holder, Processor, Applied, Clocks, clock_of, Pages, copy_of, twin_of, dirty_at, Record, Shared, State, with_shared, own, standing}
use Rattle.rules.specs.InOrder.{record_at}
use Rattle.rules.specs.Fetch.{sum_at}
use Rattle.rules.proofs.state.Holders.{Knows}
use Rattle.rules.proofs.state.Slots.{standing_at, length_standing}
use Rattle.rules.proofs.inorder.Facts.{InOrder, slots_enough}
use Rattle.rules.proofs.order.Ghosts.{Ghost}
use Rattle.rules.proofs.word.WordOfRecords.{no_record, nth, FreshUp}
use Rattle.rules.proofs.word.FetchedWord.{above}
use Rattle.rules.proofs.invariant.Invariant.{ClockInv, seen, PageInv, Inv}
use Rattle.rules.proofs.invariant.InvClocks.{informed_same_sums}

-- ---- records that stand in a state in order

module _ (lim : Limits) (s : State) (ord : InOrder lim s) where
  -- a standing record by its place
  pub nth_standing : (i : ℕ) → i < length (standing s) → (i < s.records.standing) × (nth (standing s) i ≡ record_at s i)
  unfolding standing record_at
  nth_standing i h =
      let k : i < s.records.standing = omega (arith, h, length_standing s.records (slots_enough lim s ord)) in
      (k, standing_at s.records i no_record k (slots_enough lim s ord))

  pub interval_made : (i : ℕ) → i < length (standing s) → 1 ≤ (nth (standing s) i).interval
  interval_made i h = let e = nth_standing i h in rw e.1 (ord.record_sound_lem i e.0).some_interval

  -- no clock knows of more intervals than were made
  pub interval_known : (i : ℕ) → i < length (standing s) → (nth (standing s) i).interval ≤ own s (nth (standing s) i).processor
  interval_known i h = let e = nth_standing i h in rw e.1 (ord.record_sound_lem i e.0).made_interval

-- ---- what a record above a clock is

pub above_says : (p : ℕ) (v : List ℕ) (r : Record) → above p v r ≡ true → (r.processor ≡ p → ⊥) × (entry_of v r.processor < r.interval)
unfolding above
above_says p v r e =
    let t = (and-eq-true_iff (not (eqb r.processor p)) (ltb (entry_of v r.processor) r.interval)).0 e in
    (eqb-false r.processor p (not-true (eqb r.processor p) t.0), ltb-true (entry_of v r.processor) r.interval t.1)

pub above_when : (p : ℕ) (v : List ℕ) (r : Record) → (r.processor ≡ p → ⊥) → entry_of v r.processor < r.interval → above p v r ≡ true
unfolding above
above_when p v r d l = rw (ne_eqb r.processor p d, lt-ltb (entry_of v r.processor) r.interval l)

-- clocks with the same entries
pub above_same : (p : ℕ) (v u : List ℕ) → ((q : ℕ) → entry_of v q ≡ entry_of u q) → above p v ≡ above p u
unfolding above
above_same p v u e = fun_ext (λ (r : Record). ap (λ (x : ℕ). not (eqb r.processor p) && ltb x r.interval) (e r.processor))

module _ (words g o : ℕ) where
  -- ---- clocks that agree where the invariant looks

  pub clock_inv_same : (n : Counts) (c d : Clocks) (l : List Record) (writes writer : ℕ) (known : Holder → ℕ) → ((h : Holder) → Knows n h → clock_of d h ≡ clock_of c h)
      → ((r : Record) → sum_at d r ≡ sum_at c r) → ClockInv words g o n c l writes writer known → ClockInv words g o n d l writes writer known
  clock_inv_same n c d l writes writer known clocks sums inv =
      record {
        none_yet = inv.none_yet;
        informed = λ h k. informed_same_sums words g o c d l writes (clock_of d h) (known h) sums (rw (clocks h k) (inv.informed h k));
        rising = record { rises = λ i j hi hj less. omega (arith, sums (nth l i), sums (nth l j), inv.rising.rises i j hi hj less) };
        writer_present = inv.writer_present;
        writer_knows = inv.writer_knows;
        others_behind = inv.others_behind;
      }

  pub fresh_up_same : (c d : Clocks) (f : Record → Bool) (l : List Record) → ((r : Record) → sum_at d r ≡ sum_at c r) → FreshUp words g o (sum_at c) f l → FreshUp words g o (sum_at d) f l
  fresh_up_same c d f l sums u = record { up = λ i j hi hj less e. u.up i j hi hj (omega (arith, less, sums (nth l i), sums (nth l j))) e }

  -- a page of which the applied clock, the words and the mark stay, and where it is dirty its processor's clock
  pub page_inv_same : (p : ℕ) (c d : Clocks) (m n : Pages) (l : List Record) (writer last base : ℕ) → ((r : Record) → sum_at d r ≡ sum_at c r)
      → clock_of d (Applied p g) ≡ clock_of c (Applied p g) → (dirty_at m p g ≡ true → clock_of d (Processor p) ≡ clock_of c (Processor p))
      → get_or (copy_of n p g) o 0 ≡ get_or (copy_of m p g) o 0 → get_or (twin_of n p g) o 0 ≡ get_or (twin_of m p g) o 0 → dirty_at n p g ≡ dirty_at m p g
      → PageInv words g o p c m l writer last base → PageInv words g o p d n l writer last base
  unfolding seen
  page_inv_same p c d m n l writer last base sums ea ep ec et ed inv =
      record {
        fresh_up = rw ea (fresh_up_same c d (above p (clock_of c (Applied p g))) l sums inv.fresh_up);
        dirty_applied = λ e q. rw (ea, ep (sym ed ∙ e)) (inv.dirty_applied (sym ed ∙ e) q);
        clean_copy = λ e. rw ea (ec ∙ inv.clean_copy (sym ed ∙ e));
        dirty_twin = λ e. rw ea (et ∙ inv.dirty_twin (sym ed ∙ e));
        dirty_copy = λ e k. rw ea (ec ∙ inv.dirty_copy (sym ed ∙ e) k);
        writer_dirty = λ e. ed ∙ inv.writer_dirty e;
        writer_copy = λ e. ec ∙ inv.writer_copy e;
      }

-- the shared values are aside
pub shared_aside : (words g o : ℕ) (s : State) (γ : Ghost) (h : Shared) → Inv words g o s γ → Inv words g o (with_shared s h) γ
unfolding standing
shared_aside words g o s γ h i = record { clocks = i.clocks; page = i.page; closed_value = i.closed_value; resting_clean = i.resting_clean }
