-- What holds, for one word w, at every time of a run whose writes to w are ordered. w is at offset o of page g. Rests on MarksAfter
-- and FetchedWord. Assumes nothing.
use Prim.Native.Nat.{ℕ, ◌≤◌, ◌<◌}
use mathlib.Core.Path.{◌≡◌}
use mathlib.Core.Bool.{true, false, not}
use mathlib.Core.List.{List}
use lib.ListN.{get_or}
use Rattle.lists.specs.Tables.{select}
use Rattle.clock.specs.Clocks.{entry_of, sum_of}
use Rattle.rules.specs.State.{Counts, Holder, Processor, Applied, Clocks, clock_of, Pages, copy_of, twin_of, dirty_at, Record, State, standing}
use Rattle.rules.specs.Fetch.{sum_at}
use Rattle.rules.proofs.state.Holders.{same_holder, Knows}
use Rattle.rules.proofs.order.Ghosts.{Ghost}
use Rattle.rules.proofs.order.MarksAfter.{rests}
use Rattle.rules.proofs.word.WordOfRecords.{nth, word_after, HitAt, Rising, FreshUp}
use Rattle.rules.proofs.word.FetchedWord.{above}

-- a clock covers a record: it knows the record's interval
abbrev pub Covered : List ℕ → Record → Type 0
Covered c r = r.interval ≤ entry_of c r.processor

module _ (words g o : ℕ) where
  -- what a clock v, with the number k of writes that it stands for, has to say of the records that set the word
  pub record Informed (c : Clocks) (l : List Record) (writes : ℕ) (v : List ℕ) (k : ℕ) : Type 0 where
    -- it covers all of them if it stands for all writes
    pub covers_hits : k ≡ writes → (i : ℕ) → HitAt words g o l i → Covered v (nth l i)
    -- those that it covers have no larger sum than it has
    pub bounded : (i : ℕ) → HitAt words g o l i → Covered v (nth l i) → sum_at c (nth l i) ≤ sum_of v
    -- with one of them it covers those of smaller sum
    pub downward : (i j : ℕ) → HitAt words g o l i → HitAt words g o l j → sum_at c (nth l i) < sum_at c (nth l j) → Covered v (nth l j) → Covered v (nth l i)

  -- clocks and records
  pub record ClockInv (n : Counts) (c : Clocks) (l : List Record) (writes writer : ℕ) (known : Holder → ℕ) : Type 0 where
    pub none_yet : writes ≡ 0 → (i : ℕ) → HitAt words g o l i → ⊥
    pub informed : (h : Holder) → Knows n h → Informed c l writes (clock_of c h) (known h)
    pub rising : Rising words g o (sum_at c) l
    pub writer_present : (writer ≡ 0 → ⊥) → (1 ≤ writer) × (writer ≤ n.processors)
    pub writer_knows : (writer ≡ 0 → ⊥) → known (Processor writer) ≡ writes
    pub others_behind : (writer ≡ 0 → ⊥) → (h : Holder) → Knows n h → same_holder (Processor writer) h ≡ false → known h < writes

  -- the word after the records that p has fetched
  unfoldable pub seen : ℕ → Clocks → List Record → ℕ → ℕ
  seen p c l base = word_after words g o (select (λ (r : Record). not (above p (clock_of c (Applied p g)) r)) l) base

  -- page g of processor p
  pub record PageInv (p : ℕ) (c : Clocks) (m : Pages) (l : List Record) (writer last base : ℕ) : Type 0 where
    pub fresh_up : FreshUp words g o (sum_at c) (above p (clock_of c (Applied p g))) l
    pub dirty_applied : dirty_at m p g ≡ true → (q : ℕ) → entry_of (clock_of c (Applied p g)) q ≡ entry_of (clock_of c (Processor p)) q
    pub clean_copy : dirty_at m p g ≡ false → get_or (copy_of m p g) o 0 ≡ seen p c l base
    pub dirty_twin : dirty_at m p g ≡ true → get_or (twin_of m p g) o 0 ≡ seen p c l base
    pub dirty_copy : dirty_at m p g ≡ true → (writer ≡ p → ⊥) → get_or (copy_of m p g) o 0 ≡ seen p c l base
    pub writer_dirty : writer ≡ p → dirty_at m p g ≡ true
    pub writer_copy : writer ≡ p → get_or (copy_of m p g) o 0 ≡ last

  -- the whole state
  pub record Inv (s : State) (γ : Ghost) : Type 0 where
    pub clocks : ClockInv s.counts s.clocks (standing s) γ.writes γ.writer γ.known
    pub page : (p : ℕ) → 1 ≤ p → p ≤ s.counts.processors → PageInv p s.clocks s.pages (standing s) γ.writer γ.last γ.base
    pub closed_value : γ.writer ≡ 0 → word_after words g o (standing s) γ.base ≡ γ.last
    pub resting_clean : (p : ℕ) → 1 ≤ p → p ≤ s.counts.processors → rests s p ≡ true → dirty_at s.pages p g ≡ false
