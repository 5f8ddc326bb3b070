-- What "in order" says, as facts about every holder, processor and page: the form that the proofs use. Rests on Tables. Assumes nothing.
use Prim.Native.Nat.{ℕ, suc, ◌+◌, ◌≤◌, ◌<◌}
use native.Mathlib.Omega.{arith}
use mathlib.Core.Path.{◌≡◌}
use mathlib.Core.Bool.{true, false, not}
use lib.Dec.{eqb}
use mathlib.Core.Logic.{◌⊎◌}
use mathlib.Core.List.{[]}
use lib.ListN.{length, get_or}
use Rattle.lists.proofs.Tables.{Passes}
use Rattle.limits.specs.Limits.{slot_head}
use Rattle.clock.specs.Clocks.{entry_of}
use Rattle.diff.specs.Reading.{read_refusal}
use Rattle.rules.specs.State.{Limits, Counts, Holder, Processor, Lock, Barrier, Applied, Interval, Job, clock_of, copy_of, twin_of, dirty_at, Marks, adds_of, State, clock, own, holder, has_arrived}
use Rattle.rules.specs.Lines.{waits, turn_of}
use Rattle.rules.specs.InOrder.{present, slot_size, present_holder, record_at, same_notice, dirty_pages}
use Rattle.rules.proofs.state.Lines.{Lines}
use Rattle.rules.proofs.state.Waiters.{awaits, turn_at, holder_in}

-- a holder for which the tables have a place
unfoldable pub Within : Limits → Holder → Type 0
Within lim (Processor p) = (1 ≤ p) × (p ≤ lim.processors)
Within lim (Lock l) = l < lim.locks
Within lim Barrier = Unit
Within lim (Applied p g) = (1 ≤ p) × (p ≤ lim.processors) × (g < lim.pages)
Within lim (Interval p i) = (1 ≤ p) × (p ≤ lim.processors) × (1 ≤ i) × (i ≤ lim.intervals)
Within lim (Job k) = k < lim.jobs

-- the lengths of the tables, and that nobody's places are empty
pub record Sized (lim : Limits) (s : State) : Type 0 where
  pub processors : length s.clocks.processors ≡ suc lim.processors
  pub nobody_clock : length (get_or s.clocks.processors 0 []) ≡ 0
  pub locks : length s.clocks.locks ≡ lim.locks
  pub applied : length s.clocks.applied ≡ suc lim.processors
  pub nobody_applied : length (get_or s.clocks.applied 0 []) ≡ 0
  pub applied_row_lem : (p : ℕ) → 1 ≤ p → p ≤ lim.processors → length (get_or s.clocks.applied p []) ≡ lim.pages
  pub intervals : length s.clocks.intervals ≡ suc lim.processors
  pub nobody_interval : length (get_or s.clocks.intervals 0 []) ≡ 0
  pub interval_row_lem : (p : ℕ) → 1 ≤ p → p ≤ lim.processors → length (get_or s.clocks.intervals p []) ≡ suc lim.intervals
  pub no_interval : (p : ℕ) → 1 ≤ p → p ≤ lim.processors → length (clock_of s.clocks (Interval p 0)) ≡ 0
  pub jobs : length s.clocks.jobs ≡ lim.jobs
  pub clocks : (h : Holder) → Within lim h → length (clock_of s.clocks h) ≡ lim.processors
  pub copies : length s.pages.copies ≡ suc lim.processors
  pub nobody_copy : length (get_or s.pages.copies 0 []) ≡ 0
  pub copies_row : (p : ℕ) → 1 ≤ p → p ≤ lim.processors → length (get_or s.pages.copies p []) ≡ lim.pages
  pub copy : (p g : ℕ) → 1 ≤ p → p ≤ lim.processors → g < lim.pages → length (copy_of s.pages p g) ≡ lim.words
  pub twins : length s.pages.twins ≡ suc lim.processors
  pub nobody_twin : length (get_or s.pages.twins 0 []) ≡ 0
  pub twins_row : (p : ℕ) → 1 ≤ p → p ≤ lim.processors → length (get_or s.pages.twins p []) ≡ lim.pages
  pub twin : (p g : ℕ) → 1 ≤ p → p ≤ lim.processors → g < lim.pages → length (twin_of s.pages p g) ≡ lim.words
  pub dirty : length s.pages.dirty ≡ suc lim.processors
  pub nobody_dirty : length (get_or s.pages.dirty 0 []) ≡ 0
  pub dirty_row : (p : ℕ) → 1 ≤ p → p ≤ lim.processors → length (get_or s.pages.dirty p []) ≡ lim.pages
  pub slots : length s.records.slots ≡ lim.records
  pub slot : (i : ℕ) → i < lim.records → length (get_or s.records.slots i []) ≡ slot_size lim
  pub few_standing : s.records.standing ≤ lim.records
  pub holders : length s.marks.holders ≡ lim.locks
  pub arrived : length s.marks.arrived ≡ suc lim.processors
  pub awaited : length s.marks.awaited ≡ suc lim.processors
  pub turns : length s.marks.turns ≡ suc lim.processors
  pub posted : length s.shared.posted ≡ lim.tallies
  pub values : length s.shared.values ≡ lim.jobs
  pub adds : length s.shared.adds ≡ suc lim.processors
  pub nobody_adds : length (get_or s.shared.adds 0 []) ≡ 0
  pub adds_row : (p : ℕ) → 1 ≤ p → p ≤ lim.processors → length (get_or s.shared.adds p []) ≡ lim.tallies

-- a record that stands: a present processor and page, a made interval, a legal diff that fits its slot
pub record RecordSound (lim : Limits) (s : State) (i : ℕ) : Type 0 where
  pub processor : present s (record_at s i).processor ≡ true
  pub page : (record_at s i).page < s.counts.pages
  pub some_interval : 1 ≤ (record_at s i).interval
  pub made_interval : (record_at s i).interval ≤ own s (record_at s i).processor
  pub fits : slot_head + get_or (get_or s.records.slots i []) 3 0 ≤ slot_size lim
  pub legal : read_refusal lim.words (record_at s i).diff ≡ 0

-- the lines of waiters, by the counts and the marks: processor k + 1 waits for a present lock that another holds, has not arrived, and stands
-- where its turn says
pub record LinesInOrder (n : Counts) (m : Marks) : Type 0 where
  pub lines : Lines n.processors (awaits m) (turn_at m)
  pub for_present : (k l : ℕ) → k < n.processors → awaits m k ≡ suc l → l < n.locks
  pub for_held : (k l : ℕ) → k < n.processors → awaits m k ≡ suc l → holder_in m l ≡ 0 → ⊥
  pub by_another : (k l : ℕ) → k < n.processors → awaits m k ≡ suc l → holder_in m l ≡ suc k → ⊥
  pub not_arrived : (k l : ℕ) → k < n.processors → awaits m k ≡ suc l → not (eqb (get_or m.arrived (suc k) 0) 0) ≡ false

pub record InOrder (lim : Limits) (s : State) : Type 0 where
  pub sized : Sized lim s
  pub some_processor : 1 ≤ s.counts.processors
  pub processors_fit : s.counts.processors ≤ lim.processors
  pub some_page : 1 ≤ s.counts.pages
  pub pages_fit : s.counts.pages ≤ lim.pages
  pub some_lock : 1 ≤ s.counts.locks
  pub locks_fit : s.counts.locks ≤ lim.locks
  pub absent_clock : (h : Holder) (q : ℕ) → present_holder s h ≡ false → entry_of (clock_of s.clocks h) q ≡ 0
  pub absent_entry : (h : Holder) (q : ℕ) → present s q ≡ false → entry_of (clock_of s.clocks h) q ≡ 0
  pub absent_copy : (p g o : ℕ) → present_holder s (Applied p g) ≡ false → get_or (copy_of s.pages p g) o 0 ≡ 0
  pub absent_twin : (p g o : ℕ) → present_holder s (Applied p g) ≡ false → get_or (twin_of s.pages p g) o 0 ≡ 0
  pub absent_clean : (p g : ℕ) → present_holder s (Applied p g) ≡ false → dirty_at s.pages p g ≡ false
  pub absent_not_arrived : (p : ℕ) → 1 ≤ p → present s p ≡ false → has_arrived s p ≡ false
  pub absent_not_held : (l : ℕ) → present_holder s (Lock l) ≡ false → holder s l ≡ 0
  pub absent_awake : (p : ℕ) → 1 ≤ p → present s p ≡ false → waits s.marks p ≡ false
  pub absent_turn : (p : ℕ) → 1 ≤ p → present s p ≡ false → turn_of s.marks p ≡ 0
  pub absent_adds : (p t : ℕ) → 1 ≤ p → present s p ≡ false → adds_of s.shared p t ≡ 0
  pub later_interval : (p i q : ℕ) → own s p < i → entry_of (clock_of s.clocks (Interval p i)) q ≡ 0
  pub known : (h : Holder) (q : ℕ) → entry_of (clock_of s.clocks h) q ≤ own s q
  pub own_fits_lem : (p : ℕ) → own s p ≤ lim.intervals
  pub applied_known_lem : (p g q : ℕ) → entry_of (clock_of s.clocks (Applied p g)) q ≤ entry_of (clock s p) q
  pub record_sound_lem : (i : ℕ) → i < s.records.standing → RecordSound lim s i
  pub distinct : (i j : ℕ) → i < s.records.standing → j < i → same_notice (record_at s i) (record_at s j) ≡ false
  pub room : s.records.standing + dirty_pages s ≤ lim.records
  pub dirty_has_interval : (p g : ℕ) → dirty_at s.pages p g ≡ true → own s p < lim.intervals
  pub holder_present : (l : ℕ) → (holder s l ≡ 0) ⊎ (present s (holder s l) ≡ true)
  pub someone_missing_lem : Passes s.counts.processors (λ k. not (has_arrived s (suc k)))
  pub lines : LinesInOrder s.counts s.marks
  pub holder_away : (l : ℕ) → (holder s l ≡ 0) ⊎ (has_arrived s (holder s l) ≡ false)
  pub first_there : (lim.jobs ≡ 0) ⊎ (s.marks.first < lim.jobs)
  pub few_jobs : s.marks.jobs ≤ lim.jobs

-- ---- what follows at once

module _ (lim : Limits) (s : State) (o : InOrder lim s) where
  -- the standing records have their slots
  pub slots_enough : s.records.standing ≤ length s.records.slots
  slots_enough = omega (arith, o.sized.slots, o.sized.few_standing)

  -- a present processor's copy of a present page has all its words, and so has its twin
  pub whole_copy : (p g : ℕ) → 1 ≤ p → p ≤ s.counts.processors → g < s.counts.pages → length (copy_of s.pages p g) ≡ lim.words
  whole_copy p g h k l = o.sized.copy p g h (omega (arith, k, o.processors_fit)) (omega (arith, l, o.pages_fit))

  pub whole_twin : (p g : ℕ) → 1 ≤ p → p ≤ s.counts.processors → g < s.counts.pages → length (twin_of s.pages p g) ≡ lim.words
  whole_twin p g h k l = o.sized.twin p g h (omega (arith, k, o.processors_fit)) (omega (arith, l, o.pages_fit))
