-- The conditions of "in order" as lists of tests, from which one can be taken by its number. Rests on Everywhere. Assumes nothing.
use Prim.Native.Nat.{ℕ, suc}
use mathlib.Core.Path.{◌≡◌, refl}
use mathlib.Core.Bool.{Bool, not, ◌||◌}
use mathlib.Core.List.{List, [], ◌∷◌}
use lib.ListN.{length, get_or}
use lib.Dec.{leb, ltb, eqb}
use Rattle.lists.specs.Tables.{every}
use Rattle.lists.proofs.Conditions.{conjoined}
use Rattle.clock.specs.Clocks.{entry_of}
use Rattle.rules.specs.State.{Limits, Counts, Lock, Applied, Interval, clock_of, copy_of, twin_of, dirty_at, Record, State, own, holder, has_arrived}
use Rattle.rules.specs.Lines.{waits, waits_for, turn_of}
use Rattle.rules.specs.InOrder.{present, every_processor, every_page, every_holder, slot_size, rows_sized, sized, in_range, counts_in_range, present_holder, all_zero, absent_zero, later_intervals_zero, entries_known, applied_known, record_sound, records_sound, room_kept, dirty_have_interval, holders_present, holders_away, queue_sound, someone_missing, stand_before, waiter_sound, apart_in_line, lines_sound, is_in_order}

-- of the size
unfoldable pub sized_tests : Limits → State → List Bool
sized_tests lim s =
    rows_sized lim lim.processors s.clocks.processors
    ∷ eqb (length s.clocks.locks) lim.locks
    ∷ rows_sized lim lim.pages s.clocks.applied
    ∷ rows_sized lim (suc lim.intervals) s.clocks.intervals
    ∷ every_processor lim (λ p. eqb (length (clock_of s.clocks (Interval p 0))) 0)
    ∷ every_holder lim (λ h. eqb (length (clock_of s.clocks h)) lim.processors)
    ∷ rows_sized lim lim.pages s.pages.copies
    ∷ every_page lim (λ p g. eqb (length (copy_of s.pages p g)) lim.words)
    ∷ rows_sized lim lim.pages s.pages.twins
    ∷ every_page lim (λ p g. eqb (length (twin_of s.pages p g)) lim.words)
    ∷ rows_sized lim lim.pages s.pages.dirty
    ∷ eqb (length s.records.slots) lim.records
    ∷ every lim.records (λ i. eqb (length (get_or s.records.slots i [])) (slot_size lim))
    ∷ leb s.records.standing lim.records
    ∷ eqb (length s.marks.holders) lim.locks
    ∷ eqb (length s.marks.arrived) (suc lim.processors)
    ∷ eqb (length s.marks.awaited) (suc lim.processors)
    ∷ eqb (length s.marks.turns) (suc lim.processors)
    ∷ eqb (length s.shared.posted) lim.tallies
    ∷ rows_sized lim lim.tallies s.shared.adds
    ∷ eqb (length s.clocks.jobs) lim.jobs
    ∷ eqb (length s.shared.values) lim.jobs
    ∷ []

-- the test is the conjunction of the list
pub sized_tests_lem : (lim : Limits) (s : State) → sized lim s ≡ conjoined (sized_tests lim s)
unfolding sized sized_tests conjoined
sized_tests_lem lim s = refl

-- of what is absent
unfoldable pub absent_tests : Limits → State → List Bool
absent_tests lim s =
    every_holder lim (λ h. present_holder s h || all_zero (clock_of s.clocks h))
    ∷ every_holder lim (λ h. every_processor lim (λ q. present s q || eqb (entry_of (clock_of s.clocks h) q) 0))
    ∷ every_page lim (λ p g. present_holder s (Applied p g) || all_zero (copy_of s.pages p g))
    ∷ every_page lim (λ p g. present_holder s (Applied p g) || all_zero (twin_of s.pages p g))
    ∷ every_page lim (λ p g. present_holder s (Applied p g) || not (dirty_at s.pages p g))
    ∷ every_processor lim (λ p. present s p || not (has_arrived s p))
    ∷ every lim.locks (λ l. present_holder s (Lock l) || eqb (holder s l) 0)
    ∷ every_processor lim (λ p. present s p || not (waits s.marks p))
    ∷ every_processor lim (λ p. present s p || eqb (turn_of s.marks p) 0)
    ∷ every_processor lim (λ p. present s p || all_zero (get_or s.shared.adds p []))
    ∷ []

-- the test is the conjunction of the list
pub absent_tests_lem : (lim : Limits) (s : State) → absent_zero lim s ≡ conjoined (absent_tests lim s)
unfolding absent_zero absent_tests conjoined
absent_tests_lem lim s = refl

-- of the counts
unfoldable pub counts_tests : Limits → Counts → List Bool
counts_tests lim c = in_range lim.processors c.processors ∷ in_range lim.pages c.pages ∷ in_range lim.locks c.locks ∷ []

-- the test is the conjunction of the list
pub counts_tests_lem : (lim : Limits) (c : Counts) → counts_in_range lim c ≡ conjoined (counts_tests lim c)
unfolding counts_in_range counts_tests conjoined
counts_tests_lem lim c = refl

-- of a record
unfoldable pub record_tests : State → Record → List Bool
record_tests s r =
    present s r.processor ∷ ltb r.page s.counts.pages ∷ leb 1 r.interval ∷ leb r.interval (own s r.processor) ∷ []

-- the test is the conjunction of the list
pub record_tests_lem : (lim : Limits) (s : State) (r : Record) → record_sound lim s r ≡ conjoined (record_tests s r)
unfolding record_sound record_tests conjoined
record_tests_lem lim s r = refl

-- of a waiter of lock l
unfoldable pub waiter_tests : State → ℕ → ℕ → List Bool
waiter_tests s p l =
    not (eqb (holder s l) 0)
    ∷ not (eqb (holder s l) p)
    ∷ not (has_arrived s p)
    ∷ eqb (turn_of s.marks p) (stand_before s.counts.processors s.marks l p)
    ∷ []

-- the test is the conjunction of the list, where p waits
pub waiter_tests_lem : (s : State) (p l : ℕ) → waiter_sound s p l ≡ (not (waits_for s.marks p l) || conjoined (waiter_tests s p l))
unfolding waiter_sound waiter_tests conjoined
waiter_tests_lem s p l = refl

-- of the lines
unfoldable pub line_tests : State → List Bool
line_tests s =
    every s.counts.processors (λ k. leb (get_or s.marks.awaited (suc k) 0) s.counts.locks)
    ∷ every s.counts.processors (λ k. every s.counts.locks (waiter_sound s (suc k)))
    ∷ every s.counts.processors (λ k. every k (λ j. apart_in_line s (suc k) (suc j)))
    ∷ []

-- the test is the conjunction of the list
pub line_tests_lem : (s : State) → lines_sound s ≡ conjoined (line_tests s)
unfolding lines_sound line_tests conjoined
line_tests_lem s = refl

-- all
unfoldable pub order_tests : Limits → State → List Bool
order_tests lim s =
    sized lim s
    ∷ counts_in_range lim s.counts
    ∷ absent_zero lim s
    ∷ later_intervals_zero lim s
    ∷ entries_known lim s
    ∷ applied_known lim s
    ∷ records_sound lim s
    ∷ room_kept lim s
    ∷ dirty_have_interval lim s
    ∷ holders_present lim s
    ∷ someone_missing s
    ∷ lines_sound s
    ∷ holders_away lim s
    ∷ queue_sound lim s
    ∷ []

-- the test is the conjunction of the list
pub order_tests_lem : (lim : Limits) (s : State) → is_in_order lim s ≡ conjoined (order_tests lim s)
unfolding is_in_order order_tests conjoined
order_tests_lem lim s = refl
