-- The parts of the table of refusals that the crate's functions answer, in the words of the rules. No row but 1 looks at words, at
-- slots or, but for the own entry, at clocks, so the parts are those of the state that the marks alone show. Assumes nothing.
use Rattle.std.specs.Prelude.{ℕ, ◌+◌, ◌*◌, Bool, cond, not, ◌&&◌, ◌||◌, List, [], ◌==◌, nat_le, nat_lt}
use Rattle.rules.specs.State.{mainframe, State, has_arrived}
use Rattle.rules.specs.InOrder.{present, dirty_pages}
use Rattle.rules.specs.Lines.{waits}
use Rattle.rules.specs.Refusals.{Write, Acquire, Release, Arrive, Enqueue, Dequeue, known_kind, uses_value, late_refusal}
use Rattle.layout.specs.Areas.{state_in}

-- the state of the mainframe with these marks, its clocks, words and slots left out
unfoldable pub seen : List ℕ → State
seen marks = state_in mainframe [] [] [] marks

-- of 5: below which number the object of a known kind is
unfoldable pub bound_of : State → ℕ → ℕ
bound_of s kind =
    cond (nat_le kind 2) (s.counts.pages * mainframe.words)
    (cond (nat_le kind 4) s.counts.locks
    (cond (nat_le kind 6) 1
    (cond (nat_le kind 9) mainframe.tallies
    1)))

-- 5: whether object and value fit a known kind
unfoldable pub fields_in_range : State → ℕ → ℕ → ℕ → Bool
fields_in_range s kind object value = nat_lt object (bound_of s kind) && (uses_value kind || value == 0)

-- the rows 7 to 10 and 18 to 20, by the step's kind; none looks at the value, only 9 at the own entry, and 19 and 20 not at the processor
unfoldable pub refusal_of_kind : State → ℕ → ℕ → ℕ → ℕ → ℕ
refusal_of_kind s own kind processor object =
    cond (kind == 2) (late_refusal mainframe s own processor (Write object 0))
    (cond (kind == 3) (late_refusal mainframe s 0 processor (Acquire object))
    (cond (kind == 4) (late_refusal mainframe s 0 processor (Release object))
    (cond (kind == 5) (late_refusal mainframe s 0 processor Arrive)
    (cond (kind == 10) (late_refusal mainframe s 0 0 (Enqueue 0))
    (cond (kind == 11) (late_refusal mainframe s 0 0 Dequeue)
    0)))))

-- 6 and 17: whether a processor has not arrived and does not wait
unfoldable pub is_free : State → ℕ → Bool
is_free s processor = not (has_arrived s processor) && not (waits s.marks processor)

-- 4, 6 and 17: whether it is present too
unfoldable pub may_act : State → ℕ → Bool
may_act s processor = present s processor && is_free s processor

-- whether no row from 3 to 6 refuses, and not 17
unfoldable pub step_in_range : State → ℕ → ℕ → ℕ → ℕ → Bool
step_in_range s kind processor object value = known_kind kind && fields_in_range s kind object value && may_act s processor

-- the rows 3 to 6 and 17; 0 where none refuses
unfoldable pub early_refusal : State → ℕ → ℕ → ℕ → ℕ → ℕ
early_refusal s kind processor object value =
    cond (not (known_kind kind)) 3
    (cond (not (present s processor)) 4
    (cond (not (fields_in_range s kind object value)) 5
    (cond (has_arrived s processor) 6
    (cond (waits s.marks processor) 17
    0))))

-- the records that stand, and one for each dirty page
unfoldable pub records_to_come : State → ℕ
records_to_come s = s.records.standing + dirty_pages s

-- whether one record more has room even if every page of every processor is dirty
unfoldable pub room_if_all_dirty : State → Bool
room_if_all_dirty s = nat_lt (s.records.standing + s.counts.processors * s.counts.pages) mainframe.records
