-- The conditions of a state in order as tests on the places of the four areas: clocks c, words w, and, by the crates inorder_marks and
-- inorder_records, marks m and records r. Places, and the numbers k of processors in these tests, count from 0: k stands for processor k + 1.
-- Assumes nothing.
use Rattle.std.specs.Prelude.{ℕ, ◌+◌, ◌-◌, ◌*◌, Bool, ◌&&◌, List, get_or, leb}
use Rattle.lists.specs.Tables.{every, tabulate}
use Rattle.limits.specs.Limits.{interval_limit, job_limit, lock_limit, page_limit, page_width, processor_limit, record_limit, tally_limit}
use Rattle.limits.specs.inner.Sizes.{clock_width, copy_limit, first_applied_row, first_interval_row, first_job_row, first_lock_row, own_step, first_tally}
use Rattle.layout.specs.Layout.{row_of}
use Rattle.layout.specs.Areas.{standing_count}
use Rattle.layout.specs.inner.Marks.{lock_count, page_count, processor_count}
use Rattle.inorder_marks.specs.inner.Tests.{zero_at, pages_of, marks_hold_with}
use Rattle.inorder_records.specs.inner.Tests.{own_fits, records_hold_with}

-- ---- clocks: rows of eight entries

-- the i-th entry of the row at a place does not exceed that of another clock
unfoldable pub entry_within : List ℕ → List ℕ → ℕ → ℕ → Bool
entry_within most c at i = leb (get_or c (at + i) 0) (get_or most i 0)

-- no entry of the i-th row from a row on exceeds that of another clock
unfoldable pub is_row_within : List ℕ → List ℕ → ℕ → ℕ → Bool
is_row_within most c first i = every processor_limit (entry_within most c (clock_width * (first + i)))

-- of n rows the first `there` do not exceed another clock, and the others are zeros
unfoldable pub rows_hold : List ℕ → List ℕ → ℕ → ℕ → ℕ → Bool
rows_hold most c first n there = every there (is_row_within most c first) && every (clock_width * (n - there)) (zero_at c (clock_width * (first + there)))

-- the own entries of the processors
unfoldable pub own_entries : List ℕ → List ℕ
own_entries c = tabulate processor_limit (λ k. get_or c (clock_width + own_step * k) 0)

-- the clocks applied to the pages of one processor do not exceed its clock, and those of absent pages are zeros
unfoldable pub applied_hold : List ℕ → ℕ → ℕ → ℕ → Bool
applied_hold c processors pages k = rows_hold (row_of clock_width c (k + 1)) c (first_applied_row + page_limit * k) page_limit (pages_of processors pages k)

-- the clocks of the intervals of one processor do not exceed the own entries, and those of intervals not made are zeros
unfoldable pub intervals_hold : List ℕ → List ℕ → ℕ → Bool
intervals_hold own c k = rows_hold own c (first_interval_row + interval_limit * k) interval_limit (get_or own k 0)

-- all clocks: the barrier's and the processors', the locks', those of every place of the queue, the applied ones, the intervals'
unfoldable pub clocks_hold_with : List ℕ → List ℕ → ℕ → ℕ → ℕ → Bool
clocks_hold_with own c processors pages locks =
    every processor_limit (own_fits own)
    && (rows_hold own c 0 first_lock_row (processors + 1)
    && (rows_hold own c first_lock_row lock_limit locks
    && (rows_hold own c first_job_row job_limit job_limit
    && (every processor_limit (applied_hold c processors pages)
    && every processor_limit (intervals_hold own c)))))

-- ---- words: the copies and the twins of absent pages are zeros

-- of one processor, among the copies or among the twins, whose rows begin at row `first`
unfoldable pub words_hold : List ℕ → ℕ → ℕ → ℕ → ℕ → Bool
words_hold w first processors pages k =
    every (page_width * (page_limit - pages_of processors pages k)) (zero_at w (page_width * (first + page_limit * k + pages_of processors pages k)))

-- the adds of absent processors to tallies are zeros
unfoldable pub adds_hold : List ℕ → ℕ → Bool
adds_hold w processors = every (tally_limit * (processor_limit - processors)) (zero_at w (first_tally + tally_limit * (processors + 1)))

-- ---- all four areas

-- counts in range; no more records than there are slots
unfoldable pub counts_hold : ℕ → ℕ → ℕ → ℕ → Bool
counts_hold processors pages locks standing =
    leb 1 processors && (leb processors processor_limit && (leb 1 pages && (leb pages page_limit && (leb 1 locks && (leb locks lock_limit && leb standing record_limit)))))

-- the areas, with the own entries and the counts read from them
unfoldable pub areas_hold_with : List ℕ → List ℕ → List ℕ → List ℕ → List ℕ → ℕ → ℕ → ℕ → ℕ → Bool
areas_hold_with own c w r m processors pages locks standing =
    clocks_hold_with own c processors pages locks
    && (every processor_limit (words_hold w 0 processors pages)
    && (every processor_limit (words_hold w copy_limit processors pages)
    && (adds_hold w processors
    && (marks_hold_with own m processors pages locks standing
    && records_hold_with own r processors pages standing))))

-- all conditions but the sizes
unfoldable pub areas_hold : List ℕ → List ℕ → List ℕ → List ℕ → Bool
areas_hold c w r m =
    counts_hold (processor_count m) (page_count m) (lock_count m) (standing_count m)
    && areas_hold_with (own_entries c) c w r m (processor_count m) (page_count m) (lock_count m) (standing_count m)
