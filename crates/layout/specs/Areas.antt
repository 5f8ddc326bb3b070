-- The four areas as a state, and a state as the four areas. Assumes nothing.
use Rattle.std.specs.Prelude.{ℕ, suc, ◌+◌, ◌-◌, ◌*◌, ◌/◌, ◌%◌, Bool, ◌&&◌, List, [], ◌∷◌, ◌++◌, length, get_or, drop, eqb}
use Rattle.limits.specs.Places.{processors_place, pages_place, locks_place, standing_place, standing_high, wanted_place, first_arrived}
use Rattle.rules.specs.InOrder.{slot_size}
use Rattle.rules.specs.State.{Limits, mainframe, Holder, Processor, Lock, Barrier, Applied, Interval, Job, Clocks, Pages, Records, Marks, Shared, State}
use Rattle.lists.specs.Tables.{tabulate}
use Rattle.layout.specs.Layout.{row_of, per_processor, join_rows}

-- ---- which row a clock has: the barrier's first, then the processors', the locks', the applied clocks, the intervals' and the jobs'

-- behind the processors
unfoldable pub lock_row : Limits → ℕ → ℕ
lock_row lim l = lim.processors + 1 + l

-- behind the locks, a row for each page of each processor
unfoldable pub applied_row : Limits → ℕ → ℕ → ℕ
applied_row lim p g = lim.processors + 1 + lim.locks + (p - 1) * lim.pages + g

-- behind the applied clocks, a row for each interval of each processor
unfoldable pub interval_row : Limits → ℕ → ℕ → ℕ
interval_row lim p i = lim.processors + 1 + lim.locks + lim.processors * lim.pages + (p - 1) * lim.intervals + (i - 1)

-- behind the intervals, a row for each place of the queue
unfoldable pub job_row : Limits → ℕ → ℕ
job_row lim k = lim.processors + 1 + lim.locks + lim.processors * lim.pages + lim.processors * lim.intervals + k

-- the row of any holder's clock
unfoldable pub clock_row : Limits → Holder → ℕ
clock_row lim Barrier = 0
clock_row lim (Processor p) = p
clock_row lim (Lock l) = lock_row lim l
clock_row lim (Applied p g) = applied_row lim p g
clock_row lim (Interval p i) = interval_row lim p i
clock_row lim (Job k) = job_row lim k

-- all rows of clocks
unfoldable pub clock_rows : Limits → ℕ
clock_rows lim = lim.processors + 1 + lim.locks + lim.processors * lim.pages + lim.processors * lim.intervals + lim.jobs

-- ---- which row of words a page has: the copies, then the twins

-- a row for each page of each processor
unfoldable pub copy_row : Limits → ℕ → ℕ → ℕ
copy_row lim p g = (p - 1) * lim.pages + g

-- the same behind the copies
unfoldable pub twin_row : Limits → ℕ → ℕ → ℕ
twin_row lim p g = lim.processors * lim.pages + copy_row lim p g

-- all rows of words
unfoldable pub word_rows : Limits → ℕ
word_rows lim = lim.processors * lim.pages + lim.processors * lim.pages

-- ---- where a tally stands, behind the twins: the posted totals, then the adds of each processor

-- of tally t the posted total, for k 0, or the adds of processor k
unfoldable pub tally_place : Limits → ℕ → ℕ → ℕ
tally_place lim k t = lim.words * word_rows lim + k * lim.tallies + t

-- ---- where the values of jobs stand, behind the tallies

-- the value of the job at place k of the queue
unfoldable pub value_place : Limits → ℕ → ℕ
value_place lim k = lim.words * word_rows lim + (lim.processors + 1) * lim.tallies + k

-- all words
unfoldable pub word_places : Limits → ℕ
word_places lim = lim.words * word_rows lim + (lim.processors + 1) * lim.tallies + lim.jobs

-- ---- where a mark stands: processors, pages, locks, records standing, collection wanted, arrived, holders, dirty, locks waited for, turns, and the
-- queue's two

-- the arrived mark of processor p
unfoldable pub arrived_place : Limits → ℕ → ℕ
arrived_place lim p = first_arrived + (p - 1)

-- the holder of lock l
unfoldable pub holder_place : Limits → ℕ → ℕ
holder_place lim l = first_arrived + lim.processors + l

-- the dirty mark of page g of processor p
unfoldable pub dirty_place : Limits → ℕ → ℕ → ℕ
dirty_place lim p g = first_arrived + lim.processors + lim.locks + (p - 1) * lim.pages + g

-- the lock that processor p waits for, plus 1
unfoldable pub awaited_place : Limits → ℕ → ℕ
awaited_place lim p = first_arrived + lim.processors + lim.locks + lim.processors * lim.pages + (p - 1)

-- the turn of processor p
unfoldable pub turn_place : Limits → ℕ → ℕ
turn_place lim p = first_arrived + lim.processors + lim.locks + lim.processors * lim.pages + lim.processors + (p - 1)

-- the place of the oldest job of the queue
unfoldable pub first_place : Limits → ℕ
first_place lim = first_arrived + lim.processors + lim.locks + lim.processors * lim.pages + lim.processors + lim.processors

-- how many jobs wait
unfoldable pub jobs_place : Limits → ℕ
jobs_place lim = first_place lim + 1

-- all marks
unfoldable pub mark_places : Limits → ℕ
mark_places lim = jobs_place lim + 1

-- how many records stand: two bytes, the low one first
unfoldable pub standing_count : List ℕ → ℕ
standing_count m = get_or m standing_place 0 + 256 * get_or m standing_high 0

-- ---- decode: the state that the areas hold

-- the clocks by holder
unfoldable pub clocks_in : Limits → List ℕ → Clocks
clocks_in lim c =
    record {
      processors = per_processor lim.processors (λ p. row_of lim.processors c (clock_row lim (Processor p)));
      locks = tabulate lim.locks (λ l. row_of lim.processors c (clock_row lim (Lock l)));
      barrier = row_of lim.processors c (clock_row lim Barrier);
      applied = per_processor lim.processors (λ p. tabulate lim.pages (λ g. row_of lim.processors c (clock_row lim (Applied p g))));
      intervals = per_processor lim.processors (λ p. per_processor lim.intervals (λ i. row_of lim.processors c (clock_row lim (Interval p i))));
      jobs = tabulate lim.jobs (λ k. row_of lim.processors c (clock_row lim (Job k)));
    }

-- copies and twins from the words, dirty marks from the marks
unfoldable pub pages_in : Limits → List ℕ → List ℕ → Pages
pages_in lim w m =
    record {
      copies = per_processor lim.processors (λ p. tabulate lim.pages (λ g. row_of lim.words w (copy_row lim p g)));
      twins = per_processor lim.processors (λ p. tabulate lim.pages (λ g. row_of lim.words w (twin_row lim p g)));
      dirty = per_processor lim.processors (λ p. tabulate lim.pages (λ g. get_or m (dirty_place lim p g) 0));
    }

-- the slots from the records, their number from the marks
unfoldable pub records_in : Limits → List ℕ → List ℕ → Records
records_in lim r m = record { standing = standing_count m; slots = tabulate lim.records (λ i. row_of (slot_size lim) r i) }

-- holders, arrived marks, the wish, who waits for which lock at which turn, and the queue's oldest job and how many wait
unfoldable pub marks_in : Limits → List ℕ → Marks
marks_in lim m =
    record {
      holders = tabulate lim.locks (λ l. get_or m (holder_place lim l) 0);
      arrived = 0 ∷ tabulate lim.processors (λ k. get_or m (arrived_place lim (suc k)) 0);
      wanted = get_or m wanted_place 0;
      awaited = 0 ∷ tabulate lim.processors (λ k. get_or m (awaited_place lim (suc k)) 0);
      turns = 0 ∷ tabulate lim.processors (λ k. get_or m (turn_place lim (suc k)) 0);
      first = get_or m (first_place lim) 0;
      jobs = get_or m (jobs_place lim) 0;
    }

-- the tallies and the values of the jobs from the words
unfoldable pub shared_in : Limits → List ℕ → Shared
shared_in lim w =
    record {
      posted = tabulate lim.tallies (λ t. get_or w (tally_place lim 0 t) 0);
      adds = per_processor lim.processors (λ p. tabulate lim.tallies (λ t. get_or w (tally_place lim p t) 0));
      values = tabulate lim.jobs (λ k. get_or w (value_place lim k) 0);
    }

-- the whole state
unfoldable pub state_in : Limits → List ℕ → List ℕ → List ℕ → List ℕ → State
state_in lim c w r m =
    record {
      counts = record { processors = get_or m processors_place 0; pages = get_or m pages_place 0; locks = get_or m locks_place 0 };
      clocks = clocks_in lim c;
      pages = pages_in lim w m;
      records = records_in lim r m;
      marks = marks_in lim m;
      shared = shared_in lim w;
    }

-- ---- encode: the areas that hold a state

-- the clocks, row by row
unfoldable pub clock_bytes : Clocks → List ℕ
clock_bytes c =
    c.barrier ++ join_rows c.processors ++ join_rows c.locks ++ join_rows (join_rows c.applied) ++ join_rows (join_rows c.intervals) ++ join_rows c.jobs

-- the copies, then the twins, then the tallies, then the values of the jobs
unfoldable pub area_words : Pages → Shared → List ℕ
area_words m h = join_rows (join_rows m.copies) ++ join_rows (join_rows m.twins) ++ h.posted ++ join_rows h.adds ++ h.values

-- the slots, one after the other
unfoldable pub record_bytes : Records → List ℕ
record_bytes r = join_rows r.slots

-- the marks in their order
unfoldable pub mark_bytes : State → List ℕ
mark_bytes s =
    s.counts.processors ∷ s.counts.pages ∷ s.counts.locks ∷ s.records.standing % 256 ∷ s.records.standing / 256 ∷ s.marks.wanted
    ∷ drop 1 s.marks.arrived ++ s.marks.holders ++ join_rows s.pages.dirty ++ drop 1 s.marks.awaited ++ drop 1 s.marks.turns
    ++ (s.marks.first ∷ s.marks.jobs ∷ [])

-- ---- "its size is the fixed one"

-- each area has the size of its rows
unfoldable pub sizes_right : Limits → List ℕ → List ℕ → List ℕ → List ℕ → Bool
sizes_right lim c w r m =
    eqb (length c) (lim.processors * clock_rows lim)
    && eqb (length w) (word_places lim)
    && eqb (length r) (slot_size lim * lim.records)
    && eqb (length m) (mark_places lim)

-- ---- the four areas of the mainframe as one

-- the four lent areas
pub record Areas : Type 0 where
  pub clocks : List ℕ
  pub words : List ℕ
  pub records : List ℕ
  pub marks : List ℕ

-- the areas of these contents
unfoldable pub areas : List ℕ → List ℕ → List ℕ → List ℕ → Areas
areas c w r m = record { clocks = c; words = w; records = r; marks = m }

-- the state that areas of the right sizes hold
unfoldable pub held_state : Areas → State
held_state a = state_in mainframe a.clocks a.words a.records a.marks

-- the areas that hold a state
unfoldable pub holding : State → Areas
holding s = areas (clock_bytes s.clocks) (area_words s.pages s.shared) (record_bytes s.records) (mark_bytes s)

-- whether each of them has its fixed size
unfoldable pub right_sizes : Areas → Bool
right_sizes a = sizes_right mainframe a.clocks a.words a.records a.marks
