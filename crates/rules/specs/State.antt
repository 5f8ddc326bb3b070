-- Document 01, "The mainframe": the state of one mainframe. Processors (document 01: cards) and intervals are numbered from 1 and keep
-- those numbers as places of tables; place 0 is nobody's, and no rule uses it. Pages and locks are numbered from 0. Assumes nothing.
use Rattle.std.specs.Prelude.{ℕ, ◌+◌, Bool, not, List, [], ◌∷◌, ◌++◌, map, length, get_or, take, drop, eqb}
use Rattle.lists.specs.Tables.{put, cell, put_cell}
use Rattle.limits.specs.Limits.{processor_limit, page_limit, page_width, lock_limit, record_limit, interval_limit, tally_limit, job_limit, slot_head}
use Rattle.clock.specs.Clocks.{entry_of}

-- how many processors, pages, words of a page, locks, records, intervals of a processor, tallies and jobs of the queue there can be
pub record Limits : Type 0 where
  pub processors : ℕ
  pub pages : ℕ
  pub words : ℕ
  pub locks : ℕ
  pub records : ℕ
  pub intervals : ℕ
  pub tallies : ℕ
  pub jobs : ℕ

-- those of document 01, with document 02's tallies and queue
unfoldable pub mainframe : Limits
mainframe =
    record {
      processors = processor_limit;
      pages = page_limit;
      words = page_width;
      locks = lock_limit;
      records = record_limit;
      intervals = interval_limit;
      tallies = tally_limit;
      jobs = job_limit;
    }

-- how many processors, pages and locks the opening gave: the others are absent
pub record Counts : Type 0 where
  pub processors : ℕ
  pub pages : ℕ
  pub locks : ℕ

-- whoever has a clock: "Each card has a clock, and for each page an applied clock. A lock has a clock. The barrier has a clock. Each
-- interval keeps the clock of its card just after closing". L9: a job, by its place in the queue, "the value with the card's clock"
pub data Holder : Type 0 where
  Processor : ℕ → Holder
  Lock : ℕ → Holder
  Barrier : Holder
  Applied : ℕ → ℕ → Holder
  Interval : ℕ → ℕ → Holder
  Job : ℕ → Holder

pub record Clocks : Type 0 where
  pub processors : List (List ℕ)
  pub locks : List (List ℕ)
  pub barrier : List ℕ
  pub applied : List (List (List ℕ))
  pub intervals : List (List (List ℕ))
  pub jobs : List (List ℕ)

-- the clock of a holder
unfoldable pub clock_of : Clocks → Holder → List ℕ
clock_of c (Processor p) = get_or c.processors p []
clock_of c (Lock l) = get_or c.locks l []
clock_of c Barrier = c.barrier
clock_of c (Applied p g) = cell [] c.applied p g
clock_of c (Interval p i) = cell [] c.intervals p i
clock_of c (Job k) = get_or c.jobs k []

-- the clocks with one of them replaced
unfoldable pub with_clock : Clocks → Holder → List ℕ → Clocks
with_clock c (Processor p) v =
    record { processors = put [] c.processors p v; locks = c.locks; barrier = c.barrier; applied = c.applied; intervals = c.intervals; jobs = c.jobs }
with_clock c (Lock l) v =
    record { processors = c.processors; locks = put [] c.locks l v; barrier = c.barrier; applied = c.applied; intervals = c.intervals; jobs = c.jobs }
with_clock c Barrier v =
    record { processors = c.processors; locks = c.locks; barrier = v; applied = c.applied; intervals = c.intervals; jobs = c.jobs }
with_clock c (Applied p g) v =
    record { processors = c.processors; locks = c.locks; barrier = c.barrier; applied = put_cell [] c.applied p g v; intervals = c.intervals; jobs = c.jobs }
with_clock c (Interval p i) v =
    record { processors = c.processors; locks = c.locks; barrier = c.barrier; applied = c.applied; intervals = put_cell [] c.intervals p i v; jobs = c.jobs }
with_clock c (Job k) v =
    record { processors = c.processors; locks = c.locks; barrier = c.barrier; applied = c.applied; intervals = c.intervals; jobs = put [] c.jobs k v }

-- a clock of which every entry is 0
unfoldable pub cleared : List ℕ → List ℕ
cleared c = map (λ e. 0) c

-- the pages by processor and page: "A page of a card is clean or dirty; a dirty one has a twin". A mark is set when it is not 0
pub record Pages : Type 0 where
  pub copies : List (List (List ℕ))
  pub twins : List (List (List ℕ))
  pub dirty : List (List ℕ)

-- the copy of page g that processor p has
unfoldable pub copy_of : Pages → ℕ → ℕ → List ℕ
copy_of m p g = cell [] m.copies p g

-- its twin
unfoldable pub twin_of : Pages → ℕ → ℕ → List ℕ
twin_of m p g = cell [] m.twins p g

-- whether it is dirty
unfoldable pub dirty_at : Pages → ℕ → ℕ → Bool
dirty_at m p g = not (eqb (cell 0 m.dirty p g) 0)

-- "A change record has a card, an interval number, a page and a change"
pub record Record : Type 0 where
  pub processor : ℕ
  pub interval : ℕ
  pub page : ℕ
  pub diff : List ℕ

-- the slots of the records; the first `standing` of them hold a record, the others what they held
pub record Records : Type 0 where
  pub standing : ℕ
  pub slots : List (List ℕ)

-- a slot's bytes: processor, interval, page, the diff's length and the diff
unfoldable pub slot_bytes : Record → List ℕ
slot_bytes r = r.processor ∷ r.interval ∷ r.page ∷ length r.diff ∷ r.diff

-- the record in a slot
unfoldable pub record_in : List ℕ → Record
record_in slot =
    record { processor = get_or slot 0 0; interval = get_or slot 1 0; page = get_or slot 2 0; diff = take (get_or slot 3 0) (drop slot_head slot) }

-- the records that stand, in the order in which they were made
unfoldable pub records_of : Records → List Record
records_of r = map record_in (take r.standing r.slots)

-- the first bytes of a slot replaced, the others kept
unfoldable pub laid_over : List ℕ → List ℕ → List ℕ
laid_over bytes slot = bytes ++ drop (length bytes) slot

-- one record more
unfoldable pub appended : Records → Record → Records
appended r new =
    record { standing = r.standing + 1; slots = put [] r.slots r.standing (laid_over (slot_bytes new) (get_or r.slots r.standing [])) }

-- "A lock has a holder. The barrier has an arrived mark for each card and a mark that collection is wanted". "The lock's record gains its
-- line of waiters" (document 02, L1), which is kept with those who stand in it, by processor: the lock that it waits for, plus 1, or 0; and
-- its turn, how many of that lock's waiters stand before it. The queue (L9): the place of the oldest job, and how many jobs wait
pub record Marks : Type 0 where
  pub holders : List ℕ
  pub arrived : List ℕ
  pub wanted : ℕ
  pub awaited : List ℕ
  pub turns : List ℕ
  pub first : ℕ
  pub jobs : ℕ

-- the marks with other arrived marks, the rest kept
abbrev pub with_arrived : Marks → List ℕ → Marks
with_arrived m l = record { holders = m.holders; arrived = l; wanted = m.wanted; awaited = m.awaited; turns = m.turns; first = m.first; jobs = m.jobs }

-- with another wish
abbrev pub with_wanted : Marks → ℕ → Marks
with_wanted m w = record { holders = m.holders; arrived = m.arrived; wanted = w; awaited = m.awaited; turns = m.turns; first = m.first; jobs = m.jobs }

-- with another holder of a lock
unfoldable pub with_holder : Marks → ℕ → ℕ → Marks
with_holder m l p = record { holders = put 0 m.holders l p; arrived = m.arrived; wanted = m.wanted; awaited = m.awaited; turns = m.turns; first = m.first; jobs = m.jobs }

-- with other waiters and turns
abbrev pub with_lines : Marks → List ℕ → List ℕ → Marks
with_lines m a t = record { holders = m.holders; arrived = m.arrived; wanted = m.wanted; awaited = a; turns = t; first = m.first; jobs = m.jobs }

-- with another place of the oldest job, and another number of jobs
abbrev pub with_queue : Marks → ℕ → ℕ → Marks
with_queue m f j = record { holders = m.holders; arrived = m.arrived; wanted = m.wanted; awaited = m.awaited; turns = m.turns; first = f; jobs = j }

-- what the processors share beside the pages. The tallies (document 02, L4): of each "the total posted at the last completed round", and the adds of
-- each processor since. The queue (L9): of each of its places the value of the job there
pub record Shared : Type 0 where
  pub posted : List ℕ
  pub adds : List (List ℕ)
  pub values : List ℕ

-- the posted total of a tally
unfoldable pub posted_of : Shared → ℕ → ℕ
posted_of h t = get_or h.posted t 0

-- what a processor has added to it since
unfoldable pub adds_of : Shared → ℕ → ℕ → ℕ
adds_of h p t = cell 0 h.adds p t

-- the value of the job at a place of the queue
abbrev pub job_value : Shared → ℕ → ℕ
job_value h k = get_or h.values k 0

-- with another value there
abbrev pub with_job_value : Shared → ℕ → ℕ → Shared
with_job_value h k v = record { posted = h.posted; adds = h.adds; values = put 0 h.values k v }

pub record State : Type 0 where
  pub counts : Counts
  pub clocks : Clocks
  pub pages : Pages
  pub records : Records
  pub marks : Marks
  pub shared : Shared

-- the state with other clocks, the rest kept
abbrev pub with_clocks : State → Clocks → State
with_clocks s c = record { counts = s.counts; clocks = c; pages = s.pages; records = s.records; marks = s.marks; shared = s.shared }

-- with other pages
abbrev pub with_pages : State → Pages → State
with_pages s m = record { counts = s.counts; clocks = s.clocks; pages = m; records = s.records; marks = s.marks; shared = s.shared }

-- with other records
abbrev pub with_records : State → Records → State
with_records s r = record { counts = s.counts; clocks = s.clocks; pages = s.pages; records = r; marks = s.marks; shared = s.shared }

-- with other marks
abbrev pub with_marks : State → Marks → State
with_marks s m = record { counts = s.counts; clocks = s.clocks; pages = s.pages; records = s.records; marks = m; shared = s.shared }

-- with other shared values
abbrev pub with_shared : State → Shared → State
with_shared s h = record { counts = s.counts; clocks = s.clocks; pages = s.pages; records = s.records; marks = s.marks; shared = h }

-- the clock of a processor, and "own entry": the entry for itself in it
unfoldable pub clock : State → ℕ → List ℕ
clock s p = clock_of s.clocks (Processor p)

-- "own entry": the entry of a processor for itself in its clock
unfoldable pub own : State → ℕ → ℕ
own s p = entry_of (clock s p) p

-- the records that stand
unfoldable pub standing : State → List Record
standing s = records_of s.records

-- the holder of a lock; 0 is nobody
unfoldable pub holder : State → ℕ → ℕ
holder s l = get_or s.marks.holders l 0

-- whether a processor has arrived in the open round
unfoldable pub has_arrived : State → ℕ → Bool
has_arrived s p = not (eqb (get_or s.marks.arrived p 0) 0)
