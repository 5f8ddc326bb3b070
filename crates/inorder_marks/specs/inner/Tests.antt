-- The conditions of a state in order on its marks, as tests on the places of their area m. Places, and the numbers k of processors in
-- these tests, count from 0: k stands for processor k + 1. Assumes nothing.
use Rattle.std.specs.Prelude.{ℕ, ◌+◌, ◌-◌, ◌*◌, Bool, cond, not, ◌&&◌, ◌||◌, List, get_or, leb, ltb, eqb}
use Rattle.lists.specs.Tables.{every, any, total}
use Rattle.limits.specs.Limits.{interval_limit, job_limit, lock_limit, page_limit, processor_limit, record_limit}
use Rattle.limits.specs.Places.{first_arrived}
use Rattle.limits.specs.inner.Sizes.{first_awaited, first_dirty, first_holder, first_turn}
use Rattle.layout.specs.inner.Marks.{first_mark, jobs_mark}

-- ---- what the tests of other areas share with these

-- the i-th place from `at` on is 0
unfoldable pub zero_at : List ℕ → ℕ → ℕ → Bool
zero_at l at i = eqb (get_or l (at + i) 0) 0

-- the pages that processor k + 1 has: the opened ones, or none where it is absent
unfoldable pub pages_of : ℕ → ℕ → ℕ → ℕ
pages_of processors pages k = cond (ltb k processors) pages 0

-- ---- marks

-- how many pages of processor k + 1 may be dirty: none with own entry 63
unfoldable pub may_be_dirty : List ℕ → ℕ → ℕ → ℕ → ℕ
may_be_dirty own processors pages k = cond (ltb (get_or own k 0) interval_limit) (pages_of processors pages k) 0

-- the dirty marks of the others are 0
unfoldable pub dirty_hold : List ℕ → List ℕ → ℕ → ℕ → ℕ → Bool
dirty_hold own m processors pages k = every (page_limit - may_be_dirty own processors pages k) (zero_at m (first_dirty + page_limit * k + may_be_dirty own processors pages k))

-- the holder of lock l
abbrev pub holder_byte : List ℕ → ℕ → ℕ
holder_byte m l = get_or m (first_holder + l) 0

-- it is a present processor that has not arrived, or 0
unfoldable pub holder_within : List ℕ → ℕ → ℕ → Bool
holder_within m processors l = leb (holder_byte m l) processors && (eqb (holder_byte m l) 0 || zero_at m first_arrived (holder_byte m l - 1))

-- and that of an absent lock is 0
unfoldable pub holders_hold : List ℕ → ℕ → ℕ → Bool
holders_hold m processors locks = every locks (holder_within m processors) && every (lock_limit - locks) (zero_at m (first_holder + locks))

-- no absent processor has arrived, and not every present one
unfoldable pub arrived_hold : List ℕ → ℕ → Bool
arrived_hold m processors = every (processor_limit - processors) (zero_at m (first_arrived + processors)) && any processors (zero_at m first_arrived)

-- 1 for a dirty page, the g-th from a place on
unfoldable pub dirty_count : List ℕ → ℕ → ℕ → ℕ
dirty_count m at g = cond (not (zero_at m at g)) 1 0

-- the dirty pages of one processor
unfoldable pub dirty_of : List ℕ → ℕ → ℕ → ℕ
dirty_of m pages k = total pages (dirty_count m (first_dirty + page_limit * k))

-- records and dirty pages have their place
unfoldable pub room_holds : List ℕ → ℕ → ℕ → ℕ → Bool
room_holds m processors pages standing = leb (standing + total processors (dirty_of m pages)) record_limit

-- ---- lines of waiters

-- the lock that processor k + 1 waits for, plus 1; 0 where it waits for none
abbrev pub awaited_byte : List ℕ → ℕ → ℕ
awaited_byte m k = get_or m (first_awaited + k) 0

-- its turn: how many of that lock's waiters stand before it
abbrev pub turn_byte : List ℕ → ℕ → ℕ
turn_byte m k = get_or m (first_turn + k) 0

-- lock l is held, by another processor than k + 1
unfoldable pub held_by_another : List ℕ → ℕ → ℕ → Bool
held_by_another m k l = not (eqb (get_or m (first_holder + l) 0) 0) && not (eqb (get_or m (first_holder + l) 0) (k + 1))

-- processor k + 1 may wait for lock l: the lock is present and another holds it, and the processor has not arrived
unfoldable pub may_wait : List ℕ → ℕ → ℕ → ℕ → Bool
may_wait m locks k l = ltb l locks && (held_by_another m k l && zero_at m first_arrived k)

-- processor j + 1 waits for the lock of processor k + 1, with a smaller turn
unfoldable pub is_before : List ℕ → ℕ → ℕ → Bool
is_before m k j = eqb (awaited_byte m j) (awaited_byte m k) && ltb (turn_byte m j) (turn_byte m k)

-- 1 for a processor that does
unfoldable pub before_count : List ℕ → ℕ → ℕ → ℕ
before_count m k j = cond (is_before m k j) 1 0

-- how many do
unfoldable pub bytes_before : List ℕ → ℕ → ℕ → ℕ
bytes_before m processors k = total processors (before_count m k)

-- processor j + 1 waits for another lock than processor k + 1, or with another turn
unfoldable pub is_apart : List ℕ → ℕ → ℕ → Bool
is_apart m k j = not (eqb (awaited_byte m j) (awaited_byte m k)) || not (eqb (turn_byte m j) (turn_byte m k))

-- no lower processor stands at the place of processor k + 1, and its turn says how many stand before it
unfoldable pub turn_holds : List ℕ → ℕ → ℕ → Bool
turn_holds m processors k = every k (is_apart m k) && eqb (turn_byte m k) (bytes_before m processors k)

-- processor k + 1 does not wait, or may wait and stands where its turn says
unfoldable pub waiter_holds : List ℕ → ℕ → ℕ → ℕ → Bool
waiter_holds m processors locks k = eqb (awaited_byte m k) 0 || (may_wait m locks k (awaited_byte m k - 1) && turn_holds m processors k)

-- that of every present processor; absent ones do not wait and have no turn
unfoldable pub lines_hold : List ℕ → ℕ → ℕ → Bool
lines_hold m processors locks =
    every processors (waiter_holds m processors locks)
    && (every (processor_limit - processors) (zero_at m (first_awaited + processors))
    && every (processor_limit - processors) (zero_at m (first_turn + processors)))

-- ---- the queue

-- the oldest job has a place of the queue, and there are no more jobs than places
unfoldable pub queue_holds : List ℕ → Bool
queue_holds m = ltb (first_mark m) job_limit && leb (jobs_mark m) job_limit

-- ---- all marks

-- dirty pages, holders, arrivals, lines of waiters, the queue, and room
unfoldable pub marks_hold_with : List ℕ → List ℕ → ℕ → ℕ → ℕ → ℕ → Bool
marks_hold_with own m processors pages locks standing =
    every processor_limit (dirty_hold own m processors pages)
    && (holders_hold m processors locks
    && (arrived_hold m processors
    && (lines_hold m processors locks
    && (queue_holds m
    && room_holds m processors pages standing))))
