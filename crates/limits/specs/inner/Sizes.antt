-- The sizes and places that follow from the numbers of Limits.antt, each with one name; the code has the same names in capitals (src/lib.rt).
-- Assumes nothing.
use Rattle.std.specs.Prelude.{ℕ, ◌+◌, ◌*◌, ◌/◌}
use Rattle.limits.specs.Limits.{processor_limit, page_limit, page_width, lock_limit, record_limit, interval_limit, tally_limit, job_limit, slot_head}
use Rattle.limits.specs.Files.{step_limit}
use Rattle.limits.specs.Places.{first_arrived}

-- "a copy of 256 words": the words of all pages
abbrev pub word_limit : ℕ
word_limit = page_limit * page_width

-- the pages of all processors: so many copies, twins, applied clocks and dirty marks
abbrev pub copy_limit : ℕ
copy_limit = processor_limit * page_limit

-- the parts of the words: each processor's copies, then each processor's twins
abbrev pub part_limit : ℕ
part_limit = 2 * processor_limit

-- "A clock has eight entries, one a card"
abbrev pub clock_width : ℕ
clock_width = processor_limit

-- from one processor's own entry to the next: a row and a place further
abbrev pub own_step : ℕ
own_step = clock_width + 1

-- the largest sum of a clock
abbrev pub sum_limit : ℕ
sum_limit = processor_limit * interval_limit

-- the runs that fit a page with a gap between each two
abbrev pub run_limit : ℕ
run_limit = (page_width + 1) / 2

-- "At most 131 bytes arise": one run of a whole page, the number of runs and its pair before it
abbrev pub diff_limit : ℕ
diff_limit = 3 + 4 * page_width

-- the numbers of a write notice in its slot: processor, interval and page
abbrev pub notice_width : ℕ
notice_width = 3

-- a slot: its numbers and the longest diff
abbrev pub slot_width : ℕ
slot_width = slot_head + diff_limit

-- ---- rows of clocks: the barrier's, the processors', the locks', the applied clocks, the intervals' and the jobs'

-- the locks', behind the barrier's and the processors'
abbrev pub first_lock_row : ℕ
first_lock_row = 1 + processor_limit

-- the applied clocks, behind the locks'
abbrev pub first_applied_row : ℕ
first_applied_row = first_lock_row + lock_limit

-- the intervals', behind the applied clocks
abbrev pub first_interval_row : ℕ
first_interval_row = first_applied_row + copy_limit

-- the jobs', behind the intervals'
abbrev pub first_job_row : ℕ
first_job_row = first_interval_row + processor_limit * interval_limit

-- all
abbrev pub clock_row_limit : ℕ
clock_row_limit = first_job_row + job_limit

-- ---- rows of words: the copies, then the twins

-- all
abbrev pub word_row_limit : ℕ
word_row_limit = copy_limit + copy_limit

-- ---- marks: behind the arrived marks the holders, then dirty, then who waits for which lock, the turns, and the two of the queue

-- the holders, behind the arrived marks
abbrev pub first_holder : ℕ
first_holder = first_arrived + processor_limit

-- the dirty marks, behind the holders
abbrev pub first_dirty : ℕ
first_dirty = first_holder + lock_limit

-- the locks that processors wait for, behind the dirty marks
abbrev pub first_awaited : ℕ
first_awaited = first_dirty + copy_limit

-- their turns, behind those
abbrev pub first_turn : ℕ
first_turn = first_awaited + processor_limit

-- the queue's place of its oldest job, behind the turns
abbrev pub queue_first : ℕ
queue_first = first_turn + processor_limit

-- and how many jobs it has
abbrev pub queue_jobs : ℕ
queue_jobs = queue_first + 1

-- ---- "its size is the fixed one": the four areas

-- the bytes of the clocks
abbrev pub clock_area : ℕ
clock_area = clock_width * clock_row_limit

-- the words of the pages, and behind them the tallies: of each the posted total, then the adds of each processor
abbrev pub first_tally : ℕ
first_tally = page_width * word_row_limit

-- the values of the jobs, behind the tallies
abbrev pub first_job_value : ℕ
first_job_value = first_tally + (processor_limit + 1) * tally_limit

-- all words
abbrev pub word_area : ℕ
word_area = first_job_value + job_limit

-- the bytes of the records
abbrev pub record_area : ℕ
record_area = slot_width * record_limit

-- the marks
abbrev pub mark_area : ℕ
mark_area = queue_jobs + 1

-- ---- a sort key: sum, processor, interval and slot as one number, each below its base

-- a slot is below it
abbrev pub slot_base : ℕ
slot_base = record_limit

-- an interval
abbrev pub interval_base : ℕ
interval_base = interval_limit + 1

-- a processor
abbrev pub processor_base : ℕ
processor_base = 2 * processor_limit

-- a sum
abbrev pub sum_base : ℕ
sum_base = 1024

-- what one processor more adds to a key
abbrev pub processor_step : ℕ
processor_step = interval_base * slot_base

-- above every key
abbrev pub key_limit : ℕ
key_limit = sum_base * processor_base * interval_base * slot_base

-- ---- a step

-- the largest value that a step can have
abbrev pub value_limit : ℕ
value_limit = 4294967295

-- ---- working memory

-- a table with a place for each processor, interval and page: the places of one processor, and all
abbrev pub notice_row : ℕ
notice_row = interval_base * page_limit

-- the places of all
abbrev pub notice_table : ℕ
notice_table = (processor_limit + 1) * notice_row

-- the index: a row of sort keys for each page
abbrev pub key_area : ℕ
key_area = page_limit * record_limit

-- behind them how many keys each row has
abbrev pub first_count : ℕ
first_count = key_area

-- how many records are ranked
abbrev pub ranked_place : ℕ
ranked_place = first_count + page_limit

-- for each page a watermark of each processor
abbrev pub first_watermark : ℕ
first_watermark = ranked_place + 1

-- for each slot a mask of the words that its record's diff sets
abbrev pub first_mask : ℕ
first_mask = first_watermark + copy_limit

-- bounds of the fields of each kind of step: first of the object, then of the value
abbrev pub first_bound : ℕ
first_bound = first_mask + record_limit

-- from this kind on none is known: they share its place among the bounds
abbrev pub kind_limit : ℕ
kind_limit = 12

-- the places for the kinds: 0, those that are known, and one for all above
abbrev pub kind_bounds : ℕ
kind_bounds = kind_limit + 1

-- the bounds of both
abbrev pub bound_area : ℕ
bound_area = kind_bounds + kind_bounds

-- all
abbrev pub index_area : ℕ
index_area = first_bound + bound_area

-- ---- a step file

-- the opening and the steps
abbrev pub file_record_limit : ℕ
file_record_limit = step_limit + 1
