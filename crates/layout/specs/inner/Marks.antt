-- The marks and the numbers of a slot by name: what the functions that read and write them are said by. Assumes nothing.
use Rattle.std.specs.Prelude.{ℕ, ◌+◌, ◌*◌, ◌/◌, ◌%◌, List, get_or, take, drop, set}
use Rattle.limits.specs.Limits.{slot_head}
use Rattle.limits.specs.Places.{processors_place, pages_place, locks_place, standing_place, standing_high, wanted_place}
use Rattle.limits.specs.inner.Sizes.{slot_width}
use Rattle.rules.specs.State.{mainframe, Record}
use Rattle.layout.specs.Areas.{arrived_place, holder_place, dirty_place, awaited_place, turn_place, first_place, jobs_place}

-- ---- marks; how many records stand is `standing_count` of Areas

-- how many processors the opening gave
abbrev pub processor_count : List ℕ → ℕ
processor_count m = get_or m processors_place 0

-- how many pages
abbrev pub page_count : List ℕ → ℕ
page_count m = get_or m pages_place 0

-- how many locks
abbrev pub lock_count : List ℕ → ℕ
lock_count m = get_or m locks_place 0

-- the marks where so many records stand
unfoldable pub with_standing : List ℕ → ℕ → List ℕ
with_standing m n = set (set m standing_place (n % 256)) standing_high (n / 256)

-- the wish for collection
abbrev pub wish_mark : List ℕ → ℕ
wish_mark m = get_or m wanted_place 0

-- the arrived mark of processor p
abbrev pub arrived_mark : List ℕ → ℕ → ℕ
arrived_mark m p = get_or m (arrived_place mainframe p) 0

-- the holder of lock l
abbrev pub holder_mark : List ℕ → ℕ → ℕ
holder_mark m l = get_or m (holder_place mainframe l) 0

-- the dirty mark of page g of processor p
abbrev pub dirty_mark : List ℕ → ℕ → ℕ → ℕ
dirty_mark m p g = get_or m (dirty_place mainframe p g) 0

-- the lock that processor p waits for, plus 1
abbrev pub awaited_mark : List ℕ → ℕ → ℕ
awaited_mark m p = get_or m (awaited_place mainframe p) 0

-- the turn of processor p
abbrev pub turn_mark : List ℕ → ℕ → ℕ
turn_mark m p = get_or m (turn_place mainframe p) 0

-- the place of the oldest job of the queue
abbrev pub first_mark : List ℕ → ℕ
first_mark m = get_or m (first_place mainframe) 0

-- how many jobs wait
abbrev pub jobs_mark : List ℕ → ℕ
jobs_mark m = get_or m (jobs_place mainframe) 0

-- ---- the numbers of slot i, and the diff behind them

-- the record's processor
abbrev pub slot_processor : List ℕ → ℕ → ℕ
slot_processor r i = get_or r (slot_width * i) 0

-- its interval
abbrev pub slot_interval : List ℕ → ℕ → ℕ
slot_interval r i = get_or r (slot_width * i + 1) 0

-- its page
abbrev pub slot_page : List ℕ → ℕ → ℕ
slot_page r i = get_or r (slot_width * i + 2) 0

-- the length of its diff
abbrev pub slot_length : List ℕ → ℕ → ℕ
slot_length r i = get_or r (slot_width * i + 3) 0

-- its diff
abbrev pub slot_diff : List ℕ → ℕ → List ℕ
slot_diff r i = take (slot_length r i) (drop (slot_width * i + slot_head) r)

-- the record in slot i
unfoldable pub record_of : List ℕ → ℕ → Record
record_of r i =
    record {
      processor = slot_processor r i;
      interval = slot_interval r i;
      page = slot_page r i;
      diff = slot_diff r i;
    }
