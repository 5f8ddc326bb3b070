-- The numbers of one mainframe, each with one name; those that follow from them are in inner/Sizes.antt. The code has the same
-- names in capitals (src/lib.rt). Assumes nothing.
use Rattle.std.specs.Prelude.{ℕ}

-- "Cards 1 to 8"
abbrev pub processor_limit : ℕ
processor_limit = 8

-- "Pages 1 to 8"
abbrev pub page_limit : ℕ
page_limit = 8

-- "A page is 32 words"
abbrev pub page_width : ℕ
page_width = 32

-- a word has 32 bits: how many values it can have
abbrev pub word_values : ℕ
word_values = 4294967296

-- "locks 1 to 16"
abbrev pub lock_limit : ℕ
lock_limit = 16

-- "At most 128 [records] stand"
abbrev pub record_limit : ℕ
record_limit = 128

-- "an interval number 1 to 63"
abbrev pub interval_limit : ℕ
interval_limit = 63

-- L4: "there are 16 tallies of 32 bits"
abbrev pub tally_limit : ℕ
tally_limit = 16

-- L9: "One queue holds up to 32 jobs"
abbrev pub job_limit : ℕ
job_limit = 32

-- a slot has four numbers before its diff: processor, interval, page and the diff's length
abbrev pub slot_head : ℕ
slot_head = 4
