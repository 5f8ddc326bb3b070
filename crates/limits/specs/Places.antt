-- Where the marks stand in their area; what follows from these places is in layout's Areas.antt. The code has the same names in capitals. Assumes nothing.
use Rattle.std.specs.Prelude.{ℕ}

-- the places of the marks: how many processors there are
abbrev pub processors_place : ℕ
processors_place = 0

-- how many pages
abbrev pub pages_place : ℕ
pages_place = 1

-- how many locks
abbrev pub locks_place : ℕ
locks_place = 2

-- how many records stand, in two bytes: the low one
abbrev pub standing_place : ℕ
standing_place = 3

-- and the high one
abbrev pub standing_high : ℕ
standing_high = 4

-- the wish for collection
abbrev pub wanted_place : ℕ
wanted_place = 5

-- the arrived marks, one a processor; behind them the holders of the locks, the dirty marks, the two marks of waiting of each processor, and the two of the queue
abbrev pub first_arrived : ℕ
first_arrived = 6
