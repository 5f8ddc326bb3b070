-- The refusals by name and by number (document 01, "Where each refusal is checked"), and the number that a call answers. Assumes nothing.
use Rattle.std.specs.Prelude.{ℕ, Result, Ok, Err}
use Rattle.limits.specs.declared.Refusal.{Refusal}
use Rattle.limits.specs.declared.Refusal.TheVariants.{NotInOrder, BadOpening, UnknownKind, AbsentProcessor, BadField, HasArrived, HoldsAlready, NotHolder, NoIntervalLeft, NoRecordLeft, BadLength, BadPair, NoRoom, BadPage, EndsShort, TooManySteps, Waits, ArrivesHolding, QueueFull, QueueEmpty}

-- the number of a refusal's row
abbrev pub number_of : Refusal → ℕ
number_of NotInOrder = 1
number_of BadOpening = 2
number_of UnknownKind = 3
number_of AbsentProcessor = 4
number_of BadField = 5
number_of HasArrived = 6
number_of HoldsAlready = 7
number_of NotHolder = 8
number_of NoIntervalLeft = 9
number_of NoRecordLeft = 10
number_of BadLength = 11
number_of BadPair = 12
number_of NoRoom = 13
number_of BadPage = 14
number_of EndsShort = 15
number_of TooManySteps = 16
number_of Waits = 17
number_of ArrivesHolding = 18
number_of QueueFull = 19
number_of QueueEmpty = 20

-- "refusal or 0": the number that an answer stands for, 0 where nothing is refused
abbrev pub refusal_in : {T : Type 0} → Result T Refusal → ℕ
refusal_in (Ok x) = 0
refusal_in (Err r) = number_of r
