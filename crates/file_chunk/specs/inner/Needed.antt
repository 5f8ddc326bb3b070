-- What the functions of this crate ask of one another and of their callers, and what they promise. Assumes nothing.
use Rattle.std.specs.Prelude.{◌*◌, ◌+◌, ◌-◌, ◌/◌, ◌%◌, ◌<◌, ◌≤◌, ℕ, ◌≡◌, Bool, false, List, drop, length}
use Rattle.limits.specs.Files.{file_record_width, line_limit}
use Rattle.limits.specs.Limits.{word_values}
use Rattle.limits.specs.inner.Sizes.{file_record_limit}
use Rattle.layout.specs.Areas.{areas}
use Rattle.inorder.specs.Areas.{OrderIs}
use Rattle.file_record.specs.declared.Stand.{Stand}
use Rattle.file_lines.specs.inner.Needed.{RestKept, Ahead, AllAhead}
use Rattle.file_record.specs.inner.Needed.{stands_at}
use Rattle.file_chunk.specs.Bytes.{bytes_taken}

-- there is room for the lines of the records that lie in the chunk from a place on; each step has moved fewer words than a number of 32 bits can say
pub record Passable (s : Stand) (chunk : List ℕ) (from : ℕ) (out c w r m : List ℕ) : Type 0 where
  pub few : s.number ≤ file_record_limit
  pub within : from ≤ length chunk
  pub room : s.at + line_limit * ((length chunk - from) / file_record_width) ≤ length out
  pub order : OrderIs s.ready c w r m
  pub total : s.words ≤ word_values * s.number

-- the whole records up to a place are taken, a line for each: the bytes behind them lead from there to what all lead to, and the lent memory keeps
-- its sizes
pub record Passing (s₀ : Stand) (chunk : List ℕ) (from : ℕ) (out₀ c₀ w₀ r₀ m₀ : List ℕ) (s : Stand) (i : ℕ) (out c w r m : List ℕ) : Type 0 where
  pub able : Passable s chunk i out c w r m
  pub is : bytes_taken (stands_at s out (areas c w r m)) (drop i chunk) ≡ bytes_taken (stands_at s₀ out₀ (areas c₀ w₀ r₀ m₀)) (drop from chunk)
  pub whole : i % file_record_width ≡ from % file_record_width
  pub near : s.at + line_limit * ((length chunk - i) / file_record_width) ≤ s₀.at + line_limit * ((length chunk - from) / file_record_width)
  pub kept : RestKept out₀ s₀.at out s.at
  pub clocks : length c ≡ length c₀
  pub words : length w ≡ length w₀
  pub records : length r ≡ length r₀
  pub marks : length m ≡ length m₀

-- all whole records from a place on are taken, or the run has stopped
pub record AllPassed (s : Stand) (chunk : List ℕ) (from : ℕ) (out c w r m : List ℕ) (s' : Stand) (i : ℕ) (out' c' w' r' m' : List ℕ) : Type 0 where
  pub passing : Passing s chunk from out c w r m s' i out' c' w' r' m'
  pub few_left : s'.stopped ≡ false → length chunk < i + file_record_width

-- ---- the opening

-- steps may follow from a place on: the opening is taken, unless the run has stopped or fewer than eight bytes are left
pub record StepsPassable (s : Stand) (chunk : List ℕ) (from : ℕ) (out c w r m : List ℕ) : Type 0 where
  pub passable : Passable s chunk from out c w r m
  pub opened : s.stopped ≡ false → s.number ≡ 0 → length chunk < from + file_record_width

-- the opening is taken, if there is one, and steps may follow
pub record FirstTaken (s : Stand) (chunk : List ℕ) (from : ℕ) (out c w r m : List ℕ) (s' : Stand) (i : ℕ) (out' c' w' r' m' : List ℕ) : Type 0 where
  pub passing : Passing s chunk from out c w r m s' i out' c' w' r' m'
  pub able : StepsPassable s' chunk i out' c' w' r' m'

-- ---- the steps

-- no step follows from a place on: a whole record left to a run that has not stopped is one too many, and there is room for its line
pub record LastPassable (s : Stand) (chunk : List ℕ) (from : ℕ) (out : List ℕ) : Type 0 where
  pub within : from ≤ length chunk
  pub room : s.at + line_limit * ((length chunk - from) / file_record_width) ≤ length out
  pub over : s.stopped ≡ false → from + file_record_width ≤ length chunk → s.number ≡ file_record_limit

-- the steps that follow are taken
pub record StepsTaken (s : Stand) (chunk : List ℕ) (from : ℕ) (out c w r m : List ℕ) (s' : Stand) (i : ℕ) (out' c' w' r' m' : List ℕ) : Type 0 where
  pub passing : Passing s chunk from out c w r m s' i out' c' w' r' m'
  pub able : LastPassable s' chunk i out'

-- the records from a place on to another are all steps that follow: the opening is taken, and the run has not stopped; ready says whether the areas
-- are in order
pub record Runnable (ready : Bool) (s : Stand) (chunk : List ℕ) (from end : ℕ) (out c w r m : List ℕ) : Type 0 where
  pub passable : Passable s chunk from out c w r m
  pub ahead : AllAhead s.number from end (length chunk)
  pub going : s.stopped ≡ false
  pub said : s.ready ≡ ready
  pub opened : 1 ≤ s.number

-- there is room for the lines of the steps from a place on to another
pub record RoomForSteps (s : Stand) (from end : ℕ) (out : List ℕ) : Type 0 where
  pub ahead : Ahead s.number from end
  pub room : s.at + line_limit * ((end - from) / file_record_width) ≤ length out

-- they are refused: taken so, whatever the chunk, on areas that are not in order
pub record StepsRefused (s : Stand) (from end : ℕ) (out : List ℕ) (s' : Stand) (i : ℕ) (out' : List ℕ) : Type 0 where
  pub is : (chunk c w r m : List ℕ) → Runnable false s chunk from end out c w r m → StepsTaken s chunk from out c w r m s' i out' c w r m

-- ---- one too many

-- no whole record is left, or the run has stopped, whatever the areas, which stay as they are
pub record LastTaken (s : Stand) (chunk : List ℕ) (from : ℕ) (out : List ℕ) (s' : Stand) (i : ℕ) (out' : List ℕ) : Type 0 where
  pub is : (c w r m : List ℕ) → Passable s chunk from out c w r m → AllPassed s chunk from out c w r m s' i out' c w r m
