-- What holds of the program from turn to turn. Assumes nothing.
use Rattle.std.specs.Prelude.{ℕ, ◌+◌, ◌*◌, ◌/◌, ◌<◌, ◌≡◌, List, length, Option, Some}
use Rattle.limits.specs.Files.{file_record_width, line_limit}
use Rattle.layout.specs.Areas.{Areas, areas}
use Rattle.layout.specs.inner.Needed.{Lent}
use Rattle.run_loop.specs.Promises.{Runs, next_action}
use Rattle.run_loop.specs.declared.Run.{Run}
use Rattle.run_loop.specs.declared.Fault.{Fault}
use Rattle.run_loop.specs.declared.Fault.TheVariants.{NotFed}
use Rattle.run_loop.specs.declared.Action.TheVariants.{Read}

-- the bytes read at a time, and room for the lines of so many bytes and of a record begun before; the code has the same in capitals
abbrev pub chunk_bytes : ℕ
chunk_bytes = 65536

abbrev pub line_room : ℕ
line_room = line_limit * (chunk_bytes / file_record_width + 1)

-- there is room for the longest line for each record that a chunk can complete, and for one begun before it
pub record Roomy (chunk lines : List ℕ) : Type 0 where
  pub room : length chunk / file_record_width < length lines / line_limit

-- the program's memory: room for lines, and the areas have their sizes
pub record Ample (chunk lines c w r m : List ℕ) : Type 0 where
  pub roomy : Roomy chunk lines
  pub lent : Lent c w r m

-- the faults that can arise: every chunk is fed
pub record Possible (f : Option Fault) : Type 0 where
  pub fed : f ≡ Some NotFed → ⊥

-- some bytes have been read, and the lines due for them are written or left to be written
pub record Underway (s : Run) (chunk out c w r m : List ℕ) : Type 0 where
  pub roomy : Roomy chunk out
  pub first : Areas
  pub read : List ℕ
  pub written : List ℕ
  pub runs : Runs first read written s out (areas c w r m)
  pub possible : Possible s.fault

-- what was so before is so after
pub record Keeps (s : Run) (out : List ℕ) (s' : Run) : Type 0 where
  pub on : (chunk c w r m : List ℕ) → Underway s chunk out c w r m → Underway s' chunk out c w r m

-- reading comes next
pub record ReadsNext (s : Run) (chunk out c w r m : List ℕ) : Type 0 where
  pub next : next_action s ≡ Read
  pub going : Underway s chunk out c w r m
