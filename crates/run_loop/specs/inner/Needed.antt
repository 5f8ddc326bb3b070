-- What the inner functions of this crate promise. Assumes nothing.
use Rattle.std.specs.Prelude.{ℕ, ◌/◌, ◌<◌, ◌≡◌, Bool, true, false, List, ◌++◌, length, take, None}
use Rattle.limits.specs.Files.{file_record_width, line_limit}
use Rattle.layout.specs.Areas.{Areas}
use Rattle.stepfile.specs.Promises.{FedAs, FinishedAs}
use Rattle.stepfile.specs.declared.Taken.{Taken}
use Rattle.run_loop.specs.Promises.{Runs, next_action, failed_run, pending, read_areas, read_lines, read_run, taken_run, wrote_run}
use Rattle.run_loop.specs.declared.Run.{Run}
use Rattle.run_loop.specs.declared.Fault.{Fault}
use Rattle.run_loop.specs.declared.Action.TheVariants.{Read}

-- the bytes were fed, and the run stands where the answer leaves it
pub record Feeds (s : Run) (bytes out : List ℕ) (a : Areas) (s' : Run) (out' : List ℕ) (a' : Areas) : Type 0 where
  pub taken : Taken
  pub run : s' ≡ taken_run s taken false
  pub fed : FedAs s.progress bytes out a taken out' a'

-- the file was ended, and the run stands where the answer leaves it
pub record Ends (s : Run) (out : List ℕ) (s' : Run) (out' : List ℕ) : Type 0 where
  pub taken : Taken
  pub run : s' ≡ taken_run s taken true
  pub finished : FinishedAs s.progress out taken out'

-- bytes were taken
pub record ReadAs (s : Run) (bytes out : List ℕ) (a : Areas) (s' : Run) (out' : List ℕ) (a' : Areas) : Type 0 where
  pub run : s' ≡ read_run s bytes (length out) a
  pub lines : out' ≡ read_lines s bytes out a
  pub areas : a' ≡ read_areas s bytes (length out) a
  -- with room for the lines of the bytes they are taken, ..
  pub fed : (a₀ : Areas) (read written : List ℕ) → next_action s ≡ Read → length bytes / file_record_width < length out / line_limit → Runs a₀ read written s out a
      → s'.fault ≡ None
  -- .. and stand behind those read before
  pub runs : (a₀ : Areas) (read written : List ℕ) → next_action s ≡ Read → length bytes / file_record_width < length out / line_limit → Runs a₀ read written s out a
      → Runs a₀ (read ++ bytes) written s' out' a'

-- n bytes were written
pub record WroteAs (s : Run) (n : ℕ) (s' : Run) : Type 0 where
  pub run : s' ≡ wrote_run s n
  pub runs : (a₀ : Areas) (read written out : List ℕ) (a : Areas) → Runs a₀ read written s out a → Runs a₀ read (written ++ take n (pending s out)) s' out a

-- a call failed: what was read and written stays
pub record FailedAs (s : Run) (f : Fault) (again : Bool) (s' : Run) : Type 0 where
  pub run : s' ≡ failed_run s f again
  pub runs : (a₀ : Areas) (read written out : List ℕ) (a : Areas) → Runs a₀ read written s out a → Runs a₀ read written s' out a
