-- The run program between its reads and writes: what it does next, and that the bytes handed to write, in order, are the lines of the file for
-- what was read. Assumes nothing.
use Rattle.std.specs.Prelude.{ℕ, ◌+◌, ◌-◌, ◌/◌, ◌<◌, ◌≤◌, min, ◌≡◌, Bool, true, false, cond, ◌||◌, List, [], ◌++◌, length, take, drop, ltb, eqb, Result, Ok, Err, Some, None, is_some}
use Rattle.limits.specs.Files.{file_record_width, line_limit}
use Rattle.layout.specs.Areas.{Areas, right_sizes}
use Rattle.stepfile.specs.Files.{file_lines}
use Rattle.stepfile.specs.Feeding.{after}
use Rattle.stepfile.specs.Promises.{Reached, feed_answer, feed_lines, feed_areas, finish_answer, finish_lines}
use Rattle.stepfile.specs.declared.Taken.{Taken}
use Rattle.run_loop.specs.declared.Fault.{Fault}
use Rattle.run_loop.specs.declared.Fault.TheVariants.{Reading, Writing, NotFed}
use Rattle.run_loop.specs.declared.Action.{Action}
use Rattle.run_loop.specs.declared.Action.TheVariants.{Read, Write, Stop}
use Rattle.run_loop.specs.declared.Run.{Run}

-- ---- what comes next

-- whether to read
abbrev pub is_reading : Action → Bool
is_reading Read = true
is_reading Write = false
is_reading Stop = false

-- after a fault nothing; else the lines that are left are written, then bytes are read; "After 2, 15 or 16 it stops"
unfoldable pub next_action : Run → Action
next_action s =
    cond (is_some s.fault) Stop
    (cond (ltb s.from s.to) Write
    (cond (s.ended || s.progress.stopped) Stop Read))

-- the lines that are made and not yet written, among the bytes lent for lines
unfoldable pub pending : Run → List ℕ → List ℕ
pending s out = take (s.to - s.from) (drop s.from out)

-- ---- what was read and what was written

-- the lines due for the bytes read: those of the whole file once the input has ended
unfoldable pub lines_due : Areas → List ℕ → Bool → List ℕ
lines_due a₀ read ended = cond ended (file_lines read) (after a₀ read).lines

-- from areas a₀ on these bytes have been read and those have been written: what was written and what is left to be written are the lines due
pub record Runs (a₀ : Areas) (read written : List ℕ) (s : Run) (out : List ℕ) (a : Areas) : Type 0 where
  pub sizes : right_sizes a₀ ≡ true
  pub reached : Reached a₀ read s.progress a
  pub ordered : s.from ≤ s.to
  pub within : s.to ≤ length out
  pub lines : written ++ pending s out ≡ lines_due a₀ read s.ended

-- ---- the promises

-- what `begin` promises: nothing has been read or written, and reading comes next
pub record Begins (s : Run) : Type 0 where
  pub runs : (a₀ : Areas) (out : List ℕ) → right_sizes a₀ ≡ true → Runs a₀ [] [] s out a₀
  pub reads : next_action s ≡ Read

-- what `next_action` promises: without a fault the program stops only where all lines are written: of the whole file where the input has ended, and
-- where the run has stopped, whatever bytes follow that were not read
pub record NextIs (s : Run) (x : Action) : Type 0 where
  pub is : x ≡ next_action s
  pub all : (a₀ : Areas) (read rest written out : List ℕ) (a : Areas) → x ≡ Stop → s.fault ≡ None → Runs a₀ read written s out a
      → (s.ended ≡ true → rest ≡ []) → written ≡ file_lines (read ++ rest)

-- where the run stands after an answer of stepfile's; a chunk that was not fed is a fault
unfoldable pub taken_run : Run → Taken → Bool → Run
taken_run s t ended =
    cond t.fed (record { progress = t.progress; from = 0; to = t.written; ended = ended; fault = None })
    (record { progress = s.progress; from = s.from; to = s.to; ended = s.ended; fault = Some NotFed })

-- where it stands after bytes that were read, none at the end of the input; a run that is not to read is left as it is
unfoldable pub read_run : Run → List ℕ → ℕ → Areas → Run
read_run s bytes room a =
    cond (is_reading (next_action s))
    (cond (eqb (length bytes) 0) (taken_run s (finish_answer s.progress room) true) (taken_run s (feed_answer s.progress bytes room a) false))
    s

-- the bytes lent for lines then
unfoldable pub read_lines : Run → List ℕ → List ℕ → Areas → List ℕ
read_lines s bytes out a =
    cond (is_reading (next_action s)) (cond (eqb (length bytes) 0) (finish_lines s.progress out) (feed_lines s.progress bytes out a)) out

-- the areas then
unfoldable pub read_areas : Run → List ℕ → ℕ → Areas → Areas
read_areas s bytes room a = cond (is_reading (next_action s)) (cond (eqb (length bytes) 0) a (feed_areas s.progress bytes room a)) a

-- where it stands after the first n bytes of the lines left were written; a write that takes nothing has failed
unfoldable pub wrote_run : Run → ℕ → Run
wrote_run s n =
    record {
      progress = s.progress;
      from = s.from + min n (s.to - s.from);
      to = s.to;
      ended = s.ended;
      fault = cond (eqb n 0) (Some Writing) s.fault;
    }

-- where it stands after a read or a write that failed; where it is made again nothing changes
unfoldable pub failed_run : Run → Fault → Bool → Run
failed_run s f again =
    cond again s (record { progress = s.progress; from = s.from; to = s.to; ended = s.ended; fault = Some f })

-- ---- what a read or a write answered

-- the bytes that a read or a write moved, of those it was handed: none where it failed
unfoldable pub bytes_moved : Result ℕ Bool → List ℕ → List ℕ
bytes_moved (Ok n) bytes = take n bytes
bytes_moved (Err again) bytes = []

-- where the run stands after a read's answer
unfoldable pub got_run : Run → Result ℕ Bool → List ℕ → ℕ → Areas → Run
got_run s (Ok n) chunk room a = read_run s (bytes_moved (Ok n) chunk) room a
got_run s (Err again) chunk room a = failed_run s Reading again

-- the bytes lent for lines then
unfoldable pub got_lines : Run → Result ℕ Bool → List ℕ → List ℕ → Areas → List ℕ
got_lines s (Ok n) chunk out a = read_lines s (bytes_moved (Ok n) chunk) out a
got_lines s (Err again) chunk out a = out

-- the areas then
unfoldable pub got_areas : Run → Result ℕ Bool → List ℕ → ℕ → Areas → Areas
got_areas s (Ok n) chunk room a = read_areas s (bytes_moved (Ok n) chunk) room a
got_areas s (Err again) chunk room a = a

-- what `after_read` promises
pub record GotAs (s : Run) (got : Result ℕ Bool) (chunk out : List ℕ) (a : Areas) (s' : Run) (out' : List ℕ) (a' : Areas) : Type 0 where
  pub run : s' ≡ got_run s got chunk (length out) a
  pub lines : out' ≡ got_lines s got chunk out a
  pub areas : a' ≡ got_areas s got chunk (length out) a
  -- with room for the lines of a whole chunk every chunk is fed, ..
  pub fed : (a₀ : Areas) (read written : List ℕ) → next_action s ≡ Read → length chunk / file_record_width < length out / line_limit → Runs a₀ read written s out a
      → s'.fault ≡ Some NotFed → ⊥
  -- .. and its bytes stand behind those read before
  pub runs : (a₀ : Areas) (read written : List ℕ) → next_action s ≡ Read → length chunk / file_record_width < length out / line_limit → Runs a₀ read written s out a
      → Runs a₀ (read ++ bytes_moved got chunk) written s' out' a'

-- where the run stands after a write's answer, which was handed the lines left
unfoldable pub put_run : Run → Result ℕ Bool → List ℕ → Run
put_run s (Ok n) out = wrote_run s (length (bytes_moved (Ok n) (pending s out)))
put_run s (Err again) out = failed_run s Writing again

-- what `after_write` promises: the bytes that were taken stand behind those written before, and the rest is left
pub record PutAs (s : Run) (put : Result ℕ Bool) (out : List ℕ) (s' : Run) : Type 0 where
  pub run : s' ≡ put_run s put out
  pub runs : (a₀ : Areas) (read written : List ℕ) (a : Areas) → Runs a₀ read written s out a → Runs a₀ read (written ++ bytes_moved put (pending s out)) s' out a
