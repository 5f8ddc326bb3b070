-- Reads and writes of a program that takes its input in full buffers: what comes next, and what stands in the buffer and is left to be written after each
-- call. Bytes are read until the buffer is full or the input has ended; then the program takes all of them, and hands on the lines that it makes of
-- them; then these are written. Assumes nothing.
use Rattle.std.specs.Prelude.{ℕ, ◌+◌, ◌-◌, ◌≤◌, min, ◌≡◌, Bool, true, cond, ◌||◌, List, [], ◌++◌, length, take, drop, ltb, leb, eqb, Result, Ok, Err, Some, None, is_some}
use Rattle.whole_reads.specs.declared.Failure.{Failure}
use Rattle.whole_reads.specs.declared.Failure.TheVariants.{Reading, Writing}
use Rattle.whole_reads.specs.declared.Next.{Next}
use Rattle.whole_reads.specs.declared.Next.TheVariants.{Read, Take, Write, Stop}
use Rattle.whole_reads.specs.declared.Flow.{Flow}

-- ---- what comes next

-- with a buffer of so many bytes: after a failure nothing; else the lines that are left are written; then, unless all is done, bytes are read until the
-- buffer is full or the input has ended, and are taken
unfoldable pub comes_next : Flow → ℕ → Next
comes_next f room =
    cond (is_some f.failure) Stop
    (cond (ltb f.from f.to) Write
    (cond f.done Stop
    (cond (f.ended || leb room f.have) Take
    Read)))

-- the lines that are made and not yet written, among the bytes lent for lines
unfoldable pub left_to_write : Flow → List ℕ → List ℕ
left_to_write f out = take (f.to - f.from) (drop f.from out)

-- ---- what was read, taken, made and written

-- these bytes have been read, of which the first were taken and the others stand in the buffer; these lines have been made, of which the first were
-- written and the others are left
pub record Flows (read taken made written : List ℕ) (f : Flow) (buffer out : List ℕ) : Type 0 where
  pub bytes : taken ++ take f.have buffer ≡ read
  pub filled : f.have ≤ length buffer
  pub lines : written ++ left_to_write f out ≡ made
  pub ordered : f.from ≤ f.to
  pub within : f.to ≤ length out

-- ---- the promises

-- what `new_flow` promises: nothing has been read or written, and into a buffer with room bytes are read first
pub record FlowBegins (f : Flow) : Type 0 where
  pub flows : (buffer out : List ℕ) → Flows [] [] [] [] f buffer out
  pub reads : (room : ℕ) → 1 ≤ room → comes_next f room ≡ Read

-- what `what_next` promises: without a failure the program stops only where all is done and every line that was made is written
pub record NextAs (f : Flow) (room : ℕ) (x : Next) : Type 0 where
  pub is : x ≡ comes_next f room
  pub all : (read taken made written buffer out : List ℕ) → x ≡ Stop → f.failure ≡ None → Flows read taken made written f buffer out → (f.done ≡ true) × (written ≡ made)

-- the bytes that a read or a write moved, of those it was handed: none where it failed
unfoldable pub moved_bytes : Result ℕ Bool → List ℕ → List ℕ
moved_bytes (Ok n) bytes = take n bytes
moved_bytes (Err again) bytes = []

-- where the flow stands after a read or a write that failed; where it is made again nothing changes
unfoldable pub failed_flow : Flow → Failure → Bool → Flow
failed_flow f failure again = cond again f (record { have = f.have; ended = f.ended; from = f.from; to = f.to; done = f.done; failure = Some failure })

-- where it stands once n bytes more stand in the buffer; none is the end of the input
unfoldable pub filled_flow : Flow → ℕ → Flow
filled_flow f n = record { have = f.have + n; ended = f.ended || eqb n 0; from = f.from; to = f.to; done = f.done; failure = f.failure }

-- where it stands after the answer of a read into the bytes of the buffer behind those that stand in it
unfoldable pub got_flow : Flow → Result ℕ Bool → List ℕ → Flow
got_flow f (Ok n) buffer = filled_flow f (length (moved_bytes (Ok n) (drop f.have buffer)))
got_flow f (Err again) buffer = failed_flow f Reading again

-- what `note_read` promises of the buffer that the read left: its bytes stand behind those read before, if the read left those that stood there
pub record ReadNoted (f : Flow) (got : Result ℕ Bool) (buffer : List ℕ) (f' : Flow) : Type 0 where
  pub flow : f' ≡ got_flow f got buffer
  pub flows : (read taken made written before out : List ℕ) → length before ≡ length buffer → take f.have before ≡ take f.have buffer
      → Flows read taken made written f before out → Flows (read ++ moved_bytes got (drop f.have buffer)) taken made written f' buffer out

-- where it stands once all bytes in the buffer are taken and n bytes of lines are made of them; done where no more will be
unfoldable pub taken_flow : Flow → ℕ → Bool → Flow
taken_flow f n done = record { have = 0; ended = f.ended; from = 0; to = n; done = done; failure = f.failure }

-- what `note_take` promises: all that was read is taken, and the lines stand behind those made before
pub record TakeNoted (f : Flow) (n : ℕ) (done : Bool) (f' : Flow) : Type 0 where
  pub flow : f' ≡ taken_flow f n done
  pub flows : (room : ℕ) (read taken made written buffer out out' : List ℕ) → comes_next f room ≡ Take → n ≤ length out'
      → Flows read taken made written f buffer out → Flows read read (made ++ take n out') written f' buffer out'

-- where it stands after the first n bytes of the lines left were written; a write that takes nothing has failed
unfoldable pub wrote_flow : Flow → ℕ → Flow
wrote_flow f n =
    record {
      have = f.have;
      ended = f.ended;
      from = f.from + min n (f.to - f.from);
      to = f.to;
      done = f.done;
      failure = cond (eqb n 0) (Some Writing) f.failure;
    }

-- where it stands after a write's answer, which was handed the lines left
unfoldable pub put_flow : Flow → Result ℕ Bool → List ℕ → Flow
put_flow f (Ok n) out = wrote_flow f (length (moved_bytes (Ok n) (left_to_write f out)))
put_flow f (Err again) out = failed_flow f Writing again

-- what `note_write` promises: the bytes that were taken stand behind those written before, and the rest is left
pub record WriteNoted (f : Flow) (put : Result ℕ Bool) (out : List ℕ) (f' : Flow) : Type 0 where
  pub flow : f' ≡ put_flow f put out
  pub flows : (read taken made written buffer : List ℕ) → Flows read taken made written f buffer out
      → Flows read taken made (written ++ moved_bytes put (left_to_write f out)) f' buffer out
