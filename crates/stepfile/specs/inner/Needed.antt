-- What the functions of this crate ask of one another, and what the inner ones promise. Assumes nothing.
use Rattle.std.specs.Prelude.{◌*◌, ◌+◌, ◌/◌, ◌<◌, ◌≤◌, ℕ, ◌≡◌, Bool, ◌||◌, false, true, List, drop, length, take, eqb, ltb}
use Rattle.limits.specs.Files.{file_record_width, line_limit}
use Rattle.limits.specs.Limits.{word_values}
use Rattle.limits.specs.inner.Sizes.{file_record_limit}
use Rattle.layout.specs.Areas.{Areas}
use Rattle.inorder.specs.Areas.{OrderIs}
use Rattle.file_record.specs.Records.{Feed}
use Rattle.file_record.specs.declared.Stand.{Stand}
use Rattle.file_lines.specs.inner.Needed.{RestKept}
use Rattle.file_record.specs.inner.Needed.{stands_at}
use Rattle.file_chunk.specs.Bytes.{bytes_taken}
use Rattle.file_chunk.specs.inner.Needed.{Passable}
use Rattle.stepfile.specs.Promises.{feedable, progress_of}
use Rattle.stepfile.specs.declared.Progress.{Progress}
use Rattle.stepfile.specs.declared.Taken.{Taken}
use Rattle.file_held.specs.declared.Held.{Held}
use Rattle.file_held.specs.inner.Needed.{Holding, HeldAll}

-- ---- whether a chunk is fed

-- b says whether a chunk of so many bytes is fed
pub record FeedableIs (b : Bool) (p : Progress) (chunk room : ℕ) : Type 0 where
  pub is : b ≡ feedable p chunk room

-- b says whether a file that ends at this progress ends within a record or before the opening
pub record EndsShort (b : Bool) (p : Progress) : Type 0 where
  pub is : b ≡ (eqb p.number 0 || ltb 0 p.held)

-- fewer than eight bytes are held, and there is room for the last line
pub record EndThere (p : Progress) (out : List ℕ) : Type 0 where
  pub few : p.held < file_record_width
  pub room : line_limit ≤ length out

-- ---- a chunk

-- the answer of what stands after a chunk
unfoldable pub taken_as : Feed → Taken
taken_as f = record { progress = progress_of f; fed = true; written = length f.lines }

-- the progress is one that feeding makes, and not stopped, and the stand is that before the first record: no line is written; there is room for the
-- lines of the chunk
pub record Feedable (p : Progress) (s : Stand) (chunk out c w r m : List ℕ) : Type 0 where
  pub few : p.number ≤ file_record_limit
  pub going : p.stopped ≡ false
  pub fewer : p.held < file_record_width
  pub holding : Holding p.held p.bytes
  pub first : s ≡ record { number = p.number; stopped = false; ready = s.ready; at = 0; words = p.words }
  pub room : line_limit * (length chunk / file_record_width) + line_limit ≤ length out
  pub order : OrderIs s.ready c w r m
  pub total : p.words ≤ word_values * p.number

-- the bytes held and the first of the chunk are eight
pub record Completes (p : Progress) (s : Stand) (h : Held) (chunk out c w r m : List ℕ) : Type 0 where
  pub feedable : Feedable p s chunk out c w r m
  pub held : HeldAll p.held p.bytes chunk 0 h
  pub eight : file_record_width ≤ h.count

-- the eight bytes of a record are held, and a run that has not stopped may take it
pub record BegunPassable (s : Stand) (bytes out c w r m : List ℕ) : Type 0 where
  pub passable : Passable s bytes 0 out c w r m
  pub going : s.stopped ≡ false
  pub eight : length bytes ≡ file_record_width

-- after the last record: fewer than eight bytes are left, or the run has stopped
pub record Endable (s : Stand) (chunk : List ℕ) (from : ℕ) : Type 0 where
  pub within : from ≤ length chunk
  pub few_left : s.stopped ≡ false → length chunk < from + file_record_width

-- t is the answer of what the bytes behind the last record lead to
pub record Ended (s : Stand) (chunk : List ℕ) (from : ℕ) (t : Taken) : Type 0 where
  pub is : (out : List ℕ) (a : Areas) → s.at ≤ length out → t ≡ taken_as (bytes_taken (stands_at s out a) (drop from chunk))

-- t is the answer of f, and f's lines and areas are those that are left
pub record ChunkFed (f : Feed) (at : ℕ) (out : List ℕ) (t : Taken) (out' : List ℕ) (a' : Areas) : Type 0 where
  pub answer : t ≡ taken_as f
  pub areas : a' ≡ f.areas
  pub lines : take (length f.lines) out' ≡ f.lines
  pub kept : RestKept out at out' (length f.lines)
