-- A line behind those before it in the bytes lent for lines, and which records of a chunk are steps. Assumes nothing.
use Rattle.std.specs.Prelude.{◌%◌, ◌+◌, ◌-◌, ◌/◌, ◌≤◌, ℕ, ◌≡◌, List, ◌++◌, drop, length, take}
use Rattle.limits.specs.Files.{file_record_width, line_limit}
use Rattle.limits.specs.inner.Sizes.{file_record_limit}

-- ---- the bytes lent for lines

-- what was written from a place on ends at another: behind that one all is as it was
pub record RestKept (out : List ℕ) (at : ℕ) (out' : List ℕ) (at' : ℕ) : Type 0 where
  pub on : at ≤ at'
  pub within : at' ≤ length out
  pub long : length out' ≡ length out
  pub rest : drop at' out' ≡ drop at' out

-- a line, at most 44 bytes, stands from a place on behind what stood before it
pub record LinePut (out : List ℕ) (at : ℕ) (line : List ℕ) (out' : List ℕ) (end : ℕ) : Type 0 where
  pub kept : RestKept out at out' end
  pub near : end ≤ at + line_limit
  pub lines : take end out' ≡ take at out ++ line

-- ---- the steps of a chunk

-- whole records stand from a place to another, and their numbers are those of steps
pub record Ahead (number i end : ℕ) : Type 0 where
  pub on : i ≤ end
  pub whole : (end - i) % file_record_width ≡ 0
  pub few : number + (end - i) / file_record_width ≤ file_record_limit

-- they are all steps that a chunk of so many bytes has from that place on
pub record AllAhead (number i end chunk : ℕ) : Type 0 where
  pub ahead : Ahead number i end
  pub within : end ≤ chunk
  pub all : end + file_record_width ≤ chunk → number + (end - i) / file_record_width ≡ file_record_limit
