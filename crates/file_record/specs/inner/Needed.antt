-- What the functions of this crate ask of one another and of their callers, and what they promise. Assumes nothing.
use Rattle.std.specs.Prelude.{◌*◌, ◌+◌, ◌<◌, ◌≤◌, ℕ, ◌≡◌, true, List, [], length, take, Result, Ok, Err}
use Rattle.limits.specs.Files.{file_record_width, line_limit}
use Rattle.limits.specs.Limits.{word_values}
use Rattle.limits.specs.inner.Sizes.{file_record_limit}
use Rattle.limits.specs.Refused.{number_of}
use Rattle.layout.specs.Areas.{Areas, areas}
use Rattle.inorder.specs.Areas.{OrderIs}
use Rattle.opening.specs.Promises.{areas_opened, open_refusal}
use Rattle.step_access.specs.declared.Answered.{Answered}
use Rattle.step_act.specs.Telling.{Outcome}
use Rattle.lines.specs.Lines.{line_bytes}
use Rattle.file_lines.specs.inner.Needed.{RestKept, LinePut}
use Rattle.file_record.specs.Records.{Feed}
use Rattle.file_record.specs.declared.Stand.{Stand}

-- ---- one record

-- what a step answers, where it is refused by a number, which may be any
abbrev pub Reply : Type 0
Reply = Result Answered ℕ

-- the outcome of a step with its refusal as a number
unfoldable pub reply_of : Outcome → Reply
reply_of (Ok a) = Ok a
reply_of (Err r) = Err (number_of r)

-- the line of what a step answers
unfoldable pub outcome_line : ℕ → Reply → List ℕ
outcome_line number (Ok a) = line_bytes number 0 a.value a.count
outcome_line number (Err n) = line_bytes number n 0 0

-- its words: none where it was refused
unfoldable pub reply_words : Reply → ℕ
reply_words (Ok a) = a.words
reply_words (Err n) = 0

-- what stands between two records, with the lines so far in the first bytes of those lent
unfoldable pub stands_at : Stand → List ℕ → Areas → Feed
stands_at s out a = record { number = s.number; held = []; stopped = s.stopped; areas = a; lines = take s.at out; words = s.words }

-- a record stands in the bytes from a place on, and there is room for its line; each step has moved fewer words than a number of 32 bits can say
pub record Takeable (s : Stand) (bytes : List ℕ) (from : ℕ) (out c w r m : List ℕ) : Type 0 where
  pub few : s.number ≤ file_record_limit
  pub there : from + file_record_width ≤ length bytes
  pub room : s.at + line_limit ≤ length out
  pub order : OrderIs s.ready c w r m
  pub total : s.words ≤ word_values * s.number

-- the run has stopped at a record too many: the line 16 stands behind those before it
pub record StoppedAt (s : Stand) (out : List ℕ) (s' : Stand) (out' : List ℕ) : Type 0 where
  pub is : s' ≡ record { number = s.number; stopped = true; ready = s.ready; at = s'.at; words = s.words }
  pub put : LinePut out s.at (line_bytes s.number 16 0 0) out' s'.at

-- a record has led to f, of which s' and the areas tell; the line of the record stands behind those before it
pub record RecordTaken (f : Feed) (s : Stand) (out : List ℕ) (s' : Stand) (out' c' w' r' m' : List ℕ) : Type 0 where
  pub is : stands_at s' out' (areas c' w' r' m') ≡ f
  pub few : s'.number ≤ file_record_limit
  pub kept : RestKept out s.at out' s'.at
  pub near : s'.at ≤ s.at + line_limit
  pub order : OrderIs s'.ready c' w' r' m'
  pub total : s'.words ≤ word_values * s'.number

-- so many words have moved before a record of this number
pub record TotalThere (total number : ℕ) : Type 0 where
  pub few : number ≤ file_record_limit
  pub bounded : total ≤ word_values * number

-- and so many with those of what a step answers, fewer than a number of 32 bits can say
pub record WordsAdded (total : ℕ) (o : Reply) (total' : ℕ) : Type 0 where
  pub is : total' ≡ total + reply_words o
  pub few : reply_words o < word_values

-- the opening in eight bytes has this refusal and leaves these areas
pub record OpenedAs (bytes : List ℕ) (c w r m : List ℕ) (n : ℕ) (c' w' r' m' : List ℕ) : Type 0 where
  pub refusal : n ≡ open_refusal bytes (areas c w r m)
  pub laid : areas c' w' r' m' ≡ areas_opened bytes (areas c w r m)
