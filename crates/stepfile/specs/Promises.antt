-- What `feed` and `finish` answer and leave in lent memory, and that a file fed in parts, cut anywhere, gives the lines of the whole file.
-- Assumes nothing.
use Rattle.std.specs.Prelude.{ℕ, ◌+◌, ◌-◌, ◌*◌, ◌/◌, ◌≤◌, ◌≡◌, Bool, true, false, cond, ◌&&◌, List, [], ◌++◌, length, take, drop, replicate, ltb, leb}
use Rattle.std.proofs.lemmas.List.Edits.{sets}
use Rattle.limits.specs.Files.{file_record_width, line_limit, step_limit}
use Rattle.limits.specs.Limits.{word_values}
use Rattle.rules.specs.InOrder.{all_zero}
use Rattle.layout.specs.Areas.{Areas, right_sizes}
use Rattle.file_record.specs.Records.{Feed}
use Rattle.file_chunk.specs.Bytes.{bytes_taken}
use Rattle.stepfile.specs.Files.{file_lines}
use Rattle.stepfile.specs.Feeding.{after, last_line_of}
use Rattle.stepfile.specs.declared.Progress.{Progress}
use Rattle.stepfile.specs.declared.Taken.{Taken}

-- a progress that feeding makes: at most 1,000,001 as the next number, fewer than eight bytes held, and zeros behind them; for each record fewer words
-- than a number of 32 bits can say, so that their sum cannot wrap
unfoldable pub sound : Progress → Bool
sound p = leb p.number (step_limit + 1) && leb p.words (word_values * p.number) && (ltb p.held file_record_width && all_zero (drop p.held p.bytes))

-- the progress of what stands
unfoldable pub progress_of : Feed → Progress
progress_of f = record { number = f.number; stopped = f.stopped; held = length f.held; bytes = f.held ++ replicate (file_record_width - length f.held) 0; words = f.words }

-- what stands at a progress with these areas, with nothing printed yet
unfoldable pub feed_at : Progress → Areas → Feed
feed_at p a = record { number = p.number; held = take p.held p.bytes; stopped = p.stopped; areas = a; lines = []; words = p.words }

-- whether a chunk of so many bytes is fed: the progress is sound, and there is room for the longest line, of 44 bytes, for each record that
-- the chunk can complete
unfoldable pub feedable : Progress → ℕ → ℕ → Bool
feedable p chunk room = sound p && ltb (chunk / file_record_width) (room / line_limit)

-- the answer where nothing is done
unfoldable pub left_untaken : Progress → Taken
left_untaken p = record { progress = p; fed = false; written = 0 }

-- what `feed` answers
unfoldable pub feed_answer : Progress → List ℕ → ℕ → Areas → Taken
feed_answer p chunk room a =
    let f = bytes_taken (feed_at p a) chunk in
    cond (feedable p (length chunk) room) (record { progress = progress_of f; fed = true; written = length f.lines }) (left_untaken p)

-- the bytes lent for lines after `feed`: the lines of the records that the chunk completes, and behind them all as it was
unfoldable pub feed_lines : Progress → List ℕ → List ℕ → Areas → List ℕ
feed_lines p chunk out a = cond (feedable p (length chunk) (length out)) (sets out 0 (bytes_taken (feed_at p a) chunk).lines) out

-- the areas after `feed`
unfoldable pub feed_areas : Progress → List ℕ → ℕ → Areas → Areas
feed_areas p chunk room a = cond (feedable p (length chunk) room) (bytes_taken (feed_at p a) chunk).areas a

-- the first bytes of a file, fed from areas a₀ on, have led to this progress and these areas
pub record Reached (a₀ : Areas) (before : List ℕ) (p : Progress) (a : Areas) : Type 0 where
  pub progress : p ≡ progress_of (after a₀ before)
  pub areas : a ≡ (after a₀ before).areas

-- what `start` promises: no byte of a file has been fed
pub record Started (p : Progress) : Type 0 where
  pub reached : (a₀ : Areas) → Reached a₀ [] p a₀

-- what `feed` promises
pub record FedAs (p : Progress) (chunk out : List ℕ) (a : Areas) (t : Taken) (out' : List ℕ) (a' : Areas) : Type 0 where
  pub answer : t ≡ feed_answer p chunk (length out) a
  pub lines : out' ≡ feed_lines p chunk out a
  pub areas : a' ≡ feed_areas p chunk (length out) a
  -- the bytes written lie within those lent
  pub within : t.written ≤ length out'
  -- a file cut anywhere: after its bytes `before` the chunk leads to what `before` and the chunk lead to together ..
  pub cut : (a₀ : Areas) (before : List ℕ) → t.fed ≡ true → Reached a₀ before p a → Reached a₀ (before ++ chunk) t.progress a'
  -- .. and the bytes written are the lines that the chunk adds
  pub added : (a₀ : Areas) (before : List ℕ) → t.fed ≡ true → Reached a₀ before p a
      → (after a₀ (before ++ chunk)).lines ≡ (after a₀ before).lines ++ take t.written out'

-- the last line of a file that has been fed this far, if there is one
unfoldable pub finish_line : Progress → List ℕ
finish_line p = last_line_of p.number (take p.held p.bytes) p.stopped p.words

-- what `finish` answers
unfoldable pub finish_answer : Progress → ℕ → Taken
finish_answer p room = cond (feedable p 0 room) (record { progress = p; fed = true; written = length (finish_line p) }) (left_untaken p)

-- the bytes lent for lines after `finish`
unfoldable pub finish_lines : Progress → List ℕ → List ℕ
finish_lines p out = cond (feedable p 0 (length out)) (sets out 0 (finish_line p)) out

-- what `finish` promises
pub record FinishedAs (p : Progress) (out : List ℕ) (t : Taken) (out' : List ℕ) : Type 0 where
  pub answer : t ≡ finish_answer p (length out)
  pub lines : out' ≡ finish_lines p out
  -- the bytes written lie within those lent
  pub within : t.written ≤ length out'
  -- the lines written while the file was fed and this last one are the lines of the whole file
  pub whole : (a₀ a : Areas) (file : List ℕ) → right_sizes a₀ ≡ true → t.fed ≡ true → Reached a₀ file p a
      → file_lines file ≡ (after a₀ file).lines ++ take t.written out'
