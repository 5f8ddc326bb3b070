-- A file taken byte by byte: eight make a record. Assumes nothing.
use Rattle.std.specs.Prelude.{ℕ, false, cond, List, [], ◌∷◌, ◌++◌, length, eqb}
use Rattle.file_record.specs.Records.{Feed, record_taken}

-- bytes that do not complete a record are held
unfoldable pub held_on : Feed → List ℕ → Feed
held_on f bytes = record { number = f.number; held = bytes; stopped = false; areas = f.areas; lines = f.lines; words = f.words }

-- one byte more; after 2 or 16 nothing changes any more
unfoldable pub byte_taken : Feed → ℕ → Feed
byte_taken f b =
    cond f.stopped f
    (cond (eqb (length f.held) 7) (record_taken f (f.held ++ b ∷ []))
    (held_on f (f.held ++ b ∷ [])))

-- some bytes more
unfoldable pub bytes_taken : Feed → List ℕ → Feed
bytes_taken f [] = f
bytes_taken f (b ∷ rest) = bytes_taken (byte_taken f b) rest
