-- What the functions of this crate ask and promise. Assumes nothing.
use Rattle.std.specs.Prelude.{◌+◌, ◌-◌, ◌<◌, ◌≤◌, ℕ, ◌≡◌, Bool, ◌&&◌, List, ◌++◌, drop, length, replicate, take, ltb}
use Rattle.limits.specs.Files.{file_record_width}
use Rattle.rules.specs.InOrder.{all_zero}
use Rattle.file_held.specs.declared.Held.{Held}

-- b says whether fewer than eight bytes are held and the others are 0
pub record ZerosBehind (b : Bool) (held : ℕ) (bytes : List ℕ) : Type 0 where
  pub is : b ≡ (ltb held file_record_width && all_zero (drop held bytes))

-- bytes are held, at most eight, with zeros behind them
pub record Holding (held : ℕ) (bytes : List ℕ) : Type 0 where
  pub few : held ≤ file_record_width
  pub long : length bytes ≡ file_record_width
  pub zeros : drop held bytes ≡ replicate (file_record_width - held) 0

-- bytes are held, and the chunk has more from a place on
pub record Holdable (held : ℕ) (bytes chunk : List ℕ) (from : ℕ) : Type 0 where
  pub holding : Holding held bytes
  pub within : from ≤ length chunk

-- bytes of the chunk have been taken among those held: all together are the same
pub record HeldTogether (held : ℕ) (bytes chunk : List ℕ) (from : ℕ) (count : ℕ) (kept : List ℕ) (next : ℕ) : Type 0 where
  pub holding : Holding count kept
  pub within : next ≤ length chunk
  pub counted : next + held ≡ count + from
  pub same : take count kept ++ drop next chunk ≡ take held bytes ++ drop from chunk

-- until there are eight or the chunk ends
pub record HeldAll (held : ℕ) (bytes chunk : List ℕ) (from : ℕ) (h : Held) : Type 0 where
  pub holds : HeldTogether held bytes chunk from h.count h.bytes h.next
  pub short : h.count < file_record_width → h.next ≡ length chunk
