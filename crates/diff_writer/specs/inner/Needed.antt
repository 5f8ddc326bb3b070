-- What the functions below `write` ask of one another: pages of 32 words, and places that lie within the destination. Assumes nothing.
use Rattle.std.specs.Prelude.{ℕ, ◌+◌, ◌*◌, ◌^◌, ◌≤◌, ◌<◌, min, ◌≡◌, List, length}
use Rattle.limits.specs.Limits.{page_width}
use Rattle.diff.specs.Format.{difference, set_words, written}
use Rattle.diff.specs.inner.Mask.{mask_of}

-- both pages have 32 words
pub record PagesWhole (old new : List ℕ) : Type 0 where
  pub old_whole : length old ≡ page_width
  pub new_whole : length new ≡ page_width

-- the diff of two pages, whose mask is given, lies within the destination
pub record RoomForDiff (old new : List ℕ) (mask : ℕ) (out : List ℕ) : Type 0 where
  pub whole : PagesWhole old new
  pub is : mask ≡ mask_of (difference old new)
  pub room : length (written old new) ≤ length out

-- the words of the diff, from a place on, lie within the destination
pub record RoomForWords (old new : List ℕ) (mask : ℕ) (out : List ℕ) (from : ℕ) : Type 0 where
  pub whole : PagesWhole old new
  pub is : mask ≡ mask_of (difference old new)
  pub room : from + 4 * length (set_words (difference old new)) ≤ length out

-- a mask has a digit for each word of a page
pub record MaskFits (mask : ℕ) : Type 0 where
  pub below : mask < 2 ^ page_width

-- a run lies within the page, and its pair, unless the run is empty, within the destination
pub record RoomForPair (out : List ℕ) (at offset len : ℕ) : Type 0 where
  pub on_page_lem : offset + len ≤ page_width
  pub room : at + 2 * min len 1 ≤ length out
