-- The parts of an opening: which records are accepted, and what is laid into the areas. Assumes nothing.
use Rattle.std.specs.Prelude.{ℕ, ◌-◌, ◌≡◌, Bool, ◌&&◌, List, ◌∷◌, length, get_or, replicate, eqb}
use Rattle.limits.specs.Files.{file_record_width}
use Rattle.limits.specs.Places.{standing_place}
use Rattle.limits.specs.inner.Sizes.{mark_area}
use Rattle.rules.specs.State.{mainframe}
use Rattle.rules.specs.Opening.{opening_refusal, opened}
use Rattle.layout.specs.Areas.{areas, holding}
use Rattle.layout.specs.inner.Needed.{Lent}
use Rattle.opening.specs.Promises.{opening_of}

-- eight bytes that row 2 does not refuse
unfoldable pub opening_fits : List ℕ → Bool
opening_fits bytes = eqb (length bytes) file_record_width && eqb (opening_refusal mainframe (opening_of bytes)) 0

-- the marks of an opened mainframe: the three counts, all else 0
unfoldable pub opened_marks : List ℕ → List ℕ
opened_marks bytes = get_or bytes 1 0 ∷ get_or bytes 2 0 ∷ get_or bytes 3 0 ∷ replicate (mark_area - standing_place) 0

-- ---- what the parts of an opening ask

-- the areas have their sizes, and the opening its eight bytes
pub record Openable (bytes c w r m : List ℕ) : Type 0 where
  pub lent : Lent c w r m
  pub opening : length bytes ≡ file_record_width

-- the area of the marks, and the opening
pub record MarksOpenable (bytes m : List ℕ) : Type 0 where
  pub marks : length m ≡ mark_area
  pub opening : length bytes ≡ file_record_width

-- ---- what they answer and leave

-- b says whether the opening fits
pub record OpeningIs (b : Bool) (bytes : List ℕ) : Type 0 where
  pub is : b ≡ opening_fits bytes

-- the areas hold exactly the opened state
pub record HoldsOpened (bytes c w r m : List ℕ) : Type 0 where
  pub is : areas c w r m ≡ holding (opened mainframe (opening_of bytes).counts)
