-- The four fields of a record, and the step that they make: `reading_laws`. Assumes nothing.
use Prim.Native.Nat.{ℕ, ◌+◌, ◌*◌}
use native.Mathlib.Nat.{add-zero}
use native.Mathlib.Omega.{arith}
use mathlib.Core.Path.{◌≡◌}
use mathlib.Core.List.{List, [], ◌∷◌}
use lib.ListN.{get_or, take}
use lib.Seq.{get_or-drop, get_or-take}
use Rattle.std.specs.Int.{from_le_bytes, w16, w32}
use Rattle.limits.specs.Files.{file_record_width}
use Rattle.rules.specs.Refusals.{step_of}
use Rattle.step_fields.specs.Records.{step_from}
use Rattle.step_fields.specs.inner.Needed.{FieldsAre}

-- two bytes, low first, as one number
two_bytes : (a b : ℕ) → from_le_bytes w16 (a ∷ b ∷ []) ≡ a + 256 * b
two_bytes a b = omega arith

-- four bytes, low first, as one number
four_bytes : (a b c d : ℕ) → from_le_bytes w32 (a ∷ b ∷ c ∷ d ∷ []) ≡ a + 256 * b + 65536 * c + 16777216 * d
four_bytes a b c d = omega arith

-- the fields, read byte by byte from a place on, are those of the record there
pub fields_read : (bs : List ℕ) (at k p o v : ℕ) → k ≡ get_or bs at 0 → p ≡ get_or bs (at + 1) 0
    → o ≡ from_le_bytes w16 (get_or bs (at + 2) 0 ∷ get_or bs (at + 3) 0 ∷ [])
    → v ≡ from_le_bytes w32 (get_or bs (at + 4) 0 ∷ get_or bs (at + 5) 0 ∷ get_or bs (at + 6) 0 ∷ get_or bs (at + 7) 0 ∷ [])
    → FieldsAre bs at k p o v
unfolding step_of step_from
fields_read bs at k p o v hk hp ho hv =
    record {
      is =
          rw (get_or-drop at bs 0 0, get_or-drop at bs 1 0, get_or-drop at bs 2 0, get_or-drop at bs 3 0, get_or-drop at bs 4 0, get_or-drop at bs 5 0, get_or-drop at bs 6 0, get_or-drop at bs 7 0, add-zero at, hk, hp, ho, hv, two_bytes, four_bytes);
    }

-- the step of a record is that of its eight bytes
pub step_of_eight : (bytes : List ℕ) → step_from (take file_record_width bytes) ≡ step_from bytes
unfolding step_from
step_of_eight bytes =
    rw (get_or-take file_record_width bytes 0 0 (omega arith), get_or-take file_record_width bytes 1 0 (omega arith), get_or-take file_record_width bytes 2 0 (omega arith), get_or-take file_record_width bytes 3 0 (omega arith), get_or-take file_record_width bytes 4 0 (omega arith), get_or-take file_record_width bytes 5 0 (omega arith), get_or-take file_record_width bytes 6 0 (omega arith), get_or-take file_record_width bytes 7 0 (omega arith))
