-- The bounds of the kinds: 26 numbers by which one test says whether a kind is known and its fields fit; and the marks of a processor as one
-- test. Assumes nothing.
use Rattle.std.specs.Prelude.{ℕ, ◌+◌, ◌*◌, min, Bool, cond, ◌&&◌, List, [], ◌∷◌, ◌==◌, nat_le, nat_lt, slice_index}
use Rattle.limits.specs.Limits.{page_width, tally_limit}
use Rattle.limits.specs.Places.{first_arrived}
use Rattle.limits.specs.inner.Sizes.{first_awaited, kind_bounds, kind_limit, value_limit}
use Rattle.rules.specs.State.{State}
use Rattle.rules.specs.Refusals.{known_kind, uses_value}
use Rattle.layout.specs.inner.Marks.{page_count, lock_count}
use Rattle.refusals.specs.inner.Parts.{bound_of}

-- below which number the object of a kind is: no object is below that of a kind that is not known
unfoldable pub object_bound_of : State → ℕ → ℕ
object_bound_of s kind = cond (known_kind kind) (bound_of s kind) 0

-- up to which number the value of a kind may be
unfoldable pub value_bound_of : ℕ → ℕ
value_bound_of kind = cond (uses_value kind) value_limit 0

-- whether object and value are within the bounds at the place of a kind
unfoldable pub is_in_bounds : List ℕ → ℕ → ℕ → ℕ → Bool
is_in_bounds bounds kind object value =
    nat_lt object (slice_index bounds (min kind kind_limit)) && nat_le value (slice_index bounds (kind_bounds + min kind kind_limit))

-- whether neither the arrived mark at the place of a processor is set nor that of the lock it waits for
unfoldable pub marks_free : List ℕ → ℕ → Bool
marks_free m k = slice_index m (first_arrived + k) == 0 && slice_index m (first_awaited + k) == 0

-- the bounds of the marks, a place a kind: the words for a read or a write, the locks for an acquire or a release, 1 where no object is used, the
-- tallies for kinds 8 and 9, 0 where a kind is not known; then what the value may be, anything for a write, an add or an enqueue and 0 for the others
unfoldable pub bounds_of : List ℕ → List ℕ
bounds_of m =
    let words = page_count m * page_width in
    let locks = lock_count m in
    0 ∷ words ∷ words ∷ locks ∷ locks ∷ 1 ∷ 1 ∷ 0 ∷ tally_limit ∷ tally_limit ∷ 1 ∷ 1 ∷ 0
    ∷ 0 ∷ 0 ∷ value_limit ∷ 0 ∷ 0 ∷ 0 ∷ 0 ∷ 0 ∷ value_limit ∷ 0 ∷ value_limit ∷ 0 ∷ 0 ∷ []
