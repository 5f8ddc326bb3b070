-- A part of a list that is copied over. Assumes nothing.
use Prim.Native.Nat.{ℕ, ◌+◌, ◌≤◌}
use mathlib.Core.Path.{◌≡◌}
use mathlib.Core.List.{List, append_assoc}
use lib.ListN.{length}
use lib.Seq.{drop-drop, sets-eq, sets}
use borrow.Rule.Slice.PartMut.{put_mid}

-- numbers copied over as many from a place on are stored there
pub copied : (out : List ℕ) (at k : ℕ) (vs ys : List ℕ) → ys ≡ vs → k ≡ length vs → at + length vs ≤ length out → put_mid at k out ys ≡ sets out at vs
copied out at k vs ys e n h = rw (e, n, drop-drop (length vs) at out, sets-eq vs out at h, append_assoc)
