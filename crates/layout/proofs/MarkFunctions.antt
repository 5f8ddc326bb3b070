-- Laws of the marks for those who write a part of them. Assumes nothing.
use Prim.Native.Nat.{ℕ, ◌+◌, ◌≤◌}
use native.Mathlib.Omega.{arith}
use mathlib.Core.Path.{◌≡◌, ◌∙◌}
use mathlib.Core.List.{List, ◌++◌}
use lib.ListN.{length, take, drop, replicate, length-replicate, length-drop}
use lib.Seq.{length-take-le, sets}
use Rattle.limits.specs.Limits.{page_limit}
use Rattle.rules.specs.State.{mainframe}
use Rattle.layout.specs.Areas.{dirty_place}
use Rattle.layout.specs.inner.Needed.{OnPage, MarksOf}
use Rattle.layout.proofs.Stores.{put_back}

-- ---- a part of an area filled with zeros and put back

pub part_cleared : (m part : List ℕ) (from n : ℕ) → from + n ≤ length m → part ≡ replicate (length (take n (drop from m))) 0
    → take from m ++ (part ++ drop n (drop from m)) ≡ sets m from (replicate n 0)
part_cleared m part from n h e =
    let long : length (take n (drop from m)) ≡ n = length-take-le n (drop from m) (omega (arith, length-drop from m)) in
    let zeros : length (replicate {A = ℕ} n 0) ≡ n = length-replicate n 0 in
    let is : part ≡ replicate n 0 = e ∙ rw long in
    rw is (put_back m (replicate n 0) from n zeros h)

-- ---- dirty marks

module _ (m : List ℕ) (p : ℕ) (there : MarksOf m p) where
  -- a processor's first dirty mark is there
  pub first_on_page : OnPage p 0
  first_on_page = record { from = there.from; to = there.to; page = omega arith }

  -- its last one too
  pub last_dirty_there : (from : ℕ) → from ≡ dirty_place mainframe p 0 → from + page_limit ≤ length m
  unfolding dirty_place mainframe
  last_dirty_there from e = omega (arith, there.marks, there.from, there.to)
