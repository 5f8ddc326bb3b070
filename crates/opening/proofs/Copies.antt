-- Fresh copies laid one behind the other: the words up to the last of them are 0. Assumes nothing.
use Prim.Native.Nat.{ℕ, ◌+◌, ◌≤◌}
use native.Mathlib.Omega.{arith}
use mathlib.Core.Path.{◌≡◌, refl, sym, ap, ◌∙◌}
use mathlib.Core.List.{List, ◌++◌}
use lib.ListN.{length, take, drop, length-append, length-drop, replicate, length-replicate, replicate-append-replicate}
use lib.Seq.{length-take-le, take_all, take_at, sets-eq, length-sets}
use borrow.Rule.Slice.PartMut.{put_mid}
use Rattle.lists.proofs.Copies.{copied}

-- n zeros more behind i zeros
pub zeros_behind : (i n k m : ℕ) (w v : List ℕ) → m ≡ i + n → k ≡ n → m ≤ length w → v ≡ replicate n 0 → take i w ≡ replicate i 0
    → take m (put_mid i k w v) ≡ replicate m 0
zeros_behind i n k m w v q p h e f =
    let long : length v ≡ n = ap length e ∙ length-replicate n 0 in
    let front : length (take i w ++ v) ≡ i + n = length-append (take i w) v ∙ omega (arith, length-take-le i w (omega (arith, h, q)), long) in
    rw q
    (ap (λ (l : List ℕ). take (i + n) l) (copied w i k v v refl (omega (arith, p, long)) (omega (arith, h, q, long)) ∙ sets-eq v w i (omega (arith, h, q, long)))
    ∙ take_at (take i w ++ v) (drop (i + length v) w) (i + n) front
    ∙ ap (λ (l : List ℕ). l ++ v) f ∙ ap (λ (l : List ℕ). replicate i 0 ++ l) e
    ∙ replicate-append-replicate i n 0)

-- where all words behind i zeros become 0, all are
pub all_zeros : (i k n : ℕ) (w v : List ℕ) → length w ≡ n → i + k ≡ n → v ≡ replicate (length (take k (drop i w))) 0 → take i w ≡ replicate i 0
    → put_mid i k w v ≡ replicate n 0
all_zeros i k n w v l s e f =
    let part : length (take k (drop i w)) ≡ k = length-take-le k (drop i w) (omega (arith, length-drop i w, l, s)) in
    let zeros : v ≡ replicate k 0 = e ∙ ap (λ (j : ℕ). replicate j 0) part in
    let long : length v ≡ k = ap length zeros ∙ length-replicate k 0 in
    let same : length (put_mid i k w v) ≡ length w = ap length (copied w i k v v refl (omega (arith, long)) (omega (arith, l, s, long))) ∙ length-sets w i v in
    sym (take_all n (put_mid i k w v) (omega (arith, same, l))) ∙ zeros_behind i k k n w v (omega (arith, s)) refl (omega (arith, l)) zeros f
