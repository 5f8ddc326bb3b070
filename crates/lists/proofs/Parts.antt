-- Parts of a list: its elements from one place up to another, also where a place lies behind the end or the two stand the wrong way round.
-- Assumes nothing.
use Prim.Native.Nat.{ℕ, ◌+◌, ◌-◌, ◌<◌, ◌≤◌, min}
use native.Mathlib.Omega.{arith}
use mathlib.Core.Path.{◌≡◌, refl, sym, ap, ◌∙◌}
use mathlib.Core.Bool.{Bool, true, false}
use mathlib.Core.List.{List, [], ◌++◌}
use lib.ListN.{length, take, drop, length-take, length-drop, drop_of_length-le}
use lib.Seq.{drop-drop, drop-length, take-add, take_all, take-length, take-take}
use lib.Dec.{leb}
use borrow.Author.Tests.{leb-true, leb-false}

-- ---- places behind the end

-- what is the same at n as at m, where n lies behind m, is the same at the smaller of the two
from_there : {B : Type 0} (f : ℕ → B) (n m : ℕ) → (m ≤ n → f m ≡ f n) → f (min n m) ≡ f n
from_there f n m h = go (leb n m) refl
  where
    go : (b : Bool) → leb n m ≡ b → f (min n m) ≡ f n
    go true e =
        let before : min n m ≡ n = omega (arith, leb-true n m e) in
        ap f before
    go false e =
        let l : m < n = leb-false n m e in
        let behind : min n m ≡ m = omega arith in
        ap f behind ∙ h (omega arith)

module _ {A : Type 0} where
  -- the first n elements end at the end at the latest
  pub take_at_most : (n : ℕ) (xs : List A) → take (min n (length xs)) xs ≡ take n xs
  take_at_most n xs = from_there (λ j. take j xs) n (length xs) (λ l. take-length xs ∙ sym (take_all n xs l))

  -- what lies behind them begins there at the latest
  pub drop_at_most : (n : ℕ) (xs : List A) → drop (min n (length xs)) xs ≡ drop n xs
  drop_at_most n xs = from_there (λ j. drop j xs) n (length xs) (λ l. drop-length xs ∙ sym (drop_of_length-le xs {i = n} l))

  -- ---- the part of a list between two places

  -- places within the list that give the same part
  pub part_within : (from to : ℕ) (xs : List A) (f t : ℕ) → t ≡ min to (length xs) → f ≡ min from t → take (t - f) (drop f xs) ≡ take (to - from) (drop from xs)
  part_within from to xs f t e d = go (leb from t) refl ∙ ap (λ (n : ℕ). take n (drop from xs)) many ∙ take_at_most (to - from) (drop from xs)
    where
      many : t - f ≡ min (to - from) (length (drop from xs))
      many = omega (arith, length-drop from xs)

      go : (b : Bool) → leb from t ≡ b → take (t - f) (drop f xs) ≡ take (t - f) (drop from xs)
      go true l =
          let same : f ≡ from = omega (arith, leb-true from t l) in
          ap (λ (n : ℕ). take (t - f) (drop n xs)) same
      go false l =
          let none : t - f ≡ 0 = omega (arith, leb-false from t l) in
          rw none

  -- where it ends before it begins there is nothing
  pub no_part : (from to : ℕ) (xs : List A) → to ≤ from → take (to - from) (drop from xs) ≡ []
  no_part from to xs l =
      let none : to - from ≡ 0 = omega arith in
      rw none

  -- from the start it is the first elements
  pub part_from_start : (n : ℕ) (xs : List A) → take (n - 0) (drop 0 xs) ≡ take n xs
  part_from_start n xs =
      let all : n - 0 ≡ n = omega arith in
      rw all

  -- the first n of the first k elements, and the others of the k
  first_and_rest : (n k : ℕ) (xs : List A) → take n (take k xs) ++ take (k - min n k) (drop (min n k) xs) ≡ take k xs
  first_and_rest n k xs = ap (λ (ys : List A). ys ++ take (k - min n k) (drop (min n k) xs)) front ∙ sym (take-add (min n k) (k - min n k) xs) ∙ ap (λ (j : ℕ). take j xs) all
    where
      short : length (take k xs) ≤ k
      short = omega (arith, length-take k xs)

      front : take n (take k xs) ≡ take (min n k) xs
      front =
          sym (from_there (λ j. take j (take k xs)) n k (λ l. take_all k (take k xs) short ∙ sym (take_all n (take k xs) (omega (arith, short)))))
          ∙ take-take (min n k) k xs (omega arith)

      all : min n k + (k - min n k) ≡ k
      all = omega arith

  -- its first n elements, and the part that is left behind them
  pub part_goes_on : (n from to : ℕ) (xs : List A) → take n (take (to - from) (drop from xs)) ++ take (to - (from + min n (to - from))) (drop (from + min n (to - from)) xs) ≡ take (to - from) (drop from xs)
  part_goes_on n from to xs =
      ap (λ (j : ℕ). take n (take (to - from) (drop from xs)) ++ take j (drop (from + min n (to - from)) xs)) fewer
      ∙ ap (λ (ys : List A). take n (take (to - from) (drop from xs)) ++ take (to - from - min n (to - from)) ys) (sym (drop-drop (min n (to - from)) from xs))
      ∙ first_and_rest n (to - from) (drop from xs)
    where
      fewer : to - (from + min n (to - from)) ≡ to - from - min n (to - from)
      fewer = omega arith
