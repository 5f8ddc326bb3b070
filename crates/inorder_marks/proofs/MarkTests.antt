-- What the tests of the marks leave to show. Assumes nothing.
use Prim.Native.Nat.{ℕ, zero, suc, ◌+◌, ◌-◌, ◌≤◌, ◌<◌}
use native.Mathlib.Numerals.{add-one}
use native.Mathlib.Omega.{arith}
use mathlib.Core.Path.{◌≡◌, refl, sym, ◌∙◌}
use mathlib.Core.Bool.{Bool, true, false, ◌&&◌}
use mathlib.Core.List.{List}
use lib.ListN.{length, get_or, take, drop, length-drop}
use lib.Dec.{eqb}
use lib.Seq.{get_or-drop, get_or-take}
use Rattle.std.specs.Prelude.{◌↔◌}
use Rattle.std.specs.List.{list_any, Any}
use Rattle.std.proofs.lemmas.List.Folds.{list_any_more, list_any-from_Any, Any-from_list_any}
use Rattle.lists.specs.Tables.{every, any}
use Rattle.inorder_marks.specs.inner.Tests.{zero_at}

-- ---- places that are 0

module _ (l : List ℕ) (at : ℕ) where
  -- one more of a part
  pub zeros_more : (n i : ℕ) (all : Bool) → i < n → all ≡ every i (zero_at l at) → (all && eqb (get_or (take n (drop at l)) i 0) 0) ≡ every (i + 1) (zero_at l at)
  unfolding every zero_at
  zeros_more n i all h e = rw (add-one, e, get_or-take n (drop at l) i 0 h, get_or-drop at l i 0)

  -- whether one of a part is 0
  zero_found : (n : ℕ) → at + n ≤ length l → list_any (λ y. eqb y 0) (take n (drop at l)) ≡ any n (zero_at l at)
  unfolding any zero_at
  zero_found zero h = refl
  zero_found (suc n) h =
      let there : n < length (drop at l) = omega (arith, length-drop at l) in
      rw (← add-one n, list_any_more (λ y. eqb y 0) (drop at l) n 0 there, zero_found n (omega arith), get_or-drop at l n 0)

  -- an iterator's `any` says it
  pub found_is : (n : ℕ) (r : Bool) → at + n ≤ length l → (r ≡ true ↔ Any (λ y. eqb y 0 ≡ true) (take (at + n - at) (drop at l))) → r ≡ any n (zero_at l at)
  found_is n r h e =
      let same : at + n - at ≡ n = omega arith in
      let f : r ≡ true ↔ Any (λ y. eqb y 0 ≡ true) (take n (drop at l)) = rw same at e in
      go r (list_any (λ y. eqb y 0) (take n (drop at l))) f.0 f.1 (list_any-from_Any (λ y. eqb y 0) (take n (drop at l))) (Any-from_list_any (λ y. eqb y 0) (take n (drop at l))) ∙ zero_found n h
    where
      go : {P : Type 0} (r s : Bool) → (r ≡ true → P) → (P → r ≡ true) → (P → s ≡ true) → (s ≡ true → P) → r ≡ s
      go true s a b c d = sym (c (a refl))
      go false true a b c d = b (d refl)
      go false false a b c d = refl
