-- Tests that the library's `all` makes: of all numbers below a bound, and of all numbers of a list. Assumes nothing.
use Prim.Native.Nat.{ℕ}
use native.Mathlib.Omega.{arith}
use mathlib.Core.Path.{◌≡◌, refl, ap, ◌∙◌}
use mathlib.Core.Bool.{Bool, true, false, not}
use mathlib.Core.List.{List}
use lib.ListN.{length, get_or}
use denote.Param.Members.{Mut}
use borrow.Author.Tests.{not-true}
use Rattle.std.specs.declared.ops.Range.{Range}
use Rattle.std.specs.declared.option.Option.{Option}
use Rattle.std.specs.Fn.{Called}
use Rattle.std.specs.Iterator.{YieldsThen}
use Rattle.std.specs.List.{FoldsTo, range_with_len, list_all}
use Rattle.std.specs.Option.{MatchOption}
use Rattle.std.proofs.iter.Yields.{nat_range_steps}
use Rattle.std.proofs.lemmas.Iterator.{YieldsList-from_range}
use Rattle.std.proofs.lemmas.Iterator.Search.{all_from_yields_List}
use Rattle.std.proofs.lemmas.List.Elements.{All-from_get_or}
use Rattle.std.proofs.lemmas.List.Folds.{list_all_at}
use Rattle.std.proofs.lemmas.List.FromFn.{get_or-range_with_len, length-range_with_len}
use Rattle.std.proofs.lemmas.List.Sums.{list_all-from_AllPass}
use Rattle.lists.specs.Tables.{every}
use Rattle.lists.proofs.Tables.{Passes, every_at, every_fails, every_same}

-- a test of all n numbers of a list, in the library's words and in this project's
pub list_all-places : (t : ℕ → Bool) (xs : List ℕ) (n : ℕ) → length xs ≡ n → list_all t xs ≡ every n (λ k. t (get_or xs k 0))
list_all-places t xs n long = go (every n (λ k. t (get_or xs k 0))) refl
  where
    fails : Passes n (λ k. not (t (get_or xs k 0))) → list_all t xs ≡ false
    fails z = list_all_at t xs z.at 0 (omega (arith, long, z.below)) (not-true _ z.passes)

    go : (b : Bool) → every n (λ k. t (get_or xs k 0)) ≡ b → list_all t xs ≡ b
    go true e = list_all-from_AllPass t xs (All-from_get_or (λ x. t x ≡ true) xs 0 (λ i h. every_at n (λ k. t (get_or xs k 0)) i e (omega (arith, long))))
    go false e = fails (every_fails n (λ k. t (get_or xs k 0)) e)

-- and of the numbers below n
list_all-range : (t : ℕ → Bool) (n : ℕ) → list_all t (range_with_len 0 n) ≡ every n t
list_all-range t n =
    list_all-places t (range_with_len 0 n) n (length-range_with_len 0 n)
    ∙ every_same n (λ k. t (get_or (range_with_len 0 n) k 0)) t (λ i h. ap t (omega (arith, get_or-range_with_len 0 n i 0 h)))

-- what `(0..n).all(f)` answers, where a call of f answers as the test t does
pub every_from_all : {F : Type 0} {g : Mut F (ℕ × Unit {0}) Bool} {f : F} {u : Range ℕ} {r : Bool} (n : ℕ) (t : ℕ → Bool)
    → (xs : List ℕ) × (o : Option ℕ) × (j : F) × YieldsThen nat_range_steps (record { start = 0; end = n }) xs o u × FoldsTo (λ p x q. Called g p (x, tt) true q) f xs j × MatchOption o (r ≡ true) (λ x. (r ≡ false) × ((h : F) × Called g j (x, tt) false h))
    → ((x : ℕ) (b : Bool) (q : F) → Called g f (x, tt) b q → (q ≡ f) × (b ≡ t x)) → r ≡ every n t
every_from_all {f = f} {u = u} {r = r} n t ran call = all_from_yields_List t u f r ran (YieldsList-from_range 0 n n refl (omega arith)) call ∙ list_all-range t n
