-- What the four methods of `Clock` leave to show, one law for each way of the code, and `clock_laws`, by which their proofs search.
-- Assumes nothing.
use Prim.Native.Nat.{ℕ, zero, suc, ◌+◌, ◌-◌, ◌≤◌, ◌<◌, max}
use native.Mathlib.Numerals.{add-one}
use native.Mathlib.Omega.{arith}
use mathlib.Core.Bool.{Bool, true, false}
use mathlib.Core.List.{List}
use mathlib.Core.Path.{◌≡◌, refl, sym, ap, ◌∙◌}
use lib.ListN.{length, get_or, set, take, drop, drop_of_length-le, get_or-eq_default}
use lib.Seq.{take_all, take-suc, take-suc-set, drop-cons}
use borrow.Author.Tests.{le-leb}
use borrow.Author.Rules.{rules}
use Rattle.clock.specs.Clocks.{joined, covered, entry_of, sum_of}
use Rattle.clock.proofs.Laws.{joined_entry, length_joined, covered→Covers}

-- ---- join: `entries` has the join's first i entries

-- one more entry is the join's
pub join_more : (a b out : List ℕ) (r i n : ℕ) → length a ≡ n → length b ≡ n → length out ≡ n → i < n → r ≡ max (get_or a i 0) (get_or b i 0)
    → take i out ≡ take i (joined a b) → take (i + 1) (set out i r) ≡ take (i + 1) (joined a b)
join_more a b out r i n la lb lo h e t =
    let ho : i < length out = omega arith in
    let hj : i < length (joined a b) = omega (arith, length_joined a b) in
    rw (add-one, take-suc-set out i r, take-suc (joined a b) i 0, joined_entry a b i, t, e)

-- all entries are the join's
pub join_all : (a b out : List ℕ) (i n : ℕ) → length a ≡ n → length b ≡ n → length out ≡ n → n ≤ i → take i out ≡ take i (joined a b) → out ≡ joined a b
join_all a b out i n la lb lo h t =
    sym (take_all i out (omega arith)) ∙ t ∙ take_all i (joined a b) (omega (arith, length_joined a b))

-- ---- covers: the first i entries are covered, so the others decide

-- a smaller entry is not covered
pub uncovered : (a b : List ℕ) (i : ℕ) → get_or a i 0 < get_or b i 0 → false ≡ covered a b
uncovered a b i h = by_cases (covered a b) refl
  where
    by_cases : (t : Bool) → covered a b ≡ t → false ≡ t
    by_cases true e = absurd (omega (arith, (covered→Covers a b e).at i))
    by_cases false e = refl

-- one more entry is covered
pub covers_more : (a b : List ℕ) (i n : ℕ) → length a ≡ n → length b ≡ n → i < n → get_or b i 0 ≤ get_or a i 0
    → covered a b ≡ covered (drop i a) (drop i b) → covered a b ≡ covered (drop (i + 1) a) (drop (i + 1) b)
unfolding covered
covers_more a b i n la lb h le e =
    let ha : i < length a = omega arith in
    let hb : i < length b = omega arith in
    e ∙ rw (add-one, drop-cons a i 0, drop-cons b i 0, le-leb (get_or b i 0) (get_or a i 0))

-- all entries are covered
pub covers_all : (a b : List ℕ) (i n : ℕ) → length b ≡ n → n ≤ i → covered a b ≡ covered (drop i a) (drop i b) → true ≡ covered a b
unfolding covered
covers_all a b i n lb h e =
    let le : length b ≤ i = omega arith in
    sym (e ∙ rw (drop_of_length-le b le))

-- ---- entry

-- nobody has no entry
pub entry_of_nobody : (c : List ℕ) (p : ℕ) → p ≡ 0 → 0 ≡ entry_of c p
unfolding entry_of
entry_of_nobody c p e = rw e

-- a processor past the end has no entry
pub entry_of_absent : (c : List ℕ) (p n : ℕ) → length c ≡ n → n < p → 0 ≡ entry_of c p
unfolding entry_of
entry_of_absent c zero n l h = refl
entry_of_absent c (suc q) n l h = sym (get_or-eq_default c 0 (omega arith))

-- the entry of processor p is at place p - 1
pub entry_of_present : (c : List ℕ) (p : ℕ) → (p ≡ 0 → ⊥) → get_or c (p - 1) 0 ≡ entry_of c p
unfolding entry_of
entry_of_present c zero h = absurd (h refl)
entry_of_present c (suc q) h = ap (λ (k : ℕ). get_or c k 0) (omega arith)

-- ---- sum: `total` and the entries from i on make the sum

-- one more entry is added
pub sum_more : (c : List ℕ) (total x i : ℕ) → i < length c → x ≡ get_or c i 0 → total + sum_of (drop i c) ≡ sum_of c
    → total + x + sum_of (drop (i + 1) c) ≡ sum_of c
unfolding sum_of
sum_more c total x i h v e = rw (add-one, v) (omega (arith, ap sum_of (drop-cons c i 0 h)))

-- all entries are added
pub sum_all : (c : List ℕ) (total i : ℕ) → length c ≤ i → total + sum_of (drop i c) ≡ sum_of c → total ≡ sum_of c
unfolding sum_of
sum_all c total i h e = omega (arith, ap sum_of (drop_of_length-le c h))

pub ruleset clock_laws = (uncovered, covers_more, covers_all, entry_of_nobody, entry_of_absent, entry_of_present, rules)
