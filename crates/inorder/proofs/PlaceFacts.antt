-- The tests on the places of the areas as facts about each row and each place, both ways. Assumes nothing.
use Prim.Native.Nat.{ℕ, suc, ◌+◌, ◌-◌, ◌*◌, ◌/◌, ◌%◌, ◌≤◌, ◌<◌}
use native.Mathlib.Omega.{arith}
use native.Mathlib.Decide.{dec_lt}
use mathlib.Core.Path.{◌≡◌, refl, sym, ap, ◌∙◌}
use mathlib.Core.Bool.{Bool, true, false}
use mathlib.Core.List.{List}
use lib.ListN.{get_or}
use borrow.Author.Tests.{leb-true, eqb-true, le-leb, eq-eqb}
use Rattle.lists.specs.Tables.{every}
use Rattle.lists.proofs.Conditions.{and_left, and_right, and_both}
use Rattle.lists.proofs.Tables.{every_at, every_holds}
use Rattle.limits.specs.Limits.{page_limit, page_width, processor_limit}
use Rattle.limits.specs.inner.Sizes.{clock_width, own_step}
use Rattle.clock.specs.Clocks.{zeros}
use Rattle.lists.proofs.Tabulated.{get_tabulate}
use Rattle.inorder_marks.specs.inner.Tests.{zero_at}
use Rattle.inorder.specs.inner.Tests.{entry_within, is_row_within, rows_hold, own_entries}

-- ---- places that are 0

-- each of them
pub zero_at_lem : (l : List ℕ) (at n i : ℕ) → every n (zero_at l at) ≡ true → i < n → get_or l (at + i) 0 ≡ 0
unfolding zero_at
zero_at_lem l at n i e h = eqb-true _ _ (every_at n (zero_at l at) i e h)

-- all of them
pub zeros_hold : (l : List ℕ) (at n : ℕ) → ((i : ℕ) → i < n → get_or l (at + i) 0 ≡ 0) → every n (zero_at l at) ≡ true
unfolding zero_at
zeros_hold l at n f = every_holds n (zero_at l at) (λ i h. eq-eqb _ _ (f i h))

-- ---- rows of clocks

-- a row that is there does not exceed the other clock
pub rows_within_at : (most c : List ℕ) (first n there i q : ℕ) → rows_hold most c first n there ≡ true → i < there → q < processor_limit
    → get_or c (clock_width * (first + i) + q) 0 ≤ get_or most q 0
unfolding rows_hold is_row_within entry_within
rows_within_at most c first n there i q e h b =
    leb-true _ _ (every_at processor_limit (entry_within most c (clock_width * (first + i))) q (every_at there (is_row_within most c first) i (and_left _ (every (clock_width * (n - there)) (zero_at c (clock_width * (first + there)))) e) h) b)

-- an absent row is zeros
pub rows_zero_at : (most c : List ℕ) (first n there i q : ℕ) → rows_hold most c first n there ≡ true → there ≤ i → i < n → q < processor_limit
    → get_or c (clock_width * (first + i) + q) 0 ≡ 0
unfolding rows_hold
rows_zero_at most c first n there i q e h k b =
    let place : clock_width * (first + i) + q ≡ clock_width * (first + there) + (clock_width * (i - there) + q) = omega arith in
    ap (λ (j : ℕ). get_or c j 0) place
    ∙ zero_at_lem c (clock_width * (first + there)) (clock_width * (n - there)) (clock_width * (i - there) + q) (and_right (every there (is_row_within most c first)) _ e) (omega arith)

-- so no row exceeds the other clock
pub rows_known : (most c : List ℕ) (first n there i q : ℕ) → rows_hold most c first n there ≡ true → i < n → q < processor_limit
    → get_or c (clock_width * (first + i) + q) 0 ≤ get_or most q 0
rows_known most c first n there i q e k b = go (dec_lt i there)
  where
    go : Dec (i < there) → get_or c (clock_width * (first + i) + q) 0 ≤ get_or most q 0
    go (yes h) = rows_within_at most c first n there i q e h b
    go (no h) = omega (arith, rows_zero_at most c first n there i q e (omega arith) k b)

-- rows of which both holds
pub rows_hold_when : (most c : List ℕ) (first n there : ℕ)
    → ((i q : ℕ) → i < there → q < processor_limit → get_or c (clock_width * (first + i) + q) 0 ≤ get_or most q 0)
    → ((i q : ℕ) → there ≤ i → i < n → q < processor_limit → get_or c (clock_width * (first + i) + q) 0 ≡ 0)
    → rows_hold most c first n there ≡ true
unfolding rows_hold is_row_within entry_within
rows_hold_when most c first n there within zeros =
    and_both (every there (is_row_within most c first)) (every (clock_width * (n - there)) (zero_at c (clock_width * (first + there))))
    (every_holds there (is_row_within most c first) (λ i h. every_holds processor_limit (entry_within most c (clock_width * (first + i))) (λ q b. le-leb _ _ (within i q h b))))
    (zeros_hold c (clock_width * (first + there)) (clock_width * (n - there)) at)
  where
    at : (j : ℕ) → j < clock_width * (n - there) → get_or c (clock_width * (first + there) + j) 0 ≡ 0
    at j h =
        let place : clock_width * (first + there) + j ≡ clock_width * (first + (there + j / clock_width)) + j % clock_width = omega arith in
        ap (λ (k : ℕ). get_or c k 0) place ∙ zeros (there + j / clock_width) (j % clock_width) (omega arith) (omega arith) (omega arith)

-- ---- pages of words

-- the words of absent pages are 0
pub words_zero_at : (w : List ℕ) (first k there g o : ℕ) → every (page_width * (page_limit - there)) (zero_at w (page_width * (first + page_limit * k + there))) ≡ true
    → there ≤ g → g < page_limit → o < page_width → get_or w (page_width * (first + page_limit * k + g) + o) 0 ≡ 0
words_zero_at w first k there g o e h b d =
    let place : page_width * (first + page_limit * k + g) + o ≡ page_width * (first + page_limit * k + there) + (page_width * (g - there) + o) = omega arith in
    ap (λ (j : ℕ). get_or w j 0) place
    ∙ zero_at_lem w (page_width * (first + page_limit * k + there)) (page_width * (page_limit - there)) (page_width * (g - there) + o) e (omega arith)

-- and where they are, the test passes
pub words_zero_when : (w : List ℕ) (first k there : ℕ) → ((g o : ℕ) → there ≤ g → g < page_limit → o < page_width → get_or w (page_width * (first + page_limit * k + g) + o) 0 ≡ 0)
    → every (page_width * (page_limit - there)) (zero_at w (page_width * (first + page_limit * k + there))) ≡ true
words_zero_when w first k there zeros = zeros_hold w (page_width * (first + page_limit * k + there)) (page_width * (page_limit - there)) at
  where
    at : (j : ℕ) → j < page_width * (page_limit - there) → get_or w (page_width * (first + page_limit * k + there) + j) 0 ≡ 0
    at j h =
        let place : page_width * (first + page_limit * k + there) + j ≡ page_width * (first + page_limit * k + (there + j / page_width)) + j % page_width = omega arith in
        ap (λ (i : ℕ). get_or w i 0) place ∙ zeros (there + j / page_width) (j % page_width) (omega arith) (omega arith) (omega arith)

-- ---- marks

-- the marks from a place on are 0
pub marks_zero_at : (m : List ℕ) (at n there g : ℕ) → every (n - there) (zero_at m (at + there)) ≡ true → there ≤ g → g < n → get_or m (at + g) 0 ≡ 0
marks_zero_at m at n there g e h b =
    let place : at + g ≡ at + there + (g - there) = omega arith in
    ap (λ (j : ℕ). get_or m j 0) place ∙ zero_at_lem m (at + there) (n - there) (g - there) e (omega arith)

-- and where they are, the test passes
pub marks_zero_when : (m : List ℕ) (at n there : ℕ) → ((g : ℕ) → there ≤ g → g < n → get_or m (at + g) 0 ≡ 0) → every (n - there) (zero_at m (at + there)) ≡ true
marks_zero_when m at n there zeros = zeros_hold m (at + there) (n - there) each
  where
    each : (j : ℕ) → j < n - there → get_or m (at + there + j) 0 ≡ 0
    each j h =
        let place : at + there + j ≡ at + (there + j) = omega arith in
        ap (λ (i : ℕ). get_or m i 0) place ∙ zeros (there + j) (omega arith) (omega arith)

-- ---- the own entries

-- where a processor's own entry stands
pub own_entry : (c : List ℕ) (k : ℕ) → k < processor_limit → get_or (own_entries c) k 0 ≡ get_or c (clock_width * suc k + k) 0
unfolding own_entries
own_entry c k h =
    get_tabulate processor_limit (λ j. get_or c (clock_width + own_step * j) 0) k 0 h
    ∙ ap (λ (i : ℕ). get_or c i 0) (omega arith)

-- ---- two truth values

-- tests that pass together are one
pub same_truth : (a b : Bool) → (a ≡ true → b ≡ true) → (b ≡ true → a ≡ true) → a ≡ b
same_truth true b f g = sym (f refl)
same_truth false true f g = g refl
same_truth false false f g = refl
