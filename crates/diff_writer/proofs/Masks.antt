-- The laws of masks: what shifting one, counting its zeros and clearing its lowest digit say of the settings. Assumes nothing.
use Prim.Native.Nat.{ℕ, zero, suc, ◌+◌, ◌-◌, ◌*◌, ◌/◌, ◌%◌, ◌^◌, ◌≤◌, ◌<◌, min}
use native.Mathlib.Nat.{add-zero, lt_of_lt_of_le, mul_assoc, mul_comm, pow-suc, pow-zero, zero-div}
use native.Mathlib.Omega.{arith}
use mathlib.Core.Path.{◌≡◌, refl, sym, ap, ap₂, ◌∙◌}
use mathlib.Core.Bool.{Bool, true, false, cond}
use mathlib.Core.Option.{Option, none, some}
use mathlib.Core.List.{List, [], ◌∷◌, ◌++◌, append-nil}
use lib.ListN.{length, get_or, drop, take}
use lib.Dec.{eqb}
use lib.Count.{count_trailing_zeros, under}
use lib.Bits.{and_step, and_self, bit_and}
use lib.Pow.{pow_pos, pow_mono, shr-shr}
use Rattle.diff.specs.Format.{setting, difference, ended, runs_from, set_words}
use Rattle.diff.specs.inner.Mask.{mask_of}
use Rattle.diff.proofs.Masking.{mask_below}
use Rattle.diff_writer.specs.inner.Masks.{kept_first, set_first, without_first, picked}

-- ---- digits

-- a number that is twice another, and one more than that
double_half : (m : ℕ) → 2 * m / 2 ≡ m
double_half m = omega arith

double_even : (m : ℕ) → 2 * m % 2 ≡ 0
double_even m = omega arith

odd_half : (m : ℕ) → (1 + 2 * m) / 2 ≡ m
odd_half m = omega arith

odd_odd : (m : ℕ) → (1 + 2 * m) % 2 ≡ 1
odd_odd m = omega arith

-- one digit less is one word less
mask_half : (s : Option ℕ) (d : List (Option ℕ)) → mask_of (s ∷ d) / 2 ≡ mask_of d
unfolding mask_of
mask_half none d = double_half (mask_of d)
mask_half (some v) d = odd_half (mask_of d)

-- ---- zeros

pub zeros_of_mask : (k : ℕ) (d : List (Option ℕ)) → length d ≤ k → (mask_of d ≡ 0 → ⊥) → count_trailing_zeros k (mask_of d) ≡ kept_first d
unfolding mask_of kept_first count_trailing_zeros
zeros_of_mask k [] l h = absurd (h refl)
zeros_of_mask zero (s ∷ d) l h = absurd (omega (arith, l))
zeros_of_mask (suc k) (none ∷ d) l h =
    rw (double_even (mask_of d), double_half (mask_of d)) (ap suc (zeros_of_mask k d (omega (arith, l)) (λ e. h (omega (arith, e)))))
zeros_of_mask (suc k) (some v ∷ d) l h = rw (odd_odd (mask_of d))

-- a mask has as many ones at its end as words are set first: they are the zeros of what it lacks to all ones
pub ones_of_mask : (k : ℕ) (d : List (Option ℕ)) → length d < k → count_trailing_zeros k (2 ^ k - 1 - mask_of d) ≡ set_first d
unfolding mask_of set_first count_trailing_zeros
ones_of_mask zero d l = absurd (omega (arith, l))
ones_of_mask (suc k) [] l =
    let odd : (2 ^ suc k - 1 - 0) % 2 ≡ 1 = omega (arith, pow-suc 2 k, pow_pos k) in
    rw odd
ones_of_mask (suc k) (none ∷ d) l =
    let small : mask_of d < 2 ^ k = lt_of_lt_of_le (mask_below d) (pow_mono (omega (arith, l))) in
    let odd : (2 ^ suc k - 1 - 2 * mask_of d) % 2 ≡ 1 = omega (arith, pow-suc 2 k) in
    rw odd
ones_of_mask (suc k) (some v ∷ d) l =
    let small : mask_of d < 2 ^ k = lt_of_lt_of_le (mask_below d) (pow_mono (omega (arith, l))) in
    let even : (2 ^ suc k - 1 - (1 + 2 * mask_of d)) % 2 ≡ 0 = omega (arith, pow-suc 2 k) in
    let half : (2 ^ suc k - 1 - (1 + 2 * mask_of d)) / 2 ≡ 2 ^ k - 1 - mask_of d = omega (arith, pow-suc 2 k) in
    rw (even, half) (ap suc (ones_of_mask k d (omega (arith, l))))

-- a number of k digits that is not 0 has fewer zeros than digits
under_below : (k r t : ℕ) → (r ≡ 0 → t < k) → under r t < suc k
under_below k zero t h = omega (arith, h refl)
under_below k (suc r) t h = omega arith

pub zeros_below : (k n : ℕ) → 0 < n → n < 2 ^ k → count_trailing_zeros k n < k
unfolding count_trailing_zeros
zeros_below zero n h l = absurd (omega (arith, h, l, pow-zero 2))
zeros_below (suc k) n h l =
    under_below k (n % 2) (count_trailing_zeros k (n / 2)) (λ e. zeros_below k (n / 2) (omega (arith, h, e)) (omega (arith, l, pow-suc 2 k)))

-- ---- shifting and clearing

no_digit : (n : ℕ) → mask_of [] / n ≡ mask_of []
unfolding mask_of
no_digit n = zero-div n

pub mask_shifted : (k : ℕ) (d : List (Option ℕ)) → mask_of d / 2 ^ k ≡ mask_of (drop k d)
mask_shifted zero d = omega (arith, pow-zero 2)
mask_shifted (suc k) [] = no_digit (2 ^ suc k)
mask_shifted (suc k) (s ∷ d) =
    let digits : suc k ≡ 1 + k = omega arith in
    ap (λ (x : ℕ). mask_of (s ∷ d) / 2 ^ x) digits
    ∙ sym (shr-shr (mask_of (s ∷ d)) 1 k)
    ∙ ap (λ (x : ℕ). x / 2 ^ k) (mask_half s d)
    ∙ mask_shifted k d

-- clearing the lowest digit takes the first word that is set away
pub lowest_cleared : (d : List (Option ℕ)) → (mask_of d ≡ 0 → ⊥) → bit_and (mask_of d) (mask_of d - 1) ≡ mask_of (without_first d)
unfolding mask_of without_first
lowest_cleared [] h = absurd (h refl)
lowest_cleared (none ∷ d) h =
    let some_left : mask_of d ≡ 0 → ⊥ = λ e. h (omega (arith, e)) in
    let half : (2 * mask_of d - 1) / 2 ≡ mask_of d - 1 = omega arith in
    let least : min (2 * mask_of d % 2) ((2 * mask_of d - 1) % 2) ≡ 0 = omega arith in
    and_step (2 * mask_of d) (2 * mask_of d - 1)
    ∙ rw (double_half (mask_of d), half, least, lowest_cleared d some_left) (omega arith)
lowest_cleared (some v ∷ d) h =
    let less : 1 + 2 * mask_of d - 1 ≡ 2 * mask_of d = omega arith in
    let least : min ((1 + 2 * mask_of d) % 2) (2 * mask_of d % 2) ≡ 0 = omega arith in
    ap (λ (x : ℕ). bit_and (1 + 2 * mask_of d) x) less
    ∙ and_step (1 + 2 * mask_of d) (2 * mask_of d)
    ∙ rw (odd_half (mask_of d), double_half (mask_of d), least, and_self (mask_of d)) (omega arith)

-- ---- runs and words

-- words that are kept first start no run
pub runs_after_kept : (i : ℕ) (d : List (Option ℕ)) → runs_from i 0 d ≡ runs_from (i + kept_first d) 0 (drop (kept_first d) d)
unfolding runs_from kept_first ended
runs_after_kept i [] = refl
runs_after_kept i (none ∷ d) = let place : i + 0 + 1 + kept_first d ≡ i + suc (kept_first d) = omega arith in runs_after_kept (i + 0 + 1) d ∙ ap (λ (x : ℕ). runs_from x 0 (drop (kept_first d) d)) place
runs_after_kept i (some v ∷ d) = ap (λ (x : ℕ). runs_from x 1 d) (sym (add-zero i))

-- the words that are set first are one run
pub runs_after_set : (i n : ℕ) (d : List (Option ℕ)) → runs_from i n d ≡ ended i (n + set_first d) ++ runs_from (i + n + set_first d) 0 (drop (set_first d) d)
unfolding runs_from set_first ended
runs_after_set i n [] = ap (λ (x : ℕ). ended i x) (sym (add-zero n)) ∙ sym (append-nil (ended i (n + 0)))
runs_after_set i n (none ∷ d) =
    let place : i + n + 1 ≡ i + n + 0 + 0 + 1 = omega arith in
    ap₂ (λ (x y : ℕ). ended i x ++ runs_from y 0 d) (sym (add-zero n)) place
runs_after_set i n (some v ∷ d) =
    let long : n + 1 + set_first d ≡ n + suc (set_first d) = omega arith in
    let place : i + (n + 1) + set_first d ≡ i + n + suc (set_first d) = omega arith in
    runs_after_set i (n + 1) d ∙ ap₂ (λ (x y : ℕ). ended i x ++ runs_from y 0 (drop (set_first d) d)) long place

-- the words of a difference are picked from the new page
pub words_picked : (old new : List ℕ) → set_words (difference old new) ≡ picked (difference old new) new
unfolding set_words difference picked setting
words_picked [] new = refl
words_picked (x ∷ old) [] = refl
words_picked (x ∷ old) (y ∷ new) = go (eqb x y) (words_picked old new)
  where
    go : (b : Bool) → set_words (difference old new) ≡ picked (difference old new) new → set_words (cond b none (some y) ∷ difference old new) ≡ picked (cond b none (some y) ∷ difference old new) (y ∷ new)
    go true e = e
    go false e = ap (λ (l : List ℕ). y ∷ l) e

-- the first word that is picked, and those behind it
pub first_picked : (d : List (Option ℕ)) (page : List ℕ) → length d ≤ length page → (mask_of d ≡ 0 → ⊥) → picked d page ≡ get_or page (kept_first d) 0 ∷ picked (without_first d) page
unfolding mask_of kept_first without_first picked
first_picked [] page l h = absurd (h refl)
first_picked (s ∷ d) [] l h = absurd (omega (arith, l))
first_picked (none ∷ d) (y ∷ page) l h = first_picked d page (omega (arith, l)) (λ e. h (omega (arith, e)))
first_picked (some v ∷ d) (y ∷ page) l h = refl

-- without the first it has as many settings
pub length_without : (d : List (Option ℕ)) → length (without_first d) ≡ length d
unfolding without_first
length_without [] = refl
length_without (none ∷ d) = ap suc (length_without d)
length_without (some v ∷ d) = refl

-- nothing is picked by the mask 0
pub none_picked : (d : List (Option ℕ)) (page : List ℕ) → mask_of d ≡ 0 → picked d page ≡ []
unfolding mask_of picked
none_picked [] page h = refl
none_picked (s ∷ d) [] h = refl
none_picked (none ∷ d) (y ∷ page) h = none_picked d page (omega (arith, h))
none_picked (some v ∷ d) (y ∷ page) h = absurd (omega (arith, h))

-- and no run starts
pub no_runs : (i : ℕ) (d : List (Option ℕ)) → mask_of d ≡ 0 → runs_from i 0 d ≡ []
unfolding mask_of runs_from ended
no_runs i [] h = refl
no_runs i (none ∷ d) h = no_runs (i + 0 + 1) d (omega (arith, h))
no_runs i (some v ∷ d) h = absurd (omega (arith, h))

-- the word behind those that are kept first is set, where any is
pub kept_then_set : (d : List (Option ℕ)) → (mask_of d ≡ 0 → ⊥) → 0 < set_first (drop (kept_first d) d)
unfolding mask_of kept_first set_first
kept_then_set [] h = absurd (h refl)
kept_then_set (none ∷ d) h = kept_then_set d (λ e. h (omega (arith, e)))
kept_then_set (some v ∷ d) h = omega arith

pub kept_few : (d : List (Option ℕ)) → kept_first d ≤ length d
unfolding kept_first
kept_few [] = omega arith
kept_few (none ∷ d) = omega (arith, kept_few d)
kept_few (some v ∷ d) = omega arith

-- the first word that is set is one of the page
pub kept_below : (d : List (Option ℕ)) → (mask_of d ≡ 0 → ⊥) → kept_first d < length d
unfolding mask_of kept_first
kept_below [] h = absurd (h refl)
kept_below (none ∷ d) h = omega (arith, kept_below d (λ e. h (omega (arith, e))))
kept_below (some v ∷ d) h = omega arith

pub set_few : (d : List (Option ℕ)) → set_first d ≤ length d
unfolding set_first
set_few [] = omega arith
set_few (none ∷ d) = omega arith
set_few (some v ∷ d) = omega (arith, set_few d)

-- ---- the mask of two pages, built word by word

-- one digit higher is twice as much
twice_digit : (b i : ℕ) → b * 2 ^ suc i ≡ 2 * (b * 2 ^ i)
twice_digit b i = ap (λ (x : ℕ). b * x) (pow-suc 2 i) ∙ sym (mul_assoc b (2 ^ i) 2) ∙ mul_comm (b * 2 ^ i) 2

-- the mask of the first words, and of one more
pub mask_of_more : (i : ℕ) (old new : List ℕ) → i < length old → length old ≡ length new
    → mask_of (take (i + 1) (difference old new)) ≡ mask_of (take i (difference old new)) + cond (eqb (get_or old i 0) (get_or new i 0)) 0 1 * 2 ^ i
unfolding mask_of difference setting
mask_of_more i [] new l e = absurd (omega (arith, l))
mask_of_more i (x ∷ old) [] l e = absurd (omega (arith, e))
mask_of_more zero (x ∷ old) (y ∷ new) l e = go (eqb x y)
  where
    go : (b : Bool) → mask_of (cond b none (some y) ∷ []) ≡ 0 + cond b 0 1 * 2 ^ 0
    go true = refl
    go false = refl
mask_of_more (suc i) (x ∷ old) (y ∷ new) l e =
    let place : suc i + 1 ≡ suc (i + 1) = omega arith in
    ap (λ (n : ℕ). mask_of (take n (difference (x ∷ old) (y ∷ new)))) place
    ∙ go (eqb x y) (mask_of_more i old new (omega (arith, l)) (omega (arith, e)))
  where
    bit : ℕ
    bit = cond (eqb (get_or old i 0) (get_or new i 0)) 0 1

    go : (b : Bool) → mask_of (take (i + 1) (difference old new)) ≡ mask_of (take i (difference old new)) + bit * 2 ^ i → mask_of (cond b none (some y) ∷ take (i + 1) (difference old new)) ≡ mask_of (cond b none (some y) ∷ take i (difference old new)) + cond (eqb (get_or old i 0) (get_or new i 0)) 0 1 * 2 ^ suc i
    go true h = rw h (omega (arith, twice_digit bit i))
    go false h = rw h (omega (arith, twice_digit bit i))
