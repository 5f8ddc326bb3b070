-- How long a line is, its bytes as two halves, and bytes stored part by part. Assumes nothing.
use Prim.Native.Nat.{ℕ, ◌+◌, ◌^◌, ◌≤◌, ◌<◌}
use native.Mathlib.Omega.{arith}
use mathlib.Core.Path.{◌≡◌, refl}
use mathlib.Core.List.{[], ◌∷◌, ◌++◌, append_assoc}
use lib.ListN.{length, length-append}
use Rattle.limits.specs.Files.{line_limit}
use Rattle.lines.specs.Decimal.{digits_within, digits}
use Rattle.lines.specs.Lines.{line_bytes, words_line, most_line}
use Rattle.lines.specs.inner.Needed.{field_bytes, half_bytes}
use Rattle.lines.proofs.Digits.{at_most_ten_digits, at_most_twenty_digits}

-- a line is its two halves, one behind the other
pub line_is_halves : (number refusal value count : ℕ) → line_bytes number refusal value count ≡ half_bytes number refusal 32 ++ half_bytes value count 10
unfolding line_bytes half_bytes field_bytes
line_is_halves number refusal value count = simp append_assoc

-- a line has the bytes of its numbers and four more
pub length_line : (number refusal value count : ℕ)
    → length (line_bytes number refusal value count) ≡ length (digits number) + length (digits refusal) + length (digits value) + length (digits count) + 4
unfolding line_bytes
length_line number refusal value count = simp length-append (omega arith)

-- a total of 64 bits fits the longest line
pub length_words_line : (n : ℕ) → n < 18446744073709551616 → length (words_line n) ≤ line_limit
unfolding words_line
length_words_line n h = omega (arith, length-append (digits n) (10 ∷ []), at_most_twenty_digits n h)

-- so does the line of the most that stands
pub length_most_line : (n : ℕ) → n < 2 ^ 32 → length (most_line n) ≤ line_limit
unfolding most_line
length_most_line n h = omega (arith, length-append (digits n) (10 ∷ []), at_most_ten_digits n h)

-- a line of numbers of 32 bits has at most 44 bytes
pub at_most_44_bytes : (number refusal value count : ℕ) → number < 2 ^ 32 → refusal < 2 ^ 32 → value < 2 ^ 32 → count < 2 ^ 32
    → length (line_bytes number refusal value count) ≤ line_limit
at_most_44_bytes number refusal value count a b c d =
    omega (arith, length_line number refusal value count, at_most_ten_digits number a, at_most_ten_digits refusal b, at_most_ten_digits value c, at_most_ten_digits count d)

-- ---- lines of Listing A, and the largest number

pub line_7_of_listing_a : line_bytes 7 0 700 1 ≡ 55 ∷ 32 ∷ 48 ∷ 32 ∷ 55 ∷ 48 ∷ 48 ∷ 32 ∷ 49 ∷ 10 ∷ []
unfolding line_bytes digits digits_within
line_7_of_listing_a = refl

pub line_10_of_listing_a : line_bytes 10 6 0 0 ≡ 49 ∷ 48 ∷ 32 ∷ 54 ∷ 32 ∷ 48 ∷ 32 ∷ 48 ∷ 10 ∷ []
unfolding line_bytes digits digits_within
line_10_of_listing_a = refl

pub largest_number : digits 4294967295 ≡ 52 ∷ 50 ∷ 57 ∷ 52 ∷ 57 ∷ 54 ∷ 55 ∷ 50 ∷ 57 ∷ 53 ∷ []
unfolding digits digits_within
largest_number = refl
