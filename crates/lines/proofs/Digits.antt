-- The digits of a number are right: read back they say the number, the first is no zero unless the number is 0, each is a digit, and a
-- number of 32 bits has at most 10 of them, one of 64 bits at most 20. Assumes nothing.
use Prim.Native.Nat.{ℕ, zero, suc, ◌+◌, ◌-◌, ◌*◌, ◌/◌, ◌%◌, ◌^◌, ◌≤◌, ◌<◌}
use native.Mathlib.Numerals.{add-one}
use native.Mathlib.Omega.{arith}
use mathlib.Core.Path.{◌≡◌, refl, sym, ap, ◌∙◌}
use mathlib.Core.Bool.{Bool, true, false, cond}
use mathlib.Core.List.{List, [], ◌∷◌, ◌++◌, append_assoc}
use lib.ListN.{length, get_or, length-append}
use lib.Dec.{ltb}
use Rattle.std.specs.Prelude.{Some, None, IfSome, IfNone, unwrap_or}
use Rattle.std.specs.Prelude as rust
use borrow.Author.Tests.{ltb-true, ltb-false, lt-ltb, le-ltb}
use Rattle.lines.specs.Decimal.{digits_within, digits}
use Rattle.lines.specs.inner.Values.{value_after, value_of}
use Rattle.lines.specs.inner.Needed.{digit_pair}

-- ---- one digit more

-- a bound above the number is enough, and which one makes no difference
within_any : (f g n : ℕ) → n < f → n < g → digits_within f n ≡ digits_within g n
unfolding digits_within
within_any zero g n h k = absurd (omega arith)
within_any (suc f) zero n h k = absurd (omega arith)
within_any (suc f) (suc g) n h k = go (ltb n 10) refl (λ (r : n / 10 < f) (s : n / 10 < g). within_any f g (n / 10) r s)
  where
    go : (b : Bool) → ltb n 10 ≡ b → (n / 10 < f → n / 10 < g → digits_within f (n / 10) ≡ digits_within g (n / 10))
        → cond b ((48 + n) ∷ []) (digits_within f (n / 10) ++ (48 + n % 10) ∷ []) ≡ cond b ((48 + n) ∷ []) (digits_within g (n / 10) ++ (48 + n % 10) ∷ [])
    go true e more = refl
    go false e more =
        let l : 10 ≤ n = ltb-false n 10 e in
        ap (λ (ds : List ℕ). ds ++ (48 + n % 10) ∷ []) (more (omega arith) (omega arith))

-- a number below 10 has one digit
pub digits_one : (n : ℕ) → n < 10 → digits n ≡ (48 + n) ∷ []
unfolding digits digits_within
digits_one n h = rw (add-one n, lt-ltb n 10 h)

-- any other has the digits of its tenth and one more
pub digits_more : (n : ℕ) → 10 ≤ n → digits n ≡ digits (n / 10) ++ (48 + n % 10) ∷ []
unfolding digits digits_within
digits_more n h =
    rw (add-one n, le-ltb n 10 h) (ap (λ (ds : List ℕ). ds ++ (48 + n % 10) ∷ []) (within_any n (n / 10 + 1) (n / 10) (omega arith) (omega arith)))

-- a number of two digits is a pair
pub digits_two : (n : ℕ) → 10 ≤ n → n < 100 → digits n ≡ digit_pair n
unfolding digit_pair
digits_two n h k =
    digits_more n h ∙ ap (λ (ds : List ℕ). ds ++ (48 + n % 10) ∷ []) (digits_one (n / 10) (omega arith))

-- a larger one has the digits of its hundredth and a pair more
pub digits_pair_more : (n : ℕ) → 100 ≤ n → digits n ≡ digits (n / 100) ++ digit_pair (n % 100)
unfolding digit_pair
digits_pair_more n h =
    let tens : n / 10 % 10 ≡ n % 100 / 10 = omega arith in
    let ones : n % 10 ≡ n % 100 % 10 = omega arith in
    let hundredth : n / 10 / 10 ≡ n / 100 = omega arith in
    digits_more n (omega arith)
    ∙ ap (λ (ds : List ℕ). ds ++ (48 + n % 10) ∷ []) (digits_more (n / 10) (omega arith))
    ∙ append_assoc (digits (n / 10 / 10)) ((48 + n / 10 % 10) ∷ []) ((48 + n % 10) ∷ [])
    ∙ rw (tens, ones, hundredth)

-- what holds of the numbers below 10, and of a number if of its tenth, holds of all
pub by_digits : (P : ℕ → Type 0) → ((n : ℕ) → n < 10 → P n) → ((n : ℕ) → 10 ≤ n → P (n / 10) → P n) → (n : ℕ) → P n
by_digits P one more n = go (n + 1) n (omega arith)
  where
    go : (f m : ℕ) → m < f → P m
    go zero m h = absurd (omega arith)
    go (suc f) m h = split (ltb m 10) refl (λ (r : m / 10 < f). go f (m / 10) r)
      where
        split : (b : Bool) → ltb m 10 ≡ b → (m / 10 < f → P (m / 10)) → P m
        split true e rest = one m (ltb-true m 10 e)
        split false e rest =
            let l : 10 ≤ m = ltb-false m 10 e in
            more m l (rest (omega arith))

-- ---- read back

value_append : (v : ℕ) (bs : List ℕ) (b : ℕ) → value_after v (bs ++ b ∷ []) ≡ 10 * value_after v bs + (b - 48)
unfolding value_after
value_append v [] b = refl
value_append v (x ∷ bs) b = value_append (10 * v + (x - 48)) bs b

-- the digits of a number say that number
pub digits_say_number : (n : ℕ) → value_of (digits n) ≡ n
unfolding value_of value_after
digits_say_number =
    by_digits (λ n. value_of (digits n) ≡ n) (λ n h. rw (digits_one n h) (omega arith))
    (λ n h before.
    let last : value_after 0 (digits (n / 10) ++ (48 + n % 10) ∷ []) ≡ 10 * value_after 0 (digits (n / 10)) + (48 + n % 10 - 48) =
    value_append 0 (digits (n / 10)) (48 + n % 10) in
    ap value_of (digits_more n h) ∙ omega (arith, last, before))

-- ---- how many

-- a number has a digit
pub some_digit : (n : ℕ) → 1 ≤ length (digits n)
some_digit =
    by_digits (λ n. 1 ≤ length (digits n)) (λ n h. omega (arith, ap length (digits_one n h)))
    (λ n h before. omega (arith, ap length (digits_more n h) ∙ length-append (digits (n / 10)) ((48 + n % 10) ∷ [])))

-- a number of at least 10 has one more than its tenth
pub length_more : (n : ℕ) → 10 ≤ n → length (digits n) ≡ length (digits (n / 10)) + 1
length_more n h = ap length (digits_more n h) ∙ length-append (digits (n / 10)) ((48 + n % 10) ∷ [])

-- a number from 10 to 99 has two
pub length_two : (n : ℕ) → 10 ≤ n → n < 100 → length (digits n) ≡ 2
unfolding digit_pair
length_two n h k = ap length (digits_two n h k)

-- a number of at least 100 has two more than its hundredth
pub length_pair_more : (n : ℕ) → 100 ≤ n → length (digits n) ≡ length (digits (n / 100)) + 2
unfolding digit_pair
length_pair_more n h = ap length (digits_pair_more n h) ∙ length-append (digits (n / 100)) (digit_pair (n % 100))

-- a number of at least 10000 has four more than its part above the last four
pub length_four_more : (n : ℕ) → 10000 ≤ n → length (digits n) ≡ 4 + length (digits (n / 10000))
length_four_more n h =
    let above : length (digits (n / 100 / 100)) ≡ length (digits (n / 10000)) = ap (λ (m : ℕ). length (digits m)) (omega arith) in
    omega (arith, length_pair_more n (omega arith), length_pair_more (n / 100) (omega arith))

-- a number below a power of ten has at most as many digits as that power has zeros
pub digits_at_most : (k n : ℕ) → n < 10 ^ suc k → length (digits n) ≤ suc k
digits_at_most zero n h = omega (arith, ap length (digits_one n (omega arith)))
digits_at_most (suc k) n h = go (ltb n 10) refl (λ (r : n / 10 < 10 ^ suc k). digits_at_most k (n / 10) r)
  where
    go : (b : Bool) → ltb n 10 ≡ b → (n / 10 < 10 ^ suc k → length (digits (n / 10)) ≤ suc k) → length (digits n) ≤ suc (suc k)
    go true e before = omega (arith, ap length (digits_one n (ltb-true n 10 e)))
    go false e before = omega (arith, length_more n (ltb-false n 10 e), before (omega arith))

some_power : (k : ℕ) → 1 ≤ 10 ^ k
some_power zero = omega arith
some_power (suc k) = omega (arith, some_power k)

-- any other has more
digits_at_least : (k n : ℕ) → 10 ^ k ≤ n → suc k ≤ length (digits n)
digits_at_least zero n h = omega (arith, some_digit n)
digits_at_least (suc k) n h =
    omega (arith, length_more n (omega (arith, h, some_power k)), digits_at_least k (n / 10) (omega (arith, h)))

-- so the logarithm says how many digits a number has, and 0, which has none, has one
pub digits_by_log : (n : ℕ) (r : rust.Option ℕ) → IfNone r (n ≡ 0) → IfSome r (λ k. 10 ^ k ≤ n) → IfSome r (λ k. n < 10 * 10 ^ k) → unwrap_or r 0 + 1 ≡ length (digits n)
digits_by_log n None none low high = omega (arith, ap length (digits_one n (omega arith)))
digits_by_log n (Some k) none low high = omega (arith, digits_at_least k n low, digits_at_most k n (omega arith))

-- a number of 32 bits has at most 10 digits
pub at_most_ten_digits : (n : ℕ) → n < 2 ^ 32 → length (digits n) ≤ 10
at_most_ten_digits n h = digits_at_most 9 n (omega arith)

-- a number of 64 bits has at most 20 digits
pub at_most_twenty_digits : (n : ℕ) → n < 18446744073709551616 → length (digits n) ≤ 20
at_most_twenty_digits n h = digits_at_most 19 n (omega arith)

-- ---- which bytes

first_of_append : (xs ys : List ℕ) → 1 ≤ length xs → get_or (xs ++ ys) 0 0 ≡ get_or xs 0 0
first_of_append [] ys h = absurd (omega arith)
first_of_append (x ∷ xs) ys h = refl

-- no zero (48) leads, unless the number is 0
pub no_leading_zero : (n : ℕ) → get_or (digits n) 0 0 ≡ 48 → n ≡ 0
no_leading_zero =
    by_digits (λ n. get_or (digits n) 0 0 ≡ 48 → n ≡ 0)
    (λ n h zero_first.
    let first : get_or (digits n) 0 0 ≡ 48 + n = ap (λ (l : List ℕ). get_or l 0 0) (digits_one n h) in
    omega arith)
    (λ n h before zero_first.
    let first : get_or (digits n) 0 0 ≡ get_or (digits (n / 10)) 0 0 =
    ap (λ (l : List ℕ). get_or l 0 0) (digits_more n h) ∙ first_of_append (digits (n / 10)) ((48 + n % 10) ∷ []) (some_digit (n / 10)) in
    let tenth : n / 10 ≡ 0 = before (sym first ∙ zero_first) in
    omega arith)

-- every byte of a list is a digit of ASCII, 48 to 57
pub data AllDigits : List ℕ → Type 0 where
  none_left : AllDigits []
  digit_first : (b : ℕ) {bs : List ℕ} → 48 ≤ b → b ≤ 57 → AllDigits bs → AllDigits (b ∷ bs)

all_append : {bs : List ℕ} (b : ℕ) → AllDigits bs → 48 ≤ b → b ≤ 57 → AllDigits (bs ++ b ∷ [])
all_append b none_left h k = digit_first b h k none_left
all_append b (digit_first a l m rest) h k = digit_first a l m (all_append b rest h k)

-- the bytes of a number are digits
pub all_digits : (n : ℕ) → AllDigits (digits n)
all_digits =
    by_digits (λ n. AllDigits (digits n)) (λ n h. rw (digits_one n h) (digit_first (48 + n) (omega arith) (omega arith) none_left))
    (λ n h before. rw (digits_more n h) (all_append (48 + n % 10) before (omega arith) (omega arith)))

pub ruleset total_laws = (digits_by_log, at_most_twenty_digits)
