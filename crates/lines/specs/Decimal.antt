-- A number in base ten as bytes of ASCII. Assumes nothing.
use Rattle.std.specs.Prelude.{ℕ, zero, suc, ◌+◌, ◌/◌, ◌%◌, cond, List, [], ◌∷◌, ◌++◌, ltb}

-- the digits of n, the highest first, where there are at most `most` of them: a digit d is the byte 48 + d
unfoldable pub digits_within : ℕ → ℕ → List ℕ
digits_within zero n = []
digits_within (suc most) n =
    let more = digits_within most (n / 10) ++ (48 + n % 10) ∷ [] in
    cond (ltb n 10) ((48 + n) ∷ []) more

-- the digits of a number in base ten with no leading zeros: 0 is "0", 700 is "700"
unfoldable pub digits : ℕ → List ℕ
digits n = digits_within (n + 1) n
