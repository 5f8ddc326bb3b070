-- What the functions of this crate ask, room in lent memory, and what those that write a part of a line tell. Assumes nothing.
use Rattle.std.specs.Prelude.{ℕ, ◌+◌, ◌/◌, ◌%◌, ◌≤◌, ◌<◌, ◌≡◌, List, [], ◌∷◌, ◌++◌, length, take}
use Rattle.std.proofs.lemmas.List.Edits.{sets}
use Rattle.lines.specs.Decimal.{digits}

-- `most` bytes have room from a place on
pub record Room (out : List ℕ) (at most : ℕ) : Type 0 where
  pub room : at + most ≤ length out

-- the digits of n, which are len, have room from a place on
pub record DigitsFit (out : List ℕ) (at len n : ℕ) : Type 0 where
  pub counted : len ≡ length (digits n)
  pub room : at + len ≤ length out

-- the two digits of a number below 100 have room from a place on
pub record PairFits (out : List ℕ) (at pair : ℕ) : Type 0 where
  pub two : pair < 100
  pub room : at + 2 ≤ length out

-- the two digits of a number below 100, of which the first may be a zero
unfoldable pub digit_pair : ℕ → List ℕ
digit_pair pair = (48 + pair / 10) ∷ (48 + pair % 10) ∷ []

-- a number with a byte behind
unfoldable pub field_bytes : ℕ → ℕ → List ℕ
field_bytes n behind = digits n ++ behind ∷ []

-- two numbers with a space between and a byte behind
unfoldable pub half_bytes : ℕ → ℕ → ℕ → List ℕ
half_bytes first second behind = field_bytes first 32 ++ field_bytes second behind

-- the bytes vs, at most `most`, are stored in out from a place on, which leaves out'; the place behind them is end
pub record Put (out : List ℕ) (at : ℕ) (vs : List ℕ) (most : ℕ) (out' : List ℕ) (end : ℕ) : Type 0 where
  pub stored : out' ≡ sets out at vs
  pub place : end ≡ at + length vs
  pub near : end ≤ at + most

-- ---- the digits of a number that is counted on

-- eight bytes are lent, and a number has at most seven digits
pub record Eight (d : List ℕ) (n : ℕ) : Type 0 where
  pub long : length d ≡ 8
  pub few : n < 10000000

-- the first len of eight bytes are the digits of n
pub record Counted (d : List ℕ) (len n : ℕ) : Type 0 where
  pub long : length d ≡ 8
  pub few : len ≤ 8
  pub said : take len d ≡ digits n
  pub counted : len ≡ length (digits n)

-- the same, and there is room for one more
pub record Countable (d : List ℕ) (len n : ℕ) : Type 0 where
  pub now_counted : Counted d len n
  pub few : n < 10000000

-- seven bytes have room from a place on, and a refusal is one digit
pub record ShortFits (out : List ℕ) (at refusal : ℕ) : Type 0 where
  pub room : at + 7 ≤ length out
  pub digit : refusal < 10

-- what stands behind the number of a line
unfoldable pub behind_number : ℕ → ℕ → ℕ → List ℕ
behind_number refusal value count = 32 ∷ (field_bytes refusal 32 ++ half_bytes value count 10)
