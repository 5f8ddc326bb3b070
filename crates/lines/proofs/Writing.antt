-- The laws by which the functions of this crate meet their contracts. Assumes nothing.
use Prim.Native.Nat.{ℕ, ◌+◌, ◌-◌, ◌*◌, ◌/◌, ◌%◌, ◌≤◌, ◌<◌}
use native.Mathlib.Numerals.{add-one}
use native.Mathlib.Omega.{arith}
use mathlib.Core.Path.{◌≡◌, sym, ap, ◌∙◌}
use mathlib.Core.List.{List, [], ◌∷◌, ◌++◌}
use lib.ListN.{length, set, length-append}
use lib.Seq.{sets, length-sets}
use mir.Syntax.{w32}
use mir.Val.{Fits}
use borrow.Author.Rules.{rules}
use Rattle.lists.proofs.Stores.{sets_append, sets_last_first}
use Rattle.limits.specs.Files.{line_limit}
use Rattle.lines.specs.Decimal.{digits}
use Rattle.lines.specs.Lines.{line_bytes}
use Rattle.lines.specs.inner.Needed.{PairFits, Put, digit_pair, field_bytes, half_bytes}
use Rattle.lines.proofs.Digits.{digits_one, digits_two, digits_pair_more, length_two, length_pair_more, length_four_more, at_most_ten_digits}
use Rattle.lines.proofs.Lines.{line_is_halves}

-- ---- how many digits

module _ (n : ℕ) where
  -- below 10000
  pub width_one : n < 10 → 1 ≡ length (digits n)
  width_one h = sym (ap length (digits_one n h))

  pub width_two : 10 ≤ n → n < 100 → 2 ≡ length (digits n)
  width_two h k = sym (length_two n h k)

  pub width_three : 100 ≤ n → n < 1000 → 3 ≡ length (digits n)
  width_three h k = omega (arith, length_pair_more n h, ap length (digits_one (n / 100) (omega arith)))

  pub width_four : 1000 ≤ n → n < 10000 → 4 ≡ length (digits n)
  width_four h k = omega (arith, length_pair_more n (omega arith), length_two (n / 100) (omega arith) (omega arith))

  -- from 10000 on, by the digits of what is above the last four or eight, r
  module _ (r : ℕ) where
    pub width_above_four : 10000 ≤ n → r ≡ length (digits (n / 10000)) → 4 + r ≡ length (digits n)
    width_above_four h e = omega (arith, length_four_more n h)

    pub width_above_eight : 100000000 ≤ n → r ≡ length (digits (n / 100000000)) → 8 + r ≡ length (digits n)
    width_above_eight h e =
        let above : length (digits (n / 10000 / 10000)) ≡ length (digits (n / 100000000)) = ap (λ (m : ℕ). length (digits m)) (omega arith) in
        omega (arith, length_four_more n (omega arith), length_four_more (n / 10000) (omega arith))

    pub width_short : Fits w32 n → 100000000 ≤ n → r ≡ length (digits (n / 100000000)) → 8 + r ≤ 10
    width_short p h e = omega (arith, width_above_eight h e, at_most_ten_digits n p.fits)

-- ---- the digits of a number

-- what is stored somewhere keeps the length
pub sets_keep_length : (out out' : List ℕ) (at : ℕ) (vs : List ℕ) → out' ≡ sets out at vs → length out' ≡ length out
sets_keep_length out out' at vs e = ap length e ∙ length-sets out at vs

-- what the two stores of a pair leave
module _ (out : List ℕ) (at pair : ℕ) where
  pub pair_stored : set (set out at (48 + pair / 10)) (at + 1) (48 + pair % 10) ≡ sets out at (digit_pair pair)
  unfolding digit_pair
  pair_stored = ap (λ (k : ℕ). set (set out at (48 + pair / 10)) k (48 + pair % 10)) (add-one at)

-- the last digits of n are stored; those of rest, which end before i, are left
pub record Storing (out₀ out : List ℕ) (at n i rest : ℕ) : Type 0 where
  pub place : i ≡ at + length (digits rest)
  pub room : i ≤ length out
  pub as_long : length out ≡ length out₀
  pub same : sets out₀ at (digits n) ≡ sets out at (digits rest)

-- in a turn, and behind the loop
module _ (out₀ out : List ℕ) (at n i rest : ℕ) (p : Storing out₀ out at n i rest) where
  pub pair_before : 100 ≤ rest → 2 ≤ i
  pair_before h = omega (arith, p.place, length_pair_more rest h)

  pub room_for_pair : 100 ≤ rest → PairFits out (i - 2) (rest % 100)
  room_for_pair h = record { two = omega arith; room = omega (arith, p.room, pair_before h) }

  pub storing_more : (out' : List ℕ) → 100 ≤ rest → out' ≡ sets out (i - 2) (digit_pair (rest % 100)) → Storing out₀ out' at n (i - 2) (rest / 100)
  storing_more out' h e =
      let more = length_pair_more rest h in
      let here : at + length (digits (rest / 100)) ≡ i - 2 = omega (arith, p.place) in
      let long = sets_keep_length out out' (i - 2) (digit_pair (rest % 100)) e in
      record {
        place = sym here;
        room = omega (arith, p.room);
        as_long = long ∙ p.as_long;
        same =
            p.same
            ∙ ap (λ (l : List ℕ). sets out at l) (digits_pair_more rest h)
            ∙ sets_last_first out at (digits (rest / 100)) (digit_pair (rest % 100))
            ∙ ap (λ (k : ℕ). sets (sets out k (digit_pair (rest % 100))) at (digits (rest / 100))) here
            ∙ ap (λ (l : List ℕ). sets l at (digits (rest / 100))) (sym e);
      }

  pub room_for_first_digit : rest < 10 → at < length out
  room_for_first_digit h = omega (arith, p.place, p.room, ap length (digits_one rest h))

  pub first_digit_stored : rest < 10 → set out at (48 + rest) ≡ sets out₀ at (digits n)
  first_digit_stored h = sym (p.same ∙ ap (λ (l : List ℕ). sets out at l) (digits_one rest h))

  pub room_for_first_pair : 10 ≤ rest → rest < 100 → PairFits out at rest
  room_for_first_pair h k = record { two = k; room = omega (arith, p.place, p.room, length_two rest h k) }

  pub first_pair_stored : (out' : List ℕ) → 10 ≤ rest → rest < 100 → out' ≡ sets out at (digit_pair rest) → out' ≡ sets out₀ at (digits n)
  first_pair_stored out' h k e = e ∙ sym (p.same ∙ ap (λ (l : List ℕ). sets out at l) (digits_two rest h k))

-- ---- one number

pub one_digit_place : (at n : ℕ) → n < 10 → at + 1 ≡ at + length (digits n)
one_digit_place at n h = omega (arith, ap length (digits_one n h))

module _ (out : List ℕ) (at n : ℕ) where
  pub one_digit_stored : n < 10 → set out at (48 + n) ≡ sets out at (digits n)
  one_digit_stored h = ap (λ (l : List ℕ). sets out at l) (sym (digits_one n h))

-- ---- a number with a byte behind

module _ (out out' : List ℕ) (at n end : ℕ) (put : out' ≡ sets out at (digits n)) where
  pub field_put : (b : ℕ) → end ≡ at + length (digits n) → end ≤ at + 10 → Put out at (field_bytes n b) 11 (set out' end b) (end + 1)
  unfolding field_bytes
  field_put b to near =
      record {
        stored = ap (λ (l : List ℕ). set l end b) put ∙ ap (λ (k : ℕ). set (sets out at (digits n)) k b) to ∙ sym (sets_append out at (digits n) (b ∷ []));
        place = omega (arith, length-append (digits n) (b ∷ []));
        near = omega arith;
      }

-- ---- one part of a line behind another

module _ (out out₁ : List ℕ) (at at₁ : ℕ) (vs : List ℕ) where
  -- what is stored behind something stored
  put_behind : (out₂ : List ℕ) (at₂ k : ℕ) (ws : List ℕ) → Put out at vs k out₁ at₁ → Put out₁ at₁ ws k out₂ at₂ → Put out at (vs ++ ws) (2 * k) out₂ at₂
  put_behind out₂ at₂ k ws p q =
      record {
        stored =
            q.stored
            ∙ ap (λ (l : List ℕ). sets l at₁ ws) p.stored
            ∙ ap (λ (n : ℕ). sets (sets out at vs) n ws) p.place
            ∙ sym (sets_append out at vs ws);
        place = omega (arith, p.place, q.place, length-append vs ws);
        near = omega (arith, p.near, q.near);
      }

module _ (out out₁ out₂ : List ℕ) (at at₁ at₂ a b : ℕ) where
  pub half_put : (behind : ℕ) → Put out at (field_bytes a 32) 11 out₁ at₁ → Put out₁ at₁ (field_bytes b behind) 11 out₂ at₂ → Put out at (half_bytes a b behind) 22 out₂ at₂
  unfolding half_bytes
  half_put behind p q = put_behind out out₁ at at₁ (field_bytes a 32) out₂ at₂ 11 (field_bytes b behind) p q

  module _ (c d : ℕ) (p : Put out at (half_bytes a b 32) 22 out₁ at₁) (q : Put out₁ at₁ (half_bytes c d 10) 22 out₂ at₂) where
    whole : Put out at (half_bytes a b 32 ++ half_bytes c d 10) line_limit out₂ at₂
    whole = put_behind out out₁ at at₁ (half_bytes a b 32) out₂ at₂ 22 (half_bytes c d 10) p q

    pub line_end : at₂ ≡ at + length (line_bytes a b c d)
    line_end = whole.place ∙ ap (λ (l : List ℕ). at + length l) (sym (line_is_halves a b c d))

    pub line_stored : out₂ ≡ sets out at (line_bytes a b c d)
    line_stored = whole.stored ∙ ap (λ (l : List ℕ). sets out at l) (sym (line_is_halves a b c d))

pub ruleset line_laws = (width_one, width_two, width_three, width_four, width_above_four, width_above_eight, width_short, pair_stored, pair_before, room_for_pair, storing_more, room_for_first_digit, first_digit_stored, room_for_first_pair, first_pair_stored, one_digit_place, one_digit_stored, field_put, half_put, line_end, line_stored, rules)
