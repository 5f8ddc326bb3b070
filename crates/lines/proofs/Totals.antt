-- The last lines: a text, and a total of 64 bits behind it, its digits stored one by one: `total_laws`. Rests on Digits, Lines and Writing. Assumes nothing.
use Prim.Native.Nat.{ℕ, ◌+◌, ◌-◌, ◌/◌, ◌%◌, ◌≤◌, ◌<◌}
use native.Mathlib.Omega.{arith}
use mathlib.Core.Path.{◌≡◌, refl, sym, ap, ◌∙◌}
use mathlib.Core.List.{List, [], ◌∷◌, ◌++◌, append_assoc}
use lib.ListN.{length, set, length-append, length-set}
use borrow.Rule.Slice.PartMut.{put_mid}
use lib.Seq.{drop-drop, sets-eq, sets}
use borrow.Author.Rules.{rules}
use Rattle.lists.proofs.Stores.{sets_append, sets_last_first}
use Rattle.lines.specs.Decimal.{digits}
use Rattle.lines.specs.Lines.{words_line, most_line}
use Rattle.lines.specs.inner.Needed.{field_bytes}
use Rattle.lines.proofs.Digits.{digits_more, length_more}
use Rattle.lines.proofs.Writing.{Storing, room_for_first_digit, first_digit_stored, sets_keep_length}

-- ---- the digits

module _ (out₀ out : List ℕ) (at total i rest : ℕ) (p : Storing out₀ out at total i rest) where
  -- a place is before that of the digits stored
  pub digit_before : 10 ≤ rest → 1 ≤ i
  digit_before h = omega (arith, p.place, length_more rest h)

  -- that place is in range
  pub room_for_digit : 10 ≤ rest → i - 1 < length out
  room_for_digit h = omega (arith, p.room, digit_before h)

  -- in a turn, one more is stored there
  pub storing_digit : 10 ≤ rest → Storing out₀ (set out (i - 1) (48 + rest % 10)) at total (i - 1) (rest / 10)
  storing_digit h =
      let more = length_more rest h in
      let here : at + length (digits (rest / 10)) ≡ i - 1 = omega (arith, p.place) in
      let long = length-set out (i - 1) (48 + rest % 10) in
      record {
        place = sym here;
        room = omega (arith, p.room);
        as_long = long ∙ p.as_long;
        same =
            p.same
            ∙ ap (λ (l : List ℕ). sets out at l) (digits_more rest h)
            ∙ sets_last_first out at (digits (rest / 10)) ((48 + rest % 10) ∷ [])
            ∙ ap (λ (k : ℕ). sets (set out k (48 + rest % 10)) at (digits (rest / 10))) here;
      }

-- ---- a total with a line end behind

module _ (out : List ℕ) (at total len : ℕ) (e : len ≡ length (digits total)) where
  -- the place behind the line end
  pub total_end : at + len + 1 ≡ at + length (field_bytes total 10)
  unfolding field_bytes
  total_end = omega (arith, length-append (digits total) (10 ∷ []))

  -- the line end is stored behind the digits
  pub total_stored : (out' : List ℕ) → out' ≡ sets out at (digits total) → set out' (at + len) 10 ≡ sets out at (field_bytes total 10)
  unfolding field_bytes
  total_stored out' s =
      ap (λ (l : List ℕ). set l (at + len) 10) s
      ∙ ap (λ (k : ℕ). set (sets out at (digits total)) (at + k) 10) e
      ∙ sym (sets_append out at (digits total) (10 ∷ []))

-- ---- a text, and a total behind it

pub text_line_stored : (out out₁ out₂ : List ℕ) (at : ℕ) (text : List ℕ) (total : ℕ) → out₁ ≡ sets out at text → out₂ ≡ sets out₁ (at + length text) (field_bytes total 10)
    → out₂ ≡ sets out at (text ++ field_bytes total 10)
text_line_stored out out₁ out₂ at text total stored e =
    e ∙ ap (λ (l : List ℕ). sets l (at + length text) (field_bytes total 10)) stored ∙ sym (sets_append out at text (field_bytes total 10))

-- "words", a space and the total
pub words_whole : (total : ℕ) → (119 ∷ 111 ∷ 114 ∷ 100 ∷ 115 ∷ 32 ∷ []) ++ field_bytes total 10 ≡ words_line total
unfolding field_bytes words_line
words_whole total = refl

-- "most", a space and the largest sum
pub most_whole : (most : ℕ) → (109 ∷ 111 ∷ 115 ∷ 116 ∷ 32 ∷ []) ++ field_bytes most 10 ≡ most_line most
unfolding field_bytes most_line
most_whole most = refl

pub ruleset total_laws = (digit_before, room_for_digit, storing_digit, room_for_first_digit, first_digit_stored, total_end, total_stored, rules)
