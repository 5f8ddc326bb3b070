-- A line whose number's digits are at hand: `counted_laws`. Rests on Digits, Lines and Writing.
-- Assumes nothing.
use Prim.Native.Nat.{ℕ, ◌+◌, ◌≤◌, ◌<◌}
use native.Mathlib.Numerals.{add-one}
use native.Mathlib.Omega.{arith}
use mathlib.Core.Path.{◌≡◌, sym, ap, ◌∙◌}
use mathlib.Core.List.{List, [], ◌∷◌, ◌++◌, append_assoc}
use lib.ListN.{length, take, drop, set, length-append, length-drop, take-append-drop}
use lib.Seq.{length-take-le, sets}
use borrow.Author.Rules.{rules}
use Rattle.lists.proofs.Stores.{sets_append, sets_over}
use Rattle.lines.specs.Decimal.{digits}
use Rattle.lines.specs.Lines.{line_bytes}
use Rattle.lines.specs.inner.Needed.{Put, field_bytes, half_bytes, Counted, ShortFits, behind_number}
use Rattle.lines.proofs.Digits.{digits_one, some_digit}
use Rattle.lines.proofs.Lines.{length_line}

-- ---- the line

-- what stands behind the number: a space, the refusal, the value and the count
pub behind_put : (out out₁ out₂ : List ℕ) (at at₁ at₂ refusal value count : ℕ) → Put (set out at 32) (at + 1) (field_bytes refusal 32) 11 out₁ at₁
    → Put out₁ at₁ (half_bytes value count 10) 22 out₂ at₂ → Put out at (behind_number refusal value count) 34 out₂ at₂
unfolding behind_number
behind_put out out₁ out₂ at at₁ at₂ refusal value count q r =
    let vs = field_bytes refusal 32 in
    let ws = half_bytes value count 10 in
    record {
      stored =
          r.stored
          ∙ ap (λ (l : List ℕ). sets l at₁ ws) q.stored
          ∙ ap (λ (k : ℕ). sets (sets (set out at 32) (at + 1) vs) k ws) q.place
          ∙ sym (sets_append (set out at 32) (at + 1) vs ws)
          ∙ ap (λ (k : ℕ). sets (set out at 32) k (vs ++ ws)) (add-one at);
      place = omega (arith, q.place, r.place, length-append vs ws);
      near = omega (arith, q.near, r.near);
    }

-- a refusal of one digit, the value 0 and the count 0
module _ (out : List ℕ) (at refusal : ℕ) where
  short_bytes : refusal < 10 → behind_number refusal 0 0 ≡ 32 ∷ (48 + refusal) ∷ 32 ∷ 48 ∷ 32 ∷ 48 ∷ 10 ∷ []
  unfolding behind_number half_bytes field_bytes
  short_bytes h = rw (digits_one refusal h, digits_one 0 (omega arith))

  pub short_put : ShortFits out at refusal → (out' : List ℕ) → out' ≡ sets out at (32 ∷ (48 + refusal) ∷ 32 ∷ 48 ∷ 32 ∷ 48 ∷ 10 ∷ []) → Put out at (behind_number refusal 0 0) 7 out' (at + 7)
  short_put p out' e =
      record {
        stored = e ∙ ap (λ (l : List ℕ). sets out at l) (sym (short_bytes p.digit));
        place = omega (arith, ap length (short_bytes p.digit));
        near = omega arith;
      }

  pub short_is_behind : (value count end : ℕ) (out' : List ℕ) → value ≡ 0 → count ≡ 0 → Put out at (behind_number refusal 0 0) 7 out' end
      → Put out at (behind_number refusal value count) 34 out' end
  short_is_behind value count end out' v c p =
      let same : behind_number refusal 0 0 ≡ behind_number refusal value count = cc in
      record {
        stored = p.stored ∙ ap (λ (l : List ℕ). sets out at l) same;
        place = p.place ∙ ap (λ (l : List ℕ). at + length l) same;
        near = omega (arith, p.near);
      }

-- a line is its number and what stands behind it
line_is_number_and_rest : (number refusal value count : ℕ) → digits number ++ behind_number refusal value count ≡ line_bytes number refusal value count
unfolding behind_number line_bytes half_bytes field_bytes
line_is_number_and_rest number refusal value count = simp append_assoc

-- at least seven bytes stand behind the number
behind_covers : (refusal value count : ℕ) → 7 ≤ length (behind_number refusal value count)
behind_covers refusal value count =
    omega (arith, ap length (line_is_number_and_rest 0 refusal value count), length-append (digits 0) (behind_number refusal value count), length_line 0 refusal value count, some_digit refusal, some_digit value, some_digit count)

module _ (out : List ℕ) (at : ℕ) (d : List ℕ) (len n : ℕ) (q : Counted d len n) where
  module _ (out₁ out₂ : List ℕ) (end refusal value count : ℕ) (r : Put out₁ (at + len) (behind_number refusal value count) 34 out₂ end) where
    pub counted_line_end : end ≡ at + length (line_bytes n refusal value count)
    counted_line_end =
        omega (arith, r.place, q.counted, ap length (line_is_number_and_rest n refusal value count), length-append (digits n) (behind_number refusal value count))

    pub counted_line_stored : out₁ ≡ sets out at d → out₂ ≡ sets out at (line_bytes n refusal value count)
    counted_line_stored e =
        let rest = behind_number refusal value count in
        let front : length (take len d) ≡ len = length-take-le len d (omega (arith, q.few, q.long)) in
        let none_left : length (drop len d) ≤ length rest =
        omega (arith, length-drop len d, q.long, q.counted, some_digit n, behind_covers refusal value count) in
        r.stored
        ∙ ap (λ (l : List ℕ). sets l (at + len) rest) (e ∙ ap (λ (l : List ℕ). sets out at l) (sym (take-append-drop len d)) ∙ sets_append out at (take len d) (drop len d))
        ∙ ap (λ (k : ℕ). sets (sets (sets out at (take len d)) (at + k) (drop len d)) (at + len) rest) front
        ∙ sets_over (sets out at (take len d)) (at + len) (drop len d) rest none_left
        ∙ ap (λ (k : ℕ). sets (sets out at (take len d)) (at + k) rest) (sym front)
        ∙ sym (sets_append out at (take len d) rest)
        ∙ ap (λ (l : List ℕ). sets out at (l ++ rest)) q.said
        ∙ ap (λ (l : List ℕ). sets out at l) (line_is_number_and_rest n refusal value count)

pub ruleset counted_laws = (behind_put, short_put, short_is_behind, counted_line_end, counted_line_stored, rules)
