-- A line behind those before it: `placing_laws`. Assumes nothing.
use Prim.Native.Nat.{◌+◌, ◌-◌, ◌≤◌, ℕ}
use native.Mathlib.Omega.{arith}
use mathlib.Core.Path.{◌∙◌, ◌≡◌, ap, refl, sym}
use mathlib.Core.List.{List, ◌++◌}
use lib.ListN.{drop, length, length-append, take}
use lib.Seq.{drop_at, drop-drop, length-sets, length-take-le, sets, sets-eq, take_at}
use borrow.Author.Rules.{rules}
use Rattle.limits.specs.Files.{line_limit}
use Rattle.lines.specs.inner.Needed.{Room}
use Rattle.lines.proofs.Lines.{at_most_44_bytes, length_words_line, length_most_line}
use Rattle.file_lines.specs.inner.Needed.{RestKept, LinePut}

-- ---- a line behind those before it

module _ (out : List ℕ) (at : ℕ) (line : List ℕ) (h : at + length line ≤ length out) where
  front_long : length (take at out ++ line) ≡ at + length line
  front_long = length-append (take at out) line ∙ omega (arith, length-take-le at out (omega (arith, h)))

  line_kept : RestKept out at (sets out at line) (at + length line)
  line_kept =
      record {
        on = omega arith;
        within = h;
        long = length-sets out at line;
        rest =
            ap (λ (l : List ℕ). drop (at + length line) l) (sets-eq line out at h)
            ∙ drop_at (take at out ++ line) (drop (at + length line) out) (at + length line) front_long;
      }

  line_behind : take (at + length line) (sets out at line) ≡ take at out ++ line
  line_behind =
      ap (λ (l : List ℕ). take (at + length line) l) (sets-eq line out at h)
      ∙ take_at (take at out ++ line) (drop (at + length line) out) (at + length line) front_long

-- a line of at most 44 bytes stored from a place on
pub line_put : (out : List ℕ) (at : ℕ) (line : List ℕ) (out' : List ℕ) (end : ℕ) → Room out at line_limit → length line ≤ line_limit
    → end ≡ at + length line → out' ≡ sets out at line → LinePut out at line out' end
line_put out at line out' end room short e s =
    let fits : at + length line ≤ length out = omega (arith, short, room.room) in
    rw (e, s) (record { kept = line_kept out at line fits; near = omega (arith, short); lines = line_behind out at line fits })

-- ---- what is written stays

-- nothing is written yet
pub rest_kept_all : (out : List ℕ) (at : ℕ) → at ≤ length out → RestKept out at out at
rest_kept_all out at h = record { on = omega arith; within = h; long = refl; rest = refl }

-- written twice
pub rest_kept_again : (out : List ℕ) (at : ℕ) (out₁ : List ℕ) (at₁ : ℕ) (out₂ : List ℕ) (at₂ : ℕ) → RestKept out at out₁ at₁ → RestKept out₁ at₁ out₂ at₂ → RestKept out at out₂ at₂
rest_kept_again out at out₁ at₁ out₂ at₂ h k =
    record {
      on = omega (arith, h.on, k.on);
      within = omega (arith, k.within, h.long);
      long = k.long ∙ h.long;
      rest = k.rest ∙ further;
    }
  where
    further : drop at₂ out₁ ≡ drop at₂ out
    further =
        let e : at₁ + (at₂ - at₁) ≡ at₂ = omega (arith, k.on) in
        ap (λ (n : ℕ). drop n out₁) (sym e) ∙ sym (drop-drop (at₂ - at₁) at₁ out₁)
        ∙ ap (λ (l : List ℕ). drop (at₂ - at₁) l) h.rest
        ∙ drop-drop (at₂ - at₁) at₁ out ∙ ap (λ (n : ℕ). drop n out) e

pub ruleset placing_laws = (line_put, at_most_44_bytes, length_words_line, length_most_line, rules)
