-- Bytes held: those of a chunk taken behind them, and whether the others are 0. Assumes nothing.
use Prim.Native.Nat.{◌+◌, ◌-◌, ◌<◌, ◌≤◌, min, ℕ}
use native.Mathlib.Omega.{arith}
use mathlib.Core.Path.{◌∙◌, ◌≡◌, ap, refl, sym}
use mathlib.Core.Bool.{Bool, ◌&&◌, and-eq-true_iff, true}
use mathlib.Core.List.{List, [], ◌++◌, ◌∷◌, append_assoc}
use lib.ListN.{drop, length, length-drop, length-append, replicate, take, take-append-drop}
use borrow.Rule.Slice.PartMut.{put_mid}
use lib.Seq.{drop-drop, length-take-le}
use Rattle.std.proofs.lemmas.Slice.{drop-put_mid, take-put_mid}
use Rattle.std.proofs.lemmas.List.{drop-replicate}
use Rattle.std.specs.List.{list_all}
use lib.Dec.{eqb}
use borrow.Author.Tests.{eqb-true, lt-ltb}
use Rattle.limits.specs.Files.{file_record_width}
use Rattle.rules.specs.InOrder.{all_zero}
use Rattle.file_held.specs.inner.Needed.{HeldAll, Holdable, Holding, HeldTogether, ZerosBehind}

-- ---- bytes taken behind those held

module _ (held : ℕ) (bytes chunk : List ℕ) (from : ℕ) (h : Holdable held bytes chunk from) (taken : ℕ) (few : taken ≡ min (file_record_width - held) (length chunk - from)) where
  -- the bytes taken
  abbrev more : List ℕ
  more = take taken (drop from chunk)

  length_more : length more ≡ taken
  length_more = length-take-le taken (drop from chunk) (omega (arith, few, length-drop from chunk))

  within : held ≤ length bytes
  within = omega (arith, h.holding.few, h.holding.long)

  -- the bytes held then
  abbrev kept : List ℕ
  kept = put_mid held taken bytes more

  together : HeldTogether held bytes chunk from (held + taken) kept (from + taken)
  together =
      record {
        holding =
            record {
              few = omega (arith, few, h.holding.few);
              long =
                  simp length-append
                  (omega (arith, few, h.holding.few, h.holding.long, length_more, length-take-le held bytes within, length-drop taken (drop held bytes), length-drop held bytes));
              zeros =
                  drop-put_mid held taken bytes more (held + taken) (omega arith) within length_more
                  ∙ sym (drop-drop taken held bytes)
                  ∙ ap (λ (l : List ℕ). drop taken l) h.holding.zeros
                  ∙ drop-replicate taken (file_record_width - held) 0
                  ∙ ap (λ (n : ℕ). replicate n 0) (omega arith);
            };
        within = omega (arith, few, h.within);
        counted = omega arith;
        same =
            ap (λ (l : List ℕ). l ++ drop (from + taken) chunk) (take-put_mid held taken bytes more (held + taken) (omega (arith, length_more)) within)
            ∙ append_assoc (take held bytes) more (drop (from + taken) chunk)
            ∙ ap (λ (l : List ℕ). take held bytes ++ l) (ap (λ (l : List ℕ). more ++ l) (sym (drop-drop taken from chunk)) ∙ take-append-drop taken (drop from chunk));
      }

  pub held_all : (k m : ℕ) (ys : List ℕ) → k ≡ taken → m ≡ taken → ys ≡ take m (drop from chunk)
      → HeldAll held bytes chunk from (record { count = held + taken; bytes = put_mid held k bytes ys; next = from + taken })
  held_all k m ys ek em e = rw (e, ek, em) (record { holds = together; short = λ s. omega (arith, few, s, h.within, h.holding.few) })

-- ---- whether the bytes behind those held are 0

-- every byte is tested for 0
all_tested : (l : List ℕ) → list_all (λ x. eqb x 0) l ≡ all_zero l
unfolding all_zero
all_tested [] = refl
all_tested (x ∷ l) = ap (λ (b : Bool). eqb x 0 && b) (all_tested l)

pub zeros_tested : (held : ℕ) (bytes : List ℕ) (b : Bool) → held < file_record_width → b ≡ list_all (λ x. eqb x 0) (drop held bytes) → ZerosBehind b held bytes
zeros_tested held bytes b h e = record { is = e ∙ all_tested (drop held bytes) ∙ sym (ap (λ (t : Bool). t && all_zero (drop held bytes)) (lt-ltb held file_record_width h)) }

-- bytes that are all 0
zeros_are : (xs : List ℕ) → all_zero xs ≡ true → xs ≡ replicate (length xs) 0
unfolding all_zero
zeros_are [] e = refl
zeros_are (x ∷ xs) e =
    let both = (and-eq-true_iff (eqb x 0) (all_zero xs)).0 e in
    ap (λ (y : ℕ). y ∷ xs) (eqb-true x 0 both.0) ∙ ap (λ (ys : List ℕ). 0 ∷ ys) (zeros_are xs both.1)

-- bytes held, with zeros behind them
pub holding_of : (held : ℕ) (bytes : List ℕ) → length bytes ≡ file_record_width → held ≤ file_record_width → all_zero (drop held bytes) ≡ true → Holding held bytes
holding_of held bytes e l z =
    let rest : length (drop held bytes) ≡ file_record_width - held = length-drop held bytes ∙ ap (λ (n : ℕ). n - held) e in
    record {
      few = l;
      long = e;
      zeros = zeros_are (drop held bytes) z ∙ ap (λ (n : ℕ). replicate n 0) rest;
    }
