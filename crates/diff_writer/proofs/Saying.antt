-- Which answer of `write` says a refusal and a length, and that no other does. Assumes nothing.
use Prim.Native.Nat.{ℕ, suc}
use native.Mathlib.Omega.{arith}
use mathlib.Core.Path.{◌≡◌, refl, sym, ap, ◌∙◌}
use mathlib.Core.Bool.{true, false}
use borrow.Author.Tests.{ne_eqb}
use Rattle.std.specs.Prelude.{Result, Ok, Err}
use Rattle.limits.specs.Refused.{number_of}
use Rattle.limits.specs.declared.Refusal.{Refusal}
use Rattle.limits.proofs.Refused.{number_of_pos, number_of_inj}
use Rattle.diff_writer.specs.Answers.{WriteAnswer, said_by, was_written, Says}

-- a length
pub length_said : (n : ℕ) → Says (Ok n) (record { refusal = 0; length = n })
unfolding said_by was_written
length_said n = record { numbers = refl; accepted = refl }

-- a refusal
pub refusal_said : (r : Refusal) → Says (Err r) (record { refusal = number_of r; length = 0 })
unfolding said_by was_written
refusal_said r = record { numbers = refl; accepted = sym (ne_eqb (number_of r) 0 (number_of_pos r)) }

apart : true ≡ false → ⊥
apart e = let z : ◌≡◌ {A = ℕ} 0 1 = cc in omega (arith, z)

-- an answer is said by one case alone
pub one_written : (x y : Result ℕ Refusal) (a : WriteAnswer) → Says x a → Says y a → x ≡ y
unfolding said_by was_written
one_written (Ok n) (Ok m) a h k = ap (λ (i : ℕ). Ok i) (ap (λ (b : WriteAnswer). b.length) (h.numbers ∙ sym k.numbers))
one_written (Ok n) (Err m) a h k = absurd (apart (h.accepted ∙ sym k.accepted))
one_written (Err n) (Ok m) a h k = absurd (apart (k.accepted ∙ sym h.accepted))
one_written (Err n) (Err m) a h k = ap (λ (r : Refusal). Err r) (number_of_inj n m (ap (λ (b : WriteAnswer). b.refusal) (h.numbers ∙ sym k.numbers)))
