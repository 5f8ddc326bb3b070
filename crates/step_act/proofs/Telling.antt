-- Which outcome tells an answer: that of a step that was done, or that of a refusal; and no other. Assumes nothing.
use Prim.Native.Nat.{ℕ}
use native.Mathlib.Omega.{arith}
use mathlib.Core.Path.{◌≡◌, refl, sym, ap, ◌∙◌}
use mathlib.Core.Bool.{true, false}
use borrow.Author.Tests.{ne_eqb}
use Rattle.std.specs.Prelude.{Ok, Err}
use Rattle.limits.specs.declared.Refusal.{Refusal}
use Rattle.limits.specs.Refused.{number_of}
use Rattle.limits.proofs.Refused.{number_of_pos, number_of_inj}
use Rattle.rules.specs.Refusals.{Answer, refused_with}
use Rattle.step_act.specs.Telling.{Outcome, answered, outcome_value, outcome_count, outcome_words, told, Tells}

-- of an accepted step
pub done_tells : (v k n : ℕ) → Tells (answered v k n) (record { refusal = 0; value = v; count = k; words = n })
unfolding told outcome_value outcome_count outcome_words
done_tells v k n = record { numbers = refl; accepted = refl }

-- of a refused one
pub refused_tells : (r : Refusal) → Tells (Err r) (refused_with (number_of r))
unfolding told outcome_value outcome_count outcome_words refused_with
refused_tells r = record { numbers = refl; accepted = sym (ne_eqb (number_of r) 0 (number_of_pos r)) }

apart : true ≡ false → ⊥
apart e = let z : ◌≡◌ {A = ℕ} 0 1 = cc in omega (arith, z)

-- an answer is told by one outcome alone
pub one_outcome : (o o' : Outcome) (a : Answer) → Tells o a → Tells o' a → o ≡ o'
unfolding told outcome_value outcome_count outcome_words
one_outcome (Ok y) (Ok y') a h h' =
    let e = h.numbers ∙ sym h'.numbers in
    ap (λ (x : ℕ). answered x y.count y.words) (ap (λ (x : Answer). x.value) e)
    ∙ ap (λ (x : ℕ). answered y'.value x y.words) (ap (λ (x : Answer). x.count) e)
    ∙ ap (λ (x : ℕ). answered y'.value y'.count x) (ap (λ (x : Answer). x.words) e)
one_outcome (Ok y) (Err r) a h h' = absurd (apart (h.accepted ∙ sym h'.accepted))
one_outcome (Err r) (Ok y) a h h' = absurd (apart (h'.accepted ∙ sym h.accepted))
one_outcome (Err r) (Err r') a h h' = ap (λ (x : Refusal). Err x) (number_of_inj r r' (ap (λ (x : Answer). x.refusal) (h.numbers ∙ sym h'.numbers)))
