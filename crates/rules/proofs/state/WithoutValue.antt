-- What does not look at the value of a write, an add or an enqueue does not look at the value of any step whose kind uses one. Assumes nothing.
use Prim.Native.Nat.{ℕ}
use mathlib.Core.Path.{◌≡◌, refl, sym, ap, ◌∙◌}
use mathlib.Core.Bool.{Bool, true, false, cond, ◌||◌}
use lib.Dec.{eqb}
use borrow.Author.Tests.{eqb-true}
use Rattle.rules.specs.Refusals.{Step, step_of, uses_value}
use Rattle.rules.specs.Noted.{without_value}

pub without_value_lem : {A : Type 0} (f : Step → A) → ((p o v : ℕ) → f (step_of 2 p o v) ≡ f (step_of 2 p o 0)) → ((p o v : ℕ) → f (step_of 8 p o v) ≡ f (step_of 8 p o 0))
    → ((p o v : ℕ) → f (step_of 10 p o v) ≡ f (step_of 10 p o 0)) → (t : Step) → f t ≡ f (without_value t)
unfolding without_value uses_value step_of
without_value_lem {A} f write add enqueue t = go (eqb t.kind 2) (eqb t.kind 8) (eqb t.kind 10) refl refl refl
  where
    at : (k : ℕ) → ((p o v : ℕ) → f (step_of k p o v) ≡ f (step_of k p o 0)) → t.kind ≡ k
        → f t ≡ f (record { kind = t.kind; processor = t.processor; object = t.object; value = 0 })
    at k h e =
        ap (λ (n : ℕ). f (record { kind = n; processor = t.processor; object = t.object; value = t.value })) e
        ∙ h t.processor t.object t.value
        ∙ ap (λ (n : ℕ). f (record { kind = n; processor = t.processor; object = t.object; value = 0 })) (sym e)

    go : (a b c : Bool) → eqb t.kind 2 ≡ a → eqb t.kind 8 ≡ b → eqb t.kind 10 ≡ c
        → f t ≡ f (record { kind = t.kind; processor = t.processor; object = t.object; value = cond (a || b || c) 0 t.value })
    go true b c e g h = at 2 write (eqb-true t.kind 2 e)
    go false true c e g h = at 8 add (eqb-true t.kind 8 g)
    go false false true e g h = at 10 enqueue (eqb-true t.kind 10 h)
    go false false false e g h = refl
