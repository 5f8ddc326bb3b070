-- What a step returns and leaves in the slices lent to it, and what carrying a diff out returns. One law for each way of the code, and
-- `telling_laws`. Assumes nothing.
use Prim.Native.Nat.{ℕ, ◌+◌}
use mathlib.Core.Path.{◌≡◌, sym, ap, ◌∙◌}
use mathlib.Core.List.{List, [], ◌∷◌}
use lib.ListN.{length}
use borrow.Author.Tests.{eq-eqb, ne_eqb}
use Rattle.std.specs.Prelude.{Result, Err}
use Rattle.limits.specs.declared.Refusal.{Refusal}
use Rattle.limits.specs.Files.{answer_width}
use Rattle.limits.specs.Limits.{page_width}
use Rattle.limits.specs.Refused.{number_of, refusal_in}
use Rattle.limits.proofs.Refused.{number_of_pos}
use Rattle.diff.specs.Answers.{apply_refusal, apply_words}
use Rattle.rules.specs.Refusals.{Step, Answer}
use Rattle.layout.specs.Areas.{Areas}
use Rattle.step_act.specs.Telling.{Outcome, told, Tells}
use Rattle.engine.specs.Promises.{answer_of, areas_after}
use Rattle.step_record.specs.Answers.{answer_words}
use Rattle.lughtsavi.specs.Numbers.{slices, step_return, slices_after, apply_return}

-- ---- a step

module _ (out : List ℕ) (a : Areas) (t : Step) where
  -- an answer that has not four words
  pub no_four_refused : (length out ≡ answer_width → ⊥) → 1 ≡ step_return out a t
  unfolding step_return
  no_four_refused z = rw (ne_eqb (length out) answer_width z)

  pub no_four_untouched : (length out ≡ answer_width → ⊥) → slices out a ≡ slices_after out a t
  unfolding slices_after
  no_four_untouched z = rw (ne_eqb (length out) answer_width z)

  module _ (z : length out ≡ answer_width) (o : Outcome) (is : Tells o (answer_of a t)) where
    pub step_returned : (n : ℕ) → n ≡ refusal_in o → n ≡ step_return out a t
    unfolding step_return told
    step_returned n e = e ∙ ap (λ (x : Answer). x.refusal) is.numbers ∙ rw (eq-eqb (length out) answer_width z)

    pub step_told : (out' four : List ℕ) (a' : Areas) → out' ≡ four → four ≡ answer_words (told o ∷ []) → a' ≡ areas_after a t → slices out' a' ≡ slices_after out a t
    unfolding slices_after
    step_told out' four a' l h e = rw (l, h, is.numbers, e, eq-eqb (length out) answer_width z)

-- the four words fit
pub four_fit : (out four : List ℕ) (x : Answer) → length out ≡ answer_width → four ≡ answer_words (x ∷ []) → length out ≡ length four
unfolding answer_words
four_fit out four x z e = rw (e, z)

-- ---- a diff carried out

module _ (bytes page : List ℕ) (n : ℕ) where
  -- the words set
  pub words_returned : 0 ≡ apply_refusal page_width bytes page → n ≡ apply_words page_width bytes page → n ≡ apply_return page_width bytes page
  unfolding apply_return
  words_returned z e = e ∙ sym (rw (eq-eqb (apply_refusal page_width bytes page) 0 (sym z)))

  -- 256 + the refusal
  pub refusal_returned : (r : Result ℕ Refusal) (u : Refusal) → refusal_in r ≡ apply_refusal page_width bytes page → r ≡ Err u → n ≡ 256 + number_of u → n ≡ apply_return page_width bytes page
  unfolding apply_return
  refusal_returned r u is e g =
      let refused = sym is ∙ ap refusal_in e in
      g ∙ sym (rw refused (rw (ne_eqb (number_of u) 0 (number_of_pos u))))

pub ruleset telling_laws = (no_four_refused, no_four_untouched, four_fit, words_returned)
