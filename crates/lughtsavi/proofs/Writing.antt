-- What writing a diff answers, as one number: at most 131 where it was written, from 256 on where it was refused. One law for each way
-- of the code, and `writing_laws`. Assumes nothing.
use Prim.Native.Nat.{ℕ, ◌+◌, ◌≤◌, ◌<◌}
use native.Mathlib.Omega.{arith}
use mathlib.Core.Path.{◌≡◌, refl, sym, ap, ◌∙◌}
use mathlib.Core.Bool.{Bool, true, false, cond, not, ◌&&◌, and-eq-true_iff}
use mathlib.Core.List.{List}
use lib.ListN.{length}
use lib.Dec.{eqb, ltb}
use borrow.Author.Tests.{eqb-true, eqb-false, eq-eqb, ne_eqb}
use Rattle.std.specs.Prelude.{Ok, Err}
use Rattle.limits.specs.declared.Refusal.{Refusal}
use Rattle.limits.specs.Limits.{page_width, word_values}
use Rattle.limits.specs.Refused.{number_of}
use Rattle.limits.proofs.Refused.{number_of_pos}
use Rattle.limits.specs.inner.Sizes.{diff_limit}
use Rattle.diff.specs.Format.{written}
use Rattle.diff.proofs.Theorems.{at_most_131_bytes}
use Rattle.diff_writer.specs.Answers.{write_refusal, write_answer, said_by, Says}
use Rattle.lughtsavi.specs.Numbers.{write_return}

-- ---- a length and a refusal are not mistaken for one another

module _ (old new out : List ℕ) where
  refusal_at_most_14 : write_refusal page_width old new out ≤ 14
  unfolding write_refusal
  refusal_at_most_14 = go (not (eqb (length old) page_width && eqb (length new) page_width)) (ltb (length out) (length (written old new)))
    where
      go : (b d : Bool) → cond b 14 (cond d 13 0) ≤ 14
      go true d = omega arith
      go false true = omega arith
      go false false = omega arith

  -- what is not refused is the diff of two pages of 32 words
  pages_whole : write_refusal page_width old new out ≡ 0 → (eqb (length old) page_width && eqb (length new) page_width) ≡ true
  unfolding write_refusal
  pages_whole = go (eqb (length old) page_width && eqb (length new) page_width)
    where
      go : (b : Bool) → ◌≡◌ {A = ℕ} (cond (not b) 14 (cond (ltb (length out) (length (written old new))) 13 0)) 0 → b ≡ true
      go true z = refl
      go false z = absurd (omega (arith, z))

  diff_at_most_131 : write_refusal page_width old new out ≡ 0 → length (written old new) ≤ diff_limit
  diff_at_most_131 z =
      let both = (and-eq-true_iff (eqb (length old) page_width) (eqb (length new) page_width)).0 (pages_whole z) in
      at_most_131_bytes old new (eqb-true _ _ both.0) (eqb-true _ _ both.1)

  -- written: the number is at most 131
  pub written_at_most_131 : write_refusal page_width old new out ≡ 0 → write_return (write_answer page_width old new out) ≤ diff_limit
  unfolding write_answer write_return
  written_at_most_131 z = rw (eq-eqb (write_refusal page_width old new out) 0 z) (diff_at_most_131 z)

  -- refused: it is 256 + the refusal
  pub refused_from_256 : (write_refusal page_width old new out ≡ 0 → ⊥) → write_return (write_answer page_width old new out) ≡ 256 + write_refusal page_width old new out
  unfolding write_answer write_return
  refused_from_256 z = let e = ne_eqb (write_refusal page_width old new out) 0 z in rw e (rw e)

  -- either has 32 bits
  answer_small : write_return (write_answer page_width old new out) < word_values
  answer_small = go (eqb (write_refusal page_width old new out) 0) refl
    where
      go : (b : Bool) → eqb (write_refusal page_width old new out) 0 ≡ b → write_return (write_answer page_width old new out) < word_values
      go true e = omega (arith, written_at_most_131 (eqb-true _ _ e))
      go false e = omega (arith, refused_from_256 (eqb-false _ _ e), refusal_at_most_14)

-- ---- the ways of the code

module _ (old new out : List ℕ) (n : ℕ) where
  -- a length
  pub length_returned : Says (Ok n) (write_answer page_width old new out) → n ≡ write_return (write_answer page_width old new out)
  unfolding said_by write_return
  length_returned is = ap write_return is.numbers

  -- it has 32 bits
  pub length_small : Says (Ok n) (write_answer page_width old new out) → n < word_values
  length_small is = rw (length_returned is) (answer_small old new out)

  -- a refusal
  pub refusal_returned : (u : Refusal) → Says (Err u) (write_answer page_width old new out) → n ≡ 256 + number_of u → n ≡ write_return (write_answer page_width old new out)
  unfolding said_by write_return
  refusal_returned u is e = e ∙ sym (rw (← is.numbers) (rw (ne_eqb (number_of u) 0 (number_of_pos u))))

pub ruleset writing_laws = (length_returned, length_small)
