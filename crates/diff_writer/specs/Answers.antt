-- What `write` answers and leaves in its destination, each by one definition. w is the page length. Assumes nothing.
use Rattle.std.specs.Prelude.{ℕ, ◌≡◌, Bool, true, false, cond, not, ◌&&◌, List, length, ltb, eqb, Result, Ok, Err}
use Rattle.std.proofs.lemmas.List.Edits.{sets}
use Rattle.limits.specs.declared.Refusal.{Refusal}
use Rattle.limits.specs.Refused.{number_of}
use Rattle.diff.specs.Format.{written}

-- "14 a page lent is not 32 words", then "13 the destination is shorter than the change"; 0 where neither applies
unfoldable pub write_refusal : ℕ → List ℕ → List ℕ → List ℕ → ℕ
write_refusal w old new out =
    cond (not (eqb (length old) w && eqb (length new) w)) 14
    (cond (ltb (length out) (length (written old new))) 13
    0)

-- what writing a diff answers: its refusal, or 0, and the length in bytes of what was written
pub record WriteAnswer : Type 0 where
  pub refusal : ℕ
  pub length : ℕ

-- what `write` answers: the refusal, or the length of the diff
unfoldable pub write_answer : ℕ → List ℕ → List ℕ → List ℕ → WriteAnswer
write_answer w old new out =
    cond (eqb (write_refusal w old new out) 0)
    (record { refusal = 0; length = length (written old new) })
    (record { refusal = write_refusal w old new out; length = 0 })

-- the two numbers that each case of its answer stands for
unfoldable pub said_by : Result ℕ Refusal → WriteAnswer
said_by (Ok n) = record { refusal = 0; length = n }
said_by (Err r) = record { refusal = number_of r; length = 0 }

-- whether it is the case of a diff that was written
unfoldable pub was_written : Result ℕ Refusal → Bool
was_written (Ok n) = true
was_written (Err r) = false

-- it says this answer: its two numbers are the answer's, and its case says whether anything was refused. No two say the same answer (proofs/)
pub record Says (x : Result ℕ Refusal) (a : WriteAnswer) : Type 0 where
  pub numbers : said_by x ≡ a
  pub accepted : was_written x ≡ eqb a.refusal 0

-- what `write` leaves in its destination: the diff from place 0 on, and "Bytes beyond a written change keep their contents"
unfoldable pub out_after : ℕ → List ℕ → List ℕ → List ℕ → List ℕ
out_after w old new out = cond (eqb (write_refusal w old new out) 0) (sets out 0 (written old new)) out
