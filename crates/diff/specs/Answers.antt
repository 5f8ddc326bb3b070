-- What `apply` answers and what it leaves in the page, each by one definition. w is the page length. Assumes nothing.
use Rattle.std.specs.Prelude.{ℕ, cond, not, List, length, eqb, Result, Ok, Err}
use Rattle.limits.specs.declared.Refusal.{Refusal}
use Rattle.diff.specs.Reading.{read_refusal, words_set, applied}

-- "14 a page lent is not 32 words", then the refusals of the byte string
unfoldable pub apply_refusal : ℕ → List ℕ → List ℕ → ℕ
apply_refusal w bytes page = cond (not (eqb (length page) w)) 14 (read_refusal w bytes)

-- L6: how many words `apply` sets; none where it refuses
unfoldable pub apply_words : ℕ → List ℕ → List ℕ → ℕ
apply_words w bytes page = cond (eqb (apply_refusal w bytes page) 0) (words_set bytes) 0

-- the number of words in an answer: none where it refuses
abbrev pub words_or_none : Result ℕ Refusal → ℕ
words_or_none (Ok words) = words
words_or_none (Err r) = 0

-- what `apply` leaves in the page
unfoldable pub page_after : ℕ → List ℕ → List ℕ → List ℕ
page_after w bytes page = cond (eqb (apply_refusal w bytes page) 0) (applied w bytes page) page
