-- Answers laid as words, four for each, and read back from them. Assumes nothing.
use Prim.Native.Nat.{ℕ, suc, ◌+◌, ◌*◌, ◌≤◌}
use native.Mathlib.Omega.{arith}
use mathlib.Core.Path.{◌≡◌, refl, ap, ◌∙◌}
use mathlib.Core.List.{List, [], ◌∷◌, ◌++◌}
use lib.ListN.{length, drop}
use lib.Seq.{sets, sets-eq}
use Rattle.limits.specs.Files.{answer_width}
use Rattle.rules.specs.Refusals.{Answer}
use Rattle.step_record.specs.Answers.{answer_words, answers_in}

-- ---- a list of answers

-- four words for each
words_of_answers : (l : List Answer) → length (answer_words l) ≡ answer_width * length l
unfolding answer_words
words_of_answers [] = refl
words_of_answers (a ∷ l) = ap (λ (n : ℕ). suc (suc (suc (suc n)))) (words_of_answers l) ∙ omega arith

-- the words of answers hold these answers, whatever stands behind
words_hold_lem : (l : List Answer) (behind : List ℕ) → answers_in (length l) (answer_words l ++ behind) ≡ l
unfolding answer_words answers_in
words_hold_lem [] behind = refl
words_hold_lem (a ∷ l) behind = ap (λ (t : List Answer). a ∷ t) (words_hold_lem l behind)

-- of answers laid from the first word on, those behind the first are read back
pub laid_read_back : (out : List ℕ) (a : Answer) (l : List Answer) → answer_width * suc (length l) ≤ length out
    → answers_in (length l) (drop answer_width (sets out 0 (answer_words (a ∷ l)))) ≡ l
unfolding answer_words
laid_read_back out a l h =
    ap (λ (ws : List ℕ). answers_in (length l) (drop answer_width ws)) (sets-eq (answer_words (a ∷ l)) out 0 room)
    ∙ words_hold_lem l (drop (0 + length (answer_words (a ∷ l))) out)
  where
    room : 0 + length (answer_words (a ∷ l)) ≤ length out
    room = omega (arith, words_of_answers (a ∷ l), h)

-- an answer laid from the first word on, and the others laid behind it
pub laid_behind : (out : List ℕ) (a : Answer) (l : List Answer) (out' out'' : List ℕ) → out' ≡ sets out 0 (answer_words (a ∷ [])) → out'' ≡ sets out' answer_width (answer_words l)
    → out'' ≡ sets out 0 (answer_words (a ∷ l))
unfolding answer_words
laid_behind out a l out' out'' e f = f ∙ ap (λ (ws : List ℕ). sets ws answer_width (answer_words l)) e
