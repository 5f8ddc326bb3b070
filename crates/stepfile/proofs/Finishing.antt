-- What `finish` promises, from what its parts have done. One law for each way of the code, and `finishing_laws`. Assumes nothing.
use Prim.Native.Nat.{◌<◌, ◌≤◌, ℕ}
use native.Mathlib.Omega.{arith}
use mathlib.Core.Path.{◌∙◌, ◌≡◌, ap, refl, sym}
use mathlib.Core.Bool.{Bool, ◌||◌, cond, false, false≢true, true}
use mathlib.Core.List.{List, [], ◌++◌, ◌∷◌}
use lib.ListN.{drop, length, take}
use lib.Seq.{length-take-le, sets}
use lib.Dec.{eqb, ltb}
use borrow.Author.Tests.{eqb-true, le-ltb, lt-ltb}
use borrow.Author.Rules.{rules}
use Rattle.limits.specs.Files.{file_record_width}
use Rattle.lines.specs.Lines.{line_bytes, words_line, refusal_line}
use Rattle.file_lines.specs.inner.Needed.{LinePut}
use Rattle.file_lines.proofs.Placing.{rest_kept_all}
use Rattle.stepfile.specs.Feeding.{after, last_line_of}
use Rattle.stepfile.specs.Promises.{FinishedAs, feedable, finish_answer, finish_line, finish_lines, left_untaken}
use Rattle.stepfile.specs.declared.Progress.{Progress}
use Rattle.stepfile.specs.inner.Needed.{EndThere, EndsShort, FeedableIs}
use Rattle.stepfile.proofs.Answers.{stored_front}
use Rattle.stepfile.proofs.Sound.{few_held, room_there}
use Rattle.stepfile.proofs.Whole.{whole_lines}

-- ---- the last line

module _ (p : Progress) where
  module _ (long : length p.bytes ≡ file_record_width) (few : p.held < file_record_width) where
    last_line : (xs : List ℕ) → length xs ≡ p.held
        → last_line_of p.number xs p.stopped p.words
        ≡ cond p.stopped [] (cond (eqb p.number 0 || ltb 0 p.held) (line_bytes p.number 15 0 0) (words_line p.words))
    unfolding last_line_of refusal_line
    last_line [] e = rw (le-ltb 0 p.held (omega (arith, e))) (go p.stopped (eqb p.number 0) refl)
      where
        go : (s n : Bool) → eqb p.number 0 ≡ n
            → cond s [] (cond n (line_bytes 0 15 0 0) (words_line p.words)) ≡ cond s [] (cond (n || false) (line_bytes p.number 15 0 0) (words_line p.words))
        go true n z = refl
        go false true z = ap (λ (k : ℕ). line_bytes k 15 0 0) (sym (eqb-true p.number 0 z))
        go false false z = refl
    last_line (x ∷ xs) e = rw (lt-ltb 0 p.held (omega (arith, e))) (go p.stopped (eqb p.number 0))
      where
        go : (s n : Bool) → cond s [] (line_bytes p.number 15 0 0) ≡ cond s [] (cond (n || true) (line_bytes p.number 15 0 0) (words_line p.words))
        go true n = refl
        go false true = refl
        go false false = refl

    finish_line_lem : finish_line p ≡ cond p.stopped [] (cond (eqb p.number 0 || ltb 0 p.held) (line_bytes p.number 15 0 0) (words_line p.words))
    unfolding finish_line
    finish_line_lem = last_line (take p.held p.bytes) (length-take-le p.held p.bytes (omega (arith, long, few)))

module _ (p : Progress) (out : List ℕ) (h : EndThere p out) where
  module _ (long : length p.bytes ≡ file_record_width) where
    -- none, where the run has stopped
    pub end_stopped : p.stopped ≡ true → LinePut out 0 (finish_line p) out 0
    end_stopped z =
        let none : finish_line p ≡ [] = finish_line_lem p long h.few ∙ rw z refl in
        rw none (record { kept = rest_kept_all out 0 (omega arith); near = omega arith; lines = refl })

    module _ (z : p.stopped ≡ false) (b : Bool) (e : EndsShort b p) (out' : List ℕ) (end : ℕ) where
      end_is : cond p.stopped [] (cond (eqb p.number 0 || ltb 0 p.held) (line_bytes p.number 15 0 0) (words_line p.words))
          ≡ cond b (line_bytes p.number 15 0 0) (words_line p.words)
      end_is = rw (z, ← e.is) refl

      -- the line of 15
      pub end_short : b ≡ true → LinePut out 0 (line_bytes p.number 15 0 0) out' end → LinePut out 0 (finish_line p) out' end
      end_short y d =
          let line : finish_line p ≡ line_bytes p.number 15 0 0 = finish_line_lem p long h.few ∙ end_is ∙ ap (λ (x : Bool). cond x (line_bytes p.number 15 0 0) (words_line p.words)) y in
          rw line d

      -- the words moved
      pub end_words : b ≡ false → LinePut out 0 (words_line p.words) out' end → LinePut out 0 (finish_line p) out' end
      end_words y d =
          let line : finish_line p ≡ words_line p.words = finish_line_lem p long h.few ∙ end_is ∙ ap (λ (x : Bool). cond x (line_bytes p.number 15 0 0) (words_line p.words)) y in
          rw line d

-- ---- the promise

-- the line stands at the start of the bytes lent, and behind it all is as it was
finished : (p : Progress) (out line out' : List ℕ) (end : ℕ) → feedable p 0 (length out) ≡ true → finish_line p ≡ line → end ≡ length line
    → out' ≡ sets out 0 line → take end out' ≡ line → end ≤ length out' → FinishedAs p out (record { progress = p; fed = true; written = end }) out'
unfolding finish_answer finish_lines
finished p out line out' end there e d s l w =
    record {
      answer = rw (d, there, e);
      lines = s ∙ sym (rw (there, e));
      within = w;
      whole = λ a₀ a file sizes f r. whole_lines a₀ a file p sizes r ∙ ap (λ (xs : List ℕ). (after a₀ file).lines ++ xs) (e ∙ sym l);
    }

module _ (p : Progress) (out : List ℕ) (b : Bool) (e : FeedableIs b p 0 (length out)) where
  -- nothing is done
  pub not_finished : b ≡ false → FinishedAs p out (record { progress = p; fed = false; written = 0 }) out
  unfolding finish_answer finish_lines left_untaken
  not_finished z =
      let no : feedable p 0 (length out) ≡ false = sym e.is ∙ z in
      record { answer = sym (rw no refl); lines = sym (rw no refl); within = omega arith; whole = λ a₀ a file sizes f r. absurd (false≢true f) }

  module _ (z : b ≡ true) where
    there : feedable p 0 (length out) ≡ true
    there = sym e.is ∙ z

    -- the last line can be written
    pub end_there : EndThere p out
    end_there = record { few = few_held p 0 (length out) there; room = omega (arith, room_there p 0 (length out) there) }

    -- it is
    pub finished_with : (out' : List ℕ) (end : ℕ) → LinePut out 0 (finish_line p) out' end → FinishedAs p out (record { progress = p; fed = true; written = end }) out'
    finished_with out' end d =
        let within : end ≤ length out' = omega (arith, d.kept.within, d.kept.long) in
        let at : end ≡ length (finish_line p) = sym (length-take-le end out' within) ∙ ap length d.lines in
        finished p out (finish_line p) out' end there refl at
        (stored_front out out' (finish_line p) (omega (arith, at, d.kept.within)) (ap (λ (j : ℕ). take j out') (sym at) ∙ d.lines)
        (ap (λ (j : ℕ). drop j out') (sym at) ∙ d.kept.rest ∙ ap (λ (j : ℕ). drop j out) at))
        d.lines within

pub ruleset finishing_laws = (end_stopped, end_short, end_words, not_finished, finished_with, rules)
