-- A file fed byte by byte prints the lines of the whole file: those of its opening, of its steps as the rules answer them, and of its end.
-- Rests on Carried and on file_chunk's laws of bytes. Assumes nothing.
use Prim.Native.Nat.{ℕ, zero, suc, ◌+◌, ◌-◌, ◌*◌, ◌%◌, ◌≤◌, ◌<◌, min}
use native.Mathlib.Nat.{add_assoc, add-zero, zero-add}
use native.Mathlib.Omega.{arith}
use mathlib.Core.Path.{◌≡◌, refl, sym, ap, ◌∙◌}
use mathlib.Core.Bool.{Bool, true, false, cond, ◌&&◌}
use mathlib.Core.List.{List, [], ◌∷◌, ◌++◌, append_assoc, append-nil}
use lib.ListN.{length, take, drop, replicate, length-drop}
use lib.Seq.{take-append_seam, length-take-le}
use lib.Dec.{ltb, leb, eqb}
use borrow.Author.Tests.{ltb-true, ltb-false, eqb-true, eqb-false, le-leb, lt-leb, lt-ltb, le-ltb, ne_eqb}
use Rattle.limits.specs.Files.{file_record_width, step_limit}
use Rattle.rules.specs.InOrder.{counts_in_range}
use Rattle.rules.specs.Opening.{opening_refusal}
use Rattle.rules.specs.Refusals.{Step, Answer, answer, next}
use Rattle.rules.specs.Runs.{answers, words_moved}
use Rattle.rules.specs.State.{mainframe, State}
use Rattle.layout.specs.Areas.{Areas, holding, right_sizes}
use Rattle.opening.specs.Promises.{opening_of, open_refusal, areas_opened}
use Rattle.engine.specs.Promises.{answer_of, areas_after}
use Rattle.engine.proofs.Carried.{Carried, opened_carried, next_carried, carried_answer, carried_after}
use Rattle.step_fields.specs.Records.{step_from, steps_in, step_count}
use Rattle.lines.specs.Lines.{line_bytes, words_line, refusal_line}
use Rattle.file_record.specs.Records.{Feed, opening_taken, step_taken, too_many_taken, record_taken}
use Rattle.file_chunk.specs.Bytes.{held_on, bytes_taken}
use Rattle.file_chunk.proofs.Bytes.{taken_stopped, taken_held, eight_first}
use Rattle.step_fields.proofs.Reading.{step_of_eight}
use Rattle.stepfile.specs.Files.{answer_lines, end_line, opened_by, step_answers, step_lines, file_lines}
use Rattle.stepfile.specs.Feeding.{begun, after, last_line_of}
use Rattle.stepfile.specs.Promises.{progress_of, finish_line, Reached}
use Rattle.stepfile.specs.declared.Progress.{Progress}

-- ---- what stands between two records, and the lines at the end

-- the next record's number, the areas, the lines and the words moved; no byte is held
unfoldable between : ℕ → Areas → List ℕ → ℕ → Feed
between n a l v = record { number = n; held = []; stopped = false; areas = a; lines = l; words = v }

-- all lines, if the file ends here
unfoldable ended : Feed → List ℕ
ended f = f.lines ++ last_line_of f.number f.held f.stopped f.words

ended_finish : (f : Feed) → f.lines ++ finish_line (progress_of f) ≡ ended f
unfolding ended finish_line progress_of
ended_finish f = ap (λ (h : List ℕ). f.lines ++ last_line_of f.number h f.stopped f.words) (take-append_seam f.held (replicate (file_record_width - length f.held) 0))

-- ---- a step's record

-- the line of an answer
unfoldable answer_line : ℕ → Answer → List ℕ
answer_line n a = line_bytes n a.refusal a.value a.count

-- a step up to the 1,000,000th is answered by the rules
step_between : (k : ℕ) (s : State) (l xs : List ℕ) (v : ℕ) → suc k ≤ step_limit → Carried s
    → record_taken (between (suc k) (holding s) l v) (take file_record_width xs)
    ≡ between (suc (suc k)) (holding (next mainframe s (step_from xs))) (l ++ answer_line (suc k) (answer mainframe s (step_from xs))) (v + (answer mainframe s (step_from xs)).words)
unfolding record_taken step_taken between answer_line
step_between k s l xs v h c =
    ap (λ (b : Bool). cond b (opening_taken f bytes) (cond (leb (suc k) step_limit) (step_taken f bytes) (too_many_taken f))) (ne_eqb (suc k) 0 (omega arith))
    ∙ ap (λ (b : Bool). cond b (step_taken f bytes) (too_many_taken f)) (le-leb (suc k) step_limit h)
    ∙ ap (λ (t : Step). taken (answer_of (holding s) t) (areas_after (holding s) t)) (step_of_eight xs)
    ∙ ap (λ (a : Answer). taken a (areas_after (holding s) (step_from xs))) (carried_answer s c (step_from xs))
    ∙ ap (λ (a : Areas). taken (answer mainframe s (step_from xs)) a) (carried_after s c (step_from xs))
  where
    f : Feed
    f = between (suc k) (holding s) l v

    bytes : List ℕ
    bytes = take file_record_width xs

    taken : Answer → Areas → Feed
    taken x a = between (suc (suc k)) a (l ++ answer_line (suc k) x) (v + x.words)

-- one more is too many
too_many_between : (k : ℕ) (a : Areas) (l bytes : List ℕ) (v : ℕ) → step_limit ≤ k
    → record_taken (between (suc k) a l v) bytes ≡ record { number = suc k; held = []; stopped = true; areas = a; lines = l ++ refusal_line (suc k) 16; words = v }
unfolding record_taken too_many_taken between
too_many_between k a l bytes v h =
    ap (λ (b : Bool). cond b (opening_taken f bytes) (cond (leb (suc k) step_limit) (step_taken f bytes) (too_many_taken f))) (ne_eqb (suc k) 0 (omega arith))
    ∙ ap (λ (b : Bool). cond b (step_taken f bytes) (too_many_taken f)) (lt-leb (suc k) step_limit (omega (arith, h)))
  where
    f : Feed
    f = between (suc k) a l v

-- ---- the rest of a file behind k steps

-- its end, where n whole records and r bytes are left, m steps may still be run, and v words have moved at the end
unfoldable rest_end : ℕ → ℕ → ℕ → ℕ → ℕ → List ℕ
rest_end k n m r v = cond (ltb m n) (refusal_line (k + m + 1) 16) (cond (eqb r 0) (words_line v) (refusal_line (k + n + 1) 15))

-- the answers of its steps
unfoldable rest_answers : State → ℕ → List ℕ → List Answer
rest_answers s n xs = answers mainframe s (steps_in n xs)

-- its lines, where v words have moved before it
unfoldable rest_lines : ℕ → State → ℕ → ℕ → ℕ → ℕ → List ℕ → List ℕ
rest_lines k s n m r v xs = answer_lines (suc k) (rest_answers s (min n m) xs) ++ rest_end k n m r (v + words_moved (rest_answers s (min n m) xs))

-- fewer than eight bytes
few_end : (k m v : ℕ) (xs : List ℕ) → last_line_of (suc k) xs false v ≡ rest_end k 0 m (length xs) v
unfolding last_line_of rest_end
few_end k m v [] = rw (ne_eqb (suc k) 0 (omega arith), le-ltb m 0 (omega arith))
few_end k m v (x ∷ xs) =
    rw (le-ltb m 0 (omega arith), ne_eqb (suc (length xs)) 0 (omega arith)) (ap (λ (n : ℕ). refusal_line n 15) number)
  where
    number : suc k ≡ k + 0 + 1
    number = omega arith

-- one step further
end_further : (k n m r v : ℕ) → rest_end (suc k) n m r v ≡ rest_end k (suc n) (suc m) r v
unfolding rest_end
end_further k n m r v = rw (shift m, shift n, further (ltb m n) refl)
  where
    shift : (j : ℕ) → suc k + j + 1 ≡ k + suc j + 1
    shift j = omega arith

    further : (b : Bool) → ltb m n ≡ b → ltb m n ≡ ltb (suc m) (suc n)
    further true e = e ∙ sym (lt-ltb (suc m) (suc n) (omega (arith, ltb-true m n e)))
    further false e = e ∙ sym (le-ltb (suc m) (suc n) (omega (arith, ltb-false m n e)))

-- the line of a step in front of the others, and its words before theirs
lines_further : (k n m r v : ℕ) (s : State) (xs : List ℕ)
    → answer_line (suc k) (answer mainframe s (step_from xs))
    ++ rest_lines (suc k) (next mainframe s (step_from xs)) n m r (v + (answer mainframe s (step_from xs)).words) (drop file_record_width xs) ≡ rest_lines k s (suc n) (suc m) r v xs
unfolding rest_lines rest_answers answer_line answer_lines answers steps_in words_moved
lines_further k n m r v s xs =
    sym (append_assoc line (answer_lines (suc (suc k)) others) (rest_end (suc k) n m r (v + first.words + words_moved others)))
    ∙ ap (λ (e : List ℕ). line ++ answer_lines (suc (suc k)) others ++ e) (end_further k n m r (v + first.words + words_moved others))
    ∙ ap (λ (w : ℕ). line ++ answer_lines (suc (suc k)) others ++ rest_end k (suc n) (suc m) r w) (add_assoc v first.words (words_moved others))
    ∙ ap (λ (j : ℕ). answer_lines (suc k) (answers mainframe s (steps_in j xs)) ++ rest_end k (suc n) (suc m) r (v + words_moved (answers mainframe s (steps_in j xs)))) both
  where
    first : Answer
    first = answer mainframe s (step_from xs)

    line : List ℕ
    line = answer_line (suc k) first

    others : List Answer
    others = answers mainframe (next mainframe s (step_from xs)) (steps_in (min n m) (drop file_record_width xs))

    both : suc (min n m) ≡ min (suc n) (suc m)
    both = omega arith

rest_lines_lem : (n m k v : ℕ) (s : State) (l xs : List ℕ) (r : ℕ) → length xs ≡ file_record_width * n + r → r < file_record_width → k + m ≡ step_limit → Carried s
    → ended (bytes_taken (between (suc k) (holding s) l v) xs) ≡ l ++ rest_lines k s n m r v xs
unfolding ended between held_on rest_lines rest_answers answer_lines answers steps_in last_line_of rest_end words_moved
rest_lines_lem zero m k v s l xs r e b t c =
    ap (λ (g : Feed). ended g) (taken_held (between (suc k) (holding s) l v) xs refl (omega (arith, e, b)))
    ∙ ap (λ (x : List ℕ). l ++ x) (few_end k m v xs ∙ ap (λ (j : ℕ). rest_end k 0 m j v) few)
    ∙ ap (λ (w : ℕ). l ++ rest_end k 0 m r w) (sym (add-zero v))
    ∙ ap (λ (j : ℕ). l ++ (answer_lines (suc k) (answers mainframe s (steps_in j xs)) ++ rest_end k 0 m r (v + words_moved (answers mainframe s (steps_in j xs))))) none
  where
    few : length xs ≡ r
    few = omega (arith, e)

    none : 0 ≡ min 0 m
    none = omega arith
rest_lines_lem (suc n) zero k v s l xs r e b t c =
    ap (λ (g : Feed). ended g)
    (eight_first (between (suc k) (holding s) l v) xs refl refl (omega (arith, e))
    ∙ ap (λ (g : Feed). bytes_taken g (drop file_record_width xs)) (too_many_between k (holding s) l (take file_record_width xs) v (omega (arith, t)))
    ∙ taken_stopped stopped (drop file_record_width xs) refl)
    ∙ append-nil (l ++ refusal_line (suc k) 16)
    ∙ ap (λ (j : ℕ). l ++ refusal_line j 16) number
    ∙ ap (λ (d : Bool). l ++ cond d (refusal_line (k + 0 + 1) 16) (cond (eqb r 0) (words_line (v + 0)) (refusal_line (k + suc n + 1) 15))) (sym (lt-ltb 0 (suc n) (omega arith)))
    ∙ ap (λ (j : ℕ). l ++ (answer_lines (suc k) (answers mainframe s (steps_in j xs)) ++ rest_end k (suc n) 0 r (v + words_moved (answers mainframe s (steps_in j xs))))) none
  where
    stopped : Feed
    stopped = record { number = suc k; held = []; stopped = true; areas = holding s; lines = l ++ refusal_line (suc k) 16; words = v }

    number : suc k ≡ k + 0 + 1
    number = omega arith

    none : 0 ≡ min (suc n) 0
    none = omega arith
rest_lines_lem (suc n) (suc m) k v s l xs r e b t c =
    ap (λ (g : Feed). ended g)
    (eight_first (between (suc k) (holding s) l v) xs refl refl (omega (arith, e))
    ∙ ap (λ (g : Feed). bytes_taken g (drop file_record_width xs)) (step_between k s l xs v (omega (arith, t)) c))
    ∙ rest_lines_lem n m (suc k) (v + (answer mainframe s (step_from xs)).words) (next mainframe s (step_from xs)) (l ++ line) (drop file_record_width xs) r (omega (arith, e, length-drop file_record_width xs)) b (omega (arith, t)) (next_carried s (step_from xs) c)
    ∙ append_assoc l line (rest_lines (suc k) (next mainframe s (step_from xs)) n m r (v + (answer mainframe s (step_from xs)).words) (drop file_record_width xs))
    ∙ ap (λ (x : List ℕ). l ++ x) (lines_further k n m r v s xs)
  where
    line : List ℕ
    line = answer_line (suc k) (answer mainframe s (step_from xs))

-- ---- the opening

module _ (a₀ : Areas) (file : List ℕ) (sizes : right_sizes a₀ ≡ true) (long : file_record_width ≤ length file) where
  -- the refusal of its first eight bytes is the rules' refusal of the opening
  opening_asked : open_refusal (take file_record_width file) a₀ ≡ opening_refusal mainframe (opening_of (take file_record_width file))
  unfolding open_refusal
  opening_asked = rw (sizes, length-take-le file_record_width file long)

  -- what stands behind it
  opening_taken_lem : after a₀ file ≡ bytes_taken (opening_taken (begun a₀) (take file_record_width file)) (drop file_record_width file)
  unfolding after begun record_taken
  opening_taken_lem = eight_first (begun a₀) file refl refl long

  -- accepted: the opened state lies in the areas
  accepted_between : opening_refusal mainframe (opening_of (take file_record_width file)) ≡ 0
      → opening_taken (begun a₀) (take file_record_width file) ≡ between 1 (holding (opened_by file)) (refusal_line 0 0) 0
  unfolding opening_taken areas_opened begun between opened_by
  accepted_between e = rw (opening_asked ∙ e)

  -- refused: the run has stopped
  refused_stopped : opening_refusal mainframe (opening_of (take file_record_width file)) ≡ 2
      → opening_taken (begun a₀) (take file_record_width file) ≡ record { number = 1; held = []; stopped = true; areas = a₀; lines = refusal_line 0 2; words = 0 }
  unfolding opening_taken areas_opened begun
  refused_stopped e = rw (opening_asked ∙ e)

  counted : length (drop file_record_width file) ≡ file_record_width * step_count file + length file % file_record_width
  unfolding step_count
  counted = omega (arith, length-drop file_record_width file, long)

  -- the lines of the whole file
  lines_accepted : opening_refusal mainframe (opening_of (take file_record_width file)) ≡ 0 → ended (after a₀ file) ≡ refusal_line 0 0 ++ step_lines file
  unfolding step_lines step_answers rest_lines rest_answers rest_end end_line opened_by
  lines_accepted e =
      ap (λ (g : Feed). ended g) (opening_taken_lem ∙ ap (λ (g : Feed). bytes_taken g (drop file_record_width file)) (accepted_between e))
      ∙ rest_lines_lem (step_count file) step_limit 0 0 (opened_by file) (refusal_line 0 0) (drop file_record_width file) (length file % file_record_width) counted (omega arith) (omega arith)
      (opened_carried (opening_of (take file_record_width file)) e)
      ∙ ap (λ (j : ℕ). lines j (0 + step_count file + 1) (0 + words_moved answered)) (from_zero step_limit)
      ∙ ap (λ (j : ℕ). lines (step_limit + 1) j (0 + words_moved answered)) (from_zero (step_count file))
      ∙ ap (λ (j : ℕ). lines (step_limit + 1) (step_count file + 1) j) (zero-add (words_moved answered))
    where
      from_zero : (j : ℕ) → 0 + j + 1 ≡ j + 1
      from_zero j = omega arith

      answered : List Answer
      answered = answers mainframe (opened_by file) (steps_in (min (step_count file) step_limit) (drop file_record_width file))

      lines : ℕ → ℕ → ℕ → List ℕ
      lines i j v =
          refusal_line 0 0
          ++ (answer_lines 1 answered
          ++ cond (ltb step_limit (step_count file)) (refusal_line i 16) (cond (eqb (length file % file_record_width) 0) (words_line v) (refusal_line j 15)))

  lines_refused : opening_refusal mainframe (opening_of (take file_record_width file)) ≡ 2 → ended (after a₀ file) ≡ refusal_line 0 2
  unfolding ended last_line_of
  lines_refused e =
      ap (λ (g : Feed). ended g)
      (opening_taken_lem ∙ ap (λ (g : Feed). bytes_taken g (drop file_record_width file)) (refused_stopped e) ∙ taken_stopped stopped (drop file_record_width file) refl)
      ∙ append-nil (refusal_line 0 2)
    where
      stopped : Feed
      stopped = record { number = 1; held = []; stopped = true; areas = a₀; lines = refusal_line 0 2; words = 0 }

-- the rules refuse an opening with 2 only
refused_two : (file : List ℕ) → eqb (opening_refusal mainframe (opening_of file)) 0 ≡ false → opening_refusal mainframe (opening_of file) ≡ 2
unfolding opening_refusal
refused_two file = go (eqb (opening_of file).first 0 && counts_in_range mainframe (opening_of file).counts && eqb (opening_of file).rest 0)
  where
    go : (b : Bool) → eqb (cond b 0 2) 0 ≡ false → ◌≡◌ {A = ℕ} (cond b 0 2) 2
    go true e = absurd (eqb-false 0 0 e refl)
    go false e = refl

-- ---- the whole file

-- a file that ends before or within its opening
short_lines : (a₀ : Areas) (file : List ℕ) → length file < file_record_width → ended (after a₀ file) ≡ refusal_line 0 15
unfolding after begun ended held_on last_line_of
short_lines a₀ file h = ap (λ (g : Feed). ended g) (taken_held (begun a₀) file refl (omega (arith, h))) ∙ last file
  where
    last : (xs : List ℕ) → last_line_of 0 xs false 0 ≡ refusal_line 0 15
    last [] = refl
    last (x ∷ xs) = refl

lines_of_whole : (a₀ : Areas) (file : List ℕ) → right_sizes a₀ ≡ true → file_lines file ≡ ended (after a₀ file)
unfolding file_lines
lines_of_whole a₀ file sizes = go (ltb (length file) file_record_width) (eqb (opening_refusal mainframe (opening_of (take file_record_width file))) 0) refl refl
  where
    go : (b d : Bool) → ltb (length file) file_record_width ≡ b → eqb (opening_refusal mainframe (opening_of (take file_record_width file))) 0 ≡ d
        → cond b (refusal_line 0 15) (cond d (refusal_line 0 0 ++ step_lines file) (refusal_line 0 2)) ≡ ended (after a₀ file)
    go true d e h = sym (short_lines a₀ file (ltb-true (length file) file_record_width e))
    go false true e h =
        sym (lines_accepted a₀ file sizes (ltb-false (length file) file_record_width e) (eqb-true (opening_refusal mainframe (opening_of (take file_record_width file))) 0 h))
    go false false e h = sym (lines_refused a₀ file sizes (ltb-false (length file) file_record_width e) (refused_two (take file_record_width file) h))

-- the lines printed while a file is fed, and the one at its end, are the lines of the whole file
pub whole_lines : (a₀ a : Areas) (file : List ℕ) (p : Progress) → right_sizes a₀ ≡ true → Reached a₀ file p a → file_lines file ≡ (after a₀ file).lines ++ finish_line p
whole_lines a₀ a file p sizes h =
    lines_of_whole a₀ file sizes ∙ sym (ended_finish (after a₀ file))
    ∙ ap (λ (q : Progress). (after a₀ file).lines ++ finish_line q) (sym h.progress)
