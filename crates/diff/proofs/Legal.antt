-- Which byte strings are read: what a refusal of 0 means, and that writing and reading a diff undo one another. Assumes nothing.
use Prim.Native.Nat.{ℕ, suc, ◌+◌, ◌*◌, ◌≤◌}
use native.Mathlib.Nat.{zero-add}
use native.Mathlib.Numerals.{one-add}
use native.Mathlib.Omega.{arith}
use mathlib.Core.Path.{◌≡◌, refl, sym, ap, ◌∙◌}
use mathlib.Core.Bool.{Bool, true, false, cond, not}
use mathlib.Core.Option.{Option}
use mathlib.Core.List.{List, [], ◌∷◌, ◌++◌, append-nil}
use lib.ListN.{length, take, drop, length-append, length-drop, take-append-drop}
use lib.Seq.{take_all, drop_at}
use lib.Dec.{ltb, eqb}
use borrow.Author.Tests.{ltb-false, eqb-true, eqb-false, not-false, ne_eqb, le-ltb, eq-eqb}
use Rattle.limits.specs.Limits.{word_values}
use Rattle.diff.specs.Format.{Below, runs, set_words, pair_bytes, words_bytes, bytes_of}
use Rattle.diff.specs.Reading.{run_count, most_runs, runs_in, words_place, words_at, word_count, words_set, orderly, pairs_refusal, read_refusal, settings}
use Rattle.diff.proofs.Runs.{runs_of_settings, words_of_settings, settings_of_runs, runs_orderly, words_counted, orderly_bound, orderly_count, orderly_words}
use Rattle.diff.proofs.Words.{length_words, length_word_bytes, words_read, words_written, length_runs_at, length_pair_bytes, pairs_read, pairs_written}

-- what a refusal of 0 says of a byte string
pub record Legal (w : ℕ) (bytes : List ℕ) : Type 0 where
  pub not_empty : 1 ≤ length bytes
  pub few_runs : run_count bytes ≤ most_runs w
  pub pairs_whole : words_place bytes ≤ length bytes
  pub in_order : orderly w 0 (runs_in bytes) ≡ true
  pub exact : length bytes ≡ words_place bytes + 4 * word_count (runs_in bytes)

-- a refusal that is not given: its test is false
passed : (t : Bool) (n m : ℕ) → cond t (suc n) m ≡ 0 → t ≡ false
passed true n m e = absurd (omega (arith, e))
passed false n m e = refl

onward : (t : Bool) (n m : ℕ) → cond t (suc n) m ≡ 0 → m ≡ 0
onward true n m e = absurd (omega (arith, e))
onward false n m e = e

pub legal_when_read : (w : ℕ) (bytes : List ℕ) → read_refusal w bytes ≡ 0 → Legal w bytes
unfolding read_refusal pairs_refusal
legal_when_read w bytes e₁ =
    let t₁ : Bool = eqb (length bytes) 0 in
    let t₂ : Bool = ltb (most_runs w) (run_count bytes) in
    let t₃ : Bool = ltb (length bytes) (words_place bytes) in
    let t₄ : Bool = not (orderly w 0 (runs_in bytes)) in
    let t₅ : Bool = not (eqb (length bytes) (words_place bytes + 4 * word_count (runs_in bytes))) in
    let m₅ : ℕ = cond t₅ 11 0 in
    let m₄ : ℕ = cond t₄ 12 m₅ in
    let m₃ : ℕ = cond t₃ 11 m₄ in
    let m₂ : ℕ = cond t₂ 11 m₃ in
    let e₂ : m₂ ≡ 0 = onward t₁ 10 m₂ e₁ in
    let e₃ : m₃ ≡ 0 = onward t₂ 10 m₃ e₂ in
    let e₄ : m₄ ≡ 0 = onward t₃ 10 m₄ e₃ in
    let e₅ : m₅ ≡ 0 = onward t₄ 11 m₅ e₄ in
    let some_bytes : length bytes ≡ 0 → ⊥ = eqb-false _ _ (passed t₁ 10 m₂ e₁) in
    record {
      not_empty = omega (arith, some_bytes);
      few_runs = ltb-false _ _ (passed t₂ 10 m₃ e₂);
      pairs_whole = ltb-false _ _ (passed t₃ 10 m₄ e₃);
      in_order = not-false _ (passed t₄ 11 m₅ e₄);
      exact = eqb-true _ _ (not-false _ (passed t₅ 10 0 e₅));
    }

pub read_when_legal : (w : ℕ) (bytes : List ℕ) → Legal w bytes → read_refusal w bytes ≡ 0
unfolding read_refusal pairs_refusal
read_when_legal w bytes p =
    rw (
      ne_eqb (length bytes) 0 (λ e. omega (arith, e, p.not_empty)),
      le-ltb (most_runs w) (run_count bytes) p.few_runs,
      le-ltb (length bytes) (words_place bytes) p.pairs_whole,
      p.in_order,
      eq-eqb _ _ p.exact,
    )

-- L6: the words that a legal byte string sets end it, four bytes each
pub words_end_bytes : (w : ℕ) (bytes : List ℕ) → read_refusal w bytes ≡ 0 → length bytes ≡ 1 + 2 * run_count bytes + 4 * words_set bytes
unfolding words_set words_place
words_end_bytes w bytes e = (legal_when_read w bytes e).exact

-- and they are at most those of the page
pub few_words_set : (w : ℕ) (bytes : List ℕ) → read_refusal w bytes ≡ 0 → words_set bytes ≤ w
unfolding words_set
few_words_set w bytes e = orderly_words w (runs_in bytes) (legal_when_read w bytes e).in_order

-- the words of a legal byte string, as many as its runs have
abbrev words_in : List ℕ → List ℕ
words_in bytes = words_at bytes (words_place bytes) (word_count (runs_in bytes))

-- the count, the pairs and the words are all of a byte string
whole : (bytes : List ℕ) (k : ℕ) → 1 ≤ length bytes → length bytes ≡ words_place bytes + 4 * k
    → length (runs_in bytes) ∷ pair_bytes (runs_in bytes) ++ take (4 * k) (drop (words_place bytes) bytes) ≡ bytes
unfolding runs_in run_count words_place
whole [] k h e = absurd (omega arith)
whole (n ∷ l) k h e =
    let behind : drop (1 + 2 * n) (n ∷ l) ≡ drop (2 * n) l = ap (λ (m : ℕ). drop m (n ∷ l)) (one-add (2 * n)) in
    rw (length_runs_at (n ∷ l) 1 n, pairs_written (n ∷ l) 1 n (omega arith), behind, take_all (4 * k) (drop (2 * n) l) (simp length-drop (omega (arith, e))))
    (ap (λ (t : List ℕ). n ∷ t) (take-append-drop (2 * n) l))

-- writing what a legal byte string sets gives the byte string
pub write_after_read : (w : ℕ) (bytes : List ℕ) → Legal w bytes → Below 256 bytes → bytes_of (settings w bytes) ≡ bytes
unfolding bytes_of settings runs
write_after_read w bytes p b =
    let many = length_words bytes (words_place bytes) (word_count (runs_in bytes)) in
    rw (
      runs_of_settings w 0 (runs_in bytes) (words_in bytes) (omega arith) p.in_order many,
      words_of_settings w 0 (runs_in bytes) (words_in bytes) many,
      words_written bytes (words_place bytes) (word_count (runs_in bytes)) b (omega (arith, p.exact)),
    )
    (whole bytes (word_count (runs_in bytes)) p.not_empty p.exact)

pub length_bytes : (d : List (Option ℕ)) → length (bytes_of d) ≡ 1 + 2 * length (runs d) + 4 * length (set_words d)
unfolding bytes_of
length_bytes d = simp (length-append, length_pair_bytes, length_word_bytes) (omega arith)

-- the pairs and the words of a diff are read off its bytes
pub runs_in_bytes : (d : List (Option ℕ)) → runs_in (bytes_of d) ≡ runs d
unfolding runs_in run_count bytes_of
runs_in_bytes d = pairs_read (bytes_of d) 1 (runs d) (words_bytes (set_words d)) refl

-- the words stand behind the pairs
words_behind_lem : (d : List (Option ℕ)) → drop (words_place (bytes_of d)) (bytes_of d) ≡ words_bytes (set_words d) ++ []
unfolding words_place run_count bytes_of
words_behind_lem d =
    drop_at (length (runs d) ∷ pair_bytes (runs d)) (words_bytes (set_words d)) (1 + 2 * length (runs d)) (ap suc (length_pair_bytes (runs d)) ∙ omega arith)
    ∙ sym (append-nil (words_bytes (set_words d)))

pub words_of_runs : (d : List (Option ℕ)) → word_count (runs d) ≡ length (set_words d)
unfolding runs
words_of_runs d = words_counted 0 0 d ∙ zero-add (length (set_words d))

words_in_bytes : (d : List (Option ℕ)) → Below word_values (set_words d) → words_in (bytes_of d) ≡ set_words d
words_in_bytes d b =
    ap (λ (n : ℕ). words_at (bytes_of d) (words_place (bytes_of d)) n) (ap word_count (runs_in_bytes d) ∙ words_of_runs d)
    ∙ words_read (bytes_of d) (words_place (bytes_of d)) (set_words d) [] b (words_behind_lem d)

-- reading the bytes of a diff gives the diff
pub read_after_write : (w : ℕ) (d : List (Option ℕ)) → length d ≡ w → Below word_values (set_words d) → settings w (bytes_of d) ≡ d
unfolding settings
read_after_write w d h b = rw (words_in_bytes d b, runs_in_bytes d) (settings_of_runs w d h)

-- a page has room for no more runs than a reader takes
few : (w n m : ℕ) → 0 + m + n ≤ w + 1 → n ≤ m → n ≤ most_runs w
unfolding most_runs
few w n m h k = omega arith

pub runs_in_order : (w : ℕ) (d : List (Option ℕ)) → length d ≡ w → orderly w 0 (runs d) ≡ true
unfolding runs
runs_in_order w d h = runs_orderly w 0 0 0 d (omega arith) (omega arith)

pub count_of_bytes : (d : List (Option ℕ)) → run_count (bytes_of d) ≡ length (runs d)
unfolding run_count bytes_of
count_of_bytes d = refl

pub place_of_bytes : (d : List (Option ℕ)) → words_place (bytes_of d) ≡ 1 + 2 * length (runs d)
unfolding words_place
place_of_bytes d = ap (λ (n : ℕ). 1 + 2 * n) (count_of_bytes d)

-- the bytes of a diff are read
pub legal_when_written : (w : ℕ) (d : List (Option ℕ)) → length d ≡ w → Legal w (bytes_of d)
legal_when_written w d h =
    let ord = runs_in_order w d h in
    let place = place_of_bytes d in
    let same : word_count (runs_in (bytes_of d)) ≡ length (set_words d) = ap word_count (runs_in_bytes d) ∙ words_of_runs d in
    record {
      not_empty = omega (arith, length_bytes d);
      few_runs = rw count_of_bytes (few w (length (runs d)) (word_count (runs d)) (orderly_bound w 0 (runs d) (omega arith) ord) (orderly_count w 0 (runs d) ord));
      pairs_whole = omega (arith, place, length_bytes d);
      in_order = rw runs_in_bytes ord;
      exact = omega (arith, place, same, length_bytes d);
    }
