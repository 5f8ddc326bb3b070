-- What is promised of the format of diffs, for pages of any length w and words of 32 bits. Start reading here. Assumes nothing.
use Prim.Native.Nat.{ℕ, zero, suc, ◌+◌, ◌*◌, ◌≤◌, ◌<◌}
use native.Mathlib.Omega.{arith}
use mathlib.Core.Path.{◌≡◌, refl, sym, ap, ap₂, ◌∙◌}
use mathlib.Core.Bool.{Bool, true, false, cond}
use mathlib.Core.Logic.{◌↔◌}
use mathlib.Core.Option
use mathlib.Core.Option.{Option, none, some}
use mathlib.Core.List.{List, [], ◌∷◌, ◌++◌, map}
use lib.ListN.{length, get_or, replicate, length-map}
use lib.Seq.{ext_get_or}
use lib.Dec.{eqb, lit<, eqb-suc-zero, eqb-zero-suc}
use borrow.Author.Tests.{eq-eqb, eqb-true}
use Rattle.limits.specs.Limits.{page_width, word_values}
use Rattle.limits.specs.inner.Sizes.{diff_limit, run_limit}
use Rattle.diff.specs.Format.{Below, Run, setting, difference, runs, runs_from, ended, set_words, pair_bytes, words_bytes, bytes_of, written}
use Rattle.diff.specs.Reading.{read_refusal, runs_in, words_place, words_at, word_count, words_set, settings, overlay, applied}
use Rattle.diff.specs.inner.Settings.{setting_at}
use Rattle.diff.proofs.Runs.{runs_gap, words_gap, length_settings, words_of_settings, orderly_bound, orderly_count, pairs_are_bytes}
use Rattle.diff.proofs.Words.{length_words, words_fit, below_cons, below_append, words_are_bytes}
use Rattle.diff.proofs.Legal.{Legal, legal_when_read, read_when_legal, legal_when_written, write_after_read, read_after_write, length_bytes, runs_in_order, words_of_runs}
use Rattle.diff.proofs.Overlay.{overlay_word}

-- ---- the difference of two pages

pub length_difference : (old new : List ℕ) → length old ≡ length new → length (difference old new) ≡ length old
unfolding difference
length_difference [] new e = refl
length_difference (x ∷ old) [] e = absurd (omega (arith, e))
length_difference (x ∷ old) (y ∷ new) e = ap suc (length_difference old new (omega (arith, e)))

pub difference_word : (old new : List ℕ) (i : ℕ) → i < length old → i < length new → get_or (difference old new) i none ≡ setting (get_or old i 0) (get_or new i 0)
unfolding difference
difference_word [] new i h k = absurd (omega arith)
difference_word (x ∷ old) [] i h k = absurd (omega arith)
difference_word (x ∷ old) (y ∷ new) zero h k = refl
difference_word (x ∷ old) (y ∷ new) (suc i) h k = difference_word old new i (omega arith) (omega arith)

-- the words that a difference sets are words of the new page
difference_fits : (old new : List ℕ) → Below word_values new → Below word_values (set_words (difference old new))
unfolding difference set_words setting
difference_fits [] new b = record { at = λ i. lit< tt }
difference_fits (x ∷ old) [] b = record { at = λ i. lit< tt }
difference_fits (x ∷ old) (y ∷ new) b = go (eqb x y) (difference_fits old new (record { at = λ i. b.at (suc i) }))
  where
    go : (same : Bool) → Below word_values (set_words (difference old new)) → Below word_values (set_words (cond same none (some y) ∷ difference old new))
    go true h = h
    go false h = below_cons word_values y (set_words (difference old new)) (b.at 0) h

overlay_difference : (old new : List ℕ) → length old ≡ length new → overlay (difference old new) old ≡ new
unfolding difference overlay setting
overlay_difference [] [] e = refl
overlay_difference [] (y ∷ new) e = absurd (omega (arith, e))
overlay_difference (x ∷ old) [] e = absurd (omega (arith, e))
overlay_difference (x ∷ old) (y ∷ new) e = go (eqb x y) refl (overlay_difference old new (omega (arith, e)))
  where
    go : (same : Bool) → eqb x y ≡ same → overlay (difference old new) old ≡ new → overlay (cond same none (some y) ∷ difference old new) (x ∷ old) ≡ y ∷ new
    go true t h = ap₂ ◌∷◌ (eqb-true x y t) h
    go false t h = ap (λ (l : List ℕ). y ∷ l) h

-- ---- 1. applying what is written from two pages turns the first into the second

pub applying_what_is_written : (w : ℕ) (old new : List ℕ) → length old ≡ w → length new ≡ w → Below word_values new → applied w (written old new) old ≡ new
unfolding applied written
applying_what_is_written w old new h k b =
    ap (λ (d : List (Option ℕ)). overlay d old) (read_after_write w (difference old new) (length_difference old new (h ∙ sym k) ∙ h) (difference_fits old new b))
    ∙ overlay_difference old new (h ∙ sym k)

-- ---- 2. exactly the written form is read

-- two pages of w words from which a byte string is written
pub record WrittenFromPages (w : ℕ) (bytes : List ℕ) : Type 0 where
  pub old : List ℕ
  pub new : List ℕ
  pub old_whole : length old ≡ w
  pub new_whole : length new ≡ w
  pub old_words : Below word_values old
  pub new_words : Below word_values new
  pub is : written old new ≡ bytes

pub written_is_read : (w : ℕ) (bytes : List ℕ) → WrittenFromPages w bytes → read_refusal w bytes ≡ 0
unfolding written
written_is_read w bytes p =
    ap (read_refusal w) (sym p.is)
    ∙ read_when_legal w (written p.old p.new)
    (legal_when_written w (difference p.old p.new) (length_difference p.old p.new (p.old_whole ∙ sym p.new_whole) ∙ p.old_whole))

-- two words of which the first is changed to the second by a setting
before : Option ℕ → ℕ
before none = 0
before (some v) = cond (eqb v 0) 1 0

after : Option ℕ → ℕ
after none = 0
after (some v) = v

setting_between : (s : Option ℕ) → setting (before s) (after s) ≡ s
unfolding setting before after
setting_between none = refl
setting_between (some zero) = refl
setting_between (some (suc v)) = rw (eqb-suc-zero v, eqb-zero-suc v)

difference_between : (d : List (Option ℕ)) → difference (map before d) (map after d) ≡ d
unfolding difference
difference_between [] = refl
difference_between (s ∷ d) = ap₂ ◌∷◌ (setting_between s) (difference_between d)

before_fits : (d : List (Option ℕ)) → Below word_values (map before d)
unfolding before
before_fits [] = record { at = λ i. lit< tt }
before_fits (none ∷ d) = below_cons word_values 0 (map before d) (lit< tt) (before_fits d)
before_fits (some v ∷ d) = below_cons word_values (cond (eqb v 0) 1 0) (map before d) (go (eqb v 0)) (before_fits d)
  where
    go : (t : Bool) → cond t 1 0 < word_values
    go true = lit< tt
    go false = lit< tt

after_fits : (d : List (Option ℕ)) → Below word_values (set_words d) → Below word_values (map after d)
unfolding after set_words
after_fits [] b = record { at = λ i. lit< tt }
after_fits (none ∷ d) b = below_cons word_values 0 (map after d) (lit< tt) (after_fits d b)
after_fits (some v ∷ d) b = below_cons word_values v (map after d) (b.at 0) (after_fits d (record { at = λ i. b.at (suc i) }))

pub settings_whole : (w : ℕ) (bytes : List ℕ) → Legal w bytes → length (settings w bytes) ≡ w
unfolding settings
settings_whole w bytes p =
    omega (
      arith,
      length_settings w 0 (runs_in bytes) (words_at bytes (words_place bytes) (word_count (runs_in bytes))) (omega arith) p.in_order
          (length_words bytes (words_place bytes) (word_count (runs_in bytes))),
    )

settings_fit : (w : ℕ) (bytes : List ℕ) → Below 256 bytes → Below word_values (set_words (settings w bytes))
unfolding settings
settings_fit w bytes b =
    rw (words_of_settings w 0 (runs_in bytes) (words_at bytes (words_place bytes) (word_count (runs_in bytes))) (length_words bytes (words_place bytes) (word_count (runs_in bytes))))
    (words_fit bytes (words_place bytes) (word_count (runs_in bytes)) b)

pub read_is_written : (w : ℕ) (bytes : List ℕ) → Below 256 bytes → read_refusal w bytes ≡ 0 → WrittenFromPages w bytes
unfolding written
read_is_written w bytes b r =
    let p = legal_when_read w bytes r in
    let d : List (Option ℕ) = settings w bytes in
    record {
      old = map before d;
      new = map after d;
      old_whole = length-map d before ∙ settings_whole w bytes p;
      new_whole = length-map d after ∙ settings_whole w bytes p;
      old_words = before_fits d;
      new_words = after_fits d (settings_fit w bytes b);
      is = ap bytes_of (difference_between d) ∙ write_after_read w bytes p b;
    }

-- a byte string is read if and only if it is what the writer writes for some two pages
pub exactly_the_written_form : (w : ℕ) (bytes : List ℕ) → Below 256 bytes → read_refusal w bytes ≡ 0 ↔ WrittenFromPages w bytes
exactly_the_written_form w bytes b = (read_is_written w bytes b, written_is_read w bytes)

-- ---- 3. one form

-- two diffs that set the same words to the same values are the same bytes
pub one_form : (w : ℕ) (bytes other : List ℕ) → Below 256 bytes → Below 256 other → read_refusal w bytes ≡ 0 → read_refusal w other ≡ 0
    → ((i : ℕ) → i < w → setting_at w bytes i ≡ setting_at w other i) → bytes ≡ other
unfolding setting_at
one_form w bytes other b c r s same =
    let p = legal_when_read w bytes r in
    let q = legal_when_read w other s in
    let alike : settings w bytes ≡ settings w other =
    ext_get_or none (settings w bytes) (settings w other) (settings_whole w bytes p ∙ sym (settings_whole w other q))
    (λ i h. same i (omega (arith, h, settings_whole w bytes p))) in
    sym (write_after_read w bytes p b) ∙ ap bytes_of alike ∙ write_after_read w other q c

-- the writer's runs hold exactly the differing words, with their new values
pub exactly_the_differing_words : (w : ℕ) (old new : List ℕ) → length old ≡ w → length new ≡ w → Below word_values new → (i : ℕ) → i < w
    → setting_at w (written old new) i ≡ setting (get_or old i 0) (get_or new i 0)
unfolding setting_at written
exactly_the_differing_words w old new h k b i l =
    ap (λ (d : List (Option ℕ)). get_or d i none) (read_after_write w (difference old new) (length_difference old new (h ∙ sym k) ∙ h) (difference_fits old new b))
    ∙ difference_word old new i (omega arith) (omega arith)

-- ---- 4. how long a diff can be

pub at_most_half_as_many_runs : (w : ℕ) (old new : List ℕ) → length old ≡ w → length new ≡ w → 2 * length (runs (difference old new)) ≤ w + 1
at_most_half_as_many_runs w old new h k =
    let ord = runs_in_order w (difference old new) (length_difference old new (h ∙ sym k) ∙ h) in
    omega (arith, orderly_bound w 0 (runs (difference old new)) (omega arith) ord, orderly_count w 0 (runs (difference old new)) ord)

longest : (w n m : ℕ) (rs : List Run) → n ≡ 1 + 2 * length rs + 4 * m → word_count rs ≡ m → 0 + word_count rs + length rs ≤ w + 1 → n ≤ 4 * w + 3
unfolding word_count
longest w n m [] a b c = omega arith
longest w n m (r ∷ rs) a b c = omega (arith, c)

pub at_most_bytes : (w : ℕ) (old new : List ℕ) → length old ≡ w → length new ≡ w → length (written old new) ≤ 4 * w + 3
unfolding written
at_most_bytes w old new h k =
    let d : List (Option ℕ) = difference old new in
    let ord = runs_in_order w d (length_difference old new (h ∙ sym k) ∙ h) in
    longest w (length (bytes_of d)) (length (set_words d)) (runs d) (length_bytes d) (words_of_runs d) (orderly_bound w 0 (runs d) (omega arith) ord)

-- equal pages give the single byte 0
difference_same : (page : List ℕ) → difference page page ≡ replicate (length page) none ++ []
unfolding difference setting
difference_same [] = refl
difference_same (x ∷ page) = rw (eq-eqb x x refl) (ap (λ (d : List (Option ℕ)). none ∷ d) (difference_same page))

pub equal_pages : (page : List ℕ) → written page page ≡ 0 ∷ []
unfolding written bytes_of runs runs_from ended set_words pair_bytes words_bytes
equal_pages page = rw (difference_same page, runs_gap (length page) 0 [], words_gap (length page) [])

-- what is written are bytes, on pages of up to 255 words
pub written_are_bytes : (w : ℕ) (old new : List ℕ) → w < 256 → length old ≡ w → length new ≡ w → Below 256 (written old new)
unfolding written bytes_of
written_are_bytes w old new l h k =
    let d : List (Option ℕ) = difference old new in
    let ord = runs_in_order w d (length_difference old new (h ∙ sym k) ∙ h) in
    below_cons 256 (length (runs d)) (pair_bytes (runs d) ++ words_bytes (set_words d)) (omega (arith, at_most_half_as_many_runs w old new h k))
    (below_append 256 (pair_bytes (runs d)) (words_bytes (set_words d)) (pairs_are_bytes w 0 (runs d) l ord) (words_are_bytes (set_words d)))

-- ---- the numbers of document 01: pages of 32 words

pub at_most_16_runs : (old new : List ℕ) → length old ≡ page_width → length new ≡ page_width → length (runs (difference old new)) ≤ run_limit
at_most_16_runs old new h k = omega (arith, at_most_half_as_many_runs page_width old new h k)

pub at_most_131_bytes : (old new : List ℕ) → length old ≡ page_width → length new ≡ page_width → length (written old new) ≤ diff_limit
at_most_131_bytes old new h k = omega (arith, at_most_bytes page_width old new h k)

-- ---- 5. what applying does to one word: the value set there, or the word as it was

pub applied_word : (w : ℕ) (bytes page : List ℕ) (i : ℕ) → i < length page
    → get_or (applied w bytes page) i 0 ≡ Option.get_or (setting_at w bytes i) (get_or page i 0)
unfolding applied setting_at
applied_word w bytes page i h = overlay_word (settings w bytes) page i h

-- ---- 6. L6: how many words a diff sets, as many as words of the page have a setting

pub words_with_a_setting : (w : ℕ) (bytes : List ℕ) → words_set bytes ≡ length (set_words (settings w bytes))
unfolding settings words_set
words_with_a_setting w bytes =
    let many = length_words bytes (words_place bytes) (word_count (runs_in bytes)) in
    sym (ap length (words_of_settings w 0 (runs_in bytes) (words_at bytes (words_place bytes) (word_count (runs_in bytes))) many) ∙ many)
