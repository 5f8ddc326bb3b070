-- How long the diff of two pages is, counted word by word: a run starts where a word is set and the one before is not. Assumes nothing.
use Prim.Native.Nat.{ℕ, ◌+◌, ◌-◌, ◌*◌, ◌≤◌, ◌<◌, min}
use native.Mathlib.Omega.{arith}
use mathlib.Core.Path.{◌≡◌, refl, ap, ◌∙◌}
use mathlib.Core.Bool.{Bool, true, false, cond, not}
use mathlib.Core.Option.{Option, none, some}
use mathlib.Core.List.{List, [], ◌∷◌}
use lib.ListN.{length, get_or, drop, length-append}
use lib.Dec.{eqb, ltb}
use mir.Val.{bool_byte}
use borrow.Author.Tests.{ltb-true, ltb-false}
use Rattle.limits.specs.Limits.{page_width}
use Rattle.limits.specs.inner.Sizes.{run_limit}
use Rattle.diff.specs.Format.{setting, difference, ended, runs_from, runs, set_words}
use Rattle.diff_writer.specs.inner.Needed.{PagesWhole}
use Rattle.diff_writer.proofs.Writing.{length_ended, next_word, no_word, words_to_set, all_words_left, page_end_has_none}

-- ---- where runs start

-- how many runs start in the settings d, where before is 1 if the word before them is set, else 0
unfoldable pub starts_in : ℕ → List (Option ℕ) → ℕ
starts_in before [] = 0
starts_in before (none ∷ d) = starts_in 0 d
starts_in before (some v ∷ d) = 1 - before + starts_in 1 d

-- as many runs as start, and the open run
runs_start : (o k : ℕ) (d : List (Option ℕ)) → length (runs_from o k d) ≡ min k 1 + starts_in (min k 1) d
unfolding runs_from starts_in
runs_start o k [] = omega (arith, length_ended o k)
runs_start o k (none ∷ d) =
    let rest : length (runs_from (o + k + 1) 0 d) ≡ starts_in 0 d = runs_start (o + k + 1) 0 d ∙ omega arith in
    omega (arith, length_ended o k, length-append (ended o k) (runs_from (o + k + 1) 0 d), rest)
runs_start o k (some v ∷ d) =
    let one : min (k + 1) 1 ≡ 1 = omega arith in
    let rest : length (runs_from o (k + 1) d) ≡ 1 + starts_in 1 d = runs_start o (k + 1) d ∙ rw one in
    omega (arith, rest)

-- the runs that start at the word i or later; before is 1 if the word before i is set, else 0
unfoldable pub starts_left : List ℕ → List ℕ → ℕ → ℕ → ℕ
starts_left old new before i = starts_in before (drop i (difference old new))

pub all_runs_start : (old new : List ℕ) → length (runs (difference old new)) ≡ starts_left old new 0 0
unfolding runs starts_left
all_runs_start old new = runs_start 0 0 (difference old new) ∙ omega arith

module _ (old new : List ℕ) (i : ℕ) (whole : PagesWhole old new) where
  module _ (this : ℕ) (more : i < page_width) (is : this ≡ cond (eqb (get_or old i 0) (get_or new i 0)) 0 1) where
    pub word_starts : (before : ℕ) → starts_left old new before i ≡ this - before + starts_left old new this (i + 1)
    unfolding starts_left starts_in setting
    word_starts before = go (eqb (get_or old i 0) (get_or new i 0)) refl
      where
        left : List (Option ℕ)
        left = drop (i + 1) (difference old new)

        go : (b : Bool) → eqb (get_or old i 0) (get_or new i 0) ≡ b → starts_in before (drop i (difference old new)) ≡ this - before + starts_in this left
        go true e =
            let none_set : this ≡ 0 = is ∙ rw e in
            let here : drop i (difference old new) ≡ none ∷ left = next_word old new whole i more ∙ rw e in
            rw (here, none_set) (omega arith)
        go false e =
            let one_set : this ≡ 1 = is ∙ rw e in
            let here : drop i (difference old new) ≡ some (get_or new i 0) ∷ left = next_word old new whole i more ∙ rw e in
            rw (here, one_set) (omega arith)

    pub word_counts : length (words_to_set old new i) ≡ this + length (words_to_set old new (i + 1))
    unfolding words_to_set set_words setting
    word_counts = go (eqb (get_or old i 0) (get_or new i 0)) refl
      where
        left : List (Option ℕ)
        left = drop (i + 1) (difference old new)

        go : (b : Bool) → eqb (get_or old i 0) (get_or new i 0) ≡ b → length (set_words (drop i (difference old new))) ≡ this + length (set_words left)
        go true e =
            let none_set : this ≡ 0 = is ∙ rw e in
            let here : drop i (difference old new) ≡ none ∷ left = next_word old new whole i more ∙ rw e in
            rw (here, none_set) (omega arith)
        go false e =
            let one_set : this ≡ 1 = is ∙ rw e in
            let here : drop i (difference old new) ≡ some (get_or new i 0) ∷ left = next_word old new whole i more ∙ rw e in
            rw (here, one_set) (omega arith)

  pub page_end_starts_none : (before : ℕ) → page_width ≤ i → starts_left old new before i ≡ 0
  unfolding starts_left starts_in
  page_end_starts_none before h = ap (λ (d : List (Option ℕ)). starts_in before d) (no_word old new whole i h)

-- ---- how long the diff is

-- 1 where two words differ, else 0
pub flag_unlike : (old new u : ℕ) → u ≡ bool_byte (not (eqb old new)) → u ≡ cond (eqb old new) 0 1
flag_unlike old new u e = e ∙ go (eqb old new)
  where
    go : (b : Bool) → bool_byte (not b) ≡ cond b 0 1
    go true = refl
    go false = refl

pub at_most_1 : (b : Bool) (u : ℕ) → u ≡ bool_byte b → u ≤ 1
at_most_1 true u e = omega arith
at_most_1 false u e = omega arith

-- a run starts at a word that is set where the one before is not
flag_starts : (before this r : ℕ) → this ≤ 1 → r ≡ bool_byte (ltb before this) → r ≡ this - before
flag_starts before this r h e = e ∙ go (ltb before this) refl
  where
    go : (b : Bool) → ltb before this ≡ b → bool_byte b ≡ this - before
    go true t = omega (arith, ltb-true before this t)
    go false t = omega (arith, ltb-false before this t)

-- after the first i words of the page, the last of which is set if before is 1: what is counted and what is left are all
pub record Measuring (old new : List ℕ) (count words before i : ℕ) : Type 0 where
  pub whole : PagesWhole old new
  pub upto : i ≤ page_width
  pub one : before ≤ 1
  pub few_runs : 2 * count ≤ i + before
  pub few_words : words ≤ i
  pub all_runs : length (runs (difference old new)) ≡ count + starts_left old new before i
  pub all_words : length (set_words (difference old new)) ≡ words + length (words_to_set old new i)

pub measuring_begins : (old new : List ℕ) → PagesWhole old new → Measuring old new 0 0 0 0
measuring_begins old new p =
    record {
      whole = p;
      upto = omega arith;
      one = omega arith;
      few_runs = omega arith;
      few_words = omega arith;
      all_runs = omega (arith, all_runs_start old new);
      all_words = omega (arith, ap length (all_words_left old new));
    }

module _ (old new : List ℕ) (count words before i : ℕ) where
  pub measuring_more : (this r : ℕ) → Measuring old new count words before i → i < page_width → this ≡ bool_byte (not (eqb (get_or old i 0) (get_or new i 0)))
      → r ≡ bool_byte (ltb before this) → Measuring old new (count + r) (words + this) this (i + 1)
  measuring_more this r p more flag start =
      let is = flag_unlike (get_or old i 0) (get_or new i 0) this flag in
      let one = at_most_1 _ this flag in
      let starts = flag_starts before this r one start in
      record {
        whole = p.whole;
        upto = omega arith;
        one = one;
        few_runs = omega (arith, p.few_runs, p.one);
        few_words = omega (arith, p.few_words);
        all_runs = omega (arith, p.all_runs, word_starts old new i p.whole this more is before);
        all_words = omega (arith, p.all_words, word_counts old new i p.whole this more is);
      }

  pub runs_measured : Measuring old new count words before i → page_width ≤ i → count ≡ length (runs (difference old new))
  runs_measured p done = omega (arith, p.all_runs, page_end_starts_none old new i p.whole before done)

  pub words_measured : Measuring old new count words before i → page_width ≤ i → words ≡ length (set_words (difference old new))
  words_measured p done = omega (arith, p.all_words, ap length (page_end_has_none old new i p.whole done))

  pub runs_few : Measuring old new count words before i → count ≤ run_limit
  runs_few p = omega (arith, p.few_runs, p.one, p.upto)

  pub words_few : Measuring old new count words before i → words ≤ page_width
  words_few p = omega (arith, p.few_words, p.upto)
