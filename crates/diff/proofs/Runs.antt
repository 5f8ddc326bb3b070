-- Runs and settings are two forms of one thing: the runs of a diff, with the words they set, give its settings back, and the other way
-- round for runs that keep the pairs' rules. Generic in the page length w. Assumes nothing.
use Prim.Native.Nat.{ℕ, zero, suc, ◌+◌, ◌-◌, ◌≤◌, ◌<◌}
use native.Mathlib.Nat.{add-zero, zero-add}
use native.Mathlib.Omega.{arith}
use native.Mathlib.Decide.{dec_lt}
use mathlib.Core.Path.{◌≡◌, refl, sym, ap, ◌∙◌}
use mathlib.Core.Bool.{true, ◌&&◌, and-eq-true_iff}
use mathlib.Core.Option.{Option, none, some}
use mathlib.Core.List.{List, [], ◌∷◌, ◌++◌, map, append_assoc, append-nil}
use lib.ListN.{length, take, drop, replicate, length-append, length-replicate, length-map, length-drop, take-append-drop}
use lib.Seq.{append_snoc, take-append_seam, drop-append_seam, length-take-le}
use lib.Dec.{leb, lit<}
use borrow.Author.Tests.{leb-true, le-leb}
use Rattle.diff.specs.Format.{Below, Run, ended, runs_from, runs, set_words, pair_bytes}
use Rattle.diff.specs.Reading.{word_count, pair_holds, orderly, settings_of}
use Rattle.diff.proofs.Words.{below_cons}

-- what it means that the first of several pairs keeps its rule, and the rest theirs
pub record Orderly (w from offset len : ℕ) (rs : List Run) : Type 0 where
  pub above : from ≤ offset
  pub some_words : 1 ≤ len
  pub within : offset + len ≤ w
  pub rest : orderly w (offset + len + 1) rs ≡ true

pub orderly_parts : (w from : ℕ) (r : Run) (rs : List Run) → orderly w from (r ∷ rs) ≡ true → Orderly w from r.offset r.len rs
unfolding orderly pair_holds
orderly_parts w from r rs h =
    let both = (and-eq-true_iff (leb from r.offset && leb 1 r.len && leb (r.offset + r.len) w) (orderly w (r.offset + r.len + 1) rs)).0 h in
    let three = (and-eq-true_iff (leb from r.offset && leb 1 r.len) (leb (r.offset + r.len) w)).0 both.0 in
    let two = (and-eq-true_iff (leb from r.offset) (leb 1 r.len)).0 three.0 in
    record { above = leb-true _ _ two.0; some_words = leb-true _ _ two.1; within = leb-true _ _ three.1; rest = both.1 }

pub parts_orderly : (w from : ℕ) (r : Run) (rs : List Run) → Orderly w from r.offset r.len rs → orderly w from (r ∷ rs) ≡ true
unfolding orderly pair_holds
parts_orderly w from r rs h =
    (and-eq-true_iff (leb from r.offset && leb 1 r.len && leb (r.offset + r.len) w) (orderly w (r.offset + r.len + 1) rs)).1 (
      (and-eq-true_iff (leb from r.offset && leb 1 r.len) (leb (r.offset + r.len) w)).1
          ((and-eq-true_iff (leb from r.offset) (leb 1 r.len)).1 (le-leb _ _ h.above, le-leb _ _ h.some_words), le-leb _ _ h.within),
      h.rest,
    )

-- from a word past the page's last no pair keeps its rule
pub orderly_none : (w : ℕ) (rs : List Run) → orderly w (w + 1) rs ≡ true → rs ≡ []
orderly_none w [] h = refl
orderly_none w (r ∷ rs) h = let p = orderly_parts w (w + 1) r rs h in absurd (omega (arith, p.above, p.some_words, p.within))

pub orderly_earlier : (w from : ℕ) (rs : List Run) → orderly w (from + 1) rs ≡ true → orderly w from rs ≡ true
unfolding orderly
orderly_earlier w from [] h = refl
orderly_earlier w from (r ∷ rs) h =
    let p = orderly_parts w (from + 1) r rs h in
    parts_orderly w from r rs (record { above = omega (arith, p.above); some_words = p.some_words; within = p.within; rest = p.rest })

-- ---- from runs to settings and back to runs

-- words that are kept begin no run
pub runs_gap : (g o : ℕ) (d : List (Option ℕ)) → runs_from o 0 (replicate g none ++ d) ≡ runs_from (o + g) 0 d
unfolding runs_from ended
runs_gap zero o d = ap (λ (n : ℕ). runs_from n 0 d) (sym (add-zero o))
runs_gap (suc g) o d = runs_gap g (o + 0 + 1) d ∙ ap (λ (n : ℕ). runs_from n 0 d) (omega arith)

-- words that are set lengthen the run before them
runs_set : (vs : List ℕ) (o k : ℕ) (d : List (Option ℕ)) → runs_from o k (map some vs ++ d) ≡ runs_from o (k + length vs) d
unfolding runs_from
runs_set [] o k d = ap (λ (n : ℕ). runs_from o n d) (sym (add-zero k))
runs_set (v ∷ vs) o k d = runs_set vs o (k + 1) d ∙ ap (λ (n : ℕ). runs_from o n d) (omega arith)

ended_some : (o k : ℕ) → 1 ≤ k → ended o k ≡ record { offset = o; len = k } ∷ []
unfolding ended
ended_some o zero h = absurd (omega arith)
ended_some o (suc k) h = refl

-- the word before the first possible offset is kept
settings_kept : (w from : ℕ) (rs : List Run) (words : List ℕ) → from < w → orderly w (from + 1) rs ≡ true
    → settings_of w from rs words ≡ none ∷ settings_of w (from + 1) rs words
unfolding settings_of
settings_kept w from [] words h o =
    let e : w - from ≡ suc (w - (from + 1)) = omega arith in
    ap (λ (n : ℕ). replicate n none) e
settings_kept w from (r ∷ rs) words h o =
    let p = orderly_parts w (from + 1) r rs o in
    let e : r.offset - from ≡ suc (r.offset - (from + 1)) = omega (arith, p.above) in
    ap (λ (n : ℕ). replicate n none ++ map some (take r.len words) ++ settings_of w (r.offset + r.len) rs (drop r.len words)) e

-- a run ends where its words do, and the runs behind it are found from the word after
run_closes : (w o k : ℕ) (rs : List Run) (words : List ℕ) → 1 ≤ k → o + k ≤ w → orderly w (o + k + 1) rs ≡ true
    → (o + k < w → runs_from (o + k + 1) 0 (settings_of w (o + k + 1) rs words) ≡ rs)
    → runs_from o k (settings_of w (o + k) rs words) ≡ record { offset = o; len = k } ∷ rs
unfolding runs_from settings_of
run_closes w o k rs words k≥1 h ord next = go (dec_lt (o + k) w)
  where
    go : Dec (o + k < w) → runs_from o k (settings_of w (o + k) rs words) ≡ record { offset = o; len = k } ∷ rs
    go (yes l) = rw (settings_kept w (o + k) rs words l ord, ended_some o k k≥1, next l)
    go (no l) =
        let full : o + k ≡ w = omega arith in
        let last : rs ≡ [] = orderly_none w rs (rw full at ord) in
        let over : w - (o + k) ≡ 0 = omega arith in
        ap (λ (l : List Run). runs_from o k (settings_of w (o + k) l words)) last
        ∙ ap (λ (n : ℕ). runs_from o k (replicate n none)) over
        ∙ ended_some o k k≥1
        ∙ ap (λ (l : List Run). record { offset = o; len = k } ∷ l) (sym last)

pub words_gap : (g : ℕ) (d : List (Option ℕ)) → set_words (replicate g none ++ d) ≡ set_words d
unfolding set_words
words_gap zero d = refl
words_gap (suc g) d = words_gap g d

words_set_lem : (vs : List ℕ) (d : List (Option ℕ)) → set_words (map some vs ++ d) ≡ vs ++ set_words d
unfolding set_words
words_set_lem [] d = refl
words_set_lem (v ∷ vs) d = ap (λ (l : List ℕ). v ∷ l) (words_set_lem vs d)

no_words : (l : List ℕ) → length l ≡ 0 → l ≡ []
no_words [] e = refl
no_words (x ∷ l) e = absurd (omega (arith, e))

-- the words of settings made of runs are the words they were made of
pub words_of_settings : (w from : ℕ) (rs : List Run) (words : List ℕ) → length words ≡ word_count rs → set_words (settings_of w from rs words) ≡ words
unfolding settings_of word_count set_words
words_of_settings w from [] words e =
    ap set_words (sym (append-nil (replicate (w - from) none))) ∙ words_gap (w - from) [] ∙ sym (no_words words e)
words_of_settings w from (r ∷ rs) words e =
    let vs : List ℕ = take r.len words in
    let rest : List (Option ℕ) = settings_of w (r.offset + r.len) rs (drop r.len words) in
    let left : length (drop r.len words) ≡ word_count rs = length-drop r.len words ∙ omega (arith, e) in
    ap set_words (append_assoc (replicate (r.offset - from) none) (map some vs) rest)
    ∙ words_gap (r.offset - from) (map some vs ++ rest)
    ∙ words_set_lem vs rest
    ∙ ap (λ (l : List ℕ). vs ++ l) (words_of_settings w (r.offset + r.len) rs (drop r.len words) left)
    ∙ take-append-drop r.len words

-- the runs that are read off the settings of runs in order are those runs
pub runs_of_settings : (w from : ℕ) (rs : List Run) (words : List ℕ) → from ≤ w → orderly w from rs ≡ true → length words ≡ word_count rs
    → runs_from from 0 (settings_of w from rs words) ≡ rs
unfolding settings_of word_count runs_from ended
runs_of_settings w from [] words h o e =
    ap (λ (d : List (Option ℕ)). runs_from from 0 d) (sym (append-nil (replicate (w - from) none))) ∙ runs_gap (w - from) from []
runs_of_settings w from (r ∷ rs) words h o e =
    let p = orderly_parts w from r rs o in
    let vs : List ℕ = take r.len words in
    let rest : List (Option ℕ) = settings_of w (r.offset + r.len) rs (drop r.len words) in
    let long : length vs ≡ r.len = length-take-le r.len words (omega (arith, e)) in
    let left : length (drop r.len words) ≡ word_count rs = length-drop r.len words ∙ omega (arith, e) in
    let there : from + (r.offset - from) ≡ r.offset = omega (arith, p.above) in
    let run : 0 + length vs ≡ r.len = zero-add (length vs) ∙ long in
    ap (λ (d : List (Option ℕ)). runs_from from 0 d) (append_assoc (replicate (r.offset - from) none) (map some vs) rest)
    ∙ runs_gap (r.offset - from) from (map some vs ++ rest)
    ∙ ap (λ (n : ℕ). runs_from n 0 (map some vs ++ rest)) there
    ∙ runs_set vs r.offset 0 rest
    ∙ ap (λ (n : ℕ). runs_from r.offset n rest) run
    ∙ run_closes w r.offset r.len rs (drop r.len words) p.some_words p.within p.rest
    (λ l. runs_of_settings w (r.offset + r.len + 1) rs (drop r.len words) (omega arith) p.rest left)

pub length_settings : (w from : ℕ) (rs : List Run) (words : List ℕ) → from ≤ w → orderly w from rs ≡ true → length words ≡ word_count rs
    → from + length (settings_of w from rs words) ≡ w
unfolding settings_of word_count
length_settings w from [] words h o e = simp length-replicate (omega arith)
length_settings w from (r ∷ rs) words h o e =
    let p = orderly_parts w from r rs o in
    let left : length (drop r.len words) ≡ word_count rs = length-drop r.len words ∙ omega (arith, e) in
    let long : length (take r.len words) ≡ r.len = length-take-le r.len words (omega (arith, e)) in
    let next = length_settings w (r.offset + r.len) rs (drop r.len words) p.within (orderly_earlier w (r.offset + r.len) rs p.rest) left in
    simp (length-append, length-replicate, length-map) (omega (arith, p.above, long, next))

-- ---- from settings to runs and back to settings

pub words_counted : (o k : ℕ) (d : List (Option ℕ)) → word_count (runs_from o k d) ≡ k + length (set_words d)
unfolding runs_from set_words word_count ended
words_counted o zero [] = refl
words_counted o (suc k) [] = refl
words_counted o zero (none ∷ d) = words_counted (o + 0 + 1) 0 d
words_counted o (suc k) (none ∷ d) = ap (λ (n : ℕ). suc k + n) (words_counted (o + suc k + 1) 0 d) ∙ omega arith
words_counted o k (some v ∷ d) = words_counted o (k + 1) d ∙ omega arith

-- the runs of a diff keep the rules of the pairs
pub runs_orderly : (w from o k : ℕ) (d : List (Option ℕ)) → from ≤ o → o + k + length d ≤ w → orderly w from (runs_from o k d) ≡ true
unfolding runs_from ended orderly
runs_orderly w from o zero [] a h = refl
runs_orderly w from o (suc k) [] a h =
    parts_orderly w from (record { offset = o; len = suc k }) [] (record { above = a; some_words = omega arith; within = omega arith; rest = refl })
runs_orderly w from o zero (none ∷ d) a h = runs_orderly w from (o + 0 + 1) 0 d (omega arith) (omega arith)
runs_orderly w from o (suc k) (none ∷ d) a h =
    parts_orderly w from (record { offset = o; len = suc k }) (runs_from (o + suc k + 1) 0 d)
    (record { above = a; some_words = omega arith; within = omega arith; rest = runs_orderly w (o + suc k + 1) (o + suc k + 1) 0 d (omega arith) (omega arith) })
runs_orderly w from o k (some v ∷ d) a h = runs_orderly w from o (k + 1) d a (omega arith)

-- the settings of a run and of those behind it
settings_run : (w from o : ℕ) (vs ws : List ℕ) (rs : List Run)
    → settings_of w from (record { offset = o; len = length vs } ∷ rs) (vs ++ ws) ≡ replicate (o - from) none ++ map some vs ++ settings_of w (o + length vs) rs ws
unfolding settings_of
settings_run w from o vs ws rs = rw (take-append_seam vs ws, drop-append_seam vs ws)

kept_shift : (n : ℕ) (d : List (Option ℕ)) → none ∷ replicate n none ++ d ≡ replicate n none ++ none ∷ d
kept_shift zero d = refl
kept_shift (suc n) d = ap (λ (l : List (Option ℕ)). none ∷ l) (kept_shift n d)

set_shift : (vs : List ℕ) (v : ℕ) (d : List (Option ℕ)) → map some (vs ++ v ∷ []) ++ d ≡ map some vs ++ some v ∷ d
set_shift [] v d = refl
set_shift (x ∷ vs) v d = ap (λ (l : List (Option ℕ)). some x ∷ l) (set_shift vs v d)

-- the settings that are read off the runs of a diff and its words are the diff; vs are the words of a run that is still open
settings_of_open : (w from o : ℕ) (vs : List ℕ) (d : List (Option ℕ)) → from ≤ o → o + length vs + length d ≡ w
    → settings_of w from (runs_from o (length vs) d) (vs ++ set_words d) ≡ replicate (o - from) none ++ (map some vs ++ d)
unfolding settings_of runs_from ended set_words
settings_of_open w from o [] [] a h =
    let e : w ≡ o = omega arith in
    ap (λ (n : ℕ). replicate (n - from) none) e ∙ sym (append-nil (replicate (o - from) none))
settings_of_open w from o (v ∷ vs) [] a h =
    let over : w - (o + suc (length vs)) ≡ 0 = omega arith in
    settings_run w from o (v ∷ vs) [] []
    ∙ append_assoc (replicate (o - from) none) (map some (v ∷ vs)) (replicate (w - (o + suc (length vs))) none)
    ∙ ap (λ (n : ℕ). replicate (o - from) none ++ (map some (v ∷ vs) ++ replicate n none)) over
settings_of_open w from o [] (none ∷ d) a h =
    let e : o + 0 + 1 - from ≡ suc (o - from) = omega arith in
    settings_of_open w from (o + 0 + 1) [] d (omega arith) (omega arith)
    ∙ ap (λ (n : ℕ). replicate n none ++ d) e
    ∙ kept_shift (o - from) d
settings_of_open w from o (v ∷ vs) (none ∷ d) a h =
    let k : ℕ = suc (length vs) in
    let one : o + k + 1 - (o + k) ≡ 1 = omega arith in
    settings_run w from o (v ∷ vs) (set_words d) (runs_from (o + k + 1) 0 d)
    ∙ append_assoc (replicate (o - from) none) (map some (v ∷ vs)) (settings_of w (o + k) (runs_from (o + k + 1) 0 d) (set_words d))
    ∙ ap (λ (l : List (Option ℕ)). replicate (o - from) none ++ (map some (v ∷ vs) ++ l))
    (settings_of_open w (o + k) (o + k + 1) [] d (omega arith) (omega arith) ∙ ap (λ (n : ℕ). replicate n none ++ d) one)
settings_of_open w from o vs (some v ∷ d) a h =
    let longer : length (vs ++ v ∷ []) ≡ length vs + 1 = length-append vs (v ∷ []) in
    ap (λ (n : ℕ). settings_of w from (runs_from o n d) (vs ++ v ∷ set_words d)) (sym longer)
    ∙ ap (λ (l : List ℕ). settings_of w from (runs_from o (length (vs ++ v ∷ [])) d) l) (sym (append_snoc vs v (set_words d)))
    ∙ settings_of_open w from o (vs ++ v ∷ []) d a (omega (arith, longer))
    ∙ ap (λ (l : List (Option ℕ)). replicate (o - from) none ++ l) (set_shift vs v d)

-- the settings that are read off the runs of a diff and its words are the diff
pub settings_of_runs : (w : ℕ) (d : List (Option ℕ)) → length d ≡ w → settings_of w 0 (runs d) (set_words d) ≡ d
unfolding runs
settings_of_runs w d h = settings_of_open w 0 0 [] d (omega arith) (omega arith)

-- ---- how many runs and words there can be

-- runs and words of pairs that keep their rules: two runs are at least one word apart
pub orderly_bound : (w from : ℕ) (rs : List Run) → from ≤ w + 1 → orderly w from rs ≡ true → from + word_count rs + length rs ≤ w + 1
unfolding word_count
orderly_bound w from [] h o = omega arith
orderly_bound w from (r ∷ rs) h o =
    let p = orderly_parts w from r rs o in
    let next = orderly_bound w (r.offset + r.len + 1) rs (omega (arith, p.within)) p.rest in
    omega (arith, p.above, next)

-- each run has a word
pub orderly_count : (w from : ℕ) (rs : List Run) → orderly w from rs ≡ true → length rs ≤ word_count rs
unfolding word_count
orderly_count w from [] o = omega arith
orderly_count w from (r ∷ rs) o =
    let p = orderly_parts w from r rs o in
    omega (arith, p.some_words, orderly_count w (r.offset + r.len + 1) rs p.rest)

-- runs have no more words than the page
pub orderly_words : (w : ℕ) (rs : List Run) → orderly w 0 rs ≡ true → word_count rs ≤ w
unfolding word_count
orderly_words w [] o = omega arith
orderly_words w (r ∷ rs) o = omega (arith, orderly_bound w 0 (r ∷ rs) (omega arith) o)

-- offsets and lengths on a page of up to 255 words are bytes
pub pairs_are_bytes : (w from : ℕ) (rs : List Run) → w < 256 → orderly w from rs ≡ true → Below 256 (pair_bytes rs)
unfolding pair_bytes
pairs_are_bytes w from [] h o = record { at = λ i. lit< tt }
pairs_are_bytes w from (r ∷ rs) h o =
    let p = orderly_parts w from r rs o in
    below_cons 256 r.offset (r.len ∷ pair_bytes rs) (omega (arith, p.within))
    (below_cons 256 r.len (pair_bytes rs) (omega (arith, p.within)) (pairs_are_bytes w (r.offset + r.len + 1) rs h p.rest))
