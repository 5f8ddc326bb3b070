-- A reader that stands at the first pair of a diff says the diff's runs one after the other, and then that there is none. Rests on Pairs'
-- definitions alone. Assumes nothing.
use Prim.Native.Nat.{ℕ, zero, suc, ◌+◌, ◌*◌, ◌≤◌}
use native.Mathlib.Omega.{arith}
use mathlib.Core.Path.{◌≡◌, refl, sym, ap, ◌∙◌}
use mathlib.Core.Option.{Option, none, some}
use mathlib.Core.List.{List, [], ◌∷◌, ◌++◌, append_assoc}
use lib.ListN.{length, length-append}
use borrow.Author.Tests.{eq-eqb, ne_eqb}
use Rattle.limits.specs.Limits.{page_width}
use Rattle.diff.specs.Format.{Run}
use Rattle.diff.specs.Reading.{read_refusal, runs_in, words_place, word_count}
use Rattle.diff_reader.specs.Pairs.{PairThere, pair_among, pair_at, place_after, moved}
use Rattle.diff_reader.specs.declared.Reader.{Reader}

-- the run of a pair, if one is said
unfoldable pub run_said : Option PairThere → List Run
run_said (some p) = record { offset = p.offset; len = p.len } ∷ []
run_said none = []

-- the runs that a reader says in n moves
unfoldable pub runs_said : ℕ → Reader → List Run
runs_said zero r = []
runs_said (suc n) r = run_said (pair_at page_width r.bytes.now r.at) ++ runs_said n (moved r)

-- ---- the pair behind some others

pairs_passed : (front rs : List Run) (first words : ℕ)
    → pair_among (front ++ rs) first words (first + 2 * length front)
    ≡ pair_among rs (first + 2 * length front) (words + 4 * word_count front) (first + 2 * length front)
unfolding pair_among word_count
pairs_passed [] rs first words =
    let e : first ≡ first + 2 * 0 = omega arith in
    let f : words ≡ words + 4 * 0 = omega arith in
    ap (λ (k : ℕ). pair_among rs k words (first + 2 * 0)) e ∙ ap (λ (k : ℕ). pair_among rs (first + 2 * 0) k (first + 2 * 0)) f
pairs_passed (q ∷ front) rs first words =
    let at : first + 2 + 2 * length front ≡ first + 2 * suc (length front) = omega arith in
    let k : words + 4 * q.len + 4 * word_count front ≡ words + 4 * (q.len + word_count front) = omega arith in
    rw (ne_eqb (first + 2 * suc (length front)) first (λ e. omega (arith, e)))
    (ap (λ (i : ℕ). pair_among (front ++ rs) (first + 2) (words + 4 * q.len) i) (sym at)
    ∙ pairs_passed front rs (first + 2) (words + 4 * q.len)
    ∙ ap (λ (i : ℕ). pair_among rs i (words + 4 * q.len + 4 * word_count front) i) at
    ∙ ap (λ (i : ℕ). pair_among rs (first + 2 * suc (length front)) i (first + 2 * suc (length front))) k)

module _ (bytes : List ℕ) (legal : read_refusal page_width bytes ≡ 0) (front : List Run) where
  place : ℕ
  place = 1 + 2 * length front

  -- behind the last pair there is none
  none_behind : runs_in bytes ≡ front ++ [] → pair_at page_width bytes place ≡ none
  unfolding pair_at pair_among place
  none_behind e = rw (legal, e) (pairs_passed front [] 1 (words_place bytes))

  -- else the next run's
  next_behind : (q : Run) (rs : List Run) → runs_in bytes ≡ front ++ (q ∷ rs)
      → pair_at page_width bytes place ≡ some (record { offset = q.offset; len = q.len; words = words_place bytes + 4 * word_count front; next = place + 2 })
  unfolding pair_at pair_among place
  next_behind q rs e = rw (legal, e) (pairs_passed front (q ∷ rs) 1 (words_place bytes) ∙ rw (eq-eqb (1 + 2 * length front) (1 + 2 * length front) refl))

-- ---- run after run

rest_said : (n : ℕ) (front rs : List Run) (r : Reader) → read_refusal page_width r.bytes.now ≡ 0 → runs_in r.bytes.now ≡ front ++ rs → r.at ≡ 1 + 2 * length front
    → length rs ≤ n → runs_said n r ≡ rs
unfolding runs_said run_said moved place_after place
rest_said zero front [] r legal e at few = refl
rest_said zero front (q ∷ rs) r legal e at few = absurd (omega (arith, few))
rest_said (suc n) front [] r legal e at few =
    let said = ap (λ (k : ℕ). pair_at page_width r.bytes.now k) at ∙ none_behind r.bytes.now legal front e in
    rw said (rest_said n front [] (record { bytes = r.bytes; at = r.at }) legal e at (omega arith))
rest_said (suc n) front (q ∷ rs) r legal e at few =
    let said = ap (λ (k : ℕ). pair_at page_width r.bytes.now k) at ∙ next_behind r.bytes.now legal front q rs e in
    let longer : length (front ++ (q ∷ [])) ≡ length front + 1 = length-append front (q ∷ []) in
    rw said
    (ap (λ (l : List Run). q ∷ l)
    (rest_said n (front ++ (q ∷ [])) rs (record { bytes = r.bytes; at = 1 + 2 * length front + 2 }) legal (e ∙ sym (append_assoc front (q ∷ []) rs)) (omega (arith, longer)) (omega (arith, few))))

-- from the first pair on a reader says every run of a diff, and after the last that there is none: further moves say no more
pub reader_says_every_run : (r : Reader) → r.at ≡ 1 → read_refusal page_width r.bytes.now ≡ 0 → (n : ℕ) → length (runs_in r.bytes.now) ≤ n
    → runs_said n r ≡ runs_in r.bytes.now
reader_says_every_run r at legal n few = rest_said n [] (runs_in r.bytes.now) r legal refl at few
