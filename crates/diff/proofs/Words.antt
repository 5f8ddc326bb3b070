-- Words as bytes, low byte first: reading what was written gives the words back, and writing what was read the bytes. Assumes nothing.
use Prim.Native.Nat.{ℕ, zero, suc, ◌+◌, ◌*◌, ◌/◌, ◌%◌, ◌≤◌, ◌<◌}
use native.Mathlib.Nat.{add-zero, zero-add, suc-add, add_assoc, div-div-eq-div-mul}
use native.Mathlib.Numerals.{add-one, add-two}
use native.Mathlib.Omega.{arith}
use mathlib.Core.Path.{◌≡◌, refl, sym, ap, ap₂, ◌∙◌}
use mathlib.Core.List.{List, [], ◌∷◌, ◌++◌}
use lib.ListN.{length, get_or, take, drop}
use lib.Seq.{drop-cons, drop-drop, get_or-drop}
use lib.Dec.{lit<}
use Rattle.limits.specs.Limits.{word_values}
use Rattle.diff.specs.Format.{Below, Run, pair_bytes, word_bytes, words_bytes}
use Rattle.diff.specs.Reading.{runs_at, word_at, words_at}

word_back : (v : ℕ) → v < word_values → v % 256 + 256 * (v / 256 % 256) + 65536 * (v / 65536 % 256) + 16777216 * (v / 16777216 % 256) ≡ v
word_back v h =
    let e₁ : v / 256 / 256 ≡ v / 65536 = div-div-eq-div-mul v 256 256 in
    let e₂ : v / 65536 / 256 ≡ v / 16777216 = div-div-eq-div-mul v 65536 256 in
    stages v (v / 256) (v / 65536) (v / 16777216) (omega arith) (omega arith) (omega arith) h
  where
    stages : (v q₁ q₂ q₃ : ℕ) → v ≡ 256 * q₁ + v % 256 → q₁ ≡ 256 * q₂ + q₁ % 256 → q₂ ≡ 256 * q₃ + q₂ % 256 → v < word_values
        → v % 256 + 256 * (q₁ % 256) + 65536 * (q₂ % 256) + 16777216 * (q₃ % 256) ≡ v
    stages v q₁ q₂ q₃ a b c h = let e : q₃ % 256 ≡ q₃ = omega arith in omega arith

byte0 : (a b c d : ℕ) → a < 256 → b < 256 → c < 256 → d < 256 → (a + 256 * b + 65536 * c + 16777216 * d) % 256 ≡ a
byte0 a b c d ha hb hc hd = omega arith

byte1 : (a b c d : ℕ) → a < 256 → b < 256 → c < 256 → d < 256 → (a + 256 * b + 65536 * c + 16777216 * d) / 256 % 256 ≡ b
byte1 a b c d ha hb hc hd = omega arith

byte2 : (a b c d : ℕ) → a < 256 → b < 256 → c < 256 → d < 256 → (a + 256 * b + 65536 * c + 16777216 * d) / 65536 % 256 ≡ c
byte2 a b c d ha hb hc hd = omega arith

byte3 : (a b c d : ℕ) → a < 256 → b < 256 → c < 256 → d < 256 → (a + 256 * b + 65536 * c + 16777216 * d) / 16777216 % 256 ≡ d
byte3 a b c d ha hb hc hd = omega arith

-- ---- a place in a list, its elements and what is behind them

drop_two : (l : List ℕ) (at : ℕ) → at + 2 ≤ length l → drop at l ≡ get_or l at 0 ∷ get_or l (at + 1) 0 ∷ drop (at + 2) l
drop_two l at h =
    drop-cons l at 0 (omega arith)
    ∙ ap (λ (t : List ℕ). get_or l at 0 ∷ t) (drop-cons l (suc at) 0 (omega arith))
    ∙ simp (add-one, add-two)

drop_four : (l : List ℕ) (at : ℕ) → at + 4 ≤ length l
    → drop at l ≡ get_or l at 0 ∷ get_or l (at + 1) 0 ∷ get_or l (at + 2) 0 ∷ get_or l (at + 3) 0 ∷ drop (at + 4) l
drop_four l at h =
    drop_two l at (omega arith)
    ∙ ap (λ (t : List ℕ). get_or l at 0 ∷ get_or l (at + 1) 0 ∷ t) (drop_two l (at + 2) (omega arith))
    ∙ simp (add_assoc)

-- ---- words

pub length_words : (bytes : List ℕ) (at k : ℕ) → length (words_at bytes at k) ≡ k
unfolding words_at
length_words bytes at zero = refl
length_words bytes at (suc k) = ap suc (length_words bytes (at + 4) k)

pub length_word_bytes : (ws : List ℕ) → length (words_bytes ws) ≡ 4 * length ws
unfolding words_bytes word_bytes
length_word_bytes [] = refl
length_word_bytes (v ∷ ws) = ap (λ (n : ℕ). suc (suc (suc (suc n)))) (length_word_bytes ws) ∙ omega arith

-- words that stand at a place as bytes are read there
pub words_read : (bytes : List ℕ) (at : ℕ) (ws rest : List ℕ) → Below word_values ws → drop at bytes ≡ words_bytes ws ++ rest
    → words_at bytes at (length ws) ≡ ws
unfolding words_at words_bytes word_bytes word_at
words_read bytes at [] rest b e = refl
words_read bytes at (v ∷ ws) rest b e =
    let at0 : get_or bytes at 0 ≡ v % 256 = ap (λ (n : ℕ). get_or bytes n 0) (sym (add-zero at)) ∙ sym (get_or-drop at bytes 0 0) ∙ ap (λ (l : List ℕ). get_or l 0 0) e in
    let at1 : get_or bytes (at + 1) 0 ≡ v / 256 % 256 = sym (get_or-drop at bytes 1 0) ∙ ap (λ (l : List ℕ). get_or l 1 0) e in
    let at2 : get_or bytes (at + 2) 0 ≡ v / 65536 % 256 = sym (get_or-drop at bytes 2 0) ∙ ap (λ (l : List ℕ). get_or l 2 0) e in
    let at3 : get_or bytes (at + 3) 0 ≡ v / 16777216 % 256 = sym (get_or-drop at bytes 3 0) ∙ ap (λ (l : List ℕ). get_or l 3 0) e in
    let behind : drop (at + 4) bytes ≡ words_bytes ws ++ rest = sym (drop-drop 4 at bytes) ∙ ap (λ (l : List ℕ). drop 4 l) e in
    let later : Below word_values ws = record { at = λ i. b.at (suc i) } in
    rw (at0, at1, at2, at3, word_back v (b.at 0), words_read bytes (at + 4) ws rest later behind)

-- the bytes of words that were read at a place are those that stand there
pub words_written : (bytes : List ℕ) (at k : ℕ) → Below 256 bytes → at + 4 * k ≤ length bytes
    → words_bytes (words_at bytes at k) ≡ take (4 * k) (drop at bytes)
unfolding words_at words_bytes word_bytes word_at
words_written bytes at zero b h = refl
words_written bytes at (suc k) b h =
    let four : 4 * suc k ≡ suc (suc (suc (suc (4 * k)))) = omega arith in
    rw (
      byte0 _ _ _ _ (b.at at) (b.at (at + 1)) (b.at (at + 2)) (b.at (at + 3)),
      byte1 _ _ _ _ (b.at at) (b.at (at + 1)) (b.at (at + 2)) (b.at (at + 3)),
      byte2 _ _ _ _ (b.at at) (b.at (at + 1)) (b.at (at + 2)) (b.at (at + 3)),
      byte3 _ _ _ _ (b.at at) (b.at (at + 1)) (b.at (at + 2)) (b.at (at + 3)),
      words_written bytes (at + 4) k b (omega arith),
      four,
      drop_four bytes at (omega arith),
    )

word_fits : (bytes : List ℕ) (at : ℕ) → Below 256 bytes → word_at bytes at < word_values
unfolding word_at
word_fits bytes at b = omega (arith, b.at at, b.at (at + 1), b.at (at + 2), b.at (at + 3))

pub below_cons : (b x : ℕ) (l : List ℕ) → x < b → Below b l → Below b (x ∷ l)
below_cons b x l h t = record { at = each }
  where
    each : (i : ℕ) → get_or (x ∷ l) i 0 < b
    each zero = h
    each (suc i) = t.at i

pub below_append : (b : ℕ) (l m : List ℕ) → Below b l → Below b m → Below b (l ++ m)
below_append b [] m h k = k
below_append b (x ∷ l) m h k = below_cons b x (l ++ m) (h.at 0) (below_append b l m (record { at = λ i. h.at (suc i) }) k)

pub words_are_bytes : (ws : List ℕ) → Below 256 (words_bytes ws)
unfolding words_bytes word_bytes
words_are_bytes [] = record { at = λ i. lit< tt }
words_are_bytes (v ∷ ws) =
    below_cons 256 (v % 256) _ (omega arith)
    (below_cons 256 (v / 256 % 256) _ (omega arith)
    (below_cons 256 (v / 65536 % 256) _ (omega arith) (below_cons 256 (v / 16777216 % 256) _ (omega arith) (words_are_bytes ws))))

pub words_fit : (bytes : List ℕ) (at k : ℕ) → Below 256 bytes → Below word_values (words_at bytes at k)
unfolding words_at
words_fit bytes at zero b = record { at = λ i. lit< tt }
words_fit bytes at (suc k) b = below_cons word_values (word_at bytes at) (words_at bytes (at + 4) k) (word_fits bytes at b) (words_fit bytes (at + 4) k b)

-- k and then m words from a place on are the k + m words from there on
pub words_split : (bytes : List ℕ) (at k m : ℕ) → words_at bytes at (k + m) ≡ words_at bytes at k ++ words_at bytes (at + 4 * k) m
unfolding words_at
words_split bytes at zero m = ap₂ (λ (n a : ℕ). words_at bytes a n) (zero-add m) (sym (add-zero at))
words_split bytes at (suc k) m =
    ap (λ (n : ℕ). words_at bytes at n) (suc-add k m)
    ∙ ap (λ (l : List ℕ). word_at bytes at ∷ l) (words_split bytes (at + 4) k m)
    ∙ ap (λ (a : ℕ). word_at bytes at ∷ words_at bytes (at + 4) k ++ words_at bytes a m) (omega arith)

-- ---- pairs

pub length_runs_at : (bytes : List ℕ) (at n : ℕ) → length (runs_at bytes at n) ≡ n
unfolding runs_at
length_runs_at bytes at zero = refl
length_runs_at bytes at (suc n) = ap suc (length_runs_at bytes (at + 2) n)

pub length_pair_bytes : (rs : List Run) → length (pair_bytes rs) ≡ 2 * length rs
unfolding pair_bytes
length_pair_bytes [] = refl
length_pair_bytes (r ∷ rs) = ap (λ (n : ℕ). suc (suc n)) (length_pair_bytes rs) ∙ omega arith

-- pairs that stand at a place as bytes are read there
pub pairs_read : (bytes : List ℕ) (at : ℕ) (rs : List Run) (rest : List ℕ) → drop at bytes ≡ pair_bytes rs ++ rest → runs_at bytes at (length rs) ≡ rs
unfolding runs_at pair_bytes
pairs_read bytes at [] rest e = refl
pairs_read bytes at (r ∷ rs) rest e =
    let at0 : get_or bytes at 0 ≡ r.offset = ap (λ (n : ℕ). get_or bytes n 0) (sym (add-zero at)) ∙ sym (get_or-drop at bytes 0 0) ∙ ap (λ (l : List ℕ). get_or l 0 0) e in
    let at1 : get_or bytes (at + 1) 0 ≡ r.len = sym (get_or-drop at bytes 1 0) ∙ ap (λ (l : List ℕ). get_or l 1 0) e in
    let behind : drop (at + 2) bytes ≡ pair_bytes rs ++ rest = sym (drop-drop 2 at bytes) ∙ ap (λ (l : List ℕ). drop 2 l) e in
    rw (at0, at1, pairs_read bytes (at + 2) rs rest behind)

-- the bytes of pairs that were read at a place are those that stand there
pub pairs_written : (bytes : List ℕ) (at n : ℕ) → at + 2 * n ≤ length bytes → pair_bytes (runs_at bytes at n) ≡ take (2 * n) (drop at bytes)
unfolding runs_at pair_bytes
pairs_written bytes at zero h = refl
pairs_written bytes at (suc n) h =
    let two : 2 * suc n ≡ suc (suc (2 * n)) = omega arith in
    rw (pairs_written bytes (at + 2) n (omega arith), two, drop_two bytes at (omega arith))
