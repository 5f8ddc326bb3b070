-- What the writer stores for one pair and for one word, and the difference of two pages word by word, as the writer goes through it: what is
-- left of its runs and words, and what each word adds. Assumes nothing.
use Prim.Native.Nat.{ℕ, zero, suc, ◌+◌, ◌-◌, ◌≤◌, ◌<◌, min}
use native.Mathlib.Numerals.{add-one}
use native.Mathlib.Omega.{arith}
use mathlib.Core.Path.{◌≡◌, refl, sym, ap, ◌∙◌}
use mathlib.Core.Option.{Option, none, some}
use mathlib.Core.List.{List, [], ◌∷◌, ◌++◌, append_assoc}
use lib.ListN.{length, get_or, set, take, drop, length-set, length-append, drop_of_length-le}
use lib.Seq.{sets, sets-eq, drop-drop}
use borrow.Rule.Slice.PartMut.{put_mid}
use Rattle.std.specs.Int.{to_le_bytes, w32}
use Rattle.limits.specs.Limits.{page_width}
use Rattle.diff.specs.Format.{Run, setting, difference, ended, runs_from, set_words, pair_bytes, word_bytes}
use Rattle.diff.proofs.Theorems.{length_difference}
use Rattle.diff_writer.specs.inner.Needed.{PagesWhole, RoomForPair}

-- ---- one pair and one word

module _ (out : List ℕ) (at offset len : ℕ) where
  pub no_pair : len ≡ 0 → out ≡ sets out at (pair_bytes (ended offset len))
  unfolding pair_bytes ended
  no_pair e = rw e

  pub room_for_length : (v : ℕ) → RoomForPair out at offset len → (len ≡ 0 → ⊥) → at + 1 < length (set out at v)
  room_for_length v p h = simp length-set (omega (arith, p.room))

pub pair_stored : (out : List ℕ) (at offset len : ℕ) → (len ≡ 0 → ⊥) → set (set out at offset) (at + 1) len ≡ sets out at (pair_bytes (ended offset len))
unfolding pair_bytes ended
pair_stored out at offset zero h = absurd (h refl)
pair_stored out at offset (suc k) h = rw add-one

-- the four bytes of a word, copied to a place
pub word_bytes_put : (out : List ℕ) (at v : ℕ) (bytes : List ℕ) → at + 4 ≤ length out → bytes ≡ to_le_bytes w32 v → put_mid at (at + 4 - at) out bytes ≡ sets out at (word_bytes v)
unfolding word_bytes
word_bytes_put out at v bytes room e =
    let four : at + 4 - at ≡ 4 = omega arith in
    rw (four, e) (ap (λ (l : List ℕ). take at out ++ (word_bytes v ++ l)) (drop-drop 4 at out)
    ∙ sym (append_assoc (take at out) (word_bytes v) (drop (at + 4) out))
    ∙ sym (sets-eq (word_bytes v) out at room))

-- ---- stores and pairs, one part after the other

pub pair_bytes_append : (rs ss : List Run) → pair_bytes (rs ++ ss) ≡ pair_bytes rs ++ pair_bytes ss
unfolding pair_bytes
pair_bytes_append [] ss = refl
pair_bytes_append (r ∷ rs) ss = ap (λ (l : List ℕ). r.offset ∷ r.len ∷ l) (pair_bytes_append rs ss)

-- words in a row are one run or, where there are none, no run
pub length_ended : (o k : ℕ) → length (ended o k) ≡ min k 1
unfolding ended
length_ended o zero = omega arith
length_ended o (suc k) = omega arith

-- there are no more runs than words
pub runs_fit : (o k : ℕ) (d : List (Option ℕ)) → length (runs_from o k d) ≤ min k 1 + length d
unfolding runs_from
runs_fit o k [] = omega (arith, length_ended o k)
runs_fit o k (none ∷ d) = omega (arith, length_ended o k, length-append (ended o k) (runs_from (o + k + 1) 0 d), runs_fit (o + k + 1) 0 d)
runs_fit o k (some v ∷ d) = omega (arith, runs_fit o (k + 1) d)

-- ---- the word at a place of the difference

difference_at : (old new : List ℕ) (i : ℕ) → i < length old → i < length new
    → drop i (difference old new) ≡ setting (get_or old i 0) (get_or new i 0) ∷ drop (suc i) (difference old new)
unfolding difference
difference_at [] new i h k = absurd (omega arith)
difference_at (x ∷ old) [] i h k = absurd (omega arith)
difference_at (x ∷ old) (y ∷ new) zero h k = refl
difference_at (x ∷ old) (y ∷ new) (suc i) h k = difference_at old new i (omega arith) (omega arith)

module _ (old new : List ℕ) (whole : PagesWhole old new) (i : ℕ) where
  pub next_word : i < page_width → drop i (difference old new) ≡ setting (get_or old i 0) (get_or new i 0) ∷ drop (i + 1) (difference old new)
  next_word h =
      difference_at old new i (omega (arith, whole.old_whole)) (omega (arith, whole.new_whole))
      ∙ ap (λ (n : ℕ). setting (get_or old i 0) (get_or new i 0) ∷ drop n (difference old new)) (sym (add-one i))

  pub no_word : page_width ≤ i → drop i (difference old new) ≡ []
  no_word h =
      drop_of_length-le (difference old new) {i = i}
      (omega (arith, length_difference old new (whole.old_whole ∙ sym whole.new_whole), whole.old_whole))

-- ---- the words that are left

-- the values that the difference sets from the word i on
unfoldable pub words_to_set : List ℕ → List ℕ → ℕ → List ℕ
words_to_set old new i = set_words (drop i (difference old new))

pub all_words_left : (old new : List ℕ) → set_words (difference old new) ≡ words_to_set old new 0
unfolding words_to_set
all_words_left old new = refl

module _ (old new : List ℕ) (i : ℕ) (whole : PagesWhole old new) where
  pub page_end_has_none : page_width ≤ i → words_to_set old new i ≡ []
  unfolding words_to_set set_words
  page_end_has_none h = ap set_words (no_word old new whole i h)
