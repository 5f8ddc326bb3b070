-- Document 01's starred bench cases G to L, of the definitions. Words that the document leaves open are any words. Assumes nothing.
use Prim.Native.Nat.{ℕ, ◌≤◌}
use native.Mathlib.Omega.{arith}
use mathlib.Core.Path.{◌≡◌, refl, ap}
use mathlib.Core.Bool.{false}
use mathlib.Core.Option.{Option, none, some}
use mathlib.Core.List.{List, [], ◌∷◌, ◌++◌}
use lib.ListN.{length, take, replicate}
use lib.Dec.{lit≤}
use borrow.Author.Tests.{eq-eqb, ne_eqb, le-ltb}
use Rattle.limits.specs.Limits.{page_width}
use Rattle.limits.specs.inner.Sizes.{run_limit}
use Rattle.diff.specs.Format.{setting, difference, ended, runs_from, runs, set_words, pair_bytes, word_bytes, words_bytes, bytes_of, written}
use Rattle.diff.specs.Reading.{run_count, most_runs, runs_at, runs_in, words_place, word_count, pair_holds, orderly, pairs_refusal, read_refusal}
use Rattle.diff.proofs.Legal.{read_when_legal}
use Rattle.diff.proofs.Theorems.{equal_pages}

-- ---- *G: words 0, 1 and 31 differ: 17 bytes, starting 2, 0, 2, 31, 1

-- pages that agree up to their last word
difference_last : (middle : List ℕ) (c z : ℕ) → (c ≡ z → ⊥) → difference (middle ++ c ∷ []) (middle ++ z ∷ []) ≡ replicate (length middle) none ++ some z ∷ []
unfolding difference setting
difference_last [] c z h = rw (ne_eqb c z h)
difference_last (x ∷ middle) c z h = rw (eq-eqb x x refl) (ap (λ (d : List (Option ℕ)). none ∷ d) (difference_last middle c z h))

pub record CaseG (bytes : List ℕ) : Type 0 where
  pub long : length bytes ≡ 17
  pub starts : take 5 bytes ≡ 2 ∷ 0 ∷ 2 ∷ 31 ∷ 1 ∷ []

pub case_g : (a b c x y z : ℕ) (middle : List ℕ) → length middle ≡ 29 → (a ≡ x → ⊥) → (b ≡ y → ⊥) → (c ≡ z → ⊥)
    → CaseG (written (a ∷ b ∷ middle ++ c ∷ []) (x ∷ y ∷ middle ++ z ∷ []))
unfolding written difference setting bytes_of runs runs_from ended set_words pair_bytes words_bytes word_bytes
case_g a b c x y z middle l ax by cz =
    rw (ne_eqb a x ax, ne_eqb b y by, difference_last middle c z cz, l) (record { long = refl; starts = refl })

-- ---- *H: equal pages: the byte 0

pub case_h : (page : List ℕ) → written page page ≡ 0 ∷ []
case_h = equal_pages

-- ---- *I: pairs (0,1), (1,1): 12. *J: (0,2), (3,1): fine. *K: (31,2): 12. *L: (31,1): fine

-- where the pairs are whole and one of them breaks its rule the refusal is 12
broken_pair : (bytes : List ℕ) → 1 ≤ length bytes → run_count bytes ≤ run_limit → words_place bytes ≤ length bytes → orderly page_width 0 (runs_in bytes) ≡ false → read_refusal page_width bytes ≡ 12
unfolding read_refusal pairs_refusal most_runs
broken_pair bytes some_bytes few whole broken =
    rw (ne_eqb (length bytes) 0 (λ e. omega (arith, e, some_bytes)), le-ltb run_limit (run_count bytes) few, le-ltb (length bytes) (words_place bytes) whole, broken)

pub case_i : (words : List ℕ) → read_refusal page_width (2 ∷ 0 ∷ 1 ∷ 1 ∷ 1 ∷ words) ≡ 12
unfolding run_count words_place runs_in runs_at orderly pair_holds
case_i words = broken_pair (2 ∷ 0 ∷ 1 ∷ 1 ∷ 1 ∷ words) (omega arith) (lit≤ tt) (omega arith) refl

pub case_j : (words : List ℕ) → length words ≡ 12 → read_refusal page_width (2 ∷ 0 ∷ 2 ∷ 3 ∷ 1 ∷ words) ≡ 0
unfolding most_runs run_count words_place runs_in runs_at orderly pair_holds word_count
case_j words l =
    read_when_legal page_width (2 ∷ 0 ∷ 2 ∷ 3 ∷ 1 ∷ words)
    (record { not_empty = omega arith; few_runs = lit≤ tt; pairs_whole = omega arith; in_order = refl; exact = omega arith })

pub case_k : (words : List ℕ) → read_refusal page_width (1 ∷ 31 ∷ 2 ∷ words) ≡ 12
unfolding run_count words_place runs_in runs_at orderly pair_holds
case_k words = broken_pair (1 ∷ 31 ∷ 2 ∷ words) (omega arith) (lit≤ tt) (omega arith) refl

pub case_l : (words : List ℕ) → length words ≡ 4 → read_refusal page_width (1 ∷ 31 ∷ 1 ∷ words) ≡ 0
unfolding most_runs run_count words_place runs_in runs_at orderly pair_holds word_count
case_l words l =
    read_when_legal page_width (1 ∷ 31 ∷ 1 ∷ words) (record { not_empty = omega arith; few_runs = lit≤ tt; pairs_whole = omega arith; in_order = refl; exact = omega arith })
