-- The opening: the areas that it lays, and its refusals. Assumes nothing.
use Prim.Native.Nat.{ℕ}
use mathlib.Core.Path.{◌≡◌, refl, sym, ap, ◌∙◌}
use mathlib.Core.Bool.{Bool, true, false, cond, not, ◌&&◌, and-eq-true_iff}
use mathlib.Core.List.{List}
use lib.ListN.{length, get_or, set, replicate}
use lib.Dec.{eqb}
use borrow.Author.Tests.{eqb-true}
use Rattle.limits.specs.Files.{file_record_width}
use Rattle.limits.specs.inner.Sizes.{clock_area, record_area, word_area}
use Rattle.clock.specs.Clocks.{zeros}
use Rattle.rules.specs.InOrder.{slot_size, counts_in_range}
use Rattle.rules.specs.Opening.{opening_refusal, rows, zero_clocks, zero_pages, zero_marks, opened, zero_shared}
use Rattle.rules.specs.State.{mainframe, Counts}
use Rattle.layout.specs.Areas.{clock_bytes, area_words, record_bytes, mark_bytes, Areas, areas, holding, right_sizes}
use Rattle.layout.specs.Layout.{join_rows}
use Rattle.layout.proofs.Encoding.{sized_lent}
use Rattle.opening.specs.Promises.{opening_of, open_refusal}
use Rattle.opening.specs.inner.Openings.{opening_fits, opened_marks, Openable, MarksOpenable, HoldsOpened}

-- ---- the marks

-- the counts stand before zeros
pub marks_laid : (bs m m' : List ℕ) → MarksOpenable bs m → m' ≡ replicate (length m) 0 → set (set (set m' 0 (get_or bs 1 0)) 1 (get_or bs 2 0)) 2 (get_or bs 3 0) ≡ opened_marks bs
unfolding opened_marks
marks_laid bs m m' h e = ap (λ (l : List ℕ). set (set (set l 0 (get_or bs 1 0)) 1 (get_or bs 2 0)) 2 (get_or bs 3 0)) (e ∙ ap (λ (n : ℕ). replicate n 0) h.marks)

-- ---- the opened state laid out

pub open_clocks : clock_bytes (zero_clocks mainframe) ≡ replicate clock_area 0
unfolding clock_bytes zero_clocks mainframe rows zeros join_rows
open_clocks = refl

pub open_words : area_words (zero_pages mainframe) (zero_shared mainframe) ≡ replicate word_area 0
unfolding area_words zero_pages zero_shared mainframe rows join_rows
open_words = refl

pub open_records : (k : Counts) → record_bytes (opened mainframe k).records ≡ replicate record_area 0
unfolding record_bytes opened mainframe join_rows slot_size
open_records k = refl

pub open_marks : (bs : List ℕ) → mark_bytes (opened mainframe (opening_of bs).counts) ≡ opened_marks bs
unfolding mark_bytes opened opening_of opened_marks zero_pages zero_marks mainframe rows join_rows
open_marks bs = refl

-- ---- the areas of an opened mainframe

module _ (bs c w r m : List ℕ) (h : Openable bs c w r m) where
  -- all four are laid
  pub state_laid : (c' w' r' m' : List ℕ) → c' ≡ replicate (length c) 0 → w' ≡ replicate (length w) 0 → r' ≡ replicate (length r) 0 → m' ≡ opened_marks bs
      → HoldsOpened bs c' w' r' m'
  unfolding holding opened
  state_laid c' w' r' m' ec ew er em =
      record {
        is =
            ap (λ (x : List ℕ). areas x w' r' m') (ec ∙ ap (λ (n : ℕ). replicate n 0) h.lent.clocks ∙ sym open_clocks)
            ∙ ap (λ (x : List ℕ). areas (clock_bytes (zero_clocks mainframe)) x r' m') (ew ∙ ap (λ (n : ℕ). replicate n 0) h.lent.words ∙ sym open_words)
            ∙ ap (λ (x : List ℕ). areas (clock_bytes (zero_clocks mainframe)) (area_words (zero_pages mainframe) (zero_shared mainframe)) x m')
            (er ∙ ap (λ (n : ℕ). replicate n 0) h.lent.records ∙ sym (open_records (opening_of bs).counts))
            ∙ ap
            (λ (x : List ℕ). areas (clock_bytes (zero_clocks mainframe)) (area_words (zero_pages mainframe) (zero_shared mainframe)) (record_bytes (opened mainframe (opening_of bs).counts).records) x)
            (em ∙ sym (open_marks bs));
      }

-- ---- refused, or opened

-- the refusal by the two tests
pub refusal_by_tests : (bs : List ℕ) (a : Areas) → open_refusal bs a ≡ cond (right_sizes a) (cond (opening_fits bs) 0 2) 1
unfolding open_refusal opening_fits opening_refusal
refusal_by_tests bs a =
    go (right_sizes a) (eqb (length bs) file_record_width)
    (eqb (opening_of bs).first 0 && counts_in_range mainframe (opening_of bs).counts && eqb (opening_of bs).rest 0)
  where
    go : (s l t : Bool) → ◌≡◌ {A = ℕ} (cond (not s) 1 (cond (not l) 2 (cond t 0 2))) (cond s (cond (l && eqb (cond t 0 2) 0) 0 2) 1)
    go true true true = refl
    go true true false = refl
    go true false t = refl
    go false l t = refl

-- an accepted opening has its eight bytes, and the areas their sizes
pub openable : (bs c w r m : List ℕ) → right_sizes (areas c w r m) ≡ true → opening_fits bs ≡ true → Openable bs c w r m
unfolding opening_fits
openable bs c w r m s o =
    record { lent = sized_lent c w r m s; opening = eqb-true (length bs) file_record_width ((and-eq-true_iff (eqb (length bs) file_record_width) (eqb (opening_refusal mainframe (opening_of bs)) 0)).0 o).0 }
