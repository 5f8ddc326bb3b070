-- A word's place, the twin and the store: what they leave of the pages, one law for each way of the code, and `store_laws`. Assumes nothing.
use Prim.Native.Nat.{ℕ, ◌+◌, ◌-◌, ◌*◌, ◌/◌, ◌%◌, ◌≤◌, ◌<◌}
use native.Mathlib.Omega.{arith}
use native.Mathlib.Decide.{dec_lt}
use mathlib.Core.Path.{◌≡◌, sym, ap, ◌∙◌}
use mathlib.Core.Bool.{Bool, true, false, cond, not}
use mathlib.Core.List.{List, [], ◌∷◌}
use lib.ListN.{length, get_or, set, length-set}
use lib.Seq.{get_or-set_other, ext_get_or, sets, length-sets}
use lib.Dec.{eqb}
use borrow.Author.Rules.{rules}
use Rattle.lists.specs.Tables.{put_cell}
use Rattle.limits.specs.Limits.{page_limit, page_width}
use Rattle.limits.specs.inner.Sizes.{word_area, word_row_limit, first_tally}
use Rattle.rules.specs.State.{mainframe, copy_of, dirty_at, State, with_pages, with_shared}
use Rattle.rules.specs.Steps.{page_of_word, offset_of_word, new_twin, twin_taken, stored}
use Rattle.layout.specs.Areas.{copy_row, twin_row, dirty_place, pages_in, state_in, shared_in}
use Rattle.layout.specs.Layout.{row_of}
use Rattle.layout.specs.inner.Marks.{dirty_mark}
use Rattle.layout.specs.inner.Needed.{RowThere, PageMark, PageThere}
use Rattle.layout.proofs.MarkLaws.{dirty_mark_written}
use Rattle.layout.proofs.TallyLaws.{twin_row_before, shared_beside}
use Rattle.layout.proofs.PageLaws.{copy_row_there, copy_read, dirty_read, copy_written, twin_written}
use Rattle.layout.proofs.RowLaws.{length_row, get_row}
use Rattle.layout.proofs.Stores.{get_sets_before, get_sets_behind, get_sets_same, get_set, eqb_iff}
use Rattle.step_access.specs.inner.Needed.{OnWord, WordIn, WordThere}
use Rattle.step_access.specs.inner.Effects.{twinned, word_stored, word_place, TwinTaken, Stored}

-- ---- the place of a word

-- the row of its copy, and its offset there
pub word_place_is : (p a row : ℕ) → row ≡ copy_row mainframe p (a / page_width) → page_width * row + a % page_width ≡ word_place p a
unfolding word_place
word_place_is p a row e = rw e

-- ---- one element of a row stored

row_store : (n : ℕ) (l : List ℕ) (k o v : ℕ) → o < n → n * k + n ≤ length l → set l (n * k + o) v ≡ sets l (n * k) (set (row_of n l k) o v)
row_store n l k o v h b = ext_get_or 0 (set l (n * k + o) v) (sets l (n * k) new) long (λ j z. at j (dec_lt j (n * k)) (dec_lt j (n * k + n)))
  where
    new : List ℕ
    new = set (row_of n l k) o v

    row : length (row_of n l k) ≡ n
    row = length_row n l k b

    new_long : length new ≡ n
    new_long = length-set (row_of n l k) o v ∙ row

    long : length (set l (n * k + o) v) ≡ length (sets l (n * k) new)
    long = length-set l (n * k + o) v ∙ sym (length-sets l (n * k) new)

    inside : (i : ℕ) → i < n → get_or (set l (n * k + o) v) (n * k + i) 0 ≡ get_or (sets l (n * k) new) (n * k + i) 0
    inside i s =
        get_set l (n * k + o) (n * k + i) v (omega arith)
        ∙ ap (λ (t : Bool). cond t v (get_or l (n * k + i) 0)) (eqb_iff (n * k + i) (n * k + o) i o (λ z. omega arith) (λ z. omega arith))
        ∙ ap (λ (x : ℕ). cond (eqb i o) v x) (sym (get_row n l k i 0 s))
        ∙ sym (get_set (row_of n l k) o i v (omega (arith, row)))
        ∙ sym (get_sets_same new l (n * k) i 0 (omega (arith, new_long)) (omega (arith, new_long)))

    at : (j : ℕ) → Dec (j < n * k) → Dec (j < n * k + n) → get_or (set l (n * k + o) v) j 0 ≡ get_or (sets l (n * k) new) j 0
    at j (yes s) t = get_or-set_other l (n * k + o) j v 0 (λ e. omega arith) ∙ sym (get_sets_before new l (n * k) j 0 s)
    at j (no s) (yes t) =
        let e : n * k + (j - n * k) ≡ j = omega arith in
        rw e at (inside (j - n * k) (omega arith))
    at j (no s) (no t) =
        get_or-set_other l (n * k + o) j v 0 (λ e. omega arith) ∙ sym (get_sets_behind new l (n * k) j 0 (omega (arith, new_long)))

-- ---- the twin

twinned_clean : (s : State) (p g : ℕ) → dirty_at s.pages p g ≡ false → with_pages s (new_twin s.pages p g) ≡ twinned s p g
unfolding twinned twin_taken new_twin
twinned_clean s p g e = rw e

module _ (w m : List ℕ) (p g : ℕ) (there : PageThere w m p g) where
  -- the page has its mark
  pub mark_there : PageMark m p g
  mark_there = record { marks = there.marks; from = there.from; to = there.to; page = there.page }

  pub page_row_there : (row : ℕ) → row < word_row_limit → RowThere page_width w row
  page_row_there row h = record { within = omega (arith, there.words) }

  dirty_is : (c r : List ℕ) → dirty_at (state_in mainframe c w r m).pages p g ≡ not (eqb (dirty_mark m p g) 0)
  unfolding dirty_at state_in
  dirty_is c r = ap (λ (x : ℕ). not (eqb x 0)) (dirty_read w m p g there.from there.to there.page)

  module _ (b : Bool) (is : b ≡ not (eqb (dirty_mark m p g) 0)) where
    -- a dirty page has its twin
    pub twin_kept : b ≡ true → TwinTaken w m w m p g
    unfolding twinned twin_taken
    twin_kept h = record { words = there.words; marks = there.marks; is = λ c r. rw (dirty_is c r ∙ sym is ∙ h) }

    -- a clean one gets it
    pub twin_first : (w' m' : List ℕ) (from to : ℕ) → b ≡ false → w' ≡ sets w (page_width * to) (row_of page_width w from) → from ≡ copy_row mainframe p g
        → to ≡ twin_row mainframe p g → m' ≡ set m (dirty_place mainframe p g) 1 → TwinTaken w m w' m' p g
    unfolding new_twin state_in
    twin_first w' m' from to h e ef et em =
        record {
          words = ap length e ∙ length-sets w (page_width * to) (row_of page_width w from) ∙ there.words;
          marks = ap length em ∙ length-set m (dirty_place mainframe p g) 1 ∙ there.marks;
          is =
              λ c r.
              ap (state_in mainframe c w' r) em
              ∙ dirty_mark_written c w' r m 1 there.marks p g there.from there.to there.page
              ∙ (λ i. with_shared (with_pages (state_in mainframe c w r m) (record { copies = (laid i).copies; twins = (laid i).twins; dirty = put_cell 0 (laid i).dirty p g 1 })) (tallies i))
              ∙ twinned_clean (state_in mainframe c w r m) p g (dirty_is c r ∙ sym is ∙ h);
        }
      where
        wide : length (row_of page_width w (copy_row mainframe p g)) ≡ page_width
        wide = length_row page_width w (copy_row mainframe p g) (omega (arith, copy_row_there p g there.from there.to there.page, there.words))

        tallies : shared_in mainframe w' ≡ shared_in mainframe w
        tallies =
            rw (e, et, ef)
            (shared_beside w (row_of page_width w (copy_row mainframe p g)) (page_width * twin_row mainframe p g) (omega (arith, wide, twin_row_before p g there.from there.to there.page)))

        laid : pages_in mainframe w' m
            ≡ record {
              copies = (pages_in mainframe w m).copies;
              twins = put_cell [] (pages_in mainframe w m).twins p g (copy_of (pages_in mainframe w m) p g);
              dirty = (pages_in mainframe w m).dirty;
            }
        laid =
            rw (copy_read w m p g there.from there.to there.page, e, et, ef)
            (twin_written w m (row_of page_width w (copy_row mainframe p g)) p g there.words wide there.from there.to there.page)

-- ---- the store

-- a word of a copy lies before the tallies
word_before : (p a : ℕ) → OnWord p a → word_place p a + 1 ≤ first_tally
unfolding word_place copy_row mainframe
word_before p a h = omega (arith, h.from, h.to, h.word)

copy_stored : (w m w' : List ℕ) (p a v : ℕ) → length w ≡ word_area → OnWord p a → w' ≡ set w (word_place p a) v → v < 4294967296
    → pages_in mainframe w' m ≡ stored mainframe (pages_in mainframe w m) p a v
unfolding stored page_of_word offset_of_word mainframe word_place
copy_stored w m w' p a v long o e small =
    let row : ℕ = copy_row mainframe p (a / page_width) in
    let page : a / page_width < page_limit = omega (arith, o.word) in
    let fits : page_width * row + page_width ≤ length w = omega (arith, copy_row_there p (a / page_width) o.from o.to page, long) in
    let bits : v % 4294967296 ≡ v = omega arith in
    ap (λ (x : List ℕ). pages_in mainframe x m) (e ∙ row_store page_width w row (a % page_width) v (omega arith) fits)
    ∙ copy_written w m (set (row_of page_width w row) (a % page_width) v) p (a / page_width) long (length-set (row_of page_width w row) (a % page_width) v ∙ length_row page_width w row fits) o.from o.to page
    ∙ rw (bits, copy_read w m p (a / page_width) o.from o.to page)

module _ (w m : List ℕ) (p a : ℕ) (there : WordThere w m p a) where
  -- the page of the word
  pub word_page_there : PageThere w m p (a / page_width)
  word_page_there =
      let o = there.on_word in
      record { words = there.words; marks = there.marks; from = o.from; to = o.to; page = omega (arith, o.word) }

  -- the word in what taking the twin left
  pub word_in : (w₁ m₁ : List ℕ) → TwinTaken w m w₁ m₁ p (a / page_width) → WordIn w₁ p a
  word_in w₁ m₁ t = record { words = t.words; on_word = there.on_word }

  tallies_kept : (w₁ w₂ : List ℕ) (v : ℕ) → w₂ ≡ set w₁ (word_place p a) v → shared_in mainframe w₂ ≡ shared_in mainframe w₁
  tallies_kept w₁ w₂ v e = ap (shared_in mainframe) e ∙ shared_beside w₁ (v ∷ []) (word_place p a) (word_before p a there.on_word)

  -- twin, then store
  pub store_done : (w₁ m₁ w₂ : List ℕ) (v : ℕ) → TwinTaken w m w₁ m₁ p (a / page_width) → w₂ ≡ set w₁ (word_place p a) v → v < 4294967296 → Stored w m w₂ m₁ p a v
  unfolding twinned word_stored page_of_word mainframe state_in
  store_done w₁ m₁ w₂ v t e small =
      record {
        words = ap length e ∙ length-set w₁ (word_place p a) v ∙ t.words;
        marks = t.marks;
        is =
            λ c r.
            (λ i. with_shared (with_pages (state_in mainframe c w₁ r m₁) (copy_stored w₁ m₁ w₂ p a v t.words there.on_word e small i)) (tallies_kept w₁ w₂ v e i))
            ∙ ap (λ (s : State). with_pages s (stored mainframe s.pages p a v)) (t.is c r);
      }

pub ruleset store_laws = (word_place_is, mark_there, page_row_there, twin_kept, twin_first, word_page_there, word_in, store_done, rules)
