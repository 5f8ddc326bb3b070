-- The record of one page: its write notice and its diff laid into a slot, counted, and the page clean. One law for each way of the code, `diff_laws` and
-- `change_laws`. Assumes nothing.
use Prim.Native.Nat.{ℕ, suc, ◌+◌, ◌-◌, ◌*◌, ◌≤◌, ◌<◌}
use native.Mathlib.Omega.{arith}
use mathlib.Core.Path.{◌≡◌, refl, sym, ap, ◌∙◌}
use mathlib.Core.List.{List, [], ◌∷◌, ◌++◌}
use lib.ListN.{length, get_or, take, drop, set, length-drop, length-set}
use lib.Seq.{length-take-le, sets, length-sets}
use mir.Syntax.{w64}
use mir.Val.{Fits}
use borrow.Author.Rules.{rules}
use Rattle.lists.specs.Tables.{put, put_cell}
use Rattle.limits.specs.Limits.{page_width, record_limit}
use Rattle.limits.specs.inner.Sizes.{diff_limit, mark_area, notice_width, slot_width, word_area, word_row_limit}
use Rattle.diff.specs.Format.{written}
use Rattle.diff.proofs.Theorems.{at_most_131_bytes}
use Rattle.rules.specs.State.{mainframe, copy_of, twin_of, Records, slot_bytes, laid_over, appended, State, with_pages, with_records}
use Rattle.layout.specs.Areas.{copy_row, twin_row, dirty_place, records_in, state_in, standing_count}
use Rattle.layout.specs.Layout.{row_of}
use Rattle.layout.specs.inner.Needed.{RowThere, OnPage, PageMark, ClocksOf, OwnEntry, Holds}
use Rattle.layout.specs.inner.Marks.{with_standing}
use Rattle.layout.proofs.MarkLaws.{standing_written, standing_length, dirty_mark_written}
use Rattle.layout.proofs.PageLaws.{copy_row_there, twin_row_there, copy_read, twin_read}
use Rattle.layout.proofs.RowLaws.{length_row}
use Rattle.layout.proofs.SlotLaws.{slot_written}
use Rattle.step_close.specs.inner.Parts.{change_of, page_cleaned, change_made, notice_bytes, counted_bytes, diff_bytes}
use Rattle.step_close.specs.inner.Needed.{ChangeReady, NoticeSlotThere, PageSlotThere, CountedFits}
use Rattle.step_close.proofs.SlotBytes.{part_stored}

-- ---- the diff in its slot

-- a row of words lies within the area
pub words_row : (w : List ℕ) (row : ℕ) → length w ≡ word_area → row < word_row_limit → RowThere page_width w row
words_row w row e h = record { within = omega arith }

module _ (w r : List ℕ) (p g slot : ℕ) (there : PageSlotThere w r p g slot) where
  -- the page has its rows
  pub diff_on_page : OnPage p g
  diff_on_page = record { from = there.from; to = there.to; page = there.page }

  -- the part of the slot behind the write notice
  abbrev behind : List ℕ
  behind = take (slot_width * slot + slot_width - (slot_width * slot + notice_width)) (drop (slot_width * slot + notice_width) r)

  -- the pages are whole and the part has room
  pub diff_fits : (old new : List ℕ) (twin copy : ℕ) → old ≡ row_of page_width w twin → new ≡ row_of page_width w copy → twin < word_row_limit → copy < word_row_limit
      → CountedFits old new behind
  diff_fits old new twin copy eo en ht hc =
      record {
        old_whole = ap length eo ∙ length_row page_width w twin (omega (arith, there.words));
        new_whole = ap length en ∙ length_row page_width w copy (omega (arith, there.words));
        room = omega (
          arith,
          length-take-le (slot_width * slot + slot_width - (slot_width * slot + notice_width)) (drop (slot_width * slot + notice_width) r)
              (omega (arith, length-drop (slot_width * slot + notice_width) r, there.records, there.place)),
        );
      }

  -- the part put back has the diff behind its length
  pub diff_laid_lem : (part old new : List ℕ) (twin copy : ℕ) → part ≡ sets behind 0 (counted_bytes old new) → old ≡ row_of page_width w twin → new ≡ row_of page_width w copy
      → twin ≡ twin_row mainframe p g → copy ≡ copy_row mainframe p g → twin < word_row_limit → copy < word_row_limit
      → take (slot_width * slot + notice_width) r
      ++ (part ++ drop (slot_width * slot + slot_width - (slot_width * slot + notice_width)) (drop (slot_width * slot + notice_width) r))
      ≡ sets r (slot_width * slot + notice_width) (diff_bytes p g w)
  unfolding diff_bytes counted_bytes
  diff_laid_lem part old new twin copy e eo en et ec ht hc =
      let fits = diff_fits old new twin copy eo en ht hc in
      let few : length (written old new) ≤ diff_limit = at_most_131_bytes old new fits.old_whole fits.new_whole in
      part_stored r part (counted_bytes old new) (slot_width * slot + notice_width) (slot_width * slot + slot_width - (slot_width * slot + notice_width))
      (omega (arith, there.records, there.place)) (omega (arith, few)) e
      ∙ rw (eo, en, et, ec)

-- ---- one record more

module _ (c w r m : List ℕ) (p g : ℕ) (ready : ChangeReady c w r m p g) where
  -- its clock is there
  pub change_clocks : ClocksOf c p
  change_clocks = record { clocks = ready.lent.clocks; from = ready.from; to = ready.to }

  module _ (slot : ℕ) (at : (slot ≡ standing_count m) × (slot < 65536)) where
    -- the number of records, one higher, is a small number
    pub count_fits : Fits w64 (slot + 1)
    count_fits = omega (arith, at.1)

    -- and as many can stand
    pub change_room : slot + 1 ≤ record_limit
    change_room = omega (arith, at.0, ready.room)

    -- the slot takes the diff after the write notice
    pub change_slot : (r₁ : List ℕ) (x : ℕ) → r₁ ≡ sets r (slot_width * slot) (notice_bytes p x g) → PageSlotThere w r₁ p g slot
    change_slot r₁ x e =
        record {
          words = ready.lent.words;
          records = ap length e ∙ length-sets r (slot_width * slot) (notice_bytes p x g) ∙ ready.lent.records;
          from = ready.from;
          to = ready.to;
          page = ready.page;
          place = omega (arith, at.0, ready.room);
        }

    -- the page's mark is there after the count
    pub change_mark : (m₁ : List ℕ) → m₁ ≡ with_standing m (slot + 1) → PageMark m₁ p g
    change_mark m₁ e = record { marks = ap length e ∙ standing_length m (slot + 1) ready.lent.marks; from = ready.from; to = ready.to; page = ready.page }

  module _ (e : ℕ) (entry : OwnEntry c p e) where
    -- the first free slot takes the write notice of the interval that the own entry counts
    pub change_notice : (slot x : ℕ) → (slot ≡ standing_count m) × (slot < 65536) → x ≡ e → NoticeSlotThere r p x g slot
    change_notice slot x at is =
        record {
          records = ready.lent.records;
          processor = ready.to;
          interval = omega (arith, is, entry.is w r m, ready.own_fits_lem);
          page = ready.page;
          place = omega (arith, at.0, ready.room);
        }

    -- the bytes of the record
    abbrev bytes : List ℕ
    bytes = p ∷ e ∷ g ∷ diff_bytes p g w

    record_is : bytes ≡ slot_bytes (change_of (state_in mainframe c w r m) p g)
    unfolding slot_bytes change_of diff_bytes counted_bytes
    record_is = λ i. p ∷ entry.is w r m i ∷ g ∷ length (written (twin i) (copy i)) ∷ written (twin i) (copy i)
      where
        twin : row_of page_width w (twin_row mainframe p g) ≡ twin_of (state_in mainframe c w r m).pages p g
        twin = sym (unfold state_in in twin_read w m p g ready.from ready.to ready.page)

        copy : row_of page_width w (copy_row mainframe p g) ≡ copy_of (state_in mainframe c w r m).pages p g
        copy = sym (unfold state_in in copy_read w m p g ready.from ready.to ready.page)

    bytes_length : length bytes ≤ slot_width
    unfolding diff_bytes counted_bytes
    bytes_length =
        let twin = length_row page_width w (twin_row mainframe p g) (omega (arith, twin_row_there p g ready.from ready.to ready.page, ready.lent.words)) in
        let copy = length_row page_width w (copy_row mainframe p g) (omega (arith, copy_row_there p g ready.from ready.to ready.page, ready.lent.words)) in
        omega (arith, at_most_131_bytes (row_of page_width w (twin_row mainframe p g)) (row_of page_width w (copy_row mainframe p g)) twin copy)

    module _ (slot : ℕ) (at : slot ≡ standing_count m) where
      new_slots : (records_in mainframe (sets r (slot_width * slot) bytes) m).slots
          ≡ put [] (records_in mainframe r m).slots (standing_count m)
          (laid_over (slot_bytes (change_of (state_in mainframe c w r m) p g)) (get_or (records_in mainframe r m).slots (standing_count m) []))
      new_slots =
          ap (λ (q : Records). q.slots) (slot_written r m bytes slot ready.lent.records bytes_length (omega (arith, at, ready.room)))
          ∙ rw (at, record_is)

      state_recorded : state_in mainframe c w (sets r (slot_width * slot) bytes) (with_standing m (standing_count m + 1))
          ≡ with_records (state_in mainframe c w r m) (appended (state_in mainframe c w r m).records (change_of (state_in mainframe c w r m) p g))
      unfolding state_in records_in appended
      state_recorded =
          standing_written c w (sets r (slot_width * slot) bytes) m (standing_count m + 1) ready.lent.marks
          ∙ (λ i. with_records (state_in mainframe c w r m) (record { standing = standing_count m + 1; slots = new_slots i }))

    -- notice, count, diff and the mark make the change
    pub change_made_lem : (r₁ r₂ m₁ m₂ : List ℕ) (slot x : ℕ) → r₁ ≡ sets r (slot_width * slot) (notice_bytes p x g) → m₁ ≡ with_standing m (slot + 1)
        → r₂ ≡ sets r₁ (slot_width * slot + notice_width) (diff_bytes p g w) → m₂ ≡ set m₁ (dirty_place mainframe p g) 0 → x ≡ e → (slot ≡ standing_count m) × (slot < 65536)
        → Holds c w r₂ m₂ (change_made (state_in mainframe c w r m) p g)
    unfolding change_made page_cleaned
    change_made_lem r₁ r₂ m₁ m₂ slot x noted counted laid cleared is at =
        let counts : m₁ ≡ with_standing m (standing_count m + 1) = counted ∙ ap (λ (n : ℕ). with_standing m (n + 1)) at.0 in
        let long : length m₁ ≡ mark_area = ap length counts ∙ standing_length m (standing_count m + 1) ready.lent.marks in
        let all : r₂ ≡ sets r (slot_width * slot) bytes = whole r₁ r₂ slot x noted laid is in
        record {
          lent =
              record {
                clocks = ready.lent.clocks;
                words = ready.lent.words;
                records = ap length all ∙ length-sets r (slot_width * slot) bytes ∙ ready.lent.records;
                marks = ap length cleared ∙ length-set m₁ (dirty_place mainframe p g) 0 ∙ long;
              };
          is =
              ap (λ (y : List ℕ). state_in mainframe c w r₂ y) cleared
              ∙ dirty_mark_written c w r₂ m₁ 0 long p g ready.from ready.to ready.page
              ∙ ap (λ (s : State). with_pages s (record { copies = s.pages.copies; twins = s.pages.twins; dirty = put_cell 0 s.pages.dirty p g 0 }))
              (ap (λ (y : List ℕ). state_in mainframe c w r₂ y) counts
              ∙ ap (λ (y : List ℕ). state_in mainframe c w y (with_standing m (standing_count m + 1))) all
              ∙ state_recorded slot at.0);
        }
      where
        whole : (r₁ r₂ : List ℕ) (slot x : ℕ) → r₁ ≡ sets r (slot_width * slot) (notice_bytes p x g) → r₂ ≡ sets r₁ (slot_width * slot + notice_width) (diff_bytes p g w) → x ≡ e
            → r₂ ≡ sets r (slot_width * slot) bytes
        whole r₁ r₂ slot x noted laid is =
            let third : slot_width * slot + notice_width ≡ suc (suc (suc (slot_width * slot))) = omega arith in
            laid ∙ ap (λ (k : ℕ). sets r₁ k (diff_bytes p g w)) third
            ∙ ap (λ (y : List ℕ). sets y (suc (suc (suc (slot_width * slot)))) (diff_bytes p g w)) (noted ∙ ap (λ (k : ℕ). sets r (slot_width * slot) (notice_bytes p k g)) is)
            ∙ (unfold notice_bytes in refl)

pub ruleset diff_laws = (words_row, diff_on_page, diff_fits, diff_laid_lem, rules)

pub ruleset change_laws = (change_clocks, count_fits, change_room, change_slot, change_mark, change_notice, change_made_lem, rules)
