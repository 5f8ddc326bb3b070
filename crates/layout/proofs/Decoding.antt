-- A state laid out as areas is held by them: decoded again it is the state itself, and the areas have the fixed sizes. It is asked that its tables have
-- the mainframe's sizes, and that nobody's places, of the arrived marks and of the marks of waiting, are 0. Rests on DecodingClocks and DecodingMarks. Assumes nothing.
use Prim.Native.Nat.{ℕ, zero, suc, ◌+◌, ◌-◌, ◌*◌, ◌/◌, ◌%◌, ◌≤◌, ◌<◌}
use native.Mathlib.Omega.{arith}
use native.Mathlib.Nat.{div-add-mod'}
use mathlib.Core.Path.{◌≡◌, sym, ap, ◌∙◌}
use mathlib.Core.List.{List, [], ◌++◌}
use lib.ListN.{length, get_or, take, drop, length-append, get_or-append}
use Rattle.lists.specs.Tables.{cell, tabulate}
use Rattle.limits.specs.Limits.{job_limit, page_limit, page_width, processor_limit, record_limit, tally_limit}
use Rattle.limits.specs.inner.Sizes.{copy_limit, first_job_value, first_tally, record_area, slot_width, word_area, word_limit}
use Rattle.rules.specs.InOrder.{slot_size}
use Rattle.rules.specs.State.{mainframe, copy_of, twin_of, State}
use Rattle.rules.proofs.inorder.Facts.{Sized}
use Rattle.rules.proofs.order.Nobody.{NobodyMarked}
use Rattle.layout.specs.Layout.{row_of, join_rows}
use Rattle.layout.specs.Areas.{copy_row, twin_row, tally_place, value_place, pages_in, records_in, marks_in, shared_in, state_in, clock_bytes, area_words, record_bytes, mark_bytes, standing_count}
use Rattle.layout.specs.inner.Needed.{Lent}
use Rattle.lists.proofs.Tabulated.{tabulate_same, tabulate_get}
use Rattle.layout.proofs.RowLaws.{page_table_same}
use Rattle.layout.proofs.TallyLaws.{tally_at, value_at_lem}
use Rattle.layout.proofs.Cuts.{part_before, part_behind, get_behind, length_joined, joined_row, joined_get, table_joined, table_of_elements, length_pages, page_cut}
use Rattle.layout.proofs.DecodingClocks.{clock_size, clocks_again}
use Rattle.layout.proofs.DecodingMarks.{marks_of, holders_again, arrived_again, awaited_again, turns_again, first_again, jobs_again, dirty_again}

-- ---- the pages: the copies, then the twins

module _ (s : State) (h : Sized mainframe s) where
  copies_size : length (join_rows (join_rows s.pages.copies)) ≡ (page_width * copy_limit)
  unfolding mainframe copy_of
  copies_size = length_pages s.pages.copies processor_limit page_limit page_width h.copies h.nobody_copy h.copies_row h.copy

  twins_size : length (join_rows (join_rows s.pages.twins)) ≡ (page_width * copy_limit)
  unfolding mainframe twin_of
  twins_size = length_pages s.pages.twins processor_limit page_limit page_width h.twins h.nobody_twin h.twins_row h.twin

  adds_joined : join_rows s.shared.adds ≡ join_rows (tabulate processor_limit (λ k. get_or s.shared.adds (suc k) []))
  unfolding mainframe
  adds_joined = table_joined s.shared.adds processor_limit h.adds h.nobody_adds

  adds_wide : (k : ℕ) → k < processor_limit → length (get_or s.shared.adds (suc k) []) ≡ tally_limit
  unfolding mainframe
  adds_wide k b = h.adds_row (suc k) (omega arith) (omega arith)

  adds_size : length (join_rows s.shared.adds) ≡ tally_limit * processor_limit
  adds_size = ap length adds_joined ∙ length_joined processor_limit tally_limit (λ k. get_or s.shared.adds (suc k) []) adds_wide

  posted_size : length s.shared.posted ≡ tally_limit
  unfolding mainframe
  posted_size = h.posted

  values_size : length s.shared.values ≡ job_limit
  unfolding mainframe
  values_size = h.values

  -- the copies and twins
  abbrev page_words : List ℕ
  page_words = join_rows (join_rows s.pages.copies) ++ join_rows (join_rows s.pages.twins)

  pages_size : length page_words ≡ first_tally
  pages_size = length-append (join_rows (join_rows s.pages.copies)) (join_rows (join_rows s.pages.twins)) ∙ omega (arith, copies_size, twins_size)

  totals_size : length (page_words ++ s.shared.posted) ≡ first_tally + tally_limit
  totals_size = length-append page_words s.shared.posted ∙ omega (arith, pages_size, posted_size)

  -- those with the tallies
  abbrev tally_words : List ℕ
  tally_words = page_words ++ s.shared.posted ++ join_rows s.shared.adds

  tallies_size : length tally_words ≡ first_job_value
  tallies_size = length-append (page_words ++ s.shared.posted) (join_rows s.shared.adds) ∙ omega (arith, totals_size, adds_size)

  word_size : length (area_words s.pages s.shared) ≡ word_area
  unfolding area_words
  word_size = length-append tally_words s.shared.values ∙ omega (arith, tallies_size, values_size)

  -- a tally lies before the values
  tally_get : (j : ℕ) → j < first_job_value → get_or (area_words s.pages s.shared) j 0 ≡ get_or tally_words j 0
  unfolding area_words
  tally_get j b = get_or-append tally_words s.shared.values 0 j (omega (arith, tallies_size, b))

  -- a row of a page lies before the tallies
  page_part : (j : ℕ) → j + page_width ≤ first_tally → take page_width (drop j (area_words s.pages s.shared)) ≡ take page_width (drop j page_words)
  unfolding area_words
  page_part j b =
      part_before page_width j tally_words s.shared.values (omega (arith, tallies_size))
      ∙ part_before page_width j (page_words ++ s.shared.posted) (join_rows s.shared.adds) (omega (arith, totals_size))
      ∙ part_before page_width j page_words s.shared.posted (omega (arith, pages_size))

  copies_again : (m : List ℕ) → (pages_in mainframe (area_words s.pages s.shared) m).copies ≡ s.pages.copies
  unfolding pages_in mainframe copy_row row_of copy_of
  copies_again m =
      page_table_same processor_limit page_limit (λ p g. row_of page_width (area_words s.pages s.shared) (copy_row mainframe p g)) (λ p g. cell [] s.pages.copies p g)
      (λ p g a b c.
      ap (λ (j : ℕ). take page_width (drop j (area_words s.pages s.shared))) (at p g)
      ∙ page_part (word_limit * (p - 1) + page_width * g) (omega (arith, a, b, c))
      ∙ part_before page_width (word_limit * (p - 1) + page_width * g) (join_rows (join_rows s.pages.copies)) (join_rows (join_rows s.pages.twins))
      (omega (arith, copies_size, a, b, c))
      ∙ page_cut s.pages.copies processor_limit page_limit page_width h.copies h.nobody_copy h.copies_row h.copy p g a b c)
      ∙ table_of_elements s.pages.copies processor_limit h.copies h.nobody_copy page_limit [] h.copies_row
    where
      at : (p g : ℕ) → page_width * copy_row mainframe p g ≡ word_limit * (p - 1) + page_width * g
      at p g = omega arith

  twins_again : (m : List ℕ) → (pages_in mainframe (area_words s.pages s.shared) m).twins ≡ s.pages.twins
  unfolding pages_in mainframe twin_row copy_row row_of twin_of
  twins_again m =
      page_table_same processor_limit page_limit (λ p g. row_of page_width (area_words s.pages s.shared) (twin_row mainframe p g)) (λ p g. cell [] s.pages.twins p g)
      (λ p g a b c.
      ap (λ (j : ℕ). take page_width (drop j (area_words s.pages s.shared))) (at p g)
      ∙ page_part (page_width * copy_limit + (word_limit * (p - 1) + page_width * g)) (omega (arith, a, b, c))
      ∙ part_behind page_width (page_width * copy_limit) (word_limit * (p - 1) + page_width * g) (join_rows (join_rows s.pages.copies)) (join_rows (join_rows s.pages.twins)) copies_size
      ∙ page_cut s.pages.twins processor_limit page_limit page_width h.twins h.nobody_twin h.twins_row h.twin p g a b c)
      ∙ table_of_elements s.pages.twins processor_limit h.twins h.nobody_twin page_limit [] h.twins_row
    where
      at : (p g : ℕ) → page_width * twin_row mainframe p g ≡ (page_width * copy_limit) + (word_limit * (p - 1) + page_width * g)
      at p g = omega arith

  posted_again : (shared_in mainframe (area_words s.pages s.shared)).posted ≡ s.shared.posted
  unfolding shared_in mainframe
  posted_again =
      tabulate_same tally_limit (λ t. get_or (area_words s.pages s.shared) (tally_place mainframe 0 t) 0) (λ t. get_or s.shared.posted t 0)
      (λ t b.
      let at : tally_place mainframe 0 t ≡ first_tally + t = omega (arith, tally_at 0 t) in
      ap (λ (j : ℕ). get_or (area_words s.pages s.shared) j 0) at
      ∙ tally_get (first_tally + t) (omega (arith, b))
      ∙ get_or-append (page_words ++ s.shared.posted) (join_rows s.shared.adds) 0 (first_tally + t) (omega (arith, totals_size, b))
      ∙ get_behind first_tally t page_words s.shared.posted 0 pages_size)
      ∙ tabulate_get s.shared.posted tally_limit 0 posted_size

  adds_again : (shared_in mainframe (area_words s.pages s.shared)).adds ≡ s.shared.adds
  unfolding shared_in mainframe
  adds_again =
      page_table_same processor_limit tally_limit (λ p t. get_or (area_words s.pages s.shared) (tally_place mainframe p t) 0) (λ p t. cell 0 s.shared.adds p t) each
      ∙ table_of_elements s.shared.adds processor_limit h.adds h.nobody_adds tally_limit 0 h.adds_row
    where
      each : (p t : ℕ) → 1 ≤ p → p ≤ processor_limit → t < tally_limit → get_or (area_words s.pages s.shared) (tally_place mainframe p t) 0 ≡ cell 0 s.shared.adds p t
      each zero t a b c = absurd (omega arith)
      each (suc k) t a b c =
          let at : tally_place mainframe (suc k) t ≡ first_tally + tally_limit + (tally_limit * k + t) = omega (arith, tally_at (suc k) t) in
          ap (λ (j : ℕ). get_or (area_words s.pages s.shared) j 0) at
          ∙ tally_get (first_tally + tally_limit + (tally_limit * k + t)) (omega (arith, b, c))
          ∙ get_behind (first_tally + tally_limit) (tally_limit * k + t) (page_words ++ s.shared.posted) (join_rows s.shared.adds) 0 totals_size
          ∙ ap (λ (l : List ℕ). get_or l (tally_limit * k + t) 0) adds_joined
          ∙ joined_get processor_limit tally_limit (λ k. get_or s.shared.adds (suc k) []) k t 0 adds_wide (omega arith) c

  values_again : (shared_in mainframe (area_words s.pages s.shared)).values ≡ s.shared.values
  unfolding shared_in mainframe area_words
  values_again =
      tabulate_same job_limit (λ k. get_or (area_words s.pages s.shared) (value_place mainframe k) 0) (λ k. get_or s.shared.values k 0)
      (λ k b. ap (λ (j : ℕ). get_or (area_words s.pages s.shared) j 0) (value_at_lem k) ∙ get_behind first_job_value k tally_words s.shared.values 0 tallies_size)
      ∙ tabulate_get s.shared.values job_limit 0 values_size

-- ---- the records

module _ (s : State) (h : Sized mainframe s) where
  slots_joined : join_rows s.records.slots ≡ join_rows (tabulate record_limit (λ i. get_or s.records.slots i []))
  unfolding mainframe
  slots_joined = ap (λ (t : List (List ℕ)). join_rows t) (sym (tabulate_get s.records.slots record_limit [] h.slots))

  record_size : length (record_bytes s.records) ≡ record_area
  unfolding record_bytes mainframe slot_size
  record_size = ap length slots_joined ∙ length_joined record_limit slot_width (λ i. get_or s.records.slots i []) h.slot

  slots_again : tabulate record_limit (λ i. row_of slot_width (record_bytes s.records) i) ≡ s.records.slots
  unfolding record_bytes row_of mainframe slot_size
  slots_again =
      tabulate_same record_limit (λ i. row_of slot_width (join_rows s.records.slots) i) (λ i. get_or s.records.slots i [])
      (λ i b.
      ap (λ (r : List ℕ). take slot_width (drop (slot_width * i) r)) slots_joined
      ∙ joined_row record_limit slot_width (λ i. get_or s.records.slots i []) i h.slot b)
      ∙ tabulate_get s.records.slots record_limit [] h.slots

-- ---- the whole state

module _ (s : State) (h : Sized mainframe s) where
  -- the areas of a state have the fixed sizes
  pub encoded_lent : Lent (clock_bytes s.clocks) (area_words s.pages s.shared) (record_bytes s.records) (mark_bytes s)
  encoded_lent = record { clocks = clock_size s h; words = word_size s h; records = record_size s h; marks = (marks_of s h).long }

  -- and hold it
  pub decoded : NobodyMarked s.marks
      → state_in mainframe (clock_bytes s.clocks) (area_words s.pages s.shared) (record_bytes s.records) (mark_bytes s) ≡ s
  unfolding state_in pages_in records_in marks_in shared_in mark_bytes standing_count mainframe slot_size
  decoded z =
      λ i. record {
        counts = s.counts;
        clocks = clocks_again s h i;
        pages = record { copies = copies_again s h (mark_bytes s) i; twins = twins_again s h (mark_bytes s) i; dirty = dirty_again s h (area_words s.pages s.shared) i };
        records = record { standing = stands i; slots = slots_again s h i };
        marks =
            record {
              holders = holders_again s h i;
              arrived = arrived_again s h z.arrived i;
              wanted = s.marks.wanted;
              awaited = awaited_again s h z.awaited i;
              turns = turns_again s h z.turn i;
              first = first_again s h i;
              jobs = jobs_again s h i;
            };
        shared = record { posted = posted_again s h i; adds = adds_again s h i; values = values_again s h i };
      }
    where
      stands : s.records.standing % 256 + 256 * (s.records.standing / 256) ≡ s.records.standing
      stands = omega (arith, div-add-mod' s.records.standing 256)
