-- The areas hold their state and nothing else: the state that they hold, laid out again, is the areas themselves, where the low byte of the number of
-- records is a byte; and its tables have the sizes of the mainframe's. Rests on EncodingClocks. Assumes nothing.
use Prim.Native.Nat.{ℕ, suc, ◌+◌, ◌-◌, ◌*◌, ◌/◌, ◌%◌, ◌≤◌, ◌<◌}
use native.Mathlib.Omega.{arith}
use mathlib.Core.Path.{◌≡◌, refl, sym, ap, ◌∙◌}
use mathlib.Core.Bool.{true, ◌&&◌, and-eq-true_iff}
use mathlib.Core.List.{List, [], ◌∷◌, ◌++◌}
use lib.ListN.{length, get_or, take, drop}
use lib.Seq.{take_all, take-add}
use lib.Dec.{eqb}
use borrow.Author.Tests.{eqb-true, eq-eqb}
use Rattle.limits.specs.Limits.{interval_limit, job_limit, lock_limit, page_limit, page_width, processor_limit, record_limit, tally_limit}
use Rattle.limits.specs.Places.{first_arrived, standing_high, standing_place}
use Rattle.limits.specs.inner.Sizes.{clock_area, clock_width, copy_limit, first_awaited, first_dirty, first_holder, first_job_value, first_tally, first_turn, mark_area, queue_first, record_area, slot_width, word_area, word_limit}
use Rattle.rules.specs.InOrder.{slot_size}
use Rattle.rules.specs.State.{mainframe, Processor, Lock, Applied, Interval, Job, State, clock_of}
use Rattle.rules.proofs.inorder.Facts.{Sized, InOrder}
use Rattle.lists.specs.Tables.{tabulate}
use Rattle.layout.specs.Layout.{row_of, per_processor, join_rows}
use Rattle.layout.specs.Areas.{clock_row, clock_rows, copy_row, twin_row, word_rows, tally_place, value_place, word_places, arrived_place, holder_place, dirty_place, awaited_place, turn_place, first_place, jobs_place, mark_places, clocks_in, pages_in, records_in, marks_in, shared_in, state_in, clock_bytes, area_words, record_bytes, mark_bytes, sizes_right, right_sizes, areas, holding, standing_count}
use Rattle.layout.specs.inner.Needed.{Lent, Holds}
use Rattle.layout.specs.inner.Marks.{lock_count, page_count, processor_count, wish_mark}
use Rattle.lists.proofs.Tabulated.{length_tabulate}
use Rattle.layout.proofs.RowLaws.{length_row, length_per_processor, get_nobody, get_per_processor}
use Rattle.layout.proofs.ClockLaws.{holder_row_there, clock_read}
use Rattle.layout.proofs.PageLaws.{copy_row_there, twin_row_there, copy_read, twin_read}
use Rattle.layout.proofs.TallyLaws.{tally_at, value_at_lem}
use Rattle.layout.proofs.SlotLaws.{slot_there, slot_read}
use Rattle.layout.proofs.Joins.{join_rows_lem, join_per_processor, join_tables, tabulate_part}
use Rattle.layout.proofs.EncodingClocks.{clock_bytes_lem}

-- ---- the pages

module _ (w m : List ℕ) where
  joined_copies : join_rows (join_rows (pages_in mainframe w m).copies) ≡ take (page_width * copy_limit) w
  unfolding pages_in mainframe copy_row row_of
  joined_copies =
      join_tables processor_limit (λ p. tabulate page_limit (λ g. row_of page_width w (copy_row mainframe p g)))
      ∙ join_rows_lem processor_limit word_limit 0 w (λ k. join_rows (tabulate page_limit (λ g. row_of page_width w (copy_row mainframe (suc k) g))))
      (λ k b.
      join_rows_lem page_limit page_width (0 + word_limit * k) w (λ g. row_of page_width w (copy_row mainframe (suc k) g)) (λ g d. ap (λ (j : ℕ). take page_width (drop j w)) (at k g)))
    where
      at : (k g : ℕ) → page_width * copy_row mainframe (suc k) g ≡ 0 + word_limit * k + page_width * g
      at k g = omega arith

  joined_twins : join_rows (join_rows (pages_in mainframe w m).twins) ≡ take (page_width * copy_limit) (drop (page_width * copy_limit) w)
  unfolding pages_in mainframe twin_row copy_row row_of
  joined_twins =
      join_tables processor_limit (λ p. tabulate page_limit (λ g. row_of page_width w (twin_row mainframe p g)))
      ∙ join_rows_lem processor_limit word_limit (page_width * copy_limit) w (λ k. join_rows (tabulate page_limit (λ g. row_of page_width w (twin_row mainframe (suc k) g))))
      (λ k b.
      join_rows_lem page_limit page_width ((page_width * copy_limit) + word_limit * k) w (λ g. row_of page_width w (twin_row mainframe (suc k) g)) (λ g d. ap (λ (j : ℕ). take page_width (drop j w)) (at k g)))
    where
      at : (k g : ℕ) → page_width * twin_row mainframe (suc k) g ≡ (page_width * copy_limit) + word_limit * k + page_width * g
      at k g = omega arith

  module _ (h : length w ≡ word_area) where
    joined_posted : (shared_in mainframe w).posted ≡ take tally_limit (drop first_tally w)
    unfolding shared_in mainframe
    joined_posted =
        tabulate_part tally_limit first_tally w 0 (λ t. get_or w (tally_place mainframe 0 t) 0) (omega arith) (λ t b. ap (λ (j : ℕ). get_or w j 0) (omega (arith, tally_at 0 t)))

    joined_adds : join_rows (shared_in mainframe w).adds ≡ take (tally_limit * processor_limit) (drop (first_tally + tally_limit) w)
    unfolding shared_in mainframe
    joined_adds =
        join_per_processor processor_limit (λ p. tabulate tally_limit (λ t. get_or w (tally_place mainframe p t) 0))
        ∙ join_rows_lem processor_limit tally_limit (first_tally + tally_limit) w (λ k. tabulate tally_limit (λ t. get_or w (tally_place mainframe (suc k) t) 0))
        (λ k b.
        tabulate_part tally_limit (first_tally + tally_limit + tally_limit * k) w 0 (λ t. get_or w (tally_place mainframe (suc k) t) 0) (omega arith)
        (λ t d. ap (λ (j : ℕ). get_or w j 0) (omega (arith, tally_at (suc k) t))))

    joined_values : (shared_in mainframe w).values ≡ take job_limit (drop first_job_value w)
    unfolding shared_in mainframe
    joined_values = tabulate_part job_limit first_job_value w 0 (λ k. get_or w (value_place mainframe k) 0) (omega arith) (λ k b. ap (λ (j : ℕ). get_or w j 0) (value_at_lem k))

    -- the copies, twins, tallies and values laid out again are their area
    words_of : area_words (pages_in mainframe w m) (shared_in mainframe w) ≡ w
    unfolding area_words
    words_of =
        let posted : List ℕ = take tally_limit (drop first_tally w) in
        let adds : List ℕ = take (tally_limit * processor_limit) (drop (first_tally + tally_limit) w) in
        let values : List ℕ = take job_limit (drop first_job_value w) in
        rw (joined_copies, joined_twins, joined_posted, joined_adds, joined_values)
        (ap (λ (x : List ℕ). x ++ posted ++ adds ++ values) (sym (take-add (page_width * copy_limit) (page_width * copy_limit) w))
        ∙ ap (λ (x : List ℕ). x ++ adds ++ values) (sym (take-add first_tally tally_limit w))
        ∙ ap (λ (x : List ℕ). x ++ values) (sym (take-add (first_tally + tally_limit) (tally_limit * processor_limit) w))
        ∙ sym (take-add first_job_value job_limit w)
        ∙ take_all word_area w (omega arith))

-- ---- the records

-- the slots laid out again are their area
record_bytes_lem : (r m : List ℕ) → length r ≡ record_area → record_bytes (records_in mainframe r m) ≡ r
unfolding record_bytes records_in mainframe slot_size row_of
record_bytes_lem r m h =
    join_rows_lem record_limit slot_width 0 r (λ k. row_of slot_width r k) (λ k b. ap (λ (j : ℕ). take slot_width (drop j r)) (at k)) ∙ take_all record_area r (omega arith)
  where
    at : (k : ℕ) → slot_width * k ≡ 0 + slot_width * k
    at k = omega arith

-- ---- the marks

module _ (m : List ℕ) (h : length m ≡ mark_area) where
  arrived_marks_lem : drop 1 (marks_in mainframe m).arrived ≡ take processor_limit (drop first_arrived m)
  unfolding marks_in mainframe arrived_place
  arrived_marks_lem =
      tabulate_part processor_limit first_arrived m 0 (λ k. get_or m (arrived_place mainframe (suc k)) 0) (omega arith) (λ k b. ap (λ (j : ℕ). get_or m j 0) (at k))
    where
      at : (k : ℕ) → arrived_place mainframe (suc k) ≡ first_arrived + k
      at k = omega arith

  holder_marks : (marks_in mainframe m).holders ≡ take lock_limit (drop first_holder m)
  unfolding marks_in mainframe holder_place
  holder_marks = tabulate_part lock_limit first_holder m 0 (λ k. get_or m (holder_place mainframe k) 0) (omega arith) (λ k b. refl)

  dirty_marks : (w : List ℕ) → join_rows (pages_in mainframe w m).dirty ≡ take copy_limit (drop first_dirty m)
  unfolding pages_in mainframe dirty_place
  dirty_marks w =
      join_per_processor processor_limit (λ p. tabulate page_limit (λ g. get_or m (dirty_place mainframe p g) 0))
      ∙ join_rows_lem processor_limit page_limit first_dirty m (λ k. tabulate page_limit (λ g. get_or m (dirty_place mainframe (suc k) g) 0))
      (λ k b.
      tabulate_part page_limit (first_dirty + page_limit * k) m 0 (λ g. get_or m (dirty_place mainframe (suc k) g) 0) (omega arith) (λ g d. ap (λ (j : ℕ). get_or m j 0) (at k g)))
    where
      at : (k g : ℕ) → dirty_place mainframe (suc k) g ≡ first_dirty + page_limit * k + g
      at k g = omega arith

  awaited_marks : drop 1 (marks_in mainframe m).awaited ≡ take processor_limit (drop first_awaited m)
  unfolding marks_in mainframe awaited_place
  awaited_marks =
      tabulate_part processor_limit first_awaited m 0 (λ k. get_or m (awaited_place mainframe (suc k)) 0) (omega arith) (λ k b. ap (λ (j : ℕ). get_or m j 0) (at k))
    where
      at : (k : ℕ) → awaited_place mainframe (suc k) ≡ first_awaited + k
      at k = omega arith

  turn_marks : drop 1 (marks_in mainframe m).turns ≡ take processor_limit (drop first_turn m)
  unfolding marks_in mainframe turn_place
  turn_marks =
      tabulate_part processor_limit first_turn m 0 (λ k. get_or m (turn_place mainframe (suc k)) 0) (omega arith) (λ k b. ap (λ (j : ℕ). get_or m j 0) (at k))
    where
      at : (k : ℕ) → turn_place mainframe (suc k) ≡ first_turn + k
      at k = omega arith

  queue_marks : (marks_in mainframe m).first ∷ (marks_in mainframe m).jobs ∷ [] ≡ take (mark_area - queue_first) (drop queue_first m)
  unfolding marks_in mainframe first_place jobs_place tabulate
  queue_marks = tabulate_part (mark_area - queue_first) queue_first m 0 (λ k. get_or m (queue_first + k) 0) (omega arith) (λ k b. refl)

  module _ (byte : get_or m standing_place 0 < 256) where
    -- the two bytes of the number of records
    low_byte : standing_count m % 256 ≡ get_or m standing_place 0
    unfolding standing_count
    low_byte = omega arith

    high_byte : standing_count m / 256 ≡ get_or m standing_high 0
    unfolding standing_count
    high_byte = omega arith

    first_marks : processor_count m ∷ page_count m ∷ lock_count m ∷ standing_count m % 256 ∷ standing_count m / 256 ∷ wish_mark m ∷ [] ≡ take first_arrived m
    unfolding tabulate
    first_marks = rw (low_byte, high_byte) (tabulate_part first_arrived 0 m 0 (λ k. get_or m k 0) (omega arith) (λ k b. ap (λ (j : ℕ). get_or m j 0) (at k)))
      where
        at : (k : ℕ) → k ≡ 0 + k
        at k = omega arith

    -- the marks laid out again are their area
    mark_bytes_lem : (c w r : List ℕ) → mark_bytes (state_in mainframe c w r m) ≡ m
    unfolding mark_bytes state_in records_in marks_in
    mark_bytes_lem c w r =
        let arrived = take processor_limit (drop first_arrived m) in
        let holders = take lock_limit (drop first_holder m) in
        let dirty = take copy_limit (drop first_dirty m) in
        let awaited = take processor_limit (drop first_awaited m) in
        let turns = take processor_limit (drop first_turn m) in
        let queue = take (mark_area - queue_first) (drop queue_first m) in
        rw (dirty_marks w, arrived_marks_lem, holder_marks, awaited_marks, turn_marks, queue_marks)
        (ap (λ (s : List ℕ). s ++ arrived ++ holders ++ dirty ++ awaited ++ turns ++ queue) first_marks
        ∙ ap (λ (s : List ℕ). s ++ holders ++ dirty ++ awaited ++ turns ++ queue) (sym (take-add first_arrived processor_limit m))
        ∙ ap (λ (s : List ℕ). s ++ dirty ++ awaited ++ turns ++ queue) (sym (take-add first_holder lock_limit m))
        ∙ ap (λ (s : List ℕ). s ++ awaited ++ turns ++ queue) (sym (take-add first_dirty copy_limit m))
        ∙ ap (λ (s : List ℕ). s ++ turns ++ queue) (sym (take-add first_awaited processor_limit m))
        ∙ ap (λ (s : List ℕ). s ++ queue) (sym (take-add first_turn processor_limit m))
        ∙ sym (take-add queue_first (mark_area - queue_first) m)
        ∙ take_all mark_area m (omega arith))

-- no more records stand than a byte says
pub few_records : (m : List ℕ) → standing_count m ≤ record_limit → get_or m standing_place 0 < 256
unfolding standing_count
few_records m few = omega arith

-- ---- all four areas

-- the state that four areas hold, laid out again, is the areas
pub encoded : (c w r m : List ℕ) → Lent c w r m → get_or m standing_place 0 < 256
    → (clock_bytes (clocks_in mainframe c) ≡ c)
    × (area_words (pages_in mainframe w m) (shared_in mainframe w) ≡ w)
    × (record_bytes (records_in mainframe r m) ≡ r)
    × (mark_bytes (state_in mainframe c w r m) ≡ m)
encoded c w r m lent byte =
    (clock_bytes_lem c lent.clocks, words_of w m lent.words, record_bytes_lem r m lent.records, mark_bytes_lem m lent.marks byte c w r)

-- the tables of the state that the areas hold have the mainframe's sizes
pub lent_sized : (c w r m : List ℕ) → Lent c w r m → standing_count m ≤ record_limit → Sized mainframe (state_in mainframe c w r m)
unfolding state_in clocks_in pages_in records_in marks_in shared_in mainframe slot_size clock_of
lent_sized c w r m lent few =
    record {
      processors = length_per_processor processor_limit (λ p. row_of clock_width c (clock_row mainframe (Processor p)));
      nobody_clock = ap length (get_nobody processor_limit (λ p. row_of clock_width c (clock_row mainframe (Processor p))) []);
      locks = length_tabulate lock_limit (λ l. row_of clock_width c (clock_row mainframe (Lock l)));
      applied = length_per_processor processor_limit applied_clocks;
      nobody_applied = ap length (get_nobody processor_limit applied_clocks []);
      applied_row_lem = λ p h k. ap length (get_per_processor processor_limit applied_clocks p [] h k) ∙ length_tabulate page_limit (λ g. row_of clock_width c (clock_row mainframe (Applied p g)));
      intervals = length_per_processor processor_limit interval_clocks;
      nobody_interval = ap length (get_nobody processor_limit interval_clocks []);
      interval_row_lem =
          λ p h k. ap length (get_per_processor processor_limit interval_clocks p [] h k) ∙ length_per_processor interval_limit (λ i. row_of clock_width c (clock_row mainframe (Interval p i)));
      no_interval =
          λ p h k.
          ap (λ (t : List (List ℕ)). length (get_or t 0 [])) (get_per_processor processor_limit interval_clocks p [] h k)
          ∙ ap length (get_nobody interval_limit (λ i. row_of clock_width c (clock_row mainframe (Interval p i))) []);
      jobs = length_tabulate job_limit (λ k. row_of clock_width c (clock_row mainframe (Job k)));
      clocks =
          λ h b. ap length (clock_read c h b) ∙ length_row clock_width c (clock_row mainframe h) (omega (arith, holder_row_there h b, lent.clocks));
      copies = length_per_processor processor_limit copies;
      nobody_copy = ap length (get_nobody processor_limit copies []);
      copies_row = λ p h k. ap length (get_per_processor processor_limit copies p [] h k) ∙ length_tabulate page_limit (λ g. row_of page_width w (copy_row mainframe p g));
      copy =
          λ p g h k b.
          ap length (copy_read w m p g h k b) ∙ length_row page_width w (copy_row mainframe p g) (omega (arith, copy_row_there p g h k b, lent.words));
      twins = length_per_processor processor_limit twins;
      nobody_twin = ap length (get_nobody processor_limit twins []);
      twins_row = λ p h k. ap length (get_per_processor processor_limit twins p [] h k) ∙ length_tabulate page_limit (λ g. row_of page_width w (twin_row mainframe p g));
      twin =
          λ p g h k b.
          ap length (twin_read w m p g h k b) ∙ length_row page_width w (twin_row mainframe p g) (omega (arith, twin_row_there p g h k b, lent.words));
      dirty = length_per_processor processor_limit dirty;
      nobody_dirty = ap length (get_nobody processor_limit dirty []);
      dirty_row = λ p h k. ap length (get_per_processor processor_limit dirty p [] h k) ∙ length_tabulate page_limit (λ g. get_or m (dirty_place mainframe p g) 0);
      slots = length_tabulate record_limit (λ i. row_of slot_width r i);
      slot = λ i b. ap length (slot_read r m i b) ∙ length_row slot_width r i (omega (arith, slot_there i b, lent.records));
      few_standing = few;
      holders = length_tabulate lock_limit (λ l. get_or m (holder_place mainframe l) 0);
      arrived = ap suc (length_tabulate processor_limit (λ k. get_or m (arrived_place mainframe (suc k)) 0));
      awaited = ap suc (length_tabulate processor_limit (λ k. get_or m (awaited_place mainframe (suc k)) 0));
      turns = ap suc (length_tabulate processor_limit (λ k. get_or m (turn_place mainframe (suc k)) 0));
      posted = length_tabulate tally_limit (λ t. get_or w (tally_place mainframe 0 t) 0);
      values = length_tabulate job_limit (λ k. get_or w (value_place mainframe k) 0);
      adds = length_per_processor processor_limit adds;
      nobody_adds = ap length (get_nobody processor_limit adds []);
      adds_row = λ p h k. ap length (get_per_processor processor_limit adds p [] h k) ∙ length_tabulate tally_limit (λ t. get_or w (tally_place mainframe p t) 0);
    }
  where
    applied_clocks : ℕ → List (List ℕ)
    applied_clocks p = tabulate page_limit (λ g. row_of clock_width c (clock_row mainframe (Applied p g)))

    interval_clocks : ℕ → List (List ℕ)
    interval_clocks p = per_processor interval_limit (λ i. row_of clock_width c (clock_row mainframe (Interval p i)))

    copies : ℕ → List (List ℕ)
    copies p = tabulate page_limit (λ g. row_of page_width w (copy_row mainframe p g))

    twins : ℕ → List (List ℕ)
    twins p = tabulate page_limit (λ g. row_of page_width w (twin_row mainframe p g))

    dirty : ℕ → List ℕ
    dirty p = tabulate page_limit (λ g. get_or m (dirty_place mainframe p g) 0)

    adds : ℕ → List ℕ
    adds p = tabulate tally_limit (λ t. get_or w (tally_place mainframe p t) 0)

-- ---- the size

-- areas of the fixed sizes pass the test of sizes
pub lent_right : (c w r m : List ℕ) → Lent c w r m → sizes_right mainframe c w r m ≡ true
unfolding sizes_right clock_rows word_places word_rows mark_places first_place jobs_place slot_size mainframe
lent_right c w r m lent =
    rw (eq-eqb (length c) clock_area lent.clocks, eq-eqb (length w) word_area lent.words, eq-eqb (length r) record_area lent.records, eq-eqb (length m) mark_area lent.marks)

-- and areas that pass it have them
pub right_lent : (c w r m : List ℕ) → sizes_right mainframe c w r m ≡ true → Lent c w r m
unfolding sizes_right clock_rows word_places word_rows mark_places first_place jobs_place slot_size mainframe
right_lent c w r m e =
    let three = (and-eq-true_iff (eqb (length c) clock_area && eqb (length w) word_area && eqb (length r) record_area) (eqb (length m) mark_area)).0 e in
    let two = (and-eq-true_iff (eqb (length c) clock_area && eqb (length w) word_area) (eqb (length r) record_area)).0 three.0 in
    let one = (and-eq-true_iff (eqb (length c) clock_area) (eqb (length w) word_area)).0 two.0 in
    record {
      clocks = eqb-true (length c) clock_area one.0;
      words = eqb-true (length w) word_area one.1;
      records = eqb-true (length r) record_area two.1;
      marks = eqb-true (length m) mark_area three.1;
    }

-- the four tests one after the other
pub sizes_is : (c w r m : List ℕ)
    → right_sizes (areas c w r m) ≡ (eqb (length c) clock_area && eqb (length w) word_area && eqb (length r) record_area && eqb (length m) mark_area)
unfolding right_sizes areas sizes_right clock_rows word_places word_rows mark_places first_place jobs_place slot_size mainframe
sizes_is c w r m = refl

-- the same of the areas as one
pub sized_lent : (c w r m : List ℕ) → right_sizes (areas c w r m) ≡ true → Lent c w r m
unfolding right_sizes areas
sized_lent c w r m e = right_lent c w r m e

-- ---- the areas as one

-- areas of the right sizes are the areas that hold their state
pub held_again : (c w r m : List ℕ) → Lent c w r m → get_or m standing_place 0 < 256 → holding (state_in mainframe c w r m) ≡ areas c w r m
unfolding holding state_in
held_again c w r m h byte =
    ap (λ (x : List ℕ). areas x (area_words (pages_in mainframe w m) (shared_in mainframe w)) (record_bytes (records_in mainframe r m)) (mark_bytes (state_in mainframe c w r m))) (clock_bytes_lem c h.clocks)
    ∙ ap (λ (x : List ℕ). areas c x (record_bytes (records_in mainframe r m)) (mark_bytes (state_in mainframe c w r m))) (words_of w m h.words)
    ∙ ap (λ (x : List ℕ). areas c w x (mark_bytes (state_in mainframe c w r m))) (record_bytes_lem r m h.records)
    ∙ ap (λ (x : List ℕ). areas c w r x) (mark_bytes_lem m h.marks byte c w r)

-- areas that hold a state in order are the areas that the state gives
pub holding_is : (c w r m : List ℕ) (s : State) → Holds c w r m s → InOrder mainframe s → areas c w r m ≡ holding s
unfolding mainframe
holding_is c w r m s h o = sym (held_again c w r m h.lent (few_records m (rw standing o.sized.few_standing))) ∙ ap (λ (x : State). holding x) h.is
  where
    standing : standing_count m ≡ s.records.standing
    standing = unfold state_in records_in in ap (λ (x : State). x.records.standing) h.is
