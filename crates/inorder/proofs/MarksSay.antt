-- Lent memory that holds a state in order passes the tests on its marks and records, and so all tests. Assumes nothing.
use Prim.Native.Nat.{ℕ, zero, suc, ◌+◌, ◌-◌, ◌*◌, ◌≤◌, ◌<◌}
use native.Mathlib.Omega.{arith}
use mathlib.Core.Path.{◌≡◌, refl, sym, ap, ◌∙◌}
use mathlib.Core.Bool.{Bool, true, false, cond, not, ◌||◌}
use mathlib.Core.Logic.{◌⊎◌, inl, inr}
use mathlib.Core.List.{List}
use lib.ListN.{get_or, take, drop}
use lib.Dec.{leb, ltb, eqb}
use borrow.Author.Tests.{ltb-false, leb-true, eqb-true, not-true, not-false, lt-ltb, le-ltb, le-leb, eq-eqb, ne_eqb}
use Rattle.lists.specs.Tables.{every, any, total}
use Rattle.lists.proofs.Conditions.{and_left, and_right, and_both}
use Rattle.lists.proofs.Tables.{every_holds, any_holds}
use Rattle.limits.specs.Limits.{interval_limit, job_limit, lock_limit, page_limit, page_width, processor_limit, record_limit}
use Rattle.limits.specs.Places.{first_arrived}
use Rattle.limits.specs.inner.Sizes.{diff_limit, first_dirty, first_holder, slot_width}
use Rattle.diff.specs.Reading.{read_refusal}
use Rattle.rules.specs.InOrder.{present, slot_size}
use Rattle.rules.specs.State.{mainframe, dirty_at, own, holder, has_arrived}
use Rattle.rules.proofs.inorder.Facts.{RecordSound, InOrder}
use Rattle.layout.specs.Areas.{records_in, marks_in, state_in, standing_count}
use Rattle.layout.specs.inner.Marks.{first_mark, jobs_mark, lock_count, page_count, processor_count, slot_interval, slot_length, slot_page, slot_processor}
use Rattle.inorder_marks.specs.inner.Tests.{zero_at, pages_of, may_be_dirty, dirty_hold, holder_within, holders_hold, arrived_hold, dirty_of, queue_holds, room_holds, marks_hold_with}
use Rattle.inorder_records.specs.inner.Tests.{notice_holds, diff_holds, record_holds, notices_differ, unlike, records_hold_with}
use Rattle.inorder.specs.inner.Tests.{own_entries, counts_hold, areas_hold_with, areas_hold}
use Rattle.inorder.proofs.PlaceFacts.{marks_zero_when}
use Rattle.inorder.proofs.StateReads.{own_read, dirty_mark_read, arrived_mark_read, holder_mark_read, dirty_pages_read, record_processor, record_interval, record_page, record_length, record_diff, same_notice_read, present_read, page_present_read, lock_present_read, own_of_read}
use Rattle.inorder.proofs.ClocksSay.{clocks_say, copies_say, twins_say, adds_say}
use Rattle.inorder.proofs.LineConditions.{lines_say}

module _ (c w r m : List ℕ) (o : InOrder mainframe (state_in mainframe c w r m)) where
  -- ---- marks

  -- the mark of a clean page is 0
  clean_mark : (k g : ℕ) → k < processor_limit → g < page_limit → dirty_at (state_in mainframe c w r m).pages (suc k) g ≡ false → get_or m (first_dirty + page_limit * k + g) 0 ≡ 0
  unfolding zero_at
  clean_mark k g a b e = eqb-true _ _ (not-false (zero_at m (first_dirty + page_limit * k) g) (sym (dirty_mark_read c w r m k g a b) ∙ e))

  dirty_say : every processor_limit (dirty_hold (own_entries c) m (processor_count m) (page_count m)) ≡ true
  unfolding dirty_hold may_be_dirty mainframe
  dirty_say = every_holds processor_limit (dirty_hold (own_entries c) m (processor_count m) (page_count m)) each
    where
      not_with_63 : (k g : ℕ) → k < processor_limit → interval_limit ≤ get_or (own_entries c) k 0 → (b : Bool) → dirty_at (state_in mainframe c w r m).pages (suc k) g ≡ b → b ≡ false
      not_with_63 k g a h true e = absurd (omega (arith, o.dirty_has_interval (suc k) g e, own_read c w r m k a))
      not_with_63 k g a h false e = refl

      clean : (k g : ℕ) → k < processor_limit → g < page_limit → (b : Bool) → ltb (get_or (own_entries c) k 0) interval_limit ≡ b → cond b (pages_of (processor_count m) (page_count m) k) 0 ≤ g
          → dirty_at (state_in mainframe c w r m).pages (suc k) g ≡ false
      clean k g a n true e h = o.absent_clean (suc k) g (page_present_read c w r m k g ∙ le-ltb g _ h)
      clean k g a n false e h = not_with_63 k g a (ltb-false (get_or (own_entries c) k 0) interval_limit e) (dirty_at (state_in mainframe c w r m).pages (suc k) g) refl

      each : (k : ℕ) → k < processor_limit → dirty_hold (own_entries c) m (processor_count m) (page_count m) k ≡ true
      each k a =
          marks_zero_when m (first_dirty + page_limit * k) page_limit (may_be_dirty (own_entries c) (processor_count m) (page_count m) k)
          (λ g h n. clean_mark k g a n (clean k g a n (ltb (get_or (own_entries c) k 0) interval_limit) refl h))

  holders_say : holders_hold m (processor_count m) (lock_count m) ≡ true
  unfolding holders_hold holder_within present state_in mainframe
  holders_say =
      and_both (every (lock_count m) (holder_within m (processor_count m))) (every (lock_limit - lock_count m) (zero_at m (first_holder + lock_count m)))
      (every_holds (lock_count m) (holder_within m (processor_count m)) (λ l h.
      let n : l < lock_limit = omega (arith, h, o.locks_fit) in
      let few = within l n (o.holder_present l) in
      and_both (leb (get_or m (first_holder + l) 0) (processor_count m)) (eqb (get_or m (first_holder + l) 0) 0 || zero_at m first_arrived (get_or m (first_holder + l) 0 - 1)) (le-leb _ _ few)
      (away l n few (get_or m (first_holder + l) 0) refl (o.holder_away l))))
      (marks_zero_when m first_holder lock_limit (lock_count m) (λ l h n. sym (holder_mark_read c w r m l n) ∙ o.absent_not_held l (lock_present_read c w r m l ∙ le-ltb l (lock_count m) h)))
    where
      within : (l : ℕ) → l < lock_limit → (holder (state_in mainframe c w r m) l ≡ 0) ⊎ (present (state_in mainframe c w r m) (holder (state_in mainframe c w r m) l) ≡ true)
          → get_or m (first_holder + l) 0 ≤ processor_count m
      within l n (inl e) = omega (arith, e, holder_mark_read c w r m l n)
      within l n (inr e) =
          let there : holder (state_in mainframe c w r m) l ≤ processor_count m = leb-true _ _ (and_right (leb 1 (holder (state_in mainframe c w r m) l)) (leb (holder (state_in mainframe c w r m) l) (processor_count m)) e) in
          omega (arith, holder_mark_read c w r m l n)

      away : (l : ℕ) → l < lock_limit → get_or m (first_holder + l) 0 ≤ processor_count m → (q : ℕ) → get_or m (first_holder + l) 0 ≡ q
          → (holder (state_in mainframe c w r m) l ≡ 0) ⊎ (has_arrived (state_in mainframe c w r m) (holder (state_in mainframe c w r m) l) ≡ false)
          → (eqb (get_or m (first_holder + l) 0) 0 || zero_at m first_arrived (get_or m (first_holder + l) 0 - 1)) ≡ true
      away l n few zero z a = rw (eq-eqb (get_or m (first_holder + l) 0) 0 z)
      away l n few (suc k) z (inl e) = absurd (omega (arith, z, e, holder_mark_read c w r m l n))
      away l n few (suc k) z (inr e) =
          let place : suc k - 1 ≡ k = omega arith in
          let who : holder (state_in mainframe c w r m) l ≡ suc k = holder_mark_read c w r m l n ∙ z in
          let mark : not (zero_at m first_arrived k) ≡ false = sym (arrived_mark_read c w r m k (omega (arith, few, z, o.processors_fit))) ∙ (rw who at e) in
          rw (z, ne_eqb (suc k) 0 (omega arith), place) (not-false (zero_at m first_arrived k) mark)

  arrived_say : arrived_hold m (processor_count m) ≡ true
  unfolding arrived_hold zero_at state_in mainframe
  arrived_say =
      and_both (every (processor_limit - processor_count m) (zero_at m (first_arrived + processor_count m))) (any (processor_count m) (zero_at m first_arrived))
      (marks_zero_when m first_arrived processor_limit (processor_count m)
      (λ k h n. eqb-true _ _ (not-false (zero_at m first_arrived k) (sym (arrived_mark_read c w r m k n) ∙ o.absent_not_arrived (suc k) (omega arith) (present_read c w r m k ∙ le-ltb k (processor_count m) h)))))
      (any_holds (processor_count m) (zero_at m first_arrived) o.someone_missing_lem.at o.someone_missing_lem.below
      (missing o.someone_missing_lem.at (omega (arith, o.someone_missing_lem.below, o.processors_fit)) o.someone_missing_lem.passes))
    where
      missing : (k : ℕ) → k < processor_limit → not (has_arrived (state_in mainframe c w r m) (suc k)) ≡ true → zero_at m first_arrived k ≡ true
      missing k n e = not-false (zero_at m first_arrived k) (sym (arrived_mark_read c w r m k n) ∙ not-true (has_arrived (state_in mainframe c w r m) (suc k)) e)

  room_say : room_holds m (processor_count m) (page_count m) (standing_count m) ≡ true
  unfolding room_holds state_in records_in mainframe
  room_say = le-leb (standing_count m + total (processor_count m) (dirty_of m (page_count m))) record_limit (omega (arith, o.room, dirty_pages_read c w r m o.processors_fit o.pages_fit))

  queue_say : queue_holds m ≡ true
  unfolding queue_holds state_in marks_in mainframe
  queue_say = and_both (ltb (first_mark m) job_limit) (leb (jobs_mark m) job_limit) (lt-ltb _ _ (go o.first_there)) (le-leb _ _ o.few_jobs)
    where
      go : (job_limit ≡ 0) ⊎ (first_mark m < job_limit) → first_mark m < job_limit
      go (inl z) = absurd (omega (arith, z))
      go (inr h) = h

  marks_say : marks_hold_with (own_entries c) m (processor_count m) (page_count m) (lock_count m) (standing_count m) ≡ true
  unfolding marks_hold_with
  marks_say = rw (dirty_say, holders_say, arrived_say, lines_say c w r m o, queue_say, room_say)

  -- ---- records

  few : standing_count m ≤ record_limit
  unfolding state_in records_in mainframe
  few = o.sized.few_standing

  notice_say : (i : ℕ) → i < record_limit → RecordSound mainframe (state_in mainframe c w r m) i
      → notice_holds (own_entries c) (processor_count m) (page_count m) (slot_processor r i) (slot_interval r i) (slot_page r i) ≡ true
  unfolding notice_holds present state_in mainframe
  notice_say i b z =
      let there : present (state_in mainframe c w r m) (slot_processor r i) ≡ true = rw (record_processor c w r m i b) at z.processor in
      let from : 1 ≤ slot_processor r i = leb-true _ _ (and_left (leb 1 (slot_processor r i)) (leb (slot_processor r i) (processor_count m)) there) in
      let to : slot_processor r i ≤ processor_count m = leb-true _ _ (and_right (leb 1 (slot_processor r i)) (leb (slot_processor r i) (processor_count m)) there) in
      let made : slot_interval r i ≤ own (state_in mainframe c w r m) (slot_processor r i) = rw (record_interval c w r m i b, record_processor c w r m i b) at z.made_interval in
      rw (le-leb _ _ from, le-leb _ _ to, lt-ltb (slot_page r i) (page_count m) (omega (arith, z.page, record_page c w r m i b)), le-leb 1 (slot_interval r i) (omega (arith, z.some_interval, record_interval c w r m i b)))
      (le-leb (slot_interval r i) (get_or (own_entries c) (slot_processor r i - 1) 0) (omega (arith, made, own_of_read c w r m (slot_processor r i) from (omega (arith, to, o.processors_fit)))))

  diff_say : (i : ℕ) → i < record_limit → RecordSound mainframe (state_in mainframe c w r m) i → diff_holds r i ≡ true
  unfolding diff_holds slot_size mainframe
  diff_say i b z =
      let fits : slot_length r i ≤ diff_limit = omega (arith, z.fits, record_length c w r m i b) in
      and_both (leb (slot_length r i) diff_limit) (eqb (read_refusal page_width (take (slot_length r i) (drop (slot_width * i + 4) r))) 0)
      (le-leb _ _ fits)
      (eq-eqb _ _ (ap (λ (d : List ℕ). read_refusal page_width d) (sym (record_diff c w r m i b fits)) ∙ z.legal))

  records_say : records_hold_with (own_entries c) r (processor_count m) (page_count m) (standing_count m) ≡ true
  unfolding records_hold_with record_holds unlike state_in records_in
  records_say =
      and_both (every (standing_count m) (record_holds (own_entries c) r (processor_count m) (page_count m))) (every (standing_count m) (unlike r))
      (every_holds (standing_count m) (record_holds (own_entries c) r (processor_count m) (page_count m))
      (λ i h. let b : i < record_limit = omega (arith, few) in and_both _ _ (notice_say i b (o.record_sound_lem i h)) (diff_say i b (o.record_sound_lem i h))))
      (every_holds (standing_count m) (unlike r)
      (λ i h. every_holds i (notices_differ r i)
      (λ j l. sym (same_notice_read c w r m i j (omega (arith, few)) (omega (arith, few))) ∙ ap not (o.distinct i j h l))))

  -- ---- all

  counts_say : counts_hold (processor_count m) (page_count m) (lock_count m) (standing_count m) ≡ true
  unfolding counts_hold state_in mainframe
  counts_say =
      rw (le-leb _ _ o.some_processor, le-leb _ _ o.processors_fit, le-leb _ _ o.some_page, le-leb _ _ o.pages_fit, le-leb _ _ o.some_lock, le-leb _ _ o.locks_fit) (le-leb _ _ few)

  -- a state in order passes all tests
  pub areas_say : areas_hold c w r m ≡ true
  unfolding areas_hold areas_hold_with
  areas_say = rw (counts_say, clocks_say c w r m o, copies_say c w r m o, twins_say c w r m o, adds_say c w r m o, marks_say, records_say)
