-- Lent memory that passes the tests on its records meets the rules' conditions on records. Assumes nothing.
use Prim.Native.Nat.{ℕ, ◌+◌, ◌*◌, ◌≤◌, ◌<◌}
use native.Mathlib.Omega.{arith}
use mathlib.Core.Path.{◌≡◌, ◌∙◌}
use mathlib.Core.Bool.{Bool, true, not, ◌&&◌}
use mathlib.Core.List.{List, []}
use lib.ListN.{get_or, take, drop}
use lib.Dec.{leb, eqb}
use borrow.Author.Tests.{leb-true, lt-ltb, le-leb}
use Rattle.lists.specs.Tables.{every}
use Rattle.lists.proofs.Conditions.{and_left, and_right, and_both, Given, conjoined_holds}
use Rattle.lists.proofs.Tables.{every_at, every_holds}
use Rattle.limits.specs.Limits.{page_width, processor_limit, record_limit}
use Rattle.limits.specs.inner.Sizes.{diff_limit, slot_width}
use Rattle.diff.specs.Reading.{read_refusal}
use Rattle.rules.specs.InOrder.{present, slot_size, record_at, diff_legal, record_sound, same_notice, records_sound}
use Rattle.rules.specs.State.{mainframe, own}
use Rattle.rules.proofs.inorder.Conditions.{record_tests, record_tests_lem}
use Rattle.layout.specs.Areas.{records_in, state_in, standing_count}
use Rattle.layout.specs.inner.Marks.{page_count, processor_count, slot_interval, slot_length, slot_page, slot_processor}
use Rattle.inorder_records.specs.inner.Tests.{notice_holds, diff_holds, record_holds, notices_differ, unlike, records_hold_with}
use Rattle.inorder_records.proofs.Notices.{Notice, notice_says}
use Rattle.inorder.specs.inner.Tests.{own_entries}
use Rattle.inorder.proofs.StateReads.{record_processor, record_interval, record_page, record_length, record_diff, same_notice_read, own_of_read}
use Rattle.inorder.proofs.ClocksWhen.{held}

module _ (c w r m : List ℕ) (fit : processor_count m ≤ processor_limit) (few : standing_count m ≤ record_limit) where
  sound : (i : ℕ) → i < record_limit → notice_holds (own_entries c) (processor_count m) (page_count m) (slot_processor r i) (slot_interval r i) (slot_page r i) ≡ true
      → record_sound mainframe (held c w r m) (record_at (held c w r m) i) ≡ true
  unfolding record_tests Given present state_in
  sound i b e = go (notice_says (own_entries c) (processor_count m) (page_count m) (slot_processor r i) (slot_interval r i) (slot_page r i) e)
    where
      go : Notice (own_entries c) (processor_count m) (page_count m) (slot_processor r i) (slot_interval r i) (slot_page r i)
          → record_sound mainframe (held c w r m) (record_at (held c w r m) i) ≡ true
      go x =
          let made : slot_interval r i ≤ own (held c w r m) (slot_processor r i) = omega (arith, x.made_interval, own_of_read c w r m (slot_processor r i) x.from (omega (arith, x.to))) in
          record_tests_lem mainframe (held c w r m) (record_at (held c w r m) i)
          ∙ conjoined_holds (record_tests (held c w r m) (record_at (held c w r m) i))
          (rw (record_processor c w r m i b) (and_both _ _ (le-leb _ _ x.from) (le-leb _ _ x.to)))
          (rw (record_page c w r m i b) (lt-ltb _ _ x.page))
          (rw (record_interval c w r m i b) (le-leb _ _ x.some_interval))
          (rw (record_interval c w r m i b, record_processor c w r m i b) (le-leb _ _ made))

  legal : (i : ℕ) → i < record_limit → diff_holds r i ≡ true → diff_legal mainframe (held c w r m) i ≡ true
  unfolding diff_holds diff_legal slot_size mainframe
  legal i b e =
      let fits : slot_length r i ≤ diff_limit = leb-true _ _ (and_left _ (eqb (read_refusal page_width (take (slot_length r i) (drop (slot_width * i + 4) r))) 0) e) in
      and_both
      (leb (4 + get_or (get_or (held c w r m).records.slots i []) 3 0) slot_width)
      (eqb (read_refusal page_width (record_at (held c w r m) i).diff) 0)
      (le-leb (4 + get_or (get_or (held c w r m).records.slots i []) 3 0) slot_width (omega (arith, record_length c w r m i b)))
      (rw (record_diff c w r m i b fits) (and_right (leb (slot_length r i) diff_limit) _ e))

  pub records_sound_when : records_hold_with (own_entries c) r (processor_count m) (page_count m) (standing_count m) ≡ true → records_sound mainframe (held c w r m) ≡ true
  unfolding records_hold_with records_sound record_holds unlike state_in records_in
  records_sound_when e =
      and_both
      (every (held c w r m).records.standing (λ (i : ℕ). record_sound mainframe (held c w r m) (record_at (held c w r m) i) && diff_legal mainframe (held c w r m) i))
      (every (held c w r m).records.standing (λ (i : ℕ). every i (λ (j : ℕ). not (same_notice (record_at (held c w r m) i) (record_at (held c w r m) j)))))
      (every_holds (standing_count m) _ (λ i h. one i h))
      (every_holds (standing_count m) _ (λ i h. every_holds i _ (λ j k. unlike_at i j h k)))
    where
      one : (i : ℕ) → i < standing_count m → (record_sound mainframe (held c w r m) (record_at (held c w r m) i) && diff_legal mainframe (held c w r m) i) ≡ true
      one i h =
          let b : i < record_limit = omega arith in
          let both = every_at (standing_count m) (record_holds (own_entries c) r (processor_count m) (page_count m)) i (and_left _ (every (standing_count m) (unlike r)) e) h in
          let numbers : Bool = notice_holds (own_entries c) (processor_count m) (page_count m) (slot_processor r i) (slot_interval r i) (slot_page r i) in
          and_both (record_sound mainframe (held c w r m) (record_at (held c w r m) i)) (diff_legal mainframe (held c w r m) i)
          (sound i b (and_left numbers (diff_holds r i) both)) (legal i b (and_right numbers (diff_holds r i) both))

      unlike_at : (i j : ℕ) → i < standing_count m → j < i → not (same_notice (record_at (held c w r m) i) (record_at (held c w r m) j)) ≡ true
      unlike_at i j h k =
          same_notice_read c w r m i j (omega arith) (omega arith)
          ∙ every_at i (notices_differ r i) j (every_at (standing_count m) (unlike r) i (and_right (every (standing_count m) (record_holds (own_entries c) r (processor_count m) (page_count m))) _ e) h) k
