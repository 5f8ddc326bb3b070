-- Lent memory passes the tests on its places just when the state that it holds is in order. Assumes nothing.
use Prim.Native.Nat.{ℕ}
use mathlib.Core.Path.{◌≡◌, sym, ap, ◌∙◌}
use mathlib.Core.Bool.{Bool, true, ◌&&◌}
use mathlib.Core.List.{List}
use lib.Dec.{leb}
use borrow.Author.Tests.{le-leb}
use Rattle.lists.specs.Tables.{every}
use Rattle.lists.proofs.Conditions.{and_left, and_right, and_both, Given, conjoined_holds}
use Rattle.limits.specs.Limits.{lock_limit, page_limit, processor_limit}
use Rattle.limits.specs.inner.Sizes.{copy_limit}
use Rattle.rules.specs.InOrder.{in_range, counts_in_range, absent_zero, is_in_order}
use Rattle.rules.specs.State.{mainframe, standing}
use Rattle.rules.proofs.inorder.Conditions.{absent_tests, absent_tests_lem, counts_tests, counts_tests_lem, order_tests, order_tests_lem}
use Rattle.rules.proofs.inorder.Facts.{Sized}
use Rattle.rules.proofs.inorder.InOrderSays.{in_order_says}
use Rattle.rules.proofs.inorder.InOrderWhen.{sized_when}
use Rattle.layout.specs.Areas.{state_in, standing_count}
use Rattle.layout.specs.inner.Needed.{Lent}
use Rattle.layout.specs.inner.Marks.{lock_count, page_count, processor_count}
use Rattle.layout.proofs.Encoding.{lent_sized, lent_right}
use Rattle.inorder_marks.specs.inner.Tests.{dirty_hold, holders_hold, arrived_hold, room_holds, lines_hold, queue_holds, marks_hold_with}
use Rattle.inorder_records.specs.inner.Tests.{records_hold_with}
use Rattle.inorder.specs.Areas.{areas_in_order}
use Rattle.inorder.specs.inner.Tests.{own_entries, clocks_hold_with, words_hold, adds_hold, counts_hold, areas_hold_with, areas_hold}
use Rattle.inorder.proofs.AreaTests.{counts_in, counts_fit}
use Rattle.inorder.proofs.PlaceFacts.{same_truth}
use Rattle.inorder.proofs.MarksSay.{areas_say}
use Rattle.inorder.proofs.ClocksWhen.{held, ClocksPass, clocks_pass}
use Rattle.inorder.proofs.ClockConditions.{absent_clocks, absent_entries, later_intervals_when, entries_known_when, applied_known_when}
use Rattle.inorder.proofs.PageConditions.{absent_copies, absent_twins, absent_adds, absent_clean, dirty_have_interval_when, absent_not_held, holders_present_when, holders_away_when, queue_sound_when, absent_not_arrived, someone_missing_when, room_kept_when}
use Rattle.inorder.proofs.RecordConditions.{records_sound_when}
use Rattle.inorder.proofs.LineConditions.{absent_awake, absent_turn, lines_sound_when}

-- the tests on the four areas pass
record AreasPass (c w r m : List ℕ) (processors pages locks standing : ℕ) : Type 0 where
  pub clocks : ClocksPass c processors pages locks
  pub copies : every processor_limit (words_hold w 0 processors pages) ≡ true
  pub twins : every processor_limit (words_hold w copy_limit processors pages) ≡ true
  pub adds : adds_hold w processors ≡ true
  pub dirty : every processor_limit (dirty_hold (own_entries c) m processors pages) ≡ true
  pub holders : holders_hold m processors locks ≡ true
  pub arrived : arrived_hold m processors ≡ true
  pub lines : lines_hold m processors locks ≡ true
  pub queue : queue_holds m ≡ true
  pub room : room_holds m processors pages standing ≡ true
  pub records : records_hold_with (own_entries c) r processors pages standing ≡ true

areas_pass : (c w r m : List ℕ) (processors pages locks standing : ℕ) → areas_hold_with (own_entries c) c w r m processors pages locks standing ≡ true
    → AreasPass c w r m processors pages locks standing
unfolding areas_hold_with marks_hold_with
areas_pass c w r m processors pages locks standing e =
    let clocks : Bool = clocks_hold_with (own_entries c) c processors pages locks in
    let copies : Bool = every processor_limit (words_hold w 0 processors pages) in
    let twins : Bool = every processor_limit (words_hold w copy_limit processors pages) in
    let dirty : Bool = every processor_limit (dirty_hold (own_entries c) m processors pages) in
    let holders : Bool = holders_hold m processors locks in
    let arrived : Bool = arrived_hold m processors in
    let lines : Bool = lines_hold m processors locks in
    let queue : Bool = queue_holds m in
    let room : Bool = room_holds m processors pages standing in
    let records : Bool = records_hold_with (own_entries c) r processors pages standing in
    let marks : Bool = dirty && (holders && (arrived && (lines && (queue && room)))) in
    let adds : Bool = adds_hold w processors in
    let a = and_right clocks (copies && (twins && (adds && (marks && records)))) e in
    let t = and_right copies (twins && (adds && (marks && records))) a in
    let u = and_right twins (adds && (marks && records)) t in
    let b = and_right adds (marks && records) u in
    let d = and_left marks records b in
    let f = and_right dirty (holders && (arrived && (lines && (queue && room)))) d in
    let g = and_right holders (arrived && (lines && (queue && room))) f in
    let h = and_right arrived (lines && (queue && room)) g in
    let k = and_right lines (queue && room) h in
    record {
      clocks = clocks_pass c processors pages locks (and_left clocks (copies && (twins && (adds && (marks && records)))) e);
      copies = and_left copies (twins && (adds && (marks && records))) a;
      twins = and_left twins (adds && (marks && records)) t;
      adds = and_left adds (marks && records) u;
      dirty = and_left dirty (holders && (arrived && (lines && (queue && room)))) d;
      holders = and_left holders (arrived && (lines && (queue && room))) f;
      arrived = and_left arrived (lines && (queue && room)) g;
      lines = and_left lines (queue && room) h;
      queue = and_left queue room k;
      room = and_right queue room k;
      records = and_right marks records b;
    }

module _ (c w r m : List ℕ) (lent : Lent c w r m) where
  -- counts that pass are in range
  counts_when : counts_hold (processor_count m) (page_count m) (lock_count m) (standing_count m) ≡ true → counts_in_range mainframe (held c w r m).counts ≡ true
  unfolding counts_tests Given in_range state_in mainframe
  counts_when e =
      let z = counts_in (processor_count m) (page_count m) (lock_count m) (standing_count m) e in
      counts_tests_lem mainframe (held c w r m).counts
      ∙ conjoined_holds (counts_tests mainframe (held c w r m).counts)
      (and_both (leb 1 (processor_count m)) (leb (processor_count m) processor_limit) (le-leb _ _ z.some_processor) (le-leb _ _ z.processors_fit))
      (and_both (leb 1 (page_count m)) (leb (page_count m) page_limit) (le-leb _ _ z.some_page) (le-leb _ _ z.pages_fit))
      (and_both (leb 1 (lock_count m)) (leb (lock_count m) lock_limit) (le-leb _ _ z.some_lock) (le-leb _ _ z.locks_fit))

  -- what is absent is 0
  absent_when : Sized mainframe (held c w r m)
      → AreasPass c w r m (processor_count m) (page_count m) (lock_count m) (standing_count m) → absent_zero mainframe (held c w r m) ≡ true
  unfolding absent_tests Given mainframe
  absent_when size z =
      absent_tests_lem mainframe (held c w r m)
      ∙ conjoined_holds (absent_tests mainframe (held c w r m))
      (absent_clocks c w r m size z.clocks)
      (absent_entries c w r m size z.clocks)
      (absent_copies c w r m size z.copies)
      (absent_twins c w r m size z.twins)
      (absent_clean c w r m z.dirty)
      (absent_not_arrived c w r m z.arrived)
      (absent_not_held c w r m z.holders)
      (absent_awake c w r m z.lines)
      (absent_turn c w r m z.lines)
      (absent_adds c w r m size z.adds)

  areas_when : areas_hold c w r m ≡ true → is_in_order mainframe (held c w r m) ≡ true
  unfolding areas_hold order_tests Given
  areas_when e =
      go (and_left counts (areas_hold_with (own_entries c) c w r m (processor_count m) (page_count m) (lock_count m) (standing_count m)) e)
      (areas_pass c w r m (processor_count m) (page_count m) (lock_count m) (standing_count m) (and_right counts _ e))
    where
      counts : Bool
      counts = counts_hold (processor_count m) (page_count m) (lock_count m) (standing_count m)

      go : counts_hold (processor_count m) (page_count m) (lock_count m) (standing_count m) ≡ true → AreasPass c w r m (processor_count m) (page_count m) (lock_count m) (standing_count m)
          → is_in_order mainframe (held c w r m) ≡ true
      go k z =
          let fit = counts_fit (processor_count m) (page_count m) (lock_count m) (standing_count m) k in
          let size = lent_sized c w r m lent fit.standing_fit in
          order_tests_lem mainframe (held c w r m)
          ∙ conjoined_holds (order_tests mainframe (held c w r m))
          (sized_when mainframe (held c w r m) size)
          (counts_when k)
          (absent_when size z)
          (later_intervals_when c w r m size z.clocks)
          (entries_known_when c w r m size z.clocks)
          (applied_known_when c w r m size z.clocks)
          (records_sound_when c w r m fit.processors_fit fit.standing_fit z.records)
          (room_kept_when c w r m fit.processors_fit fit.pages_fit z.room)
          (dirty_have_interval_when c w r m z.dirty)
          (holders_present_when c w r m z.holders)
          (someone_missing_when c w r m z.arrived fit.processors_fit)
          (lines_sound_when c w r m z.lines fit.processors_fit fit.locks_fit)
          (holders_away_when c w r m z.holders fit.processors_fit)
          (queue_sound_when c w r m z.queue)

  -- in areas of the fixed sizes the tests on places are the rules' test
  pub areas_hold_in_order : areas_hold c w r m ≡ areas_in_order c w r m
  unfolding areas_in_order
  areas_hold_in_order =
      same_truth (areas_hold c w r m) (is_in_order mainframe (held c w r m)) areas_when (λ e. areas_say c w r m (in_order_says mainframe (held c w r m) e))
      ∙ sym (ap (λ (b : Bool). b && is_in_order mainframe (held c w r m)) (lent_right c w r m lent))
