-- The records of a state in order lie in sound slots. Assumes nothing.
use Prim.Native.Nat.{ℕ, suc, ◌*◌, ◌≤◌, ◌<◌}
use native.Mathlib.Omega.{arith}
use mathlib.Core.Path.{◌≡◌, sym, ap, ◌∙◌}
use mathlib.Core.Bool.{true, false, and-eq-true_iff}
use mathlib.Core.List.{List, [], ◌∷◌}
use lib.ListN.{length, get_or}
use lib.Dec.{leb}
use borrow.Author.Tests.{leb-true}
use Rattle.limits.specs.Limits.{interval_limit, page_limit, page_width, processor_limit, record_limit}
use Rattle.limits.specs.inner.Sizes.{clock_width, diff_limit, sum_limit}
use Rattle.clock.specs.Clocks.{entry_of, sum_of}
use Rattle.diff.specs.Reading.{read_refusal}
use Rattle.rules.specs.Fetch.{sum_at}
use Rattle.rules.specs.InOrder.{present, slot_size, record_at, same_notice}
use Rattle.rules.specs.State.{mainframe, Interval, clock_of, Record, State}
use Rattle.rules.proofs.inorder.Facts.{Within, RecordSound}
use Rattle.layout.specs.Areas.{clocks_in, records_in, state_in, standing_count}
use Rattle.layout.specs.inner.Needed.{Ready}
use Rattle.layout.specs.inner.Marks.{record_of, slot_interval, slot_length, slot_page, slot_processor}
use Rattle.layout.proofs.SlotLaws.{slot_read, slot_byte, record_read}
use Rattle.fetch_index.specs.inner.Needed.{SlotHolds, SlotsSound}

sum_bounded : (l : List ℕ) → ((j : ℕ) → get_or l j 0 ≤ interval_limit) → sum_of l ≤ interval_limit * length l
unfolding sum_of
sum_bounded [] h = omega arith
sum_bounded (x ∷ l) h = omega (arith, h 0, sum_bounded l (λ j. h (suc j)))

-- the sum of a clock of eight entries of at most 63
small_clock : (l : List ℕ) → length l ≡ clock_width → ((q : ℕ) → entry_of l q ≤ interval_limit) → sum_of l ≤ sum_limit
unfolding entry_of
small_clock l e h = omega (arith, e, sum_bounded l (λ j. h (suc j)))

present_says : (s : State) (p : ℕ) → present s p ≡ true → (1 ≤ p) × (p ≤ s.counts.processors)
unfolding present
present_says s p e =
    let t = (and-eq-true_iff (leb 1 p) (leb p s.counts.processors)).0 e in
    (leb-true 1 p t.0, leb-true p s.counts.processors t.1)

module _ (c w r m : List ℕ) (h : Ready c w r m) where
  abbrev state : State
  state = state_in mainframe c w r m

  -- no more records stand than slots are
  pub few_standing : standing_count m ≤ record_limit
  unfolding state_in records_in mainframe
  few_standing = h.in_order.sized.few_standing

  sound_at : (i : ℕ) → i < standing_count m → RecordSound mainframe state i
  unfolding state_in records_in
  sound_at i l = h.in_order.record_sound_lem i l

  diff_fits_at : (i : ℕ) → i < standing_count m → slot_length r i ≤ diff_limit
  unfolding state_in slot_size mainframe
  diff_fits_at i l =
      let below : i < record_limit = omega (arith, l, few_standing) in
      let byte : get_or (get_or state.records.slots i []) 3 0 ≡ slot_length r i = ap (λ (s : List ℕ). get_or s 3 0) (slot_read r m i below) ∙ slot_byte r i 3 (omega arith) in
      omega (arith, (sound_at i l).fits, byte)

  distinct_in : (i j : ℕ) → i < standing_count m → j < i → same_notice (record_at state i) (record_at state j) ≡ false
  unfolding state_in records_in
  distinct_in i j l k = h.in_order.distinct i j l k

  -- the record in a slot is the state's
  pub record_is : (i : ℕ) → i < standing_count m → record_at state i ≡ record_of r i
  unfolding record_of
  record_is i l = record_read c w r m i (omega (arith, l, few_standing)) (diff_fits_at i l)

  -- the page of a record that stands is one of eight
  page_fits_at : (i : ℕ) → i < standing_count m → slot_page r i < page_limit
  unfolding record_of mainframe
  page_fits_at i l =
      let eg : (record_at state i).page ≡ slot_page r i = ap (λ (q : Record). q.page) (record_is i l) in
      omega (arith, eg, (sound_at i l).page, h.in_order.pages_fit)

  -- the interval of a sound record keeps a clock of eight entries
  sum_fits_at : (q i : ℕ) → 1 ≤ q → q ≤ processor_limit → 1 ≤ i → i ≤ interval_limit → sum_of (clock_of (clocks_in mainframe c) (Interval q i)) ≤ sum_limit
  unfolding state_in mainframe Within
  sum_fits_at q i a b d e =
      small_clock (clock_of (clocks_in mainframe c) (Interval q i)) (h.in_order.sized.clocks (Interval q i) (a, b, d, e))
      (λ k. omega (arith, h.in_order.known (Interval q i) k, h.in_order.own_fits_lem k))

  slot_sound : (i : ℕ) → i < standing_count m → SlotHolds c r i
  unfolding record_of mainframe sum_at
  slot_sound i l =
      let s : RecordSound mainframe state i = sound_at i l in
      let e : record_at state i ≡ record_of r i = record_is i l in
      let ep : (record_at state i).processor ≡ slot_processor r i = ap (λ (q : Record). q.processor) e in
      let ei : (record_at state i).interval ≡ slot_interval r i = ap (λ (q : Record). q.interval) e in
      let there = present_says state (record_at state i).processor s.processor in
      let low : 1 ≤ slot_processor r i = rw ep at there.0 in
      let high : slot_processor r i ≤ processor_limit = omega (arith, ep, there.1, h.in_order.processors_fit) in
      let first : 1 ≤ slot_interval r i = rw ei at s.some_interval in
      let last : slot_interval r i ≤ interval_limit = omega (arith, ei, s.made_interval, h.in_order.own_fits_lem (record_at state i).processor) in
      record {
        clocks = h.lent.clocks;
        records = h.lent.records;
        within = omega (arith, l, few_standing);
        some_processor = low;
        processor_fits = high;
        some_interval = first;
        interval_fits = last;
        page_fits = page_fits_at i l;
        sum_fits = sum_fits_at (slot_processor r i) (slot_interval r i) low high first last;
        diff_fits = diff_fits_at i l;
        legal = ap (λ (q : Record). read_refusal page_width q.diff) (sym e) ∙ s.legal;
      }

  -- the records of a state in order are sound, no two of the same card, interval and page
  pub slots_sound : SlotsSound c r (standing_count m)
  slots_sound = record { few = few_standing; each = slot_sound; distinct = distinct_at }
    where
      distinct_at : (i j : ℕ) → i < standing_count m → j < i → same_notice (record_of r i) (record_of r j) ≡ false
      distinct_at i j l k = rw (← record_is i l, ← record_is j (omega (arith, l, k))) (distinct_in i j l k)
