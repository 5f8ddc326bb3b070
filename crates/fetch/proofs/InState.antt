-- The slots of the lent area and the standing records of the state that it holds: the same records, and the same ones due. Assumes nothing.
use Prim.Native.Nat.{ℕ, zero, suc, ◌≤◌, ◌<◌}
use native.Mathlib.Omega.{arith}
use mathlib.Core.Path.{◌≡◌, refl, sym, ap, ◌∙◌}
use mathlib.Core.List.{List, ◌∷◌, map}
use lib.ListN.{take}
use Rattle.lists.specs.Tables.{select, sort_by, tabulate}
use Rattle.limits.specs.Limits.{record_limit}
use Rattle.limits.specs.inner.Sizes.{clock_width, diff_limit, slot_width}
use Rattle.clock.specs.Clocks.{entry_of}
use Rattle.rules.specs.Fetch.{is_pending, earlier, due}
use Rattle.rules.specs.InOrder.{slot_size, record_at}
use Rattle.rules.specs.State.{mainframe, Processor, Applied, clock_of, Record, record_in, records_of, State, clock, standing}
use Rattle.rules.proofs.inorder.Facts.{Within}
use Rattle.layout.specs.Areas.{applied_row, clock_row, clocks_in, records_in, state_in, standing_count}
use Rattle.layout.specs.Layout.{row_of}
use Rattle.layout.specs.inner.Marks.{record_of, slot_length}
use Rattle.layout.specs.inner.Needed.{OnPage, Ready}
use Rattle.layout.proofs.ClockLaws.{clock_read}
use Rattle.lists.proofs.Tabulated.{tabulate_same, map_tabulate}
use Rattle.layout.proofs.SlotLaws.{slot_read, record_read}
use Rattle.fetch_index.specs.inner.Needed.{SlotsSound}
use Rattle.fetch_index.proofs.InState.{slots_sound}
use Rattle.fetch_lay.specs.inner.Due.{due_among}
use Rattle.fetch.specs.inner.Needed.{Fetchable}

-- ---- the same records

take_tabulate : {A : Type 0} (n m : ℕ) (f : ℕ → A) → n ≤ m → take n (tabulate m f) ≡ tabulate n f
unfolding tabulate
take_tabulate zero m f h = refl
take_tabulate (suc n) zero f h = absurd (omega arith)
take_tabulate (suc n) (suc m) f h = ap (λ l. f 0 ∷ l) (take_tabulate n m (λ k. f (suc k)) (omega arith))

module _ (c w r m : List ℕ) where
  abbrev S : State
  S = state_in mainframe c w r m

  -- the record in a slot is the state's
  record_at_lem : (i : ℕ) → i < record_limit → slot_length r i ≤ diff_limit → record_at S i ≡ record_of r i
  unfolding record_of
  record_at_lem i h f = record_read c w r m i h f

  record_in_lem : (i : ℕ) → i < record_limit → slot_length r i ≤ diff_limit → record_in (row_of slot_width r i) ≡ record_of r i
  unfolding record_at state_in
  record_in_lem i h f = sym (ap record_in (slot_read r m i h)) ∙ record_at_lem i h f

  -- the standing records are those of the first slots
  standing_in : (n : ℕ) → n ≡ standing_count m → n ≤ record_limit → ((i : ℕ) → i < n → slot_length r i ≤ diff_limit) → standing S ≡ tabulate n (λ i. record_of r i)
  unfolding standing records_of state_in records_in mainframe slot_size
  standing_in n e few fits =
      ap (λ (k : ℕ). map record_in (take k (tabulate record_limit (λ i. row_of slot_width r i)))) (sym e)
      ∙ ap (map record_in) (take_tabulate n record_limit (λ i. row_of slot_width r i) few)
      ∙ map_tabulate record_in n (λ i. row_of slot_width r i)
      ∙ tabulate_same n (λ i. record_in (row_of slot_width r i)) (λ i. record_of r i) (λ i h. record_in_lem i (omega (arith, h, few)) (fits i h))

  -- and the same are due
  pub due_in : (n p g : ℕ) → n ≡ standing_count m → SlotsSound c r n → due S p g ≡ due_among c r n p g
  unfolding due due_among state_in
  due_in n p g e s =
      ap (λ (l : List Record). sort_by (earlier (clocks_in mainframe c)) (select (is_pending (clocks_in mainframe c) p g) l))
      (standing_in n e s.few (λ i h. (s.each i h).diff_fits))

-- ---- the clocks of a page and of its processor

module _ (c w r m : List ℕ) (p g : ℕ) (h : Fetchable c w r m p g) where
  -- the state is in order
  pub fetch_in_order : Ready c w r m
  fetch_in_order = record { lent = h.lent; in_order = h.in_order }

  -- so its records lie in sound slots
  pub standing_sound : SlotsSound c r (standing_count m)
  standing_sound = slots_sound c w r m fetch_in_order

  -- the processor and the page have their places
  pub on_page_lem : OnPage p g
  unfolding mainframe
  on_page_lem =
      record {
        from = h.some_processor;
        to = omega (arith, h.processor_present, h.in_order.processors_fit);
        page = omega (arith, h.page_present, h.in_order.pages_fit);
      }

  known_row : clock_of (clocks_in mainframe c) (Processor p) ≡ row_of clock_width c p
  unfolding Within mainframe clock_row
  known_row = clock_read c (Processor p) (on_page_lem.from, on_page_lem.to)

  applied_row_lem : clock_of (clocks_in mainframe c) (Applied p g) ≡ row_of clock_width c (applied_row mainframe p g)
  unfolding Within mainframe clock_row
  applied_row_lem = clock_read c (Applied p g) (on_page_lem.from, on_page_lem.to, on_page_lem.page)

  -- no applied clock exceeds its processor's clock
  pub applied_below : (q : ℕ) → entry_of (row_of clock_width c (applied_row mainframe p g)) q ≤ entry_of (row_of clock_width c p) q
  unfolding state_in clock
  applied_below q = rw (← applied_row_lem, ← known_row) (h.in_order.applied_known_lem p g q)
