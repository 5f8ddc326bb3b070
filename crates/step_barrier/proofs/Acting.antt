-- The arrival, put together from closing, learning and a completed round: one law for each way of the code, and `act_laws`. Assumes nothing.
use Prim.Native.Nat.{ℕ, ◌*◌, ◌≤◌}
use native.Mathlib.Omega.{arith}
use mathlib.Core.Path.{◌≡◌, sym, ap, ◌∙◌}
use mathlib.Core.Bool.{Bool, true, false}
use mathlib.Core.List.{List}
use lib.ListN.{length, set, length-set}
use lib.Seq.{sets, length-sets}
use borrow.Author.Rules.{rules}
use Rattle.lists.specs.Tables.{put}
use Rattle.limits.specs.Limits.{processor_limit}
use Rattle.limits.specs.inner.Sizes.{clock_width}
use Rattle.clock.specs.Clocks.{joined}
use Rattle.rules.specs.Close.{closed}
use Rattle.rules.specs.State.{mainframe, Processor, Barrier, Clocks, with_arrived, State, with_clocks, with_marks, has_arrived}
use Rattle.rules.specs.Steps.{learned, at_barrier, all_arrived, round_done, Fetches, none_fetched, arrive}
use Rattle.rules.proofs.inorder.KeptBarrier.{round_parts, waiting_parts}
use Rattle.rules.proofs.inorder.Facts.{InOrder, Within}
use Rattle.rules.proofs.inorder.KeptParts.{among_when, parts_of, in_order_of}
use Rattle.rules.proofs.inorder.Standing.{at_barrier_stand, round_done_stand}
use Rattle.layout.specs.Areas.{clock_row, arrived_place, clocks_in, state_in}
use Rattle.layout.specs.Layout.{row_of}
use Rattle.layout.specs.inner.Needed.{Acts, Ready, Holds, MarksOf}
use Rattle.layout.specs.inner.Marks.{processor_count}
use Rattle.layout.specs.inner.Needed.{TwoRows}
use Rattle.layout.proofs.MarkLaws.{processors_read, arrived_written}
use Rattle.layout.proofs.Learning.{learned_clock}
use Rattle.layout.proofs.Rows.{acting_within}
use Rattle.fetch_index.proofs.Kept.{bounds_stay, kept_while_standing}
use Rattle.step_collect.specs.inner.Effects.{CountedKept}
use Rattle.barrier_marks.specs.inner.Needed.{AbsentAway}
use Rattle.barrier_marks.specs.inner.Effects.{OneMissing}
use Rattle.barrier_marks.proofs.Counting.{absent_away, last_arrives}
use Rattle.step_barrier.specs.inner.Needed.{Arrives, ArrivesKept, RoundComplete, CompleteKept}
use Rattle.step_barrier.specs.inner.Effects.{completed}
use Rattle.step_barrier.proofs.Completing.{round_ready}

-- ---- at the barrier

-- a state with other clocks, and one processor marked
unfoldable marked : State → Clocks → ℕ → State
marked s k p = with_marks (with_clocks s k) (with_arrived s.marks (put 0 s.marks.arrived p 1))

module _ (c w r m : List ℕ) (p : ℕ) (a : Acts c w r m p) (c₁ r₁ m₁ : List ℕ) (h : Holds c₁ w r₁ m₁ (closed (state_in mainframe c w r m) p)) where
  -- the processor's mark has its place
  pub arrived_there : MarksOf m₁ p
  arrived_there = record { marks = h.lent.marks; from = a.from; to = acting_within c w r m p a }

  -- the barrier's clock and the processor's have their rows
  pub barrier_rows : TwoRows c₁ 0 p
  barrier_rows = record { clocks = h.lent.clocks; to_there = omega arith; from_there = omega (arith, acting_within c w r m p a) }

  -- the barrier's clock has joined the processor's, and the processor is marked
  pub at_barrier_lem : (c₂ m₂ : List ℕ) → c₂ ≡ sets c₁ (clock_width * 0) (joined (row_of clock_width c₁ 0) (row_of clock_width c₁ p))
      → m₂ ≡ set m₁ (arrived_place mainframe p) 1 → Holds c₂ w r₁ m₂ (at_barrier (state_in mainframe c w r m) p)
  unfolding at_barrier marked state_in clock_row mainframe Within
  at_barrier_lem c₂ m₂ e em =
      let d : p ≤ processor_limit = acting_within c w r m p a in
      let f : Clocks → Clocks = λ k. learned k Barrier (Processor p) in
      record {
        lent =
            record {
              clocks = ap length e ∙ length-sets c₁ (clock_width * 0) (joined (row_of clock_width c₁ 0) (row_of clock_width c₁ p)) ∙ h.lent.clocks;
              words = h.lent.words;
              records = h.lent.records;
              marks = ap length em ∙ length-set m₁ (arrived_place mainframe p) 1 ∙ h.lent.marks;
            };
        is =
            ap (state_in mainframe c₂ w r₁) em
            ∙ arrived_written c₂ w r₁ m₁ 1 h.lent.marks p a.from d
            ∙ ap (λ (k : Clocks). marked (state_in mainframe c₁ w r₁ m₁) k p)
            (ap (λ (x : List ℕ). clocks_in mainframe x) e ∙ learned_clock c₁ Barrier (Processor p) h.lent.clocks tt (a.from, d))
            ∙ ap (λ (t : State). marked t (learned t.clocks Barrier (Processor p)) p) h.is;
      }

-- ---- arrive

arrive_waits : (s : State) (p : ℕ) → all_arrived (at_barrier s p) ≡ false → arrive mainframe s p ≡ none_fetched (at_barrier s p)
unfolding arrive
arrive_waits s p e = rw e

arrive_completes : (s : State) (p : ℕ) → all_arrived (at_barrier s p) ≡ true → arrive mainframe s p ≡ completed (at_barrier s p)
unfolding arrive completed
arrive_completes s p e = rw e

module _ (c w r m : List ℕ) (p : ℕ) (x : List ℕ) (k : ArrivesKept c w r m p x) where
  abbrev a : Arrives c w r m p
  a = k.arrives

  abbrev s : State
  s = state_in mainframe c w r m

  -- the processor acts
  pub arrival_acts : Acts c w r m p
  arrival_acts = a.acts

  -- the others can be counted
  pub others_counted : AbsentAway m
  unfolding mainframe state_in
  others_counted = absent_away c w r m a.acts.lent.marks a.acts.in_order.processors_fit a.acts.in_order.absent_not_arrived

  ready : Ready c w r m
  ready = record { lent = a.acts.lent; in_order = a.acts.in_order }

  module _ (c₁ r₁ m₁ : List ℕ) (h : Holds c₁ w r₁ m₁ (at_barrier (state_in mainframe c w r m) p)) where
    same_processors : processor_count m₁ ≡ s.counts.processors
    unfolding at_barrier closed
    same_processors = sym (processors_read c₁ w r₁ m₁) ∙ ap (λ (t : State). t.counts.processors) h.is

    round : RoundComplete c₁ w r₁ m₁
    unfolding mainframe
    round =
        record {
          lent = h.lent;
          some = omega (arith, same_processors, a.acts.in_order.some_processor);
          few = omega (arith, same_processors, a.acts.in_order.processors_fit);
          in_order =
              rw h.is
              (in_order_of mainframe (round_done (at_barrier s p)) (round_parts mainframe s p (parts_of mainframe s a.acts.in_order) (among_when s.counts p a.acts.from a.acts.to)));
        }

    -- the round can be completed, and then what stood stands
    pub round_complete : CompleteKept c₁ w r₁ m₁ x
    unfolding round_done at_barrier closed
    round_complete =
        record {
          complete = round;
          kept =
              λ c₂ w₂ m₂ d.
              let is : state_in mainframe c₂ w₂ r₁ m₂ ≡ round_done (at_barrier s p) = d.is r₁ ∙ ap (λ (t : State). round_done t) h.is in
              kept_while_standing c w r m c₂ w₂ r₁ m₂ ready (round_ready c₁ w r₁ m₁ c₂ w₂ m₂ round d) (rw is (round_done_stand mainframe s p a.acts.in_order)) x
              (bounds_stay c w r m c₂ w₂ r₁ m₂ (ap (λ (t : State). t.counts) is)) k.kept;
        }

    module _ (b : Bool) (one : OneMissing m b) where
      answer_is : b ≡ all_arrived (at_barrier s p)
      unfolding all_arrived has_arrived state_in
      answer_is = one.is c w r ∙ last_arrives s p a.acts.from a.acts.to a.not_arrived

      -- others are awaited, and what stood stands
      pub not_the_last : (n v : ℕ) → b ≡ false → (n ≡ 0) × (v ≡ 0) → CountedKept (arrive mainframe (state_in mainframe c w r m) p) n v c₁ w r₁ m₁ x
      unfolding at_barrier closed
      not_the_last n v z none =
          let missing : all_arrived (at_barrier s p) ≡ false = sym answer_is ∙ z in
          let waiting : arrive mainframe s p ≡ none_fetched (at_barrier s p) = arrive_waits s p missing in
          let order : InOrder mainframe (at_barrier s p) =
          in_order_of mainframe (at_barrier s p) (waiting_parts mainframe s p (parts_of mainframe s a.acts.in_order) (among_when s.counts p a.acts.from a.acts.to) a.not_waiting a.no_lock missing) in
          record {
            counted =
                record {
                  applied = none.0 ∙ ap (λ (f : Fetches). f.count) (sym waiting);
                  moved_is = none.1 ∙ ap (λ (f : Fetches). f.words) (sym waiting);
                  areas = record { lent = h.lent; is = h.is ∙ ap (λ (f : Fetches). f.after) (sym waiting) };
                };
            kept =
                kept_while_standing c w r m c₁ w r₁ m₁ ready (record { lent = h.lent; in_order = rw h.is order }) (rw h.is (at_barrier_stand mainframe s p a.acts.in_order)) x
                (bounds_stay c w r m c₁ w r₁ m₁ (ap (λ (t : State). t.counts) h.is)) k.kept;
          }

      -- the last completes the round
      pub last_completes : (n v : ℕ) (c₂ w₂ m₂ x₂ : List ℕ) → b ≡ true → CountedKept (completed (state_in mainframe c₁ w r₁ m₁)) n v c₂ w₂ r₁ m₂ x₂
          → CountedKept (arrive mainframe (state_in mainframe c w r m) p) n v c₂ w₂ r₁ m₂ x₂
      last_completes n v c₂ w₂ m₂ x₂ z e =
          let completing : completed (state_in mainframe c₁ w r₁ m₁) ≡ arrive mainframe s p =
          ap (λ (t : State). completed t) h.is ∙ sym (arrive_completes s p (sym answer_is ∙ z)) in
          record {
            counted =
                record {
                  applied = e.counted.applied ∙ ap (λ (f : Fetches). f.count) completing;
                  moved_is = e.counted.moved_is ∙ ap (λ (f : Fetches). f.words) completing;
                  areas = record { lent = e.counted.areas.lent; is = e.counted.areas.is ∙ ap (λ (f : Fetches). f.after) completing };
                };
            kept = e.kept;
          }

pub ruleset act_laws = (arrived_there, barrier_rows, at_barrier_lem, arrival_acts, others_counted, round_complete, not_the_last, last_completes, rules)
