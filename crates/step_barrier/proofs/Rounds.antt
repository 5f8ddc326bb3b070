-- What a completed round leaves: one law for each way of the code, and `round_laws`. Assumes nothing.
use Prim.Native.Nat.{ℕ, ◌*◌}
use native.Mathlib.Omega.{arith}
use mathlib.Core.Path.{◌≡◌, sym, ap, ◌∙◌}
use mathlib.Core.List.{List, map}
use lib.ListN.{length, replicate, length-replicate}
use lib.Seq.{sets, length-sets}
use borrow.Author.Rules.{rules}
use Rattle.limits.specs.Limits.{processor_limit}
use Rattle.limits.specs.Places.{first_arrived}
use Rattle.limits.specs.inner.Sizes.{clock_area, clock_width}
use Rattle.rules.specs.State.{mainframe, Barrier, Clocks, with_clock, cleared, with_arrived, State, with_clocks, with_marks, with_shared}
use Rattle.rules.specs.Steps.{all_learned, round_done}
use Rattle.rules.proofs.inorder.Facts.{Within}
use Rattle.layout.specs.Areas.{clock_row, clocks_in, state_in}
use Rattle.layout.specs.Layout.{row_of}
use Rattle.layout.specs.inner.Needed.{RowThere}
use Rattle.layout.specs.inner.Marks.{processor_count}
use Rattle.layout.proofs.ClockLaws.{clock_written}
use Rattle.layout.proofs.MarkLaws.{arrived_cleared}
use Rattle.layout.proofs.RowLaws.{length_row, map_replicate}
use Rattle.rules.specs.Tallies.{posting}
use Rattle.step_tally.specs.inner.Needed.{RoundReady}
use Rattle.step_tally.specs.inner.Effects.{Posted}
use Rattle.step_barrier.specs.inner.Needed.{ClocksOfFirst, RoundThere}
use Rattle.step_barrier.specs.inner.Effects.{HoldsClocks, RoundDone}

-- ---- a completed round

-- the processors of the marks have rows
pub learners_there : (c w m : List ℕ) (n : ℕ) → RoundThere c w m → n ≡ processor_count m → ClocksOfFirst c n
learners_there c w m n h e = record { clocks = h.clocks; few = omega (arith, h.few) }

-- the tallies of the round have their places
pub posters_there : (c w m : List ℕ) (n : ℕ) → RoundThere c w m → n ≡ processor_count m → RoundReady w n
posters_there c w m n h e = record { words = h.words; some = omega (arith, h.some); few = omega (arith, h.few) }

-- the barrier's clock has its row
pub barrier_row_there : (c : List ℕ) (k : Clocks) → HoldsClocks c k → RowThere clock_width c 0
barrier_row_there c k h = record { within = omega (arith, h.long) }

zeros_again : (c : List ℕ) → length c ≡ clock_area → cleared (clocks_in mainframe c).barrier ≡ replicate clock_width 0
unfolding cleared clocks_in mainframe clock_row
zeros_again c h = map_replicate (row_of clock_width c 0) 0 ∙ ap (λ (j : ℕ). replicate j 0) (length_row clock_width c 0 (omega (arith, h)))

round_clocks : (c c₁ c₂ : List ℕ) (n : ℕ) → length c ≡ clock_area → HoldsClocks c₁ (all_learned (clocks_in mainframe c) n) → c₂ ≡ sets c₁ (clock_width * 0) (replicate clock_width 0)
    → clocks_in mainframe c₂ ≡ with_clock (all_learned (clocks_in mainframe c) n) Barrier (cleared (clocks_in mainframe c).barrier)
unfolding Within clock_row
round_clocks c c₁ c₂ n h k e =
    ap (λ (x : List ℕ). clocks_in mainframe x) e
    ∙ clock_written c₁ (replicate clock_width 0) Barrier k.long tt (length-replicate {A = ℕ} processor_limit 0)
    ∙ ap (λ (x : Clocks). with_clock x Barrier (replicate clock_width 0)) k.clocks
    ∙ ap (λ (x : List ℕ). with_clock (all_learned (clocks_in mainframe c) n) Barrier x) (sym (zeros_again c h))

-- the adds are posted, all have learned, the barrier's clock is zeros, the marks are clear
pub round_done_lem : (c w m w₁ c₁ c₂ m₂ : List ℕ) (n : ℕ) → RoundThere c w m → n ≡ processor_count m → Posted w w₁ n → HoldsClocks c₁ (all_learned (clocks_in mainframe c) n)
    → c₂ ≡ sets c₁ (clock_width * 0) (replicate clock_width 0) → m₂ ≡ sets m first_arrived (replicate processor_limit 0) → RoundDone c w m c₂ w₁ m₂
unfolding round_done state_in
round_done_lem c w m w₁ c₁ c₂ m₂ n h e t k ec em =
    record {
      clocks = ap length ec ∙ length-sets c₁ (clock_width * 0) (replicate clock_width 0) ∙ k.long;
      words = t.words;
      marks = ap length em ∙ length-sets m first_arrived (replicate processor_limit 0) ∙ h.marks;
      is =
          λ r.
          ap (λ (x : List ℕ). state_in mainframe c₂ w₁ r x) em ∙ arrived_cleared c₂ w₁ r m h.marks
          ∙ ap (λ (s : State). with_marks s (with_arrived s.marks (map (λ mark. 0) s.marks.arrived))) (t.is c₂ r m)
          ∙ ap (λ (x : Clocks).
          let s = state_in mainframe c w r m in
          with_shared (with_marks (with_clocks s x) (with_arrived s.marks (map (λ mark. 0) s.marks.arrived))) (posting s.shared n))
          (round_clocks c c₁ c₂ n h.clocks k ec)
          ∙ ap (λ (j : ℕ).
          let s = state_in mainframe c w r m in
          with_shared (with_marks (with_clocks s (with_clock (all_learned (clocks_in mainframe c) j) Barrier (cleared (clocks_in mainframe c).barrier))) (with_arrived s.marks (map (λ mark. 0) s.marks.arrived))) (posting s.shared j)) e;
    }

pub ruleset round_laws = (learners_there, posters_there, barrier_row_there, round_done_lem, rules)
