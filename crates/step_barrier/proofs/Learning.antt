-- Every processor learns the barrier's clock: what this leaves of the clocks, one law for each way of the code, and `learn_laws`.
-- Assumes nothing.
use Prim.Native.Nat.{ℕ, suc, ◌+◌, ◌*◌, ◌≤◌, ◌<◌}
use native.Mathlib.Numerals.{add-one}
use native.Mathlib.Omega.{arith}
use mathlib.Core.Path.{◌≡◌, refl, ap, ◌∙◌}
use mathlib.Core.List.{List}
use lib.ListN.{length}
use lib.Seq.{sets, length-sets}
use borrow.Author.Rules.{rules}
use Rattle.limits.specs.Limits.{processor_limit}
use Rattle.limits.specs.inner.Sizes.{clock_area, clock_width}
use Rattle.clock.specs.Clocks.{joined}
use Rattle.rules.specs.State.{mainframe, Processor, Barrier, Clocks}
use Rattle.rules.specs.Steps.{learned, all_learned}
use Rattle.rules.proofs.inorder.Facts.{Within}
use Rattle.layout.specs.Areas.{clock_row, clocks_in}
use Rattle.layout.specs.Layout.{row_of}
use Rattle.layout.specs.inner.Needed.{TwoRows}
use Rattle.layout.proofs.Learning.{learned_clock}
use Rattle.step_barrier.specs.inner.Needed.{ClocksOfFirst}
use Rattle.step_barrier.specs.inner.Effects.{HoldsClocks}

-- the first p of n processors have learned
pub record AllLearning (c₀ c : List ℕ) (n p : ℕ) : Type 0 where
  pub long : length c ≡ clock_area
  pub few : n ≤ processor_limit
  pub upto : p ≤ n
  pub clocks : clocks_in mainframe c ≡ all_learned (clocks_in mainframe c₀) p

-- none has learned yet
pub all_learning_begins : (c : List ℕ) (n : ℕ) → ClocksOfFirst c n → AllLearning c c n 0
unfolding all_learned
all_learning_begins c n h = record { long = h.clocks; few = h.few; upto = omega arith; clocks = refl }

-- the next has a row, and so has the barrier
pub all_learning_rows : (c₀ c : List ℕ) (n p : ℕ) → AllLearning c₀ c n p → p < n → TwoRows c (p + 1) 0
all_learning_rows c₀ c n p a h = record { clocks = a.long; to_there = omega (arith, a.few); from_there = omega arith }

-- one more has learned
pub all_learning_more : (c₀ c c' : List ℕ) (n p : ℕ) → AllLearning c₀ c n p → p < n
    → c' ≡ sets c (clock_width * (p + 1)) (joined (row_of clock_width c (p + 1)) (row_of clock_width c 0)) → AllLearning c₀ c' n (p + 1)
unfolding all_learned clock_row Within mainframe
all_learning_more c₀ c c' n p a h e =
    let v : List ℕ = joined (row_of clock_width c (p + 1)) (row_of clock_width c 0) in
    let one : clocks_in mainframe c' ≡ learned (clocks_in mainframe c) (Processor (p + 1)) Barrier =
    ap (λ (k : List ℕ). clocks_in mainframe k) e
    ∙ learned_clock c (Processor (p + 1)) Barrier a.long (omega arith, omega (arith, a.few)) tt in
    record {
      long = ap length e ∙ length-sets c (clock_width * (p + 1)) v ∙ a.long;
      few = a.few;
      upto = omega arith;
      clocks = one ∙ rw (add-one p) (ap (λ (k : Clocks). learned k (Processor (suc p)) Barrier) a.clocks);
    }

-- all have learned
pub all_learning_ends : (c₀ c : List ℕ) (n p : ℕ) → AllLearning c₀ c n p → n ≤ p → HoldsClocks c (all_learned (clocks_in mainframe c₀) n)
all_learning_ends c₀ c n p a h =
    let e : p ≡ n = omega (arith, a.upto) in
    record { long = a.long; clocks = a.clocks ∙ ap (λ (k : ℕ). all_learned (clocks_in mainframe c₀) k) e }

pub ruleset learn_laws = (all_learning_begins, all_learning_rows, all_learning_more, all_learning_ends, rules)
