-- Whether an arrival is the last, by the arrived marks counted before it: one law for each way of the code, and `count_laws`. Assumes nothing.
use Prim.Native.Nat.{ℕ, suc, ◌+◌, ◌≤◌, ◌<◌}
use native.Mathlib.Numerals.{add-one}
use native.Mathlib.Omega.{arith}
use mathlib.Core.Path.{◌≡◌, refl, sym, ap, ◌∙◌}
use mathlib.Core.Bool.{Bool, true, false, cond, not, and-false}
use mathlib.Core.List.{List}
use lib.ListN.{length}
use lib.Dec.{leb, eqb}
use borrow.Author.Tests.{not-false, eqb-true, lt-leb}
use mir.Val.{bool_byte}
use borrow.Author.Rules.{rules}
use Rattle.lists.specs.Tables.{total}
use Rattle.lists.proofs.Tables.{total_same, total_of_fewer}
use Rattle.limits.specs.Limits.{processor_limit}
use Rattle.limits.specs.inner.Sizes.{mark_area}
use Rattle.rules.specs.InOrder.{present}
use Rattle.rules.specs.State.{mainframe, State, has_arrived}
use Rattle.rules.specs.Steps.{at_barrier, all_arrived}
use Rattle.rules.proofs.order.Ghosts.{completes}
use Rattle.rules.proofs.order.Rounds.{arrivals, completes_counts}
use Rattle.layout.specs.Areas.{state_in}
use Rattle.layout.specs.inner.Needed.{MarksOf}
use Rattle.layout.specs.inner.Marks.{processor_count, arrived_mark}
use Rattle.layout.proofs.MarkLaws.{arrived_read}
use Rattle.barrier_marks.specs.inner.Needed.{AbsentAway}
use Rattle.barrier_marks.specs.inner.Effects.{OneMissing, arrived_count}

-- ---- tests counted

-- how many of the first n tests pass
abbrev passing : ℕ → (ℕ → Bool) → ℕ
passing n t = total n (λ k. cond (t k) 1 0)

-- ---- the arrived marks counted

-- 1 where the mark of processor k + 1 is set
abbrev marked : List ℕ → ℕ → Bool
marked m k = not (eqb (arrived_mark m (suc k)) 0)

-- the first k marks are counted
pub record ArrivedCounted (m : List ℕ) (sum k : ℕ) : Type 0 where
  pub there : AbsentAway m
  pub upto : k ≤ processor_limit
  pub few : sum ≤ k
  pub same : sum ≡ passing k (marked m)

-- none is counted yet
pub arrived_counting_begins : (m : List ℕ) → AbsentAway m → ArrivedCounted m 0 0
unfolding total
arrived_counting_begins m h = record { there = h; upto = omega arith; few = omega arith; same = refl }

-- the next has its place
pub counting_next : (m : List ℕ) (sum k : ℕ) → ArrivedCounted m sum k → k < processor_limit → MarksOf m (k + 1)
counting_next m sum k h l = record { marks = h.there.marks; from = omega arith; to = omega arith }

-- a test counts 1 or 0
counts_one : (b : Bool) → bool_byte b ≡ cond b 1 0
counts_one true = refl
counts_one false = refl

at_most_one : (b : Bool) → bool_byte b ≤ 1
at_most_one true = omega arith
at_most_one false = omega arith

-- and so does it
pub counting_more : (m : List ℕ) (sum k r : ℕ) (b : Bool) → ArrivedCounted m sum k → k < processor_limit → b ≡ not (eqb (arrived_mark m (k + 1)) 0) → r ≡ bool_byte b
    → ArrivedCounted m (sum + r) (k + 1)
unfolding total
counting_more m sum k r b h l e f =
    record { there = h.there; upto = omega arith; few = omega (arith, h.few, f, at_most_one b); same = rw (add-one k, ← h.same, f, counts_one b, rw (add-one k) at e) }

-- the marks of all places are those of the processors
module _ (m : List ℕ) (h : AbsentAway m) (c w r : List ℕ) where
  arrivals_are : passing processor_limit (marked m) ≡ arrived_count (state_in mainframe c w r m)
  unfolding arrived_count has_arrived state_in
  arrivals_are =
      total_of_fewer (processor_count m) processor_limit (λ k. cond (marked m k) 1 0) h.few
      (λ i a b. ap (λ (x : ℕ). cond (not (eqb x 0)) 1 0) (h.absent.away (suc i) (omega arith) (omega arith)))
      ∙ total_same (processor_count m) (λ k. cond (marked m k) 1 0) (λ k. cond (has_arrived (state_in mainframe c w r m) (suc k)) 1 0)
      (λ k l. ap (λ (x : ℕ). cond (not (eqb x 0)) 1 0) (sym (arrived_read c w r m (suc k) (omega arith) (omega (arith, h.few)))))

-- all are counted
pub arrived_counting_ends : (m : List ℕ) (sum k x n : ℕ) → ArrivedCounted m sum k → processor_limit ≤ k → x ≡ sum → (n ≡ processor_count m) × (n < 256)
    → OneMissing m (eqb (x + 1) n)
arrived_counting_ends m sum k x n h l e d =
    let all : k ≡ processor_limit = omega (arith, h.upto) in
    record {
      is =
          λ c w r.
          let is : x ≡ arrived_count (state_in mainframe c w r m) = e ∙ h.same ∙ ap (λ (j : ℕ). passing j (marked m)) all ∙ arrivals_are m h.there c w r in
          rw (is, d.0);
    }

pub ruleset count_laws = (arrived_counting_begins, counting_next, counting_more, arrived_counting_ends, rules)

-- ---- the marks of a state in order

-- no absent processor has arrived
pub absent_away : (c w r m : List ℕ) → length m ≡ mark_area → processor_count m ≤ processor_limit
    → ((p : ℕ) → 1 ≤ p → present (state_in mainframe c w r m) p ≡ false → has_arrived (state_in mainframe c w r m) p ≡ false) → AbsentAway m
unfolding present has_arrived state_in
absent_away c w r m long few away =
    record {
      marks = long;
      few = few;
      absent =
          record {
            away =
                λ p h k.
                eqb-true (arrived_mark m p) 0
                (not-false (eqb (arrived_mark m p) 0)
                (ap (λ (x : ℕ). not (eqb x 0)) (sym (arrived_read c w r m p (omega arith) k)) ∙ away p (omega arith) (rw (lt-leb p (processor_count m) h) (and-false (leb 1 p)))));
          };
    }

-- ---- the last arrival

-- completes the round when all others have arrived
pub last_arrives : (s : State) (p : ℕ) → 1 ≤ p → p ≤ s.counts.processors → has_arrived s p ≡ false → eqb (arrived_count s + 1) s.counts.processors ≡ all_arrived (at_barrier s p)
unfolding arrived_count arrivals completes
last_arrives s p from to e = sym (completes_counts s p from to e)
