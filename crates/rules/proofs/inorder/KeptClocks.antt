-- The clocks stay in order when one of them is replaced, if the new one is in order. Rests on Holders and KeptParts. Assumes nothing.
use Prim.Native.Nat.{ℕ, suc, ◌≤◌, ◌<◌}
use native.Mathlib.Omega.{arith}
use native.Mathlib.Nat.{le_trans}
use mathlib.Core.Path.{◌≡◌, refl, sym, ap, ◌∙◌}
use mathlib.Core.Bool.{Bool, true, false, cond, ◌&&◌, false≢true}
use mathlib.Core.List.{List, []}
use lib.ListN.{length}
use lib.Dec.{eqb}
use borrow.Author.Tests.{ne_eqb}
use Rattle.lists.specs.Tables.{cell}
use Rattle.lists.proofs.Tables.{get_put_other, length_put_within, cell_put}
use Rattle.clock.specs.Clocks.{entry_of}
use Rattle.rules.specs.State.{Limits, Counts, Holder, Processor, Lock, Barrier, Applied, Interval, Job, Clocks, clock_of, with_clock}
use Rattle.rules.proofs.state.Holders.{same_holder, same_holder_lem, clock_of_with}
use Rattle.rules.proofs.inorder.Facts.{Within}
use Rattle.rules.proofs.inorder.Rows.{rows_put_cell}
use Rattle.rules.proofs.inorder.KeptParts.{present_among, holder_among, own_in, ClocksSized, ClocksInOrder}

-- a statement about the clock of one holder after another's was replaced
pub by_replaced : (P : List ℕ → Type 0) (c : Clocks) (h : Holder) (v : List ℕ) (k : Holder) → (same_holder h k ≡ true → P v) → P (clock_of c k)
    → P (clock_of (with_clock c h v) k)
by_replaced P c h v k same other = rw (clock_of_with c h v k) (go (same_holder h k) refl)
  where
    go : (b : Bool) → same_holder h k ≡ b → P (cond b v (clock_of c k))
    go true e = same e
    go false e = other

-- ---- lengths

clocks_with : (lim : Limits) (c : Clocks) (h : Holder) (v : List ℕ) → length v ≡ lim.processors → ClocksSized lim c → (k : Holder) → Within lim k
    → length (clock_of (with_clock c h v) k) ≡ lim.processors
clocks_with lim c h v l f k w = by_replaced (λ x. length x ≡ lim.processors) c h v k (λ e. l) (f.clocks k w)

-- a replaced clock of the right length leaves all lengths as they were
pub sized_with : (lim : Limits) (c : Clocks) (h : Holder) (v : List ℕ) → Within lim h → length v ≡ lim.processors → ClocksSized lim c → ClocksSized lim (with_clock c h v)
unfolding with_clock Within clock_of
sized_with lim c (Processor p) v w l f =
    record {
      processors = length_put_within [] c.processors p v (omega (arith, f.processors)) ∙ f.processors;
      nobody_clock = ap length (get_put_other [] c.processors p 0 v (λ e. omega (arith, e, w.0))) ∙ f.nobody_clock;
      locks = f.locks;
      applied = f.applied;
      intervals = f.intervals;
      no_interval = f.no_interval;
      jobs = f.jobs;
      clocks = clocks_with lim c (Processor p) v l f;
    }
sized_with lim c (Lock i) v w l f =
    record {
      processors = f.processors;
      nobody_clock = f.nobody_clock;
      locks = length_put_within [] c.locks i v (omega (arith, w, f.locks)) ∙ f.locks;
      applied = f.applied;
      intervals = f.intervals;
      no_interval = f.no_interval;
      jobs = f.jobs;
      clocks = clocks_with lim c (Lock i) v l f;
    }
sized_with lim c Barrier v w l f =
    record {
      processors = f.processors;
      nobody_clock = f.nobody_clock;
      locks = f.locks;
      applied = f.applied;
      intervals = f.intervals;
      no_interval = f.no_interval;
      jobs = f.jobs;
      clocks = clocks_with lim c Barrier v l f;
    }
sized_with lim c (Applied p g) v w l f =
    record {
      processors = f.processors;
      nobody_clock = f.nobody_clock;
      locks = f.locks;
      applied = rows_put_cell [] lim lim.pages c.applied p g v f.applied w.0 w.1 w.2;
      intervals = f.intervals;
      no_interval = f.no_interval;
      jobs = f.jobs;
      clocks = clocks_with lim c (Applied p g) v l f;
    }
sized_with lim c (Interval p i) v w l f =
    record {
      processors = f.processors;
      nobody_clock = f.nobody_clock;
      locks = f.locks;
      applied = f.applied;
      intervals = rows_put_cell [] lim (suc lim.intervals) c.intervals p i v f.intervals w.0 w.1 (omega (arith, w.3));
      no_interval = λ q a b. ap length (cell_put [] c.intervals p i q 0 v ∙ other q w.2) ∙ f.no_interval q a b;
      jobs = f.jobs;
      clocks = clocks_with lim c (Interval p i) v l f;
    }
  where
    other : (q : ℕ) → 1 ≤ i → cond (eqb q p && eqb 0 i) v (cell [] c.intervals q 0) ≡ cell [] c.intervals q 0
    other q a = rw (ne_eqb 0 i (λ e. omega (arith, e, a))) (go (eqb q p))
      where
        go : (b : Bool) → cond (b && false) v (cell [] c.intervals q 0) ≡ cell [] c.intervals q 0
        go true = refl
        go false = refl
sized_with lim c (Job k) v w l f =
    record {
      processors = f.processors;
      nobody_clock = f.nobody_clock;
      locks = f.locks;
      applied = f.applied;
      intervals = f.intervals;
      no_interval = f.no_interval;
      jobs = length_put_within [] c.jobs k v (omega (arith, w, f.jobs)) ∙ f.jobs;
      clocks = clocks_with lim c (Job k) v l f;
    }

-- ---- one clock replaced

-- a present holder gets a clock that no processor's own entry is below; the own entries may rise with it
pub record Replaced (lim : Limits) (n : Counts) (c : Clocks) (h : Holder) (v : List ℕ) : Type 0 where
  pub within : Within lim h
  pub present : holder_among n h ≡ true
  pub whole : length v ≡ lim.processors
  pub own_grows : (q : ℕ) → own_in c q ≤ own_in (with_clock c h v) q
  pub own_fits_lem : (q : ℕ) → own_in (with_clock c h v) q ≤ lim.intervals
  pub known : (q : ℕ) → entry_of v q ≤ own_in (with_clock c h v) q
  pub absent : (q : ℕ) → present_among n q ≡ false → entry_of v q ≡ 0
  pub later : (p i q : ℕ) → own_in (with_clock c h v) p < i → entry_of (clock_of (with_clock c h v) (Interval p i)) q ≡ 0
  pub applied : (p g q : ℕ) → entry_of (clock_of (with_clock c h v) (Applied p g)) q ≤ entry_of (clock_of (with_clock c h v) (Processor p)) q

-- the clocks stay in order
pub replaced_in_order : (lim : Limits) (n : Counts) (c : Clocks) (h : Holder) (v : List ℕ) → ClocksInOrder lim n c → Replaced lim n c h v → ClocksInOrder lim n (with_clock c h v)
replaced_in_order lim n c h v f r =
    record {
      sized = sized_with lim c h v r.within r.whole f.sized;
      absent_clock = λ k q e.
          by_replaced (λ x. entry_of x q ≡ 0) c h v k
          (λ same. let z : ◌≡◌ {A = Bool} false true = sym e ∙ ap (holder_among n) (sym (same_holder_lem h k same)) ∙ r.present in absurd (false≢true z)) (f.absent_clock k q e);
      absent_entry = λ k q e. by_replaced (λ x. entry_of x q ≡ 0) c h v k (λ same. r.absent q e) (f.absent_entry k q e);
      later_interval = r.later;
      known = λ k q. by_replaced (λ x. entry_of x q ≤ own_in (with_clock c h v) q) c h v k (λ same. r.known q) (le_trans (f.known k q) (r.own_grows q));
      own_fits_lem = r.own_fits_lem;
      applied_known_lem = r.applied;
    }
