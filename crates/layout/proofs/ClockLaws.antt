-- The clocks of the mainframe in their area: a holder's clock is its row, a row stored anew is that holder's clock replaced, an area of
-- zeros is every clock cleared. Assumes nothing.
use Prim.Native.Nat.{ℕ, ◌+◌, ◌*◌, ◌≤◌, ◌<◌}
use native.Mathlib.Omega.{arith}
use mathlib.Core.Path.{◌≡◌, refl, sym, ap, ◌∙◌}
use mathlib.Core.Bool.{Bool, cond, ◌&&◌}
use mathlib.Core.List.{List, [], map}
use lib.ListN.{length, replicate}
use lib.Seq.{sets}
use lib.Dec.{eqb}
use Rattle.lists.specs.Tables.{put, put_cell, tabulate}
use Rattle.limits.specs.Limits.{interval_limit, job_limit, lock_limit, page_limit, processor_limit}
use Rattle.limits.specs.inner.Sizes.{clock_area, clock_width, first_job_row, first_lock_row}
use Rattle.rules.specs.State.{mainframe, Holder, Processor, Lock, Barrier, Applied, Interval, Job, clock_of, with_clock, cleared}
use Rattle.rules.specs.Steps.{all_cleared}
use Rattle.rules.proofs.inorder.Facts.{Within}
use Rattle.layout.specs.Layout.{row_of, per_processor}
use Rattle.layout.specs.Areas.{lock_row, applied_row, interval_row, job_row, clock_row, clocks_in}
use Rattle.layout.proofs.Stores.{eqb_iff, eqb_pair}
use Rattle.lists.proofs.Tabulated.{get_tabulate, tabulate_same, put_tabulate, map_tabulate}
use Rattle.layout.proofs.RowLaws.{row_of_sets_same, row_of_sets_other, row_of_sets, get_per_processor, per_processor_same, put_per_processor, map_per_processor, get_page, page_table_same, put_page, get_interval, interval_table_same, put_interval, row_map, map_replicate}

-- the row of a holder lies within the area
pub holder_row_there : (h : Holder) → Within mainframe h → clock_width * clock_row mainframe h + clock_width ≤ clock_area
unfolding Within clock_row lock_row applied_row interval_row job_row mainframe
holder_row_there (Processor p) b = omega arith
holder_row_there (Lock l) b = omega arith
holder_row_there Barrier b = omega arith
holder_row_there (Applied p g) b = omega arith
holder_row_there (Interval p i) b = omega arith
holder_row_there (Job k) b = omega arith

-- a holder's clock is its row
pub clock_read : (c : List ℕ) (h : Holder) → Within mainframe h → clock_of (clocks_in mainframe c) h ≡ row_of clock_width c (clock_row mainframe h)
unfolding Within clock_of clocks_in mainframe
clock_read c (Processor p) b = get_per_processor processor_limit (λ q. row_of clock_width c (clock_row mainframe (Processor q))) p [] b.0 b.1
clock_read c (Lock l) b = get_tabulate lock_limit (λ k. row_of clock_width c (clock_row mainframe (Lock k))) l [] b
clock_read c Barrier b = refl
clock_read c (Applied p g) b = get_page [] processor_limit page_limit (λ q k. row_of clock_width c (clock_row mainframe (Applied q k))) p g b.0 b.1 b.2
clock_read c (Interval p i) b = get_interval processor_limit interval_limit (λ q j. row_of clock_width c (clock_row mainframe (Interval q j))) p i b.0 b.1 b.2 b.3
clock_read c (Job k) b = get_tabulate job_limit (λ j. row_of clock_width c (clock_row mainframe (Job j))) k [] b

-- ---- a row stored anew: the tables that do not have it stay

module _ (c v : List ℕ) (k : ℕ) (e : length v ≡ clock_width) where
  processors_kept : ((p : ℕ) → 1 ≤ p → p ≤ processor_limit → clock_row mainframe (Processor p) ≡ k → ⊥)
      → (clocks_in mainframe (sets c (clock_width * k) v)).processors ≡ (clocks_in mainframe c).processors
  unfolding clocks_in mainframe
  processors_kept d =
      per_processor_same processor_limit (λ p. row_of clock_width (sets c (clock_width * k) v) (clock_row mainframe (Processor p))) (λ p. row_of clock_width c (clock_row mainframe (Processor p)))
      (λ p a b. row_of_sets_other clock_width c v k (clock_row mainframe (Processor p)) (omega arith) (d p a b))

  locks_kept : ((l : ℕ) → l < lock_limit → clock_row mainframe (Lock l) ≡ k → ⊥) → (clocks_in mainframe (sets c (clock_width * k) v)).locks ≡ (clocks_in mainframe c).locks
  unfolding clocks_in mainframe
  locks_kept d =
      tabulate_same lock_limit (λ l. row_of clock_width (sets c (clock_width * k) v) (clock_row mainframe (Lock l))) (λ l. row_of clock_width c (clock_row mainframe (Lock l)))
      (λ l a. row_of_sets_other clock_width c v k (clock_row mainframe (Lock l)) (omega arith) (d l a))

  barrier_kept : (clock_row mainframe Barrier ≡ k → ⊥) → (clocks_in mainframe (sets c (clock_width * k) v)).barrier ≡ (clocks_in mainframe c).barrier
  unfolding clocks_in mainframe
  barrier_kept d = row_of_sets_other clock_width c v k (clock_row mainframe Barrier) (omega arith) d

  applied_kept : ((p g : ℕ) → 1 ≤ p → p ≤ processor_limit → g < page_limit → clock_row mainframe (Applied p g) ≡ k → ⊥)
      → (clocks_in mainframe (sets c (clock_width * k) v)).applied ≡ (clocks_in mainframe c).applied
  unfolding clocks_in mainframe
  applied_kept d =
      page_table_same processor_limit page_limit (λ p g. row_of clock_width (sets c (clock_width * k) v) (clock_row mainframe (Applied p g))) (λ p g. row_of clock_width c (clock_row mainframe (Applied p g)))
      (λ p g a b z. row_of_sets_other clock_width c v k (clock_row mainframe (Applied p g)) (omega arith) (d p g a b z))

  intervals_kept : ((p i : ℕ) → 1 ≤ p → p ≤ processor_limit → 1 ≤ i → i ≤ interval_limit → clock_row mainframe (Interval p i) ≡ k → ⊥)
      → (clocks_in mainframe (sets c (clock_width * k) v)).intervals ≡ (clocks_in mainframe c).intervals
  unfolding clocks_in mainframe
  intervals_kept d =
      interval_table_same processor_limit interval_limit (λ p i. row_of clock_width (sets c (clock_width * k) v) (clock_row mainframe (Interval p i))) (λ p i. row_of clock_width c (clock_row mainframe (Interval p i)))
      (λ p i a b y z. row_of_sets_other clock_width c v k (clock_row mainframe (Interval p i)) (omega arith) (d p i a b y z))

  jobs_kept : ((j : ℕ) → j < job_limit → clock_row mainframe (Job j) ≡ k → ⊥) → (clocks_in mainframe (sets c (clock_width * k) v)).jobs ≡ (clocks_in mainframe c).jobs
  unfolding clocks_in mainframe
  jobs_kept d =
      tabulate_same job_limit (λ j. row_of clock_width (sets c (clock_width * k) v) (clock_row mainframe (Job j))) (λ j. row_of clock_width c (clock_row mainframe (Job j)))
      (λ j a. row_of_sets_other clock_width c v k (clock_row mainframe (Job j)) (omega arith) (d j a))

-- ---- and the table that has it has the new one there

module _ (c v : List ℕ) (there : length c ≡ clock_area) (e : length v ≡ clock_width) where
  processor_written : (p : ℕ) → 1 ≤ p → p ≤ processor_limit
      → (clocks_in mainframe (sets c (clock_width * clock_row mainframe (Processor p)) v)).processors ≡ put [] (clocks_in mainframe c).processors p v
  unfolding clocks_in mainframe clock_row
  processor_written p a b =
      per_processor_same processor_limit (λ q. row_of clock_width (sets c (clock_width * p) v) q) (λ q. cond (eqb q p) v (row_of clock_width c q)) (λ q x y. row_of_sets clock_width c v p q e (omega arith))
      ∙ sym (put_per_processor processor_limit (λ q. row_of clock_width c q) p v a b)

  lock_written : (l : ℕ) → l < lock_limit → (clocks_in mainframe (sets c (clock_width * clock_row mainframe (Lock l)) v)).locks ≡ put [] (clocks_in mainframe c).locks l v
  unfolding clocks_in mainframe clock_row lock_row
  lock_written l b =
      tabulate_same lock_limit (λ k. row_of clock_width (sets c (clock_width * (first_lock_row + l)) v) (first_lock_row + k)) (λ k. cond (eqb k l) v (row_of clock_width c (first_lock_row + k)))
      (λ k x.
      row_of_sets clock_width c v (first_lock_row + l) (first_lock_row + k) e (omega arith)
      ∙ ap (λ (t : Bool). cond t v (row_of clock_width c (first_lock_row + k))) (eqb_iff (first_lock_row + k) (first_lock_row + l) k l (λ z. omega (arith, z)) (λ z. omega (arith, z))))
      ∙ sym (put_tabulate [] lock_limit (λ k. row_of clock_width c (first_lock_row + k)) l v b)

  barrier_written : (clocks_in mainframe (sets c (clock_width * clock_row mainframe Barrier) v)).barrier ≡ v
  unfolding clocks_in mainframe clock_row
  barrier_written = row_of_sets_same clock_width c v 0 e (omega arith)

  applied_written : (p g : ℕ) → 1 ≤ p → p ≤ processor_limit → g < page_limit
      → (clocks_in mainframe (sets c (clock_width * clock_row mainframe (Applied p g)) v)).applied ≡ put_cell [] (clocks_in mainframe c).applied p g v
  unfolding clocks_in mainframe clock_row applied_row
  applied_written p g a b z =
      page_table_same processor_limit page_limit (λ q j. row_of clock_width (sets c (clock_width * applied_row mainframe p g) v) (applied_row mainframe q j))
      (λ q j. cond (eqb q p && eqb j g) v (row_of clock_width c (applied_row mainframe q j)))
      (λ q j x y w.
      row_of_sets clock_width c v (applied_row mainframe p g) (applied_row mainframe q j) e (omega arith)
      ∙ ap (λ (t : Bool). cond t v (row_of clock_width c (applied_row mainframe q j)))
      (eqb_pair (applied_row mainframe q j) (applied_row mainframe p g) q p j g (λ s. (omega arith, omega arith)) (λ s r. rw (s, r))))
      ∙ sym (put_page [] processor_limit page_limit (λ q j. row_of clock_width c (applied_row mainframe q j)) p g v a b z)

  interval_written : (p i : ℕ) → 1 ≤ p → p ≤ processor_limit → 1 ≤ i → i ≤ interval_limit
      → (clocks_in mainframe (sets c (clock_width * clock_row mainframe (Interval p i)) v)).intervals ≡ put_cell [] (clocks_in mainframe c).intervals p i v
  unfolding clocks_in mainframe clock_row interval_row
  interval_written p i a b y z =
      interval_table_same processor_limit interval_limit (λ q j. row_of clock_width (sets c (clock_width * interval_row mainframe p i) v) (interval_row mainframe q j))
      (λ q j. cond (eqb q p && eqb j i) v (row_of clock_width c (interval_row mainframe q j)))
      (λ q j x u w r.
      row_of_sets clock_width c v (interval_row mainframe p i) (interval_row mainframe q j) e (omega arith)
      ∙ ap (λ (t : Bool). cond t v (row_of clock_width c (interval_row mainframe q j)))
      (eqb_pair (interval_row mainframe q j) (interval_row mainframe p i) q p j i (λ s. (omega arith, omega arith)) (λ s r. rw (s, r))))
      ∙ sym (put_interval processor_limit interval_limit (λ q j. row_of clock_width c (interval_row mainframe q j)) p i v a b y z)

  job_written : (j : ℕ) → j < job_limit → (clocks_in mainframe (sets c (clock_width * clock_row mainframe (Job j)) v)).jobs ≡ put [] (clocks_in mainframe c).jobs j v
  unfolding clocks_in mainframe clock_row job_row
  job_written j b =
      tabulate_same job_limit (λ k. row_of clock_width (sets c (clock_width * (first_job_row + j)) v) (first_job_row + k)) (λ k. cond (eqb k j) v (row_of clock_width c (first_job_row + k)))
      (λ k x.
      row_of_sets clock_width c v (first_job_row + j) (first_job_row + k) e (omega arith)
      ∙ ap (λ (t : Bool). cond t v (row_of clock_width c (first_job_row + k))) (eqb_iff (first_job_row + k) (first_job_row + j) k j (λ z. omega (arith, z)) (λ z. omega (arith, z))))
      ∙ sym (put_tabulate [] job_limit (λ k. row_of clock_width c (first_job_row + k)) j v b)

-- a holder's row stored anew is its clock replaced
pub clock_written : (c v : List ℕ) (h : Holder) → length c ≡ clock_area → Within mainframe h → length v ≡ clock_width
    → clocks_in mainframe (sets c (clock_width * clock_row mainframe h) v) ≡ with_clock (clocks_in mainframe c) h v
unfolding Within with_clock clock_row lock_row applied_row interval_row job_row mainframe
clock_written c v (Processor p) t w e =
    λ i. record {
      processors = processor_written c v t e p w.0 w.1 i;
      locks = locks_kept c v p e (λ l x z. omega arith) i;
      barrier = barrier_kept c v p e (λ z. omega arith) i;
      applied = applied_kept c v p e (λ q g x y b z. omega arith) i;
      intervals = intervals_kept c v p e (λ q j x y a b z. omega arith) i;
      jobs = jobs_kept c v p e (λ j x z. omega arith) i;
    }
clock_written c v (Lock l) t w e =
    let k : ℕ = lock_row mainframe l in
    λ i. record {
      processors = processors_kept c v k e (λ q x y z. omega arith) i;
      locks = lock_written c v t e l w i;
      barrier = barrier_kept c v k e (λ z. omega arith) i;
      applied = applied_kept c v k e (λ q g x y b z. omega arith) i;
      intervals = intervals_kept c v k e (λ q j x y a b z. omega arith) i;
      jobs = jobs_kept c v k e (λ j x z. omega arith) i;
    }
clock_written c v Barrier t w e =
    λ i. record {
      processors = processors_kept c v 0 e (λ q x y z. omega arith) i;
      locks = locks_kept c v 0 e (λ l x z. omega arith) i;
      barrier = barrier_written c v t e i;
      applied = applied_kept c v 0 e (λ q g x y b z. omega arith) i;
      intervals = intervals_kept c v 0 e (λ q j x y a b z. omega arith) i;
      jobs = jobs_kept c v 0 e (λ j x z. omega arith) i;
    }
clock_written c v (Applied p g) t w e =
    let k : ℕ = applied_row mainframe p g in
    λ i. record {
      processors = processors_kept c v k e (λ q x y z. omega (arith, w)) i;
      locks = locks_kept c v k e (λ l x z. omega arith) i;
      barrier = barrier_kept c v k e (λ z. omega arith) i;
      applied = applied_written c v t e p g w.0 w.1 w.2 i;
      intervals = intervals_kept c v k e (λ q j x y a b z. omega arith) i;
      jobs = jobs_kept c v k e (λ j x z. omega arith) i;
    }
clock_written c v (Interval p n) t w e =
    let k : ℕ = interval_row mainframe p n in
    λ i. record {
      processors = processors_kept c v k e (λ q x y z. omega arith) i;
      locks = locks_kept c v k e (λ l x z. omega arith) i;
      barrier = barrier_kept c v k e (λ z. omega arith) i;
      applied = applied_kept c v k e (λ q g x y b z. omega arith) i;
      intervals = interval_written c v t e p n w.0 w.1 w.2 w.3 i;
      jobs = jobs_kept c v k e (λ j x z. omega arith) i;
    }
clock_written c v (Job n) t w e =
    let k : ℕ = job_row mainframe n in
    λ i. record {
      processors = processors_kept c v k e (λ q x y z. omega arith) i;
      locks = locks_kept c v k e (λ l x z. omega arith) i;
      barrier = barrier_kept c v k e (λ z. omega arith) i;
      applied = applied_kept c v k e (λ q g x y b z. omega arith) i;
      intervals = intervals_kept c v k e (λ q j x y a b z. omega arith) i;
      jobs = job_written c v t e n w i;
    }

-- ---- every clock cleared

-- an area of zeros holds clocks of zeros
pub clocks_cleared : (c : List ℕ) → clocks_in mainframe (map (λ e. 0) c) ≡ all_cleared (clocks_in mainframe c)
unfolding clocks_in all_cleared mainframe cleared
clocks_cleared c =
    λ i. record {
      processors =
          (per_processor_same processor_limit (λ p. row_of clock_width z (row (Processor p))) (λ p. cleared (row_of clock_width c (row (Processor p)))) (λ p x y. at (Processor p))
          ∙ sym (map_per_processor (λ e. 0) processor_limit (λ p. row_of clock_width c (row (Processor p))))) i;
      locks =
          (tabulate_same lock_limit (λ l. row_of clock_width z (row (Lock l))) (λ l. cleared (row_of clock_width c (row (Lock l)))) (λ l x. at (Lock l))
          ∙ sym (map_tabulate cleared lock_limit (λ l. row_of clock_width c (row (Lock l))))) i;
      barrier = at Barrier i;
      applied =
          (per_processor_same processor_limit (λ p. tabulate page_limit (λ g. row_of clock_width z (row (Applied p g)))) (λ p. map cleared (tabulate page_limit (λ g. row_of clock_width c (row (Applied p g)))))
          (λ p x y.
          tabulate_same page_limit (λ g. row_of clock_width z (row (Applied p g))) (λ g. cleared (row_of clock_width c (row (Applied p g)))) (λ g b. at (Applied p g))
          ∙ sym (map_tabulate cleared page_limit (λ g. row_of clock_width c (row (Applied p g)))))
          ∙ sym (map_per_processor cleared processor_limit (λ p. tabulate page_limit (λ g. row_of clock_width c (row (Applied p g)))))) i;
      intervals =
          (per_processor_same processor_limit (λ p. per_processor interval_limit (λ n. row_of clock_width z (row (Interval p n)))) (λ p. map cleared (per_processor interval_limit (λ n. row_of clock_width c (row (Interval p n)))))
          (λ p x y.
          per_processor_same interval_limit (λ n. row_of clock_width z (row (Interval p n))) (λ n. cleared (row_of clock_width c (row (Interval p n)))) (λ n a b. at (Interval p n))
          ∙ sym (map_per_processor (λ e. 0) interval_limit (λ n. row_of clock_width c (row (Interval p n)))))
          ∙ sym (map_per_processor cleared processor_limit (λ p. per_processor interval_limit (λ n. row_of clock_width c (row (Interval p n)))))) i;
      jobs =
          (tabulate_same job_limit (λ k. row_of clock_width z (row (Job k))) (λ k. cleared (row_of clock_width c (row (Job k)))) (λ k x. at (Job k))
          ∙ sym (map_tabulate cleared job_limit (λ k. row_of clock_width c (row (Job k))))) i;
    }
  where
    z : List ℕ
    z = map (λ e. 0) c

    row : Holder → ℕ
    row h = clock_row mainframe h

    at : (h : Holder) → row_of clock_width (map (λ e. 0) c) (clock_row mainframe h) ≡ cleared (row_of clock_width c (clock_row mainframe h))
    at h = row_map (λ e. 0) clock_width c (clock_row mainframe h)

-- the same for an area filled with zeros
pub clocks_zeros : (c : List ℕ) → clocks_in mainframe (replicate (length c) 0) ≡ all_cleared (clocks_in mainframe c)
clocks_zeros c = ap (λ (z : List ℕ). clocks_in mainframe z) (sym (map_replicate c 0)) ∙ clocks_cleared c
