-- Laws of clock holders: which of them carry news, what clock each holder has after one of them changed, after an entry was raised and
-- after all were cleared. Rests on Tables. Assumes nothing.
use Prim.Native.Nat.{ℕ, zero, suc, ◌+◌, ◌≤◌, ◌<◌}
use native.Mathlib.Omega.{arith}
use mathlib.Core.Path.{◌≡◌, refl, sym, ap, ap₂, ◌∙◌}
use mathlib.Core.Bool.{Bool, true, false, cond, ◌&&◌, and-eq-true_iff, false≢true}
use mathlib.Core.List.{List, [], ◌∷◌, map}
use lib.ListN.{length, get_or, length-map}
use lib.Dec.{eqb}
use borrow.Author.Tests.{eqb-true, eq-eqb}
use Rattle.lists.specs.Tables.{put}
use Rattle.lists.proofs.Tables.{get_put_same, get_put_other, get_put, length_put_within, cell_put, get_map}
use Rattle.clock.specs.Clocks.{entry_of, sum_of}
use Rattle.rules.specs.State.{Counts, Holder, Processor, Lock, Barrier, Applied, Interval, Job, Clocks, clock_of, with_clock, cleared}
use Rattle.rules.specs.Close.{raised}
use Rattle.rules.specs.Steps.{all_cleared}

-- ---- whether two holders are one

unfoldable pub same_holder : Holder → Holder → Bool
same_holder (Processor p₁) (Processor p₂) = eqb p₂ p₁
same_holder (Processor p₁) (Lock l₂) = false
same_holder (Processor p₁) Barrier = false
same_holder (Processor p₁) (Applied p₂ g₂) = false
same_holder (Processor p₁) (Interval p₂ i₂) = false
same_holder (Lock l₁) (Processor p₂) = false
same_holder (Lock l₁) (Lock l₂) = eqb l₂ l₁
same_holder (Lock l₁) Barrier = false
same_holder (Lock l₁) (Applied p₂ g₂) = false
same_holder (Lock l₁) (Interval p₂ i₂) = false
same_holder Barrier (Processor p₂) = false
same_holder Barrier (Lock l₂) = false
same_holder Barrier Barrier = true
same_holder Barrier (Applied p₂ g₂) = false
same_holder Barrier (Interval p₂ i₂) = false
same_holder (Applied p₁ g₁) (Processor p₂) = false
same_holder (Applied p₁ g₁) (Lock l₂) = false
same_holder (Applied p₁ g₁) Barrier = false
same_holder (Applied p₁ g₁) (Applied p₂ g₂) = eqb p₂ p₁ && eqb g₂ g₁
same_holder (Applied p₁ g₁) (Interval p₂ i₂) = false
same_holder (Interval p₁ i₁) (Processor p₂) = false
same_holder (Interval p₁ i₁) (Lock l₂) = false
same_holder (Interval p₁ i₁) Barrier = false
same_holder (Interval p₁ i₁) (Applied p₂ g₂) = false
same_holder (Interval p₁ i₁) (Interval p₂ i₂) = eqb p₂ p₁ && eqb i₂ i₁
same_holder (Processor p₁) (Job k₂) = false
same_holder (Lock l₁) (Job k₂) = false
same_holder Barrier (Job k₂) = false
same_holder (Applied p₁ g₁) (Job k₂) = false
same_holder (Interval p₁ i₁) (Job k₂) = false
same_holder (Job k₁) (Processor p₂) = false
same_holder (Job k₁) (Lock l₂) = false
same_holder (Job k₁) Barrier = false
same_holder (Job k₁) (Applied p₂ g₂) = false
same_holder (Job k₁) (Interval p₂ i₂) = false
same_holder (Job k₁) (Job k₂) = eqb k₂ k₁

pub same_holder_refl : (h : Holder) → same_holder h h ≡ true
unfolding same_holder
same_holder_refl (Processor p) = eq-eqb p p refl
same_holder_refl (Lock l) = eq-eqb l l refl
same_holder_refl Barrier = refl
same_holder_refl (Applied p g) = (and-eq-true_iff (eqb p p) (eqb g g)).1 (eq-eqb p p refl, eq-eqb g g refl)
same_holder_refl (Interval p i) = (and-eq-true_iff (eqb p p) (eqb i i)).1 (eq-eqb p p refl, eq-eqb i i refl)
same_holder_refl (Job k) = eq-eqb k k refl

pub same_holder_lem : (h k : Holder) → same_holder h k ≡ true → h ≡ k
unfolding same_holder
same_holder_lem (Processor p₁) (Processor p₂) e = ap Processor (sym (eqb-true p₂ p₁ e))
same_holder_lem (Processor p₁) (Lock l₂) e = absurd (false≢true e)
same_holder_lem (Processor p₁) Barrier e = absurd (false≢true e)
same_holder_lem (Processor p₁) (Applied p₂ g₂) e = absurd (false≢true e)
same_holder_lem (Processor p₁) (Interval p₂ i₂) e = absurd (false≢true e)
same_holder_lem (Lock l₁) (Processor p₂) e = absurd (false≢true e)
same_holder_lem (Lock l₁) (Lock l₂) e = ap Lock (sym (eqb-true l₂ l₁ e))
same_holder_lem (Lock l₁) Barrier e = absurd (false≢true e)
same_holder_lem (Lock l₁) (Applied p₂ g₂) e = absurd (false≢true e)
same_holder_lem (Lock l₁) (Interval p₂ i₂) e = absurd (false≢true e)
same_holder_lem Barrier (Processor p₂) e = absurd (false≢true e)
same_holder_lem Barrier (Lock l₂) e = absurd (false≢true e)
same_holder_lem Barrier Barrier e = refl
same_holder_lem Barrier (Applied p₂ g₂) e = absurd (false≢true e)
same_holder_lem Barrier (Interval p₂ i₂) e = absurd (false≢true e)
same_holder_lem (Applied p₁ g₁) (Processor p₂) e = absurd (false≢true e)
same_holder_lem (Applied p₁ g₁) (Lock l₂) e = absurd (false≢true e)
same_holder_lem (Applied p₁ g₁) Barrier e = absurd (false≢true e)
same_holder_lem (Applied p₁ g₁) (Applied p₂ g₂) e = let t = (and-eq-true_iff (eqb p₂ p₁) (eqb g₂ g₁)).0 e in ap₂ Applied (sym (eqb-true p₂ p₁ t.0)) (sym (eqb-true g₂ g₁ t.1))
same_holder_lem (Applied p₁ g₁) (Interval p₂ i₂) e = absurd (false≢true e)
same_holder_lem (Interval p₁ i₁) (Processor p₂) e = absurd (false≢true e)
same_holder_lem (Interval p₁ i₁) (Lock l₂) e = absurd (false≢true e)
same_holder_lem (Interval p₁ i₁) Barrier e = absurd (false≢true e)
same_holder_lem (Interval p₁ i₁) (Applied p₂ g₂) e = absurd (false≢true e)
same_holder_lem (Interval p₁ i₁) (Interval p₂ i₂) e = let t = (and-eq-true_iff (eqb p₂ p₁) (eqb i₂ i₁)).0 e in ap₂ Interval (sym (eqb-true p₂ p₁ t.0)) (sym (eqb-true i₂ i₁ t.1))
same_holder_lem (Processor p₁) (Job k₂) e = absurd (false≢true e)
same_holder_lem (Lock l₁) (Job k₂) e = absurd (false≢true e)
same_holder_lem Barrier (Job k₂) e = absurd (false≢true e)
same_holder_lem (Applied p₁ g₁) (Job k₂) e = absurd (false≢true e)
same_holder_lem (Interval p₁ i₁) (Job k₂) e = absurd (false≢true e)
same_holder_lem (Job k₁) (Processor p₂) e = absurd (false≢true e)
same_holder_lem (Job k₁) (Lock l₂) e = absurd (false≢true e)
same_holder_lem (Job k₁) Barrier e = absurd (false≢true e)
same_holder_lem (Job k₁) (Applied p₂ g₂) e = absurd (false≢true e)
same_holder_lem (Job k₁) (Interval p₂ i₂) e = absurd (false≢true e)
same_holder_lem (Job k₁) (Job k₂) e = ap Job (sym (eqb-true k₂ k₁ e))

pub other_holder : (h k : Holder) → (h ≡ k → ⊥) → same_holder h k ≡ false
other_holder h k d = go (same_holder h k) refl
  where
    go : (b : Bool) → same_holder h k ≡ b → b ≡ false
    go true e = absurd (d (same_holder_lem h k e))
    go false e = refl

-- ---- one clock replaced

pub clock_of_with : (c : Clocks) (h : Holder) (v : List ℕ) (k : Holder) → clock_of (with_clock c h v) k ≡ cond (same_holder h k) v (clock_of c k)
unfolding clock_of with_clock same_holder
clock_of_with c (Processor p₁) v (Processor p₂) = get_put [] c.processors p₁ p₂ v
clock_of_with c (Processor p₁) v (Lock l₂) = refl
clock_of_with c (Processor p₁) v Barrier = refl
clock_of_with c (Processor p₁) v (Applied p₂ g₂) = refl
clock_of_with c (Processor p₁) v (Interval p₂ i₂) = refl
clock_of_with c (Lock l₁) v (Processor p₂) = refl
clock_of_with c (Lock l₁) v (Lock l₂) = get_put [] c.locks l₁ l₂ v
clock_of_with c (Lock l₁) v Barrier = refl
clock_of_with c (Lock l₁) v (Applied p₂ g₂) = refl
clock_of_with c (Lock l₁) v (Interval p₂ i₂) = refl
clock_of_with c Barrier v (Processor p₂) = refl
clock_of_with c Barrier v (Lock l₂) = refl
clock_of_with c Barrier v Barrier = refl
clock_of_with c Barrier v (Applied p₂ g₂) = refl
clock_of_with c Barrier v (Interval p₂ i₂) = refl
clock_of_with c (Applied p₁ g₁) v (Processor p₂) = refl
clock_of_with c (Applied p₁ g₁) v (Lock l₂) = refl
clock_of_with c (Applied p₁ g₁) v Barrier = refl
clock_of_with c (Applied p₁ g₁) v (Applied p₂ g₂) = cell_put [] c.applied p₁ g₁ p₂ g₂ v
clock_of_with c (Applied p₁ g₁) v (Interval p₂ i₂) = refl
clock_of_with c (Interval p₁ i₁) v (Processor p₂) = refl
clock_of_with c (Interval p₁ i₁) v (Lock l₂) = refl
clock_of_with c (Interval p₁ i₁) v Barrier = refl
clock_of_with c (Interval p₁ i₁) v (Applied p₂ g₂) = refl
clock_of_with c (Interval p₁ i₁) v (Interval p₂ i₂) = cell_put [] c.intervals p₁ i₁ p₂ i₂ v
clock_of_with c (Processor p₁) v (Job k₂) = refl
clock_of_with c (Lock l₁) v (Job k₂) = refl
clock_of_with c Barrier v (Job k₂) = refl
clock_of_with c (Applied p₁ g₁) v (Job k₂) = refl
clock_of_with c (Interval p₁ i₁) v (Job k₂) = refl
clock_of_with c (Job k₁) v (Processor p₂) = refl
clock_of_with c (Job k₁) v (Lock l₂) = refl
clock_of_with c (Job k₁) v Barrier = refl
clock_of_with c (Job k₁) v (Applied p₂ g₂) = refl
clock_of_with c (Job k₁) v (Interval p₂ i₂) = refl
clock_of_with c (Job k₁) v (Job k₂) = get_put [] c.jobs k₁ k₂ v

pub clock_of_with_same : (c : Clocks) (h : Holder) (v : List ℕ) → clock_of (with_clock c h v) h ≡ v
clock_of_with_same c h v = clock_of_with c h v h ∙ ap (λ (b : Bool). cond b v (clock_of c h)) (same_holder_refl h)

pub clock_of_with_other : (c : Clocks) (h : Holder) (v : List ℕ) (k : Holder) → same_holder h k ≡ false → clock_of (with_clock c h v) k ≡ clock_of c k
clock_of_with_other c h v k e = clock_of_with c h v k ∙ ap (λ (b : Bool). cond b v (clock_of c k)) e

-- ---- the holders whose clocks carry news

-- present processors and locks, and the barrier
unfoldable pub Knows : Counts → Holder → Type 0
Knows n (Processor p) = (1 ≤ p) × (p ≤ n.processors)
Knows n (Lock l) = l < n.locks
Knows n Barrier = Unit
Knows n (Applied p g) = ⊥
Knows n (Interval p i) = ⊥
Knows n (Job k) = Unit

-- none of them is an applied clock
pub knows_no_applied : (n : Counts) (h : Holder) (p g : ℕ) → Knows n h → h ≡ Applied p g → ⊥
unfolding Knows
knows_no_applied n h p g k e = rw e at k

-- nor an interval's
pub knows_no_interval : (n : Counts) (h : Holder) (p i : ℕ) → Knows n h → h ≡ Interval p i → ⊥
unfolding Knows
knows_no_interval n h p i k e = rw e at k

-- a carrier: one of them that is no processor
pub record Carrier (n : Counts) (h : Holder) : Type 0 where
  pub knows : Knows n h
  pub no_processor : (q : ℕ) → same_holder h (Processor q) ≡ false

-- a present lock is one
pub lock_carries : (n : Counts) (l : ℕ) → l < n.locks → Carrier n (Lock l)
unfolding Knows same_holder
lock_carries n l h = record { knows = h; no_processor = λ q. refl }

-- and a job
pub job_carries : (n : Counts) (k : ℕ) → Carrier n (Job k)
unfolding Knows same_holder
job_carries n k = record { knows = tt; no_processor = λ q. refl }

-- and the barrier
pub barrier_carries : (n : Counts) → Carrier n Barrier
unfolding Knows same_holder
barrier_carries n = record { knows = tt; no_processor = λ q. refl }

-- ---- one entry raised

pub entry_raised_own : (c : List ℕ) (p : ℕ) → 0 < p → entry_of (raised c p) p ≡ entry_of c p + 1
unfolding raised entry_of
entry_raised_own c zero h = absurd (omega arith)
entry_raised_own c (suc q) h = get_put_same 0 c q (get_or c q 0 + 1)

pub entry_raised_other : (c : List ℕ) (p q : ℕ) → (q ≡ p → ⊥) → entry_of (raised c p) q ≡ entry_of c q
unfolding raised entry_of
entry_raised_other c zero q h = refl
entry_raised_other c (suc p) zero h = refl
entry_raised_other c (suc p) (suc q) h = get_put_other 0 c p q (get_or c p 0 + 1) (λ e. h (ap suc e))

sum_put : (c : List ℕ) (i v : ℕ) → sum_of (put 0 c i v) + get_or c i 0 ≡ sum_of c + v
unfolding put sum_of
sum_put [] zero v = omega arith
sum_put [] (suc i) v = omega (arith, sum_put [] i v)
sum_put (x ∷ c) zero v = omega arith
sum_put (x ∷ c) (suc i) v = omega (arith, sum_put c i v)

pub sum_raised : (c : List ℕ) (p : ℕ) → 0 < p → sum_of (raised c p) ≡ sum_of c + 1
unfolding raised
sum_raised c zero h = absurd (omega arith)
sum_raised c (suc q) h = omega (arith, sum_put c q (get_or c q 0 + 1))

pub length_raised : (c : List ℕ) (p : ℕ) → p ≤ length c → length (raised c p) ≡ length c
unfolding raised
length_raised c zero h = refl
length_raised c (suc q) h = length_put_within 0 c q (get_or c q 0 + 1) h

-- ---- clocks cleared

pub entry_cleared : (c : List ℕ) (q : ℕ) → entry_of (cleared c) q ≡ 0
unfolding cleared entry_of
entry_cleared c zero = refl
entry_cleared c (suc q) = get_map (λ (e : ℕ). 0) 0 c q

pub length_cleared : (c : List ℕ) → length (cleared c) ≡ length c
unfolding cleared
length_cleared c = length-map c (λ (e : ℕ). 0)

pub clock_of_all_cleared : (c : Clocks) (h : Holder) → clock_of (all_cleared c) h ≡ cleared (clock_of c h)
unfolding clock_of all_cleared cleared
clock_of_all_cleared c (Processor p) = get_map cleared [] c.processors p
clock_of_all_cleared c (Lock l) = get_map cleared [] c.locks l
clock_of_all_cleared c Barrier = refl
clock_of_all_cleared c (Applied p g) = ap (λ (row : List (List ℕ)). get_or row g []) (get_map (map cleared) [] c.applied p) ∙ get_map cleared [] (get_or c.applied p []) g
clock_of_all_cleared c (Interval p i) =
    ap (λ (row : List (List ℕ)). get_or row i []) (get_map (map cleared) [] c.intervals p) ∙ get_map cleared [] (get_or c.intervals p []) i
clock_of_all_cleared c (Job k) = get_map cleared [] c.jobs k
