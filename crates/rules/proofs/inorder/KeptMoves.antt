-- The clocks stay in order when one of them is set: a lock's or the barrier's, an applied clock, an interval's or a processor's. Rests on
-- KeptClocks. Assumes nothing.
use Prim.Native.Nat.{ℕ, ◌≤◌, ◌<◌}
use native.Mathlib.Omega.{arith}
use native.Mathlib.Decide.{ℕ_discrete}
use native.Mathlib.Nat.{le_of_eq, le_trans}
use mathlib.Core.Path.{◌≡◌, refl, sym, ap, ◌∙◌}
use mathlib.Core.Bool.{Bool, true, false, and-eq-true_iff, false≢true}
use mathlib.Core.List.{List}
use lib.ListN.{length}
use lib.Dec.{ltb, eqb}
use borrow.Author.Tests.{eqb-true, lt-ltb, ne_eqb}
use Rattle.clock.specs.Clocks.{entry_of}
use Rattle.rules.specs.State.{Limits, Counts, Holder, Processor, Lock, Barrier, Applied, Interval, Job, Clocks, clock_of, with_clock}
use Rattle.rules.proofs.state.Holders.{same_holder, other_holder, clock_of_with_same, clock_of_with_other, Knows, knows_no_applied, knows_no_interval, Carrier}
use Rattle.rules.proofs.inorder.Facts.{Within}
use Rattle.rules.proofs.inorder.KeptParts.{present_among, among_says, among_when, holder_among, own_in, CountsInOrder, ClocksInOrder}
use Rattle.rules.proofs.inorder.KeptClocks.{by_replaced, replaced_in_order}

-- an entry that its processor knows is 0 where the processor is absent
absent_known : (lim : Limits) (n : Counts) (c : Clocks) (q e : ℕ) → ClocksInOrder lim n c → e ≤ own_in c q → present_among n q ≡ false → e ≡ 0
absent_known lim n c q e f h a = omega (arith, f.absent_entry (Processor q) q a)

-- clocks in order that leave every processor's own entry as it was
pub record OwnKept (lim : Limits) (n : Counts) (c after : Clocks) : Type 0 where
  pub in_order : ClocksInOrder lim n after
  pub own_kept : (q : ℕ) → own_in after q ≡ own_in c q

-- two moves after one another
pub kept_again : {lim : Limits} {n : Counts} {c d e : Clocks} → OwnKept lim n c d → OwnKept lim n d e → OwnKept lim n c e
kept_again f g = record { in_order = g.in_order; own_kept = λ q. g.own_kept q ∙ f.own_kept q }

-- ---- one clock set

-- a holder that carries news is present, and has its place
knows_present : (n : Counts) (h : Holder) → Knows n h → holder_among n h ≡ true
unfolding Knows holder_among
knows_present n (Processor p) k = among_when n p k.0 k.1
knows_present n (Lock l) k = lt-ltb l n.locks k
knows_present n Barrier k = refl
knows_present n (Applied p g) k = absurd k
knows_present n (Interval p i) k = absurd k
knows_present n (Job i) k = refl

pub present_within : (lim : Limits) (n : Counts) → CountsInOrder lim n → (p : ℕ) → present_among n p ≡ true → Within lim (Processor p)
unfolding Within
present_within lim n c p a = let k = among_says n p a in (k.0, omega (arith, k.1, c.processors_fit))

pub lock_within : (lim : Limits) (n : Counts) → CountsInOrder lim n → (l : ℕ) → l < n.locks → Within lim (Lock l)
unfolding Within
lock_within lim n c l k = omega (arith, k, c.locks_fit)

-- a carrier gets a clock of which every processor knows its entry
pub carrier_set : (lim : Limits) (n : Counts) (c : Clocks) (h : Holder) (v : List ℕ) → CountsInOrder lim n → ClocksInOrder lim n c → Carrier n h → Within lim h
    → length v ≡ lim.processors → ((q : ℕ) → entry_of v q ≤ own_in c q) → OwnKept lim n c (with_clock c h v)
carrier_set lim n c h v k f carrier place w e =
    record {
      in_order =
          replaced_in_order lim n c h v f
          (record {
            within = place;
            present = knows_present n h carrier.knows;
            whole = w;
            own_grows = λ q. omega (arith, kept q);
            own_fits_lem = λ q. omega (arith, kept q, f.own_fits_lem q);
            known = λ q. omega (arith, kept q, e q);
            absent = λ q a. absent_known lim n c q (entry_of v q) f (e q) a;
            later = λ p i q l. rw (clock_of_with_other c h v (Interval p i) (other_holder h (Interval p i) (knows_no_interval n h p i carrier.knows))) (f.later_interval p i q (omega (arith, kept p, l)));
            applied = λ p g q.
                rw (
                  clock_of_with_other c h v (Applied p g) (other_holder h (Applied p g) (knows_no_applied n h p g carrier.knows)),
                  clock_of_with_other c h v (Processor p) (carrier.no_processor p),
                )
                (f.applied_known_lem p g q);
          });
      own_kept = kept;
    }
  where
    kept : (q : ℕ) → own_in (with_clock c h v) q ≡ own_in c q
    kept q = ap (λ (x : List ℕ). entry_of x q) (clock_of_with_other c h v (Processor q) (carrier.no_processor q))

-- a page's applied clock becomes its processor's clock
pub applied_set : (lim : Limits) (n : Counts) (c : Clocks) (p g : ℕ) → CountsInOrder lim n → ClocksInOrder lim n c → present_among n p ≡ true → g < n.pages
    → ClocksInOrder lim n (with_clock c (Applied p g) (clock_of c (Processor p)))
unfolding with_clock clock_of holder_among Within same_holder
applied_set lim n c p g k f a h =
    let b = among_says n p a in
    replaced_in_order lim n c (Applied p g) (clock_of c (Processor p)) f
    (record {
      within = (b.0, omega (arith, b.1, k.processors_fit), omega (arith, k.pages_fit));
      present = (and-eq-true_iff (present_among n p) (ltb g n.pages)).1 (a, lt-ltb g n.pages h);
      whole = f.sized.clocks (Processor p) (b.0, omega (arith, b.1, k.processors_fit));
      own_grows = λ q. omega arith;
      own_fits_lem = f.own_fits_lem;
      known = f.known (Processor p);
      absent = f.absent_entry (Processor p);
      later = f.later_interval;
      applied = λ p₂ g₂ q.
          by_replaced (λ x. entry_of x q ≤ entry_of (clock_of c (Processor p₂)) q) c (Applied p g) (clock_of c (Processor p)) (Applied p₂ g₂)
          (λ same. le_of_eq (ap (λ (z : ℕ). entry_of (clock_of c (Processor z)) q) (sym (eqb-true p₂ p ((and-eq-true_iff (eqb p₂ p) (eqb g₂ g)).0 same).0))))
          (f.applied_known_lem p₂ g₂ q);
    })

-- the interval that a processor has just made keeps a clock
pub interval_set : (lim : Limits) (n : Counts) (c : Clocks) (p i : ℕ) (v : List ℕ) → CountsInOrder lim n → ClocksInOrder lim n c → present_among n p ≡ true
    → 1 ≤ i → i ≤ own_in c p → length v ≡ lim.processors → ((q : ℕ) → entry_of v q ≤ own_in c q) → ClocksInOrder lim n (with_clock c (Interval p i) v)
unfolding with_clock clock_of holder_among Within same_holder
interval_set lim n c p i v k f a h j w e =
    let b = among_says n p a in
    replaced_in_order lim n c (Interval p i) v f
    (record {
      within = (b.0, omega (arith, b.1, k.processors_fit), h, omega (arith, f.own_fits_lem p));
      present = a;
      whole = w;
      own_grows = λ q. omega arith;
      own_fits_lem = f.own_fits_lem;
      known = e;
      absent = λ q z. absent_known lim n c q (entry_of v q) f (e q) z;
      later = λ p₂ i₂ q l.
          by_replaced (λ x. entry_of x q ≡ 0) c (Interval p i) v (Interval p₂ i₂)
          (λ same. absurd (made p₂ i₂ l ((and-eq-true_iff (eqb p₂ p) (eqb i₂ i)).0 same)))
          (f.later_interval p₂ i₂ q l);
      applied = f.applied_known_lem;
    })
  where
    made : (p₂ i₂ : ℕ) → entry_of (clock_of c (Processor p₂)) p₂ < i₂ → (eqb p₂ p ≡ true) × (eqb i₂ i ≡ true) → ⊥
    made p₂ i₂ l t =
        let o : own_in c p₂ ≡ own_in c p = ap (own_in c) (eqb-true p₂ p t.0) in
        omega (arith, l, j, o, eqb-true i₂ i t.1)

-- the own entry of a processor that gets a clock
pub own_same : (c : Clocks) (p : ℕ) (v : List ℕ) → own_in (with_clock c (Processor p) v) p ≡ entry_of v p
own_same c p v = ap (λ (x : List ℕ). entry_of x p) (clock_of_with_same c (Processor p) v)

-- and of every other processor
pub own_other : (c : Clocks) (p q : ℕ) (v : List ℕ) → (q ≡ p → ⊥) → own_in (with_clock c (Processor p) v) q ≡ own_in c q
unfolding same_holder
own_other c p q v d = ap (λ (x : List ℕ). entry_of x q) (clock_of_with_other c (Processor p) v (Processor q) (ne_eqb q p d))

-- a processor's clock grows, by what the others know; its own entry may rise
pub processor_set : (lim : Limits) (n : Counts) (c : Clocks) (p : ℕ) (v : List ℕ) → CountsInOrder lim n → ClocksInOrder lim n c → present_among n p ≡ true
    → length v ≡ lim.processors → ((q : ℕ) → entry_of (clock_of c (Processor p)) q ≤ entry_of v q) → entry_of v p ≤ lim.intervals
    → ((q : ℕ) → (q ≡ p → ⊥) → entry_of v q ≤ own_in c q) → ClocksInOrder lim n (with_clock c (Processor p) v)
unfolding with_clock clock_of holder_among Within same_holder
processor_set lim n c p v k f a w grows fits e =
    let b = among_says n p a in
    replaced_in_order lim n c (Processor p) v f
    (record {
      within = (b.0, omega (arith, b.1, k.processors_fit));
      present = a;
      whole = w;
      own_grows = grown;
      own_fits_lem = λ q. fitting q (ℕ_discrete q p);
      known = λ q. known_to_lem q (ℕ_discrete q p);
      absent = λ q z. absent_known lim n c q (entry_of v q) f (e q (λ d. elsewhere q d z)) z;
      later = λ p₂ i q l. f.later_interval p₂ i q (omega (arith, grown p₂, l));
      applied = λ p₂ g q.
          by_replaced (λ x. entry_of (clock_of c (Applied p₂ g)) q ≤ entry_of x q) c (Processor p) v (Processor p₂)
          (λ same. le_trans (f.applied_known_lem p₂ g q) (le_trans (le_of_eq (ap (λ (z : ℕ). entry_of (clock_of c (Processor z)) q) (eqb-true p₂ p same))) (grows q)))
          (f.applied_known_lem p₂ g q);
    })
  where
    grown : (q : ℕ) → own_in c q ≤ own_in (with_clock c (Processor p) v) q
    grown q = go (ℕ_discrete q p)
      where
        go : Dec (q ≡ p) → own_in c q ≤ own_in (with_clock c (Processor p) v) q
        go (yes d) = rw d (omega (arith, own_same c p v, grows p))
        go (no d) = omega (arith, own_other c p q v d)

    fitting : (q : ℕ) → Dec (q ≡ p) → own_in (with_clock c (Processor p) v) q ≤ lim.intervals
    fitting q (yes d) = rw d (omega (arith, own_same c p v))
    fitting q (no d) = omega (arith, own_other c p q v d, f.own_fits_lem q)

    known_to_lem : (q : ℕ) → Dec (q ≡ p) → entry_of v q ≤ own_in (with_clock c (Processor p) v) q
    known_to_lem q (yes d) = rw d (omega (arith, own_same c p v))
    known_to_lem q (no d) = omega (arith, own_other c p q v d, e q d)

    elsewhere : (q : ℕ) → q ≡ p → present_among n q ≡ false → ⊥
    elsewhere q d z = let t : ◌≡◌ {A = Bool} false true = sym z ∙ ap (present_among n) d ∙ a in false≢true t
