-- The clocks stay in order when a processor ends an interval, when one clock learns another, when a barrier round completes, and when all
-- clocks are cleared. Rests on KeptMoves. Assumes nothing.
use Prim.Native.Nat.{ℕ, zero, suc, ◌+◌, ◌≤◌, ◌<◌, max}
use native.Mathlib.Omega.{arith}
use native.Mathlib.Decide.{ℕ_discrete}
use native.Mathlib.Nat.{le_of_eq, le_trans}
use mathlib.Core.Path.{◌≡◌, refl, sym, ap, ◌∙◌}
use mathlib.Core.Bool.{true}
use mathlib.Core.List.{List}
use lib.ListN.{length, length-map}
use Rattle.clock.specs.Clocks.{joined, entry_of}
use Rattle.clock.proofs.Laws.{length_joined, entry_of_joined}
use Rattle.rules.specs.State.{Limits, Counts, Holder, Processor, Barrier, Applied, Interval, Clocks, clock_of, with_clock, cleared, State, clock, own}
use Rattle.rules.specs.Close.{raised, ticked}
use Rattle.rules.specs.Steps.{learned, all_learned, all_cleared}
use Rattle.rules.proofs.state.Holders.{clock_of_with_same, Knows, Carrier, barrier_carries, entry_raised_own, entry_raised_other, length_raised, entry_cleared, length_cleared, clock_of_all_cleared}
use Rattle.rules.proofs.inorder.Facts.{Within}
use Rattle.rules.proofs.inorder.Rows.{rows_map_all}
use Rattle.rules.proofs.inorder.KeptParts.{present_among, among_says, among_when, own_in, CountsInOrder, ClocksSized, ClocksInOrder}
use Rattle.rules.proofs.inorder.KeptMoves.{OwnKept, kept_again, present_within, carrier_set, interval_set, own_same, own_other, processor_set}

-- ---- one clock learns another

-- a processor learns a holder's clock
pub processor_learned : (lim : Limits) (n : Counts) (c : Clocks) (p : ℕ) (from : Holder) → CountsInOrder lim n → ClocksInOrder lim n c → present_among n p ≡ true
    → Within lim from → OwnKept lim n c (learned c (Processor p) from)
unfolding learned Knows
processor_learned lim n c p from k f a w =
    record {
      in_order =
          processor_set lim n c p v k f a
          (omega (arith, length_joined (clock_of c (Processor p)) (clock_of c from), f.sized.clocks (Processor p) (present_within lim n k p a), f.sized.clocks from w))
          (λ q. omega (arith, entry q)) (omega (arith, entry p, f.known from p, f.own_fits_lem p)) (λ q d. omega (arith, entry q, f.known from q, f.known (Processor p) q));
      own_kept = λ q. go q (ℕ_discrete q p);
    }
  where
    v : List ℕ
    v = joined (clock_of c (Processor p)) (clock_of c from)

    entry : (q : ℕ) → entry_of v q ≡ max (entry_of (clock_of c (Processor p)) q) (entry_of (clock_of c from) q)
    entry q = entry_of_joined (clock_of c (Processor p)) (clock_of c from) q

    go : (q : ℕ) → Dec (q ≡ p) → own_in (with_clock c (Processor p) v) q ≡ own_in c q
    go q (yes d) = rw d (omega (arith, own_same c p v, entry p, f.known from p))
    go q (no d) = own_other c p q v d

-- a carrier learns a processor's clock
pub carrier_learned : (lim : Limits) (n : Counts) (c : Clocks) (h : Holder) (p : ℕ) → CountsInOrder lim n → ClocksInOrder lim n c → Carrier n h → Within lim h → present_among n p ≡ true
    → OwnKept lim n c (learned c h (Processor p))
unfolding learned Knows
carrier_learned lim n c h p k f carrier place a =
    carrier_set lim n c h (joined (clock_of c h) (clock_of c (Processor p))) k f carrier place
    (omega (arith, length_joined (clock_of c h) (clock_of c (Processor p)), f.sized.clocks (Processor p) (present_within lim n k p a), f.sized.clocks h place))
    (λ q. omega (arith, entry_of_joined (clock_of c h) (clock_of c (Processor p)) q, f.known h q, f.known (Processor p) q))

-- a carrier's clock becomes a processor's
pub carrier_handed : (lim : Limits) (n : Counts) (c : Clocks) (h : Holder) (p : ℕ) → CountsInOrder lim n → ClocksInOrder lim n c → Carrier n h → Within lim h → present_among n p ≡ true
    → OwnKept lim n c (with_clock c h (clock_of c (Processor p)))
unfolding Knows
carrier_handed lim n c h p k f carrier place a =
    carrier_set lim n c h (clock_of c (Processor p)) k f carrier place (f.sized.clocks (Processor p) (present_within lim n k p a)) (f.known (Processor p))

-- ---- a round completes

all_learned_lem : (lim : Limits) (n : Counts) (c : Clocks) (i : ℕ) → CountsInOrder lim n → ClocksInOrder lim n c → i ≤ n.processors → OwnKept lim n c (all_learned c i)
unfolding all_learned Within
all_learned_lem lim n c zero k f h = record { in_order = f; own_kept = λ q. refl }
all_learned_lem lim n c (suc i) k f h =
    let r = all_learned_lem lim n c i k f (omega arith) in
    kept_again r (processor_learned lim n (all_learned c i) (suc i) Barrier k r.in_order (among_when n (suc i) (omega arith) h) tt)

-- every processor learns the barrier's clock, which returns to zeros
pub round_clocks : (lim : Limits) (n : Counts) (c : Clocks) → CountsInOrder lim n → ClocksInOrder lim n c
    → OwnKept lim n c (with_clock (all_learned c n.processors) Barrier (cleared c.barrier))
unfolding clock_of Within
round_clocks lim n c k f =
    let r = all_learned_lem lim n c n.processors k f (omega arith) in
    kept_again r
    (carrier_set lim n (all_learned c n.processors) Barrier (cleared c.barrier) k r.in_order (barrier_carries n) tt (length_cleared c.barrier ∙ f.sized.clocks Barrier tt)
    (λ q. omega (arith, entry_cleared c.barrier q)))

-- ---- an interval ends

-- the processor's own entry is one higher
pub own_ticked_same : (s : State) (p : ℕ) → 1 ≤ p → own_in (ticked s p) p ≡ own_in s.clocks p + 1
unfolding ticked own clock with_clock clock_of
own_ticked_same s p h = own_same s.clocks p (raised (clock s p) p) ∙ entry_raised_own (clock s p) p h

-- the others' own entries are as they were
pub own_ticked_other : (s : State) (p q : ℕ) → (q ≡ p → ⊥) → own_in (ticked s p) q ≡ own_in s.clocks q
unfolding ticked own clock with_clock clock_of
own_ticked_other s p q d = own_other s.clocks p q (raised (clock s p) p) d

-- the clocks stay in order where the processor has an interval left
pub ticked_in_order : (lim : Limits) (s : State) (p : ℕ) → CountsInOrder lim s.counts → ClocksInOrder lim s.counts s.clocks → present_among s.counts p ≡ true
    → own_in s.clocks p < lim.intervals → ClocksInOrder lim s.counts (ticked s p)
unfolding ticked own clock Within
ticked_in_order lim s p k f a h =
    let first = processor_set lim n c p v k f a whole grows (omega (arith, raise)) (λ q d. omega (arith, entry_raised_other (clock_of c (Processor p)) p q d, f.known (Processor p) q)) in
    interval_set lim n (with_clock c (Processor p) v) p (own_in c p + 1) v k first a (omega arith) (omega (arith, own_same c p v, raise)) whole
    (λ q. le_trans (le_of_eq (ap (λ (x : List ℕ). entry_of x q) (sym (clock_of_with_same c (Processor p) v)))) (first.known (Processor p) q))
  where
    n : Counts
    n = s.counts

    c : Clocks
    c = s.clocks

    v : List ℕ
    v = raised (clock_of c (Processor p)) p

    b : (1 ≤ p) × (p ≤ n.processors)
    b = among_says n p a

    long : length (clock_of c (Processor p)) ≡ lim.processors
    long = f.sized.clocks (Processor p) (b.0, omega (arith, b.1, k.processors_fit))

    whole : length v ≡ lim.processors
    whole = length_raised (clock_of c (Processor p)) p (omega (arith, long, b.1, k.processors_fit)) ∙ long

    raise : entry_of v p ≡ own_in c p + 1
    raise = entry_raised_own (clock_of c (Processor p)) p b.0

    grows : (q : ℕ) → entry_of (clock_of c (Processor p)) q ≤ entry_of v q
    grows q = go (ℕ_discrete q p)
      where
        go : Dec (q ≡ p) → entry_of (clock_of c (Processor p)) q ≤ entry_of v q
        go (yes d) = rw d (omega (arith, raise))
        go (no d) = omega (arith, entry_raised_other (clock_of c (Processor p)) p q d)

-- ---- all clocks cleared

-- every entry is 0
pub entry_all_cleared : (c : Clocks) (h : Holder) (q : ℕ) → entry_of (clock_of (all_cleared c) h) q ≡ 0
entry_all_cleared c h q = ap (λ (x : List ℕ). entry_of x q) (clock_of_all_cleared c h) ∙ entry_cleared (clock_of c h) q

length_all_cleared : (c : Clocks) (h : Holder) → length (clock_of (all_cleared c) h) ≡ length (clock_of c h)
length_all_cleared c h = ap length (clock_of_all_cleared c h) ∙ length_cleared (clock_of c h)

sized_cleared : (lim : Limits) (c : Clocks) → ClocksSized lim c → ClocksSized lim (all_cleared c)
unfolding all_cleared clock_of
sized_cleared lim c f =
    record {
      processors = length-map c.processors cleared ∙ f.processors;
      nobody_clock = length_all_cleared c (Processor 0) ∙ f.nobody_clock;
      locks = length-map c.locks cleared ∙ f.locks;
      applied = rows_map_all lim lim.pages c.applied cleared f.applied;
      intervals = rows_map_all lim (suc lim.intervals) c.intervals cleared f.intervals;
      no_interval = λ p h k. length_all_cleared c (Interval p 0) ∙ f.no_interval p h k;
      jobs = length-map c.jobs cleared ∙ f.jobs;
      clocks = λ h w. length_all_cleared c h ∙ f.clocks h w;
    }

-- the clocks stay in order
pub all_cleared_in_order : (lim : Limits) (n : Counts) (c : Clocks) → ClocksInOrder lim n c → ClocksInOrder lim n (all_cleared c)
all_cleared_in_order lim n c f =
    record {
      sized = sized_cleared lim c f.sized;
      absent_clock = λ h q e. entry_all_cleared c h q;
      absent_entry = λ h q e. entry_all_cleared c h q;
      later_interval = λ p i q h. entry_all_cleared c (Interval p i) q;
      known = λ h q. omega (arith, entry_all_cleared c h q);
      own_fits_lem = λ p. omega (arith, entry_all_cleared c (Processor p) p);
      applied_known_lem = λ p g q. omega (arith, entry_all_cleared c (Applied p g) q);
    }
