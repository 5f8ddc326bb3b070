-- A fetch applies exactly the pending records, each once, the smallest first, counts them, and leaves none pending. Rests on Everywhere and
-- FetchedWord. Assumes nothing.
use Prim.Native.Nat.{ℕ, ◌≤◌, ◌<◌, ◌+◌}
use native.Mathlib.Omega.{arith}
use native.Mathlib.Decide.{ℕ_discrete}
use native.Mathlib.Nat.{le_of_eq}
use mathlib.Core.Path.{◌≡◌, refl, sym, ap, ◌∙◌}
use mathlib.Core.Bool.{Bool, true, false, cond, not, ◌&&◌}
use mathlib.Core.List.{List, []}
use lib.ListN.{length}
use lib.Dec.{leb, ltb, eqb}
use borrow.Author.Tests.{ltb-true, ltb-false, leb-true, le-ltb, eq-eqb, ne_eqb}
use Rattle.lists.specs.Tables.{select, sort_by}
use Rattle.lists.proofs.Selected.{each_always, select_none, count_sort, length_sort, Sorted, Sorts, sorted_sort}
use Rattle.clock.specs.Clocks.{covered, entry_of}
use Rattle.rules.specs.State.{Limits, Processor, Applied, Clocks, clock_of, with_clock, Record, State, clock, standing}
use Rattle.rules.specs.Fetch.{is_pending, sum_at, earlier, due, fetched, fetch_count, fetch_skipped, applying}
use Rattle.rules.proofs.state.Skipping.{applied_and_skipped}
use Rattle.rules.proofs.inorder.Everywhere.{covered_entries}
use Rattle.rules.proofs.word.FetchedWord.{fetched_current, fetched_applied_elsewhere}

-- ---- the order in which records are applied: by sum, then processor, then interval

unfoldable smaller : ℕ → ℕ → ℕ → ℕ → ℕ → ℕ → Bool
smaller a b c x y z = cond (eqb a x) (cond (eqb b y) (ltb c z) (ltb b y)) (ltb a x)

record NotSmaller (a b c x y z : ℕ) : Type 0 where
  sums : x ≤ a
  processors : a ≡ x → y ≤ b
  intervals : a ≡ x → b ≡ y → z ≤ c

not_smaller_says : (a b c x y z : ℕ) → smaller a b c x y z ≡ false → NotSmaller a b c x y z
unfolding smaller
not_smaller_says a b c x y z e = go (ℕ_discrete a x) (ℕ_discrete b y)
  where
    go : Dec (a ≡ x) → Dec (b ≡ y) → NotSmaller a b c x y z
    go (yes k) (yes l) =
        let f : ltb c z ≡ false = rw (eq-eqb a x k, eq-eqb b y l) at e in
        record { sums = omega (arith, k); processors = λ m. omega (arith, l); intervals = λ m n. ltb-false c z f }
    go (yes k) (no l) =
        let f : ltb b y ≡ false = rw (eq-eqb a x k, ne_eqb b y l) at e in
        record { sums = omega (arith, k); processors = λ m. ltb-false b y f; intervals = λ m n. absurd (l n) }
    go (no k) l =
        let f : ltb a x ≡ false = rw (ne_eqb a x k) at e in
        record { sums = ltb-false a x f; processors = λ m. absurd (k m); intervals = λ m n. absurd (k m) }

not_smaller_when : (a b c x y z : ℕ) → NotSmaller a b c x y z → smaller a b c x y z ≡ false
unfolding smaller
not_smaller_when a b c x y z h = go (ℕ_discrete a x) (ℕ_discrete b y)
  where
    go : Dec (a ≡ x) → Dec (b ≡ y) → cond (eqb a x) (cond (eqb b y) (ltb c z) (ltb b y)) (ltb a x) ≡ false
    go (yes k) (yes l) = rw (eq-eqb a x k, eq-eqb b y l) (le-ltb c z (h.intervals k l))
    go (yes k) (no l) = rw (eq-eqb a x k, ne_eqb b y l) (le-ltb b y (h.processors k))
    go (no k) l = rw (ne_eqb a x k) (le-ltb a x h.sums)

smaller_not_both : (a b c x y z : ℕ) → smaller a b c x y z ≡ true → NotSmaller x y z a b c
unfolding smaller
smaller_not_both a b c x y z e = go (ℕ_discrete a x) (ℕ_discrete b y)
  where
    go : Dec (a ≡ x) → Dec (b ≡ y) → NotSmaller x y z a b c
    go (yes k) (yes l) =
        let f : ltb c z ≡ true = rw (eq-eqb a x k, eq-eqb b y l) at e in
        let m : c < z = ltb-true c z f in
        record { sums = omega (arith, k); processors = λ m. omega (arith, l); intervals = λ u v. omega (arith, m) }
    go (yes k) (no l) =
        let f : ltb b y ≡ true = rw (eq-eqb a x k, ne_eqb b y l) at e in
        let m : b < y = ltb-true b y f in
        record { sums = omega (arith, k); processors = λ u. omega (arith, m); intervals = λ u v. absurd (l (sym v)) }
    go (no k) l =
        let f : ltb a x ≡ true = rw (ne_eqb a x k) at e in
        let m : a < x = ltb-true a x f in
        record { sums = omega (arith, m); processors = λ u. absurd (k (sym u)); intervals = λ u v. absurd (k (sym u)) }

not_smaller_chains : (a b c x y z u v w : ℕ) → NotSmaller a b c x y z → NotSmaller u v w a b c → NotSmaller u v w x y z
not_smaller_chains a b c x y z u v w h k =
    record {
      sums = omega (arith, h.sums, k.sums);
      processors = λ e. omega (arith, h.processors (omega (arith, h.sums, k.sums, e)), k.processors (omega (arith, h.sums, k.sums, e)));
      intervals = λ e f.
          let m : a ≡ x = omega (arith, h.sums, k.sums, e) in
          let n : u ≡ a = omega (arith, h.sums, k.sums, e) in
          let i : b ≡ y = omega (arith, h.processors m, k.processors n, f) in
          let j : v ≡ b = omega (arith, h.processors m, k.processors n, f) in
          omega (arith, h.intervals m i, k.intervals n j);
    }

-- the order sorts
pub earlier_sorts : (c : Clocks) → Sorts (earlier c)
unfolding earlier smaller
earlier_sorts c =
    record {
      not_both = λ r q e. not_smaller_when (sum_at c q) q.processor q.interval (sum_at c r) r.processor r.interval
          (smaller_not_both (sum_at c r) r.processor r.interval (sum_at c q) q.processor q.interval e);
      chains = λ r q v e k. not_smaller_when (sum_at c v) v.processor v.interval (sum_at c r) r.processor r.interval
          (not_smaller_chains (sum_at c q) q.processor q.interval (sum_at c r) r.processor r.interval (sum_at c v) v.processor v.interval
          (not_smaller_says (sum_at c q) q.processor q.interval (sum_at c r) r.processor r.interval e)
          (not_smaller_says (sum_at c v) v.processor v.interval (sum_at c q) q.processor q.interval k));
    }

-- ---- what a fetch applies

-- the records that a fetch applies are the pending ones, each as often as it stands there
pub each_pending_once : (s : State) (p g : ℕ) (t : Record → Bool) → length (select t (due s p g)) ≡ length (select t (select (is_pending s.clocks p g) (standing s)))
unfolding due
each_pending_once s p g t = count_sort t (earlier s.clocks) (select (is_pending s.clocks p g) (standing s))

-- none of them is earlier than one applied before it
pub due_sorted : (s : State) (p g : ℕ) → Sorted (earlier s.clocks) (due s p g)
unfolding due
due_sorted s p g = sorted_sort (earlier s.clocks) (earlier_sorts s.clocks) (select (is_pending s.clocks p g) (standing s))

-- the count and the skipped records together are the pending records
pub fetch_counts_pending : (lim : Limits) (s : State) (p g : ℕ)
    → fetch_count lim s p g + fetch_skipped lim s p g ≡ length (select (is_pending s.clocks p g) (standing s))
unfolding fetch_count fetch_skipped applying due
fetch_counts_pending lim s p g =
    applied_and_skipped lim.words (due s p g) ∙ length_sort (earlier s.clocks) (select (is_pending s.clocks p g) (standing s))

-- ---- when nothing is pending

-- a record that is not above the applied clock where it is known is not pending
not_pending : (c : Clocks) (p g : ℕ) → ((q : ℕ) → entry_of (clock_of c (Processor p)) q ≤ entry_of (clock_of c (Applied p g)) q) → (r : Record) → is_pending c p g r ≡ false
unfolding is_pending
not_pending c p g h r = go (eqb r.page g) (not (eqb r.processor p)) (ltb a r.interval) (leb r.interval k) refl refl
  where
    a : ℕ
    a = entry_of (clock_of c (Applied p g)) r.processor

    k : ℕ
    k = entry_of (clock_of c (Processor p)) r.processor

    go : (x y z w : Bool) → ltb a r.interval ≡ z → leb r.interval k ≡ w → (x && y && z && w) ≡ false
    go false y z w e f = refl
    go true false z w e f = refl
    go true true false w e f = refl
    go true true true false e f = refl
    go true true true true e f = absurd (omega (arith, h r.processor, ltb-true a r.interval e, leb-true r.interval k f))

none_due : (s : State) (p g : ℕ) → ((q : ℕ) → entry_of (clock_of s.clocks (Processor p)) q ≤ entry_of (clock_of s.clocks (Applied p g)) q) → due s p g ≡ []
unfolding due sort_by
none_due s p g h =
    ap (sort_by (earlier s.clocks))
    (select_none (is_pending s.clocks p g) (standing s)
    (each_always (λ r. is_pending s.clocks p g r ≡ false) (standing s) (not_pending s.clocks p g h)))

-- where the applied clock covers the processor's clock nothing is pending
pub nothing_pending_when_covered : (s : State) (p g : ℕ) → covered (clock_of s.clocks (Applied p g)) (clock s p) ≡ true → due s p g ≡ []
unfolding clock
nothing_pending_when_covered s p g e = none_due s p g (λ q. covered_entries (clock_of s.clocks (Applied p g)) (clock_of s.clocks (Processor p)) q e)

-- a fetch leaves nothing pending
pub fetch_leaves_none_pending : (lim : Limits) (s : State) (p g : ℕ) → due (fetched lim s p g) p g ≡ []
fetch_leaves_none_pending lim s p g = none_due (fetched lim s p g) p g (λ q. le_of_eq (ap (λ (c : List ℕ). entry_of c q) (sym (fetched_current lim s p g))))

-- what is pending for other processors and pages stays pending
pub fetch_leaves_others_pending : (lim : Limits) (s : State) (p g q h : ℕ) → (q ≡ p → h ≡ g → ⊥) → due (fetched lim s p g) q h ≡ due s q h
unfolding due is_pending earlier sum_at fetched standing clock_of with_clock
fetch_leaves_others_pending lim s p g q h e =
    ap
    (λ (a : List ℕ). sort_by (earlier s.clocks)
    (select
    (λ (r : Record). eqb r.page h && not (eqb r.processor q) && ltb (entry_of a r.processor) r.interval
    && leb r.interval (entry_of (clock_of s.clocks (Processor q)) r.processor))
    (standing s)))
    (fetched_applied_elsewhere lim s p g q h e)
