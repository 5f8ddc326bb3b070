-- A test over every processor, page or clock as a fact about each of them. Rests on Facts.
-- Assumes nothing.
use Prim.Native.Nat.{ℕ, zero, suc, ◌≤◌, ◌<◌}
use native.Mathlib.Omega.{arith}
use native.Mathlib.Decide.{dec_le}
use mathlib.Core.Path.{◌≡◌, refl, sym, ◌∙◌}
use mathlib.Core.Bool.{Bool, true}
use mathlib.Core.List.{List, [], ◌∷◌}
use lib.ListN.{length, get_or, get_or-eq_default}
use lib.Dec.{eqb}
use borrow.Author.Tests.{eqb-true, eq-eqb}
use Rattle.lists.specs.Tables.{every}
use Rattle.lists.proofs.Tables.{every_at, every_holds}
use Rattle.lists.proofs.Conditions.{and_left, and_right, and_both, conjoined, Given, conjoined_at, conjoined_holds}
use Rattle.clock.specs.Clocks.{covered, entry_of}
use Rattle.clock.proofs.Laws.{covered→Covers, Covers→covered}
use Rattle.rules.specs.State.{Limits, Holder, Processor, Lock, Barrier, Applied, Interval, Job}
use Rattle.rules.specs.InOrder.{every_processor, every_page, every_holder, all_zero}
use Rattle.rules.proofs.inorder.Facts.{Within}

-- ---- every processor, every page of each

-- a test over every processor says so of each
pub every_processor_at : (lim : Limits) (t : ℕ → Bool) (p : ℕ) → every_processor lim t ≡ true → 1 ≤ p → p ≤ lim.processors → t p ≡ true
unfolding every_processor
every_processor_at lim t zero e h k = absurd (omega arith)
every_processor_at lim t (suc p) e h k = every_at lim.processors (λ (k : ℕ). t (suc k)) p e k

-- a test that each processor passes
pub every_processor_holds : (lim : Limits) (t : ℕ → Bool) → ((p : ℕ) → 1 ≤ p → p ≤ lim.processors → t p ≡ true) → every_processor lim t ≡ true
unfolding every_processor
every_processor_holds lim t h = every_holds lim.processors (λ (k : ℕ). t (suc k)) (λ k l. h (suc k) (omega arith) l)

-- a test over every page says so of each
pub every_page_at : (lim : Limits) (t : ℕ → ℕ → Bool) (p g : ℕ) → every_page lim t ≡ true → 1 ≤ p → p ≤ lim.processors → g < lim.pages → t p g ≡ true
unfolding every_page
every_page_at lim t p g e h k l = every_at lim.pages (t p) g (every_processor_at lim (λ (p : ℕ). every lim.pages (t p)) p e h k) l

-- a test that each page passes
pub every_page_holds : (lim : Limits) (t : ℕ → ℕ → Bool) → ((p g : ℕ) → 1 ≤ p → p ≤ lim.processors → g < lim.pages → t p g ≡ true) → every_page lim t ≡ true
unfolding every_page
every_page_holds lim t h =
    every_processor_holds lim (λ (p : ℕ). every lim.pages (t p)) (λ p k l. every_holds lim.pages (t p) (λ g m. h p g k l m))

-- every interval of each processor
pub every_interval_at : (lim : Limits) (t : ℕ → ℕ → Bool) (p i : ℕ) → every_processor lim (λ p. every lim.intervals (λ k. t p (suc k))) ≡ true
    → 1 ≤ p → p ≤ lim.processors → 1 ≤ i → i ≤ lim.intervals → t p i ≡ true
every_interval_at lim t p zero e h k l m = absurd (omega arith)
every_interval_at lim t p (suc i) e h k l m =
    every_at lim.intervals (λ (k : ℕ). t p (suc k)) i
    (every_processor_at lim (λ (p : ℕ). every lim.intervals (λ (k : ℕ). t p (suc k))) p e h k) m

-- a test that each interval passes
pub every_interval_holds : (lim : Limits) (t : ℕ → ℕ → Bool) → ((p i : ℕ) → 1 ≤ p → p ≤ lim.processors → 1 ≤ i → i ≤ lim.intervals → t p i ≡ true)
    → every_processor lim (λ p. every lim.intervals (λ k. t p (suc k))) ≡ true
every_interval_holds lim t h =
    every_processor_holds lim (λ (p : ℕ). every lim.intervals (λ (k : ℕ). t p (suc k)))
    (λ p k l. every_holds lim.intervals (λ (k : ℕ). t p (suc k)) (λ i m. h p (suc i) k l (omega arith) m))

-- ---- every clock for which there is a place

holder_tests : Limits → (Holder → Bool) → List Bool
holder_tests lim t =
    every_processor lim (λ (p : ℕ). t (Processor p))
    ∷ every lim.locks (λ (l : ℕ). t (Lock l))
    ∷ t Barrier
    ∷ every_page lim (λ (p g : ℕ). t (Applied p g))
    ∷ every_processor lim (λ (p : ℕ). every lim.intervals (λ (k : ℕ). t (Interval p (suc k))))
    ∷ every lim.jobs (λ (k : ℕ). t (Job k))
    ∷ []

holder_tests_lem : (lim : Limits) (t : Holder → Bool) → every_holder lim t ≡ conjoined (holder_tests lim t)
unfolding every_holder conjoined holder_tests
holder_tests_lem lim t = refl

-- a test over every clock says so of each
pub every_holder_at : (lim : Limits) (t : Holder → Bool) (h : Holder) → every_holder lim t ≡ true → Within lim h → t h ≡ true
unfolding holder_tests Within
every_holder_at lim t h e = go h (λ i. conjoined_at (holder_tests lim t) i (sym (holder_tests_lem lim t) ∙ e))
  where
    go : (h : Holder) → ((i : ℕ) → get_or (holder_tests lim t) i true ≡ true) → Within lim h → t h ≡ true
    go (Processor p) part w = every_processor_at lim (λ (p : ℕ). t (Processor p)) p (part 0) w.0 w.1
    go (Lock l) part w = every_at lim.locks (λ (l : ℕ). t (Lock l)) l (part 1) w
    go Barrier part w = part 2
    go (Applied p g) part w = every_page_at lim (λ (p g : ℕ). t (Applied p g)) p g (part 3) w.0 w.1 w.2
    go (Interval p i) part w = every_interval_at lim (λ (p i : ℕ). t (Interval p i)) p i (part 4) w.0 w.1 w.2 w.3
    go (Job k) part w = every_at lim.jobs (λ (k : ℕ). t (Job k)) k (part 5) w

-- a test that each clock passes
pub every_holder_holds : (lim : Limits) (t : Holder → Bool) → ((h : Holder) → Within lim h → t h ≡ true) → every_holder lim t ≡ true
unfolding holder_tests Within Given
every_holder_holds lim t h =
    holder_tests_lem lim t
    ∙ conjoined_holds (holder_tests lim t)
    (every_processor_holds lim (λ (p : ℕ). t (Processor p)) (λ p k l. h (Processor p) (k, l)))
    (every_holds lim.locks (λ (l : ℕ). t (Lock l)) (λ l k. h (Lock l) k))
    (h Barrier tt)
    (every_page_holds lim (λ (p g : ℕ). t (Applied p g)) (λ p g k l m. h (Applied p g) (k, l, m)))
    (every_interval_holds lim (λ (p i : ℕ). t (Interval p i)) (λ p i k l m n. h (Interval p i) (k, l, m, n)))
    (every_holds lim.jobs (λ (k : ℕ). t (Job k)) (λ k l. h (Job k) l))

-- whether the tables have a place for a holder
pub has_place : (lim : Limits) (h : Holder) → Dec (Within lim h)
unfolding Within
has_place lim (Processor p) = go (dec_le 1 p) (dec_le p lim.processors)
  where
    go : Dec (1 ≤ p) → Dec (p ≤ lim.processors) → Dec ((1 ≤ p) × (p ≤ lim.processors))
    go (yes a) (yes b) = yes (a, b)
    go (yes a) (no b) = no (λ w. b w.1)
    go (no a) b = no (λ w. a w.0)
has_place lim (Lock l) = dec_le (suc l) lim.locks
has_place lim Barrier = yes tt
has_place lim (Applied p g) = go (dec_le 1 p) (dec_le p lim.processors) (dec_le (suc g) lim.pages)
  where
    go : Dec (1 ≤ p) → Dec (p ≤ lim.processors) → Dec (g < lim.pages) → Dec ((1 ≤ p) × (p ≤ lim.processors) × (g < lim.pages))
    go (yes a) (yes b) (yes c) = yes (a, b, c)
    go (yes a) (yes b) (no c) = no (λ w. c w.2)
    go (yes a) (no b) c = no (λ w. b w.1)
    go (no a) b c = no (λ w. a w.0)
has_place lim (Interval p i) = go (dec_le 1 p) (dec_le p lim.processors) (dec_le 1 i) (dec_le i lim.intervals)
  where
    go : Dec (1 ≤ p) → Dec (p ≤ lim.processors) → Dec (1 ≤ i) → Dec (i ≤ lim.intervals)
        → Dec ((1 ≤ p) × (p ≤ lim.processors) × (1 ≤ i) × (i ≤ lim.intervals))
    go (yes a) (yes b) (yes c) (yes d) = yes (a, b, c, d)
    go (yes a) (yes b) (yes c) (no d) = no (λ w. d w.3)
    go (yes a) (yes b) (no c) d = no (λ w. c w.2)
    go (yes a) (no b) c d = no (λ w. b w.1)
    go (no a) b c d = no (λ w. a w.0)
has_place lim (Job k) = dec_le (suc k) lim.jobs

-- a fact about a holder that has a place and about one that has none
pub by_place : {A : Type 0} (lim : Limits) (h : Holder) → (Within lim h → A) → ((Within lim h → ⊥) → A) → A
by_place {A} lim h inside outside = go (has_place lim h)
  where
    go : Dec (Within lim h) → A
    go (yes w) = inside w
    go (no w) = outside w

-- ---- a list of which every entry is 0

-- every place of such a list is 0
pub all_zero_at : (l : List ℕ) (i : ℕ) → all_zero l ≡ true → get_or l i 0 ≡ 0
unfolding all_zero
all_zero_at [] i e = refl
all_zero_at (x ∷ l) zero e = eqb-true x 0 (and_left (eqb x 0) (all_zero l) e)
all_zero_at (x ∷ l) (suc i) e = all_zero_at l i (and_right (eqb x 0) (all_zero l) e)

-- a list with 0 at every place
pub all_zero_holds : (l : List ℕ) → ((i : ℕ) → get_or l i 0 ≡ 0) → all_zero l ≡ true
unfolding all_zero
all_zero_holds [] h = refl
all_zero_holds (x ∷ l) h = and_both (eqb x 0) (all_zero l) (eq-eqb x 0 (h 0)) (all_zero_holds l (λ i. h (suc i)))

-- every entry of such a clock is 0
pub entry_all_zero : (c : List ℕ) (q : ℕ) → all_zero c ≡ true → entry_of c q ≡ 0
unfolding entry_of
entry_all_zero c zero e = refl
entry_all_zero c (suc q) e = all_zero_at c q e

-- a clock with every entry 0
pub entries_all_zero : (c : List ℕ) → ((q : ℕ) → entry_of c q ≡ 0) → all_zero c ≡ true
unfolding entry_of
entries_all_zero c h = all_zero_holds c (λ i. h (suc i))

-- a processor past the clock's end has entry 0, and so has nobody
pub entry_past : (c : List ℕ) (q : ℕ) → (1 ≤ q → q ≤ length c → ⊥) → entry_of c q ≡ 0
unfolding entry_of
entry_past c zero h = refl
entry_past c (suc q) h = get_or-eq_default c 0 (past (dec_le (suc q) (length c)))
  where
    past : Dec (q < length c) → length c ≤ q
    past (yes k) = absurd (h (omega arith) k)
    past (no k) = omega arith

-- an empty clock has entries 0
pub entry_none : (q : ℕ) → entry_of [] q ≡ 0
unfolding entry_of
entry_none zero = refl
entry_none (suc q) = refl

-- the order of the clocks is that of all their entries
pub covered_entries : (a b : List ℕ) (q : ℕ) → covered a b ≡ true → entry_of b q ≤ entry_of a q
unfolding entry_of
covered_entries a b zero e = omega arith
covered_entries a b (suc q) e = (covered→Covers a b e).at q

-- a clock covers another when its entries do
pub entries_covered : (a b : List ℕ) → ((q : ℕ) → entry_of b q ≤ entry_of a q) → covered a b ≡ true
unfolding entry_of
entries_covered a b h = Covers→covered a b (record { at = λ i. h (suc i) })
