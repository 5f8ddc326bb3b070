-- The state that an accepted opening leaves is in order. Rests on InOrderSays and InOrderWhen. Assumes nothing.
use Prim.Native.Nat.{ℕ, zero, suc, ◌≤◌, ◌<◌}
use native.Mathlib.Omega.{arith}
use mathlib.Core.Path.{◌≡◌, refl, sym, ap, ◌∙◌}
use mathlib.Core.Bool.{Bool, true, false, cond, not, ◌&&◌, false≢true}
use mathlib.Core.Logic.{inl, ◌⊎◌, inr}
use mathlib.Core.List.{List, [], ◌∷◌}
use lib.ListN.{length, get_or, replicate, length-replicate, get_or-replicate}
use lib.Dec.{eqb}
use Rattle.lists.specs.Tables.{cell}
use Rattle.lists.proofs.Tables.{total_zero}
use Rattle.lists.proofs.Conditions.{conjoined_at}
use Rattle.clock.specs.Clocks.{zeros, entry_of}
use Rattle.clock.proofs.Laws.{entry_of_zeros}
use Rattle.rules.specs.State.{posted_of, adds_of, Limits, Counts, Holder, Processor, Lock, Barrier, Applied, Interval, Job, clock_of, copy_of, twin_of, dirty_at, clock, own, holder, has_arrived}
use Rattle.rules.specs.Lines.{waits, turn_of}
use Rattle.rules.specs.InOrder.{slot_size, counts_in_range, dirty_pages, is_in_order}
use Rattle.rules.specs.Opening.{zero_shared, Opening, opening_refusal, rows, zero_clocks, zero_pages, zero_marks, opened}
use Rattle.rules.proofs.state.Waiters.{awaits}
use Rattle.rules.proofs.inorder.Facts.{Within, Sized, LinesInOrder, InOrder}
use Rattle.rules.proofs.inorder.Everywhere.{entry_none}
use Rattle.rules.proofs.inorder.Rows.{replicated, rows_all, row_at, rows_sized_lem}
use Rattle.rules.proofs.inorder.Conditions.{counts_tests, counts_tests_lem}
use Rattle.rules.proofs.inorder.InOrderSays.{in_range_says}
use Rattle.rules.proofs.inorder.InOrderWhen.{in_order_when}

-- ---- the clocks

-- every entry of every clock is 0
pub opened_entry : (lim : Limits) (h : Holder) (q : ℕ) → entry_of (clock_of (zero_clocks lim) h) q ≡ 0
unfolding clock_of zero_clocks
opened_entry lim h q = go h
  where
    none_yet : List ℕ → Type 0
    none_yet c = entry_of c q ≡ 0

    z : none_yet (zeros lim.processors)
    z = entry_of_zeros lim.processors q

    go : (h : Holder) → entry_of (clock_of (zero_clocks lim) h) q ≡ 0
    go (Processor p) = rows_all none_yet lim.processors (zeros lim.processors) p z (entry_none q)
    go (Lock l) = replicated none_yet lim.locks l (zeros lim.processors) [] z (entry_none q)
    go Barrier = z
    go (Applied p g) =
        rows_all (λ (row : List (List ℕ)). none_yet (get_or row g [])) lim.processors (replicate lim.pages (zeros lim.processors)) p
        (replicated none_yet lim.pages g (zeros lim.processors) [] z (entry_none q)) (entry_none q)
    go (Interval p i) =
        rows_all (λ (row : List (List ℕ)). none_yet (get_or row i [])) lim.processors ([] ∷ replicate lim.intervals (zeros lim.processors)) p (row i) (entry_none q)
      where
        row : (i : ℕ) → none_yet (get_or ([] ∷ replicate lim.intervals (zeros lim.processors)) i [])
        row zero = entry_none q
        row (suc i) = replicated none_yet lim.intervals i (zeros lim.processors) [] z (entry_none q)
    go (Job k) = replicated none_yet lim.jobs k (zeros lim.processors) [] z (entry_none q)

length_zeros : (n : ℕ) → length (zeros n) ≡ n
unfolding zeros
length_zeros n = length-replicate n 0

opened_clock : (lim : Limits) (h : Holder) → Within lim h → clock_of (zero_clocks lim) h ≡ zeros lim.processors
unfolding clock_of zero_clocks Within
opened_clock lim (Processor p) w = row_at lim.processors (zeros lim.processors) p w.0 w.1
opened_clock lim (Lock l) w = get_or-replicate lim.locks l (zeros lim.processors) [] w
opened_clock lim Barrier w = refl
opened_clock lim (Applied p g) w =
    ap (λ (row : List (List ℕ)). get_or row g []) (row_at lim.processors (replicate lim.pages (zeros lim.processors)) p w.0 w.1)
    ∙ get_or-replicate lim.pages g (zeros lim.processors) [] w.2
opened_clock lim (Interval p zero) w = absurd (omega (arith, w.2))
opened_clock lim (Interval p (suc i)) w =
    ap (λ (row : List (List ℕ)). get_or row (suc i) []) (row_at lim.processors ([] ∷ replicate lim.intervals (zeros lim.processors)) p w.0 w.1)
    ∙ get_or-replicate lim.intervals i (zeros lim.processors) [] w.3
opened_clock lim (Job k) w = get_or-replicate lim.jobs k (zeros lim.processors) [] w

-- ---- the pages

opened_page : (lim : Limits) (p g : ℕ) → 1 ≤ p → p ≤ lim.processors → g < lim.pages
    → length (cell [] (rows lim.processors (replicate lim.pages (replicate {A = ℕ} lim.words 0))) p g) ≡ lim.words
opened_page lim p g h k l =
    ap length
    (ap (λ (row : List (List ℕ)). get_or row g []) (row_at lim.processors (replicate lim.pages (replicate {A = ℕ} lim.words 0)) p h k)
    ∙ get_or-replicate lim.pages g (replicate {A = ℕ} lim.words 0) [] l)
    ∙ length-replicate lim.words 0

-- every word of every page of a table of zeros is 0
zero_word : (lim : Limits) (p g o : ℕ) → get_or (cell [] (rows lim.processors (replicate lim.pages (replicate {A = ℕ} lim.words 0))) p g) o 0 ≡ 0
zero_word lim p g o =
    rows_all (λ (row : List (List ℕ)). get_or (get_or row g []) o 0 ≡ 0) lim.processors (replicate lim.pages (replicate {A = ℕ} lim.words 0)) p
    (replicated (λ (page : List ℕ). get_or page o 0 ≡ 0) lim.pages g (replicate {A = ℕ} lim.words 0) []
    (replicated (λ (n : ℕ). n ≡ 0) lim.words o 0 0 refl refl) refl)
    refl

-- so is every word of every copy
pub opened_word : (lim : Limits) (p g o : ℕ) → get_or (copy_of (zero_pages lim) p g) o 0 ≡ 0
unfolding copy_of zero_pages
opened_word lim p g o = zero_word lim p g o

-- and of every twin
opened_twin_word : (lim : Limits) (p g o : ℕ) → get_or (twin_of (zero_pages lim) p g) o 0 ≡ 0
unfolding twin_of zero_pages
opened_twin_word lim p g o = zero_word lim p g o

-- every page is clean
pub opened_clean : (lim : Limits) (p g : ℕ) → dirty_at (zero_pages lim) p g ≡ false
unfolding dirty_at zero_pages
opened_clean lim p g =
    ap (λ (n : ℕ). not (eqb n 0))
    (rows_all (λ (row : List ℕ). get_or row g 0 ≡ 0) lim.processors (replicate {A = ℕ} lim.pages 0) p
    (replicated (λ (n : ℕ). n ≡ 0) lim.pages g 0 0 refl refl) refl)

-- the queue has its first place, or none
some_place : (m : ℕ) → (m ≡ 0) ⊎ (0 < m)
some_place zero = inl refl
some_place (suc m) = inr (omega arith)

-- nothing is posted
pub opened_none_posted : (lim : Limits) (t : ℕ) → posted_of (zero_shared lim) t ≡ 0
unfolding posted_of zero_shared
opened_none_posted lim t = replicated (λ (n : ℕ). n ≡ 0) lim.tallies t 0 0 refl refl

-- nothing is added
pub opened_no_adds : (lim : Limits) (p t : ℕ) → adds_of (zero_shared lim) p t ≡ 0
unfolding adds_of zero_shared
opened_no_adds lim p t =
    rows_all (λ (row : List ℕ). get_or row t 0 ≡ 0) lim.processors (replicate {A = ℕ} lim.tallies 0) p
    (replicated (λ (n : ℕ). n ≡ 0) lim.tallies t 0 0 refl refl) refl

-- ---- the state

module _ (lim : Limits) (c : Counts) where
  -- no processor has made an interval
  pub opened_own : (p : ℕ) → own (opened lim c) p ≡ 0
  unfolding own clock opened
  opened_own p = opened_entry lim (Processor p) p

  -- nobody has arrived
  pub opened_not_arrived : (p : ℕ) → has_arrived (opened lim c) p ≡ false
  unfolding has_arrived opened zero_marks
  opened_not_arrived p = ap (λ (n : ℕ). not (eqb n 0)) (replicated (λ (n : ℕ). n ≡ 0) (suc lim.processors) p 0 0 refl refl)

  -- nobody waits for a lock
  pub opened_nobody_waits : (p : ℕ) → get_or (zero_marks lim).awaited p 0 ≡ 0
  unfolding zero_marks
  opened_nobody_waits p = replicated (λ (n : ℕ). n ≡ 0) (suc lim.processors) p 0 0 refl refl

  -- so nobody has a turn
  pub opened_no_turn : (p : ℕ) → get_or (zero_marks lim).turns p 0 ≡ 0
  unfolding zero_marks
  opened_no_turn p = replicated (λ (n : ℕ). n ≡ 0) (suc lim.processors) p 0 0 refl refl

  -- and there are no lines
  opened_no_lines : LinesInOrder c (zero_marks lim)
  opened_no_lines =
      record {
        lines = record { counts = λ l k b e. absurd (nobody k l e); apart = λ l j k bj bk ej ek t. absurd (nobody j l ej) };
        for_present = λ k l b e. absurd (nobody k l e);
        for_held = λ k l b e z. nobody k l e;
        by_another = λ k l b e z. nobody k l e;
        not_arrived = λ k l b e. absurd (nobody k l e);
      }
    where
      nobody : (k l : ℕ) → awaits (zero_marks lim) k ≡ suc l → ⊥
      nobody k l e = omega (arith, e, opened_nobody_waits (suc k))

  -- no lock is held
  pub opened_not_held : (l : ℕ) → holder (opened lim c) l ≡ 0
  unfolding holder opened zero_marks
  opened_not_held l = replicated (λ (n : ℕ). n ≡ 0) lim.locks l 0 0 refl refl

  -- no page is dirty
  pub opened_no_dirty : dirty_pages (opened lim c) ≡ 0
  unfolding dirty_pages opened
  opened_no_dirty = total_zero c.processors _ (λ k h. total_zero c.pages _ (λ g l. ap (λ (b : Bool). cond {A = ℕ} b 1 0) (opened_clean lim (suc k) g)))

  -- the size is the fixed one
  pub opened_sized : Sized lim (opened lim c)
  unfolding opened zero_clocks zero_pages zero_marks zero_shared clock_of copy_of twin_of
  opened_sized =
      let processors = rows_sized_lem lim lim.processors (zeros lim.processors) (length_zeros lim.processors) in
      let applied = rows_sized_lem lim lim.pages (replicate lim.pages (zeros lim.processors)) (length-replicate lim.pages (zeros lim.processors)) in
      let intervals = rows_sized_lem lim (suc lim.intervals) ([] ∷ replicate lim.intervals (zeros lim.processors)) (ap suc (length-replicate lim.intervals (zeros lim.processors))) in
      let pages = rows_sized_lem lim lim.pages (replicate lim.pages (replicate {A = ℕ} lim.words 0)) (length-replicate lim.pages (replicate {A = ℕ} lim.words 0)) in
      let dirty = rows_sized_lem lim lim.pages (replicate {A = ℕ} lim.pages 0) (length-replicate lim.pages 0) in
      let adds = rows_sized_lem lim lim.tallies (replicate {A = ℕ} lim.tallies 0) (length-replicate lim.tallies 0) in
      record {
        processors = processors.processors;
        nobody_clock = processors.nobody;
        locks = length-replicate lim.locks (zeros lim.processors);
        jobs = length-replicate lim.jobs (zeros lim.processors);
        applied = applied.processors;
        nobody_applied = applied.nobody;
        applied_row_lem = applied.row;
        intervals = intervals.processors;
        nobody_interval = intervals.nobody;
        interval_row_lem = intervals.row;
        no_interval = λ p h k.
            ap (λ (row : List (List ℕ)). length (get_or row 0 [])) (row_at lim.processors ([] ∷ replicate lim.intervals (zeros lim.processors)) p h k);
        clocks = λ h w. ap length (opened_clock lim h w) ∙ length_zeros lim.processors;
        copies = pages.processors;
        nobody_copy = pages.nobody;
        copies_row = pages.row;
        copy = opened_page lim;
        twins = pages.processors;
        nobody_twin = pages.nobody;
        twins_row = pages.row;
        twin = opened_page lim;
        dirty = dirty.processors;
        nobody_dirty = dirty.nobody;
        dirty_row = dirty.row;
        slots = length-replicate lim.records (replicate {A = ℕ} (slot_size lim) 0);
        slot = λ i h. ap length (get_or-replicate lim.records i (replicate {A = ℕ} (slot_size lim) 0) [] h) ∙ length-replicate (slot_size lim) 0;
        few_standing = omega arith;
        holders = length-replicate lim.locks 0;
        arrived = length-replicate (suc lim.processors) 0;
        awaited = length-replicate (suc lim.processors) 0;
        turns = length-replicate (suc lim.processors) 0;
        posted = length-replicate lim.tallies 0;
        values = length-replicate lim.jobs 0;
        adds = adds.processors;
        nobody_adds = adds.nobody;
        adds_row = adds.row;
      }

  -- counts in range make the opened state one in order
  pub opened_in_order : counts_in_range lim c ≡ true → InOrder lim (opened lim c)
  unfolding opened counts_tests
  opened_in_order e = go (λ i. conjoined_at (counts_tests lim c) i (sym (counts_tests_lem lim c) ∙ e))
    where
      go : ((i : ℕ) → get_or (counts_tests lim c) i true ≡ true) → InOrder lim (opened lim c)
      go part =
          let processors = in_range_says lim.processors c.processors (part 0) in
          let pages = in_range_says lim.pages c.pages (part 1) in
          let locks = in_range_says lim.locks c.locks (part 2) in
          record {
            sized = opened_sized;
            some_processor = processors.0;
            processors_fit = processors.1;
            some_page = pages.0;
            pages_fit = pages.1;
            some_lock = locks.0;
            locks_fit = locks.1;
            absent_clock = λ h q a. opened_entry lim h q;
            absent_entry = λ h q a. opened_entry lim h q;
            absent_copy = λ p g o a. opened_word lim p g o;
            absent_twin = λ p g o a. opened_twin_word lim p g o;
            absent_clean = λ p g a. opened_clean lim p g;
            absent_not_arrived = λ p h a. opened_not_arrived p;
            absent_not_held = λ l a. opened_not_held l;
            absent_awake = λ p h a. unfold waits in ap (λ (n : ℕ). not (eqb n 0)) (opened_nobody_waits p);
            absent_turn = λ p h a. unfold turn_of in opened_no_turn p;
            absent_adds = λ p t h a. opened_no_adds lim p t;
            later_interval = λ p i q h. opened_entry lim (Interval p i) q;
            known = λ h q. omega (arith, opened_entry lim h q);
            own_fits_lem = λ p. omega (arith, opened_own p);
            applied_known_lem = λ p g q. omega (arith, opened_entry lim (Applied p g) q);
            record_sound_lem = λ i h. absurd (omega (arith, h));
            distinct = λ i j h k. absurd (omega (arith, h));
            room = omega (arith, opened_no_dirty);
            dirty_has_interval = λ p g d. absurd (false≢true (sym (opened_clean lim p g) ∙ d));
            holder_present = λ l. inl (opened_not_held l);
            someone_missing_lem = record { at = 0; below = processors.0; passes = ap not (opened_not_arrived 1) };
            lines = opened_no_lines;
            holder_away = λ l. inl (opened_not_held l);
            first_there = unfold zero_marks in some_place lim.jobs;
            few_jobs = unfold zero_marks in omega arith;
          }

-- an accepted opening has its counts in range
pub opening_counts : (lim : Limits) (o : Opening) → opening_refusal lim o ≡ 0 → counts_in_range lim o.counts ≡ true
unfolding opening_refusal
opening_counts lim o e = go (eqb o.first 0) (counts_in_range lim o.counts) (eqb o.rest 0) refl e
  where
    go : (a b d : Bool) → counts_in_range lim o.counts ≡ b → ◌≡◌ {A = ℕ} (cond (a && b && d) 0 2) 0 → counts_in_range lim o.counts ≡ true
    go false b d k e = absurd (omega (arith, e))
    go true false d k e = absurd (omega (arith, e))
    go true true d k e = k

-- so it makes a state in order
pub opening_makes_order : (lim : Limits) (o : Opening) → opening_refusal lim o ≡ 0 → is_in_order lim (opened lim o.counts) ≡ true
opening_makes_order lim o e = in_order_when lim (opened lim o.counts) (opened_in_order lim o.counts (opening_counts lim o e))
