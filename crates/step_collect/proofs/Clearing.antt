-- The clocks cleared where they can be other than zeros: one law for each way of the code, and `clear_laws`. Assumes nothing.
use Prim.Native.Nat.{ℕ, suc, ◌+◌, ◌-◌, ◌*◌, ◌/◌, ◌%◌, ◌≤◌, ◌<◌}
use native.Mathlib.Numerals.{add-one}
use native.Mathlib.Omega.{arith}
use native.Mathlib.Decide.{dec_lt}
use mathlib.Core.Path.{◌≡◌, refl, sym, ap, ◌∙◌}
use mathlib.Core.List.{List, [], ◌++◌}
use lib.ListN.{length, get_or, take, drop, replicate, length-replicate, get_or-replicate}
use lib.Seq.{ext_get_or, length-take-le, sets, length-sets}
use borrow.Author.Rules.{rules}
use Rattle.limits.specs.Limits.{interval_limit, job_limit, processor_limit}
use Rattle.limits.specs.inner.Sizes.{clock_area, clock_width, first_interval_row, first_job_row}
use Rattle.clock.specs.Clocks.{entry_of}
use Rattle.rules.specs.State.{mainframe, Processor, Interval, clock_of, clock, own}
use Rattle.rules.proofs.inorder.Facts.{Within}
use Rattle.layout.specs.Areas.{interval_row, clock_row, clocks_in, state_in}
use Rattle.layout.specs.inner.Needed.{OwnEntry}
use Rattle.layout.proofs.ClockLaws.{clock_read}
use Rattle.layout.proofs.MarkFunctions.{part_cleared}
use Rattle.layout.proofs.RowLaws.{get_row}
use Rattle.layout.proofs.Stores.{get_sets_before, get_sets_behind, get_sets_same}
use Rattle.step_collect.specs.inner.Needed.{made_intervals, MadeRows, OnlyMade}

-- ---- the own entries and the interval rows as bytes

-- the own entry is the entry for itself in the row of its processor
made_at : (c : List ℕ) (q : ℕ) → q < processor_limit → made_intervals c (suc q) ≡ get_or c (clock_width * suc q + q) 0
unfolding made_intervals entry_of clock_row Within mainframe
made_at c q b = ap (λ (v : List ℕ). get_or v q 0) (clock_read c (Processor (suc q)) (omega arith, b)) ∙ get_row clock_width c (suc q) q 0 b

-- areas that agree before the interval rows have the same own entries
same_made : (c₀ c : List ℕ) → ((j : ℕ) → j < clock_width * first_interval_row → get_or c j 0 ≡ get_or c₀ j 0) → (q : ℕ) → q < processor_limit
    → made_intervals c (suc q) ≡ made_intervals c₀ (suc q)
same_made c₀ c same q b = made_at c q b ∙ same (clock_width * suc q + q) (omega arith) ∙ sym (made_at c₀ q b)

-- an entry of the clock kept for an interval, by its byte
interval_entry : (c : List ℕ) (p i q : ℕ) → 1 ≤ p → p ≤ processor_limit → 1 ≤ i → i ≤ interval_limit → q < processor_limit
    → get_or c (clock_width * interval_row mainframe p i + q) 0 ≡ entry_of (clock_of (clocks_in mainframe c) (Interval p i)) (suc q)
unfolding entry_of clock_row Within mainframe
interval_entry c p i q h k a b d =
    sym (ap (λ (v : List ℕ). get_or v q 0) (clock_read c (Interval p i) (h, k, a, b)) ∙ get_row clock_width c (interval_row mainframe p i) q 0 d)

-- the bytes of a processor's intervals that were not made are 0
later_zero : (c : List ℕ) (n p j : ℕ) → OnlyMade c n → 1 ≤ p → p ≤ processor_limit → clock_width * (first_interval_row + interval_limit * (p - 1) + made_intervals c p) ≤ j
    → j < clock_width * (first_interval_row + interval_limit * p) → get_or c j 0 ≡ 0
later_zero c n p j m h k from to =
    let i : ℕ = j / clock_width - (first_interval_row + interval_limit * (p - 1)) + 1 in
    let q : ℕ = j % clock_width in
    ap (λ (x : ℕ). get_or c x 0) place ∙ interval_entry c p i q h k (omega arith) (omega arith) (omega arith) ∙ m.later p i (suc q) (omega arith)
  where
    place : j ≡ clock_width * interval_row mainframe p (j / clock_width - (first_interval_row + interval_limit * (p - 1)) + 1) + j % clock_width
    place = unfold interval_row mainframe in omega arith

-- those of absent processors too
absent_zero_lem : (c : List ℕ) (n j : ℕ) → OnlyMade c n → clock_width * (first_interval_row + interval_limit * n) ≤ j → j < clock_width * first_job_row → get_or c j 0 ≡ 0
absent_zero_lem c n j m from to =
    let p : ℕ = (j / clock_width - first_interval_row) / interval_limit + 1 in
    let none : made_intervals c p ≡ 0 = m.absent p (omega arith) in
    later_zero c n p j m (omega arith) (omega arith) (omega (arith, none)) (omega arith)

-- ---- clear_made

module _ (c : List ℕ) (p e r : ℕ) (h : MadeRows c p) (entry : OwnEntry c p e) (is : (r ≡ e) × (r < 256)) where
  -- the own entry is how many intervals were made
  pub made_read : r ≡ made_intervals c p
  unfolding own clock state_in made_intervals
  made_read = is.0 ∙ entry.is [] [] []

  -- so many have rows
  pub made_fits : r ≤ interval_limit
  made_fits = omega (arith, made_read, h.fits)

-- so many rows are cleared
pub made_cleared : (c : List ℕ) (p made from : ℕ) (part : List ℕ) → MadeRows c p → (made ≡ made_intervals c p) × (made ≤ interval_limit)
    → from ≡ clock_width * (first_interval_row + interval_limit * (p - 1)) → part ≡ replicate (length (take (from + clock_width * made - from) (drop from c))) 0
    → take from c ++ (part ++ drop (from + clock_width * made - from) (drop from c))
    ≡ sets c (clock_width * interval_row mainframe p 1) (replicate (clock_width * made_intervals c p) 0)
made_cleared c p made from part h is e z =
    let k : from + clock_width * made - from ≡ clock_width * made = omega arith in
    rw (← is.0, at, k) (part_cleared c part from (clock_width * made) (omega (arith, e, is.1, h.there.clocks, h.there.from, h.there.to)) (rw (← k) z))
  where
    at : clock_width * interval_row mainframe p 1 ≡ from
    at = unfold interval_row mainframe in omega (arith, e)

-- ---- clear_jobs

pub jobs_cleared : (c part : List ℕ) → length c ≡ clock_area → part ≡ replicate (length (take (clock_area - clock_width * first_job_row) (drop (clock_width * first_job_row) c))) 0
    → take (clock_width * first_job_row) c ++ (part ++ drop (clock_area - clock_width * first_job_row) (drop (clock_width * first_job_row) c))
    ≡ sets c (clock_width * first_job_row) (replicate (clock_width * job_limit) 0)
jobs_cleared c part h z = part_cleared c part (clock_width * first_job_row) (clock_width * job_limit) (omega (arith, h)) z

-- ---- clear_clocks

-- the made rows of the first k processors are cleared: all their interval rows are zeros, the other bytes are as before
pub record ClocksClearing (c₀ c : List ℕ) (n k : ℕ) : Type 0 where
  pub made : OnlyMade c₀ n
  pub long : length c ≡ clock_area
  pub upto : k ≤ n
  pub front : (j : ℕ) → j < clock_width * first_interval_row → get_or c j 0 ≡ get_or c₀ j 0
  pub zero : (j : ℕ) → clock_width * first_interval_row ≤ j → j < clock_width * (first_interval_row + interval_limit * k) → get_or c j 0 ≡ 0
  pub rest : (j : ℕ) → clock_width * (first_interval_row + interval_limit * k) ≤ j → get_or c j 0 ≡ get_or c₀ j 0

-- no row is cleared yet
pub clearing_begins : (c : List ℕ) (n : ℕ) → OnlyMade c n → ClocksClearing c c n 0
clearing_begins c n m =
    record { made = m; long = m.clocks; upto = omega arith; front = λ j b. refl; zero = λ j a b. absurd (omega arith); rest = λ j b. refl }

module _ (c₀ c : List ℕ) (n k : ℕ) (t : ClocksClearing c₀ c n k) where
  module _ (b : k < n) where
    made_before : made_intervals c (k + 1) ≡ made_intervals c₀ (k + 1)
    made_before = rw (add-one k) (same_made c₀ c t.front k (omega (arith, t.made.few)))

    -- the rows of the next processor can be cleared
    pub clearing_next : MadeRows c (k + 1)
    clearing_next =
        record {
          there = record { clocks = t.long; from = omega arith; to = omega (arith, t.made.few) };
          fits = rw made_before (t.made.fits (k + 1));
        }

    -- those of one processor more are
    pub clearing_more : (c' : List ℕ) → c' ≡ sets c (clock_width * interval_row mainframe (k + 1) 1) (replicate (clock_width * made_intervals c (k + 1)) 0)
        → ClocksClearing c₀ c' n (k + 1)
    clearing_more c' e =
        record {
          made = t.made;
          long = ap length e ∙ length-sets c from zeros ∙ t.long;
          upto = omega (arith, b);
          front = λ j h. ap (λ (l : List ℕ). get_or l j 0) e ∙ get_sets_before zeros c from j 0 (omega (arith, is_from)) ∙ t.front j h;
          zero = λ j h l. ap (λ (l : List ℕ). get_or l j 0) e ∙ cleared j h l (dec_lt j from) (dec_lt j (from + count));
          rest = λ j h. ap (λ (l : List ℕ). get_or l j 0) e ∙ behind j (omega (arith, is_from, few)) (omega (arith, is_from, few));
        }
      where
        from : ℕ
        from = clock_width * interval_row mainframe (k + 1) 1

        count : ℕ
        count = clock_width * made_intervals c (k + 1)

        zeros : List ℕ
        zeros = replicate count 0

        is_from : from ≡ clock_width * (first_interval_row + interval_limit * k)
        is_from = unfold interval_row mainframe in omega arith

        few : made_intervals c (k + 1) ≤ interval_limit
        few = rw made_before (t.made.fits (k + 1))

        long_zeros : length zeros ≡ count
        long_zeros = length-replicate {A = ℕ} count 0

        behind : (j : ℕ) → from + count ≤ j → from ≤ j → get_or (sets c from zeros) j 0 ≡ get_or c₀ j 0
        behind j h l = get_sets_behind zeros c from j 0 (omega (arith, long_zeros)) ∙ t.rest j (omega (arith, is_from))

        cleared : (j : ℕ) → clock_width * first_interval_row ≤ j → j < clock_width * (first_interval_row + interval_limit * (k + 1)) → Dec (j < from) → Dec (j < from + count)
            → get_or (sets c from zeros) j 0 ≡ 0
        cleared j h l (yes x) y = get_sets_before zeros c from j 0 x ∙ t.zero j h (omega (arith, is_from))
        cleared j h l (no x) (yes y) =
            let place : j ≡ from + (j - from) = omega arith in
            ap (λ (i : ℕ). get_or (sets c from zeros) i 0) place
            ∙ get_sets_same zeros c from (j - from) 0 (omega (arith, long_zeros)) (omega (arith, long_zeros, is_from, few, t.long, b, t.made.few))
            ∙ get_or-replicate count (j - from) 0 0 (omega arith)
        cleared j h l (no x) (no y) =
            behind j (omega arith) (omega arith)
            ∙ later_zero c₀ n (k + 1) j t.made (omega arith) (omega (arith, b, t.made.few)) (omega (arith, is_from, made_before)) l

  -- with the rows of the queue and those before the intervals all are zeros
  all_zeros : n ≤ k → (front back : ℕ) → front ≡ clock_width * first_interval_row → back ≡ clock_width * first_job_row → (c₁ : List ℕ)
      → c₁ ≡ sets c back (replicate (clock_width * job_limit) 0) → (part : List ℕ) → part ≡ replicate (length (take front (drop 0 c₁))) 0
      → take 0 c₁ ++ (part ++ drop front (drop 0 c₁)) ≡ replicate (length c₀) 0
  all_zeros b front back ef eb c₁ e₁ part z =
      part_cleared c₁ part 0 front (omega (arith, long₁, ef)) z ∙ ext_get_or 0 cleared (replicate (length c₀) 0) long at
    where
      jobs : List ℕ
      jobs = replicate (clock_width * job_limit) 0

      long_jobs : length jobs ≡ clock_width * job_limit
      long_jobs = length-replicate {A = ℕ} (clock_width * job_limit) 0

      long₁ : length c₁ ≡ clock_area
      long₁ = ap length e₁ ∙ length-sets c back jobs ∙ t.long

      zeros : List ℕ
      zeros = replicate front 0

      cleared : List ℕ
      cleared = sets c₁ 0 zeros

      long_zeros : length zeros ≡ front
      long_zeros = length-replicate {A = ℕ} front 0

      as_long : length cleared ≡ length c₀
      as_long = length-sets c₁ 0 zeros ∙ long₁ ∙ sym t.made.clocks

      long : length cleared ≡ length (replicate {A = ℕ} (length c₀) 0)
      long = as_long ∙ sym (length-replicate {A = ℕ} (length c₀) 0)

      -- behind the rows before the intervals
      behind : (j : ℕ) → front ≤ j → get_or cleared j 0 ≡ get_or (sets c back jobs) j 0
      behind j h = get_sets_behind zeros c₁ 0 j 0 (omega (arith, long_zeros)) ∙ ap (λ (l : List ℕ). get_or l j 0) e₁

      -- the intervals' rows
      interval_zero : (j : ℕ) → front ≤ j → j < back → Dec (j < clock_width * (first_interval_row + interval_limit * k)) → get_or c j 0 ≡ 0
      interval_zero j h l (yes y) = t.zero j (omega (arith, h, ef)) y
      interval_zero j h l (no y) = t.rest j (omega arith) ∙ absent_zero_lem c₀ n j t.made (omega (arith, b, t.upto)) (omega (arith, l, eb))

      is_zero : (j : ℕ) → j < clock_area → Dec (j < front) → Dec (j < back) → get_or cleared j 0 ≡ 0
      is_zero j l (yes x) y =
          let place : j ≡ 0 + j = omega arith in
          ap (λ (i : ℕ). get_or cleared i 0) place ∙ get_sets_same zeros c₁ 0 j 0 (omega (arith, long_zeros)) (omega (arith, long_zeros, long₁, ef))
          ∙ get_or-replicate front j 0 0 x
      is_zero j l (no x) (yes y) =
          behind j (omega arith) ∙ get_sets_before jobs c back j 0 y ∙ interval_zero j (omega arith) y (dec_lt j (clock_width * (first_interval_row + interval_limit * k)))
      is_zero j l (no x) (no y) =
          let place : j ≡ back + (j - back) = omega arith in
          behind j (omega arith) ∙ ap (λ (i : ℕ). get_or (sets c back jobs) i 0) place
          ∙ get_sets_same jobs c back (j - back) 0 (omega (arith, long_jobs, l, eb)) (omega (arith, long_jobs, t.long, eb))
          ∙ get_or-replicate (clock_width * job_limit) (j - back) 0 0 (omega (arith, l, eb))

      at : (j : ℕ) → j < length cleared → get_or cleared j 0 ≡ get_or (replicate (length c₀) 0) j 0
      at j l = is_zero j (omega (arith, as_long, t.made.clocks)) (dec_lt j front) (dec_lt j back) ∙ sym (get_or-replicate (length c₀) j 0 0 (omega (arith, as_long)))

  -- the clocks that are left
  pub clearing_long : length c ≡ clock_area
  clearing_long = t.long

  -- a part before the end is there
  pub clearing_part : (c₁ : List ℕ) (n : ℕ) → c₁ ≡ sets c (clock_width * first_job_row) (replicate (clock_width * job_limit) 0) → n ≤ clock_area → n ≡ length (take n c₁)
  clearing_part c₁ n e h =
      sym (length-take-le n c₁ (omega (arith, ap length e ∙ length-sets c (clock_width * first_job_row) (replicate (clock_width * job_limit) 0), t.long)))

  pub clearing_all : n ≤ k → (c₁ : List ℕ) → c₁ ≡ sets c (clock_width * first_job_row) (replicate (clock_width * job_limit) 0) → (part : List ℕ)
      → part ≡ replicate (length (take (clock_width * first_interval_row) c₁)) 0 → part ++ drop (clock_width * first_interval_row) c₁ ≡ replicate (length c₀) 0
  clearing_all b c₁ e part z = all_zeros b (clock_width * first_interval_row) (clock_width * first_job_row) refl refl c₁ e part z

pub ruleset clear_laws = (made_read, made_fits, made_cleared, jobs_cleared, clearing_begins, clearing_next, clearing_more, clearing_long, clearing_part, clearing_all, rules)
