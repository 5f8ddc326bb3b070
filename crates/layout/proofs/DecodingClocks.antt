-- The clocks of a state laid out as their area: it has the fixed size, and the clocks in it are those of the state. Assumes nothing.
use Prim.Native.Nat.{ℕ, zero, suc, ◌+◌, ◌-◌, ◌*◌, ◌≤◌, ◌<◌}
use native.Mathlib.Omega.{arith}
use mathlib.Core.Path.{◌≡◌, sym, ap, ◌∙◌}
use mathlib.Core.List.{List, [], ◌++◌}
use lib.ListN.{length, get_or, take, drop, length-append}
use lib.Seq.{take_at}
use Rattle.lists.specs.Tables.{cell, tabulate}
use Rattle.limits.specs.Limits.{interval_limit, job_limit, lock_limit, page_limit, processor_limit}
use Rattle.limits.specs.inner.Sizes.{clock_area, clock_width, copy_limit, first_applied_row, first_interval_row, first_job_row, first_lock_row}
use Rattle.rules.specs.State.{mainframe, Processor, Lock, Barrier, Applied, Interval, Job, clock_of, State}
use Rattle.rules.proofs.inorder.Facts.{Within, Sized}
use Rattle.layout.specs.Layout.{row_of, join_rows}
use Rattle.layout.specs.Areas.{lock_row, applied_row, interval_row, job_row, clock_row, clocks_in, clock_bytes}
use Rattle.lists.proofs.Tabulated.{tabulate_same, tabulate_get}
use Rattle.layout.proofs.RowLaws.{per_processor_same, page_table_same, interval_table_same}
use Rattle.layout.proofs.Cuts.{part_before, part_behind, length_joined, joined_row, table_of_rows, table_joined, table_of_elements, length_pages, page_cut, table_of_intervals, length_intervals, interval_cut}

-- ---- six parts, one behind the other: where the rows of each lie

record ClockParts (b p l a i q all : List ℕ) : Type 0 where
  long : length all ≡ clock_area
  barrier : take clock_width all ≡ b
  processors : (j : ℕ) → j + clock_width ≤ clock_width * processor_limit → take clock_width (drop (clock_width + j) all) ≡ take clock_width (drop j p)
  locks : (j : ℕ) → j + clock_width ≤ clock_width * lock_limit → take clock_width (drop ((clock_width * first_lock_row) + j) all) ≡ take clock_width (drop j l)
  applied : (j : ℕ) → j + clock_width ≤ (clock_width * copy_limit) → take clock_width (drop ((clock_width * first_applied_row) + j) all) ≡ take clock_width (drop j a)
  intervals : (j : ℕ) → j + clock_width ≤ (clock_width * (processor_limit * interval_limit)) → take clock_width (drop ((clock_width * first_interval_row) + j) all) ≡ take clock_width (drop j i)
  jobs : (j : ℕ) → take clock_width (drop ((clock_width * first_job_row) + j) all) ≡ take clock_width (drop j q)

clock_parts : (b p l a i q : List ℕ) → length b ≡ clock_width → length p ≡ clock_width * processor_limit → length l ≡ clock_width * lock_limit → length a ≡ (clock_width * copy_limit) → length i ≡ (clock_width * (processor_limit * interval_limit))
    → length q ≡ clock_width * job_limit → ClockParts b p l a i q (b ++ p ++ l ++ a ++ i ++ q)
clock_parts b p l a i q lb lp ll la li lq =
    record {
      long = length-append (b ++ p ++ l ++ a ++ i) q ∙ omega (arith, five, lq);
      barrier = front 0 (omega arith) ∙ take_at b p clock_width lb;
      processors = λ j h. front (clock_width + j) (omega arith) ∙ part_behind clock_width clock_width j b p lb;
      locks =
          λ j h.
          before_jobs ((clock_width * first_lock_row) + j) (omega (arith, h))
          ∙ part_before clock_width ((clock_width * first_lock_row) + j) (b ++ p ++ l ++ a) i (omega (arith, four, h))
          ∙ part_before clock_width ((clock_width * first_lock_row) + j) (b ++ p ++ l) a (omega (arith, three, h))
          ∙ part_behind clock_width (clock_width * first_lock_row) j (b ++ p) l two;
      applied =
          λ j h.
          before_jobs ((clock_width * first_applied_row) + j) (omega (arith, h))
          ∙ part_before clock_width ((clock_width * first_applied_row) + j) (b ++ p ++ l ++ a) i (omega (arith, four, h))
          ∙ part_behind clock_width (clock_width * first_applied_row) j (b ++ p ++ l) a three;
      intervals = λ j h. before_jobs ((clock_width * first_interval_row) + j) (omega (arith, h)) ∙ part_behind clock_width (clock_width * first_interval_row) j (b ++ p ++ l ++ a) i four;
      jobs = λ j. part_behind clock_width (clock_width * first_job_row) j (b ++ p ++ l ++ a ++ i) q five;
    }
  where
    two : length (b ++ p) ≡ (clock_width * first_lock_row)
    two = length-append b p ∙ omega (arith, lb, lp)

    three : length (b ++ p ++ l) ≡ (clock_width * first_applied_row)
    three = length-append (b ++ p) l ∙ omega (arith, two, ll)

    four : length (b ++ p ++ l ++ a) ≡ (clock_width * first_interval_row)
    four = length-append (b ++ p ++ l) a ∙ omega (arith, three, la)

    five : length (b ++ p ++ l ++ a ++ i) ≡ (clock_width * first_job_row)
    five = length-append (b ++ p ++ l ++ a) i ∙ omega (arith, four, li)

    before_jobs : (j : ℕ) → j + clock_width ≤ (clock_width * first_job_row) → take clock_width (drop j (b ++ p ++ l ++ a ++ i ++ q)) ≡ take clock_width (drop j (b ++ p ++ l ++ a ++ i))
    before_jobs j h = part_before clock_width j (b ++ p ++ l ++ a ++ i) q (omega (arith, five, h))

    front : (j : ℕ) → j + clock_width ≤ (clock_width * first_lock_row) → take clock_width (drop j (b ++ p ++ l ++ a ++ i ++ q)) ≡ take clock_width (drop j (b ++ p))
    front j h =
        before_jobs j (omega (arith, h))
        ∙ part_before clock_width j (b ++ p ++ l ++ a) i (omega (arith, four, h))
        ∙ part_before clock_width j (b ++ p ++ l) a (omega (arith, three, h))
        ∙ part_before clock_width j (b ++ p) l (omega (arith, two, h))

-- ---- the clocks of a state

module _ (s : State) (h : Sized mainframe s) where
  processor_clocks : join_rows s.clocks.processors ≡ join_rows (tabulate processor_limit (λ k. get_or s.clocks.processors (suc k) []))
  unfolding mainframe
  processor_clocks = table_joined s.clocks.processors processor_limit h.processors h.nobody_clock

  processor_wide : (k : ℕ) → k < processor_limit → length (get_or s.clocks.processors (suc k) []) ≡ clock_width
  unfolding mainframe clock_of Within
  processor_wide k b = h.clocks (Processor (suc k)) (omega arith, omega arith)

  lock_clocks : join_rows s.clocks.locks ≡ join_rows (tabulate lock_limit (λ l. get_or s.clocks.locks l []))
  unfolding mainframe
  lock_clocks = ap (λ (t : List (List ℕ)). join_rows t) (sym (tabulate_get s.clocks.locks lock_limit [] h.locks))

  lock_wide : (l : ℕ) → l < lock_limit → length (get_or s.clocks.locks l []) ≡ clock_width
  unfolding mainframe clock_of Within
  lock_wide l b = h.clocks (Lock l) b

  applied_wide : (p g : ℕ) → 1 ≤ p → p ≤ processor_limit → g < page_limit → length (cell [] s.clocks.applied p g) ≡ clock_width
  unfolding mainframe clock_of Within
  applied_wide p g a b c = h.clocks (Applied p g) (a, b, c)

  interval_wide : (p i : ℕ) → 1 ≤ p → p ≤ processor_limit → 1 ≤ i → i ≤ interval_limit → length (cell [] s.clocks.intervals p i) ≡ clock_width
  unfolding mainframe clock_of Within
  interval_wide p i a b c d = h.clocks (Interval p i) (a, b, c, d)

  job_clocks : join_rows s.clocks.jobs ≡ join_rows (tabulate job_limit (λ k. get_or s.clocks.jobs k []))
  unfolding mainframe
  job_clocks = ap (λ (t : List (List ℕ)). join_rows t) (sym (tabulate_get s.clocks.jobs job_limit [] h.jobs))

  job_wide : (k : ℕ) → k < job_limit → length (get_or s.clocks.jobs k []) ≡ clock_width
  unfolding mainframe clock_of Within
  job_wide k b = h.clocks (Job k) b

  parts : ClockParts s.clocks.barrier (join_rows s.clocks.processors) (join_rows s.clocks.locks) (join_rows (join_rows s.clocks.applied))
      (join_rows (join_rows s.clocks.intervals)) (join_rows s.clocks.jobs) (clock_bytes s.clocks)
  unfolding clock_bytes mainframe clock_of Within
  parts =
      clock_parts s.clocks.barrier (join_rows s.clocks.processors) (join_rows s.clocks.locks) (join_rows (join_rows s.clocks.applied))
      (join_rows (join_rows s.clocks.intervals)) (join_rows s.clocks.jobs)
      (h.clocks Barrier tt)
      (ap length processor_clocks ∙ length_joined processor_limit clock_width (λ k. get_or s.clocks.processors (suc k) []) processor_wide)
      (ap length lock_clocks ∙ length_joined lock_limit clock_width (λ l. get_or s.clocks.locks l []) lock_wide)
      (length_pages s.clocks.applied processor_limit page_limit clock_width h.applied h.nobody_applied h.applied_row_lem applied_wide)
      (length_intervals s.clocks.intervals processor_limit interval_limit h.intervals h.nobody_interval h.interval_row_lem h.no_interval clock_width interval_wide)
      (ap length job_clocks ∙ length_joined job_limit clock_width (λ k. get_or s.clocks.jobs k []) job_wide)

  -- the area has its size
  pub clock_size : length (clock_bytes s.clocks) ≡ clock_area
  clock_size = parts.long

  barrier_again : (clocks_in mainframe (clock_bytes s.clocks)).barrier ≡ s.clocks.barrier
  unfolding clocks_in mainframe clock_row row_of
  barrier_again = parts.barrier

  processors_again : (clocks_in mainframe (clock_bytes s.clocks)).processors ≡ s.clocks.processors
  unfolding clocks_in mainframe clock_row row_of
  processors_again =
      per_processor_same processor_limit (λ p. row_of clock_width (clock_bytes s.clocks) p) (λ p. get_or s.clocks.processors p []) each
      ∙ table_of_rows s.clocks.processors processor_limit h.processors h.nobody_clock
    where
      at : (k : ℕ) → clock_width * suc k ≡ clock_width + clock_width * k
      at k = omega arith

      each : (p : ℕ) → 1 ≤ p → p ≤ processor_limit → take clock_width (drop (clock_width * p) (clock_bytes s.clocks)) ≡ get_or s.clocks.processors p []
      each zero a b = absurd (omega arith)
      each (suc k) a b =
          ap (λ (j : ℕ). take clock_width (drop j (clock_bytes s.clocks))) (at k)
          ∙ parts.processors (clock_width * k) (omega arith)
          ∙ ap (λ (l : List ℕ). take clock_width (drop (clock_width * k) l)) processor_clocks
          ∙ joined_row processor_limit clock_width (λ k. get_or s.clocks.processors (suc k) []) k processor_wide (omega arith)

  locks_again : (clocks_in mainframe (clock_bytes s.clocks)).locks ≡ s.clocks.locks
  unfolding clocks_in mainframe clock_row lock_row row_of
  locks_again =
      tabulate_same lock_limit (λ l. row_of clock_width (clock_bytes s.clocks) (lock_row mainframe l)) (λ l. get_or s.clocks.locks l []) each
      ∙ tabulate_get s.clocks.locks lock_limit [] h.locks
    where
      at : (l : ℕ) → clock_width * lock_row mainframe l ≡ (clock_width * first_lock_row) + clock_width * l
      at l = omega arith

      each : (l : ℕ) → l < lock_limit → take clock_width (drop (clock_width * lock_row mainframe l) (clock_bytes s.clocks)) ≡ get_or s.clocks.locks l []
      each l b =
          ap (λ (j : ℕ). take clock_width (drop j (clock_bytes s.clocks))) (at l)
          ∙ parts.locks (clock_width * l) (omega arith)
          ∙ ap (λ (r : List ℕ). take clock_width (drop (clock_width * l) r)) lock_clocks
          ∙ joined_row lock_limit clock_width (λ l. get_or s.clocks.locks l []) l lock_wide b

  applied_again : (clocks_in mainframe (clock_bytes s.clocks)).applied ≡ s.clocks.applied
  unfolding clocks_in mainframe clock_row applied_row row_of
  applied_again =
      page_table_same processor_limit page_limit (λ p g. row_of clock_width (clock_bytes s.clocks) (applied_row mainframe p g)) (λ p g. cell [] s.clocks.applied p g)
      (λ p g a b c.
      ap (λ (j : ℕ). take clock_width (drop j (clock_bytes s.clocks))) (at p g)
      ∙ parts.applied (clock_width * page_limit * (p - 1) + clock_width * g) (omega arith)
      ∙ page_cut s.clocks.applied processor_limit page_limit clock_width h.applied h.nobody_applied h.applied_row_lem applied_wide p g a b c)
      ∙ table_of_elements s.clocks.applied processor_limit h.applied h.nobody_applied page_limit [] h.applied_row_lem
    where
      at : (p g : ℕ) → clock_width * applied_row mainframe p g ≡ (clock_width * first_applied_row) + (clock_width * page_limit * (p - 1) + clock_width * g)
      at p g = omega arith

  intervals_again : (clocks_in mainframe (clock_bytes s.clocks)).intervals ≡ s.clocks.intervals
  unfolding clocks_in mainframe clock_row interval_row row_of clock_of
  intervals_again =
      interval_table_same processor_limit interval_limit (λ p i. row_of clock_width (clock_bytes s.clocks) (interval_row mainframe p i)) (λ p i. cell [] s.clocks.intervals p i)
      (λ p i a b c d.
      ap (λ (j : ℕ). take clock_width (drop j (clock_bytes s.clocks))) (at p i)
      ∙ parts.intervals ((clock_width * interval_limit) * (p - 1) + clock_width * (i - 1)) (omega arith)
      ∙ interval_cut s.clocks.intervals processor_limit interval_limit h.intervals h.nobody_interval h.interval_row_lem h.no_interval clock_width interval_wide p i a b c d)
      ∙ table_of_intervals s.clocks.intervals processor_limit interval_limit h.intervals h.nobody_interval h.interval_row_lem h.no_interval
    where
      at : (p i : ℕ) → clock_width * interval_row mainframe p i ≡ (clock_width * first_interval_row) + ((clock_width * interval_limit) * (p - 1) + clock_width * (i - 1))
      at p i = omega arith

  jobs_again : (clocks_in mainframe (clock_bytes s.clocks)).jobs ≡ s.clocks.jobs
  unfolding clocks_in mainframe clock_row job_row row_of
  jobs_again =
      tabulate_same job_limit (λ k. row_of clock_width (clock_bytes s.clocks) (job_row mainframe k)) (λ k. get_or s.clocks.jobs k []) each
      ∙ tabulate_get s.clocks.jobs job_limit [] h.jobs
    where
      at : (k : ℕ) → clock_width * job_row mainframe k ≡ (clock_width * first_job_row) + clock_width * k
      at k = omega arith

      each : (k : ℕ) → k < job_limit → take clock_width (drop (clock_width * job_row mainframe k) (clock_bytes s.clocks)) ≡ get_or s.clocks.jobs k []
      each k b =
          ap (λ (j : ℕ). take clock_width (drop j (clock_bytes s.clocks))) (at k)
          ∙ parts.jobs (clock_width * k)
          ∙ ap (λ (r : List ℕ). take clock_width (drop (clock_width * k) r)) job_clocks
          ∙ joined_row job_limit clock_width (λ k. get_or s.clocks.jobs k []) k job_wide b

  -- and the clocks in it are the state's
  pub clocks_again : clocks_in mainframe (clock_bytes s.clocks) ≡ s.clocks
  clocks_again =
      λ i. record {
        processors = processors_again i;
        locks = locks_again i;
        barrier = barrier_again i;
        applied = applied_again i;
        intervals = intervals_again i;
        jobs = jobs_again i;
      }
