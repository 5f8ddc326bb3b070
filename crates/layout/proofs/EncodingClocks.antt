-- The clocks that their area holds, laid out again, are the area itself. Assumes nothing.
use Prim.Native.Nat.{ℕ, suc, ◌+◌, ◌*◌}
use native.Mathlib.Omega.{arith}
use mathlib.Core.Path.{◌≡◌, refl, sym, ap, ◌∙◌}
use mathlib.Core.List.{List, ◌++◌}
use lib.ListN.{length, take, drop}
use lib.Seq.{take_all, take-add}
use Rattle.limits.specs.Limits.{interval_limit, job_limit, lock_limit, page_limit, processor_limit}
use Rattle.limits.specs.inner.Sizes.{clock_area, clock_width, copy_limit, first_applied_row, first_interval_row, first_job_row, first_lock_row}
use Rattle.rules.specs.State.{mainframe}
use Rattle.lists.specs.Tables.{tabulate}
use Rattle.layout.specs.Layout.{row_of, per_processor, join_rows}
use Rattle.layout.specs.Areas.{lock_row, applied_row, interval_row, job_row, clock_row, clocks_in, clock_bytes}
use Rattle.layout.proofs.Joins.{join_rows_lem, join_per_processor, join_tables}

module _ (c : List ℕ) where
  joined_processor_clocks : join_rows (clocks_in mainframe c).processors ≡ take (clock_width * processor_limit) (drop clock_width c)
  unfolding clocks_in mainframe clock_row row_of
  joined_processor_clocks =
      join_per_processor processor_limit (λ p. row_of clock_width c p)
      ∙ join_rows_lem processor_limit clock_width clock_width c (λ k. row_of clock_width c (suc k)) (λ k b. ap (λ (j : ℕ). take clock_width (drop j c)) (at k))
    where
      at : (k : ℕ) → clock_width * suc k ≡ clock_width + clock_width * k
      at k = omega arith

  joined_lock_clocks : join_rows (clocks_in mainframe c).locks ≡ take (clock_width * lock_limit) (drop (clock_width * first_lock_row) c)
  unfolding clocks_in mainframe clock_row lock_row row_of
  joined_lock_clocks = join_rows_lem lock_limit clock_width (clock_width * first_lock_row) c (λ k. row_of clock_width c (lock_row mainframe k)) (λ k b. ap (λ (j : ℕ). take clock_width (drop j c)) (at k))
    where
      at : (k : ℕ) → clock_width * lock_row mainframe k ≡ (clock_width * first_lock_row) + clock_width * k
      at k = omega arith

  joined_applied_clocks : join_rows (join_rows (clocks_in mainframe c).applied) ≡ take (clock_width * copy_limit) (drop (clock_width * first_applied_row) c)
  unfolding clocks_in mainframe clock_row applied_row row_of
  joined_applied_clocks =
      join_tables processor_limit (λ p. tabulate page_limit (λ g. row_of clock_width c (applied_row mainframe p g)))
      ∙ join_rows_lem processor_limit (clock_width * page_limit) (clock_width * first_applied_row) c (λ k. join_rows (tabulate page_limit (λ g. row_of clock_width c (applied_row mainframe (suc k) g))))
      (λ k b.
      join_rows_lem page_limit clock_width ((clock_width * first_applied_row) + clock_width * page_limit * k) c (λ g. row_of clock_width c (applied_row mainframe (suc k) g)) (λ g d. ap (λ (j : ℕ). take clock_width (drop j c)) (at k g)))
    where
      at : (k g : ℕ) → clock_width * applied_row mainframe (suc k) g ≡ (clock_width * first_applied_row) + clock_width * page_limit * k + clock_width * g
      at k g = omega arith

  joined_interval_clocks : join_rows (join_rows (clocks_in mainframe c).intervals) ≡ take (clock_width * (processor_limit * interval_limit)) (drop (clock_width * first_interval_row) c)
  unfolding clocks_in mainframe clock_row interval_row row_of
  joined_interval_clocks =
      join_tables processor_limit (λ p. per_processor interval_limit (λ i. row_of clock_width c (interval_row mainframe p i)))
      ∙ join_rows_lem processor_limit (clock_width * interval_limit) (clock_width * first_interval_row) c (λ k. join_rows (per_processor interval_limit (λ i. row_of clock_width c (interval_row mainframe (suc k) i))))
      (λ k b.
      join_per_processor interval_limit (λ i. row_of clock_width c (interval_row mainframe (suc k) i))
      ∙ join_rows_lem interval_limit clock_width ((clock_width * first_interval_row) + (clock_width * interval_limit) * k) c (λ i. row_of clock_width c (interval_row mainframe (suc k) (suc i))) (λ i d. ap (λ (j : ℕ). take clock_width (drop j c)) (at k i)))
    where
      at : (k i : ℕ) → clock_width * interval_row mainframe (suc k) (suc i) ≡ (clock_width * first_interval_row) + (clock_width * interval_limit) * k + clock_width * i
      at k i = omega arith

  joined_job_clocks : join_rows (clocks_in mainframe c).jobs ≡ take (clock_width * job_limit) (drop (clock_width * first_job_row) c)
  unfolding clocks_in mainframe clock_row job_row row_of
  joined_job_clocks = join_rows_lem job_limit clock_width (clock_width * first_job_row) c (λ k. row_of clock_width c (job_row mainframe k)) (λ k b. ap (λ (j : ℕ). take clock_width (drop j c)) (at k))
    where
      at : (k : ℕ) → clock_width * job_row mainframe k ≡ (clock_width * first_job_row) + clock_width * k
      at k = omega arith

  barrier_clock : (clocks_in mainframe c).barrier ≡ take clock_width c
  unfolding clocks_in mainframe clock_row row_of
  barrier_clock = refl

  -- the clocks laid out again are their area
  pub clock_bytes_lem : length c ≡ clock_area → clock_bytes (clocks_in mainframe c) ≡ c
  unfolding clock_bytes
  clock_bytes_lem h =
      let locks : List ℕ = take (clock_width * lock_limit) (drop (clock_width * first_lock_row) c) in
      let applied : List ℕ = take (clock_width * copy_limit) (drop (clock_width * first_applied_row) c) in
      let intervals : List ℕ = take (clock_width * (processor_limit * interval_limit)) (drop (clock_width * first_interval_row) c) in
      let jobs : List ℕ = take (clock_width * job_limit) (drop (clock_width * first_job_row) c) in
      rw (barrier_clock, joined_processor_clocks, joined_lock_clocks, joined_applied_clocks, joined_interval_clocks, joined_job_clocks)
      (ap (λ (r : List ℕ). r ++ locks ++ applied ++ intervals ++ jobs) (sym (take-add clock_width (clock_width * processor_limit) c))
      ∙ ap (λ (r : List ℕ). r ++ applied ++ intervals ++ jobs) (sym (take-add (clock_width * first_lock_row) (clock_width * lock_limit) c))
      ∙ ap (λ (r : List ℕ). r ++ intervals ++ jobs) (sym (take-add (clock_width * first_applied_row) (clock_width * copy_limit) c))
      ∙ ap (λ (r : List ℕ). r ++ jobs) (sym (take-add (clock_width * first_interval_row) (clock_width * (processor_limit * interval_limit)) c))
      ∙ sym (take-add (clock_width * first_job_row) (clock_width * job_limit) c)
      ∙ take_all clock_area c (omega arith))
