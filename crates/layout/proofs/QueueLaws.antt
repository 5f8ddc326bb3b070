-- The queue of the mainframe in its areas: the value of the job at each place, the place of the oldest job and how many wait; and the state after one of
-- them is stored anew. Assumes nothing.
use Prim.Native.Nat.{ℕ, ◌<◌}
use native.Mathlib.Omega.{arith}
use mathlib.Core.Path.{◌≡◌, refl, ◌∙◌}
use mathlib.Core.List.{List}
use lib.ListN.{length, get_or, set, length-set}
use lib.Seq.{get_or-set_same, get_or-set_other}
use Rattle.lists.specs.Tables.{put}
use Rattle.lists.proofs.Tabulated.{get_tabulate, tabulate_same}
use Rattle.limits.specs.Limits.{job_limit, processor_limit, tally_limit}
use Rattle.limits.specs.Places.{first_arrived, wanted_place}
use Rattle.limits.specs.inner.Sizes.{first_awaited, first_dirty, first_holder, first_turn, mark_area, queue_first, queue_jobs, word_area}
use Rattle.rules.specs.State.{mainframe, with_marks, with_queue, with_shared}
use Rattle.layout.specs.Areas.{tally_place, value_place, first_place, jobs_place, marks_in, shared_in, state_in}
use Rattle.layout.specs.inner.Marks.{first_mark, jobs_mark}
use Rattle.layout.proofs.RowLaws.{page_table_same}
use Rattle.layout.proofs.TallyLaws.{value_at_lem, value_behind, shared_written}
use Rattle.layout.proofs.MarksKept.{wanted_kept, arrived_kept, holders_kept, awaited_kept, turns_kept, first_kept, jobs_kept, marks_alone, agree_below, agree_above}
use Rattle.layout.proofs.MarkLaws.{stored_by_place}

-- ---- reading

module _ (c w r m : List ℕ) where
  -- the place of the oldest job
  pub first_read : (state_in mainframe c w r m).marks.first ≡ first_mark m
  unfolding state_in marks_in
  first_read = refl

  -- how many jobs wait
  pub jobs_read : (state_in mainframe c w r m).marks.jobs ≡ jobs_mark m
  unfolding state_in marks_in
  jobs_read = refl

  -- the value at a place
  pub value_read : (k : ℕ) → k < job_limit → get_or (state_in mainframe c w r m).shared.values k 0 ≡ get_or w (value_place mainframe k) 0
  unfolding state_in shared_in mainframe
  value_read k b = get_tabulate job_limit (λ j. get_or w (value_place mainframe j) 0) k 0 b

-- ---- a value stored anew

-- its place lies within the area
pub value_there : (k : ℕ) → k < job_limit → value_place mainframe k < word_area
value_there k b = omega (arith, value_at_lem k)

-- the tallies stay, and the values have the new one there
values_stored : (w : List ℕ) (k x : ℕ) → length w ≡ word_area → k < job_limit
    → shared_in mainframe (set w (value_place mainframe k) x)
    ≡ record { posted = (shared_in mainframe w).posted; adds = (shared_in mainframe w).adds; values = put 0 (shared_in mainframe w).values k x }
unfolding shared_in mainframe
values_stored w k x there b =
    λ i. record {
      posted =
          tabulate_same tally_limit (λ t. get_or (set w (value_place mainframe k) x) (tally_place mainframe 0 t) 0) (λ t. get_or w (tally_place mainframe 0 t) 0)
          (λ t h. get_or-set_other w (value_place mainframe k) (tally_place mainframe 0 t) x 0 (λ e. omega (arith, e, value_behind 0 t k (omega arith) h))) i;
      adds =
          page_table_same processor_limit tally_limit (λ p t. get_or (set w (value_place mainframe k) x) (tally_place mainframe p t) 0) (λ p t. get_or w (tally_place mainframe p t) 0)
          (λ p t h l d. get_or-set_other w (value_place mainframe k) (tally_place mainframe p t) x 0 (λ e. omega (arith, e, value_behind p t k l d))) i;
      values = stored_by_place job_limit (value_place mainframe) w k x (λ i j e. omega (arith, e, value_at_lem i, value_at_lem j)) (omega (arith, there, value_there k b)) b i;
    }

-- the state has the new value at its place
pub value_written : (c w r m : List ℕ) (k x : ℕ) → length w ≡ word_area → k < job_limit
    → state_in mainframe c (set w (value_place mainframe k) x) r m
    ≡ (let s = state_in mainframe c w r m in
    with_shared s (record { posted = s.shared.posted; adds = s.shared.adds; values = put 0 s.shared.values k x }))
unfolding state_in
value_written c w r m k x there b =
    shared_written c w (set w (value_place mainframe k) x) r m
    (record { posted = (shared_in mainframe w).posted; adds = (shared_in mainframe w).adds; values = put 0 (shared_in mainframe w).values k x })
    there (length-set w (value_place mainframe k) x ∙ there)
    (λ i a h. get_or-set_other w (value_place mainframe k) i x 0 (λ e. omega (arith, e, value_at_lem k, h)))
    (values_stored w k x there b)

-- ---- a mark of the queue stored anew

module _ (c w r m : List ℕ) (x : ℕ) (there : length m ≡ mark_area) where
  -- the place of the oldest job
  pub first_written : state_in mainframe c w r (set m (first_place mainframe) x)
      ≡ (let s = state_in mainframe c w r m in with_marks s (with_queue s.marks x s.marks.jobs))
  unfolding state_in marks_in first_place mainframe
  first_written =
      let at : ℕ = first_place mainframe in
      marks_alone (set m at x) m c w r (agree_below m at x 0 wanted_place (omega arith)) (agree_below m at x first_dirty first_awaited (omega arith))
      ∙ (λ i. with_marks (state_in mainframe c w r m)
      (record {
        holders = holders_kept (set m at x) m (agree_below m at x first_holder first_dirty (omega arith)) i;
        arrived = arrived_kept (set m at x) m (agree_below m at x first_arrived first_holder (omega arith)) i;
        wanted = wanted_kept (set m at x) m (agree_below m at x wanted_place first_arrived (omega arith)) i;
        awaited = awaited_kept (set m at x) m (agree_below m at x first_awaited first_turn (omega arith)) i;
        turns = turns_kept (set m at x) m (agree_below m at x first_turn queue_first (omega arith)) i;
        first = get_or-set_same m at x 0 (omega arith) i;
        jobs = jobs_kept (set m at x) m (agree_above m at x queue_jobs mark_area (omega arith)) i;
      }))

  -- how many wait
  pub jobs_written : state_in mainframe c w r (set m (jobs_place mainframe) x)
      ≡ (let s = state_in mainframe c w r m in with_marks s (with_queue s.marks s.marks.first x))
  unfolding state_in marks_in first_place jobs_place mainframe
  jobs_written =
      let at : ℕ = jobs_place mainframe in
      marks_alone (set m at x) m c w r (agree_below m at x 0 wanted_place (omega arith)) (agree_below m at x first_dirty first_awaited (omega arith))
      ∙ (λ i. with_marks (state_in mainframe c w r m)
      (record {
        holders = holders_kept (set m at x) m (agree_below m at x first_holder first_dirty (omega arith)) i;
        arrived = arrived_kept (set m at x) m (agree_below m at x first_arrived first_holder (omega arith)) i;
        wanted = wanted_kept (set m at x) m (agree_below m at x wanted_place first_arrived (omega arith)) i;
        awaited = awaited_kept (set m at x) m (agree_below m at x first_awaited first_turn (omega arith)) i;
        turns = turns_kept (set m at x) m (agree_below m at x first_turn queue_first (omega arith)) i;
        first = first_kept (set m at x) m (agree_below m at x queue_first queue_jobs (omega arith)) i;
        jobs = get_or-set_same m at x 0 (omega arith) i;
      }))
