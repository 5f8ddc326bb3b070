-- Demand 3 applied to the run of bench case C, where its premise is met: the value that processor 3 reads follows from the theorem over
-- every list of steps, with no computation of what the rules store. Rests on JudgedRuns. Assumes nothing.
use native.Mathlib.Omega.{arith}
use mathlib.Core.Path.{◌≡◌, refl, ap, ◌∙◌}
use mathlib.Core.List.{List, [], ◌∷◌}
use Rattle.rules.specs.State.{mainframe}
use Rattle.rules.specs.InOrder.{in_range, counts_in_range}
use Rattle.rules.specs.Opening.{opened}
use Rattle.rules.specs.Refusals.{Read, Write, Acquire, Release}
use Rattle.rules.specs.Runs.{answers, answers_in_order}
use Rattle.rules.specs.Order.{Event, events, Took, program, lock, chain}
use Rattle.rules.specs.Demand.{last_written, Synchronized, value_at}
use Rattle.rules.proofs.runs.Listing.{start}
use Rattle.rules.proofs.runs.BenchFaults.{steps_c}
use Rattle.rules.proofs.runs.JudgedRuns.{synchronized, counting, events_from, events_computed, read_judged, all_accepted, taken}

-- of the answers only the refusals are computed: every step is accepted
pub computed_events : events steps_c (answers_in_order mainframe (start 3 1 2) steps_c) ≡ all_accepted steps_c
unfolding start steps_c events all_accepted
computed_events = refl

pub events_of_c : events_from (counting 3 2) steps_c ≡ all_accepted steps_c
unfolding start counts_in_range in_range
events_of_c = events_computed (counting 3 2) refl steps_c (all_accepted steps_c) computed_events

-- ---- the order

-- the write at place 1 is the only one to word 0, and it is before the read at place 8: 1's release of lock 0, 2's acquire of it and its next steps to
-- the release of lock 1, 3's acquire of that, the read. So the premise of demand 3 is met
pub read_is_synchronized : Synchronized 3 (all_accepted steps_c) 0 8
unfolding steps_c all_accepted
read_is_synchronized =
    synchronized 3 (all_accepted steps_c) 0 8 (1 ∷ []) refl (
      chain 2 (program 1 (Write 0 5) (Release 0) (taken refl refl refl) (taken refl refl refl) (omega arith))
          (chain 3 (lock 1 2 0 (taken refl refl refl) (taken refl refl refl) (omega arith))
          (chain 4 (program 2 (Acquire 0) (Release 0) (taken refl refl refl) (taken refl refl refl) (omega arith))
          (chain 5 (program 2 (Release 0) (Acquire 1) (taken refl refl refl) (taken refl refl refl) (omega arith))
          (chain 6 (program 2 (Acquire 1) (Release 1) (taken refl refl refl) (taken refl refl refl) (omega arith))
          (chain 7 (lock 2 3 1 (taken refl refl refl) (taken refl refl refl) (omega arith))
          (program 3 (Acquire 1) (Read 0) (taken refl refl refl) (taken refl refl refl) (omega arith))))))),
      tt,
    )

-- ---- the value

pub read_taken : Took (all_accepted steps_c) 8 3 (Read 0)
unfolding steps_c all_accepted
read_taken = taken refl refl refl

last_written_is_5 : last_written (all_accepted steps_c) 0 8 ≡ 5
unfolding steps_c all_accepted
last_written_is_5 = refl

-- the read of word 0 by processor 3 answers 5
pub case_c_by_demand_three : value_at (answers mainframe (opened mainframe (record { processors = 3; pages = 1; locks = 2 })) steps_c) 8 ≡ 5
unfolding counts_in_range in_range mainframe
case_c_by_demand_three =
    read_judged (counting 3 2) refl steps_c 8 3 0 (rw events_of_c read_taken) (rw events_of_c read_is_synchronized)
    ∙ ap (λ (es : List Event). last_written es 0 8) events_of_c
    ∙ last_written_is_5
