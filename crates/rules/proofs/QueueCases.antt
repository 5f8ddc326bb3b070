-- Document 02, L9: runs with jobs of the queue, computed of the rules, one table. That 19 and 20 stand below the other rows is in RefusalRows.antt, a
-- dequeue that closes before it learns in runs/BenchFaults.antt. Rests on FromStart. Assumes nothing.
use mathlib.Core.Path.{◌≡◌, refl, ◌∙◌}
use mathlib.Core.List.{List, [], ◌∷◌}
use Rattle.rules.specs.State.{mainframe}
use Rattle.rules.specs.InOrder.{in_range, counts_in_range}
use Rattle.rules.specs.Refusals.{Step}
use Rattle.rules.specs.Runs.{answers, answers_in_order}
use Rattle.rules.specs.Bench.{one_job, one_job_answers, no_other_job, no_other_job_answers, collected_job, collected_job_answers, full_twice, full_twice_answers}
use Rattle.rules.proofs.runs.Listing.{reads, writes, enqueues, dequeues, start, answering}
use Rattle.rules.proofs.runs.FromStart.{answers_from_start}
use Rattle.rules.proofs.runs.StoredCases.{accepted}

-- a job has the clock of its enqueue: 2 has the first of 1's jobs and the store before it, 3 has the second and both stores; then a job goes from 2 to 1
unfoldable pub each_its_clock : List Step
each_its_clock =
    writes 1 0 1 ∷ enqueues 1 10 ∷ writes 1 32 2 ∷ enqueues 1 11 ∷ dequeues 2 ∷ reads 2 0 ∷ reads 2 32 ∷ dequeues 3 ∷ reads 3 32 ∷ reads 3 0 ∷ writes 2 0 3 ∷ enqueues 2 12 ∷ dequeues 1
    ∷ reads 1 0 ∷ []

-- 3 has 2's job, which 2 added when it had 1's: both stores come to it
unfoldable pub through_two : List Step
through_two = writes 1 0 1 ∷ enqueues 1 1 ∷ writes 2 1 2 ∷ dequeues 2 ∷ enqueues 2 2 ∷ dequeues 3 ∷ reads 3 0 ∷ reads 3 1 ∷ []

-- 1 and 2 store in one word in a race, and 3 has the job of the one, then that of the other
unfoldable pub race_of_two : List Step
race_of_two = writes 1 0 1 ∷ enqueues 1 1 ∷ writes 2 0 2 ∷ enqueues 2 2 ∷ dequeues 3 ∷ reads 3 0 ∷ dequeues 3 ∷ reads 3 0 ∷ []

pub record QueueCases : Type 0 where
  pub one_job_lem : answers mainframe (start 3 1 1) one_job ≡ one_job_answers
  pub no_other_job_lem : answers mainframe (start 3 1 1) no_other_job ≡ no_other_job_answers
  pub each_its_clock_lem : answers mainframe (start 3 2 1) each_its_clock
      ≡ accepted ∷ accepted ∷ accepted ∷ accepted ∷ answering 0 10 0 ∷ answering 0 1 1 ∷ accepted ∷ answering 0 11 0 ∷ answering 0 2 1 ∷ answering 0 1 1 ∷ accepted ∷ accepted
      ∷ answering 0 12 0 ∷ answering 0 3 1 ∷ []
  pub full_twice_lem : answers mainframe (start 2 1 1) full_twice ≡ full_twice_answers
  pub collected_job_lem : answers mainframe (start 2 1 1) collected_job ≡ collected_job_answers
  pub through_two_lem : answers mainframe (start 3 1 1) through_two
      ≡ accepted ∷ accepted ∷ accepted ∷ answering 0 1 0 ∷ accepted ∷ answering 0 2 0 ∷ answering 0 1 2 ∷ answering 0 2 0 ∷ []
  pub race_of_two_lem : answers mainframe (start 3 1 1) race_of_two
      ≡ accepted ∷ accepted ∷ accepted ∷ accepted ∷ answering 0 1 0 ∷ answering 0 1 1 ∷ answering 0 2 0 ∷ answering 0 2 1 ∷ []

-- ---- the runs, computed

computed_one : answers_in_order mainframe (start 3 1 1) one_job ≡ one_job_answers
unfolding start one_job one_job_answers
computed_one = refl

computed_other : answers_in_order mainframe (start 3 1 1) no_other_job ≡ no_other_job_answers
unfolding start no_other_job no_other_job_answers
computed_other = refl

computed_clocks : answers_in_order mainframe (start 3 2 1) each_its_clock
    ≡ accepted ∷ accepted ∷ accepted ∷ accepted ∷ answering 0 10 0 ∷ answering 0 1 1 ∷ accepted ∷ answering 0 11 0 ∷ answering 0 2 1 ∷ answering 0 1 1 ∷ accepted ∷ accepted
    ∷ answering 0 12 0 ∷ answering 0 3 1 ∷ []
unfolding start each_its_clock
computed_clocks = refl

computed_full : answers_in_order mainframe (start 2 1 1) full_twice ≡ full_twice_answers
unfolding start full_twice full_twice_answers
computed_full = refl

computed_collected : answers_in_order mainframe (start 2 1 1) collected_job ≡ collected_job_answers
unfolding start collected_job collected_job_answers
computed_collected = refl

computed_through : answers_in_order mainframe (start 3 1 1) through_two
    ≡ accepted ∷ accepted ∷ accepted ∷ answering 0 1 0 ∷ accepted ∷ answering 0 2 0 ∷ answering 0 1 2 ∷ answering 0 2 0 ∷ []
unfolding start through_two
computed_through = refl

computed_race : answers_in_order mainframe (start 3 1 1) race_of_two
    ≡ accepted ∷ accepted ∷ accepted ∷ accepted ∷ answering 0 1 0 ∷ answering 0 1 1 ∷ answering 0 2 0 ∷ answering 0 2 1 ∷ []
unfolding start race_of_two
computed_race = refl

pub queue_cases : QueueCases
unfolding counts_in_range in_range mainframe
queue_cases =
    record {
      one_job_lem = answers_from_start 3 1 1 refl one_job ∙ computed_one;
      no_other_job_lem = answers_from_start 3 1 1 refl no_other_job ∙ computed_other;
      each_its_clock_lem = answers_from_start 3 2 1 refl each_its_clock ∙ computed_clocks;
      full_twice_lem = answers_from_start 2 1 1 refl full_twice ∙ computed_full;
      collected_job_lem = answers_from_start 2 1 1 refl collected_job ∙ computed_collected;
      through_two_lem = answers_from_start 3 1 1 refl through_two ∙ computed_through;
      race_of_two_lem = answers_from_start 3 1 1 refl race_of_two ∙ computed_race;
    }
