-- Happens-before-1 pinned from below: for each of its edges a real run in which demand 3 judges a read, and in which every derivation that a
-- write is before the read has that edge in it. An order without the edge, or with one that never holds, has no such run. Rests on PinnedRuns
-- and PremisesMet. Assumes nothing.
use native.Mathlib.Omega.{arith}
use mathlib.Core.Path.{refl}
use mathlib.Core.List.{List, [], ◌∷◌}
use Rattle.rules.specs.InOrder.{in_range, counts_in_range}
use Rattle.rules.specs.Refusals.{Step, Read, Write, Acquire, Release, Arrive, Enqueue, Dequeue}
use Rattle.rules.specs.Order.{events, program, lock, round, granted, job, chain}
use Rattle.rules.proofs.order.Edges.{ByProgram, ByLock, ByRound, ByGrant, ByJob, ByChain}
use Rattle.rules.proofs.runs.Listing.{reads, writes, acquires, releases, arrives, enqueues, dequeues, start}
use Rattle.rules.proofs.runs.BenchFaults.{steps_c}
use Rattle.rules.proofs.runs.JudgedRuns.{synchronized, all_accepted, taken, counting}
use Rattle.rules.proofs.PremisesMet.{read_taken, read_is_synchronized, computed_events}
use Rattle.rules.proofs.runs.PinnedRuns.{Shown, Pinned, pinned, every_write, cut_off, only_cut_off, unjoined, only_by_chaining, itself, own_steps}

-- In each run below the edges are named one by one, with their processors, actions and locks. What an edge asks of its two places is left to
-- arithmetic: an edge that asks for more than document 01 does fails in the run where it is missing.

-- ---- "a card's steps in their order"

-- 1 stores 5 in word 0, then 6, and reads it, and 2 reads another word between the stores. Nobody takes or frees a lock or arrives, so there is no
-- other edge in this run
unfoldable pub steps_program : List Step
steps_program = writes 1 0 5 ∷ reads 2 1 ∷ writes 1 0 6 ∷ reads 1 0 ∷ []

program_shown : Shown ByProgram 2 (all_accepted steps_program) 0 3 1 6
unfolding steps_program all_accepted every_write cut_off
program_shown =
    let es = all_accepted steps_program in
    record {
      read = taken refl refl refl;
      premise =
          synchronized 2 es 0 3 (2 ∷ 0 ∷ []) refl (
            program 1 (Write 0 6) (Read 0) (taken refl refl refl) (taken refl refl refl) (omega arith),
            (program 1 (Write 0 5) (Write 0 6) (taken refl refl refl) (taken refl refl refl) (omega arith), tt),
          );
      only = only_cut_off 2 es 0 3 ByProgram itself refl;
      last = refl;
    }

program_pinned : Pinned ByProgram (counting 2 1) steps_program 0 3 1 6
unfolding start steps_program events all_accepted counts_in_range in_range
program_pinned = pinned (all_accepted steps_program) refl refl program_shown (λ e. omega (arith, e))

-- ---- "each release before every later acquire of that lock"

-- Under lock 0 processor 1 stores 5 in word 0; 3 reads another word, 2 takes the lock and stores 6 in word 0; 3 takes the lock and reads. The stores
-- and the read are by three processors, and nobody arrives: without the lock a store leads to its processor's own steps alone
unfoldable pub steps_lock : List Step
steps_lock = acquires 1 0 ∷ writes 1 0 5 ∷ releases 1 0 ∷ reads 3 1 ∷ acquires 2 0 ∷ writes 2 0 6 ∷ releases 2 0 ∷ acquires 3 0 ∷ reads 3 0 ∷ []

lock_shown : Shown ByLock 3 (all_accepted steps_lock) 0 8 3 6
unfolding steps_lock all_accepted every_write cut_off
lock_shown =
    let es = all_accepted steps_lock in
    record {
      read = taken refl refl refl;
      premise =
          synchronized 3 es 0 8 (5 ∷ 1 ∷ []) refl (
            chain 6 (program 2 (Write 0 6) (Release 0) (taken refl refl refl) (taken refl refl refl) (omega arith))
                (chain 7 (lock 2 3 0 (taken refl refl refl) (taken refl refl refl) (omega arith))
                (program 3 (Acquire 0) (Read 0) (taken refl refl refl) (taken refl refl refl) (omega arith))),
            (
              chain 2 (program 1 (Write 0 5) (Release 0) (taken refl refl refl) (taken refl refl refl) (omega arith))
                  (chain 4 (lock 1 2 0 (taken refl refl refl) (taken refl refl refl) (omega arith))
                  (program 2 (Acquire 0) (Write 0 6) (taken refl refl refl) (taken refl refl refl) (omega arith))),
              tt,
            ),
          );
      only = only_cut_off 3 es 0 8 ByLock (own_steps es) refl;
      last = refl;
    }

lock_pinned : Pinned ByLock (counting 3 1) steps_lock 0 8 3 6
unfolding start steps_lock events all_accepted counts_in_range in_range
lock_pinned = pinned (all_accepted steps_lock) refl refl lock_shown (λ e. omega (arith, e))

-- ---- "every arrival of a completed round before every step any card takes after that round's last arrival"

-- 1 stores 5 in word 0, all arrive; 2 stores 6 there, all arrive; 3 reads. The first arrival of the first round is before 2's store, the last
-- one of the second round before the read of 3, which arrived first. There is no lock, so without rounds a store leads to its processor's own
-- steps alone; with one arrival missing they order nothing (`round_not_complete` of NotOrdered)
unfoldable pub steps_round : List Step
steps_round = writes 1 0 5 ∷ arrives 1 ∷ arrives 2 ∷ arrives 3 ∷ writes 2 0 6 ∷ arrives 3 ∷ arrives 1 ∷ arrives 2 ∷ reads 3 0 ∷ []

round_shown : Shown ByRound 3 (all_accepted steps_round) 0 8 3 6
unfolding steps_round all_accepted every_write cut_off
round_shown =
    let es = all_accepted steps_round in
    record {
      read = taken refl refl refl;
      premise =
          synchronized 3 es 0 8 (4 ∷ 0 ∷ []) refl (
            chain 7 (program 2 (Write 0 6) Arrive (taken refl refl refl) (taken refl refl refl) (omega arith))
                (round 2 3 (Read 0) (taken refl refl refl) (taken refl refl refl) (omega arith)),
            (
              chain 1 (program 1 (Write 0 5) Arrive (taken refl refl refl) (taken refl refl refl) (omega arith))
                  (round 1 2 (Write 0 6) (taken refl refl refl) (taken refl refl refl) (omega arith)),
              tt,
            ),
          );
      only = only_cut_off 3 es 0 8 ByRound (own_steps es) refl;
      last = refl;
    }

round_pinned : Pinned ByRound (counting 3 1) steps_round 0 8 3 6
unfolding start steps_round events all_accepted counts_in_range in_range
round_pinned = pinned (all_accepted steps_round) refl refl round_shown (λ e. omega (arith, e))

-- ---- L1: "the release precedes the waiter's next step"

-- Processor 1 holds lock 0 and stores 5 in word 0 while 2 and then 3 ask for the lock. 1's release hands it to 2, which stores 6; 2's release hands
-- it to 3; 1 reads another word, and 3 reads. Both asked before a release, so no release is before their acquires, and without grants a store leads to
-- its processor's own steps alone
unfoldable pub steps_grant : List Step
steps_grant = acquires 1 0 ∷ writes 1 0 5 ∷ acquires 2 0 ∷ acquires 3 0 ∷ releases 1 0 ∷ writes 2 0 6 ∷ releases 2 0 ∷ reads 1 1 ∷ reads 3 0 ∷ []

grant_shown : Shown ByGrant 3 (all_accepted steps_grant) 0 8 3 6
unfolding steps_grant all_accepted every_write cut_off
grant_shown =
    let es = all_accepted steps_grant in
    record {
      read = taken refl refl refl;
      premise =
          synchronized 3 es 0 8 (5 ∷ 1 ∷ []) refl (
            chain 6 (program 2 (Write 0 6) (Release 0) (taken refl refl refl) (taken refl refl refl) (omega arith))
                (granted 2 3 0 3 (Read 0) (record { release = taken refl refl refl; acquire = taken refl refl refl; waited = omega arith; next = refl }) (taken refl refl refl) (omega arith)),
            (
              chain 4 (program 1 (Write 0 5) (Release 0) (taken refl refl refl) (taken refl refl refl) (omega arith))
                  (granted 1 2 0 2 (Write 0 6) (record { release = taken refl refl refl; acquire = taken refl refl refl; waited = omega arith; next = refl }) (taken refl refl refl) (omega arith)),
              tt,
            ),
          );
      only = only_cut_off 3 es 0 8 ByGrant (own_steps es) refl;
      last = refl;
    }

grant_pinned : Pinned ByGrant (counting 3 1) steps_grant 0 8 3 6
unfolding start steps_grant events all_accepted counts_in_range in_range
grant_pinned = pinned (all_accepted steps_grant) refl refl grant_shown (λ e. omega (arith, e))

-- ---- L9: an enqueue "precedes in happens-before-1 the dequeue that returns its job"

-- 1 stores 5 in word 0 and enqueues two jobs; 2 dequeues the first, stores 6 and enqueues a third; 1 dequeues the second, and 3 the third, and reads. There is no
-- lock and nobody arrives, so without jobs a store leads to its processor's own steps alone
unfoldable pub steps_job : List Step
steps_job = writes 1 0 5 ∷ enqueues 1 41 ∷ enqueues 1 42 ∷ dequeues 2 ∷ writes 2 0 6 ∷ enqueues 2 43 ∷ dequeues 1 ∷ dequeues 3 ∷ reads 3 0 ∷ []

job_shown : Shown ByJob 3 (all_accepted steps_job) 0 8 3 6
unfolding steps_job all_accepted every_write cut_off
job_shown =
    let es = all_accepted steps_job in
    record {
      read = taken refl refl refl;
      premise =
          synchronized 3 es 0 8 (4 ∷ 0 ∷ []) refl (
            chain 5 (program 2 (Write 0 6) (Enqueue 43) (taken refl refl refl) (taken refl refl refl) (omega arith))
                (chain 7 (job 2 43 3 (record { enqueue = taken refl refl refl; dequeue = taken refl refl refl; waited = omega arith; same = refl }))
                (program 3 Dequeue (Read 0) (taken refl refl refl) (taken refl refl refl) (omega arith))),
            (
              chain 1 (program 1 (Write 0 5) (Enqueue 41) (taken refl refl refl) (taken refl refl refl) (omega arith))
                  (chain 3 (job 1 41 2 (record { enqueue = taken refl refl refl; dequeue = taken refl refl refl; waited = omega arith; same = refl }))
                  (program 2 Dequeue (Write 0 6) (taken refl refl refl) (taken refl refl refl) (omega arith))),
              tt,
            ),
          );
      only = only_cut_off 3 es 0 8 ByJob (own_steps es) refl;
      last = refl;
    }

job_pinned : Pinned ByJob (counting 3 1) steps_job 0 8 3 6
unfolding start steps_job events all_accepted counts_in_range in_range
job_pinned = pinned (all_accepted steps_job) refl refl job_shown (λ e. omega (arith, e))

-- ---- "and what follows by chaining"

-- Bench case C: 1 stores 5 under lock 0, 2 takes lock 0 and then lock 1, 3 takes lock 1 and reads. No edge by itself joins 1's store to 3's
-- read, and no lock has been with both
chain_shown : Shown ByChain 3 (all_accepted steps_c) 0 8 3 5
unfolding steps_c all_accepted every_write unjoined
chain_shown =
    record {
      read = read_taken;
      premise = read_is_synchronized;
      only = only_by_chaining 3 (all_accepted steps_c) 0 8 refl;
      last = refl;
    }

chain_pinned : Pinned ByChain (counting 3 2) steps_c 0 8 3 5
unfolding start counts_in_range in_range
chain_pinned = pinned (all_accepted steps_c) refl computed_events chain_shown (λ e. omega (arith, e))

-- ---- the theorem

-- For each edge: processors and locks, a list of steps, the word, the place of the read and its processor, and the value
pub record OrderPinned : Type 0 where
  -- "a card's steps in their order": 1 reads the last of its own two stores
  pub by_program : Pinned ByProgram (counting 2 1) steps_program 0 3 1 6
  -- "each release before every later acquire of that lock": 1 and 2 store under one lock, 3 takes it and reads 2's store
  pub by_lock : Pinned ByLock (counting 3 1) steps_lock 0 8 3 6
  -- "every arrival of a completed round before every step any card takes after that round's last arrival": 1 stores, then a round, 2 stores,
  -- then a round, and 3 reads 2's store
  pub by_round : Pinned ByRound (counting 3 1) steps_round 0 8 3 6
  -- "the release precedes the waiter's next step": 1 stores while 2 and 3 wait for its lock, 2 stores when it has it, and 3, served last, reads 2's store
  pub by_grant : Pinned ByGrant (counting 3 1) steps_grant 0 8 3 6
  -- "precedes the dequeue that returns its job": 1 stores and enqueues two jobs, 2 has the first, stores and enqueues, and 3, which has that job, reads 2's store
  pub by_job : Pinned ByJob (counting 3 1) steps_job 0 8 3 6
  -- "and what follows by chaining": 1's store goes through lock 0 to 2 and through lock 1 to 3, which reads it
  pub by_chain : Pinned ByChain (counting 3 2) steps_c 0 8 3 5

pub order_pinned : OrderPinned
order_pinned = record { by_program = program_pinned; by_lock = lock_pinned; by_round = round_pinned; by_grant = grant_pinned; by_job = job_pinned; by_chain = chain_pinned }
