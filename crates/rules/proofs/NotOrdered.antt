-- Happens-before-1 pinned from above: runs in which an order larger than document 01's would put one step before another; where these are 1's
-- store of 5 and 2's read, the read answers 0. Rests on Edges and JudgedRuns. Assumes nothing.
use Prim.Native.Nat.{ℕ}
use mathlib.Core.Path.{◌≡◌, refl, ◌∙◌, subst}
use mathlib.Core.Bool.{Bool, true, not, ◌&&◌}
use mathlib.Core.List.{List, [], ◌∷◌}
use lib.Dec.{eqb, leb}
use Rattle.rules.specs.State.{mainframe, Counts}
use Rattle.rules.specs.InOrder.{in_range, counts_in_range}
use Rattle.rules.specs.Opening.{opening_refusal, opened}
use Rattle.rules.specs.Refusals.{Step, Answer}
use Rattle.rules.specs.Runs.{answers, answers_in_order}
use Rattle.rules.specs.Order.{events, Before}
use Rattle.rules.specs.Bench.{no_other_job, no_other_job_answers}
use Rattle.rules.proofs.InOrderRuns.{answers_in_order_lem}
use Rattle.rules.proofs.inorder.OpenedInOrder.{opened_in_order}
use Rattle.rules.proofs.order.Edges.{apart, apart_not_before, alone, alone_not_before, cut, cut_not_before}
use Rattle.rules.proofs.runs.Listing.{reads, writes, acquires, releases, arrives, enqueues, dequeues, start, answering}
use Rattle.rules.proofs.runs.StoredCases.{accepted}
use Rattle.rules.proofs.runs.JudgedRuns.{counting, opening_with, in_range_accepted, events_from, all_accepted}

-- a run from an accepted opening with its answers, in which the step at place i is not before the step at place j
pub record NotBefore (c : Counts) (ts : List Step) (answered : List Answer) (i j : ℕ) : Type 0 where
  pub opening : opening_refusal mainframe (opening_with c) ≡ 0
  pub answers_are : answers mainframe (opened mainframe c) ts ≡ answered
  pub not_before : Before c.processors (events_from c ts) i j → ⊥

-- the answers are computed
by_answers : {c : Counts} {ts : List Step} {answered : List Answer} {i j : ℕ} → counts_in_range mainframe c ≡ true
    → answers_in_order mainframe (opened mainframe c) ts ≡ answered → (Before c.processors (events ts answered) i j → ⊥) → NotBefore c ts answered i j
by_answers {c} {ts} {answered} {i} {j} in-range computed none =
    let answers_are : answers mainframe (opened mainframe c) ts ≡ answered =
    answers_in_order_lem mainframe (opened mainframe c) ts (opened_in_order mainframe c in-range) ∙ computed in
    record {
      opening = in_range_accepted c in-range;
      answers_are = answers_are;
      not_before = λ x. none (subst (λ (l : List Answer). Before c.processors (events ts l) i j) answers_are x);
    }

-- and so is the test that the processor at place j hears nothing
shown : {c : Counts} {ts : List Step} {answered : List Answer} {i j : ℕ} → counts_in_range mainframe c ≡ true
    → answers_in_order mainframe (opened mainframe c) ts ≡ answered → apart c.processors (events ts answered) i j ≡ true → NotBefore c ts answered i j
shown {c} {ts} {answered} {i} {j} in-range computed test = by_answers in-range computed (apart_not_before c.processors (events ts answered) i j test)

-- or that the processor at place i tells nobody
shown_alone : {c : Counts} {ts : List Step} {answered : List Answer} {i j : ℕ} → counts_in_range mainframe c ≡ true
    → answers_in_order mainframe (opened mainframe c) ts ≡ answered → alone c.processors (events ts answered) i j ≡ true → NotBefore c ts answered i j
shown_alone {c} {ts} {answered} {i} {j} in-range computed test = by_answers in-range computed (alone_not_before c.processors (events ts answered) i j test)

-- or that no edge leads out of some places, of which i is one and j is none
shown_inside : {c : Counts} {ts : List Step} {answered : List Answer} {i j : ℕ} (inside : ℕ → Bool) → counts_in_range mainframe c ≡ true
    → answers_in_order mainframe (opened mainframe c) ts ≡ answered → cut c.processors (events ts answered) i j inside ≡ true → NotBefore c ts answered i j
shown_inside {c} {ts} {answered} {i} {j} inside in-range computed test = by_answers in-range computed (cut_not_before c.processors (events ts answered) i j inside test)

-- a refused step
abbrev refused : ℕ → Answer
refused r = answering r 0 0

-- ---- the theorem

-- Each run has processors and locks, its steps, their answers, and the places of the two steps
pub record NothingMore : Type 0 where
  -- "that lock": 1 frees lock 0, 2 takes lock 1
  pub other_lock : NotBefore (counting 2 2) (acquires 1 0 ∷ writes 1 0 5 ∷ releases 1 0 ∷ acquires 2 1 ∷ reads 2 0 ∷ [])
      (accepted ∷ accepted ∷ accepted ∷ accepted ∷ accepted ∷ []) 1 4
  -- "every later acquire": 2 has taken the lock before 1 frees it
  pub earlier_acquire : NotBefore (counting 2 1) (acquires 2 0 ∷ releases 2 0 ∷ acquires 1 0 ∷ writes 1 0 5 ∷ releases 1 0 ∷ reads 2 0 ∷ [])
      (accepted ∷ accepted ∷ accepted ∷ accepted ∷ accepted ∷ accepted ∷ []) 3 5
  -- "a refused one has no place in the order": 1 frees a lock that it does not hold
  pub refused_release : NotBefore (counting 2 1) (writes 1 0 5 ∷ releases 1 0 ∷ acquires 2 0 ∷ reads 2 0 ∷ [])
      (accepted ∷ refused 8 ∷ accepted ∷ accepted ∷ []) 0 3
  -- 2 waits for lock 1 when it asks for lock 0, which 1 has freed
  pub refused_acquire : NotBefore (counting 3 2) (acquires 1 0 ∷ writes 1 0 5 ∷ releases 1 0 ∷ acquires 3 1 ∷ acquires 2 1 ∷ acquires 2 0 ∷ releases 3 1 ∷ reads 2 0 ∷ [])
      (accepted ∷ accepted ∷ accepted ∷ accepted ∷ accepted ∷ refused 17 ∷ accepted ∷ accepted ∷ []) 1 7
  -- 1 arrives a second time in its round
  pub refused_arrival : NotBefore (counting 2 1) (writes 1 0 5 ∷ arrives 1 ∷ arrives 1 ∷ reads 2 0 ∷ [])
      (accepted ∷ accepted ∷ refused 6 ∷ accepted ∷ []) 0 3
  -- "every arrival of a completed round": of three processors two have arrived
  pub round_not_complete : NotBefore (counting 3 1) (writes 1 0 5 ∷ arrives 1 ∷ arrives 3 ∷ reads 2 0 ∷ [])
      (accepted ∷ accepted ∷ accepted ∷ accepted ∷ []) 0 3
  -- one round is complete, 1 has arrived in the next
  pub round_before : NotBefore (counting 2 1) (arrives 1 ∷ arrives 2 ∷ writes 1 0 5 ∷ arrives 1 ∷ reads 2 0 ∷ [])
      (accepted ∷ accepted ∷ accepted ∷ accepted ∷ accepted ∷ []) 2 4
  -- "after that round's last arrival": the last arrival itself is not after the others
  pub last_arrival : NotBefore (counting 2 1) (writes 1 0 5 ∷ arrives 1 ∷ arrives 2 ∷ []) (accepted ∷ accepted ∷ accepted ∷ []) 1 2
  -- "the release precedes the waiter's next step": 1 frees lock 0, and 2 is served by the release of lock 1
  pub other_lock_granted : NotBefore (counting 3 2) (acquires 1 0 ∷ acquires 3 1 ∷ acquires 2 1 ∷ writes 1 0 5 ∷ releases 1 0 ∷ releases 3 1 ∷ reads 2 0 ∷ [])
      (accepted ∷ accepted ∷ accepted ∷ accepted ∷ accepted ∷ accepted ∷ accepted ∷ []) 3 6
  -- L9: "precedes the dequeue that returns its job, and of itself no other": 1 stores between its two jobs, and 2 dequeues the first
  pub other_job : NotBefore (counting 2 1) (enqueues 1 41 ∷ writes 1 0 5 ∷ enqueues 1 42 ∷ dequeues 2 ∷ reads 2 0 ∷ [])
      (accepted ∷ accepted ∷ accepted ∷ answering 0 41 0 ∷ accepted ∷ []) 1 4
  -- 3 has dequeued the job, and 2 reads
  pub other_dequeue : NotBefore (counting 3 1) (writes 1 0 5 ∷ enqueues 1 41 ∷ dequeues 3 ∷ reads 2 0 ∷ [])
      (accepted ∷ accepted ∷ answering 0 41 0 ∷ accepted ∷ []) 0 3
  -- 3 dequeues 1's job, and 2 the one that 3 enqueued before: a dequeue hears nothing of the jobs removed before it
  pub no_other_job_lem : NotBefore (counting 3 1) no_other_job no_other_job_answers 0 5
  -- of the waiters the one that it serves: 1 frees lock 0 for 2, and 3 waits behind it. In this one and the next three, no run has these steps
  -- accepted in this order; it is said of the lists alone
  pub other_waiter : Before 3 (all_accepted (acquires 1 0 ∷ writes 1 0 5 ∷ acquires 2 0 ∷ acquires 3 0 ∷ releases 1 0 ∷ reads 3 0 ∷ [])) 1 5 → ⊥
  -- "each release before every later acquire": not an acquire before an acquire, an acquire before a release or a release before a release
  pub acquire_acquire : Before 2 (all_accepted (writes 1 0 5 ∷ acquires 1 0 ∷ acquires 2 0 ∷ reads 2 0 ∷ [])) 0 3 → ⊥
  pub acquire_release : Before 2 (all_accepted (writes 1 0 5 ∷ acquires 1 0 ∷ releases 2 0 ∷ reads 2 0 ∷ [])) 0 3 → ⊥
  pub release_release : Before 2 (all_accepted (writes 1 0 5 ∷ releases 1 0 ∷ releases 2 0 ∷ reads 2 0 ∷ [])) 0 3 → ⊥

pub nothing_more : NothingMore
unfolding start events apart alone cut all_accepted counts_in_range in_range no_other_job no_other_job_answers
nothing_more =
    record {
      other_lock = shown refl refl refl;
      earlier_acquire = shown refl refl refl;
      refused_release = shown refl refl refl;
      refused_acquire = shown_alone refl refl refl;
      refused_arrival = shown refl refl refl;
      round_not_complete = shown refl refl refl;
      round_before = shown refl refl refl;
      last_arrival = shown refl refl refl;
      other_lock_granted = shown_alone refl refl refl;
      other_job = shown refl refl refl;
      other_dequeue = shown refl refl refl;
      no_other_job_lem = shown_inside (λ k. leb k 3 && not (eqb k 2)) refl refl refl;
      other_waiter = apart_not_before 3 (all_accepted (acquires 1 0 ∷ writes 1 0 5 ∷ acquires 2 0 ∷ acquires 3 0 ∷ releases 1 0 ∷ reads 3 0 ∷ [])) 1 5 refl;
      acquire_acquire = apart_not_before 2 (all_accepted (writes 1 0 5 ∷ acquires 1 0 ∷ acquires 2 0 ∷ reads 2 0 ∷ [])) 0 3 refl;
      acquire_release = apart_not_before 2 (all_accepted (writes 1 0 5 ∷ acquires 1 0 ∷ releases 2 0 ∷ reads 2 0 ∷ [])) 0 3 refl;
      release_release = apart_not_before 2 (all_accepted (writes 1 0 5 ∷ releases 1 0 ∷ releases 2 0 ∷ reads 2 0 ∷ [])) 0 3 refl;
    }
