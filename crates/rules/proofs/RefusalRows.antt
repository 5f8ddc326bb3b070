-- Document 01, "Where each refusal is checked": "Top to bottom; the first that applies is given". Runs, computed, with steps to which several rows
-- apply at once. Rests on FromStart. Assumes nothing.
use mathlib.Core.Path.{◌≡◌, refl, ◌∙◌}
use mathlib.Core.List.{List, [], ◌∷◌}
use Rattle.rules.specs.State.{Limits, mainframe}
use Rattle.rules.specs.InOrder.{in_range, counts_in_range}
use Rattle.rules.specs.Opening.{opened}
use Rattle.rules.specs.Refusals.{Step, step_of}
use Rattle.rules.specs.Runs.{answers, answers_in_order}
use Rattle.rules.proofs.inorder.OpenedInOrder.{opened_in_order}
use Rattle.rules.proofs.InOrderRuns.{answers_in_order_lem}
use Rattle.rules.proofs.runs.Listing.{reads, writes, acquires, releases, arrives, wants, enqueues, dequeues, start, answering}
use Rattle.rules.proofs.runs.FromStart.{answers_from_start}
use Rattle.rules.proofs.runs.StoredCases.{accepted}

-- Two processors, one page, one lock. Kind 7 by processor 9 with object 99 (rows 3, 4, 5); processor 3 reads word 32 (4, 5), and frees lock 0 (4, 8);
-- 2 takes lock 0; 1 arrives; it reads word 32 (5, 6), asks for lock 0 (6) and frees it (6, 8); 2 takes lock 1, which is absent (5)
unfoldable pub several_rows : List Step
several_rows =
    step_of 7 9 99 0 ∷ reads 3 32 ∷ releases 3 0 ∷ acquires 2 0 ∷ arrives 1 ∷ reads 1 32 ∷ acquires 1 0 ∷ releases 1 0 ∷ acquires 2 1 ∷ []

computed_rows : answers_in_order mainframe (start 2 1 1) several_rows
    ≡ answering 3 0 0 ∷ answering 4 0 0 ∷ answering 4 0 0 ∷ accepted ∷ accepted ∷ answering 5 0 0 ∷ answering 6 0 0 ∷ answering 6 0 0 ∷ answering 5 0 0 ∷ []
unfolding start several_rows step_of
computed_rows = refl

-- of several rows the uppermost is given
pub upper_row_first : answers mainframe (start 2 1 1) several_rows
    ≡ answering 3 0 0 ∷ answering 4 0 0 ∷ answering 4 0 0 ∷ accepted ∷ accepted ∷ answering 5 0 0 ∷ answering 6 0 0 ∷ answering 6 0 0 ∷ answering 5 0 0 ∷ []
unfolding counts_in_range in_range mainframe
upper_row_first = answers_from_start 2 1 1 refl several_rows ∙ computed_rows

-- Three processors, one page, two locks. 1 takes lock 0, and again (row 7); 2 asks for lock 0 and waits. Then 2 reads, writes, takes lock 1 and lock 0, frees
-- lock 0 (17, 8), arrives and wants collection (17); with kind 7 (3, 17), with an absent word (5, 17); 1 frees lock 0, and 2, which has it, reads
unfoldable pub waiting_rows : List Step
waiting_rows =
    acquires 1 0 ∷ acquires 1 0 ∷ acquires 2 0 ∷ reads 2 0 ∷ writes 2 0 5 ∷ acquires 2 1 ∷ acquires 2 0 ∷ releases 2 0 ∷ arrives 2 ∷ wants 2 ∷ step_of 7 2 0 0 ∷ reads 2 32 ∷ releases 1 0
    ∷ reads 2 0 ∷ []

computed_waiting : answers_in_order mainframe (start 3 1 2) waiting_rows
    ≡ accepted ∷ answering 7 0 0 ∷ accepted ∷ answering 17 0 0 ∷ answering 17 0 0 ∷ answering 17 0 0 ∷ answering 17 0 0 ∷ answering 17 0 0 ∷ answering 17 0 0 ∷ answering 17 0 0
    ∷ answering 3 0 0 ∷ answering 5 0 0 ∷ accepted ∷ accepted ∷ []
unfolding start waiting_rows step_of
computed_waiting = refl

-- L1: "17, a step by a waiting card, after 6", whatever its kind; "7 remains for the holder's own acquire"
pub waiting_refused : answers mainframe (start 3 1 2) waiting_rows
    ≡ accepted ∷ answering 7 0 0 ∷ accepted ∷ answering 17 0 0 ∷ answering 17 0 0 ∷ answering 17 0 0 ∷ answering 17 0 0 ∷ answering 17 0 0 ∷ answering 17 0 0 ∷ answering 17 0 0
    ∷ answering 3 0 0 ∷ answering 5 0 0 ∷ accepted ∷ accepted ∷ []
unfolding counts_in_range in_range mainframe
waiting_refused = answers_from_start 3 1 2 refl waiting_rows ∙ computed_waiting

-- Two processors, two locks. 2 takes lock 1, 1 takes lock 0, and 2 asks for lock 0 and waits. 2 arrives (17, 18); 1 arrives (18), with an object and
-- with a value (5, 18); 1 frees lock 0, arrives, and arrives again (6); 2, which holds both locks, arrives (18), frees lock 0 and arrives (18), frees
-- lock 1 and arrives
unfoldable pub holder_rows : List Step
holder_rows =
    acquires 2 1 ∷ acquires 1 0 ∷ acquires 2 0 ∷ arrives 2 ∷ arrives 1 ∷ step_of 5 1 1 0 ∷ step_of 5 1 0 7 ∷ releases 1 0 ∷ arrives 1 ∷ arrives 1 ∷ arrives 2 ∷ releases 2 0 ∷ arrives 2
    ∷ releases 2 1 ∷ arrives 2 ∷ []

computed_holder : answers_in_order mainframe (start 2 1 2) holder_rows
    ≡ accepted ∷ accepted ∷ accepted ∷ answering 17 0 0 ∷ answering 18 0 0 ∷ answering 5 0 0 ∷ answering 5 0 0 ∷ accepted ∷ accepted ∷ answering 6 0 0 ∷ answering 18 0 0 ∷ accepted
    ∷ answering 18 0 0 ∷ accepted ∷ accepted ∷ []
unfolding start holder_rows step_of
computed_holder = refl

-- L7: "18, an arrival by a holder, after 17", whichever lock it holds
pub holder_refused : answers mainframe (start 2 1 2) holder_rows
    ≡ accepted ∷ accepted ∷ accepted ∷ answering 17 0 0 ∷ answering 18 0 0 ∷ answering 5 0 0 ∷ answering 5 0 0 ∷ accepted ∷ accepted ∷ answering 6 0 0 ∷ answering 18 0 0 ∷ accepted
    ∷ answering 18 0 0 ∷ accepted ∷ accepted ∷ []
unfolding counts_in_range in_range mainframe
holder_refused = answers_from_start 2 1 2 refl holder_rows ∙ computed_holder

-- limits with room for one record and one interval, and pages of one word
unfoldable pub tight : Limits
tight = record { processors = 2; pages = 2; words = 1; locks = 1; records = 1; intervals = 1; tallies = 1; jobs = 4 }

-- 1 stores in page 0 and takes a lock, so that its one interval is made and the one record stands; it stores in page 1, which is clean (rows 9, 10);
-- 2, with its interval left, stores there (10), waits for the lock and stores once more (17, 10); 1 frees the lock, arrives and stores once more (6, 9, 10)
unfoldable pub no_space : List Step
no_space = writes 1 0 5 ∷ acquires 1 0 ∷ writes 1 1 5 ∷ writes 2 1 5 ∷ acquires 2 0 ∷ writes 2 1 5 ∷ releases 1 0 ∷ arrives 1 ∷ writes 1 1 5 ∷ []

computed_space : answers_in_order tight (opened tight (record { processors = 2; pages = 2; locks = 1 })) no_space
    ≡ accepted ∷ accepted ∷ answering 9 0 0 ∷ answering 10 0 0 ∷ accepted ∷ answering 17 0 0 ∷ accepted ∷ accepted ∷ answering 6 0 0 ∷ []
unfolding start tight no_space
computed_space = refl

-- 9 stands above 10, and both below 6 and 17
pub nine_before_ten : answers tight (opened tight (record { processors = 2; pages = 2; locks = 1 })) no_space
    ≡ accepted ∷ accepted ∷ answering 9 0 0 ∷ answering 10 0 0 ∷ accepted ∷ answering 17 0 0 ∷ accepted ∷ accepted ∷ answering 6 0 0 ∷ []
unfolding counts_in_range in_range tight
nine_before_ten =
    answers_in_order_lem tight (opened tight (record { processors = 2; pages = 2; locks = 1 })) no_space (opened_in_order tight (record { processors = 2; pages = 2; locks = 1 }) refl)
    ∙ computed_space

-- limits with room for one job
unfoldable pub room_for_one_job : Limits
room_for_one_job = record { processors = 2; pages = 1; words = 1; locks = 1; records = 1; intervals = 1; tallies = 1; jobs = 1 }

-- The queue is empty: 3 dequeues (rows 4, 20), 1 with a value and with an object (5, 20), 1 rightly (20); 1 takes lock 0, 2 waits for it and dequeues (17, 20).
-- 1 adds a job, and the queue is full: 2 enqueues (17, 19), 1 (19), 3 (4, 19), 1 with an object (5, 19), 1 with kind 12 (3). 1 frees the lock, arrives and
-- enqueues (6, 19); 2 has the job, 1 dequeues (6, 20), 2 dequeues (20)
unfoldable pub queue_rows : List Step
queue_rows =
    dequeues 3 ∷ step_of 11 1 0 3 ∷ step_of 11 1 1 0 ∷ dequeues 1 ∷ acquires 1 0 ∷ acquires 2 0 ∷ dequeues 2 ∷ enqueues 1 7 ∷ enqueues 2 8 ∷ enqueues 1 8 ∷ enqueues 3 8 ∷ step_of 10 1 1 8
    ∷ step_of 12 1 0 0 ∷ releases 1 0 ∷ arrives 1 ∷ enqueues 1 8 ∷ dequeues 2 ∷ dequeues 1 ∷ dequeues 2 ∷ []

computed_queue : answers_in_order room_for_one_job (opened room_for_one_job (record { processors = 2; pages = 1; locks = 1 })) queue_rows
    ≡ answering 4 0 0 ∷ answering 5 0 0 ∷ answering 5 0 0 ∷ answering 20 0 0 ∷ accepted ∷ accepted ∷ answering 17 0 0 ∷ accepted ∷ answering 17 0 0 ∷ answering 19 0 0 ∷ answering 4 0 0
    ∷ answering 5 0 0 ∷ answering 3 0 0 ∷ accepted ∷ accepted ∷ answering 6 0 0 ∷ answering 0 7 0 ∷ answering 6 0 0 ∷ answering 20 0 0 ∷ []
unfolding start room_for_one_job queue_rows step_of
computed_queue = refl

-- L9: "19, enqueue with 32 jobs waiting; 20, dequeue with none; both after 18": below every row for steps of their kinds; 18 is for arrivals alone
pub queue_refused : answers room_for_one_job (opened room_for_one_job (record { processors = 2; pages = 1; locks = 1 })) queue_rows
    ≡ answering 4 0 0 ∷ answering 5 0 0 ∷ answering 5 0 0 ∷ answering 20 0 0 ∷ accepted ∷ accepted ∷ answering 17 0 0 ∷ accepted ∷ answering 17 0 0 ∷ answering 19 0 0 ∷ answering 4 0 0
    ∷ answering 5 0 0 ∷ answering 3 0 0 ∷ accepted ∷ accepted ∷ answering 6 0 0 ∷ answering 0 7 0 ∷ answering 6 0 0 ∷ answering 20 0 0 ∷ []
unfolding counts_in_range in_range room_for_one_job
queue_refused =
    answers_in_order_lem room_for_one_job (opened room_for_one_job (record { processors = 2; pages = 1; locks = 1 })) queue_rows (opened_in_order room_for_one_job (record { processors = 2; pages = 1; locks = 1 }) refl)
    ∙ computed_queue
