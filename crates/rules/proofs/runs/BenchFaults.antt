-- Runs, computed, each of which answers otherwise under one fault of the rules: document 01, "Faults that pass on a two-card bench" and
-- line 3 of "Four lines every contract here is held to". Assumes nothing.
use Prim.Native.Nat.{ℕ, ◌-◌}
use mathlib.Core.Path.{◌≡◌, refl}
use mathlib.Core.List.{List, [], ◌∷◌}
use Rattle.limits.specs.Limits.{processor_limit}
use Rattle.clock.specs.Clocks.{zeros}
use Rattle.rules.specs.State.{Limits, mainframe, Interval, clock_of, State, clock}
use Rattle.rules.specs.Opening.{opened}
use Rattle.rules.specs.Fetch.{with_copy, fetched}
use Rattle.rules.specs.Refusals.{Step, Answer}
use Rattle.rules.specs.Runs.{answers_in_order, state_in_order}
use Rattle.rules.proofs.runs.Listing.{reads, writes, acquires, releases, arrives, wants, enqueues, dequeues, start, moving, answering}

-- an accepted step with no value and no count
abbrev fine : Answer
fine = answering 0 0 0

-- ---- "A lock that carries only its holder's own intervals: C"

-- "1 writes 5 under lock 0; 2 takes and frees lock 0, then lock 1; 3 takes lock 1 and reads"
unfoldable pub steps_c : List Step
steps_c =
    acquires 1 0 ∷ writes 1 0 5 ∷ releases 1 0 ∷ acquires 2 0 ∷ releases 2 0 ∷ acquires 2 1 ∷ releases 2 1 ∷ acquires 3 1 ∷ reads 3 0 ∷ []

-- 2 has no interval of its own; what lock 1 brings to 3 is what 2 knows
pub computed_c : answers_in_order mainframe (start 3 1 2) steps_c
    ≡ fine ∷ fine ∷ fine ∷ fine ∷ fine ∷ fine ∷ fine ∷ fine ∷ answering 0 5 1 ∷ []
unfolding start steps_c
computed_c = refl

pub computed_clock_of_3 : clock (state_in_order mainframe (start 3 1 2) steps_c) 3 ≡ 1 ∷ 0 ∷ 0 ∷ zeros (processor_limit - 3)
unfolding start steps_c
computed_clock_of_3 = refl

-- ---- "bringing news at the first acquire only"

-- twice 1 stores in word 0 under lock 0, and 2 takes the lock and reads the word
unfoldable pub news_twice : List Step
news_twice =
    acquires 1 0 ∷ writes 1 0 5 ∷ releases 1 0 ∷ acquires 2 0 ∷ reads 2 0 ∷ releases 2 0
    ∷ acquires 1 0 ∷ writes 1 0 6 ∷ releases 1 0 ∷ acquires 2 0 ∷ reads 2 0 ∷ releases 2 0 ∷ []

-- the second acquire brings news as the first did
pub news_at_each_acquire : answers_in_order mainframe (start 2 1 1) news_twice
    ≡ fine ∷ fine ∷ fine ∷ fine ∷ answering 0 5 1 ∷ fine
    ∷ fine ∷ fine ∷ fine ∷ fine ∷ answering 0 6 1 ∷ fine ∷ []
unfolding start news_twice
news_at_each_acquire = refl

-- ---- "Applying records by card: E"

-- under lock 0 processor 2 stores 6 in word 0, then 1 stores 5 there; 3 takes the lock and reads the word
unfoldable pub later_by_first : List Step
later_by_first =
    acquires 2 0 ∷ writes 2 0 6 ∷ releases 2 0 ∷ acquires 1 0 ∷ writes 1 0 5 ∷ releases 1 0 ∷ acquires 3 0 ∷ reads 3 0 ∷ []

-- 1's record comes last, for its interval's clock has the larger sum, and replaces 2's, which is skipped (L5)
pub later_store_is_read : answers_in_order mainframe (start 3 1 1) later_by_first
    ≡ fine ∷ fine ∷ fine ∷ fine ∷ answering 0 0 1 ∷ fine ∷ fine ∷ answering 0 5 1 ∷ []
unfolding start later_by_first
later_store_is_read = refl

-- ---- "Joining several of a card's changes over another card's store (000, figure 2.16)"

-- under lock 0 processor 1 stores 5 in word 0, 2 stores 6 there, 1 stores 7 in word 1; 3 takes the lock and reads both words
unfoldable pub store_between : List Step
store_between =
    acquires 1 0 ∷ writes 1 0 5 ∷ releases 1 0
    ∷ acquires 2 0 ∷ writes 2 0 6 ∷ releases 2 0
    ∷ acquires 1 0 ∷ writes 1 1 7 ∷ releases 1 0
    ∷ acquires 3 0 ∷ reads 3 0 ∷ reads 3 1 ∷ []

-- 2's store comes between the two diffs of 1. Were these applied together, behind it, 3 would read 5
pub store_between_is_kept : answers_in_order mainframe (start 3 1 1) store_between
    ≡ fine ∷ fine ∷ fine
    ∷ fine ∷ answering 0 0 1 ∷ fine
    ∷ fine ∷ answering 0 0 1 ∷ fine
    ∷ fine ∷ answering 0 6 2 ∷ answering 0 7 0 ∷ []
unfolding start store_between
store_between_is_kept = refl

-- ---- "Copying the whole page from the last writer: B"

-- 1 and 2 store in different words of a page, both arrive, and each reads both words
unfoldable pub shared_page : List Step
shared_page = writes 1 0 5 ∷ writes 2 1 6 ∷ arrives 1 ∷ arrives 2 ∷ reads 1 0 ∷ reads 1 1 ∷ reads 2 0 ∷ reads 2 1 ∷ []

-- a diff has the words that were stored and no others, and the round brings it to each
pub both_stores_are_read : answers_in_order mainframe (start 2 1 1) shared_page
    ≡ fine ∷ fine ∷ fine ∷ fine ∷ answering 0 5 1 ∷ answering 0 6 0 ∷ answering 0 5 1 ∷ answering 0 6 0 ∷ []
unfolding start shared_page
both_stores_are_read = refl

-- ---- "Learning before closing, so an interval's clock claims news its stores had not seen"

-- 2 stores 5 in word 0 under lock 0; 1 stores 6 there with no lock, then takes and frees lock 0; 3 takes it and reads the word
unfoldable pub store_then_acquire : List Step
store_then_acquire =
    acquires 2 0 ∷ writes 2 0 5 ∷ releases 2 0 ∷ writes 1 0 6 ∷ acquires 1 0 ∷ releases 1 0 ∷ acquires 3 0 ∷ reads 3 0 ∷ []

-- 1's interval closes when 1 takes the lock, before 1 learns of 2's: its clock is 1, 0, 0, for its store had not seen 2's
pub closed_before_learning : clock_of (state_in_order mainframe (start 3 1 1) store_then_acquire).clocks (Interval 1 1) ≡ 1 ∷ 0 ∷ 0 ∷ zeros (processor_limit - 3)
unfolding start store_then_acquire
closed_before_learning = refl

-- So the two intervals have equal sums, the records stand by processor, 1's and then 2's, which replaces it, and 3 reads 5. Had 1 learned first, the
-- clock of its interval would be 1, 1, 0, as if 1 had stored after 2: its record would come last and 3 would read 6. The two writes are a
-- race, for which demand 3 allows either value: only the rules decide it.
pub answers_of_store_then_acquire : answers_in_order mainframe (start 3 1 1) store_then_acquire
    ≡ fine ∷ fine ∷ fine ∷ fine ∷ fine ∷ fine ∷ fine ∷ answering 0 5 1 ∷ []
unfolding start store_then_acquire
answers_of_store_then_acquire = refl

-- The same at a dequeue (L9: "closes, removes the oldest job, learns its clock"): 2 stores 2 in word 0 and enqueues; 1 stores 1 there, dequeues 2's job and
-- enqueues another; 3 dequeues that and reads the word
unfoldable pub store_then_dequeue : List Step
store_then_dequeue = writes 2 0 2 ∷ enqueues 2 1 ∷ writes 1 0 1 ∷ dequeues 1 ∷ enqueues 1 9 ∷ dequeues 3 ∷ reads 3 0 ∷ []

-- 1's interval closes before 1 learns of 2's, so the two have equal sums, 2's record replaces 1's, and 3 reads 2. Had 1 learned first, 3 would read 1
pub answers_of_store_then_dequeue : answers_in_order mainframe (start 3 1 1) store_then_dequeue
    ≡ fine ∷ fine ∷ fine ∷ answering 0 1 0 ∷ fine ∷ answering 0 9 0 ∷ answering 0 2 1 ∷ []
unfolding start store_then_dequeue
answers_of_store_then_dequeue = refl

-- ---- "If collection is wanted, each card upwards fetches each page upwards"

-- 1 stores in word 0 and wants collection; both arrive; 2 reads the word
unfoldable pub collecting : List Step
collecting = writes 1 0 5 ∷ wants 1 ∷ arrives 1 ∷ arrives 2 ∷ reads 2 0 ∷ []

-- the round's last arrival fetches 1's record for 2, which reads 5 though no record stands
pub collection_fetches : answers_in_order mainframe (start 2 1 1) collecting ≡ fine ∷ fine ∷ fine ∷ answering 0 0 1 ∷ answering 0 5 0 ∷ []
unfolding start collecting
collection_fetches = refl

-- ---- "applied to the copy alone"

-- 1 stores in two words of a page, the second when the page is dirty; 2 takes the lock and reads both
unfoldable pub stored_twice : List Step
stored_twice = acquires 1 0 ∷ writes 1 0 5 ∷ writes 1 1 6 ∷ releases 1 0 ∷ acquires 2 0 ∷ reads 2 0 ∷ reads 2 1 ∷ []

-- the fetch of the second write leaves the twin as it was before the first store, so the diff has both words
pub twin_is_kept : answers_in_order mainframe (start 2 1 1) stored_twice ≡ fine ∷ fine ∷ fine ∷ fine ∷ fine ∷ moving 0 5 1 2 ∷ answering 0 6 0 ∷ []
unfolding start stored_twice
twin_is_kept = refl

-- a fetch leaves every twin as it was, in any state
pub fetch_leaves_twins : (lim : Limits) (s : State) (p g : ℕ) → (fetched lim s p g).pages.twins ≡ s.pages.twins
unfolding fetched with_copy
fetch_leaves_twins lim s p g = refl

-- ---- "9 or 10 while space remains"

-- limits with room for two records, and pages of one word
unfoldable pub narrow : Limits
narrow = record { processors = 1; pages = 3; words = 1; locks = 1; records = 2; intervals = 1; tallies = 1; jobs = 4 }

-- 1 stores in three pages, and once more in the second
unfoldable pub filling_up : List Step
filling_up = writes 1 0 5 ∷ writes 1 1 5 ∷ writes 1 2 5 ∷ writes 1 1 6 ∷ []

-- two pages can be dirty, the third is refused, and a dirty page still takes stores
pub ten_when_full : answers_in_order narrow (opened narrow (record { processors = 1; pages = 3; locks = 1 })) filling_up
    ≡ fine ∷ fine ∷ answering 10 0 0 ∷ fine ∷ []
unfolding start narrow filling_up
ten_when_full = refl
