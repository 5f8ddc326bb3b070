-- Document 01, "A state is in order when": for each condition a state that breaks it alone and is out of order, computed. So none of the
-- conditions can be left out or follows from the others. Rests on Conditions. Assumes nothing.
use Prim.Native.Nat.{ℕ}
use mathlib.Core.Path.{◌≡◌, refl}
use mathlib.Core.Bool.{true, false}
use mathlib.Core.List.{List, [], ◌∷◌}
use lib.ListN.{replicate, set}
use Rattle.lists.specs.Tables.{put_cell}
use Rattle.clock.specs.Clocks.{covered}
use Rattle.diff.specs.Reading.{most_runs, pair_holds, orderly, pairs_refusal, read_refusal}
use Rattle.rules.specs.State.{Limits, Holder, Processor, Applied, Interval, Job, with_clock, slot_bytes, laid_over, State, with_clocks, with_pages, with_records, with_marks, with_lines, with_queue, with_shared}
use Rattle.rules.specs.InOrder.{every_processor, every_page, every_holder, slot_size, rows_sized, sized, in_range, counts_in_range, present_holder, all_zero, absent_zero, later_intervals_zero, entries_known, applied_known, record_at, diff_legal, record_sound, same_notice, records_sound, room_kept, dirty_have_interval, holders_present, holders_away, queue_sound, someone_missing, stand_before, waiter_sound, apart_in_line, lines_sound, is_in_order}
use Rattle.rules.specs.Opening.{opened}
use Rattle.rules.specs.Refusals.{step_of, refused_with, answer}
use Rattle.rules.proofs.inorder.Conditions.{waiter_tests, line_tests, order_tests}
use Rattle.rules.proofs.runs.Listing.{start}

-- limits of two of each, and pages of one word; two processors, one page and one lock are opened
unfoldable pub two_of_each : Limits
unfolding start covered most_runs pair_holds orderly pairs_refusal read_refusal every_processor every_page every_holder rows_sized sized in_range counts_in_range present_holder all_zero absent_zero later_intervals_zero entries_known applied_known record_at diff_legal record_sound same_notice records_sound room_kept dirty_have_interval holders_present holders_away queue_sound someone_missing stand_before waiter_sound apart_in_line lines_sound is_in_order order_tests waiter_tests line_tests
two_of_each = record { processors = 2; pages = 2; words = 1; locks = 2; records = 2; intervals = 2; tallies = 1; jobs = 4 }

unfoldable pub plain : State
plain = opened two_of_each (record { processors = 2; pages = 1; locks = 1 })

-- limits of three processors, with all three or two of them opened
unfoldable pub three_of_each : Limits
three_of_each = record { processors = 3; pages = 1; words = 1; locks = 2; records = 1; intervals = 1; tallies = 1; jobs = 4 }

unfoldable pub three_opened : State
three_opened = opened three_of_each (record { processors = 3; pages = 1; locks = 1 })

unfoldable pub two_opened : State
two_opened = opened three_of_each (record { processors = 2; pages = 1; locks = 1 })

-- ---- the plain state with one part changed

-- other clocks of some holders
abbrev known : State → Holder → List ℕ → State
known s h c = with_clocks s (with_clock s.clocks h c)

-- page g of processor p dirty
abbrev dirtied : State → ℕ → ℕ → State
dirtied s p g = with_pages s (record { copies = s.pages.copies; twins = s.pages.twins; dirty = put_cell 0 s.pages.dirty p g 1 })

-- a slot with the record of an interval in which no word of page g changed, or with other bytes for its diff
abbrev slot_of : ℕ → ℕ → ℕ → List ℕ → List ℕ
slot_of p i g diff = laid_over (slot_bytes (record { processor = p; interval = i; page = g; diff = diff })) (replicate (slot_size two_of_each) 0)

abbrev one_record : State → List ℕ → State
one_record s a = with_records s (record { standing = 1; slots = a ∷ replicate (slot_size two_of_each) 0 ∷ [] })

abbrev two_records : State → List ℕ → List ℕ → State
two_records s a b = with_records s (record { standing = 2; slots = a ∷ b ∷ [] })

abbrev marked : State → List ℕ → List ℕ → State
marked s holders arrived = with_marks s (record { holders = holders; arrived = arrived; wanted = 0; awaited = s.marks.awaited; turns = s.marks.turns; first = 0; jobs = 0 })

-- waiters and their turns
abbrev lined : State → List ℕ → List ℕ → State
lined s awaited turns = with_marks s (with_lines s.marks awaited turns)

-- the oldest job's place, and how many jobs wait
abbrev waiting_jobs : State → ℕ → ℕ → State
waiting_jobs s first jobs = with_marks s (with_queue s.marks first jobs)

-- ---- the table

-- a state out of order by one condition alone, by its number in document 01's order from 0
pub record BreaksOnly (k : ℕ) (s : State) : Type 0 where
  pub out : is_in_order two_of_each s ≡ false
  pub alone : order_tests two_of_each s ≡ set (replicate 14 true) k false

-- the same for other limits
pub record Breaks (lim : Limits) (k : ℕ) (s : State) : Type 0 where
  pub out : is_in_order lim s ≡ false
  pub alone : order_tests lim s ≡ set (replicate 14 true) k false

-- a state out of order by one condition on its lines alone
pub record BreaksLine (k : ℕ) (s : State) : Type 0 where
  pub by_lines : Breaks three_of_each 11 s
  pub alone : line_tests s ≡ set (replicate 3 true) k false

-- by one condition on processor 2, which waits for lock 0
pub record BreaksWaiter (k : ℕ) (s : State) : Type 0 where
  pub by_line : BreaksLine 1 s
  pub alone : waiter_tests s 2 0 ≡ set (replicate 4 true) k false

pub record OutOfOrder : Type 0 where
  -- with nothing changed the state is in order
  pub in_order : is_in_order two_of_each plain ≡ true
  -- "its size is the fixed one": one holder too few
  pub size : BreaksOnly 0 (marked plain (0 ∷ []) (0 ∷ 0 ∷ 0 ∷ []))
  -- "counts of cards, pages and locks are in range": three pages
  pub counts : BreaksOnly 1 (record { counts = record { processors = 2; pages = 3; locks = 1 }; clocks = plain.clocks; pages = plain.pages; records = plain.records; marks = plain.marks; shared = plain.shared })
  -- "entries, words, marks and holders for absent cards, pages and locks are 0": a word of page 1
  pub absent : BreaksOnly 2 (with_pages plain (record { copies = put_cell [] plain.pages.copies 1 1 (7 ∷ []); twins = plain.pages.twins; dirty = plain.pages.dirty }))
  -- "the clock kept for an interval above its card's own entry is zeros": 1 has made none
  pub later_interval : BreaksOnly 3 (known (known plain (Processor 2) (0 ∷ 1 ∷ [])) (Interval 1 1) (0 ∷ 1 ∷ []))
  -- "no clock entry exceeds that card's own entry in its own clock": 1 knows an interval that 2 has not made
  pub entry : BreaksOnly 4 (known plain (Processor 1) (0 ∷ 1 ∷ []))
  -- "at most 63", here 2
  pub own_entry : BreaksOnly 4 (known plain (Processor 1) (3 ∷ 0 ∷ []))
  -- "no applied clock exceeds its card's clock": 1 has applied what it does not know
  pub applied : BreaksOnly 5 (known (known plain (Processor 2) (0 ∷ 1 ∷ [])) (Applied 1 0) (0 ∷ 1 ∷ []))
  -- "each record has a present card"
  pub record_processor : BreaksOnly 6 (one_record (known plain (Processor 1) (1 ∷ 0 ∷ [])) (slot_of 3 1 0 (0 ∷ [])))
  -- "and page"
  pub record_page : BreaksOnly 6 (one_record (known plain (Processor 1) (1 ∷ 0 ∷ [])) (slot_of 1 1 1 (0 ∷ [])))
  -- "a legal change": two runs in a page of one word
  pub record_diff : BreaksOnly 6 (one_record (known plain (Processor 1) (1 ∷ 0 ∷ [])) (slot_of 1 1 0 (2 ∷ [])))
  -- "and an interval from 1"
  pub interval_0 : BreaksOnly 6 (one_record (known plain (Processor 1) (1 ∷ 0 ∷ [])) (slot_of 1 0 0 (0 ∷ [])))
  -- "to its card's own entry"
  pub interval_not_made : BreaksOnly 6 (one_record (known plain (Processor 1) (1 ∷ 0 ∷ [])) (slot_of 1 2 0 (0 ∷ [])))
  -- "and no other record has the same card, interval and page"
  pub same_record : BreaksOnly 6 (two_records (known plain (Processor 1) (1 ∷ 0 ∷ [])) (slot_of 1 1 0 (0 ∷ [])) (slot_of 1 1 0 (0 ∷ [])))
  -- "records plus dirty pages, counted over all cards, are at most 128", here 2
  pub room : BreaksOnly 7 (dirtied (two_records (known plain (Processor 1) (2 ∷ 0 ∷ [])) (slot_of 1 1 0 (0 ∷ [])) (slot_of 1 2 0 (0 ∷ []))) 2 0)
  -- "a card with a dirty page has own entry at most 62", here 1
  pub dirty_page : BreaksOnly 8 (dirtied (known plain (Processor 1) (2 ∷ 0 ∷ [])) 1 0)
  -- "holders are present cards or 0"
  pub lock_holder : BreaksOnly 9 (marked plain (3 ∷ 0 ∷ []) (0 ∷ 0 ∷ 0 ∷ []))
  -- "not all cards have arrived"
  pub all_arrived_lem : BreaksOnly 10 (marked plain (0 ∷ 0 ∷ []) (0 ∷ 1 ∷ 1 ∷ []))
  -- L1, "only present cards in lines": of limits of three, processor 3 is absent and waits, or has a turn
  pub absent_waits : Breaks three_of_each 2 (lined (marked two_opened (1 ∷ 0 ∷ []) (0 ∷ 0 ∷ 0 ∷ 0 ∷ [])) (0 ∷ 0 ∷ 0 ∷ 1 ∷ []) (0 ∷ 0 ∷ 0 ∷ 0 ∷ []))
  pub absent_turn : Breaks three_of_each 2 (lined two_opened (0 ∷ 0 ∷ 0 ∷ 0 ∷ []) (0 ∷ 0 ∷ 0 ∷ 1 ∷ []))
  -- L4: processor 3 is absent and has added to a tally
  pub absent_adds : Breaks three_of_each 2 (with_shared two_opened (record { posted = 0 ∷ []; adds = [] ∷ (0 ∷ []) ∷ (0 ∷ []) ∷ (7 ∷ []) ∷ []; values = 0 ∷ 0 ∷ 0 ∷ 0 ∷ [] }))
  -- a line at a present lock, which is held, in which 2 and 3 stand one behind the other, is in order
  pub line_in_order : is_in_order three_of_each (lined (marked three_opened (1 ∷ 0 ∷ []) (0 ∷ 0 ∷ 0 ∷ 0 ∷ [])) (0 ∷ 0 ∷ 1 ∷ 1 ∷ []) (0 ∷ 7 ∷ 1 ∷ 0 ∷ [])) ≡ true
  -- 2 waits for an absent lock
  pub absent_lock : BreaksLine 0 (lined (marked three_opened (1 ∷ 0 ∷ []) (0 ∷ 0 ∷ 0 ∷ 0 ∷ [])) (0 ∷ 0 ∷ 2 ∷ 0 ∷ []) (0 ∷ 0 ∷ 0 ∷ 0 ∷ []))
  -- "no line at a free lock"
  pub free_lock : BreaksWaiter 0 (lined three_opened (0 ∷ 0 ∷ 1 ∷ 0 ∷ []) (0 ∷ 0 ∷ 0 ∷ 0 ∷ []))
  -- "no waiter that ... holds the lock it waits for"
  pub own_lock : BreaksWaiter 1 (lined (marked three_opened (2 ∷ 0 ∷ []) (0 ∷ 0 ∷ 0 ∷ 0 ∷ [])) (0 ∷ 0 ∷ 1 ∷ 0 ∷ []) (0 ∷ 0 ∷ 0 ∷ 0 ∷ []))
  -- "no waiter that has arrived"
  pub arrived_waits : BreaksWaiter 2 (lined (marked three_opened (1 ∷ 0 ∷ []) (0 ∷ 0 ∷ 1 ∷ 0 ∷ [])) (0 ∷ 0 ∷ 1 ∷ 0 ∷ []) (0 ∷ 0 ∷ 0 ∷ 0 ∷ []))
  -- a turn that nobody before it accounts for
  pub gap : BreaksWaiter 3 (lined (marked three_opened (1 ∷ 0 ∷ []) (0 ∷ 0 ∷ 0 ∷ 0 ∷ [])) (0 ∷ 0 ∷ 1 ∷ 0 ∷ []) (0 ∷ 0 ∷ 1 ∷ 0 ∷ []))
  -- two at one place
  pub same_place : BreaksLine 2 (lined (marked three_opened (1 ∷ 0 ∷ []) (0 ∷ 0 ∷ 0 ∷ 0 ∷ [])) (0 ∷ 0 ∷ 1 ∷ 1 ∷ []) (0 ∷ 0 ∷ 0 ∷ 0 ∷ []))
  -- L7: "a state that has an arrived card holding a lock"
  pub arrived_holds : BreaksOnly 12 (marked plain (1 ∷ 0 ∷ []) (0 ∷ 1 ∷ 0 ∷ []))
  -- L9, "at most 32 jobs", here 4: all places full are in order, one job more is not, nor is a place behind the ring
  pub full_queue : is_in_order two_of_each (waiting_jobs plain 3 4) ≡ true
  pub too_many_jobs : BreaksOnly 13 (waiting_jobs plain 0 5)
  pub no_such_place : BreaksOnly 13 (waiting_jobs plain 4 1)
  -- "and their clocks keep the bound": a job knows an interval that 2 has not made
  pub job_entry : BreaksOnly 4 (known (waiting_jobs plain 0 1) (Job 0) (0 ∷ 1 ∷ []))
  -- a place that holds no job keeps it too
  pub free_place_entry : BreaksOnly 4 (known plain (Job 3) (0 ∷ 1 ∷ []))
  -- row 1 of the table of refusals stands above the others: kind 7, processor 9, object 99
  pub row_1 : answer two_of_each (marked plain (0 ∷ 0 ∷ []) (0 ∷ 1 ∷ 1 ∷ [])) (step_of 7 9 99 0) ≡ refused_with 1

pub each_condition_counts : OutOfOrder
unfolding two_of_each plain three_of_each three_opened two_opened answer
each_condition_counts =
    record {
      in_order = refl;
      size = record { out = refl; alone = refl };
      counts = record { out = refl; alone = refl };
      absent = record { out = refl; alone = refl };
      later_interval = record { out = refl; alone = refl };
      entry = record { out = refl; alone = refl };
      own_entry = record { out = refl; alone = refl };
      applied = record { out = refl; alone = refl };
      record_processor = record { out = refl; alone = refl };
      record_page = record { out = refl; alone = refl };
      record_diff = record { out = refl; alone = refl };
      interval_0 = record { out = refl; alone = refl };
      interval_not_made = record { out = refl; alone = refl };
      same_record = record { out = refl; alone = refl };
      room = record { out = refl; alone = refl };
      dirty_page = record { out = refl; alone = refl };
      lock_holder = record { out = refl; alone = refl };
      all_arrived_lem = record { out = refl; alone = refl };
      absent_waits = record { out = refl; alone = refl };
      absent_turn = record { out = refl; alone = refl };
      absent_adds = record { out = refl; alone = refl };
      line_in_order = refl;
      absent_lock = record { by_lines = record { out = refl; alone = refl }; alone = refl };
      free_lock = record { by_line = record { by_lines = record { out = refl; alone = refl }; alone = refl }; alone = refl };
      own_lock = record { by_line = record { by_lines = record { out = refl; alone = refl }; alone = refl }; alone = refl };
      arrived_waits = record { by_line = record { by_lines = record { out = refl; alone = refl }; alone = refl }; alone = refl };
      gap = record { by_line = record { by_lines = record { out = refl; alone = refl }; alone = refl }; alone = refl };
      same_place = record { by_lines = record { out = refl; alone = refl }; alone = refl };
      arrived_holds = record { out = refl; alone = refl };
      full_queue = refl;
      too_many_jobs = record { out = refl; alone = refl };
      no_such_place = record { out = refl; alone = refl };
      job_entry = record { out = refl; alone = refl };
      free_place_entry = record { out = refl; alone = refl };
      row_1 = refl;
    }
