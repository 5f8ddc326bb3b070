-- Document 01, "A state is **in order** when": each condition as a named part, in the document's order. Assumes nothing.
use Rattle.std.specs.Prelude.{ℕ, suc, ◌+◌, ◌*◌, Bool, true, cond, not, ◌&&◌, ◌||◌, List, [], ◌∷◌, length, get_or, leb, ltb, eqb}
use Rattle.lists.specs.Tables.{every, any, total}
use Rattle.limits.specs.Limits.{slot_head}
use Rattle.clock.specs.Clocks.{covered, entry_of}
use Rattle.diff.specs.Reading.{read_refusal}
use Rattle.rules.specs.State.{Limits, Counts, Holder, Processor, Lock, Barrier, Applied, Interval, Job, clock_of, copy_of, twin_of, dirty_at, Record, record_in, Marks, State, clock, own, holder, has_arrived}
use Rattle.rules.specs.Lines.{waits, waits_for, turn_of}

-- a present processor: "Cards numbered from 1; 0 means nobody"
unfoldable pub present : State → ℕ → Bool
present s p = leb 1 p && leb p s.counts.processors

-- a test over every processor, over every page of each, over every clock there is place for
unfoldable pub every_processor : Limits → (ℕ → Bool) → Bool
every_processor lim t = every lim.processors (λ k. t (suc k))

-- a test over every page of every processor
unfoldable pub every_page : Limits → (ℕ → ℕ → Bool) → Bool
every_page lim t = every_processor lim (λ p. every lim.pages (t p))

-- a test over every clock that there is place for
unfoldable pub every_holder : Limits → (Holder → Bool) → Bool
every_holder lim t =
    every_processor lim (λ p. t (Processor p))
    && every lim.locks (λ l. t (Lock l))
    && t Barrier
    && every_page lim (λ p g. t (Applied p g))
    && every_processor lim (λ p. every lim.intervals (λ k. t (Interval p (suc k))))
    && every lim.jobs (λ k. t (Job k))

-- ---- "its size is the fixed one"

-- the bytes of a record's slot: four numbers and the longest diff of a page
unfoldable pub slot_size : Limits → ℕ
slot_size lim = slot_head + 3 + 4 * lim.words

-- a table with an empty row for nobody and a row of a given length for each processor
unfoldable pub rows_sized : {A : Type 0} → Limits → ℕ → List (List A) → Bool
rows_sized lim n t =
    eqb (length t) (suc lim.processors) && eqb (length (get_or t 0 [])) 0 && every_processor lim (λ p. eqb (length (get_or t p [])) n)

-- the lengths of all tables and of their rows
unfoldable pub sized : Limits → State → Bool
sized lim s =
    rows_sized lim lim.processors s.clocks.processors
    && eqb (length s.clocks.locks) lim.locks
    && rows_sized lim lim.pages s.clocks.applied
    && rows_sized lim (suc lim.intervals) s.clocks.intervals
    && every_processor lim (λ p. eqb (length (clock_of s.clocks (Interval p 0))) 0)
    && every_holder lim (λ h. eqb (length (clock_of s.clocks h)) lim.processors)
    && rows_sized lim lim.pages s.pages.copies
    && every_page lim (λ p g. eqb (length (copy_of s.pages p g)) lim.words)
    && rows_sized lim lim.pages s.pages.twins
    && every_page lim (λ p g. eqb (length (twin_of s.pages p g)) lim.words)
    && rows_sized lim lim.pages s.pages.dirty
    && eqb (length s.records.slots) lim.records
    && every lim.records (λ i. eqb (length (get_or s.records.slots i [])) (slot_size lim))
    && leb s.records.standing lim.records
    && eqb (length s.marks.holders) lim.locks
    && eqb (length s.marks.arrived) (suc lim.processors)
    && eqb (length s.marks.awaited) (suc lim.processors)
    && eqb (length s.marks.turns) (suc lim.processors)
    && eqb (length s.shared.posted) lim.tallies
    && rows_sized lim lim.tallies s.shared.adds
    && eqb (length s.clocks.jobs) lim.jobs
    && eqb (length s.shared.values) lim.jobs

-- ---- "counts of cards, pages and locks are in range"

-- 1 to most
unfoldable pub in_range : ℕ → ℕ → Bool
in_range most n = leb 1 n && leb n most

-- each count is at least 1 and at most its limit
unfoldable pub counts_in_range : Limits → Counts → Bool
counts_in_range lim c = in_range lim.processors c.processors && in_range lim.pages c.pages && in_range lim.locks c.locks

-- ---- "entries, words, marks and holders for absent cards, pages and locks are 0"

-- whether a clock belongs to a present processor, page and lock
unfoldable pub present_holder : State → Holder → Bool
present_holder s (Processor p) = present s p
present_holder s (Lock l) = ltb l s.counts.locks
present_holder s Barrier = true
present_holder s (Applied p g) = present s p && ltb g s.counts.pages
present_holder s (Interval p i) = present s p
present_holder s (Job k) = true

-- every number of a list is 0
unfoldable pub all_zero : List ℕ → Bool
all_zero [] = true
all_zero (x ∷ l) = eqb x 0 && all_zero l

-- clocks of absent holders and entries of absent processors; words (of copies and of twins) and dirty marks of absent pages; arrived marks;
-- holders; the marks of waiting ("only present cards in lines"); the words that hold adds to tallies
unfoldable pub absent_zero : Limits → State → Bool
absent_zero lim s =
    every_holder lim (λ h. present_holder s h || all_zero (clock_of s.clocks h))
    && every_holder lim (λ h. every_processor lim (λ q. present s q || eqb (entry_of (clock_of s.clocks h) q) 0))
    && every_page lim (λ p g. present_holder s (Applied p g) || all_zero (copy_of s.pages p g))
    && every_page lim (λ p g. present_holder s (Applied p g) || all_zero (twin_of s.pages p g))
    && every_page lim (λ p g. present_holder s (Applied p g) || not (dirty_at s.pages p g))
    && every_processor lim (λ p. present s p || not (has_arrived s p))
    && every lim.locks (λ l. present_holder s (Lock l) || eqb (holder s l) 0)
    && every_processor lim (λ p. present s p || not (waits s.marks p))
    && every_processor lim (λ p. present s p || eqb (turn_of s.marks p) 0)
    && every_processor lim (λ p. present s p || all_zero (get_or s.shared.adds p []))

-- ---- "the clock kept for an interval above its card's own entry is zeros"

-- for every processor, the intervals above its own entry
unfoldable pub later_intervals_zero : Limits → State → Bool
later_intervals_zero lim s =
    every_processor lim (λ p. every lim.intervals (λ k. leb (suc k) (own s p) || all_zero (clock_of s.clocks (Interval p (suc k)))))

-- ---- "no clock entry exceeds that card's own entry in its own clock, at most 63"

-- for every clock and processor; and for every own entry
unfoldable pub entries_known : Limits → State → Bool
entries_known lim s =
    every_holder lim (λ h. every_processor lim (λ q. leb (entry_of (clock_of s.clocks h) q) (own s q)))
    && every_processor lim (λ p. leb (own s p) lim.intervals)

-- ---- "no applied clock exceeds its card's clock"

-- for every processor and page
unfoldable pub applied_known : Limits → State → Bool
applied_known lim s = every_page lim (λ p g. covered (clock s p) (clock_of s.clocks (Applied p g)))

-- ---- "each record has a present card and page, a legal change and an interval from 1 to its card's own entry, and no other record has
-- the same card, interval and page"

-- the record in slot i
unfoldable pub record_at : State → ℕ → Record
record_at s i = record_in (get_or s.records.slots i [])

-- the diff fits its slot and is legal
unfoldable pub diff_legal : Limits → State → ℕ → Bool
diff_legal lim s i =
    leb (slot_head + get_or (get_or s.records.slots i []) 3 0) (slot_size lim)
    && eqb (read_refusal lim.words (record_at s i).diff) 0

-- a present processor and page, and an interval that was made
unfoldable pub record_sound : Limits → State → Record → Bool
record_sound lim s r =
    present s r.processor
    && ltb r.page s.counts.pages
    && leb 1 r.interval
    && leb r.interval (own s r.processor)

-- the same card, interval and page
unfoldable pub same_notice : Record → Record → Bool
same_notice r q = eqb r.processor q.processor && eqb r.interval q.interval && eqb r.page q.page

-- for every standing record, and every earlier one
unfoldable pub records_sound : Limits → State → Bool
records_sound lim s =
    every s.records.standing (λ i. record_sound lim s (record_at s i) && diff_legal lim s i)
    && every s.records.standing (λ i. every i (λ j. not (same_notice (record_at s i) (record_at s j))))

-- ---- "records plus dirty pages, counted over all cards, are at most 128"

-- the dirty pages of all processors
unfoldable pub dirty_pages : State → ℕ
dirty_pages s = total s.counts.processors (λ k. total s.counts.pages (λ g. cond (dirty_at s.pages (suc k) g) 1 0))

-- the records that closing will make have their place
unfoldable pub room_kept : Limits → State → Bool
room_kept lim s = leb (s.records.standing + dirty_pages s) lim.records

-- ---- "a card with a dirty page has own entry at most 62"

-- for every dirty page
unfoldable pub dirty_have_interval : Limits → State → Bool
dirty_have_interval lim s = every_page lim (λ p g. not (dirty_at s.pages p g) || ltb (own s p) lim.intervals)

-- ---- "holders are present cards or 0"

-- for every lock
unfoldable pub holders_present : Limits → State → Bool
holders_present lim s = every lim.locks (λ l. eqb (holder s l) 0 || present s (holder s l))

-- ---- "not all cards have arrived"

-- one of the processors
unfoldable pub someone_missing : State → Bool
someone_missing s = any s.counts.processors (λ k. not (has_arrived s (suc k)))

-- ---- L1: "only present cards in lines, each card at most once in all, no line at a free lock, and no waiter that has arrived or holds the
-- lock it waits for". A card waits for one lock at most by the form of the state

-- the waiters of lock l that stand before p: those with a smaller turn
unfoldable pub stand_before : ℕ → Marks → ℕ → ℕ → ℕ
stand_before n m l p = total n (λ j. cond (waits_for m (suc j) l && ltb (turn_of m (suc j)) (turn_of m p)) 1 0)

-- if p waits for lock l, the lock is held, by another; p has not arrived; and its turn says how many stand before it
unfoldable pub waiter_sound : State → ℕ → ℕ → Bool
waiter_sound s p l =
    not (waits_for s.marks p l)
    || (not (eqb (holder s l) 0)
    && not (eqb (holder s l) p)
    && not (has_arrived s p)
    && eqb (turn_of s.marks p) (stand_before s.counts.processors s.marks l p))

-- no two wait for one lock with the same turn
unfoldable pub apart_in_line : State → ℕ → ℕ → Bool
apart_in_line s p q =
    not (waits s.marks p)
    || not (eqb (get_or s.marks.awaited p 0) (get_or s.marks.awaited q 0))
    || not (eqb (turn_of s.marks p) (turn_of s.marks q))

-- every waiter waits for a present lock, where it stands as its turn says, and no two stand at one place
unfoldable pub lines_sound : State → Bool
lines_sound s =
    every s.counts.processors (λ k. leb (get_or s.marks.awaited (suc k) 0) s.counts.locks)
    && every s.counts.processors (λ k. every s.counts.locks (waiter_sound s (suc k)))
    && every s.counts.processors (λ k. every k (λ j. apart_in_line s (suc k) (suc j)))

-- ---- L7: "A state that has an arrived card holding a lock is no longer in order"

-- for every lock
unfoldable pub holders_away : Limits → State → Bool
holders_away lim s = every lim.locks (λ l. eqb (holder s l) 0 || not (has_arrived s (holder s l)))

-- ---- L9: "A state in order has at most 32 jobs, and their clocks keep the bound of every clock": for the clocks see `entries_known`, which holds
-- of every place of the queue

-- the oldest job has one of its places, if it has any, and there are no more jobs than places
unfoldable pub queue_sound : Limits → State → Bool
queue_sound lim s = (eqb lim.jobs 0 || ltb s.marks.first lim.jobs) && leb s.marks.jobs lim.jobs

-- all of the above
unfoldable pub is_in_order : Limits → State → Bool
is_in_order lim s =
    sized lim s
    && counts_in_range lim s.counts
    && absent_zero lim s
    && later_intervals_zero lim s
    && entries_known lim s
    && applied_known lim s
    && records_sound lim s
    && room_kept lim s
    && dirty_have_interval lim s
    && holders_present lim s
    && someone_missing s
    && lines_sound s
    && holders_away lim s
    && queue_sound lim s
