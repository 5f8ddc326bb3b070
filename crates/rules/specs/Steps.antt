-- Document 01, "Steps": what each kind of step does when it is accepted. Assumes nothing.
use Rattle.std.specs.Prelude.{ℕ, zero, suc, ◌+◌, ◌-◌, ◌/◌, ◌%◌, Bool, cond, not, [], map, get_or, set, eqb, ltb}
use Rattle.lists.specs.Tables.{put, put_cell, every}
use Rattle.limits.specs.Limits.{word_values}
use Rattle.clock.specs.Clocks.{joined}
use Rattle.rules.specs.State.{Limits, Holder, Processor, Lock, Barrier, Job, Clocks, clock_of, with_clock, cleared, Pages, copy_of, dirty_at, Marks, with_arrived, with_wanted, with_queue, job_value, with_job_value, State, with_clocks, with_pages, with_records, with_marks, with_shared, holder, has_arrived}
use Rattle.rules.specs.Lines.{first_in_line, lock_asked, lock_handed}
use Rattle.rules.specs.Close.{closed}
use Rattle.rules.specs.Fetch.{with_copy, fetched, fetch_count, fetch_words}
use Rattle.rules.specs.Tallies.{tally_added, tally_total, posting}

-- what an accepted step leaves and answers: a value, the count of the records applied, and L6's number of words that they set
pub record Effect : Type 0 where
  pub after : State
  pub value : ℕ
  pub count : ℕ
  pub words : ℕ

-- "Only a read has a value other than 0", with L4 a read of a tally too and with L9 a dequeue. "Where no count is named it is 0"
abbrev pub silent : State → Effect
silent s = record { after = s; value = 0; count = 0; words = 0 }

-- "word w lies on page w / 32"
unfoldable pub page_of_word : Limits → ℕ → ℕ
page_of_word lim w = w / lim.words

-- and at offset w % 32 there
unfoldable pub offset_of_word : Limits → ℕ → ℕ
offset_of_word lim w = w % lim.words

-- ---- 1. "Read: fetch, then answer the word"

-- the word in the copy of processor p
unfoldable pub word_of : Limits → State → ℕ → ℕ → ℕ
word_of lim s p w = get_or (copy_of s.pages p (page_of_word lim w)) (offset_of_word lim w) 0

-- the word after the fetch
unfoldable pub read : Limits → State → ℕ → ℕ → Effect
read lim s p w =
    let s₁ = fetched lim s p (page_of_word lim w) in
    record { after = s₁; value = word_of lim s₁ p w; count = fetch_count lim s p (page_of_word lim w); words = fetch_words lim s p (page_of_word lim w) }

-- ---- 2. "Write: fetch; if the page is clean, take the twin; store"

-- "take the twin": the page is dirty then
unfoldable pub new_twin : Pages → ℕ → ℕ → Pages
new_twin m p g = record { copies = m.copies; twins = put_cell [] m.twins p g (copy_of m p g); dirty = put_cell 0 m.dirty p g 1 }

-- "if the page is clean, take the twin"
unfoldable pub twin_taken : Pages → ℕ → ℕ → Pages
twin_taken m p g = cond (dirty_at m p g) m (new_twin m p g)

-- a word has 32 bits
unfoldable pub stored : Limits → Pages → ℕ → ℕ → ℕ → Pages
stored lim m p w v =
    with_copy m p (page_of_word lim w) (set (copy_of m p (page_of_word lim w)) (offset_of_word lim w) (v % word_values))

-- fetch, twin and store in this order
unfoldable pub write : Limits → State → ℕ → ℕ → ℕ → Effect
write lim s p w v =
    let s₁ = fetched lim s p (page_of_word lim w) in
    let s₂ = with_pages s₁ (stored lim (twin_taken s₁.pages p (page_of_word lim w)) p w v) in
    record { after = s₂; value = 0; count = fetch_count lim s p (page_of_word lim w); words = fetch_words lim s p (page_of_word lim w) }

-- ---- 3. "Acquire: close; the card becomes holder; its clock joins the lock's". L1: "An acquire of a lock held by another card is now accepted:
-- the asker's interval closes and the card waits"

-- "A clock that joins another becomes the join of the two; the other keeps its entries"
unfoldable pub learned : Clocks → Holder → Holder → Clocks
learned c to from = with_clock c to (joined (clock_of c to) (clock_of c from))

-- close; the card becomes holder and its clock joins the lock's, or it waits and learns nothing yet
unfoldable pub acquire : State → ℕ → ℕ → State
acquire s p l =
    let s₁ = closed s p in
    let s₂ = with_marks s₁ (lock_asked s₁.counts.processors s₁.marks l p) in
    with_clocks s₂ (cond (eqb (holder s₁ l) 0) (learned s₁.clocks (Processor p) (Lock l)) s₁.clocks)

-- ---- 4. "Release: close; holder becomes 0; the lock's clock becomes the card's". L1: "At a release the lock goes to the longest waiter, which
-- becomes holder and learns the lock's clock in that same step"

-- the lock's clock becomes the card's
unfoldable pub lock_told : Clocks → ℕ → ℕ → Clocks
lock_told c p l = with_clock c (Lock l) (clock_of c (Processor p))

-- and q, if it is not nobody, learns the lock's clock
unfoldable pub waiter_told : Clocks → ℕ → ℕ → Clocks
waiter_told c q l = cond (eqb q 0) c (learned c (Processor q) (Lock l))

-- close; the lock goes to the longest waiter or to nobody; the lock's clock becomes the card's, and the new holder learns it
unfoldable pub release : State → ℕ → ℕ → State
release s p l =
    let s₁ = closed s p in
    let s₂ = with_marks s₁ (lock_handed s₁.counts.processors s₁.marks l) in
    with_clocks s₂ (waiter_told (lock_told s₁.clocks p l) (first_in_line s₁.counts.processors s₁.marks l) l)

-- ---- 5. Arrive

-- "close; the barrier's clock joins the card's; mark the card"
unfoldable pub at_barrier : State → ℕ → State
at_barrier s p =
    let s₁ = closed s p in
    let s₂ = with_clocks s₁ (learned s₁.clocks Barrier (Processor p)) in
    with_marks s₂ (with_arrived s₁.marks (put 0 s₁.marks.arrived p 1))

-- "When the last card arrives"
unfoldable pub all_arrived : State → Bool
all_arrived s = every s.counts.processors (λ k. has_arrived s (suc k))

-- "each card's clock joins the barrier's", for the first n processors
unfoldable pub all_learned : Clocks → ℕ → Clocks
all_learned c zero = c
all_learned c (suc k) = learned (all_learned c k) (Processor (suc k)) Barrier

-- "each card's clock joins the barrier's, which returns to zeros, and marks clear"; L4: the adds of the round are posted
unfoldable pub round_done : State → State
round_done s =
    let s₁ = with_clocks s (with_clock (all_learned s.clocks s.counts.processors) Barrier (cleared s.clocks.barrier)) in
    let s₂ = with_marks s₁ (with_arrived s.marks (map (λ mark. 0) s.marks.arrived)) in
    with_shared s₂ (posting s.shared s.counts.processors)

-- fetches of several pages, and the sums of their counts and words
pub record Fetches : Type 0 where
  pub after : State
  pub count : ℕ
  pub words : ℕ

-- no fetch
abbrev pub none_fetched : State → Fetches
none_fetched s = record { after = s; count = 0; words = 0 }

-- one processor "fetches each page upwards", for the pages below n
unfoldable pub pages_fetched : Limits → State → ℕ → ℕ → Fetches
pages_fetched lim s p zero = none_fetched s
pages_fetched lim s p (suc g) =
    let f = pages_fetched lim s p g in
    record { after = fetched lim f.after p g; count = f.count + fetch_count lim f.after p g; words = f.words + fetch_words lim f.after p g }

-- "each card upwards", for the first n processors
unfoldable pub all_fetched : Limits → State → ℕ → Fetches
all_fetched lim s zero = none_fetched s
all_fetched lim s (suc k) =
    let f = all_fetched lim s k in
    let h = pages_fetched lim f.after (suc k) s.counts.pages in
    record { after = h.after; count = f.count + h.count; words = f.words + h.words }

-- "all clocks (of cards, applied, of locks, of intervals) become zeros"; L9: "A collecting round sets the clocks of queued jobs to zeros"
unfoldable pub all_cleared : Clocks → Clocks
all_cleared c =
    record {
      processors = map cleared c.processors;
      locks = map cleared c.locks;
      barrier = cleared c.barrier;
      applied = map (map cleared) c.applied;
      intervals = map (map cleared) c.intervals;
      jobs = map cleared c.jobs;
    }

-- "then records go, all clocks become zeros, and the wish clears"
unfoldable pub emptied : State → State
emptied s =
    let s₁ = with_records s (record { standing = 0; slots = s.records.slots }) in
    let s₂ = with_clocks s₁ (all_cleared s.clocks) in
    with_marks s₂ (with_wanted s.marks 0)

-- garbage collection (document 01: collection): "each card upwards fetches each page upwards; then records go"
unfoldable pub collected : Limits → State → Fetches
collected lim s =
    let f = all_fetched lim s s.counts.processors in
    record { after = emptied f.after; count = f.count; words = f.words }

-- "If collection is wanted"
unfoldable pub wants_collection : State → Bool
wants_collection s = not (eqb s.marks.wanted 0)

-- "When the last card arrives"
unfoldable pub arrive : Limits → State → ℕ → Fetches
arrive lim s p =
    let s₁ = at_barrier s p in
    cond (all_arrived s₁)
    (cond (wants_collection s₁) (collected lim (round_done s₁)) (none_fetched (round_done s₁)))
    (none_fetched s₁)

-- ---- 6. "Want collection: set the wish; setting it again changes nothing"

-- the wish is set, and stays as it is if it was
unfoldable pub want : State → State
want s = with_marks s (with_wanted s.marks (cond (wants_collection s) s.marks.wanted 1))

-- ---- 8 and 9: tallies (L4). "Tallies order nothing among ordinary words": nothing is closed and nothing fetched

-- an add: kept with its processor until the round completes
abbrev pub tally_add : State → ℕ → ℕ → ℕ → State
tally_add s p t v = with_shared s (tally_added s.shared p t v)

-- a read: it changes nothing, and brings nothing
abbrev pub tally_read : State → ℕ → ℕ → Effect
tally_read s p t = record { after = s; value = tally_total s.shared p t; count = 0; words = 0 }

-- ---- 10 and 11: the queue (L9). Its places are a ring: "space is used again after each removal"

-- the place behind another: behind the last one the first
unfoldable pub place_behind : Limits → ℕ → ℕ
place_behind lim k = cond (eqb (suc k) lim.jobs) 0 (suc k)

-- the place of the job that has k others before it: k places behind the oldest job's
abbrev pub place_at : Limits → State → ℕ → ℕ
place_at lim s k = let x = s.marks.first + k in cond (ltb x lim.jobs) x (x - lim.jobs)

-- the place for the next job: all that wait are before it
unfoldable pub free_place : Limits → State → ℕ
free_place lim s = place_at lim s s.marks.jobs

-- one job more, behind the others
abbrev pub with_new_job : Marks → Marks
with_new_job m = with_queue m m.first (m.jobs + 1)

-- the oldest job removed: the next one is the oldest
abbrev pub without_oldest : Limits → Marks → Marks
without_oldest lim m = with_queue m (place_behind lim m.first) (m.jobs - 1)

-- "Kind 10 closes the card's interval and adds the value with the card's clock"
unfoldable pub enqueue : Limits → State → ℕ → ℕ → State
enqueue lim s p v =
    let s₁ = closed s p in
    let k = free_place lim s₁ in
    let s₂ = with_shared s₁ (with_job_value s₁.shared k (v % word_values)) in
    let s₃ = with_clocks s₂ (with_clock s₁.clocks (Job k) (clock_of s₁.clocks (Processor p))) in
    with_marks s₃ (with_new_job s₁.marks)

-- "kind 11 closes, removes the oldest job, learns its clock and answers its value"
unfoldable pub dequeue : Limits → State → ℕ → Effect
dequeue lim s p =
    let s₁ = closed s p in
    let k = s₁.marks.first in
    let s₂ = with_marks s₁ (without_oldest lim s₁.marks) in
    record { after = with_clocks s₂ (learned s₁.clocks (Processor p) (Job k)); value = job_value s₁.shared k; count = 0; words = 0 }
