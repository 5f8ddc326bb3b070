-- Document 01, "Pending" and "Fetch": how the changed words of a page follow to a processor that touches it. Assumes nothing.
use Rattle.std.specs.Prelude.{ℕ, ◌+◌, Bool, true, false, cond, not, ◌&&◌, ◌||◌, List, [], ◌∷◌, length, get_or, leb, ltb, eqb}
use Rattle.std.proofs.Math.Option.{Option, none, some}
use Rattle.lists.specs.Tables.{put_cell, every, select, sort_by}
use Rattle.clock.specs.Clocks.{entry_of, sum_of}
use Rattle.diff.specs.Reading.{settings, words_set, applied}
use Rattle.rules.specs.State.{Limits, Processor, Applied, Interval, Clocks, clock_of, with_clock, Pages, copy_of, Record, State, with_clocks, with_pages, clock, standing}

-- "records of g by another card q, with interval above q's entry in the applied clock and not above q's entry in p's clock"
unfoldable pub is_pending : Clocks → ℕ → ℕ → Record → Bool
is_pending c p g r =
    eqb r.page g
    && not (eqb r.processor p)
    && ltb (entry_of (clock_of c (Applied p g)) r.processor) r.interval
    && leb r.interval (entry_of (clock_of c (Processor p)) r.processor)

-- "the sum of its interval's clock"
unfoldable pub sum_at : Clocks → Record → ℕ
sum_at c r = sum_of (clock_of c (Interval r.processor r.interval))

-- "the smallest sum of its interval's clock (then smaller card, then smaller interval)"
unfoldable pub earlier : Clocks → Record → Record → Bool
earlier c r q =
    cond (eqb (sum_at c r) (sum_at c q))
    (cond (eqb r.processor q.processor) (ltb r.interval q.interval) (ltb r.processor q.processor))
    (ltb (sum_at c r) (sum_at c q))

-- the pending records in the order in which they are applied
unfoldable pub due : State → ℕ → ℕ → List Record
due s p g = sort_by (earlier s.clocks) (select (is_pending s.clocks p g) (standing s))

-- records applied to a page of w words, "each once"
unfoldable pub applied_all : ℕ → List Record → List ℕ → List ℕ
applied_all w [] page = page
applied_all w (r ∷ rs) page = applied_all w rs (applied w r.diff page)

-- ---- L5: "a record each of whose words is set again by later records of that fetch is skipped"

-- whether a setting is one
unfoldable pub is_set : Option ℕ → Bool
is_set none = false
is_set (some v) = true

-- whether one of the records sets the word at offset o of a page of w words
unfoldable pub any_sets : ℕ → ℕ → List Record → Bool
any_sets w o [] = false
any_sets w o (r ∷ rs) = is_set (get_or (settings w r.diff) o none) || any_sets w o rs

-- whether the later records rs set each word that a record sets. "a record with no words" is one of these
unfoldable pub replaced : ℕ → Record → List Record → Bool
replaced w r rs = every w (λ o. not (is_set (get_or (settings w r.diff) o none)) || any_sets w o rs)

-- those that are not skipped, of records in the order of a fetch
unfoldable pub unreplaced : ℕ → List Record → List Record
unreplaced w [] = []
unreplaced w (r ∷ rs) = cond (replaced w r rs) (unreplaced w rs) (r ∷ unreplaced w rs)

-- those that are
unfoldable pub skipped : ℕ → List Record → List Record
skipped w [] = []
skipped w (r ∷ rs) = cond (replaced w r rs) (r ∷ skipped w rs) (skipped w rs)

-- ---- L6: "the number of words it set"

-- how many words records set when each of them is applied: all its words, also those that a later one sets again
unfoldable pub words_in : List Record → ℕ
words_in [] = 0
words_in (r ∷ rs) = words_set r.diff + words_in rs

-- ---- the fetch

-- one copy replaced
unfoldable pub with_copy : Pages → ℕ → ℕ → List ℕ → Pages
with_copy m p g page = record { copies = put_cell [] m.copies p g page; twins = m.twins; dirty = m.dirty }

-- the records that a fetch applies
unfoldable pub applying : Limits → State → ℕ → ℕ → List Record
applying lim s p g = unreplaced lim.words (due s p g)

-- "applied to the copy alone, until no record is pending, each once; then the applied clock becomes p's clock". L5: without those that are skipped
unfoldable pub fetched : Limits → State → ℕ → ℕ → State
fetched lim s p g =
    let s₁ = with_pages s (with_copy s.pages p g (applied_all lim.words (applying lim s p g) (copy_of s.pages p g))) in
    with_clocks s₁ (with_clock s.clocks (Applied p g) (clock s p))

-- "The count is the records applied"
unfoldable pub fetch_count : Limits → State → ℕ → ℕ → ℕ
fetch_count lim s p g = length (applying lim s p g)

-- how many words they set
unfoldable pub fetch_words : Limits → State → ℕ → ℕ → ℕ
fetch_words lim s p g = words_in (applying lim s p g)

-- and how many were skipped
unfoldable pub fetch_skipped : Limits → State → ℕ → ℕ → ℕ
fetch_skipped lim s p g = length (skipped lim.words (due s p g))
