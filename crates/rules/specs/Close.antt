-- Document 01, "Close", with document 02, L2: what ends an interval of a processor. Assumes nothing.
use Rattle.std.specs.Prelude.{ℕ, zero, suc, ◌+◌, Bool, cond, List, [], map, get_or}
use Rattle.lists.specs.Tables.{put, any}
use Rattle.diff.specs.Format.{written}
use Rattle.rules.specs.State.{Processor, Interval, Clocks, with_clock, Pages, copy_of, twin_of, dirty_at, Record, Records, appended, State, with_clocks, with_pages, with_records, clock, own}

-- Document 02, L2: "an interval is made for any dirty page"
unfoldable pub any_dirty : State → ℕ → Bool
any_dirty s p = any s.counts.pages (dirty_at s.pages p)

-- a clock with the entry of processor p one higher
unfoldable pub raised : List ℕ → ℕ → List ℕ
raised c zero = c
raised c (suc q) = put 0 c q (get_or c q 0 + 1)

-- "the card's own entry rises by 1, the interval keeps the card's clock"
unfoldable pub ticked : State → ℕ → Clocks
ticked s p =
    let c = raised (clock s p) p in
    with_clock (with_clock s.clocks (Processor p) c) (Interval p (own s p + 1)) c

-- the record of a dirty page; its diff is the one byte 0 where no word differs
unfoldable pub new_record : State → ℕ → ℕ → Record
new_record s p g = record { processor = p; interval = own s p + 1; page = g; diff = written (twin_of s.pages p g) (copy_of s.pages p g) }

-- Document 02, L2: "each dirty page now gets a record at closing", for the pages below n, upwards
unfoldable pub recorded : State → ℕ → ℕ → Records
recorded s p zero = s.records
recorded s p (suc g) = cond (dirty_at s.pages p g) (appended (recorded s p g) (new_record s p g)) (recorded s p g)

-- "the page becomes clean", for every page of a processor
unfoldable pub cleaned : Pages → ℕ → Pages
cleaned m p = record { copies = m.copies; twins = m.twins; dirty = put [] m.dirty p (map (λ mark. 0) (get_or m.dirty p [])) }

-- the three parts in this order. "Otherwise no interval is made"
unfoldable pub closed : State → ℕ → State
closed s p =
    let s₁ = with_pages s (cleaned s.pages p) in
    let s₂ = with_clocks s₁ (cond (any_dirty s p) (ticked s p) s.clocks) in
    with_records s₂ (recorded s p s.counts.pages)
