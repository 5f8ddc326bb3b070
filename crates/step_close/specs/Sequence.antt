-- Document 02, L3: closing in the sequence of document 000, figure 2.9: the interval begins, then page by page, upwards, the write notice and the diff of
-- a dirty page are made and its mark is cleared. Assumes nothing.
use Rattle.std.specs.Prelude.{ℕ, zero, suc, cond}
use Rattle.lists.specs.Tables.{put_cell}
use Rattle.diff.specs.Format.{written}
use Rattle.rules.specs.State.{Pages, copy_of, twin_of, dirty_at, Record, appended, State, with_clocks, with_pages, with_records, own}
use Rattle.rules.specs.Close.{any_dirty, ticked}

-- the record of a dirty page of p in the interval that p's own entry counts last
unfoldable pub change_of : State → ℕ → ℕ → Record
change_of s p g = record { processor = p; interval = own s p; page = g; diff = written (twin_of s.pages p g) (copy_of s.pages p g) }

-- page g of p clean
unfoldable pub page_cleaned : Pages → ℕ → ℕ → Pages
page_cleaned m p g = record { copies = m.copies; twins = m.twins; dirty = put_cell 0 m.dirty p g 0 }

-- a state with that record, and the page clean
unfoldable pub change_made : State → ℕ → ℕ → State
change_made s p g = with_pages (with_records s (appended s.records (change_of s p g))) (page_cleaned s.pages p g)

-- with it if the page is dirty
unfoldable pub page_closed : State → ℕ → ℕ → State
page_closed s p g = cond (dirty_at s.pages p g) (change_made s p g) s

-- the pages below n closed, upwards
unfoldable pub pages_closed : State → ℕ → ℕ → State
pages_closed s p zero = s
pages_closed s p (suc g) = page_closed (pages_closed s p g) p g

-- all pages
unfoldable pub all_closed : State → ℕ → State
all_closed s p = pages_closed s p s.counts.pages

-- the interval begins if a page is dirty, and then all pages are closed; with nothing dirty nothing is done
unfoldable pub closed_in_sequence : State → ℕ → State
closed_in_sequence s p = cond (any_dirty s p) (all_closed (with_clocks s (ticked s p)) p) s
