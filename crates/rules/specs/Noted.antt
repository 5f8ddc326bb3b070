-- Document 02, L2: what a closing notes, and what refusals look at: everything of a state but what its words, twins and diffs hold, and of a step
-- everything but the value that it stores. Assumes nothing.
use Rattle.std.specs.Prelude.{ℕ, zero, suc, ◌+◌, ◌≡◌, cond, List, [], ◌∷◌, ◌++◌}
use Rattle.rules.specs.State.{Counts, Clocks, Marks, copy_of, twin_of, dirty_at, Record, State, own, standing}
use Rattle.rules.specs.InOrder.{dirty_pages}
use Rattle.rules.specs.Close.{any_dirty, new_record, closed}
use Rattle.rules.specs.Refusals.{Step, uses_value, Answer}

-- ---- what a closing notes

-- the records that closing makes for the pages below n, upwards
unfoldable pub new_records : State → ℕ → ℕ → List Record
new_records s p zero = []
new_records s p (suc g) = cond (dirty_at s.pages p g) (new_records s p g ++ new_record s p g ∷ []) (new_records s p g)

-- what holds of a closing
pub record ClosingNotes (s : State) (p : ℕ) : Type 0 where
  -- "each dirty page now gets a record at closing", ..
  pub records : standing (closed s p) ≡ standing s ++ new_records s p s.counts.pages
  -- .. "with the change that is the single byte 0 where nothing differs", ..
  pub equal : (g : ℕ) → twin_of s.pages p g ≡ copy_of s.pages p g → (new_record s p g).diff ≡ 0 ∷ []
  -- .. "and an interval is made for any dirty page", and for nothing else
  pub interval : own (closed s p) p ≡ own s p + cond (any_dirty s p) 1 0
  -- a record for each page that was dirty and is clean: "uses up numbers and records"
  pub room : (closed s p).records.standing + dirty_pages (closed s p) ≡ s.records.standing + dirty_pages s

-- ---- what refusals look at

-- a state without what words, twins and diffs hold: of the pages which are dirty, of the records how many stand
pub record Outline : Type 0 where
  pub counts : Counts
  pub clocks : Clocks
  pub dirty : List (List ℕ)
  pub standing : ℕ
  pub marks : Marks

-- that of a state
unfoldable pub outline : State → Outline
outline s = record { counts = s.counts; clocks = s.clocks; dirty = s.pages.dirty; standing = s.records.standing; marks = s.marks }

-- a step without the value that its kind uses: what it stores, adds to a tally or enqueues
unfoldable pub without_value : Step → Step
without_value t = record { kind = t.kind; processor = t.processor; object = t.object; value = cond (uses_value t.kind) 0 t.value }

-- the refusals of a list of answers
unfoldable pub refusals_of : List Answer → List ℕ
refusals_of [] = []
refusals_of (a ∷ answered) = a.refusal ∷ refusals_of answered
