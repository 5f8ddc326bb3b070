-- What the parts of closing an interval do in lent memory, whatever the areas hold that the part does not touch. Assumes nothing.
use Rattle.std.specs.Prelude.{ℕ, ◌≡◌, Bool, List, [], ◌∷◌, length}
use Rattle.lists.specs.Tables.{any}
use Rattle.limits.specs.Limits.{page_width}
use Rattle.diff.specs.Format.{written}
use Rattle.rules.specs.State.{mainframe, dirty_at, with_clocks}
use Rattle.rules.specs.Close.{ticked}
use Rattle.layout.specs.Layout.{row_of}
use Rattle.layout.specs.Areas.{copy_row, twin_row, state_in}
-- the parts in the words of the rules
unfoldable pub use Rattle.step_close.specs.Sequence.{change_of, page_cleaned, change_made, page_closed, pages_closed, all_closed}

-- ---- bytes of a slot

-- the write notice: processor, interval and page
unfoldable pub notice_bytes : ℕ → ℕ → ℕ → List ℕ
notice_bytes p i g = p ∷ i ∷ g ∷ []

-- the diff of two pages behind its length
unfoldable pub counted_bytes : List ℕ → List ℕ → List ℕ
counted_bytes old new = length (written old new) ∷ written old new

-- the same for the twin and the copy in the area of the words
unfoldable pub diff_bytes : ℕ → ℕ → List ℕ → List ℕ
diff_bytes p g w = counted_bytes (row_of page_width w (twin_row mainframe p g)) (row_of page_width w (copy_row mainframe p g))

-- ---- answers

-- b says whether any page of p is dirty, where m is the area of the marks
pub record AnyDirty (m : List ℕ) (p : ℕ) (b : Bool) : Type 0 where
  pub is : (c w r : List ℕ) → b ≡ any mainframe.pages (dirty_at (state_in mainframe c w r m).pages p)

-- from the area c of the clocks to c' the clocks became those of the interval that p ends
pub record Ticked (c c' : List ℕ) (p : ℕ) : Type 0 where
  pub is : (w r m : List ℕ) → state_in mainframe c' w r m ≡ with_clocks (state_in mainframe c w r m) (ticked (state_in mainframe c w r m) p)
  pub as_long : length c' ≡ length c
