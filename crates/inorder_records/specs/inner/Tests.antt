-- The conditions of a state in order on its records, as tests on the slots of their area r. Assumes nothing.
use Rattle.std.specs.Prelude.{ℕ, ◌+◌, ◌-◌, ◌*◌, Bool, not, ◌&&◌, List, get_or, leb, ltb, eqb}
use Rattle.lists.specs.Tables.{every}
use Rattle.limits.specs.Limits.{interval_limit, page_limit, page_width}
use Rattle.limits.specs.inner.Sizes.{diff_limit, notice_row}
use Rattle.diff.specs.Reading.{read_refusal}
use Rattle.layout.specs.inner.Marks.{slot_processor, slot_interval, slot_page, slot_length, slot_diff}

-- an own entry is at most 63
unfoldable pub own_fits : List ℕ → ℕ → Bool
own_fits own k = leb (get_or own k 0) interval_limit

-- a present processor and page, and an interval that was made
unfoldable pub notice_holds : List ℕ → ℕ → ℕ → ℕ → ℕ → ℕ → Bool
notice_holds own processors pages p n g = leb 1 p && (leb p processors && (ltb g pages && (leb 1 n && leb n (get_or own (p - 1) 0))))

-- the diff of the i-th record fits its slot and is legal
unfoldable pub diff_holds : List ℕ → ℕ → Bool
diff_holds r i = leb (slot_length r i) diff_limit && eqb (read_refusal page_width (slot_diff r i)) 0

-- the i-th record
unfoldable pub record_holds : List ℕ → List ℕ → ℕ → ℕ → ℕ → Bool
record_holds own r processors pages i =
    notice_holds own processors pages (slot_processor r i) (slot_interval r i) (slot_page r i) && diff_holds r i

-- records i and j noticesDiffer in processor, interval or page
unfoldable pub notices_differ : List ℕ → ℕ → ℕ → Bool
notices_differ r i j =
    not (eqb (slot_processor r i) (slot_processor r j)
    && eqb (slot_interval r i) (slot_interval r j)
    && eqb (slot_page r i) (slot_page r j))

-- record i differs from every earlier one
unfoldable pub unlike : List ℕ → ℕ → Bool
unlike r i = every i (notices_differ r i)

-- the place of record i's processor, interval and page in a table that has one for each
unfoldable pub notice_place : List ℕ → ℕ → ℕ
notice_place r i = notice_row * slot_processor r i + page_limit * slot_interval r i + slot_page r i

-- all records that stand
unfoldable pub records_hold_with : List ℕ → List ℕ → ℕ → ℕ → ℕ → Bool
records_hold_with own r processors pages standing = every standing (record_holds own r processors pages) && every standing (unlike r)
