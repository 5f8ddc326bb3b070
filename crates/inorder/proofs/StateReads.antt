-- What the areas hold, place by place: each entry, word and mark of the state that lent memory holds. Assumes nothing.
use Prim.Native.Nat.{ℕ, zero, suc, ◌+◌, ◌-◌, ◌*◌, ◌≤◌, ◌<◌}
use native.Mathlib.Omega.{arith}
use mathlib.Core.Path.{◌≡◌, refl, sym, ap, ◌∙◌}
use mathlib.Core.Bool.{Bool, true, false, cond, not, ◌&&◌}
use mathlib.Core.List.{List, []}
use lib.ListN.{get_or, take, drop}
use lib.Dec.{leb, ltb, eqb}
use borrow.Author.Tests.{ltb-true, ltb-false, le-ltb, le-leb, lt-leb}
use Rattle.lists.specs.Tables.{total}
use Rattle.lists.proofs.Tables.{total_same}
use Rattle.limits.specs.Limits.{lock_limit, page_limit, page_width, processor_limit, record_limit}
use Rattle.limits.specs.Places.{first_arrived}
use Rattle.limits.specs.inner.Sizes.{clock_width, copy_limit, diff_limit, first_awaited, first_dirty, first_holder, first_turn, slot_width}
use Rattle.clock.specs.Clocks.{entry_of}
use Rattle.rules.specs.InOrder.{present, present_holder, record_at, same_notice, dirty_pages}
use Rattle.rules.specs.Lines.{turn_of}
use Rattle.rules.specs.State.{mainframe, Holder, Processor, Lock, Applied, clock_of, copy_of, twin_of, dirty_at, Record, record_in, clock, own, holder, has_arrived}
use Rattle.rules.proofs.inorder.Facts.{Within}
use Rattle.rules.proofs.state.Waiters.{awaits}
use Rattle.layout.specs.Areas.{clock_row, copy_row, twin_row, arrived_place, holder_place, dirty_place, awaited_place, turn_place, state_in}
use Rattle.layout.specs.Layout.{row_of}
use Rattle.layout.specs.inner.Marks.{lock_count, page_count, processor_count, slot_interval, slot_length, slot_page, slot_processor}
use Rattle.layout.proofs.ClockLaws.{clock_read}
use Rattle.layout.proofs.MarkLaws.{arrived_read, holder_read, awaited_read, turn_read}
use Rattle.layout.proofs.PageLaws.{copy_read, twin_read, dirty_read}
use Rattle.layout.proofs.RowLaws.{get_row}
use Rattle.layout.proofs.SlotLaws.{slot_read, slot_byte, record_read}
use Rattle.inorder_marks.specs.inner.Tests.{zero_at, pages_of, dirty_count, dirty_of, awaited_byte, turn_byte}
use Rattle.inorder_records.specs.inner.Tests.{notices_differ}
use Rattle.inorder.specs.inner.Tests.{own_entries}
use Rattle.inorder.proofs.PlaceFacts.{own_entry}

-- the entry of a holder's clock for a processor
pub entry_read : (c w r m : List ℕ) (h : Holder) (q : ℕ) → Within mainframe h → q < processor_limit
    → entry_of (clock_of (state_in mainframe c w r m).clocks h) (suc q) ≡ get_or c (clock_width * clock_row mainframe h + q) 0
unfolding state_in entry_of
entry_read c w r m h q t b = ap (λ (row : List ℕ). get_or row q 0) (clock_read c h t) ∙ get_row clock_width c (clock_row mainframe h) q 0 b

-- a processor's own entry
pub own_read : (c w r m : List ℕ) (k : ℕ) → k < processor_limit → own (state_in mainframe c w r m) (suc k) ≡ get_or (own_entries c) k 0
unfolding own clock clock_row Within mainframe
own_read c w r m k b = entry_read c w r m (Processor (suc k)) k (omega arith, b) b ∙ sym (own_entry c k b)

-- a word of a page that is a row of words
row_word : (w page : List ℕ) (row at o : ℕ) → page ≡ row_of page_width w row → row ≡ at → o < page_width → get_or page o 0 ≡ get_or w (page_width * at + o) 0
row_word w page row at o e f d = ap (λ (l : List ℕ). get_or l o 0) (e ∙ ap (λ (i : ℕ). row_of page_width w i) f) ∙ get_row page_width w at o 0 d

-- a word of a copy: their rows are the first
pub copy_word_read : (c w r m : List ℕ) (k g o : ℕ) → k < processor_limit → g < page_limit → o < page_width
    → get_or (copy_of (state_in mainframe c w r m).pages (suc k) g) o 0 ≡ get_or w (page_width * (0 + page_limit * k + g) + o) 0
unfolding state_in copy_row mainframe
copy_word_read c w r m k g o a b d = row_word w _ (copy_row mainframe (suc k) g) (0 + page_limit * k + g) o (copy_read w m (suc k) g (omega arith) a b) (omega arith) d

-- of a twin: theirs are behind
pub twin_word_read : (c w r m : List ℕ) (k g o : ℕ) → k < processor_limit → g < page_limit → o < page_width
    → get_or (twin_of (state_in mainframe c w r m).pages (suc k) g) o 0 ≡ get_or w (page_width * (copy_limit + page_limit * k + g) + o) 0
unfolding state_in twin_row copy_row mainframe
twin_word_read c w r m k g o a b d = row_word w _ (twin_row mainframe (suc k) g) (copy_limit + page_limit * k + g) o (twin_read w m (suc k) g (omega arith) a b) (omega arith) d

-- a dirty mark
pub dirty_mark_read : (c w r m : List ℕ) (k g : ℕ) → k < processor_limit → g < page_limit → dirty_at (state_in mainframe c w r m).pages (suc k) g ≡ not (zero_at m (first_dirty + page_limit * k) g)
unfolding state_in dirty_at zero_at dirty_place mainframe
dirty_mark_read c w r m k g a b =
    let place : dirty_place mainframe (suc k) g ≡ first_dirty + page_limit * k + g = omega arith in
    ap (λ (x : ℕ). not (eqb x 0)) (dirty_read w m (suc k) g (omega arith) a b ∙ ap (λ (i : ℕ). get_or m i 0) place)

-- an arrived mark
pub arrived_mark_read : (c w r m : List ℕ) (k : ℕ) → k < processor_limit → has_arrived (state_in mainframe c w r m) (suc k) ≡ not (zero_at m first_arrived k)
unfolding has_arrived zero_at arrived_place mainframe
arrived_mark_read c w r m k a =
    let place : arrived_place mainframe (suc k) ≡ first_arrived + k = omega arith in
    ap (λ (x : ℕ). not (eqb x 0)) (arrived_read c w r m (suc k) (omega arith) a ∙ ap (λ (i : ℕ). get_or m i 0) place)

-- the holder of a lock
pub holder_mark_read : (c w r m : List ℕ) (l : ℕ) → l < lock_limit → holder (state_in mainframe c w r m) l ≡ get_or m (first_holder + l) 0
unfolding holder holder_place mainframe
holder_mark_read c w r m l a =
    let place : holder_place mainframe l ≡ first_holder + l = omega arith in
    holder_read c w r m l a ∙ ap (λ (i : ℕ). get_or m i 0) place

-- the lock that a processor waits for, plus 1
pub awaited_mark_read : (c w r m : List ℕ) (k : ℕ) → k < processor_limit → awaits (state_in mainframe c w r m).marks k ≡ awaited_byte m k
unfolding awaited_place mainframe
awaited_mark_read c w r m k a =
    let place : awaited_place mainframe (suc k) ≡ first_awaited + k = omega arith in
    awaited_read c w r m (suc k) (omega arith) a ∙ ap (λ (i : ℕ). get_or m i 0) place

-- its turn
pub turn_mark_read : (c w r m : List ℕ) (k : ℕ) → k < processor_limit → turn_of (state_in mainframe c w r m).marks (suc k) ≡ turn_byte m k
unfolding turn_of turn_place mainframe
turn_mark_read c w r m k a =
    let place : turn_place mainframe (suc k) ≡ first_turn + k = omega arith in
    turn_read c w r m (suc k) (omega arith) a ∙ ap (λ (i : ℕ). get_or m i 0) place

-- the dirty pages of all processors
pub dirty_pages_read : (c w r m : List ℕ) → processor_count m ≤ processor_limit → page_count m ≤ page_limit → dirty_pages (state_in mainframe c w r m) ≡ total (processor_count m) (dirty_of m (page_count m))
unfolding state_in dirty_pages dirty_of dirty_count
dirty_pages_read c w r m a b =
    total_same (processor_count m) (λ (k : ℕ). total (page_count m) (λ (g : ℕ). cond (dirty_at (state_in mainframe c w r m).pages (suc k) g) 1 0)) (dirty_of m (page_count m))
    (λ k h. total_same (page_count m) (λ (g : ℕ). cond (dirty_at (state_in mainframe c w r m).pages (suc k) g) 1 0) (dirty_count m (first_dirty + page_limit * k))
    (λ g d. ap (λ (x : Bool). cond x 1 0) (dirty_mark_read c w r m k g (omega arith) (omega arith))))

-- ---- the numbers of a record

pub record_processor : (c w r m : List ℕ) (i : ℕ) → i < record_limit → (record_at (state_in mainframe c w r m) i).processor ≡ slot_processor r i
unfolding record_at record_in state_in
record_processor c w r m i b =
    let first : slot_width * i + 0 ≡ slot_width * i = omega arith in
    ap (λ (slot : List ℕ). get_or slot 0 0) (slot_read r m i b) ∙ slot_byte r i 0 (omega arith) ∙ ap (λ (j : ℕ). get_or r j 0) first

pub record_interval : (c w r m : List ℕ) (i : ℕ) → i < record_limit → (record_at (state_in mainframe c w r m) i).interval ≡ slot_interval r i
unfolding record_at record_in state_in
record_interval c w r m i b = ap (λ (slot : List ℕ). get_or slot 1 0) (slot_read r m i b) ∙ slot_byte r i 1 (omega arith)

pub record_page : (c w r m : List ℕ) (i : ℕ) → i < record_limit → (record_at (state_in mainframe c w r m) i).page ≡ slot_page r i
unfolding record_at record_in state_in
record_page c w r m i b = ap (λ (slot : List ℕ). get_or slot 2 0) (slot_read r m i b) ∙ slot_byte r i 2 (omega arith)

-- the length of its diff
pub record_length : (c w r m : List ℕ) (i : ℕ) → i < record_limit → get_or (get_or (state_in mainframe c w r m).records.slots i []) 3 0 ≡ slot_length r i
unfolding state_in
record_length c w r m i b = ap (λ (slot : List ℕ). get_or slot 3 0) (slot_read r m i b) ∙ slot_byte r i 3 (omega arith)

-- and its diff
pub record_diff : (c w r m : List ℕ) (i : ℕ) → i < record_limit → slot_length r i ≤ diff_limit
    → (record_at (state_in mainframe c w r m) i).diff ≡ take (slot_length r i) (drop (slot_width * i + 4) r)
record_diff c w r m i b n = ap (λ (x : Record). x.diff) (record_read c w r m i b n)

-- two records are of one processor, interval and page
pub same_notice_read : (c w r m : List ℕ) (i j : ℕ) → i < record_limit → j < record_limit
    → not (same_notice (record_at (state_in mainframe c w r m) i) (record_at (state_in mainframe c w r m) j)) ≡ notices_differ r i j
unfolding same_notice notices_differ
same_notice_read c w r m i j a b =
    rw (record_processor c w r m i a, record_processor c w r m j b, record_interval c w r m i a, record_interval c w r m j b, record_page c w r m i a, record_page c w r m j b)

-- ---- who is present

-- a processor
pub present_read : (c w r m : List ℕ) (k : ℕ) → present (state_in mainframe c w r m) (suc k) ≡ ltb k (processor_count m)
unfolding present state_in
present_read c w r m k = go (ltb k (processor_count m)) refl
  where
    go : (b : Bool) → ltb k (processor_count m) ≡ b → (leb 1 (suc k) && leb (suc k) (processor_count m)) ≡ b
    go true e = rw (le-leb 1 (suc k) (omega arith), le-leb (suc k) (processor_count m) (ltb-true k (processor_count m) e))
    go false e = rw (le-leb 1 (suc k) (omega arith), lt-leb (suc k) (processor_count m) (omega (arith, ltb-false k (processor_count m) e)))

-- a page of a processor
pub page_present_read : (c w r m : List ℕ) (k g : ℕ) → present_holder (state_in mainframe c w r m) (Applied (suc k) g) ≡ ltb g (pages_of (processor_count m) (page_count m) k)
unfolding present_holder pages_of state_in
page_present_read c w r m k g = ap (λ (b : Bool). b && ltb g (page_count m)) (present_read c w r m k) ∙ go (ltb k (processor_count m))
  where
    go : (b : Bool) → (b && ltb g (page_count m)) ≡ ltb g (cond b (page_count m) 0)
    go true = refl
    go false = sym (le-ltb g 0 (omega arith))

-- a lock
pub lock_present_read : (c w r m : List ℕ) (l : ℕ) → present_holder (state_in mainframe c w r m) (Lock l) ≡ ltb l (lock_count m)
unfolding present_holder state_in
lock_present_read c w r m l = refl

-- the own entry of a processor by its number
pub own_of_read : (c w r m : List ℕ) (p : ℕ) → 1 ≤ p → p ≤ processor_limit → own (state_in mainframe c w r m) p ≡ get_or (own_entries c) (p - 1) 0
own_of_read c w r m zero a b = absurd (omega arith)
own_of_read c w r m (suc k) a b =
    let place : k ≡ suc k - 1 = omega arith in
    own_read c w r m k b ∙ ap (λ (i : ℕ). get_or (own_entries c) i 0) place
