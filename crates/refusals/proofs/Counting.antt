-- The dirty pages are counted mark by mark; and a bound without counting. Assumes nothing.
use Rattle.std.proofs.Common.{◌≡◌, ℕ, zero, suc, ◌+◌, ◌*◌, ◌<◌, ◌≤◌, Bool, true, false, cond, not, eqb, ltb, leb, List, get_or, refl, ap, ◌∙◌, suc-mul, add-one, arith, le-ltb}
use mir.Val.{bool_byte}
use mathlib.Core.Bool.{and-false}
use borrow.Author.Tests.{lt-leb}
use Rattle.lists.specs.Tables.{total}
use Rattle.lists.proofs.Tables.{total_same, total_zero, total_in_rows, total_of_fewer}
use Rattle.limits.specs.Limits.{page_limit, processor_limit, record_limit}
use Rattle.limits.specs.inner.Sizes.{copy_limit, first_dirty}
use Rattle.rules.specs.InOrder.{present, present_holder, dirty_pages}
use Rattle.rules.specs.State.{mainframe, dirty_at, State}
use Rattle.layout.specs.Areas.{dirty_place, records_in, state_in, standing_count}
use Rattle.layout.specs.inner.Marks.{processor_count, page_count, dirty_mark}
use Rattle.refusals.specs.inner.Parts.{seen, records_to_come, room_if_all_dirty}
use Rattle.refusals.specs.inner.Needed.{MarksCountable}
use Rattle.refusals.proofs.Marked.{dirty_seen}

-- ---- the dirty marks, absent processors and pages included

-- 1 where the k-th dirty mark is set
unfoldable pub mark_at : List ℕ → ℕ → ℕ
mark_at m k = cond (not (eqb (get_or m (first_dirty + k) 0) 0)) 1 0

-- the first k of them are counted
pub record MarksCounted (m : List ℕ) (sum k : ℕ) : Type 0 where
  pub counted : MarksCountable m
  pub upto : k ≤ copy_limit
  pub few : sum ≤ k
  pub same : sum ≡ total k (mark_at m)

-- none is counted yet
pub counting_begins : (m : List ℕ) → MarksCountable m → MarksCounted m 0 0
unfolding total
counting_begins m h = record { counted = h; upto = omega arith; few = omega arith; same = refl }

module _ (m : List ℕ) (sum k : ℕ) (h : MarksCounted m sum k) (l : k < copy_limit) where
  -- the next counts 1 or 0
  pub counting_more : (r : ℕ) → r ≡ bool_byte (not (eqb (get_or m (first_dirty + k) 0) 0)) → MarksCounted m (sum + r) (k + 1)
  unfolding total mark_at
  counting_more r e =
      let is = flag (not (eqb (get_or m (first_dirty + k) 0) 0)) in
      record { counted = h.counted; upto = omega arith; few = omega (arith, h.few, e, is.1); same = rw (add-one k, ← h.same, ← is.0, e) }
    where
      flag : (b : Bool) → (bool_byte b ≡ cond b 1 0) × (bool_byte b ≤ 1)
      flag true = (refl, omega arith)
      flag false = (refl, omega arith)

-- the k-th mark is that of page k % 8 of processor k / 8 + 1
module _ (m : List ℕ) where
  -- 1 where a page is dirty
  abbrev dirty : ℕ → ℕ → ℕ
  dirty i g = cond (dirty_at (seen m).pages (suc i) g) 1 0

  mark_of_page : (i g : ℕ) → i < processor_limit → g < page_limit → mark_at m (i * page_limit + g) ≡ dirty i g
  unfolding mark_at dirty_place mainframe
  mark_of_page i g a b =
      let place : first_dirty + (i * page_limit + g) ≡ dirty_place mainframe (suc i) g = omega arith in
      ap (λ (x : ℕ). cond (not (eqb (get_or m x 0) 0)) 1 0) place
      ∙ ap (λ (t : Bool). cond t 1 0) (dirty_seen m (not (eqb (dirty_mark m (suc i) g) 0)) (suc i) (omega arith) (omega arith) g b refl)

  module _ (h : MarksCountable m) where
    no_page : (i g : ℕ) → page_count m ≤ g → dirty i g ≡ 0
    unfolding present_holder seen state_in
    no_page i g l = ap (λ (t : Bool). cond t 1 0) (h.absent_clean.clean (suc i) g (rw (le-ltb g (page_count m) l) (and-false (present (seen m) (suc i)))))

    no_processor : (i g : ℕ) → processor_count m ≤ i → dirty i g ≡ 0
    unfolding present_holder present seen state_in
    no_processor i g l =
        ap (λ (t : Bool). cond t 1 0) (h.absent_clean.clean (suc i) g (rw (lt-leb (suc i) (processor_count m) (omega arith), and-false (leb 1 (suc i)))))

    -- the marks of a processor that are set are as many as its dirty pages
    pub marks_of_processor : (i : ℕ) → i < processor_limit → total page_limit (λ g. mark_at m (i * page_limit + g)) ≡ total (page_count m) (dirty i)
    marks_of_processor i a =
        total_same page_limit (λ g. mark_at m (i * page_limit + g)) (dirty i) (λ g b. mark_of_page i g a b)
        ∙ total_of_fewer (page_count m) page_limit (dirty i) h.pages (λ g l b. no_page i g l)

    -- the marks that are set are as many as the dirty pages
    marks_are_pages : total copy_limit (mark_at m) ≡ dirty_pages (seen m)
    unfolding dirty_pages seen state_in
    marks_are_pages =
        total_in_rows processor_limit page_limit (mark_at m)
        ∙ total_same processor_limit (λ i. total page_limit (λ g. mark_at m (i * page_limit + g))) (λ i. total (page_count m) (dirty i)) marks_of_processor
        ∙ total_of_fewer (processor_count m) processor_limit (λ i. total (page_count m) (dirty i)) h.processors (λ i l b. total_zero (page_count m) (dirty i) (λ g k. no_processor i g l))

-- all are counted
pub counting_ends : (m : List ℕ) (sum k x : ℕ) → MarksCounted m sum k → copy_limit ≤ k → x ≡ sum → x ≡ dirty_pages (seen m)
counting_ends m sum k x h l e =
    let all : k ≡ copy_limit = omega (arith, h.upto) in
    e ∙ h.same ∙ ap (λ (j : ℕ). total j (mark_at m)) all ∙ marks_are_pages m h.counted

-- records and dirty pages together
pub records_to_come_are : (m : List ℕ) (a b : ℕ) → (a ≡ standing_count m) × (a < 65536) → b ≡ dirty_pages (seen m) → a + b ≡ records_to_come (seen m)
unfolding records_to_come seen state_in records_in
records_to_come_are m a b e f = rw (e.0, f)

-- ---- without counting: at most every page of every processor is dirty

-- a sum of n numbers, none above k, is at most n * k
sum_at_most : (n k : ℕ) (f : ℕ → ℕ) → ((i : ℕ) → f i ≤ k) → total n f ≤ n * k
unfolding total
sum_at_most zero k f h = omega arith
sum_at_most (suc n) k f h = omega (arith, sum_at_most n k f h, h n, suc-mul n k)

-- the records to come are at most those that stand and one for each page of each processor
pub few_records_to_come : (s : State) → records_to_come s ≤ s.records.standing + s.counts.processors * s.counts.pages
unfolding records_to_come dirty_pages
few_records_to_come s = omega (arith, sum_at_most s.counts.processors s.counts.pages _ of_one)
  where
    flag : (b : Bool) → cond b 1 0 ≤ 1
    flag true = omega arith
    flag false = omega arith

    of_one : (k : ℕ) → total s.counts.pages (λ g. cond (dirty_at s.pages (suc k) g) 1 0) ≤ s.counts.pages
    of_one k = omega (arith, sum_at_most s.counts.pages 1 _ (λ g. flag (dirty_at s.pages (suc k) g)))

-- three marks decide about the room
pub marks_decide_room : (m : List ℕ) (a b x : ℕ) → (a ≡ processor_count m) × (a < 256) → (b ≡ page_count m) × (b < 256) → (x ≡ standing_count m) × (x < 65536)
    → ltb (x + a * b) record_limit ≡ room_if_all_dirty (seen m)
unfolding room_if_all_dirty seen state_in records_in mainframe
marks_decide_room m a b x processors_are pages_are standing_is = rw (standing_is.0, processors_are.0, pages_are.0)
