-- What the tests of the counts and of the clocks say. Assumes nothing.
use Prim.Native.Nat.{ℕ, ◌+◌, ◌≤◌}
use mathlib.Core.Path.{◌≡◌, refl}
use mathlib.Core.Bool.{Bool, true, false, ◌&&◌}
use mathlib.Core.List.{List}
use lib.Dec.{leb}
use borrow.Author.Tests.{leb-true}
use Rattle.lists.specs.Tables.{every}
use Rattle.lists.proofs.Conditions.{and_left, and_right}
use Rattle.limits.specs.Limits.{job_limit, lock_limit, page_limit, processor_limit, record_limit}
use Rattle.limits.specs.inner.Sizes.{first_job_row, first_lock_row}
use Rattle.inorder_marks.specs.inner.Needed.{CountsFit}
use Rattle.inorder_records.specs.inner.Tests.{own_fits}
use Rattle.inorder.specs.inner.Tests.{rows_hold, applied_hold, intervals_hold, clocks_hold_with, counts_hold}

-- clocks that pass have own entries that fit
pub own_fit_clocks : (own c : List ℕ) (processors pages locks : ℕ)
    → clocks_hold_with own c processors pages locks ≡ (every processor_limit (own_fits own) && clocks_hold_with own c processors pages locks)
unfolding clocks_hold_with
own_fit_clocks own c processors pages locks =
    twice (every processor_limit (own_fits own))
    (rows_hold own c 0 first_lock_row (processors + 1) && (rows_hold own c first_lock_row lock_limit locks && (rows_hold own c first_job_row job_limit job_limit && (every processor_limit (applied_hold c processors pages) && every processor_limit (intervals_hold own c)))))
  where
    twice : (a b : Bool) → (a && b) ≡ (a && (a && b))
    twice true b = refl
    twice false b = refl

-- ---- counts that pass

-- what the test of the counts says
pub record CountsIn (processors pages locks standing : ℕ) : Type 0 where
  pub some_processor : 1 ≤ processors
  pub processors_fit : processors ≤ processor_limit
  pub some_page : 1 ≤ pages
  pub pages_fit : pages ≤ page_limit
  pub some_lock : 1 ≤ locks
  pub locks_fit : locks ≤ lock_limit
  pub standing_fit : standing ≤ record_limit

-- each count is in its range
pub counts_in : (processors pages locks standing : ℕ) → counts_hold processors pages locks standing ≡ true → CountsIn processors pages locks standing
unfolding counts_hold
counts_in processors pages locks standing e =
    let last : Bool = leb locks lock_limit && leb standing record_limit in
    let from_locks : Bool = leb 1 locks && last in
    let to_pages : Bool = leb pages page_limit && from_locks in
    let from_pages : Bool = leb 1 pages && to_pages in
    let to_processors : Bool = leb processors processor_limit && from_pages in
    let a = and_right (leb 1 processors) to_processors e in
    let b = and_right (leb processors processor_limit) from_pages a in
    let d = and_right (leb 1 pages) to_pages b in
    let f = and_right (leb pages page_limit) from_locks d in
    let g = and_right (leb 1 locks) last f in
    record {
      some_processor = leb-true _ _ (and_left (leb 1 processors) to_processors e);
      processors_fit = leb-true _ _ (and_left (leb processors processor_limit) from_pages a);
      some_page = leb-true _ _ (and_left (leb 1 pages) to_pages b);
      pages_fit = leb-true _ _ (and_left (leb pages page_limit) from_locks d);
      some_lock = leb-true _ _ (and_left (leb 1 locks) last f);
      locks_fit = leb-true _ _ (and_left (leb locks lock_limit) (leb standing record_limit) g);
      standing_fit = leb-true _ _ (and_right (leb locks lock_limit) (leb standing record_limit) g);
    }

-- counts in range fit their tables
pub counts_fit : (processors pages locks standing : ℕ) → counts_hold processors pages locks standing ≡ true → CountsFit processors pages locks standing
counts_fit processors pages locks standing e =
    let z = counts_in processors pages locks standing e in
    record { processors_fit = z.processors_fit; pages_fit = z.pages_fit; locks_fit = z.locks_fit; standing_fit = z.standing_fit }
