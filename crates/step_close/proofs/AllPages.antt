-- All pages of a processor closed, page by page upwards. One law for each way of the code, and `all_pages_laws`. Assumes nothing.
use Prim.Native.Nat.{ℕ, zero, suc, ◌+◌, ◌≤◌, ◌<◌}
use native.Mathlib.Numerals.{add-one}
use native.Mathlib.Omega.{arith}
use mathlib.Core.Path.{◌≡◌, refl, sym, ap, ◌∙◌}
use mathlib.Core.Bool.{Bool, true, false, cond}
use mathlib.Core.List.{List}
use lib.ListN.{length}
use borrow.Author.Rules.{rules}
use Rattle.lists.specs.Tables.{total}
use Rattle.lists.proofs.Tables.{cell_put_place, total_of_more}
use Rattle.limits.specs.Limits.{interval_limit, record_limit}
use Rattle.rules.specs.State.{mainframe, dirty_at, appended, State, clock, own}
use Rattle.layout.specs.Areas.{records_in, state_in, standing_count}
use Rattle.layout.specs.inner.Needed.{Holds}
use Rattle.layout.specs.inner.Marks.{page_count}
use Rattle.step_close.specs.inner.Parts.{page_cleaned, change_made, page_closed, pages_closed, all_closed}
use Rattle.step_close.specs.inner.Needed.{Closable, PageClosable}

-- ---- what stands after the pages below n

module _ (s : State) (p : ℕ) where
  -- a page is as dirty as before until its turn
  pub dirty_until : (n g : ℕ) → n ≤ g → dirty_at (pages_closed s p n).pages p g ≡ dirty_at s.pages p g
  unfolding pages_closed page_closed
  dirty_until zero g h = refl
  dirty_until (suc n) g h = go (dirty_at (pages_closed s p n).pages p n) (dirty_until n g (omega arith))
    where
      go : (b : Bool) → dirty_at (pages_closed s p n).pages p g ≡ dirty_at s.pages p g
          → dirty_at (cond b (change_made (pages_closed s p n) p n) (pages_closed s p n)).pages p g ≡ dirty_at s.pages p g
      go true e = unfold change_made page_cleaned dirty_at in rw (cell_put_place 0 (pages_closed s p n).pages.dirty p n g 0 (λ same. omega (arith, same))) e
      go false e = e

  -- one record more for each dirty page
  standing_closed : (n : ℕ) → (pages_closed s p n).records.standing ≡ s.records.standing + total n (λ g. cond (dirty_at s.pages p g) 1 0)
  unfolding pages_closed page_closed total
  standing_closed zero = omega arith
  standing_closed (suc n) = rw (dirty_until n n (omega arith)) (go (dirty_at s.pages p n) (standing_closed n))
    where
      go : (b : Bool) → (pages_closed s p n).records.standing ≡ s.records.standing + total n (λ g. cond (dirty_at s.pages p g) 1 0)
          → (cond b (change_made (pages_closed s p n) p n) (pages_closed s p n)).records.standing
          ≡ s.records.standing + (total n (λ g. cond (dirty_at s.pages p g) 1 0) + cond b 1 0)
      go true e = unfold change_made appended in omega (arith, e)
      go false e = omega (arith, e)

-- ---- after the pages below g

-- the areas hold the state with the pages below g closed
pub record ClosingPages (c w r₀ m₀ r m : List ℕ) (p n g : ℕ) : Type 0 where
  pub ready : Closable c w r₀ m₀ p
  pub pages : n ≡ page_count m₀
  pub upto : g ≤ n
  pub holds : Holds c w r m (pages_closed (state_in mainframe c w r₀ m₀) p g)

-- the number of pages is there
pub page_count_place : (c w r m : List ℕ) (p : ℕ) → Closable c w r m p → 1 < length m
page_count_place c w r m p h = omega (arith, h.lent.marks)

-- before the first page
pub closing_begins : (c w r m : List ℕ) (p n : ℕ) → Closable c w r m p → n ≡ page_count m → ClosingPages c w r m r m p n 0
unfolding pages_closed
closing_begins c w r m p n h e = record { ready = h; pages = e; upto = omega arith; holds = record { lent = h.lent; is = refl } }

module _ (c w r₀ m₀ r m : List ℕ) (p n g : ℕ) (now : ClosingPages c w r₀ m₀ r m p n g) where
  standing_now : standing_count m ≡ (pages_closed (state_in mainframe c w r₀ m₀) p g).records.standing
  unfolding state_in records_in
  standing_now = ap (λ (s : State). s.records.standing) now.holds.is

  standing_first : (state_in mainframe c w r₀ m₀).records.standing ≡ standing_count m₀
  unfolding state_in records_in
  standing_first = refl

  dirty_now : dirty_at (state_in mainframe c w r m).pages p g ≡ dirty_at (state_in mainframe c w r₀ m₀).pages p g
  dirty_now = ap (λ (s : State). dirty_at s.pages p g) now.holds.is ∙ dirty_until (state_in mainframe c w r₀ m₀) p g g (omega arith)

  -- the next page can be closed
  pub closing_page : g < n → PageClosable c w r m p g
  closing_page more =
      record {
        lent = now.holds.lent;
        from = now.ready.from;
        to = now.ready.to;
        page = omega (arith, now.pages, now.ready.pages);
        own_fits_lem = own_now now.ready.own_fits_lem;
        room = λ e. left (sym dirty_now ∙ e);
      }
    where
      own_now : own (state_in mainframe c w r₀ m₀) p ≤ interval_limit → own (state_in mainframe c w r m) p ≤ interval_limit
      own_now h = unfold own clock state_in in h

      left : dirty_at (state_in mainframe c w r₀ m₀).pages p g ≡ true → standing_count m < record_limit
      left e =
          let count : ℕ → ℕ = λ k. cond (dirty_at (state_in mainframe c w r₀ m₀).pages p k) 1 0 in
          let one : ◌≡◌ {A = ℕ} (cond (dirty_at (state_in mainframe c w r₀ m₀).pages p g) 1 0) 1 = ap (λ (b : Bool). cond b 1 0) e in
          let more_of : total (suc g) count ≡ total g count + count g = unfold total in refl in
          let most : total (suc g) count ≤ total (page_count m₀) count = total_of_more (suc g) (page_count m₀) count (omega (arith, more, now.pages)) in
          omega (arith, standing_now, standing_closed (state_in mainframe c w r₀ m₀) p g, standing_first, one, more_of, most, now.ready.room)

  -- one more page
  pub closed_page : g < n → (r' m' : List ℕ) → Holds c w r' m' (page_closed (state_in mainframe c w r m) p g) → ClosingPages c w r₀ m₀ r' m' p n (g + 1)
  unfolding pages_closed
  closed_page more r' m' after =
      record {
        ready = now.ready;
        pages = now.pages;
        upto = omega arith;
        holds = record { lent = after.lent; is = after.is ∙ ap (λ (s : State). page_closed s p g) now.holds.is ∙ rw (add-one g) };
      }

  last_page : n ≤ g → g ≡ (state_in mainframe c w r₀ m₀).counts.pages
  unfolding state_in
  last_page done = omega (arith, now.upto, now.pages)

  -- all pages are closed
  pub pages_closed_lem : n ≤ g → Holds c w r m (all_closed (state_in mainframe c w r₀ m₀) p)
  unfolding all_closed
  pages_closed_lem done = record { lent = now.holds.lent; is = now.holds.is ∙ rw (last_page done) }

pub ruleset all_pages_laws = (page_count_place, closing_begins, closing_page, closed_page, pages_closed_lem, rules)
