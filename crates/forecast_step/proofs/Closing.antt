-- Closing an interval by the marks and the own entries: the dirty pages of a processor counted, its marks cleared, and the two put together. One
-- law for each way of the code; `count_laws`, `clean_laws` and `close_laws`. Rests on Foreseeing. Assumes nothing.
use Prim.Native.Nat.{ℕ, zero, suc, ◌+◌, ◌-◌, ◌*◌, ◌≤◌, ◌<◌}
use native.Mathlib.Numerals.{add-one}
use native.Mathlib.Omega.{arith}
use native.Mathlib.Decide.{dec_lt, ℕ_discrete}
use mathlib.Core.Path.{◌≡◌, refl, sym, ap, ◌∙◌}
use mathlib.Core.Bool.{Bool, true, false, cond, not}
use mathlib.Core.List.{List, [], ◌∷◌, ◌++◌, map}
use lib.ListN.{length, get_or, take, drop, length-take, length-drop, set, length-set, replicate, length-replicate, get_or-replicate}
use lib.Seq.{get_or-take, get_or-drop, set-get_or, sets, length-sets}
use lib.Dec.{eqb}
use borrow.Author.Tests.{eq-eqb, ne_eqb}
use borrow.Author.Rules.{rules}
use mir.Syntax.{w8}
use mir.Val.{Fits, bool_byte}
use Rattle.lists.specs.Tables.{put, total, tabulate}
use Rattle.lists.proofs.Counting.{any_counted}
use Rattle.lists.proofs.Tables.{total_same, put_within}
use Rattle.lists.proofs.Tabulated.{tabulate_same, map_tabulate}
use Rattle.limits.specs.Limits.{interval_limit, page_limit, processor_limit, record_limit}
use Rattle.limits.specs.inner.Sizes.{first_awaited, first_dirty, mark_area}
use Rattle.rules.specs.Close.{any_dirty, cleaned}
use Rattle.rules.specs.InOrder.{present, dirty_pages}
use Rattle.rules.specs.State.{mainframe, dirty_at, Pages, State, with_pages, with_records}
use Rattle.rules.specs.Forecast.{bare, own_for, dirty_for, closed_for}
use Rattle.rules.proofs.Foretold.{seen_in}
use Rattle.rules.proofs.inorder.KeptPages.{dirty_pages_part}
use Rattle.rules.proofs.inorder.KeptParts.{dirty_below, dirty_in}
use Rattle.layout.specs.Areas.{dirty_place, pages_in, records_in, standing_count, state_in}
use Rattle.layout.specs.Layout.{per_processor}
use Rattle.layout.specs.inner.Marks.{page_count, with_standing}
use Rattle.layout.specs.inner.Needed.{MarksOf}
use Rattle.layout.proofs.MarkFunctions.{last_dirty_there, part_cleared}
use Rattle.layout.proofs.MarkLaws.{standing_length, standing_written}
use Rattle.layout.proofs.MarksKept.{pages_alone, agree_before, agree_behind}
use Rattle.layout.proofs.RowLaws.{get_per_processor, per_processor_same, put_per_processor}
use Rattle.layout.proofs.Stores.{get_sets_before, get_sets_behind, get_sets_same}
use Rattle.refusals.specs.inner.Needed.{PagesOf}
use Rattle.refusals.specs.inner.Parts.{seen}
use Rattle.refusals.proofs.Counting.{mark_at, marks_of_processor}
use Rattle.forecast_step.specs.Memory.{forecast_in}
use Rattle.forecast_step.specs.inner.Parts.{ActsForeseen, Shows}
use Rattle.forecast_step.proofs.Foreseeing.{entry_at, foreseen_in_order, pages_foreseen, present_foreseen}

-- ---- the dirty pages of a processor, mark by mark

-- the first g of the dirty marks of a processor are counted
pub record PageMarksCounted (marks : List ℕ) (sum g : ℕ) : Type 0 where
  pub long : length marks ≡ page_limit
  pub few : sum ≤ g
  pub same : sum ≡ total g (λ i. cond (not (eqb (get_or marks i 0) 0)) 1 0)

-- the next counts 1 or 0
pub pages_counting_more : (marks : List ℕ) (sum g : ℕ) → PageMarksCounted marks sum g → (r : ℕ) → r ≡ bool_byte (not (eqb (get_or marks g 0) 0)) → PageMarksCounted marks (sum + r) (g + 1)
unfolding total
pages_counting_more marks sum g h r e =
    let is = flag (not (eqb (get_or marks g 0) 0)) in
    record { long = h.long; few = omega (arith, h.few, e, is.1); same = rw (add-one g, ← h.same, ← is.0, e) }
  where
    flag : (b : Bool) → (bool_byte b ≡ cond b 1 0) × (bool_byte b ≤ 1)
    flag true = (refl, omega arith)
    flag false = (refl, omega arith)

module _ (m : List ℕ) (p : ℕ) (h : PagesOf m p) (from : ℕ) (e : from ≡ dirty_place mainframe p 0) where
  pub marks_there : from + page_limit ≤ length m
  marks_there = last_dirty_there m p (record { marks = h.counted.marks; from = h.from; to = h.to }) from e

  marks_long : length (take (from + page_limit - from) (drop from m)) ≡ page_limit
  marks_long = omega (arith, length-take (from + page_limit - from) (drop from m), length-drop from m, marks_there)

  -- none is counted yet
  pub pages_counting_begins : PageMarksCounted (take (from + page_limit - from) (drop from m)) 0 0
  unfolding total
  pages_counting_begins = record { long = marks_long; few = omega arith; same = refl }

-- all are counted
pub pages_counting_ends : (m : List ℕ) (p from sum g x : ℕ) → PagesOf m p → from ≡ dirty_place mainframe p 0 → PageMarksCounted (take (from + page_limit - from) (drop from m)) sum g → g ≡ page_limit → x ≡ sum
    → x ≡ dirty_below (seen m).pages p (page_count m)
unfolding dirty_place mainframe mark_at
pages_counting_ends m zero from sum g x there e h all is = absurd (omega (arith, there.from))
pages_counting_ends m (suc i) from sum g x there e h all is =
    is ∙ h.same
    ∙ ap (λ (j : ℕ). total j (λ k. cond (not (eqb (get_or (take (from + page_limit - from) (drop from m)) k 0) 0)) 1 0)) all
    ∙ total_same page_limit (λ k. cond (not (eqb (get_or (take (from + page_limit - from) (drop from m)) k 0) 0)) 1 0) (λ k. mark_at m (i * page_limit + k))
    (λ k b. ap (λ (x : ℕ). cond (not (eqb x 0)) 1 0) (get_or-take (from + page_limit - from) (drop from m) k 0 (omega (arith, b)) ∙ get_or-drop from m k 0 ∙ ap (λ (at : ℕ). get_or m at 0) (omega (arith, e))))
    ∙ marks_of_processor m there.counted i (omega (arith, there.to))

-- ---- its marks cleared

-- the part of the marks that a processor's pages have
pub page_marks_part : (m part : List ℕ) (p from : ℕ) → MarksOf m p → from ≡ dirty_place mainframe p 0 → part ≡ replicate (length (take (from + page_limit - from) (drop from m))) 0
    → take from m ++ (part ++ drop (from + page_limit - from) (drop from m)) ≡ sets m (dirty_place mainframe p 0) (replicate page_limit 0)
page_marks_part m part p from h e z =
    let n : from + page_limit - from ≡ page_limit = omega arith in
    rw (n, ← e) (part_cleared m part from page_limit (last_dirty_there m p h from e) (rw n at z))

-- the marks of processor q
unfoldable row : List ℕ → ℕ → List ℕ
row m q = tabulate page_limit (λ j. get_or m (dirty_place mainframe q j) 0)

module _ (m : List ℕ) (p : ℕ) (h : MarksOf m p) (v : List ℕ) (long : length v ≡ page_limit) (zeros : (j : ℕ) → j < page_limit → get_or v j 0 ≡ 0) where
  own_mark : (j : ℕ) → j < page_limit → get_or (sets m (dirty_place mainframe p 0) v) (dirty_place mainframe p j) 0 ≡ 0
  unfolding dirty_place mainframe
  own_mark j b =
      let place : dirty_place mainframe p j ≡ dirty_place mainframe p 0 + j = omega arith in
      ap (λ (k : ℕ). get_or (sets m (dirty_place mainframe p 0) v) k 0) place
      ∙ get_sets_same v m (dirty_place mainframe p 0) j 0 (omega (arith, long, b)) (omega (arith, long, h.marks, h.from, h.to)) ∙ zeros j b

  other_mark : (q j : ℕ) → 1 ≤ q → j < page_limit → (q ≡ p → ⊥) → get_or (sets m (dirty_place mainframe p 0) v) (dirty_place mainframe q j) 0 ≡ get_or m (dirty_place mainframe q j) 0
  unfolding dirty_place mainframe
  other_mark q j from b e = go (dec_lt q p)
    where
      go : Dec (q < p) → get_or (sets m (dirty_place mainframe p 0) v) (dirty_place mainframe q j) 0 ≡ get_or m (dirty_place mainframe q j) 0
      go (yes l) = get_sets_before v m (dirty_place mainframe p 0) (dirty_place mainframe q j) 0 (omega (arith, l, b, from))
      go (no l) = get_sets_behind v m (dirty_place mainframe p 0) (dirty_place mainframe q j) 0 (omega (arith, l, e, long, h.from))

  row_after : (q : ℕ) → 1 ≤ q → row (sets m (dirty_place mainframe p 0) v) q ≡ cond (eqb q p) (map (λ mark. 0) (row m p)) (row m q)
  unfolding row
  row_after q from = go (ℕ_discrete q p)
    where
      go : Dec (q ≡ p) → row (sets m (dirty_place mainframe p 0) v) q ≡ cond (eqb q p) (map (λ mark. 0) (row m p)) (row m q)
      go (yes e) =
          rw (eq-eqb q p e, e)
          (tabulate_same page_limit (λ j. get_or (sets m (dirty_place mainframe p 0) v) (dirty_place mainframe p j) 0) (λ j. 0) own_mark
          ∙ sym (map_tabulate (λ mark. 0) page_limit (λ j. get_or m (dirty_place mainframe p j) 0)))
      go (no e) =
          rw (ne_eqb q p e)
          (tabulate_same page_limit (λ j. get_or (sets m (dirty_place mainframe p 0) v) (dirty_place mainframe q j) 0) (λ j. get_or m (dirty_place mainframe q j) 0)
          (λ j b. other_mark q j from b e))

  marks_cleared : pages_in mainframe [] (sets m (dirty_place mainframe p 0) v) ≡ cleaned (pages_in mainframe [] m) p
  unfolding pages_in cleaned mainframe row
  marks_cleared =
      λ i. record {
        copies = (pages_in mainframe [] m).copies;
        twins = (pages_in mainframe [] m).twins;
        dirty =
            (per_processor_same processor_limit (row (sets m (dirty_place mainframe p 0) v)) (λ q. cond (eqb q p) (map (λ mark. 0) (row m p)) (row m q)) (λ q x y. row_after q x)
            ∙ sym (put_per_processor processor_limit (row m) p (map (λ mark. 0) (row m p)) h.from h.to)
            ∙ ap (λ (r : List ℕ). put [] (per_processor processor_limit (row m)) p (map (λ mark. 0) r)) (sym (get_per_processor processor_limit (row m) p [] h.from h.to))) i;
      }

  row_cleaned : seen (sets m (dirty_place mainframe p 0) v) ≡ with_pages (seen m) (cleaned (seen m).pages p)
  unfolding seen state_in dirty_place mainframe
  row_cleaned =
      pages_alone (sets m (dirty_place mainframe p 0) v) m [] [] []
      (agree_before m v (dirty_place mainframe p 0) 0 first_dirty (omega arith))
      (agree_behind m v (dirty_place mainframe p 0) first_awaited mark_area (omega (arith, long, h.from, h.to)))
      ∙ ap (λ (a : Pages). with_pages (seen m) a) marks_cleared

-- the marks of a processor become 0: its pages are clean
pages_cleaned : (m : List ℕ) (p : ℕ) → MarksOf m p → seen (sets m (dirty_place mainframe p 0) (replicate page_limit 0)) ≡ with_pages (seen m) (cleaned (seen m).pages p)
pages_cleaned m p h = row_cleaned m p h (replicate page_limit 0) (length-replicate {A = ℕ} page_limit 0) (λ j b. get_or-replicate {A = ℕ} page_limit j 0 0 b)

-- ---- the interval closed

-- the own entries behind nobody's, one of them raised by 1 or not at all
entries_raised : (own : List ℕ) (p r : ℕ) (b : Bool) → 1 ≤ p → p ≤ length own → r ≡ bool_byte b
    → 0 ∷ set own (p - 1) (get_or own (p - 1) 0 + r) ≡ cond b (put 0 (0 ∷ own) p (get_or (0 ∷ own) p 0 + 1)) (0 ∷ own)
unfolding put
entries_raised own zero r b from to e = absurd (omega (arith, from))
entries_raised own (suc k) r true from to e =
    let place : suc k - 1 ≡ k = omega arith in
    rw (place, e) (ap (λ (l : List ℕ). 0 ∷ l) (sym (put_within 0 own k (get_or own k 0 + 1) (omega (arith, to)))))
entries_raised own (suc k) r false from to e =
    let same : get_or own (suc k - 1) 0 + r ≡ get_or own (suc k - 1) 0 = omega (arith, e) in
    rw same (ap (λ (l : List ℕ). 0 ∷ l) (set-get_or own (suc k - 1) 0))

-- so many records, clean pages and these own entries are the forecast's closing
closed_by : (s : State) (e e' : List ℕ) (p k : ℕ) → e' ≡ cond (any_dirty s p) (put 0 e p (get_or e p 0 + 1)) e → k ≡ s.records.standing + dirty_below s.pages p s.counts.pages
    → seen_in (with_pages (with_records s (record { standing = k; slots = s.records.slots })) (cleaned s.pages p)) e' ≡ closed_for (seen_in s e) p
unfolding seen_in closed_for bare any_dirty dirty_at cleaned own_for
closed_by s e e' p k x y = rw (x, y)

module _ (own m : List ℕ) (p : ℕ) (h : ActsForeseen own m p) where
  -- its own entry has its place
  pub own_entry_there : p - 1 < length own
  own_entry_there = omega (arith, h.from, (pages_foreseen own m p h).to, h.foreseen.entries)

  -- and is small
  pub own_entry_fits : (r : ℕ) (b : Bool) → r ≡ bool_byte b → Fits w8 (get_or own (p - 1) 0 + r)
  unfolding forecast_in seen_in own_for mainframe seen
  own_entry_fits r b f =
      let few : get_or (0 ∷ own) p 0 ≤ interval_limit = (foreseen_in_order own m h.foreseen).own_fits_lem p in
      omega (arith, f, small b, few, entry_at own p h.from)
    where
      small : (b : Bool) → bool_byte b ≤ 1
      small true = omega arith
      small false = omega arith

  module _ (d n : ℕ) (dirty : d ≡ dirty_below (seen m).pages p (page_count m)) (stands : (n ≡ standing_count m) × (n < 65536)) where
    -- a record for each dirty page has room
    pub closing_has_room : n + d ≤ record_limit
    unfolding forecast_in seen_in bare dirty_for dirty_pages dirty_at present seen state_in records_in mainframe
    closing_has_room =
        let room : standing_count m + dirty_in (seen m).counts (seen m).pages ≤ record_limit = (foreseen_in_order own m h.foreseen).room in
        omega (arith, dirty, stands.0, room, dirty_pages_part (seen m).counts (seen m).pages p (present_foreseen own m p h))

    module _ (m₁ : List ℕ) (recorded : m₁ ≡ with_standing m (n + d)) where
      -- the marks are as many
      pub recorded_marks : MarksOf m₁ p
      recorded_marks = record { marks = ap length recorded ∙ standing_length m (n + d) h.foreseen.marks; from = h.from; to = (pages_foreseen own m p h).to }

      -- records, own entry and dirty marks are those of the forecast's closing
      pub closing_shown : (m₂ : List ℕ) (r : ℕ) → r ≡ bool_byte (not (eqb d 0)) → m₂ ≡ sets m₁ (dirty_place mainframe p 0) (replicate page_limit 0)
          → Shows (set own (p - 1) (get_or own (p - 1) 0 + r)) m₂ (closed_for (forecast_in own m) p)
      unfolding forecast_in seen seen_in
      closing_shown m₂ r raises clean =
          record {
            entries = length-set own (p - 1) (get_or own (p - 1) 0 + r) ∙ h.foreseen.entries;
            marks = ap length clean ∙ length-sets m₁ (dirty_place mainframe p 0) (replicate page_limit 0) ∙ recorded_marks.marks;
            is =
                ap (λ (s : State). seen_in s raised)
                (ap seen clean ∙ pages_cleaned m₁ p recorded_marks ∙ ap (λ (s : State). with_pages s (cleaned s.pages p)) (ap seen recorded ∙ standing_now))
                ∙ closed_by (seen m) (0 ∷ own) raised p (n + d) (entries_raised own p r (any_dirty (seen m) p) h.from within (raises ∙ ap bool_byte any_is)) standing_is;
          }
        where
          raised : List ℕ
          raised = 0 ∷ set own (p - 1) (get_or own (p - 1) 0 + r)

          within : p ≤ length own
          within = omega (arith, (pages_foreseen own m p h).to, h.foreseen.entries)

          standing_now : seen (with_standing m (n + d)) ≡ with_records (seen m) (record { standing = n + d; slots = (seen m).records.slots })
          standing_now = unfold seen in standing_written [] [] [] m (n + d) h.foreseen.marks

          any_is : not (eqb d 0) ≡ any_dirty (seen m) p
          any_is = unfold any_dirty seen state_in in ap (λ (k : ℕ). not (eqb k 0)) dirty ∙ sym (any_counted (page_count m) (dirty_at (seen m).pages p))

          standing_is : n + d ≡ (seen m).records.standing + dirty_below (seen m).pages p (seen m).counts.pages
          standing_is = unfold seen state_in records_in in rw (stands.0, dirty)

pub ruleset count_laws = (marks_there, pages_counting_begins, pages_counting_more, pages_counting_ends, rules)

pub ruleset clean_laws = (last_dirty_there, page_marks_part, rules)

pub ruleset close_laws = (pages_foreseen, own_entry_there, own_entry_fits, closing_has_room, recorded_marks, closing_shown, rules)
