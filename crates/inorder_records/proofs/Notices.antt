-- No two records are of one processor, interval and page: a table with a place for each such notice, in which the records are marked one
-- after the other. Assumes nothing.
use Prim.Native.Nat.{ℕ, ◌+◌, ◌-◌, ◌≤◌, ◌<◌}
use native.Mathlib.Numerals.{add-one}
use native.Mathlib.Omega.{arith}
use native.Mathlib.Decide.{dec_lt, ℕ_discrete}
use mathlib.Core.Path.{◌≡◌, refl, sym, ap, ◌∙◌}
use mathlib.Core.Bool.{Bool, true, false, not, ◌&&◌, false≢true}
use mathlib.Core.List.{List}
use lib.ListN.{length, get_or, set, length-set, replicate, length-replicate, get_or-replicate, get_or-eq_default}
use lib.Seq.{get_or-set_same, get_or-set_other}
use lib.Dec.{leb, ltb, eqb}
use borrow.Author.Tests.{ltb-true, leb-true, eq-eqb, ne_eqb}
use Rattle.lists.specs.Tables.{every}
use Rattle.lists.proofs.Conditions.{and_left, and_right, and_both}
use Rattle.lists.proofs.Tables.{every_at, every_holds}
use Rattle.lists.proofs.Passing.{fail_one}
use Rattle.limits.specs.Limits.{interval_limit, page_limit, processor_limit}
use Rattle.limits.specs.inner.Sizes.{notice_table}
use Rattle.layout.specs.inner.Marks.{slot_interval, slot_page, slot_processor}
use Rattle.inorder_records.specs.inner.Tests.{own_fits, notice_holds, diff_holds, record_holds, notices_differ, unlike, notice_place}
use Rattle.inorder_records.specs.inner.Needed.{OwnFit, NoticeFits, NoticesFit}

-- ---- the numbers of sound records have their place

-- a record's numbers: a present processor and page, an interval that was made
pub record Notice (own : List ℕ) (processors pages p n g : ℕ) : Type 0 where
  pub from : 1 ≤ p
  pub to : p ≤ processors
  pub page : g < pages
  pub some_interval : 1 ≤ n
  pub made_interval : n ≤ get_or own (p - 1) 0

-- what it says
pub notice_says : (own : List ℕ) (processors pages p n g : ℕ) → notice_holds own processors pages p n g ≡ true → Notice own processors pages p n g
unfolding notice_holds
notice_says own processors pages p n g e =
    let a = and_right (leb 1 p) (leb p processors && (ltb g pages && (leb 1 n && leb n (get_or own (p - 1) 0)))) e in
    let b = and_right (leb p processors) (ltb g pages && (leb 1 n && leb n (get_or own (p - 1) 0))) a in
    let d = and_right (ltb g pages) (leb 1 n && leb n (get_or own (p - 1) 0)) b in
    record {
      from = leb-true _ _ (and_left (leb 1 p) (leb p processors && (ltb g pages && (leb 1 n && leb n (get_or own (p - 1) 0)))) e);
      to = leb-true _ _ (and_left (leb p processors) (ltb g pages && (leb 1 n && leb n (get_or own (p - 1) 0))) a);
      page = ltb-true _ _ (and_left (ltb g pages) (leb 1 n && leb n (get_or own (p - 1) 0)) b);
      some_interval = leb-true _ _ (and_left (leb 1 n) (leb n (get_or own (p - 1) 0)) d);
      made_interval = leb-true _ _ (and_right (leb 1 n) (leb n (get_or own (p - 1) 0)) d);
    }

-- a record that passes has numbers in range
notice_fits : (own r : List ℕ) (processors pages i : ℕ) → processors ≤ processor_limit → pages ≤ page_limit → OwnFit own → record_holds own r processors pages i ≡ true → NoticeFits r i
unfolding record_holds own_fits
notice_fits own r processors pages i a b o e =
    go (notice_says own processors pages (slot_processor r i) (slot_interval r i) (slot_page r i)
    (and_left (notice_holds own processors pages (slot_processor r i) (slot_interval r i) (slot_page r i)) (diff_holds r i) e))
  where
    go : Notice own processors pages (slot_processor r i) (slot_interval r i) (slot_page r i) → NoticeFits r i
    go z =
        let most : get_or own (slot_processor r i - 1) 0 ≤ interval_limit = leb-true _ _ (every_at processor_limit (own_fits own) (slot_processor r i - 1) o.fit (omega (arith, z.from, z.to))) in
        record { processor = omega (arith, z.to); interval = omega (arith, z.made_interval); page = omega (arith, z.page) }

-- so have all records that pass
pub notices_fit : (own r : List ℕ) (processors pages n : ℕ) → processors ≤ processor_limit → pages ≤ page_limit → OwnFit own
    → every n (record_holds own r processors pages) ≡ true → NoticesFit r n
notices_fit own r processors pages n a b o e =
    record { at = λ i h. notice_fits own r processors pages i a b o (every_at n (record_holds own r processors pages) i e h) }

-- ---- records at one place, and at two

same_place : (r : List ℕ) (i j : ℕ) → NoticeFits r i → NoticeFits r j → notice_place r j ≡ notice_place r i → notices_differ r i j ≡ false
unfolding notices_differ notice_place
same_place r i j a b e =
    rw (eq-eqb (slot_processor r i) (slot_processor r j) (omega (arith, e, a.interval, a.page, b.interval, b.page)), eq-eqb (slot_interval r i) (slot_interval r j) (omega (arith, e, a.interval, a.page, b.interval, b.page)), eq-eqb (slot_page r i) (slot_page r j) (omega (arith, e, a.interval, a.page, b.interval, b.page)))

other_place : (r : List ℕ) (i j : ℕ) → (notice_place r j ≡ notice_place r i → ⊥) → notices_differ r i j ≡ true
unfolding notices_differ notice_place
other_place r i j h = go (ℕ_discrete (slot_processor r i) (slot_processor r j)) (ℕ_discrete (slot_interval r i) (slot_interval r j)) (ℕ_discrete (slot_page r i) (slot_page r j))
  where
    go : Dec (slot_processor r i ≡ slot_processor r j) → Dec (slot_interval r i ≡ slot_interval r j) → Dec (slot_page r i ≡ slot_page r j)
        → not (eqb (slot_processor r i) (slot_processor r j) && eqb (slot_interval r i) (slot_interval r j) && eqb (slot_page r i) (slot_page r j)) ≡ true
    go (yes a) (yes b) (yes d) = absurd (h (omega (arith, a, b, d)))
    go (yes a) (yes b) (no d) = rw (eq-eqb _ _ a, eq-eqb _ _ b, ne_eqb _ _ d)
    go (yes a) (no b) d = rw (eq-eqb _ _ a, ne_eqb _ _ b)
    go (no a) b d = rw (ne_eqb _ _ a)

-- ---- the table

-- no place of a blank table is marked
blank : (n i : ℕ) → get_or (replicate n false) i false ≡ false
blank n i = go (dec_lt i n)
  where
    go : Dec (i < n) → get_or (replicate n false) i false ≡ false
    go (yes h) = get_or-replicate n i false false h
    go (no h) = get_or-eq_default (replicate n false) false (omega (arith, length-replicate n false))

-- a record before the i-th has a place
pub record Marked (r : List ℕ) (i x : ℕ) : Type 0 where
  pub at : ℕ
  pub below : at < i
  pub is : notice_place r at ≡ x

-- the first i records differ and are marked, and nothing else is
pub record Seen (r : List ℕ) (n : ℕ) (seen : List Bool) (i : ℕ) : Type 0 where
  pub upto : i ≤ n
  pub long : length seen ≡ notice_table
  pub passed : every i (unlike r) ≡ true
  pub marked : (j : ℕ) → j < i → get_or seen (notice_place r j) false ≡ true
  pub only : (x : ℕ) → get_or seen x false ≡ true → Marked r i x

-- none is marked
pub seen_none : (r : List ℕ) (n : ℕ) → Seen r n (replicate notice_table false) 0
unfolding every
seen_none r n =
    record { upto = omega arith; long = length-replicate notice_table false; passed = refl; marked = λ j h. absurd (omega arith); only = λ x h. absurd (false≢true (sym (blank notice_table x) ∙ h)) }

-- a record whose place is marked is like an earlier one
pub seen_twice : (r : List ℕ) (n : ℕ) (seen : List Bool) (i place : ℕ) → Seen r n seen i → NoticesFit r n → i < n → place ≡ notice_place r i → get_or seen place false ≡ true
    → false ≡ every n (unlike r)
unfolding unlike
seen_twice r n seen i place p f h e k = go (p.only place k)
  where
    go : Marked r i place → false ≡ every n (unlike r)
    go z =
        fail_one n (unlike r) i h
        (sym (fail_one i (notices_differ r i) z.at z.below (same_place r i z.at (f.at i h) (f.at z.at (omega (arith, z.below))) (z.is ∙ e))))

-- a record whose place is not is unlike them, and is marked
pub seen_new : (r : List ℕ) (n : ℕ) (seen : List Bool) (i place : ℕ) → Seen r n seen i → i < n → place ≡ notice_place r i → place < notice_table → get_or seen place false ≡ false
    → Seen r n (set seen place true) (i + 1)
unfolding every unlike
seen_new r n seen i place p h e b k =
    record {
      upto = omega arith;
      long = length-set seen place true ∙ p.long;
      passed = rw (add-one i) (and_both (every i (unlike r)) (unlike r i) p.passed (every_holds i (notices_differ r i) (λ j l. other_place r i j (apart j l))));
      marked = λ j l. mark j l (ℕ_discrete (notice_place r j) place);
      only = λ x l. one x l (ℕ_discrete x place);
    }
  where
    there : place < length seen
    there = omega (arith, p.long)

    apart : (j : ℕ) → j < i → notice_place r j ≡ notice_place r i → ⊥
    apart j l s =
        false≢true (sym k ∙ ap (λ (x : ℕ). get_or seen x false) (e ∙ sym s) ∙ p.marked j l)

    mark : (j : ℕ) → j < i + 1 → Dec (notice_place r j ≡ place) → get_or (set seen place true) (notice_place r j) false ≡ true
    mark j l (yes s) = rw s (get_or-set_same seen place true false there)
    mark j l (no s) = get_or-set_other seen place (notice_place r j) true false s ∙ p.marked j (before (ℕ_discrete j i))
      where
        before : Dec (j ≡ i) → j < i
        before (yes q) = absurd (s (ap (λ (x : ℕ). notice_place r x) q ∙ sym e))
        before (no q) = omega arith

    one : (x : ℕ) → get_or (set seen place true) x false ≡ true → Dec (x ≡ place) → Marked r (i + 1) x
    one x l (yes s) = record { at = i; below = omega arith; is = sym (s ∙ e) }
    one x l (no s) = go (p.only x (sym (get_or-set_other seen place x true false s) ∙ l))
      where
        go : Marked r i x → Marked r (i + 1) x
        go z = record { at = z.at; below = omega (arith, z.below); is = z.is }

-- all records differ
pub seen_all : (r : List ℕ) (n : ℕ) (seen : List Bool) (i : ℕ) → Seen r n seen i → n ≤ i → true ≡ every n (unlike r)
seen_all r n seen i p h = let e : i ≡ n = omega (arith, p.upto) in rw (← e) (sym p.passed)

pub ruleset notices_checked = (seen_twice, seen_all)
