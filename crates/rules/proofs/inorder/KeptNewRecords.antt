-- The records stay in order when a processor that ends an interval records its dirty pages, and there is room for them. Rests on
-- KeptRecords. Assumes nothing.
use Prim.Native.Nat.{ℕ, zero, suc, ◌+◌, ◌≤◌, ◌<◌}
use native.Mathlib.Omega.{arith}
use native.Mathlib.Decide.{ℕ_discrete}
use mathlib.Core.Path.{◌≡◌, refl, sym, ap, ◌∙◌}
use mathlib.Core.Bool.{Bool, true, false, cond, ◌&&◌, ◌||◌, false≢true}
use mathlib.Core.List.{List, []}
use lib.ListN.{length, get_or}
use lib.Dec.{eqb}
use borrow.Author.Tests.{eqb-true}
use Rattle.lists.specs.Tables.{any, total}
use Rattle.lists.proofs.Tables.{total_of_more}
use Rattle.diff.specs.Format.{difference, written}
use Rattle.diff.specs.Reading.{read_refusal}
use Rattle.diff.proofs.Legal.{read_when_legal, legal_when_written}
use Rattle.diff.proofs.Theorems.{length_difference, at_most_bytes}
use Rattle.rules.specs.State.{Limits, copy_of, twin_of, dirty_at, Record, Records, record_in, appended, State, clock, own}
use Rattle.rules.specs.InOrder.{same_notice}
use Rattle.rules.specs.Close.{new_record, recorded}
use Rattle.rules.proofs.inorder.KeptParts.{present_among, among_says, own_in, dirty_below, CountsInOrder, PagesInOrder, RecordsInOrder}
use Rattle.rules.proofs.inorder.KeptRecords.{records_with_more_intervals, Appendable, new_slot_at, old_slot_at, record_in_new_slot, appended_in_order}

-- two records that are not of the same processor, interval and page
pub notice_differs : (r q : Record) → (r.processor ≡ q.processor → r.interval ≡ q.interval → r.page ≡ q.page → ⊥) → same_notice r q ≡ false
unfolding same_notice
notice_differs r q h = go (eqb r.processor q.processor) (eqb r.interval q.interval) (eqb r.page q.page) refl refl refl
  where
    go : (a b c : Bool) → eqb r.processor q.processor ≡ a → eqb r.interval q.interval ≡ b → eqb r.page q.page ≡ c → (a && b && c) ≡ false
    go false b c x y z = refl
    go true false c x y z = refl
    go true true false x y z = refl
    go true true true x y z = absurd (h (eqb-true r.processor q.processor x) (eqb-true r.interval q.interval y) (eqb-true r.page q.page z))

-- what a processor needs before it ends an interval, where o gives the own entries afterwards
pub record Closing (lim : Limits) (s : State) (p : ℕ) (o : ℕ → ℕ) : Type 0 where
  pub counts : CountsInOrder lim s.counts
  pub present : present_among s.counts p ≡ true
  pub pages : PagesInOrder lim s.counts s.pages
  pub records : RecordsInOrder lim s.counts (own_in s.clocks) s.records
  pub room : s.records.standing + dirty_below s.pages p s.counts.pages ≤ lim.records
  pub own_grows : (q : ℕ) → own_in s.clocks q ≤ o q
  pub own_rises : own_in s.clocks p + 1 ≤ o p

-- what holds after the pages below g were recorded
pub record RecordedBelow (lim : Limits) (s : State) (p : ℕ) (o : ℕ → ℕ) (g : ℕ) : Type 0 where
  pub in_order : RecordsInOrder lim s.counts o (recorded s p g)
  pub standing_grown : (recorded s p g).standing ≡ s.records.standing + dirty_below s.pages p g
  pub below : (i : ℕ) → i < (recorded s p g).standing → (record_in (get_or (recorded s p g).slots i [])).processor ≡ p
      → (record_in (get_or (recorded s p g).slots i [])).interval ≡ own_in s.clocks p + 1 → (record_in (get_or (recorded s p g).slots i [])).page < g

-- the diff of a page is legal and fits its slot
pub diff_legal_lem : (w : ℕ) (old new : List ℕ) → length old ≡ w → length new ≡ w → read_refusal w (written old new) ≡ 0
unfolding written
diff_legal_lem w old new h k = read_when_legal w (written old new) (legal_when_written w (difference old new) (length_difference old new (h ∙ sym k) ∙ h))

new_record_appendable : (lim : Limits) (s : State) (p : ℕ) (o : ℕ → ℕ) (g : ℕ) → Closing lim s p o → g < s.counts.pages → dirty_at s.pages p g ≡ true → RecordedBelow lim s p o g
    → Appendable lim s.counts o (recorded s p g) (new_record s p g)
unfolding new_record own clock total
new_record_appendable lim s p o g z h e r =
    let b = among_says s.counts p z.present in
    let fit : p ≤ lim.processors = omega (arith, b.1, z.counts.processors_fit) in
    let on : g < lim.pages = omega (arith, z.counts.pages_fit) in
    let twin = z.pages.twin p g b.0 fit on in
    let copy = z.pages.copy p g b.0 fit on in
    let one : ◌≡◌ {A = ℕ} (cond (dirty_at s.pages p g) 1 0) 1 = ap (λ (t : Bool). cond t 1 0) e in
    let most : dirty_below s.pages p (suc g) ≤ dirty_below s.pages p s.counts.pages = total_of_more (suc g) s.counts.pages (λ k. cond (dirty_at s.pages p k) 1 0) h in
    record {
      room = omega (arith, r.standing_grown, one, most, z.room);
      processor = z.present;
      page = h;
      some_interval = omega arith;
      made_interval = z.own_rises;
      short = at_most_bytes lim.words (twin_of s.pages p g) (copy_of s.pages p g) twin copy;
      legal = diff_legal_lem lim.words (twin_of s.pages p g) (copy_of s.pages p g) twin copy;
      other = λ j l. notice_differs (new_record s p g) (record_in (get_or (recorded s p g).slots j [])) (λ x y w. omega (arith, r.below j l (sym x) (sym y), w));
    }

recorded_none : (lim : Limits) (s : State) (p : ℕ) (o : ℕ → ℕ) → Closing lim s p o → RecordedBelow lim s p o 0
unfolding recorded total
recorded_none lim s p o z =
    record {
      in_order = records_with_more_intervals lim s.counts (own_in s.clocks) o s.records z.own_grows z.records;
      standing_grown = omega arith;
      below = λ i l x y. absurd (earlier i l x y (z.records.sound i l).made_interval);
    }
  where
    earlier : (i : ℕ) → i < s.records.standing → (record_in (get_or s.records.slots i [])).processor ≡ p
        → (record_in (get_or s.records.slots i [])).interval ≡ own_in s.clocks p + 1
        → (record_in (get_or s.records.slots i [])).interval ≤ own_in s.clocks (record_in (get_or s.records.slots i [])).processor → ⊥
    earlier i l x y m = let e : own_in s.clocks (record_in (get_or s.records.slots i [])).processor ≡ own_in s.clocks p = ap (own_in s.clocks) x in omega (arith, e, y, m)

-- one more page: recorded, or left out where it is clean
recorded_one : (lim : Limits) (s : State) (p : ℕ) (o : ℕ → ℕ) (g : ℕ) → Closing lim s p o → g < s.counts.pages → RecordedBelow lim s p o g → RecordedBelow lim s p o (suc g)
unfolding recorded total new_record
recorded_one lim s p o g z h r = go (dirty_at s.pages p g) refl
  where
    go : (b : Bool) → dirty_at s.pages p g ≡ b → RecordedBelow lim s p o (suc g)
    go true e =
        let a = new_record_appendable lim s p o g z h e r in
        let new = new_record s p g in
        let after = recorded s p g in
        let is : recorded s p (suc g) ≡ appended after new = ap (λ (t : Bool). cond t (appended after new) after) e in
        let one : ◌≡◌ {A = ℕ} (cond (dirty_at s.pages p g) 1 0) 1 = ap (λ (t : Bool). cond t 1 0) e in
        record {
          in_order = rw is (appended_in_order lim s.counts o after new r.in_order a);
          standing_grown = rw is (omega (arith, r.standing_grown, one, standing_appended after new));
          below = rw is (λ i l x y. appended_below i (omega (arith, l, standing_appended after new)) x y (ℕ_discrete i after.standing));
        }
      where
        standing_appended : (q : Records) (new : Record) → (appended q new).standing ≡ q.standing + 1
        standing_appended q new = unfold appended in refl

        appended_below : (i : ℕ) → i < (recorded s p g).standing + 1 → (record_in (get_or (appended (recorded s p g) (new_record s p g)).slots i [])).processor ≡ p
            → (record_in (get_or (appended (recorded s p g) (new_record s p g)).slots i [])).interval ≡ own_in s.clocks p + 1
            → Dec (i ≡ (recorded s p g).standing) → (record_in (get_or (appended (recorded s p g) (new_record s p g)).slots i [])).page < suc g
        appended_below i l x y (yes d) =
            let page : (record_in (get_or (appended (recorded s p g) (new_record s p g)).slots i [])).page ≡ g =
            ap (λ (k : ℕ). (record_in (get_or (appended (recorded s p g) (new_record s p g)).slots k [])).page) d
            ∙ ap (λ (q : List ℕ). (record_in q).page) (new_slot_at (recorded s p g) (new_record s p g)) ∙ ap (λ (q : Record). q.page) (record_in_new_slot (recorded s p g) (new_record s p g)) in
            omega (arith, page)
        appended_below i l x y (no d) =
            let same : record_in (get_or (appended (recorded s p g) (new_record s p g)).slots i []) ≡ record_in (get_or (recorded s p g).slots i []) =
            ap record_in (old_slot_at (recorded s p g) (new_record s p g) i d) in
            let page : (record_in (get_or (appended (recorded s p g) (new_record s p g)).slots i [])).page ≡ (record_in (get_or (recorded s p g).slots i [])).page = ap (λ (q : Record). q.page) same in
            omega (
              arith,
              page,
              r.below i (omega arith) (ap (λ (q : Record). q.processor) (sym same) ∙ x) (ap (λ (q : Record). q.interval) (sym same) ∙ y),
            )
    go false e =
        let none : ◌≡◌ {A = ℕ} (cond (dirty_at s.pages p g) 1 0) 0 = ap (λ (t : Bool). cond t 1 0) e in
        let is : recorded s p (suc g) ≡ recorded s p g = ap (λ (t : Bool). cond t (appended (recorded s p g) (new_record s p g)) (recorded s p g)) e in
        record {
          in_order = rw is r.in_order;
          standing_grown = rw is (omega (arith, r.standing_grown, none));
          below = rw is (λ i l x y. omega (arith, r.below i l x y));
        }

-- the records stay in order page by page
pub recorded_below : (lim : Limits) (s : State) (p : ℕ) (o : ℕ → ℕ) (g : ℕ) → Closing lim s p o → g ≤ s.counts.pages → RecordedBelow lim s p o g
recorded_below lim s p o zero z h = recorded_none lim s p o z
recorded_below lim s p o (suc g) z h = recorded_one lim s p o g z h (recorded_below lim s p o g z (omega arith))

-- where no page is dirty the records stay
pub records_stay : (s : State) (p n : ℕ) → any n (dirty_at s.pages p) ≡ false → recorded s p n ≡ s.records
unfolding recorded any
records_stay s p zero e = refl
records_stay s p (suc g) e = go (any g (dirty_at s.pages p)) (dirty_at s.pages p g) refl refl e (records_stay s p g)
  where
    go : (a b : Bool) → any g (dirty_at s.pages p) ≡ a → dirty_at s.pages p g ≡ b → (a || b) ≡ false → (any g (dirty_at s.pages p) ≡ false → recorded s p g ≡ s.records)
        → cond (dirty_at s.pages p g) (appended (recorded s p g) (new_record s p g)) (recorded s p g) ≡ s.records
    go true b x y e r = let t : ◌≡◌ {A = Bool} false true = sym e in absurd (false≢true t)
    go false true x y e r = let t : ◌≡◌ {A = Bool} false true = sym e in absurd (false≢true t)
    go false false x y e r = ap (λ (t : Bool). cond t (appended (recorded s p g) (new_record s p g)) (recorded s p g)) y ∙ r x
