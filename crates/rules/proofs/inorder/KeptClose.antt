-- Ending an interval keeps a state in order, and which pages are dirty then. Rests on KeptRounds, KeptNewRecords and KeptPages. Assumes
-- nothing.
use Prim.Native.Nat.{ℕ, ◌≤◌, ◌<◌}
use native.Mathlib.Omega.{arith}
use native.Mathlib.Decide.{ℕ_discrete}
use mathlib.Core.Path.{◌≡◌, refl, ap}
use mathlib.Core.Bool.{Bool, true, false, cond}
use Rattle.lists.proofs.Tables.{any_at}
use Rattle.rules.specs.State.{Limits, dirty_at, Records, State, with_clocks, with_pages, with_records}
use Rattle.rules.specs.InOrder.{present}
use Rattle.rules.specs.Close.{any_dirty, ticked, recorded, cleaned, closed}
use Rattle.rules.proofs.inorder.Facts.{InOrder}
use Rattle.rules.proofs.inorder.KeptParts.{present_among, among_says, own_in, PagesInOrder, Parts, parts_of, in_order_of}
use Rattle.rules.proofs.inorder.KeptRounds.{own_ticked_same, own_ticked_other, ticked_in_order}
use Rattle.rules.proofs.inorder.KeptNewRecords.{Closing, recorded_below, records_stay}
use Rattle.rules.proofs.inorder.KeptPages.{dirty_cleaned_same, dirty_cleaned_other, dirty_after_cleaning, cleaned_in_order, dirty_pages_cleaned, dirty_pages_part}

-- a processor with a dirty page has an interval left
pub closing_has_interval : (lim : Limits) (s : State) (p : ℕ) → Parts lim s → any_dirty s p ≡ true → own_in s.clocks p < lim.intervals
unfolding any_dirty
closing_has_interval lim s p f e =
    let a = any_at s.counts.pages (dirty_at s.pages p) e in
    f.dirty_has_interval p a.at a.passes

own_ticked_grows : (s : State) (p q : ℕ) → 1 ≤ p → own_in s.clocks q ≤ own_in (ticked s p) q
own_ticked_grows s p q h = go (ℕ_discrete q p)
  where
    go : Dec (q ≡ p) → own_in s.clocks q ≤ own_in (ticked s p) q
    go (yes e) = rw e (omega (arith, own_ticked_same s p h))
    go (no e) = omega (arith, own_ticked_other s p q e)

-- what a processor needs before it ends an interval
pub closing_ready : (lim : Limits) (s : State) (p : ℕ) → Parts lim s → present_among s.counts p ≡ true → Closing lim s p (own_in (ticked s p))
closing_ready lim s p f a =
    let b = among_says s.counts p a in
    record {
      counts = f.counts;
      present = a;
      pages = f.pages;
      records = f.records;
      room = omega (arith, f.room, dirty_pages_part s.counts s.pages p a);
      own_grows = λ q. own_ticked_grows s p q b.0;
      own_rises = omega (arith, own_ticked_same s p b.0);
    }

-- every part stays in order
pub closed_parts : (lim : Limits) (s : State) (p : ℕ) → Parts lim s → present_among s.counts p ≡ true → Parts lim (closed s p)
unfolding closed
closed_parts lim s p f a = go (any_dirty s p) refl
  where
    b : (1 ≤ p) × (p ≤ s.counts.processors)
    b = among_says s.counts p a

    pages_after : PagesInOrder lim s.counts (cleaned s.pages p)
    pages_after = cleaned_in_order lim s.counts s.pages p f.pages b.0 (omega (arith, b.1, f.counts.processors_fit))

    go : (t : Bool) → any_dirty s p ≡ t
        → Parts lim (with_records (with_clocks (with_pages s (cleaned s.pages p)) (cond t (ticked s p) s.clocks)) (recorded s p s.counts.pages))
    go true e =
        let r = recorded_below lim s p (own_in (ticked s p)) s.counts.pages (closing_ready lim s p f a) (omega arith) in
        record {
          counts = f.counts;
          clocks = ticked_in_order lim s p f.counts f.clocks a (closing_has_interval lim s p f e);
          pages = pages_after;
          records = r.in_order;
          marks = f.marks;
          shared = f.shared;
          room = omega (arith, r.standing_grown, f.room, dirty_pages_cleaned s.counts s.pages p a);
          dirty_has_interval = λ q g d.
              let c = dirty_after_cleaning s.pages p q g d in
              omega (arith, own_ticked_other s p q c.1, f.dirty_has_interval q g c.0);
        }
    go false e =
        let is : recorded s p s.counts.pages ≡ s.records = records_stay s p s.counts.pages (unfold any_dirty in e) in
        let same : (recorded s p s.counts.pages).standing ≡ s.records.standing = ap (λ (r : Records). r.standing) is in
        record {
          counts = f.counts;
          clocks = f.clocks;
          pages = pages_after;
          records = rw is f.records;
          marks = f.marks;
          shared = f.shared;
          room = omega (arith, same, f.room, dirty_pages_cleaned s.counts s.pages p a);
          dirty_has_interval = λ q g d. f.dirty_has_interval q g (dirty_after_cleaning s.pages p q g d).0;
        }

-- ending an interval keeps order
pub closed_keeps : (lim : Limits) (s : State) (p : ℕ) → present s p ≡ true → InOrder lim s → InOrder lim (closed s p)
unfolding present
closed_keeps lim s p a f = in_order_of lim (closed s p) (closed_parts lim s p (parts_of lim s f) a)

-- ---- the dirty marks after closing

-- every page of the processor that closed is clean
pub closed_clean : (s : State) (p g : ℕ) → dirty_at (closed s p).pages p g ≡ false
unfolding closed
closed_clean s p g = dirty_cleaned_same s.pages p g

-- the pages of other processors stay clean or dirty
pub closed_dirty : (s : State) (p q g : ℕ) → (q ≡ p → ⊥) → dirty_at (closed s p).pages q g ≡ dirty_at s.pages q g
unfolding closed
closed_dirty s p q g d = dirty_cleaned_other s.pages p q g d
