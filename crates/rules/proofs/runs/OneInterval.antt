-- How many intervals a store and a release make, in any state in order and for any limits: bench case F. A store of any value notes its page, so
-- the release makes one interval with one record; with nothing dirty it makes none. The release may hand its lock to a waiter, which then learns,
-- but of the own entries only the releaser's rises. Rests on KeptLocks. Assumes nothing.
use Prim.Native.Nat.{ℕ, zero, suc, ◌+◌, ◌%◌, ◌<◌}
use native.Mathlib.Omega.{arith}
use native.Mathlib.Decide.{ℕ_discrete}
use mathlib.Core.Path.{◌≡◌, refl, sym, ap, ap₂, ◌∙◌}
use mathlib.Core.Bool.{Bool, true, false, cond}
use mathlib.Core.List.{List, [], ◌∷◌}
use lib.ListN.{set}
use lib.Seq.{set-get_or}
use lib.Dec.{eqb}
use borrow.Author.Tests.{eqb-true}
use Rattle.lists.specs.Tables.{any}
use Rattle.lists.proofs.Tables.{any_holds}
use Rattle.limits.specs.Limits.{word_values}
use Rattle.diff.specs.Format.{written}
use Rattle.diff.proofs.Theorems.{equal_pages}
use Rattle.rules.specs.State.{Limits, clock_of, with_clock, Pages, copy_of, twin_of, dirty_at, Records, appended, State, clock, own}
use Rattle.rules.specs.InOrder.{present}
use Rattle.rules.specs.Close.{any_dirty, ticked, new_record, recorded, closed}
use Rattle.rules.specs.Fetch.{with_copy, fetched}
use Rattle.rules.specs.Steps.{page_of_word, offset_of_word, word_of, write, release}
use Rattle.rules.specs.Refusals.{action_of, refusal_in_order, effect, next_in_order}
use Rattle.rules.specs.Runs.{state_in_order}
use Rattle.rules.proofs.inorder.Facts.{InOrder}
use Rattle.rules.proofs.inorder.KeptParts.{among_says, own_in, parts_of}
use Rattle.rules.proofs.inorder.Accepted.{accepted_says, write_on_page, release_there}
use Rattle.rules.proofs.inorder.KeptRounds.{own_ticked_same, own_ticked_other}
use Rattle.rules.proofs.inorder.KeptLocks.{release_moves, release_intervals}
use Rattle.rules.proofs.inorder.Kept.{next_keeps_order}
use Rattle.rules.proofs.invariant.InvStore.{stored_copy, stored_dirty, stored_dirty_elsewhere, stored_twin_clean}
use Rattle.rules.proofs.runs.Listing.{writes, releases}

-- no interval is made from one state to another: no processor's own entry has risen, no clock of an interval is kept, no record is added
pub record NoInterval (s s' : State) : Type 0 where
  pub own_entries_lem : (q : ℕ) → own s' q ≡ own s q
  pub intervals : s'.clocks.intervals ≡ s.clocks.intervals
  pub records : s'.records ≡ s.records

-- exactly one interval is made, by processor p, with exactly one record, of page g with the diff d
pub record OneInterval (s s' : State) (p g : ℕ) (d : List ℕ) : Type 0 where
  pub own_entry : own s' p ≡ own s p + 1
  pub other_entries : (q : ℕ) → (q ≡ p → ⊥) → own s' q ≡ own s q
  pub intervals : s'.clocks.intervals ≡ (ticked s p).intervals
  pub records : s'.records ≡ appended s.records (record { processor = p; interval = own s p + 1; page = g; diff = d })

-- ---- closing

any_fails : (n : ℕ) (t : ℕ → Bool) → ((i : ℕ) → t i ≡ false) → any n t ≡ false
unfolding any
any_fails zero t h = refl
any_fails (suc n) t h = rw (any_fails n t h, h n)

recorded_none : (s : State) (p n : ℕ) → ((g : ℕ) → g < n → dirty_at s.pages p g ≡ false) → recorded s p n ≡ s.records
unfolding recorded
recorded_none s p zero h = refl
recorded_none s p (suc g) h = rw (h g (omega arith)) (recorded_none s p g (λ k l. h k (omega arith)))

recorded_only : (s : State) (p g n : ℕ) → g < n → dirty_at s.pages p g ≡ true → ((k : ℕ) → (k ≡ g → ⊥) → dirty_at s.pages p k ≡ false)
    → recorded s p n ≡ appended s.records (new_record s p g)
unfolding recorded
recorded_only s p g zero l d c = absurd (omega arith)
recorded_only s p g (suc n) l d c = go (ℕ_discrete n g) (λ less. recorded_only s p g n less d c)
  where
    go : Dec (n ≡ g) → (g < n → recorded s p n ≡ appended s.records (new_record s p g))
        → cond (dirty_at s.pages p n) (appended (recorded s p n) (new_record s p n)) (recorded s p n) ≡ appended s.records (new_record s p g)
    go (yes e) ih = rw (e, d) (ap (λ (r : Records). appended r (new_record s p g)) (recorded_none s p g (λ k less. c k (λ same. omega (arith, same, less)))))
    go (no e) ih = rw (c n e) (ih (omega (arith, e, l)))

-- "Otherwise no interval is made"
pub close_clean : (s : State) (p : ℕ) → ((g : ℕ) → dirty_at s.pages p g ≡ false) → NoInterval s (closed s p)
unfolding closed any_dirty own clock
close_clean s p h =
    let none_dirty : any s.counts.pages (dirty_at s.pages p) ≡ false = any_fails s.counts.pages (dirty_at s.pages p) h in
    record {
      own_entries_lem = λ q. ap (λ (b : Bool). own_in (cond b (ticked s p) s.clocks) q) none_dirty;
      intervals = ap (λ (b : Bool). (cond b (ticked s p) s.clocks).intervals) none_dirty;
      records = recorded_none s p s.counts.pages (λ g l. h g);
    }

-- a page that has been written is noted, whatever was stored
pub close_one_dirty : (s : State) (p g : ℕ) → 1 < suc p → g < s.counts.pages → dirty_at s.pages p g ≡ true → ((k : ℕ) → (k ≡ g → ⊥) → dirty_at s.pages p k ≡ false)
    → OneInterval s (closed s p) p g (written (twin_of s.pages p g) (copy_of s.pages p g))
unfolding closed any_dirty own clock new_record
close_one_dirty s p g some l d c =
    let dirty : any s.counts.pages (dirty_at s.pages p) ≡ true = any_holds s.counts.pages (dirty_at s.pages p) g l d in
    record {
      own_entry = ap (λ (b : Bool). own_in (cond b (ticked s p) s.clocks) p) dirty ∙ own_ticked_same s p (omega arith);
      other_entries = λ q e. ap (λ (b : Bool). own_in (cond b (ticked s p) s.clocks) q) dirty ∙ own_ticked_other s p q e;
      intervals = ap (λ (b : Bool). (cond b (ticked s p) s.clocks).intervals) dirty;
      records = recorded_only s p g s.counts.pages l d c;
    }

-- ---- the steps

-- a release, accepted or not, of a processor that has nothing dirty
pub release_without_store : (lim : Limits) (s : State) (p l : ℕ) → InOrder lim s → ((g : ℕ) → dirty_at s.pages p g ≡ false) → NoInterval s (next_in_order lim s (releases p l))
unfolding next_in_order action_of effect present release own clock
release_without_store lim s p l o h = go (eqb (refusal_in_order lim s (releases p l)) 0) refl (close_clean s p h)
  where
    go : (b : Bool) → eqb (refusal_in_order lim s (releases p l)) 0 ≡ b → NoInterval s (closed s p) → NoInterval s (cond b (release s p l) s)
    go true e c =
        let acc = accepted_says lim s (releases p l) (eqb-true (refusal_in_order lim s (releases p l)) 0 e) in
        let there = release_there lim s (releases p l) l refl acc in
        record {
          own_entries_lem = λ q. (release_moves lim s p l (parts_of lim s o) acc.processor_present there).own_kept q ∙ c.own_entries_lem q;
          intervals = release_intervals s p l ∙ c.intervals;
          records = c.records;
        }
    go false e c = record { own_entries_lem = λ q. refl; intervals = refl; records = refl }

-- an accepted release, whose close makes one interval more than s has
release_noting : (lim : Limits) (s s₁ : State) (p g l : ℕ) (d : List ℕ) → InOrder lim s₁ → refusal_in_order lim s₁ (releases p l) ≡ 0 → OneInterval s (closed s₁ p) p g d
    → OneInterval s (next_in_order lim s₁ (releases p l)) p g d
unfolding next_in_order action_of effect present release own clock
release_noting lim s s₁ p g l d o e c =
    let acc = accepted_says lim s₁ (releases p l) e in
    let there = release_there lim s₁ (releases p l) l refl acc in
    rw e
    (record {
      own_entry = (release_moves lim s₁ p l (parts_of lim s₁ o) acc.processor_present there).own_kept p ∙ c.own_entry;
      other_entries = λ q n. (release_moves lim s₁ p l (parts_of lim s₁ o) acc.processor_present there).own_kept q ∙ c.other_entries q n;
      intervals = release_intervals s₁ p l ∙ c.intervals;
      records = c.records;
    })

-- the page of a store before it, and after it
abbrev pub page_fetched : Limits → State → ℕ → ℕ → List ℕ
page_fetched lim s p w = copy_of (fetched lim s p (page_of_word lim w)).pages p (page_of_word lim w)

abbrev pub page_stored : Limits → State → ℕ → ℕ → ℕ → List ℕ
page_stored lim s p w v = set (page_fetched lim s p w) (offset_of_word lim w) (v % word_values)

-- an accepted store by a processor all of whose pages are clean
module _ (lim : Limits) (s : State) (p w v : ℕ) (o : InOrder lim s) (clean : (g : ℕ) → dirty_at s.pages p g ≡ false) (fine : refusal_in_order lim s (writes p w v) ≡ 0) where
  abbrev page : ℕ
  page = page_of_word lim w

  -- the store makes no interval, and its page alone is dirty then
  written_closed : OneInterval s (closed (write lim s p w v).after p) p page (written (page_fetched lim s p w) (page_stored lim s p w v))
  unfolding write fetched with_clock own clock clock_of ticked action_of
  written_closed =
      let acc = accepted_says lim s (writes p w v) fine in
      let c = close_one_dirty (write lim s p w v).after p page (omega (arith, (among_says s.counts p (unfold present in acc.processor_present)).0)) (write_on_page lim s (writes p w v) w v refl acc) dirty others in
      record { own_entry = c.own_entry; other_entries = c.other_entries; intervals = c.intervals; records = c.records ∙ ap (λ (d : List ℕ). appended s.records (record { processor = p; interval = own s p + 1; page = page; diff = d })) diffs }
    where
      m : Pages
      m = (fetched lim s p page).pages

      still_clean : (g : ℕ) → dirty_at m p g ≡ false
      still_clean g = unfold fetched with_copy dirty_at in clean g

      dirty : dirty_at (write lim s p w v).after.pages p page ≡ true
      dirty = unfold write in stored_dirty lim m p w v

      others : (g : ℕ) → (g ≡ page → ⊥) → dirty_at (write lim s p w v).after.pages p g ≡ false
      others g e = unfold write in stored_dirty_elsewhere lim m p w v p g (λ same. e) ∙ still_clean g

      diffs : written (twin_of (write lim s p w v).after.pages p page) (copy_of (write lim s p w v).after.pages p page) ≡ written (page_fetched lim s p w) (page_stored lim s p w v)
      diffs = unfold write in ap₂ written (stored_twin_clean lim m p w v (still_clean page)) (stored_copy lim m p w v)

  -- a store of any value and a release make exactly one interval, with exactly one record
  pub store_and_release : (l : ℕ) → refusal_in_order lim (write lim s p w v).after (releases p l) ≡ 0
      → OneInterval s (state_in_order lim s (writes p w v ∷ releases p l ∷ [])) p page (written (page_fetched lim s p w) (page_stored lim s p w v))
  unfolding state_in_order
  store_and_release l e = rw stored (release_noting lim s (write lim s p w v).after p page l (written (page_fetched lim s p w) (page_stored lim s p w v)) kept e written_closed)
    where
      stored : next_in_order lim s (writes p w v) ≡ (write lim s p w v).after
      stored = unfold next_in_order action_of effect in rw fine

      kept : InOrder lim (write lim s p w v).after
      kept = rw stored at (next_keeps_order lim s (writes p w v) o)

-- the diff of a store of the value that the word has is the one byte 0
pub equal_store : (lim : Limits) (s : State) (p w v : ℕ) → word_of lim (fetched lim s p (page_of_word lim w)) p w ≡ v % word_values → written (page_fetched lim s p w) (page_stored lim s p w v) ≡ 0 ∷ []
unfolding word_of
equal_store lim s p w v same =
    let page : List ℕ = copy_of (fetched lim s p (page_of_word lim w)).pages p (page_of_word lim w) in
    ap (written page) (ap (set page (offset_of_word lim w)) (sym same) ∙ set-get_or page (offset_of_word lim w) 0) ∙ equal_pages page
