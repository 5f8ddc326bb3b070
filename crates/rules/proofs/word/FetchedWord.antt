-- What a fetch does to one word of a page, the word at offset o of page g, and what it leaves of the copies and the clocks as it is. Rests
-- on Holders, CopyWords and SortedRecords. Assumes nothing.
use Prim.Native.Nat.{ℕ, ◌≤◌, ◌<◌}
use native.Mathlib.Omega.{arith}
use native.Mathlib.Decide.{ℕ_discrete}
use mathlib.Core.Path.{◌≡◌, refl, sym, ap, ◌∙◌}
use mathlib.Core.Bool.{Bool, true, false, cond, not, ◌&&◌, and-eq-true_iff, false≢true}
use mathlib.Core.Option
use mathlib.Core.Option.{none}
use mathlib.Core.List.{List, [], ◌∷◌}
use lib.ListN.{length, get_or}
use lib.Dec.{leb, ltb, eqb}
use borrow.Author.Tests.{ltb-true, leb-true, leb-false, eqb-true, lt-ltb, le-ltb, eq-eqb, ne_eqb}
use Rattle.lists.specs.Tables.{select}
use Rattle.lists.proofs.Tables.{cell_put_same}
use Rattle.lists.proofs.Selected.{Each, each_always, each_select, each_sort}
use Rattle.clock.specs.Clocks.{entry_of}
use Rattle.diff.specs.Reading.{applied}
use Rattle.diff.specs.inner.Settings.{setting_at}
use Rattle.diff.proofs.Theorems.{applied_word}
use Rattle.rules.specs.State.{Limits, Holder, Processor, Applied, Clocks, clock_of, with_clock, copy_of, Record, State, clock, standing}
use Rattle.rules.specs.Fetch.{is_pending, sum_at, earlier, due, applied_all, with_copy, fetched, applying}
use Rattle.rules.proofs.state.Skipping.{skipping_changes_nothing}
use Rattle.rules.proofs.state.Holders.{same_holder, clock_of_with_same, clock_of_with_other}
use Rattle.rules.proofs.state.CopyWords.{length_applied, length_applied_all, with_copy_lem}
use Rattle.rules.proofs.word.WordOfRecords.{nth, sets_word, word_after, Rising, FreshUp, hit_page}
use Rattle.rules.proofs.word.SortedRecords.{rising_select, word_after_sort, word_after_fresh}

-- ---- which records a copy lacks

-- by another processor than p and above a clock
unfoldable pub above : ℕ → List ℕ → Record → Bool
above p v r = not (eqb r.processor p) && ltb (entry_of v r.processor) r.interval

-- above the applied clock of the page: its words are not in the copy
abbrev pub fresh : ℕ → ℕ → Clocks → Record → Bool
fresh p g c = above p (clock_of c (Applied p g))

-- above the processor's clock: its interval is not known
abbrev pub unknown : ℕ → Clocks → Record → Bool
unknown p c = above p (clock_of c (Processor p))

leb_not_ltb : (a b : ℕ) → leb a b ≡ not (ltb b a)
leb_not_ltb a b = go (leb a b) refl
  where
    go : (t : Bool) → leb a b ≡ t → t ≡ not (ltb b a)
    go true e = sym (ap not (le-ltb b a (leb-true a b e)))
    go false e = sym (ap not (lt-ltb b a (leb-false a b e)))

pending_parts : (page other above seen : Bool) → page ≡ true → (page && other && above && seen) ≡ ((other && above) && not (other && not seen))
pending_parts true true true true e = refl
pending_parts true true true false e = refl
pending_parts true true false true e = refl
pending_parts true true false false e = refl
pending_parts true false above seen e = refl
pending_parts false other above seen e = absurd (false≢true e)

-- a record of the page is pending when it is fresh and not unknown
pub pending_is_fresh : (c : Clocks) (p g : ℕ) (r : Record) → eqb r.page g ≡ true → is_pending c p g r ≡ (fresh p g c r && not (unknown p c r))
unfolding is_pending above
pending_is_fresh c p g r e =
    let a : ℕ = entry_of (clock_of c (Applied p g)) r.processor in
    let k : ℕ = entry_of (clock_of c (Processor p)) r.processor in
    pending_parts (eqb r.page g) (not (eqb r.processor p)) (ltb a r.interval) (leb r.interval k) e
    ∙ ap (λ (t : Bool). (not (eqb r.processor p) && ltb a r.interval) && not (not (eqb r.processor p) && t))
    (ap not (leb_not_ltb r.interval k) ∙ not_not (ltb k r.interval))
  where
    not_not : (t : Bool) → not (not t) ≡ t
    not_not true = refl
    not_not false = refl

-- what is unknown is fresh where the applied clock is within the processor's
pub unknown_is_fresh : (c : Clocks) (p g : ℕ) → ((q : ℕ) → entry_of (clock_of c (Applied p g)) q ≤ entry_of (clock_of c (Processor p)) q)
    → (r : Record) → unknown p c r ≡ true → fresh p g c r ≡ true
unfolding above
unknown_is_fresh c p g h r e =
    let a : ℕ = entry_of (clock_of c (Applied p g)) r.processor in
    let k : ℕ = entry_of (clock_of c (Processor p)) r.processor in
    let t = (and-eq-true_iff (not (eqb r.processor p)) (ltb k r.interval)).0 e in
    (and-eq-true_iff (not (eqb r.processor p)) (ltb a r.interval)).1
    (t.0, lt-ltb a r.interval (omega (arith, h r.processor, ltb-true k r.interval t.1)))

-- ---- the records that a fetch applies

-- a record of smaller sum is earlier
pub smaller_sum_earlier : (c : Clocks) (x y : Record) → sum_at c x < sum_at c y → earlier c x y ≡ true
unfolding earlier
smaller_sum_earlier c x y h = rw (ne_eqb (sum_at c x) (sum_at c y) (λ e. omega (arith, e, h))) (lt-ltb (sum_at c x) (sum_at c y) h)

-- a pending record is one of the page
pub pending_page : (c : Clocks) (p g : ℕ) (r : Record) → is_pending c p g r ≡ true → r.page ≡ g
unfolding is_pending
pending_page c p g r e =
    let a : ℕ = entry_of (clock_of c (Applied p g)) r.processor in
    let k : ℕ = entry_of (clock_of c (Processor p)) r.processor in
    eqb-true r.page g (first (eqb r.page g) (not (eqb r.processor p)) (ltb a r.interval) (leb r.interval k) e)
  where
    first : (x y z w : Bool) → (x && y && z && w) ≡ true → x ≡ true
    first true y z w e = refl
    first false y z w e = absurd (false≢true e)

-- all of them are of the page
pub due_of_page : (s : State) (p g : ℕ) → Each (λ r. r.page ≡ g) (due s p g)
unfolding due
due_of_page s p g =
    each_sort (λ r. r.page ≡ g) (earlier s.clocks) (select (is_pending s.clocks p g) (standing s))
    (each_select (λ r. Unit) (λ r. r.page ≡ g) (is_pending s.clocks p g) (standing s) (λ r e u. pending_page s.clocks p g r e)
    (each_always (λ r. Unit) (standing s) (λ r. tt)))

-- ---- records applied to a page

module _ (words g o : ℕ) where
  -- its word is what the records make of it
  pub applied_all_word : (rs : List Record) (page : List ℕ) → Each (λ r. r.page ≡ g) rs → o < length page
      → get_or (applied_all words rs page) o 0 ≡ word_after words g o rs (get_or page o 0)
  unfolding applied_all word_after sets_word
  applied_all_word [] page e h = refl
  applied_all_word (r ∷ rs) page e h =
      applied_all_word rs (applied words r.diff page) e.1 (rw (length_applied words r.diff page) h)
      ∙ ap (word_after words g o rs)
      (applied_word words r.diff page o h
      ∙ ap (λ (b : Bool). Option.get_or (cond b (setting_at words r.diff o) none) (get_or page o 0)) (sym (eq-eqb r.page g e.0)))

-- ---- the fetch

module _ (lim : Limits) (s : State) (p g : ℕ) where
  -- the copy has the records that are not skipped
  pub fetched_applying : copy_of (fetched lim s p g).pages p g ≡ applied_all lim.words (applying lim s p g) (copy_of s.pages p g)
  unfolding fetched with_copy copy_of
  fetched_applying = cell_put_same [] s.pages.copies p g (applied_all lim.words (applying lim s p g) (copy_of s.pages p g))

  -- and is the one that applying all pending records gives
  pub fetched_copy : length (copy_of s.pages p g) ≡ lim.words → copy_of (fetched lim s p g).pages p g ≡ applied_all lim.words (due s p g) (copy_of s.pages p g)
  unfolding applying
  fetched_copy long =
      fetched_applying
      ∙ skipping_changes_nothing lim.words (due s p g) (copy_of s.pages p g) long

  -- the copies of other processors, and of other pages, are as they were
  pub fetched_elsewhere : (q h : ℕ) → (q ≡ p → h ≡ g → ⊥) → copy_of (fetched lim s p g).pages q h ≡ copy_of s.pages q h
  unfolding fetched
  fetched_elsewhere q h e =
      with_copy_lem s.pages p g (applied_all lim.words (applying lim s p g) (copy_of s.pages p g)) q h (λ (x : List ℕ). x ≡ copy_of s.pages q h) (λ a b. absurd (e a b)) refl

  -- and so are the sums of the intervals' clocks
  pub fetched_sum : (r : Record) → sum_at (fetched lim s p g).clocks r ≡ sum_at s.clocks r
  unfolding fetched sum_at with_clock clock_of
  fetched_sum r = refl

  -- every copy keeps its length
  pub fetched_length : (q h : ℕ) → length (copy_of (fetched lim s p g).pages q h) ≡ length (copy_of s.pages q h)
  unfolding fetched
  fetched_length q h =
      with_copy_lem s.pages p g (applied_all lim.words (applying lim s p g) (copy_of s.pages p g)) q h (λ (x : List ℕ). length x ≡ length (copy_of s.pages q h))
      (λ a b. rw (a, b) (length_applied_all lim.words (applying lim s p g) (copy_of s.pages p g))) refl

  -- no clock changes but the applied one of the page, which becomes the processor's
  pub fetched_clock : (h : Holder) → same_holder (Applied p g) h ≡ false → clock_of (fetched lim s p g).clocks h ≡ clock_of s.clocks h
  unfolding fetched
  fetched_clock h e = clock_of_with_other s.clocks (Applied p g) (clock s p) h e

  pub fetched_applied : clock_of (fetched lim s p g).clocks (Applied p g) ≡ clock s p
  unfolding fetched
  fetched_applied = clock_of_with_same s.clocks (Applied p g) (clock s p)

  -- the two are the same then
  pub fetched_current : clock_of (fetched lim s p g).clocks (Applied p g) ≡ clock_of (fetched lim s p g).clocks (Processor p)
  unfolding same_holder clock
  fetched_current = fetched_applied ∙ sym (fetched_clock (Processor p) refl)

  -- the other applied clocks are as they were
  pub fetched_applied_elsewhere : (q h : ℕ) → (q ≡ p → h ≡ g → ⊥) → clock_of (fetched lim s p g).clocks (Applied q h) ≡ clock_of s.clocks (Applied q h)
  unfolding same_holder
  fetched_applied_elsewhere q h e = fetched_clock (Applied q h) (go (ℕ_discrete q p))
    where
      go : Dec (q ≡ p) → (eqb q p && eqb h g) ≡ false
      go (yes k) = rw (eq-eqb q p k) (ne_eqb h g (e k))
      go (no k) = rw (ne_eqb q p k)

  -- a word that had all but the fresh records has all but the unknown ones
  pub fetched_word : (o b : ℕ) → length (copy_of s.pages p g) ≡ lim.words → o < lim.words
      → Rising lim.words g o (sum_at s.clocks) (standing s)
      → FreshUp lim.words g o (sum_at s.clocks) (fresh p g s.clocks) (standing s)
      → ((q : ℕ) → entry_of (clock_of s.clocks (Applied p g)) q ≤ entry_of (clock_of s.clocks (Processor p)) q)
      → get_or (copy_of s.pages p g) o 0 ≡ word_after lim.words g o (select (λ r. not (fresh p g s.clocks r)) (standing s)) b
      → get_or (copy_of (fetched lim s p g).pages p g) o 0 ≡ word_after lim.words g o (select (λ r. not (unknown p s.clocks r)) (standing s)) b
  unfolding due
  fetched_word o b long h rise up within before =
      let l : List Record = select (is_pending s.clocks p g) (standing s) in
      ap (λ (c : List ℕ). get_or c o 0) (fetched_copy long)
      ∙ applied_all_word lim.words g o (due s p g) (copy_of s.pages p g) (due_of_page s p g) (rw long h)
      ∙ word_after_sort lim.words g o (earlier s.clocks) (sum_at s.clocks) (smaller_sum_earlier s.clocks) l
      (rising_select lim.words g o (sum_at s.clocks) (is_pending s.clocks p g) (standing s) rise) (get_or (copy_of s.pages p g) o 0)
      ∙ ap (word_after lim.words g o l) before
      ∙ word_after_fresh lim.words g o (sum_at s.clocks) (fresh p g s.clocks) (unknown p s.clocks) (is_pending s.clocks p g) (standing s) rise up
      (unknown_is_fresh s.clocks p g within)
      (λ i a. pending_is_fresh s.clocks p g (nth (standing s) i) (eq-eqb (nth (standing s) i).page g (hit_page lim.words g o (nth (standing s) i) a.hit))) b
