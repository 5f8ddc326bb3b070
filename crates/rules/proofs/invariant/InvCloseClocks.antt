-- Closing, for the clocks and the new records: only a processor with stores to w makes a record that sets w, and that record has the last
-- value. Rests on KeptNewRecords, NewRecords, InvSame and InvTicks. Assumes nothing.
use Prim.Native.Nat.{ℕ, ◌+◌, ◌-◌, ◌≤◌, ◌<◌}
use native.Mathlib.Omega.{arith}
use native.Mathlib.Decide.{ℕ_discrete}
use mathlib.Core.Path.{◌≡◌, refl, sym, ap, ◌∙◌}
use mathlib.Core.Bool.{Bool, true, false, cond, ◌&&◌, false≢true}
use mathlib.Core.Option
use mathlib.Core.Option.{Option, none, some}
use mathlib.Core.List.{List, ◌++◌}
use lib.ListN.{length, get_or, length-append}
use lib.Dec.{eqb}
use borrow.Author.Tests.{eqb-true, eq-eqb, ne_eqb}
use Rattle.lists.proofs.Tables.{any_holds}
use Rattle.limits.specs.Limits.{word_values}
use Rattle.clock.specs.Clocks.{sum_of}
use Rattle.diff.specs.Format.{Below, setting, written}
use Rattle.diff.specs.inner.Settings.{setting_at}
use Rattle.diff.proofs.Theorems.{exactly_the_differing_words}
use Rattle.rules.specs.State.{Limits, Counts, Holder, Processor, Applied, Interval, Clocks, clock_of, with_clock, copy_of, twin_of, dirty_at, Record, State, clock, own, standing}
use Rattle.rules.specs.Close.{any_dirty, raised, ticked, new_record, closed}
use Rattle.rules.specs.Fetch.{is_set, sum_at}
use Rattle.rules.proofs.state.Holders.{same_holder, other_holder, clock_of_with_same, clock_of_with_other, Knows, knows_no_interval, entry_raised_own, entry_raised_other, sum_raised}
use Rattle.rules.proofs.state.Slots.{new_records}
use Rattle.rules.proofs.inorder.Facts.{InOrder, whole_copy, whole_twin}
use Rattle.rules.proofs.order.Ghosts.{Ghost}
use Rattle.rules.proofs.word.WordOfRecords.{nth, is_hit, word_after, HitAt}
use Rattle.rules.proofs.word.SelectedRecords.{nth_first, nth_second}
use Rattle.rules.proofs.word.NewRecords.{new_hit, one_new_hit, new_records_leave, page_record, new_records_set}
use Rattle.rules.proofs.invariant.Invariant.{Covered, PageInv, Inv}
use Rattle.rules.proofs.invariant.InvSame.{interval_known}
use Rattle.rules.proofs.invariant.InvTicks.{Ticks}

-- ---- the clocks after closing

module _ (s : State) (p : ℕ) where
  -- the raised clock of p
  abbrev up : List ℕ
  up = raised (clock s p) p

  ticked_other : (x : Holder) → same_holder (Processor p) x ≡ false → same_holder (Interval p (own s p + 1)) x ≡ false → clock_of (ticked s p) x ≡ clock_of s.clocks x
  unfolding ticked
  ticked_other x a b =
      clock_of_with_other (with_clock s.clocks (Processor p) up) (Interval p (own s p + 1)) up x b ∙ clock_of_with_other s.clocks (Processor p) up x a

  ticked_own : clock_of (ticked s p) (Processor p) ≡ up
  unfolding ticked same_holder
  ticked_own =
      clock_of_with_other (with_clock s.clocks (Processor p) up) (Interval p (own s p + 1)) up (Processor p) refl ∙ clock_of_with_same s.clocks (Processor p) up

  ticked_interval : clock_of (ticked s p) (Interval p (own s p + 1)) ≡ up
  unfolding ticked
  ticked_interval = clock_of_with_same (with_clock s.clocks (Processor p) up) (Interval p (own s p + 1)) up

  pub ticked_knower : (n : Counts) (x : Holder) → Knows n x → same_holder (Processor p) x ≡ false → clock_of (ticked s p) x ≡ clock_of s.clocks x
  ticked_knower n x kx e = ticked_other x e (other_holder (Interval p (own s p + 1)) x (λ d. knows_no_interval n x p (own s p + 1) kx (sym d)))

  -- the clocks after closing are the old or the ticked ones
  by_clocks : (P : Clocks → Type 0) → P s.clocks → P (ticked s p) → P (closed s p).clocks
  unfolding closed
  by_clocks P a b = go (any_dirty s p)
    where
      go : (t : Bool) → P (cond t (ticked s p) s.clocks)
      go true = b
      go false = a

  -- they are the ticked ones where a page is dirty
  closed_ticked : (g : ℕ) → g < s.counts.pages → dirty_at s.pages p g ≡ true → (closed s p).clocks ≡ ticked s p
  unfolding closed any_dirty
  closed_ticked g h e = rw (any_holds s.counts.pages (dirty_at s.pages p) g h e)

  -- the record of an interval that was made keeps its sum
  old_interval : (r : Record) → r.interval ≤ own s r.processor → sum_at (ticked s p) r ≡ sum_at s.clocks r
  unfolding sum_at same_holder
  old_interval r h = ap sum_of (ticked_other (Interval r.processor r.interval) refl (go (ℕ_discrete r.processor p)))
    where
      go : Dec (r.processor ≡ p) → (eqb r.processor p && eqb r.interval (own s p + 1)) ≡ false
      go (yes e) = rw (eq-eqb r.processor p e) (ne_eqb r.interval (own s p + 1) (λ z. omega (arith, z, rw e at h)))
      go (no e) = rw (ne_eqb r.processor p e)

  -- and the one of a new interval has the raised clock's
  new_interval_sum : (g : ℕ) → sum_at (ticked s p) (new_record s p g) ≡ sum_of up
  unfolding sum_at new_record
  new_interval_sum g = ap sum_of ticked_interval

-- a word that a setting from a to b finds at a is b afterwards
setting_word : (a b x : ℕ) → x ≡ a → Option.get_or (setting a b) x ≡ b
unfolding setting
setting_word a b x e = go (eqb a b) refl
  where
    go : (t : Bool) → eqb a b ≡ t → Option.get_or (cond t none (some b)) x ≡ b
    go true q = e ∙ eqb-true a b q
    go false q = refl

-- a setting that sets is between different words
setting_differs : (a b : ℕ) → is_set (setting a b) ≡ true → a ≡ b → ⊥
unfolding setting is_set
setting_differs a b e q = false≢true (sym (ap (λ (t : Bool). is_set (cond t none (some b))) (eq-eqb a b q)) ∙ e)

module _ (lim : Limits) (g o : ℕ) (s : State) (γ : Ghost) (p : ℕ) (ord : InOrder lim s) (in_page : o < lim.words) (opened_page : g < s.counts.pages) (h : 1 ≤ p)
    (k : p ≤ s.counts.processors) (fit : Below word_values (copy_of s.pages p g)) (inv : Inv lim.words g o s γ) where
  abbrev l : List Record
  l = standing s

  abbrev new : List Record
  new = new_records s p s.counts.pages

  abbrev c' : Clocks
  c' = (closed s p).clocks

  before : PageInv lim.words g o p s.clocks s.pages l γ.writer γ.last γ.base
  before = inv.page p h k

  -- what the diff of page g does to the word
  page_setting : setting_at lim.words (written (twin_of s.pages p g) (copy_of s.pages p g)) o ≡ setting (get_or (twin_of s.pages p g) o 0) (get_or (copy_of s.pages p g) o 0)
  page_setting =
      exactly_the_differing_words lim.words (twin_of s.pages p g) (copy_of s.pages p g) (whole_twin lim s ord p g h k opened_page)
      (whole_copy lim s ord p g h k opened_page) fit o in_page

  -- the new records leave the copy's word, once the twin's is there
  pub new_word : (x : ℕ) → (dirty_at s.pages p g ≡ true → x ≡ get_or (twin_of s.pages p g) o 0) → (dirty_at s.pages p g ≡ false → x ≡ get_or (copy_of s.pages p g) o 0)
      → word_after lim.words g o new x ≡ get_or (copy_of s.pages p g) o 0
  new_word x dirty clean = go (dirty_at s.pages p g) refl
    where
      go : (b : Bool) → dirty_at s.pages p g ≡ b → word_after lim.words g o new x ≡ get_or (copy_of s.pages p g) o 0
      go true e =
          new_records_set s p lim.words g o s.counts.pages x opened_page e ∙ ap (λ (v : Option ℕ). Option.get_or v x) page_setting
          ∙ setting_word (get_or (twin_of s.pages p g) o 0) (get_or (copy_of s.pages p g) o 0) x (dirty e)
      go false e = new_records_leave s p lim.words g o s.counts.pages x e ∙ clean e

  -- ---- a new record that sets the word

  behind : (i : ℕ) → HitAt lim.words g o (l ++ new) i → length l ≤ i → HitAt lim.words g o new (i - length l)
  behind i hi ki =
      record {
        within = omega (arith, hi.within, ki, length-append l new);
        hit = rw (nth_second l new i ki) at hi.hit;
      }

  pub new_is : (i : ℕ) → HitAt lim.words g o (l ++ new) i → length l ≤ i → nth (l ++ new) i ≡ new_record s p g
  new_is i hi ki = nth_second l new i ki ∙ (new_hit s p lim.words g o s.counts.pages (i - length l) (behind i hi ki)).is

  new_dirty : (i : ℕ) → HitAt lim.words g o (l ++ new) i → length l ≤ i → dirty_at s.pages p g ≡ true
  new_dirty i hi ki = (new_hit s p lim.words g o s.counts.pages (i - length l) (behind i hi ki)).is_dirty

  pub new_by_writer : (i : ℕ) → HitAt lim.words g o (l ++ new) i → length l ≤ i → γ.writer ≡ p
  unfolding is_hit
  new_by_writer i hi ki = go (ℕ_discrete γ.writer p)
    where
      dirty : dirty_at s.pages p g ≡ true
      dirty = new_dirty i hi ki

      differs : get_or (twin_of s.pages p g) o 0 ≡ get_or (copy_of s.pages p g) o 0 → ⊥
      differs =
          setting_differs (get_or (twin_of s.pages p g) o 0) (get_or (copy_of s.pages p g) o 0)
          (ap is_set (sym page_setting) ∙ ap is_set (sym (page_record s p lim.words g o)) ∙ (rw (new_is i hi ki) at hi.hit))

      go : Dec (γ.writer ≡ p) → γ.writer ≡ p
      go (yes e) = e
      go (no e) = absurd (differs (before.dirty_twin dirty ∙ sym (before.dirty_copy dirty e)))

  made : (i : ℕ) → i < length l → (nth l i).interval ≤ own s (nth l i).processor
  made = interval_known lim s ord

  -- ---- the clocks and records after closing

  pub closing_ticks : Ticks lim.words g o s.counts s.clocks c' p l (l ++ new) γ.writer
  unfolding new_record own clock same_holder
  closing_ticks =
      record {
        others = λ x kx e. by_clocks s p (λ c. clock_of c x ≡ clock_of s.clocks x) refl (ticked_knower s p s.counts x kx e);
        applied = λ q. by_clocks s p (λ c. clock_of c (Applied q g) ≡ clock_of s.clocks (Applied q g)) refl (ticked_other s p (Applied q g) refl refl);
        old_covered = λ i ki v. by_clocks s p (λ c. Covered (clock_of c (Processor p)) (nth l i)) v (rw (ticked_own s p) (raised_covers i v));
        covered_before = λ i ki. by_clocks s p (λ c. Covered (clock_of c (Processor p)) (nth l i) → Covered (clock_of s.clocks (Processor p)) (nth l i)) (λ v. v)
            (λ v. lowered_covers i ki (rw (ticked_own s p) at v));
        sum_grows = by_clocks s p (λ c. sum_of (clock_of s.clocks (Processor p)) ≤ sum_of (clock_of c (Processor p))) (omega arith)
            (rw (ticked_own s p) (omega (arith, sum_raised (clock s p) p h)));
        sums = λ i ki. by_clocks s p (λ c. sum_at c (nth l i) ≡ sum_at s.clocks (nth l i)) refl (old_interval s p (nth l i) (made i ki));
        old = λ i ki. nth_first l new i ki;
        new_writer = new_by_writer;
        new_processor = λ i hi ki. ap (λ (r : Record). r.processor) (new_is i hi ki);
        new_unknown = λ v within i hi ki cov. omega (arith, rw (new_is i hi ki) at cov, within p);
        new_covered = λ i hi ki. rw (new_is i hi ki, closed_ticked s p g opened_page (new_dirty i hi ki), ticked_own s p) (omega (arith, entry_raised_own (clock s p) p h));
        new_sum = λ i hi ki. omega (arith, new_sum_is i hi ki, sum_raised (clock s p) p h);
        new_bounded = λ i hi ki. rw (closed_ticked s p g opened_page (new_dirty i hi ki), ticked_own s p) (omega (arith, rw (closed_ticked s p g opened_page (new_dirty i hi ki)) at (new_sum_is i hi ki)));
        one_new = λ i j hi hj ki less.
            one_new_hit s p lim.words g o s.counts.pages (i - length l) (j - length l) (behind i hi ki) (behind j hj (omega (arith, ki, less))) (omega (arith, ki, less));
      }
    where
      raised_covers : (i : ℕ) → Covered (clock s p) (nth l i) → Covered (raised (clock s p) p) (nth l i)
      raised_covers i v = go (ℕ_discrete (nth l i).processor p)
        where
          go : Dec ((nth l i).processor ≡ p) → Covered (raised (clock s p) p) (nth l i)
          go (yes e) = rw e (omega (arith, entry_raised_own (clock s p) p h, rw e at v))
          go (no e) = rw (entry_raised_other (clock s p) p (nth l i).processor e) v

      lowered_covers : (i : ℕ) → i < length l → Covered (raised (clock s p) p) (nth l i) → Covered (clock s p) (nth l i)
      lowered_covers i ki v = go (ℕ_discrete (nth l i).processor p)
        where
          go : Dec ((nth l i).processor ≡ p) → Covered (clock s p) (nth l i)
          go (yes e) = rw e (rw e at (made i ki))
          go (no e) = rw (entry_raised_other (clock s p) p (nth l i).processor e) at v

      new_sum_is : (i : ℕ) → HitAt lim.words g o (l ++ new) i → length l ≤ i → sum_at c' (nth (l ++ new) i) ≡ sum_of (raised (clock s p) p)
      new_sum_is i hi ki =
          ap (sum_at c') (new_is i hi ki) ∙ ap (λ (c : Clocks). sum_at c (new_record s p g)) (closed_ticked s p g opened_page (new_dirty i hi ki)) ∙ new_interval_sum s p g
