-- The values that words can have: a property of the words of every copy and of every record, by page and offset, that each accepted step
-- keeps. Rests on Slots, Fetches, Accepted, KeptPages and FetchedWord. Assumes nothing.
use Prim.Native.Nat.{ℕ, zero, suc, ◌%◌, ◌≤◌, ◌<◌}
use native.Mathlib.Omega.{arith}
use mathlib.Core.Path.{◌≡◌, refl, sym, ◌∙◌, subst}
use mathlib.Core.Bool.{Bool, true, false, cond}
use mathlib.Core.Option.{some}
use mathlib.Core.List.{List, [], ◌∷◌, ◌++◌}
use lib.ListN.{length, get_or, set, length-set}
use lib.Dec.{lit<}
use Rattle.lists.specs.Tables.{select}
use Rattle.lists.proofs.Selected.{Each, each_append, each_select, each_sort}
use Rattle.limits.specs.Limits.{word_values}
use Rattle.diff.specs.Format.{Below}
use Rattle.diff.specs.inner.Settings.{setting_at}
use Rattle.diff.proofs.Theorems.{exactly_the_differing_words}
use Rattle.rules.specs.State.{dirty_at, Limits, Clocks, Pages, copy_of, twin_of, Record, records_of, Marks, State, with_clocks, with_pages, with_marks, standing, Shared, with_shared}
use Rattle.rules.specs.InOrder.{record_at}
use Rattle.rules.specs.Close.{new_record, cleaned, closed}
use Rattle.rules.specs.Fetch.{is_pending, earlier, due, applied_all, fetched, replaced, unreplaced, applying}
use Rattle.rules.specs.Steps.{page_of_word, offset_of_word, read, twin_taken, stored, write, acquire, release, at_barrier, all_arrived, round_done, none_fetched, emptied, collected, wants_collection, arrive, want, enqueue, dequeue}
use Rattle.rules.specs.Tallies.{tally_added}
use Rattle.rules.specs.Refusals.{Step, Action, Read, Write, Acquire, Release, Arrive, Want, TallyAdd, TallyRead, Enqueue, Dequeue, Unknown, action_of, effect}
use Rattle.rules.proofs.state.Slots.{new_records, slots_recorded, records_recorded, each_standing, standing_each}
use Rattle.rules.proofs.state.CopyWords.{length_applied_all, word_applied_all, setting_new, with_copy_lem, word_set, words_below}
use Rattle.rules.proofs.state.Fetches.{all_fetched_keep}
use Rattle.rules.proofs.inorder.Facts.{InOrder, slots_enough, whole_copy, whole_twin}
use Rattle.rules.proofs.inorder.Accepted.{Accepted, present_says}
use Rattle.rules.proofs.inorder.KeptPages.{twin_taken_copies}
use Rattle.rules.proofs.word.FetchedWord.{pending_page}

-- Good g o x: x may be a value of the word at offset o of page g. The copies hold such values, and the records set words to such values.
-- Twins need none: a record takes its values from the copy
pub record ValuesGood (lim : Limits) (Good : ℕ → ℕ → ℕ → Type 0) (s : State) : Type 0 where
  pub copies : (p g o : ℕ) → 1 ≤ p → p ≤ s.counts.processors → g < s.counts.pages → o < lim.words → Good g o (get_or (copy_of s.pages p g) o 0)
  pub records : (i o v : ℕ) → i < s.records.standing → o < lim.words → setting_at lim.words (record_at s i).diff o ≡ some v → Good (record_at s i).page o v

module _ (lim : Limits) (Good : ℕ → ℕ → ℕ → Type 0) where
  -- what one record sets
  unfoldable RecordGood : Record → Type 0
  RecordGood r = (o v : ℕ) → o < lim.words → setting_at lim.words r.diff o ≡ some v → Good r.page o v

  -- the same property over the list of standing records, with the lengths that the parts of a step need
  record Holding (s : State) : Type 0 where
    whole : (p g : ℕ) → 1 ≤ p → p ≤ s.counts.processors → g < s.counts.pages → length (copy_of s.pages p g) ≡ lim.words
    copies : (p g o : ℕ) → 1 ≤ p → p ≤ s.counts.processors → g < s.counts.pages → o < lim.words → Good g o (get_or (copy_of s.pages p g) o 0)
    slots : s.records.standing ≤ length s.records.slots
    records : Each RecordGood (standing s)

  holding : (s : State) → InOrder lim s → ValuesGood lim Good s → Holding s
  unfolding standing RecordGood record_at
  holding s ord h =
      record {
        whole = whole_copy lim s ord;
        copies = h.copies;
        slots = slots_enough lim s ord;
        records = each_standing RecordGood s.records (slots_enough lim s ord) (λ i l o v m e. h.records i o v l m e);
      }

  held : (s : State) → Holding s → ValuesGood lim Good s
  unfolding standing RecordGood record_at
  held s h =
      record {
        copies = h.copies;
        records = λ i o v l m e. standing_each RecordGood s.records h.slots h.records i l o v m e;
      }

  -- ---- fetching

  due_good : (s : State) (p g o : ℕ) → o < lim.words → Each RecordGood (standing s) → Each (λ r. (v : ℕ) → setting_at lim.words r.diff o ≡ some v → Good g o v) (due s p g)
  unfolding due RecordGood
  due_good s p g o l h =
      each_sort (λ (r : Record). (v : ℕ) → setting_at lim.words r.diff o ≡ some v → Good g o v) (earlier s.clocks) (select (is_pending s.clocks p g) (standing s))
      (each_select RecordGood (λ (r : Record). (v : ℕ) → setting_at lim.words r.diff o ≡ some v → Good g o v) (is_pending s.clocks p g) (standing s) pick h)
    where
      pick : (r : Record) → is_pending s.clocks p g r ≡ true → RecordGood r → (v : ℕ) → setting_at lim.words r.diff o ≡ some v → Good g o v
      pick r e a v k = rw (pending_page s.clocks p g r e) at (a o v l k)

  -- those that are not skipped are among them
  applying_good : (X : Record → Type 0) (w : ℕ) (rs : List Record) → Each X rs → Each X (unreplaced w rs)
  unfolding unreplaced
  applying_good X w [] h = tt
  applying_good X w (r ∷ rs) h = go (replaced w r rs) (applying_good X w rs h.1)
    where
      go : (b : Bool) → Each X (unreplaced w rs) → Each X (cond b (unreplaced w rs) (r ∷ unreplaced w rs))
      go true k = k
      go false k = (h.0, k)

  fetched_holding : (s : State) (p g : ℕ) → Holding s → Holding (fetched lim s p g)
  unfolding fetched standing
  fetched_holding s p g h =
      let page : List ℕ = applied_all lim.words (applying lim s p g) (copy_of s.pages p g) in
      record {
        whole = λ q k a b l.
            with_copy_lem s.pages p g page q k (λ (x : List ℕ). length x ≡ lim.words)
            (λ e f. length_applied_all lim.words (applying lim s p g) (copy_of s.pages p g) ∙ (rw (e, f) at (h.whole q k a b l))) (h.whole q k a b l);
        copies = λ q k o a b l m.
            with_copy_lem s.pages p g page q k (λ (x : List ℕ). Good k o (get_or x o 0))
            (λ e f. rw f
            (word_applied_all (Good g o) lim.words o (applying lim s p g) (copy_of s.pages p g)
            (let n : length (copy_of s.pages p g) ≡ lim.words = rw (e, f) at (h.whole q k a b l) in omega (arith, n, m))
            (unfold applying in applying_good (λ r. (v : ℕ) → setting_at lim.words r.diff o ≡ some v → Good g o v) lim.words (due s p g) (due_good s p g o m h.records)) (rw (e, f) at (h.copies q k o a b l m))))
            (h.copies q k o a b l m);
        slots = h.slots;
        records = h.records;
      }

  collected_holding : (s : State) → Holding s → Holding (collected lim s).after
  unfolding collected emptied standing records_of
  collected_holding s h =
      let f = all_fetched_keep lim s Holding (λ u p g a b l. fetched_holding u p g) h in
      record { whole = f.whole; copies = f.copies; slots = omega arith; records = tt }

  -- ---- storing

  twinned_holding : (s : State) (p g : ℕ) → Holding s → Holding (with_pages s (twin_taken s.pages p g))
  unfolding standing copy_of
  twinned_holding s p g h =
      record {
        whole = λ q k a b l. rw (twin_taken_copies s.pages p g) (h.whole q k a b l);
        copies = λ q k o a b l m. rw (twin_taken_copies s.pages p g) (h.copies q k o a b l m);
        slots = h.slots;
        records = h.records;
      }

  written_holding : (s : State) (p w v : ℕ) → Good (page_of_word lim w) (offset_of_word lim w) (v % word_values) → Holding s → Holding (write lim s p w v).after
  unfolding write stored standing
  written_holding s p w v new h =
      let g : ℕ = page_of_word lim w in
      let i : ℕ = offset_of_word lim w in
      let m : Pages = twin_taken (fetched lim s p g).pages p g in
      let page : List ℕ = set (copy_of m p g) i (v % word_values) in
      let f = twinned_holding (fetched lim s p g) p g (fetched_holding s p g h) in
      record {
        whole = λ q k a b l.
            with_copy_lem m p g page q k (λ (x : List ℕ). length x ≡ lim.words)
            (λ d e. length-set (copy_of m p g) i (v % word_values) ∙ (rw (d, e) at (f.whole q k a b l))) (f.whole q k a b l);
        copies = λ q k o a b l n.
            with_copy_lem m p g page q k (λ (x : List ℕ). Good k o (get_or x o 0))
            (λ d e. rw e
            (word_set (Good g) (copy_of m p g) i (v % word_values) o
            (let z : length (copy_of m p g) ≡ lim.words = rw (d, e) at (f.whole q k a b l) in omega (arith, z, n))
            new (rw (d, e) at (f.copies q k o a b l n))))
            (f.copies q k o a b l n);
        slots = f.slots;
        records = f.records;
      }

  -- ---- closing

  module _ (bounded : (g o x : ℕ) → Good g o x → x < word_values) (s : State) (p : ℕ) (some-p : 1 ≤ p) (present-p : p ≤ s.counts.processors)
      (twin : (g : ℕ) → g < s.counts.pages → length (twin_of s.pages p g) ≡ lim.words) (h : Holding s) where
    copy_below : (g : ℕ) → g < s.counts.pages → Below word_values (copy_of s.pages p g)
    copy_below g l =
        words_below word_values lim.words (copy_of s.pages p g) (lit< tt) (h.whole p g some-p present-p l)
        (λ i m. bounded g i (get_or (copy_of s.pages p g) i 0) (h.copies p g i some-p present-p l m))

    new_record_good : (g : ℕ) → g < s.counts.pages → RecordGood (new_record s p g)
    unfolding RecordGood new_record
    new_record_good g l o v m e =
        let old : List ℕ = twin_of s.pages p g in
        let new : List ℕ = copy_of s.pages p g in
        subst (Good g o)
        (setting_new (get_or old o 0) (get_or new o 0) v
        (sym (exactly_the_differing_words lim.words old new (twin g l) (h.whole p g some-p present-p l) (copy_below g l) o m) ∙ e))
        (h.copies p g o some-p present-p l m)

    new_records_good : (n : ℕ) → n ≤ s.counts.pages → Each RecordGood (new_records s p n)
    unfolding new_records
    new_records_good zero l = tt
    new_records_good (suc g) l = go (dirty_at s.pages p g) (new_records_good g (omega arith))
      where
        go : (b : Bool) → Each RecordGood (new_records s p g) → Each RecordGood (cond b (new_records s p g ++ new_record s p g ∷ []) (new_records s p g))
        go true r = each_append RecordGood (new_records s p g) (new_record s p g ∷ []) r (new_record_good g l, tt)
        go false r = r

    closed_holding : Holding (closed s p)
    unfolding closed cleaned copy_of standing
    closed_holding =
        record {
          whole = h.whole;
          copies = h.copies;
          slots = slots_recorded s p s.counts.pages h.slots;
          records =
              rw (records_recorded s p s.counts.pages h.slots)
              (each_append RecordGood (standing s) (new_records s p s.counts.pages) h.records (new_records_good s.counts.pages (omega arith)));
        }

  -- ---- the steps

  -- with the same counts, pages and records the property is the same: clocks and marks do not matter
  moved : (s : State) (c : Clocks) (m : Marks) → Holding s → Holding (with_marks (with_clocks s c) m)
  unfolding standing
  moved s c m h = record { whole = h.whole; copies = h.copies; slots = h.slots; records = h.records }

  shared_aside : (s : State) (k : Shared) → Holding s → Holding (with_shared s k)
  unfolding standing
  shared_aside s k h = record { whole = h.whole; copies = h.copies; slots = h.slots; records = h.records }

  arrived_holding : (s : State) (p : ℕ) → Holding (closed s p) → Holding (arrive lim s p).after
  unfolding arrive at_barrier round_done
  arrived_holding s p h = go (all_arrived (at_barrier s p)) (wants_collection (at_barrier s p))
    where
      there : Holding (at_barrier s p)
      there = moved (closed s p) (at_barrier s p).clocks (at_barrier s p).marks h

      over : Holding (round_done (at_barrier s p))
      over = shared_aside (with_marks (with_clocks (at_barrier s p) (round_done (at_barrier s p)).clocks) (round_done (at_barrier s p)).marks) (round_done (at_barrier s p)).shared (moved (at_barrier s p) (round_done (at_barrier s p)).clocks (round_done (at_barrier s p)).marks there)

      go : (a b : Bool)
          → Holding (cond a (cond b (collected lim (round_done (at_barrier s p))) (none_fetched (round_done (at_barrier s p)))) (none_fetched (at_barrier s p))).after
      go true true = collected_holding (round_done (at_barrier s p)) over
      go true false = over
      go false b = there

-- every accepted step keeps the property, if a written value has it at its word
pub effect_keeps_values : (lim : Limits) (Good : ℕ → ℕ → ℕ → Type 0) (s : State) (t : Step)
    → ((g o x : ℕ) → Good g o x → x < word_values)
    → ((x v : ℕ) → action_of t ≡ Write x v → Good (page_of_word lim x) (offset_of_word lim x) (v % word_values))
    → InOrder lim s → Accepted lim s t → ValuesGood lim Good s → ValuesGood lim Good (effect lim s t.processor (action_of t)).after
unfolding effect read acquire release want enqueue dequeue
effect_keeps_values lim Good s t bounded new ord acc h =
    held lim Good (effect lim s t.processor (action_of t)).after (go (action_of t) refl)
  where
    p : ℕ
    p = t.processor

    there : (1 ≤ p) × (p ≤ s.counts.processors)
    there = present_says s p acc.processor_present

    start : Holding lim Good s
    start = holding lim Good s ord h

    shut : Holding lim Good (closed s p)
    shut =
        closed_holding lim Good bounded s p there.0 there.1
        (λ g. whole_twin lim s ord p g there.0 there.1) start

    go : (a : Action) → action_of t ≡ a → Holding lim Good (effect lim s p a).after
    go (Read w) e = fetched_holding lim Good s p (page_of_word lim w) start
    go (Write w v) e = written_holding lim Good s p w v (new w v e) start
    go (Acquire l) e = moved lim Good (closed s p) (acquire s p l).clocks (acquire s p l).marks shut
    go (Release l) e = moved lim Good (closed s p) (release s p l).clocks (release s p l).marks shut
    go Arrive e = arrived_holding lim Good s p shut
    go Want e = moved lim Good s s.clocks (want s).marks start
    go (TallyAdd j v) e = shared_aside lim Good s (tally_added s.shared p j v) start
    go (TallyRead j) e = start
    go (Enqueue j) e = shared_aside lim Good (with_marks (with_clocks (closed s p) (enqueue lim s p j).clocks) (enqueue lim s p j).marks) (enqueue lim s p j).shared (moved lim Good (closed s p) (enqueue lim s p j).clocks (enqueue lim s p j).marks shut)
    go Dequeue e = moved lim Good (closed s p) (dequeue lim s p).after.clocks (dequeue lim s p).after.marks shut
    go Unknown e = start

-- so does a fetch by any processor of any page
pub fetched_keeps_values : (lim : Limits) (Good : ℕ → ℕ → ℕ → Type 0) (s : State) (p g : ℕ)
    → InOrder lim s → ValuesGood lim Good s → ValuesGood lim Good (fetched lim s p g)
fetched_keeps_values lim Good s p g ord h = held lim Good (fetched lim s p g) (fetched_holding lim Good s p g (holding lim Good s ord h))
