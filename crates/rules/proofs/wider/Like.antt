-- States of limits that differ in the pages and the records that there can be: alike but for the five tables of full size, which agree on the present pages
-- and the standing records. What a fetch and a store leave of such states. Rests on Tables. Assumes nothing.
use Prim.Native.Nat.{ℕ, ◌≤◌, ◌<◌, ◌/◌, ◌%◌}
use mathlib.Core.Path.{◌≡◌, refl, ap, ap₂, ◌∙◌}
use mathlib.Core.Bool.{Bool, true, false, cond, not, ◌&&◌}
use mathlib.Core.List.{List, [], map}
use lib.ListN.{length, take, set}
use lib.Dec.{eqb, leb, ltb}
use Rattle.lists.specs.Tables.{cell, put_cell, select, sort_by}
use Rattle.lists.proofs.Tables.{cells_same_put}
use Rattle.limits.specs.Limits.{word_values}
use Rattle.clock.specs.Clocks.{entry_of}
use Rattle.rules.specs.State.{Limits, Processor, Clocks, clock_of, with_clock, copy_of, dirty_at, Record, record_in, records_of, State, clock, standing, with_pages}
use Rattle.rules.specs.Fetch.{is_pending, sum_at, earlier, due, applied_all, applying, with_copy, fetched, fetch_count, fetch_words, unreplaced, words_in}
use Rattle.rules.specs.Steps.{page_of_word, offset_of_word, new_twin, twin_taken, stored}
use Rattle.rules.specs.WiderLimits.{wider}

-- the tables whose size depends on the pages and records that there can be
pub record Tables : Type 0 where
  pub applied : List (List (List ℕ))
  pub copies : List (List (List ℕ))
  pub twins : List (List (List ℕ))
  pub dirty : List (List ℕ)
  pub slots : List (List ℕ)

abbrev pub tables_of : State → Tables
tables_of s = record { applied = s.clocks.applied; copies = s.pages.copies; twins = s.pages.twins; dirty = s.pages.dirty; slots = s.records.slots }

-- clocks with other applied ones
abbrev pub swapped : Clocks → List (List (List ℕ)) → Clocks
swapped c a = record { processors = c.processors; locks = c.locks; barrier = c.barrier; applied = a; intervals = c.intervals; jobs = c.jobs }

-- a state with other such tables
abbrev pub other : State → Tables → State
other s x =
    record {
      counts = s.counts;
      clocks = swapped s.clocks x.applied;
      pages = record { copies = x.copies; twins = x.twins; dirty = x.dirty };
      records = record { standing = s.records.standing; slots = x.slots };
      marks = s.marks;
      shared = s.shared;
    }

-- tables that agree on so many pages and records
pub record AgreeOnPresent (pages standing : ℕ) (x y : Tables) : Type 0 where
  pub applied : (p g : ℕ) → g < pages → cell [] y.applied p g ≡ cell [] x.applied p g
  pub copies : (p g : ℕ) → g < pages → cell [] y.copies p g ≡ cell [] x.copies p g
  pub twins : (p g : ℕ) → g < pages → cell [] y.twins p g ≡ cell [] x.twins p g
  pub dirty : (p g : ℕ) → g < pages → cell 0 y.dirty p g ≡ cell 0 x.dirty p g
  pub room : standing ≤ length x.slots
  pub room_there : standing ≤ length y.slots
  pub records : map record_in (take standing y.slots) ≡ map record_in (take standing x.slots)

-- tables that agree with a state's on its pages and its records
abbrev pub Fits : State → Tables → Type 0
Fits s x = AgreeOnPresent s.counts.pages s.records.standing (tables_of s) x

-- a state that is another but for such tables
pub record Like (s u : State) : Type 0 where
  pub same : u ≡ other s (tables_of u)
  pub agrees : Fits s (tables_of u)

-- what takes a state with any such tables to a state alike takes a state alike to one
pub goes_on : (s s' u : State) (step : State → State) → Like s u → ((x : Tables) → Fits s x → Like s' (step (other s x))) → Like s' (step u)
goes_on s s' u step h k = rw h.same (k (tables_of u) h.agrees)

-- ---- fetching

module _ (lim : Limits) (pages records : ℕ) (s : State) (x : Tables) (f : Fits s x) (p g : ℕ) (there : g < s.counts.pages) where
  due_same : due (other s x) p g ≡ due s p g
  unfolding due is_pending earlier sum_at clock_of standing records_of
  due_same =
      ap (λ (l : List Record). sort_by (earlier s.clocks) (select (is_pending (other s x).clocks p g) l)) f.records
      ∙ ap
      (λ (a : List ℕ). sort_by (earlier s.clocks)
      (select
      (λ (r : Record). eqb r.page g && not (eqb r.processor p) && ltb (entry_of a r.processor) r.interval
      && leb r.interval (entry_of (clock_of s.clocks (Processor p)) r.processor))
      (standing s)))
      (f.applied p g there)

  -- the same records are applied
  pub applying_same : applying (wider lim pages records) (other s x) p g ≡ applying lim s p g
  unfolding applying
  applying_same = ap (unreplaced lim.words) due_same

  pub count_same : fetch_count (wider lim pages records) (other s x) p g ≡ fetch_count lim s p g
  unfolding fetch_count
  count_same = ap length applying_same

  pub words_same : fetch_words (wider lim pages records) (other s x) p g ≡ fetch_words lim s p g
  unfolding fetch_words
  words_same = ap words_in applying_same

  pub fetched_like : Like (fetched lim s p g) (fetched (wider lim pages records) (other s x) p g)
  unfolding fetched with_copy copy_of with_clock clock clock_of
  fetched_like =
      record {
        same = refl;
        agrees =
            record {
              applied = cells_same_put [] x.applied s.clocks.applied p g (clock s p) (clock s p) s.counts.pages refl f.applied;
              copies =
                  cells_same_put [] x.copies s.pages.copies p g (applied_all lim.words (applying (wider lim pages records) (other s x) p g) (cell [] x.copies p g)) (applied_all lim.words (applying lim s p g) (cell [] s.pages.copies p g)) s.counts.pages
                  (ap₂ (λ (l : List Record) (c : List ℕ). applied_all lim.words l c) applying_same (f.copies p g there)) f.copies;
              twins = f.twins;
              dirty = f.dirty;
              room = f.room;
              room_there = f.room_there;
              records = f.records;
            };
      }

-- ---- stores

pub dirty_same : (s : State) (x : Tables) → Fits s x → (q g : ℕ) → g < s.counts.pages → dirty_at (other s x).pages q g ≡ dirty_at s.pages q g
unfolding dirty_at
dirty_same s x f q g l = ap (λ (m : ℕ). not (eqb m 0)) (f.dirty q g l)

-- a twin taken and a word stored
pub stored_like : (lim : Limits) (pages records : ℕ) (s : State) (x : Tables) → Fits s x → (p w v : ℕ) → page_of_word lim w < s.counts.pages
    → Like (with_pages s (stored lim (twin_taken s.pages p (page_of_word lim w)) p w v))
    (with_pages (other s x) (stored (wider lim pages records) (twin_taken (other s x).pages p (page_of_word lim w)) p w v))
unfolding twin_taken page_of_word
stored_like lim pages records s x f p w v there = rw (dirty_same s x f p g there) (go (dirty_at s.pages p g))
  where
    g : ℕ
    g = w / lim.words

    new : List ℕ → List ℕ
    new page = set page (w % lim.words) (v % word_values)

    stored_copies : (q h : ℕ) → h < s.counts.pages
        → cell [] (put_cell [] x.copies p g (new (cell [] x.copies p g))) q h ≡ cell [] (put_cell [] s.pages.copies p g (new (cell [] s.pages.copies p g))) q h
    stored_copies = cells_same_put [] x.copies s.pages.copies p g (new (cell [] x.copies p g)) (new (cell [] s.pages.copies p g)) s.counts.pages (ap new (f.copies p g there)) f.copies

    go : (b : Bool)
        → Like (with_pages s (stored lim (cond b s.pages (new_twin s.pages p g)) p w v)) (with_pages (other s x) (stored (wider lim pages records) (cond b (other s x).pages (new_twin (other s x).pages p g)) p w v))
    go true = unfold stored with_copy copy_of page_of_word offset_of_word in
        record { same = refl; agrees = record { applied = f.applied; copies = stored_copies; twins = f.twins; dirty = f.dirty; room = f.room; room_there = f.room_there; records = f.records } }
    go false = unfold stored with_copy copy_of new_twin page_of_word offset_of_word in
        record {
          same = refl;
          agrees =
              record {
                applied = f.applied;
                copies = stored_copies;
                twins = cells_same_put [] x.twins s.pages.twins p g (cell [] x.copies p g) (cell [] s.pages.copies p g) s.counts.pages (f.copies p g there) f.twins;
                dirty = cells_same_put 0 x.dirty s.pages.dirty p g 1 1 s.counts.pages refl f.dirty;
                room = f.room;
                room_there = f.room_there;
                records = f.records;
              };
        }
