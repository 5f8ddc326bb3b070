-- "In order" taken apart: what it says of the counts, the clocks, the pages, the records and the marks of a state, each by itself. Rests on
-- Outside. Assumes nothing.
use Prim.Native.Nat.{ℕ, suc, ◌+◌, ◌≤◌, ◌<◌}
use mathlib.Core.Path.{◌≡◌, refl, sym, ◌∙◌}
use mathlib.Core.Bool.{Bool, true, false, cond, not, ◌&&◌, and-eq-true_iff}
use mathlib.Core.Logic.{◌⊎◌}
use mathlib.Core.List.{List, []}
use lib.ListN.{length, get_or}
use lib.Dec.{leb, ltb, eqb}
use borrow.Author.Tests.{leb-true, le-leb}
use Rattle.lists.specs.Tables.{total}
use Rattle.lists.proofs.Tables.{Passes}
use Rattle.limits.specs.Limits.{slot_head}
use Rattle.clock.specs.Clocks.{entry_of}
use Rattle.diff.specs.Reading.{read_refusal}
use Rattle.rules.specs.State.{Limits, Counts, Holder, Processor, Lock, Barrier, Applied, Interval, Job, Clocks, clock_of, Pages, copy_of, twin_of, dirty_at, Records, record_in, Marks, Shared, adds_of, State, clock, own, holder, has_arrived}
use Rattle.rules.specs.Lines.{waits, turn_of}
use Rattle.rules.specs.InOrder.{present, slot_size, present_holder, record_at, same_notice, dirty_pages}
use Rattle.rules.proofs.inorder.Facts.{Within, LinesInOrder, InOrder}
use Rattle.rules.proofs.inorder.Rows.{Rows}
use Rattle.rules.proofs.inorder.Outside.{applied_rows, interval_rows, copies_rows, twins_rows, dirty_rows, adds_rows}

-- a present processor, by the counts alone
abbrev pub present_among : Counts → ℕ → Bool
present_among n p = leb 1 p && leb p n.processors

-- a present processor is 1 to the number of processors
pub among_says : (n : Counts) (p : ℕ) → present_among n p ≡ true → (1 ≤ p) × (p ≤ n.processors)
among_says n p e =
    let t = (and-eq-true_iff (leb 1 p) (leb p n.processors)).0 e in
    (leb-true 1 p t.0, leb-true p n.processors t.1)

-- and the other way round
pub among_when : (n : Counts) (p : ℕ) → 1 ≤ p → p ≤ n.processors → present_among n p ≡ true
among_when n p h k = (and-eq-true_iff (leb 1 p) (leb p n.processors)).1 (le-leb 1 p h, le-leb p n.processors k)

-- a present holder
unfoldable pub holder_among : Counts → Holder → Bool
holder_among n (Processor p) = present_among n p
holder_among n (Lock l) = ltb l n.locks
holder_among n Barrier = true
holder_among n (Applied p g) = present_among n p && ltb g n.pages
holder_among n (Interval p i) = present_among n p
holder_among n (Job k) = true

-- a processor's own entry, by the clocks alone
abbrev pub own_in : Clocks → ℕ → ℕ
own_in c p = entry_of (clock_of c (Processor p)) p

-- the dirty pages of a processor below a page
abbrev pub dirty_below : Pages → ℕ → ℕ → ℕ
dirty_below m p n = total n (λ g. cond (dirty_at m p g) 1 0)

-- the dirty pages of all processors
abbrev pub dirty_in : Counts → Pages → ℕ
dirty_in n m = total n.processors (λ k. dirty_below m (suc k) n.pages)

-- whether a processor has arrived, by the marks alone
abbrev pub arrived_in : Marks → ℕ → Bool
arrived_in k p = not (eqb (get_or k.arrived p 0) 0)

-- the counts in range
pub record CountsInOrder (lim : Limits) (n : Counts) : Type 0 where
  pub some_processor : 1 ≤ n.processors
  pub processors_fit : n.processors ≤ lim.processors
  pub some_page : 1 ≤ n.pages
  pub pages_fit : n.pages ≤ lim.pages
  pub some_lock : 1 ≤ n.locks
  pub locks_fit : n.locks ≤ lim.locks

-- the lengths of the clocks and of their tables
pub record ClocksSized (lim : Limits) (c : Clocks) : Type 0 where
  pub processors : length c.processors ≡ suc lim.processors
  pub nobody_clock : length (get_or c.processors 0 []) ≡ 0
  pub locks : length c.locks ≡ lim.locks
  pub applied : Rows lim lim.pages c.applied
  pub intervals : Rows lim (suc lim.intervals) c.intervals
  pub no_interval : (p : ℕ) → 1 ≤ p → p ≤ lim.processors → length (clock_of c (Interval p 0)) ≡ 0
  pub jobs : length c.jobs ≡ lim.jobs
  pub clocks : (h : Holder) → Within lim h → length (clock_of c h) ≡ lim.processors

-- the clocks, with the counts
pub record ClocksInOrder (lim : Limits) (n : Counts) (c : Clocks) : Type 0 where
  pub sized : ClocksSized lim c
  pub absent_clock : (h : Holder) (q : ℕ) → holder_among n h ≡ false → entry_of (clock_of c h) q ≡ 0
  pub absent_entry : (h : Holder) (q : ℕ) → present_among n q ≡ false → entry_of (clock_of c h) q ≡ 0
  pub later_interval : (p i q : ℕ) → own_in c p < i → entry_of (clock_of c (Interval p i)) q ≡ 0
  pub known : (h : Holder) (q : ℕ) → entry_of (clock_of c h) q ≤ own_in c q
  pub own_fits_lem : (p : ℕ) → own_in c p ≤ lim.intervals
  pub applied_known_lem : (p g q : ℕ) → entry_of (clock_of c (Applied p g)) q ≤ entry_of (clock_of c (Processor p)) q

-- the pages, with the counts
pub record PagesInOrder (lim : Limits) (n : Counts) (m : Pages) : Type 0 where
  pub copies : Rows lim lim.pages m.copies
  pub copy : (p g : ℕ) → 1 ≤ p → p ≤ lim.processors → g < lim.pages → length (copy_of m p g) ≡ lim.words
  pub twins : Rows lim lim.pages m.twins
  pub twin : (p g : ℕ) → 1 ≤ p → p ≤ lim.processors → g < lim.pages → length (twin_of m p g) ≡ lim.words
  pub dirty : Rows lim lim.pages m.dirty
  pub absent_copy : (p g o : ℕ) → holder_among n (Applied p g) ≡ false → get_or (copy_of m p g) o 0 ≡ 0
  pub absent_twin : (p g o : ℕ) → holder_among n (Applied p g) ≡ false → get_or (twin_of m p g) o 0 ≡ 0
  pub absent_clean : (p g : ℕ) → holder_among n (Applied p g) ≡ false → dirty_at m p g ≡ false

-- a slot that holds a sound record, where o gives each processor's own entry
pub record SlotSound (lim : Limits) (n : Counts) (o : ℕ → ℕ) (slot : List ℕ) : Type 0 where
  pub processor : present_among n (record_in slot).processor ≡ true
  pub page : (record_in slot).page < n.pages
  pub some_interval : 1 ≤ (record_in slot).interval
  pub made_interval : (record_in slot).interval ≤ o (record_in slot).processor
  pub fits : slot_head + get_or slot 3 0 ≤ slot_size lim
  pub legal : read_refusal lim.words (record_in slot).diff ≡ 0

-- the records, with the counts and the own entries
pub record RecordsInOrder (lim : Limits) (n : Counts) (o : ℕ → ℕ) (r : Records) : Type 0 where
  pub slots : length r.slots ≡ lim.records
  pub slot : (i : ℕ) → i < lim.records → length (get_or r.slots i []) ≡ slot_size lim
  pub few_standing : r.standing ≤ lim.records
  pub sound : (i : ℕ) → i < r.standing → SlotSound lim n o (get_or r.slots i [])
  pub distinct : (i j : ℕ) → i < r.standing → j < i → same_notice (record_in (get_or r.slots i [])) (record_in (get_or r.slots j [])) ≡ false

-- the marks, with the counts
pub record MarksInOrder (lim : Limits) (n : Counts) (k : Marks) : Type 0 where
  pub holders : length k.holders ≡ lim.locks
  pub arrived : length k.arrived ≡ suc lim.processors
  pub awaited : length k.awaited ≡ suc lim.processors
  pub turns : length k.turns ≡ suc lim.processors
  pub absent_not_arrived : (p : ℕ) → 1 ≤ p → present_among n p ≡ false → arrived_in k p ≡ false
  pub absent_not_held : (l : ℕ) → ltb l n.locks ≡ false → get_or k.holders l 0 ≡ 0
  pub absent_awake : (p : ℕ) → 1 ≤ p → present_among n p ≡ false → waits k p ≡ false
  pub absent_turn : (p : ℕ) → 1 ≤ p → present_among n p ≡ false → turn_of k p ≡ 0
  pub holder_present : (l : ℕ) → (get_or k.holders l 0 ≡ 0) ⊎ (present_among n (get_or k.holders l 0) ≡ true)
  pub someone_missing_lem : Passes n.processors (λ i. not (arrived_in k (suc i)))
  pub lines : LinesInOrder n k
  pub holder_away : (l : ℕ) → (get_or k.holders l 0 ≡ 0) ⊎ (arrived_in k (get_or k.holders l 0) ≡ false)
  pub first_there : (lim.jobs ≡ 0) ⊎ (k.first < lim.jobs)
  pub few_jobs : k.jobs ≤ lim.jobs

-- the shared values, with the counts
pub record SharedInOrder (lim : Limits) (n : Counts) (h : Shared) : Type 0 where
  pub posted : length h.posted ≡ lim.tallies
  pub values : length h.values ≡ lim.jobs
  pub adds : Rows lim lim.tallies h.adds
  pub absent_adds : (p t : ℕ) → 1 ≤ p → present_among n p ≡ false → adds_of h p t ≡ 0

-- the parts of a state in order, and what holds between them
pub record Parts (lim : Limits) (s : State) : Type 0 where
  pub counts : CountsInOrder lim s.counts
  pub clocks : ClocksInOrder lim s.counts s.clocks
  pub pages : PagesInOrder lim s.counts s.pages
  pub records : RecordsInOrder lim s.counts (own_in s.clocks) s.records
  pub marks : MarksInOrder lim s.counts s.marks
  pub shared : SharedInOrder lim s.counts s.shared
  pub room : s.records.standing + dirty_in s.counts s.pages ≤ lim.records
  pub dirty_has_interval : (p g : ℕ) → dirty_at s.pages p g ≡ true → own_in s.clocks p < lim.intervals

-- a present holder of a state is one by its counts
pub holder_among_lem : (s : State) (h : Holder) → present_holder s h ≡ holder_among s.counts h
unfolding present_holder present holder_among
holder_among_lem s (Processor p) = refl
holder_among_lem s (Lock l) = refl
holder_among_lem s Barrier = refl
holder_among_lem s (Applied p g) = refl
holder_among_lem s (Interval p i) = refl
holder_among_lem s (Job k) = refl

-- a state in order has its parts in order
pub parts_of : (lim : Limits) (s : State) → InOrder lim s → Parts lim s
unfolding present has_arrived holder own clock record_at dirty_pages holder_among present_holder
parts_of lim s f =
    record {
      counts =
          record {
            some_processor = f.some_processor;
            processors_fit = f.processors_fit;
            some_page = f.some_page;
            pages_fit = f.pages_fit;
            some_lock = f.some_lock;
            locks_fit = f.locks_fit;
          };
      clocks =
          record {
            sized =
                record {
                  processors = f.sized.processors;
                  nobody_clock = f.sized.nobody_clock;
                  locks = f.sized.locks;
                  applied = applied_rows lim s f.sized;
                  intervals = interval_rows lim s f.sized;
                  no_interval = f.sized.no_interval;
                  jobs = f.sized.jobs;
                  clocks = f.sized.clocks;
                };
            absent_clock = λ h q e. f.absent_clock h q (holder_among_lem s h ∙ e);
            absent_entry = f.absent_entry;
            later_interval = f.later_interval;
            known = f.known;
            own_fits_lem = f.own_fits_lem;
            applied_known_lem = f.applied_known_lem;
          };
      pages =
          record {
            copies = copies_rows lim s f.sized;
            copy = f.sized.copy;
            twins = twins_rows lim s f.sized;
            twin = f.sized.twin;
            dirty = dirty_rows lim s f.sized;
            absent_copy = f.absent_copy;
            absent_twin = f.absent_twin;
            absent_clean = f.absent_clean;
          };
      records =
          record {
            slots = f.sized.slots;
            slot = f.sized.slot;
            few_standing = f.sized.few_standing;
            sound = λ i l.
                let r = f.record_sound_lem i l in
                record {
                  processor = r.processor;
                  page = r.page;
                  some_interval = r.some_interval;
                  made_interval = r.made_interval;
                  fits = r.fits;
                  legal = r.legal;
                };
            distinct = f.distinct;
          };
      marks =
          record {
            holders = f.sized.holders;
            arrived = f.sized.arrived;
            awaited = f.sized.awaited;
            turns = f.sized.turns;
            absent_not_arrived = f.absent_not_arrived;
            absent_not_held = f.absent_not_held;
            absent_awake = f.absent_awake;
            absent_turn = f.absent_turn;
            holder_present = f.holder_present;
            someone_missing_lem = f.someone_missing_lem;
            lines = f.lines;
            holder_away = f.holder_away;
            first_there = f.first_there;
            few_jobs = f.few_jobs;
          };
      shared = record { posted = f.sized.posted; values = f.sized.values; adds = adds_rows lim s f.sized; absent_adds = f.absent_adds };
      room = f.room;
      dirty_has_interval = f.dirty_has_interval;
    }

-- a state with its parts in order is in order
pub in_order_of : (lim : Limits) (s : State) → Parts lim s → InOrder lim s
unfolding present has_arrived holder own clock record_at dirty_pages holder_among present_holder
in_order_of lim s f =
    record {
      sized =
          record {
            processors = f.clocks.sized.processors;
            nobody_clock = f.clocks.sized.nobody_clock;
            locks = f.clocks.sized.locks;
            applied = f.clocks.sized.applied.processors;
            nobody_applied = f.clocks.sized.applied.nobody;
            applied_row_lem = f.clocks.sized.applied.row;
            intervals = f.clocks.sized.intervals.processors;
            nobody_interval = f.clocks.sized.intervals.nobody;
            interval_row_lem = f.clocks.sized.intervals.row;
            no_interval = f.clocks.sized.no_interval;
            jobs = f.clocks.sized.jobs;
            clocks = f.clocks.sized.clocks;
            copies = f.pages.copies.processors;
            nobody_copy = f.pages.copies.nobody;
            copies_row = f.pages.copies.row;
            copy = f.pages.copy;
            twins = f.pages.twins.processors;
            nobody_twin = f.pages.twins.nobody;
            twins_row = f.pages.twins.row;
            twin = f.pages.twin;
            dirty = f.pages.dirty.processors;
            nobody_dirty = f.pages.dirty.nobody;
            dirty_row = f.pages.dirty.row;
            slots = f.records.slots;
            slot = f.records.slot;
            few_standing = f.records.few_standing;
            holders = f.marks.holders;
            arrived = f.marks.arrived;
            awaited = f.marks.awaited;
            turns = f.marks.turns;
            posted = f.shared.posted;
            values = f.shared.values;
            adds = f.shared.adds.processors;
            nobody_adds = f.shared.adds.nobody;
            adds_row = f.shared.adds.row;
          };
      some_processor = f.counts.some_processor;
      processors_fit = f.counts.processors_fit;
      some_page = f.counts.some_page;
      pages_fit = f.counts.pages_fit;
      some_lock = f.counts.some_lock;
      locks_fit = f.counts.locks_fit;
      absent_clock = λ h q e. f.clocks.absent_clock h q (sym (holder_among_lem s h) ∙ e);
      absent_entry = f.clocks.absent_entry;
      absent_copy = f.pages.absent_copy;
      absent_twin = f.pages.absent_twin;
      absent_clean = f.pages.absent_clean;
      absent_not_arrived = f.marks.absent_not_arrived;
      absent_not_held = f.marks.absent_not_held;
      absent_awake = f.marks.absent_awake;
      absent_turn = f.marks.absent_turn;
      absent_adds = f.shared.absent_adds;
      later_interval = f.clocks.later_interval;
      known = f.clocks.known;
      own_fits_lem = f.clocks.own_fits_lem;
      applied_known_lem = f.clocks.applied_known_lem;
      record_sound_lem = λ i l.
          let r = f.records.sound i l in
          record {
            processor = r.processor;
            page = r.page;
            some_interval = r.some_interval;
            made_interval = r.made_interval;
            fits = r.fits;
            legal = r.legal;
          };
      distinct = f.records.distinct;
      room = f.room;
      dirty_has_interval = f.dirty_has_interval;
      holder_present = f.marks.holder_present;
      someone_missing_lem = f.marks.someone_missing_lem;
      lines = f.marks.lines;
      holder_away = f.marks.holder_away;
      first_there = f.marks.first_there;
      few_jobs = f.marks.few_jobs;
    }
