-- The marks of the mainframe in their area: counts, records standing, the wish for collection, who has arrived, who holds a lock, dirty pages, who
-- waits for a lock and at which turn; and the state after one of them is stored anew. The queue's are in QueueLaws. Assumes nothing.
use Prim.Native.Nat.{ℕ, zero, suc, ◌+◌, ◌*◌, ◌/◌, ◌%◌, ◌≤◌, ◌<◌}
use native.Mathlib.Omega.{arith}
use native.Mathlib.Nat.{div-add-mod'}
use mathlib.Core.Path.{◌≡◌, refl, sym, ap, ◌∙◌}
use mathlib.Core.Bool.{Bool, cond}
use mathlib.Core.List.{List, ◌∷◌, map}
use lib.ListN.{length, get_or, set, length-set, replicate, length-replicate, get_or-replicate}
use lib.Seq.{get_or-set_same, get_or-set_other, sets}
use lib.Dec.{eqb}
use Rattle.lists.specs.Tables.{put, put_cell, tabulate}
use Rattle.limits.specs.Limits.{lock_limit, page_limit, processor_limit}
use Rattle.limits.specs.Places.{first_arrived, standing_place, standing_high, wanted_place}
use Rattle.limits.specs.inner.Sizes.{clock_width, first_awaited, first_dirty, first_holder, first_turn, mark_area, queue_first, queue_jobs}
use Rattle.rules.specs.State.{mainframe, Pages, with_arrived, with_wanted, with_pages, with_records, with_marks, with_holder, with_lines}
use Rattle.layout.specs.Areas.{arrived_place, holder_place, dirty_place, awaited_place, turn_place, standing_count, clocks_in, records_in, marks_in, shared_in, state_in}
use Rattle.layout.specs.inner.Marks.{page_count, processor_count, wish_mark, with_standing}
use Rattle.layout.proofs.Stores.{get_sets_same, get_set, eqb_iff}
use Rattle.lists.proofs.Tabulated.{get_tabulate, tabulate_same, put_tabulate, map_tabulate}
use Rattle.layout.proofs.PageLaws.{dirty_written}
use Rattle.layout.proofs.MarksKept.{counts_kept, wanted_kept, arrived_kept, holders_kept, awaited_kept, turns_kept, first_kept, jobs_kept, marks_kept, pages_kept, marks_alone, pages_alone, agree_below, agree_above, agree_before, agree_behind}

-- ---- reading

module _ (c w r m : List ℕ) where
  -- how many processors there are
  pub processors_read : (state_in mainframe c w r m).counts.processors ≡ processor_count m
  unfolding state_in
  processors_read = refl

  -- how many pages
  pub pages_read : (state_in mainframe c w r m).counts.pages ≡ page_count m
  unfolding state_in
  pages_read = refl

  -- the wish for collection
  pub wanted_read : (state_in mainframe c w r m).marks.wanted ≡ wish_mark m
  unfolding state_in marks_in
  wanted_read = refl

  -- the arrived mark of a processor
  pub arrived_read : (p : ℕ) → 1 ≤ p → p ≤ processor_limit → get_or (state_in mainframe c w r m).marks.arrived p 0 ≡ get_or m (arrived_place mainframe p) 0
  unfolding state_in marks_in mainframe
  arrived_read zero h k = absurd (omega arith)
  arrived_read (suc p) h k = get_tabulate processor_limit (λ j. get_or m (arrived_place mainframe (suc j)) 0) p 0 (omega arith)

  -- the lock that a processor waits for, plus 1
  pub awaited_read : (p : ℕ) → 1 ≤ p → p ≤ processor_limit → get_or (state_in mainframe c w r m).marks.awaited p 0 ≡ get_or m (awaited_place mainframe p) 0
  unfolding state_in marks_in mainframe
  awaited_read zero h k = absurd (omega arith)
  awaited_read (suc p) h k = get_tabulate processor_limit (λ j. get_or m (awaited_place mainframe (suc j)) 0) p 0 (omega arith)

  -- its turn
  pub turn_read : (p : ℕ) → 1 ≤ p → p ≤ processor_limit → get_or (state_in mainframe c w r m).marks.turns p 0 ≡ get_or m (turn_place mainframe p) 0
  unfolding state_in marks_in mainframe
  turn_read zero h k = absurd (omega arith)
  turn_read (suc p) h k = get_tabulate processor_limit (λ j. get_or m (turn_place mainframe (suc j)) 0) p 0 (omega arith)

  -- the holder of a lock
  pub holder_read : (l : ℕ) → l < lock_limit → get_or (state_in mainframe c w r m).marks.holders l 0 ≡ get_or m (holder_place mainframe l) 0
  unfolding state_in marks_in mainframe
  holder_read l b = get_tabulate lock_limit (λ k. get_or m (holder_place mainframe k) 0) l 0 b

-- ---- the state after one mark is stored anew

-- the marks stay as many
pub standing_length : (m : List ℕ) (x : ℕ) → length m ≡ mark_area → length (with_standing m x) ≡ mark_area
unfolding with_standing
standing_length m x there = length-set (set m standing_place (x % 256)) standing_high (x / 256) ∙ length-set m standing_place (x % 256) ∙ there

-- marks listed by their places, when one of them is stored anew
pub stored_by_place : (n : ℕ) (place : ℕ → ℕ) (m : List ℕ) (p x : ℕ) → ((i j : ℕ) → place i ≡ place j → i ≡ j) → place p < length m → p < n
    → tabulate n (λ j. get_or (set m (place p) x) (place j) 0) ≡ put 0 (tabulate n (λ j. get_or m (place j) 0)) p x
stored_by_place n place m p x apart there b =
    tabulate_same n (λ j. get_or (set m (place p) x) (place j) 0) (λ j. cond (eqb j p) x (get_or m (place j) 0))
    (λ j c.
    get_set m (place p) (place j) x there ∙ ap (λ (t : Bool). cond t x (get_or m (place j) 0)) (eqb_iff (place j) (place p) j p (apart j p) (λ z. ap place z)))
    ∙ sym (put_tabulate 0 n (λ j. get_or m (place j) 0) p x b)

module _ (c w r m : List ℕ) (x : ℕ) (there : length m ≡ mark_area) where
  -- the number of records that stand
  pub standing_written : state_in mainframe c w r (with_standing m x)
      ≡ (let s = state_in mainframe c w r m in with_records s (record { standing = x; slots = s.records.slots }))
  unfolding state_in records_in standing_count with_standing
  standing_written =
      λ i. record {
        counts = counts_kept (with_standing m x) m c w r (λ j a b. above j (omega arith) (omega arith)) i;
        clocks = clocks_in mainframe c;
        pages = pages_kept (with_standing m x) m w (λ j a b. above j (omega arith) (omega arith)) i;
        records = record { standing = stands i; slots = (records_in mainframe r m).slots };
        marks = marks_kept (with_standing m x) m (λ j a b. above j (omega arith) (omega arith)) (λ j a b. above j (omega arith) (omega arith)) i;
        shared = shared_in mainframe w;
      }
    where
      low : List ℕ
      low = set m standing_place (x % 256)

      -- all places but the two
      above : (j : ℕ) → (j ≡ standing_place → ⊥) → (j ≡ standing_high → ⊥) → get_or (set (set m standing_place (x % 256)) standing_high (x / 256)) j 0 ≡ get_or m j 0
      above j a b = get_or-set_other low standing_high j (x / 256) 0 b ∙ get_or-set_other m standing_place j (x % 256) 0 a

      stands : get_or (set low standing_high (x / 256)) standing_place 0 + 256 * get_or (set low standing_high (x / 256)) standing_high 0 ≡ x
      stands =
          omega (
            arith,
            get_or-set_other low standing_high standing_place (x / 256) 0 (λ e. omega (arith, e)),
            get_or-set_same m standing_place (x % 256) 0 (omega (arith, there)),
            get_or-set_same low standing_high (x / 256) 0 (omega (arith, length-set m standing_place (x % 256), there)),
            div-add-mod' x 256,
          )

  -- the wish for collection
  pub wanted_written : state_in mainframe c w r (set m wanted_place x)
      ≡ (let s = state_in mainframe c w r m in with_marks s (with_wanted s.marks x))
  unfolding state_in marks_in
  wanted_written =
      marks_alone (set m wanted_place x) m c w r (agree_below m wanted_place x 0 wanted_place (omega arith)) (agree_above m wanted_place x first_dirty first_awaited (omega arith))
      ∙ (λ i. with_marks (state_in mainframe c w r m)
      (record {
        holders = holders_kept (set m wanted_place x) m (agree_above m wanted_place x first_holder first_dirty (omega arith)) i;
        arrived = arrived_kept (set m wanted_place x) m (agree_above m wanted_place x first_arrived first_holder (omega arith)) i;
        wanted = get_or-set_same m wanted_place x 0 (omega arith) i;
        awaited = awaited_kept (set m wanted_place x) m (agree_above m wanted_place x first_awaited first_turn (omega arith)) i;
        turns = turns_kept (set m wanted_place x) m (agree_above m wanted_place x first_turn queue_first (omega arith)) i;
        first = first_kept (set m wanted_place x) m (agree_above m wanted_place x queue_first queue_jobs (omega arith)) i;
        jobs = jobs_kept (set m wanted_place x) m (agree_above m wanted_place x queue_jobs mark_area (omega arith)) i;
      }))

  -- a processor's arrived mark
  pub arrived_written : (p : ℕ) → 1 ≤ p → p ≤ processor_limit
      → state_in mainframe c w r (set m (arrived_place mainframe p) x)
      ≡ (let s = state_in mainframe c w r m in with_marks s (with_arrived s.marks (put 0 s.marks.arrived p x)))
  unfolding state_in marks_in arrived_place mainframe put
  arrived_written zero h k = absurd (omega arith)
  arrived_written (suc p) h k =
      let at : ℕ = arrived_place mainframe (suc p) in
      marks_alone (set m at x) m c w r (agree_below m at x 0 wanted_place (omega arith)) (agree_above m at x first_dirty first_awaited (omega arith))
      ∙ (λ i. with_marks (state_in mainframe c w r m)
      (record {
        holders = holders_kept (set m at x) m (agree_above m at x first_holder first_dirty (omega arith)) i;
        arrived = 0 ∷ marks i;
        wanted = wanted_kept (set m at x) m (agree_below m at x wanted_place first_arrived (omega arith)) i;
        awaited = awaited_kept (set m at x) m (agree_above m at x first_awaited first_turn (omega arith)) i;
        turns = turns_kept (set m at x) m (agree_above m at x first_turn queue_first (omega arith)) i;
        first = first_kept (set m at x) m (agree_above m at x queue_first queue_jobs (omega arith)) i;
        jobs = jobs_kept (set m at x) m (agree_above m at x queue_jobs mark_area (omega arith)) i;
      }))
    where
      marks : tabulate processor_limit (λ j. get_or (set m (arrived_place mainframe (suc p)) x) (arrived_place mainframe (suc j)) 0)
          ≡ put 0 (tabulate processor_limit (λ j. get_or m (arrived_place mainframe (suc j)) 0)) p x
      marks = stored_by_place processor_limit (λ j. arrived_place mainframe (suc j)) m p x (λ i j e. omega arith) (omega arith) (omega arith)

  -- the holder of a lock
  pub holder_written : (l : ℕ) → l < lock_limit
      → state_in mainframe c w r (set m (holder_place mainframe l) x)
      ≡ (let s = state_in mainframe c w r m in with_marks s (with_holder s.marks l x))
  unfolding state_in marks_in holder_place mainframe with_holder
  holder_written l b =
      let at : ℕ = holder_place mainframe l in
      marks_alone (set m at x) m c w r (agree_below m at x 0 wanted_place (omega arith)) (agree_above m at x first_dirty first_awaited (omega arith))
      ∙ (λ i. with_marks (state_in mainframe c w r m)
      (record {
        holders = marks i;
        arrived = arrived_kept (set m at x) m (agree_below m at x first_arrived first_holder (omega arith)) i;
        wanted = wanted_kept (set m at x) m (agree_below m at x wanted_place first_arrived (omega arith)) i;
        awaited = awaited_kept (set m at x) m (agree_above m at x first_awaited first_turn (omega arith)) i;
        turns = turns_kept (set m at x) m (agree_above m at x first_turn queue_first (omega arith)) i;
        first = first_kept (set m at x) m (agree_above m at x queue_first queue_jobs (omega arith)) i;
        jobs = jobs_kept (set m at x) m (agree_above m at x queue_jobs mark_area (omega arith)) i;
      }))
    where
      marks : tabulate lock_limit (λ j. get_or (set m (holder_place mainframe l) x) (holder_place mainframe j) 0)
          ≡ put 0 (tabulate lock_limit (λ j. get_or m (holder_place mainframe j) 0)) l x
      marks = stored_by_place lock_limit (holder_place mainframe) m l x (λ i j e. omega arith) (omega arith) b

  -- the lock that a processor waits for
  pub awaited_written : (p : ℕ) → 1 ≤ p → p ≤ processor_limit
      → state_in mainframe c w r (set m (awaited_place mainframe p) x)
      ≡ (let s = state_in mainframe c w r m in with_marks s (with_lines s.marks (put 0 s.marks.awaited p x) s.marks.turns))
  unfolding state_in marks_in awaited_place mainframe put
  awaited_written zero h k = absurd (omega arith)
  awaited_written (suc p) h k =
      let at : ℕ = awaited_place mainframe (suc p) in
      marks_alone (set m at x) m c w r (agree_below m at x 0 wanted_place (omega arith)) (agree_below m at x first_dirty first_awaited (omega arith))
      ∙ (λ i. with_marks (state_in mainframe c w r m)
      (record {
        holders = holders_kept (set m at x) m (agree_below m at x first_holder first_dirty (omega arith)) i;
        arrived = arrived_kept (set m at x) m (agree_below m at x first_arrived first_holder (omega arith)) i;
        wanted = wanted_kept (set m at x) m (agree_below m at x wanted_place first_arrived (omega arith)) i;
        awaited = 0 ∷ marks i;
        turns = turns_kept (set m at x) m (agree_above m at x first_turn queue_first (omega arith)) i;
        first = first_kept (set m at x) m (agree_above m at x queue_first queue_jobs (omega arith)) i;
        jobs = jobs_kept (set m at x) m (agree_above m at x queue_jobs mark_area (omega arith)) i;
      }))
    where
      marks : tabulate processor_limit (λ j. get_or (set m (awaited_place mainframe (suc p)) x) (awaited_place mainframe (suc j)) 0)
          ≡ put 0 (tabulate processor_limit (λ j. get_or m (awaited_place mainframe (suc j)) 0)) p x
      marks = stored_by_place processor_limit (λ j. awaited_place mainframe (suc j)) m p x (λ i j e. omega arith) (omega arith) (omega arith)

  -- a processor's turn
  pub turn_written : (p : ℕ) → 1 ≤ p → p ≤ processor_limit
      → state_in mainframe c w r (set m (turn_place mainframe p) x)
      ≡ (let s = state_in mainframe c w r m in with_marks s (with_lines s.marks s.marks.awaited (put 0 s.marks.turns p x)))
  unfolding state_in marks_in turn_place mainframe put
  turn_written zero h k = absurd (omega arith)
  turn_written (suc p) h k =
      let at : ℕ = turn_place mainframe (suc p) in
      marks_alone (set m at x) m c w r (agree_below m at x 0 wanted_place (omega arith)) (agree_below m at x first_dirty first_awaited (omega arith))
      ∙ (λ i. with_marks (state_in mainframe c w r m)
      (record {
        holders = holders_kept (set m at x) m (agree_below m at x first_holder first_dirty (omega arith)) i;
        arrived = arrived_kept (set m at x) m (agree_below m at x first_arrived first_holder (omega arith)) i;
        wanted = wanted_kept (set m at x) m (agree_below m at x wanted_place first_arrived (omega arith)) i;
        awaited = awaited_kept (set m at x) m (agree_below m at x first_awaited first_turn (omega arith)) i;
        turns = 0 ∷ marks i;
        first = first_kept (set m at x) m (agree_above m at x queue_first queue_jobs (omega arith)) i;
        jobs = jobs_kept (set m at x) m (agree_above m at x queue_jobs mark_area (omega arith)) i;
      }))
    where
      marks : tabulate processor_limit (λ j. get_or (set m (turn_place mainframe (suc p)) x) (turn_place mainframe (suc j)) 0)
          ≡ put 0 (tabulate processor_limit (λ j. get_or m (turn_place mainframe (suc j)) 0)) p x
      marks = stored_by_place processor_limit (λ j. turn_place mainframe (suc j)) m p x (λ i j e. omega arith) (omega arith) (omega arith)

  -- a page's dirty mark
  pub dirty_mark_written : (p g : ℕ) → 1 ≤ p → p ≤ processor_limit → g < page_limit
      → state_in mainframe c w r (set m (dirty_place mainframe p g) x)
      ≡ (let s = state_in mainframe c w r m in with_pages s (record { copies = s.pages.copies; twins = s.pages.twins; dirty = put_cell 0 s.pages.dirty p g x }))
  unfolding state_in dirty_place mainframe
  dirty_mark_written p g h k b =
      let at : ℕ = dirty_place mainframe p g in
      pages_alone (set m at x) m c w r (agree_below m at x 0 first_dirty (omega arith)) (agree_above m at x first_awaited mark_area (omega arith))
      ∙ ap (λ (a : Pages). with_pages (state_in mainframe c w r m) a) (dirty_written w m p g x there h k b)

-- ---- the state after a run of marks is cleared

module _ (c w r m : List ℕ) (there : length m ≡ mark_area) where
  marks_cleared : (v : List ℕ) → length v ≡ clock_width → ((j : ℕ) → j < processor_limit → get_or v j 0 ≡ 0)
      → state_in mainframe c w r (sets m first_arrived v)
      ≡ (let s = state_in mainframe c w r m in with_marks s (with_arrived s.marks (map (λ mark. 0) s.marks.arrived)))
  unfolding state_in marks_in arrived_place mainframe
  marks_cleared v e z =
      marks_alone (sets m first_arrived v) m c w r (agree_before m v first_arrived 0 wanted_place (omega arith)) (agree_behind m v first_arrived first_dirty first_awaited (omega arith))
      ∙ (λ i. with_marks (state_in mainframe c w r m)
      (record {
        holders = holders_kept (sets m first_arrived v) m (agree_behind m v first_arrived first_holder first_dirty (omega arith)) i;
        arrived = 0 ∷ marks i;
        wanted = wanted_kept (sets m first_arrived v) m (agree_before m v first_arrived wanted_place first_arrived (omega arith)) i;
        awaited = awaited_kept (sets m first_arrived v) m (agree_behind m v first_arrived first_awaited first_turn (omega arith)) i;
        turns = turns_kept (sets m first_arrived v) m (agree_behind m v first_arrived first_turn queue_first (omega arith)) i;
        first = first_kept (sets m first_arrived v) m (agree_behind m v first_arrived queue_first queue_jobs (omega arith)) i;
        jobs = jobs_kept (sets m first_arrived v) m (agree_behind m v first_arrived queue_jobs mark_area (omega arith)) i;
      }))
    where
      at : (j : ℕ) → j < processor_limit → get_or (sets m first_arrived v) (arrived_place mainframe (suc j)) 0 ≡ 0
      at j b =
          let s : arrived_place mainframe (suc j) ≡ first_arrived + j = omega arith in
          ap (λ (k : ℕ). get_or (sets m first_arrived v) k 0) s ∙ get_sets_same v m first_arrived j 0 (omega arith) (omega arith) ∙ z j b

      marks : tabulate processor_limit (λ j. get_or (sets m first_arrived v) (arrived_place mainframe (suc j)) 0) ≡ map (λ mark. 0) (tabulate processor_limit (λ j. get_or m (arrived_place mainframe (suc j)) 0))
      marks =
          tabulate_same processor_limit (λ j. get_or (sets m first_arrived v) (arrived_place mainframe (suc j)) 0) (λ j. 0) at
          ∙ sym (map_tabulate (λ mark. 0) processor_limit (λ j. get_or m (arrived_place mainframe (suc j)) 0))

  -- every arrived mark
  pub arrived_cleared : state_in mainframe c w r (sets m first_arrived (replicate processor_limit 0))
      ≡ (let s = state_in mainframe c w r m in with_marks s (with_arrived s.marks (map (λ mark. 0) s.marks.arrived)))
  arrived_cleared = marks_cleared (replicate processor_limit 0) (length-replicate {A = ℕ} processor_limit 0) (λ j b. get_or-replicate {A = ℕ} processor_limit j 0 0 b)
