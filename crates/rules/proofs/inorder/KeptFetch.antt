-- A state in order stays so with one of its parts replaced, and after a fetch, a read or a write. Rests on CopyWords, KeptMoves,
-- KeptRecords and KeptPages. Assumes nothing.
use Prim.Native.Nat.{ℕ, ◌+◌, ◌%◌, ◌<◌}
use native.Mathlib.Omega.{arith}
use native.Mathlib.Decide.{ℕ_discrete}
use mathlib.Core.Path.{◌≡◌, refl, sym, ◌∙◌}
use mathlib.Core.Bool.{Bool, true, false}
use mathlib.Core.List.{List}
use lib.ListN.{length, set, length-set}
use Rattle.limits.specs.Limits.{word_values}
use Rattle.rules.specs.State.{Limits, Counts, Processor, Applied, Clocks, clock_of, with_clock, Pages, copy_of, dirty_at, Marks, State, with_clocks, with_pages, with_marks, clock}
use Rattle.rules.specs.Fetch.{applied_all, applying, with_copy, fetched}
use Rattle.rules.specs.Steps.{page_of_word, offset_of_word, new_twin, twin_taken, stored, write}
use Rattle.rules.proofs.state.CopyWords.{length_applied_all}
use Rattle.rules.proofs.inorder.KeptParts.{among_says, own_in, dirty_in, PagesInOrder, MarksInOrder, Parts}
use Rattle.rules.proofs.inorder.KeptMoves.{OwnKept, applied_set}
use Rattle.rules.proofs.inorder.KeptRecords.{records_with_more_intervals}
use Rattle.rules.proofs.inorder.KeptPages.{AtPage, copy_replaced, twin_there, twin_new, dirty_new_elsewhere, new_twin_in_order, dirty_pages_new_twin}

-- ---- one part of a state replaced

-- clocks that leave the own entries as they were
pub clocks_moved : (lim : Limits) (s : State) (c : Clocks) → Parts lim s → OwnKept lim s.counts s.clocks c → Parts lim (with_clocks s c)
clocks_moved lim s c f k =
    record {
      counts = f.counts;
      clocks = k.in_order;
      pages = f.pages;
      records = records_with_more_intervals lim s.counts (own_in s.clocks) (own_in c) s.records (λ q. omega (arith, k.own_kept q)) f.records;
      marks = f.marks;
      shared = f.shared;
      room = f.room;
      dirty_has_interval = λ p g d. omega (arith, k.own_kept p, f.dirty_has_interval p g d);
    }

-- marks in order in place of the marks
pub marks_changed : (lim : Limits) (s : State) (k : Marks) → Parts lim s → MarksInOrder lim s.counts k → Parts lim (with_marks s k)
marks_changed lim s k f h =
    record {
      counts = f.counts;
      clocks = f.clocks;
      pages = f.pages;
      records = f.records;
      marks = h;
      shared = f.shared;
      room = f.room;
      dirty_has_interval = f.dirty_has_interval;
    }

-- both, as in a step that moves a clock and marks it
pub moved_parts : (lim : Limits) (s : State) (c : Clocks) (k : Marks) → Parts lim s → OwnKept lim s.counts s.clocks c → MarksInOrder lim s.counts k
    → Parts lim (with_marks (with_clocks s c) k)
moved_parts lim s c k f kept h = marks_changed lim (with_clocks s c) k (clocks_moved lim s c f kept) h

-- a copy of the same length
pub copy_changed : (lim : Limits) (s : State) (p g : ℕ) (page : List ℕ) → Parts lim s → AtPage lim s.counts p g → length page ≡ lim.words
    → Parts lim (with_pages s (with_copy s.pages p g page))
copy_changed lim s p g page f a l =
    record {
      counts = f.counts;
      clocks = f.clocks;
      pages = copy_replaced lim s.counts s.pages p g page a l f.pages;
      records = f.records;
      marks = f.marks;
      shared = f.shared;
      room = unfold with_copy dirty_at in f.room;
      dirty_has_interval = unfold with_copy dirty_at in f.dirty_has_interval;
    }

-- ---- fetch

-- the length of a present processor's copy of a present page
pub length_copy : (lim : Limits) (n : Counts) (m : Pages) (p g : ℕ) → AtPage lim n p g → PagesInOrder lim n m → length (copy_of m p g) ≡ lim.words
length_copy lim n m p g a f =
    let b = among_says n p a.processor in
    f.copy p g b.0 (omega (arith, b.1, a.counts.processors_fit)) (omega (arith, a.page, a.counts.pages_fit))

applied_moved : (lim : Limits) (s : State) (p g : ℕ) → Parts lim s → AtPage lim s.counts p g
    → OwnKept lim s.counts s.clocks (with_clock s.clocks (Applied p g) (clock_of s.clocks (Processor p)))
applied_moved lim s p g f a =
    record { in_order = applied_set lim s.counts s.clocks p g f.counts f.clocks a.processor a.page; own_kept = λ q. unfold with_clock clock_of in refl }

-- a fetch changes one copy and one applied clock
pub fetched_parts : (lim : Limits) (s : State) (p g : ℕ) → Parts lim s → AtPage lim s.counts p g → Parts lim (fetched lim s p g)
unfolding fetched clock
fetched_parts lim s p g f a =
    copy_changed lim (with_clocks s (with_clock s.clocks (Applied p g) (clock_of s.clocks (Processor p)))) p g
    (applied_all lim.words (applying lim s p g) (copy_of s.pages p g))
    (clocks_moved lim s (with_clock s.clocks (Applied p g) (clock_of s.clocks (Processor p))) f (applied_moved lim s p g f a)) a
    (length_applied_all lim.words (applying lim s p g) (copy_of s.pages p g) ∙ length_copy lim s.counts s.pages p g a f.pages)

-- ---- write

-- a write to a clean page wants an interval left and room for one record more
pub record MayDirty (lim : Limits) (s : State) (p g : ℕ) : Type 0 where
  pub interval_left : dirty_at s.pages p g ≡ false → own_in s.clocks p < lim.intervals
  pub room_left : dirty_at s.pages p g ≡ false → s.records.standing + dirty_in s.counts s.pages < lim.records

-- taking the twin where such a write is not refused
pub twin_taken_parts : (lim : Limits) (s : State) (p g : ℕ) → Parts lim s → AtPage lim s.counts p g → MayDirty lim s p g → Parts lim (with_pages s (twin_taken s.pages p g))
twin_taken_parts lim s p g f a m = go (dirty_at s.pages p g) refl
  where
    go : (b : Bool) → dirty_at s.pages p g ≡ b → Parts lim (with_pages s (twin_taken s.pages p g))
    go true e = rw (twin_there s.pages p g e) f
    go false e =
        rw (twin_new s.pages p g e)
        (record {
          counts = f.counts;
          clocks = f.clocks;
          pages = new_twin_in_order lim s.counts s.pages p g a f.pages;
          records = f.records;
          marks = f.marks;
          shared = f.shared;
          room = omega (arith, dirty_pages_new_twin s.counts s.pages p g a.processor a.page e, m.room_left e);
          dirty_has_interval = λ q h d. dirtied q h d (ℕ_discrete q p);
        })
      where
        dirtied : (q h : ℕ) → dirty_at (new_twin s.pages p g) q h ≡ true → Dec (q ≡ p) → own_in s.clocks q < lim.intervals
        dirtied q h d (yes z) = rw z (m.interval_left e)
        dirtied q h d (no z) = f.dirty_has_interval q h (sym (dirty_new_elsewhere s.pages p g q h (λ a b. z a)) ∙ d)

-- a write that is not refused
pub write_parts : (lim : Limits) (s : State) (p w v : ℕ) → Parts lim s → AtPage lim s.counts p (page_of_word lim w) → MayDirty lim s p (page_of_word lim w)
    → Parts lim (write lim s p w v).after
unfolding write stored
write_parts lim s p w v f a m =
    let g : ℕ = page_of_word lim w in
    let s₁ : State = fetched lim s p g in
    let f₁ : Parts lim s₁ = fetched_parts lim s p g f a in
    let m₁ : MayDirty lim s₁ p g = fetched_may_dirty in
    let s₂ : State = with_pages s₁ (twin_taken s₁.pages p g) in
    let f₂ : Parts lim s₂ = twin_taken_parts lim s₁ p g f₁ (unfold fetched in a) m₁ in
    unfold fetched in
    copy_changed lim s₂ p g (set (copy_of s₂.pages p g) (offset_of_word lim w) (v % word_values)) f₂ a
    (length-set (copy_of s₂.pages p g) (offset_of_word lim w) (v % word_values) ∙ length_copy lim s₂.counts s₂.pages p g a f₂.pages)
  where
    fetched_may_dirty : MayDirty lim (fetched lim s p (page_of_word lim w)) p (page_of_word lim w)
    fetched_may_dirty =
        record {
          interval_left = unfold fetched with_copy dirty_at with_clock clock_of in m.interval_left;
          room_left = unfold fetched with_copy dirty_at in m.room_left;
        }
