-- The parts of the state that an area of marks holds: each stays when the marks that it reads stay. Assumes nothing.
use Prim.Native.Nat.{ℕ, suc, ◌+◌, ◌*◌, ◌≤◌, ◌<◌}
use native.Mathlib.Omega.{arith}
use mathlib.Core.Path.{◌≡◌, ap}
use mathlib.Core.List.{List, ◌∷◌}
use lib.ListN.{length, get_or, set}
use lib.Seq.{get_or-set_other, sets}
use Rattle.limits.specs.Limits.{lock_limit, page_limit, processor_limit}
use Rattle.limits.specs.Places.{first_arrived, locks_place, pages_place, processors_place, standing_place, standing_high, wanted_place}
use Rattle.limits.specs.inner.Sizes.{first_awaited, first_dirty, first_holder, first_turn, mark_area, queue_first, queue_jobs}
use Rattle.rules.specs.State.{mainframe, with_pages, with_marks}
use Rattle.layout.specs.Areas.{arrived_place, holder_place, dirty_place, awaited_place, turn_place, first_place, jobs_place, standing_count, clocks_in, pages_in, records_in, marks_in, shared_in, state_in}
use Rattle.layout.proofs.Stores.{get_sets_before, get_sets_behind}
use Rattle.lists.proofs.Tabulated.{tabulate_same}
use Rattle.layout.proofs.RowLaws.{page_table_same}

-- two areas of marks agree at the places from one up to another
abbrev pub Agree : List ℕ → List ℕ → ℕ → ℕ → Type 0
Agree n m from to = (j : ℕ) → from ≤ j → j < to → get_or n j 0 ≡ get_or m j 0

module _ (n m : List ℕ) where
  -- the counts
  pub counts_kept : (c w r : List ℕ) → Agree n m 0 standing_place → (state_in mainframe c w r n).counts ≡ (state_in mainframe c w r m).counts
  unfolding state_in
  counts_kept c w r e =
      λ i. record { processors = e processors_place (omega arith) (omega arith) i; pages = e pages_place (omega arith) (omega arith) i; locks = e locks_place (omega arith) (omega arith) i }

  -- the records: their number is a mark
  pub records_kept : (r : List ℕ) → Agree n m standing_place wanted_place → records_in mainframe r n ≡ records_in mainframe r m
  unfolding records_in standing_count
  records_kept r e = λ i. record { standing = e standing_place (omega arith) (omega arith) i + 256 * e standing_high (omega arith) (omega arith) i; slots = (records_in mainframe r m).slots }

  -- the wish for collection
  pub wanted_kept : Agree n m wanted_place first_arrived → (marks_in mainframe n).wanted ≡ (marks_in mainframe m).wanted
  unfolding marks_in
  wanted_kept e = e wanted_place (omega arith) (omega arith)

  -- the arrived marks
  pub arrived_kept : Agree n m first_arrived first_holder → (marks_in mainframe n).arrived ≡ (marks_in mainframe m).arrived
  unfolding marks_in arrived_place mainframe
  arrived_kept e =
      ap (λ (a : List ℕ). 0 ∷ a)
      (tabulate_same processor_limit (λ k. get_or n (arrived_place mainframe (suc k)) 0) (λ k. get_or m (arrived_place mainframe (suc k)) 0)
      (λ k b. e (arrived_place mainframe (suc k)) (omega arith) (omega arith)))

  -- the holders of locks
  pub holders_kept : Agree n m first_holder first_dirty → (marks_in mainframe n).holders ≡ (marks_in mainframe m).holders
  unfolding marks_in holder_place mainframe
  holders_kept e =
      tabulate_same lock_limit (λ l. get_or n (holder_place mainframe l) 0) (λ l. get_or m (holder_place mainframe l) 0)
      (λ l b. e (holder_place mainframe l) (omega arith) (omega arith))

  -- the locks waited for
  pub awaited_kept : Agree n m first_awaited first_turn → (marks_in mainframe n).awaited ≡ (marks_in mainframe m).awaited
  unfolding marks_in awaited_place mainframe
  awaited_kept e =
      ap (λ (a : List ℕ). 0 ∷ a)
      (tabulate_same processor_limit (λ k. get_or n (awaited_place mainframe (suc k)) 0) (λ k. get_or m (awaited_place mainframe (suc k)) 0)
      (λ k b. e (awaited_place mainframe (suc k)) (omega arith) (omega arith)))

  -- the turns
  pub turns_kept : Agree n m first_turn queue_first → (marks_in mainframe n).turns ≡ (marks_in mainframe m).turns
  unfolding marks_in turn_place mainframe
  turns_kept e =
      ap (λ (a : List ℕ). 0 ∷ a)
      (tabulate_same processor_limit (λ k. get_or n (turn_place mainframe (suc k)) 0) (λ k. get_or m (turn_place mainframe (suc k)) 0)
      (λ k b. e (turn_place mainframe (suc k)) (omega arith) (omega arith)))

  -- the place of the oldest job
  pub first_kept : Agree n m queue_first queue_jobs → (marks_in mainframe n).first ≡ (marks_in mainframe m).first
  unfolding marks_in first_place mainframe
  first_kept e = e queue_first (omega arith) (omega arith)

  -- how many jobs wait
  pub jobs_kept : Agree n m queue_jobs mark_area → (marks_in mainframe n).jobs ≡ (marks_in mainframe m).jobs
  unfolding marks_in first_place jobs_place mainframe
  jobs_kept e = e queue_jobs (omega arith) (omega arith)

  -- all of them together
  pub marks_kept : Agree n m wanted_place first_dirty → Agree n m first_awaited mark_area → marks_in mainframe n ≡ marks_in mainframe m
  marks_kept e f =
      λ i. record {
        holders = holders_kept (λ j a b. e j (omega arith) b) i;
        arrived = arrived_kept (λ j a b. e j (omega arith) (omega arith)) i;
        wanted = wanted_kept (λ j a b. e j a (omega arith)) i;
        awaited = awaited_kept (λ j a b. f j a (omega arith)) i;
        turns = turns_kept (λ j a b. f j (omega arith) (omega arith)) i;
        first = first_kept (λ j a b. f j (omega arith) (omega arith)) i;
        jobs = jobs_kept (λ j a b. f j (omega arith) b) i;
      }

  -- the pages: their dirty marks
  pub pages_kept : (w : List ℕ) → Agree n m first_dirty first_awaited → pages_in mainframe w n ≡ pages_in mainframe w m
  unfolding pages_in dirty_place mainframe
  pages_kept w e =
      λ i. record {
        copies = (pages_in mainframe w m).copies;
        twins = (pages_in mainframe w m).twins;
        dirty =
            page_table_same processor_limit page_limit (λ p g. get_or n (dirty_place mainframe p g) 0) (λ p g. get_or m (dirty_place mainframe p g) 0)
            (λ p g x y z. e (dirty_place mainframe p g) (omega arith) (omega arith)) i;
      }

  -- the state differs in its marks alone where the counts, the number of records and the dirty marks stay
  pub marks_alone : (c w r : List ℕ) → Agree n m 0 wanted_place → Agree n m first_dirty first_awaited → state_in mainframe c w r n ≡ with_marks (state_in mainframe c w r m) (marks_in mainframe n)
  unfolding state_in
  marks_alone c w r e f =
      λ i. record {
        counts = counts_kept c w r (λ j a b. e j a (omega arith)) i;
        clocks = clocks_in mainframe c;
        pages = pages_kept w f i;
        records = records_kept r (λ j a b. e j (omega arith) b) i;
        marks = marks_in mainframe n;
        shared = shared_in mainframe w;
      }

  -- and in its pages alone where all but the dirty marks stay
  pub pages_alone : (c w r : List ℕ) → Agree n m 0 first_dirty → Agree n m first_awaited mark_area → state_in mainframe c w r n ≡ with_pages (state_in mainframe c w r m) (pages_in mainframe w n)
  unfolding state_in
  pages_alone c w r e f =
      λ i. record {
        counts = counts_kept c w r (λ j a b. e j a (omega arith)) i;
        clocks = clocks_in mainframe c;
        pages = pages_in mainframe w n;
        records = records_kept r (λ j a b. e j (omega arith) (omega arith)) i;
        marks = marks_kept (λ j a b. e j (omega arith) b) f i;
        shared = shared_in mainframe w;
      }

-- one mark stored anew: all places but its own agree
pub agree_below : (m : List ℕ) (k x from to : ℕ) → to ≤ k → Agree (set m k x) m from to
agree_below m k x from to h = λ j a b. get_or-set_other m k j x 0 (λ e. omega arith)

-- the same for the places above it
pub agree_above : (m : List ℕ) (k x from to : ℕ) → k < from → Agree (set m k x) m from to
agree_above m k x from to h = λ j a b. get_or-set_other m k j x 0 (λ e. omega arith)

-- a run of marks stored anew: all places before and behind it agree
pub agree_before : (m v : List ℕ) (k from to : ℕ) → to ≤ k → Agree (sets m k v) m from to
agree_before m v k from to h = λ j a b. get_sets_before v m k j 0 (omega arith)

-- the same for the places behind it
pub agree_behind : (m v : List ℕ) (k from to : ℕ) → k + length v ≤ from → Agree (sets m k v) m from to
agree_behind m v k from to h = λ j a b. get_sets_behind v m k j 0 (omega arith)
