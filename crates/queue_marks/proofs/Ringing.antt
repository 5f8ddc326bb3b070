-- The places of the queue, a job added and a job removed: one law for each way of the code, and `ring_laws`. Assumes nothing.
use Prim.Native.Nat.{ℕ, ◌+◌, ◌-◌, ◌≤◌, ◌<◌}
use native.Mathlib.Numerals.{add-one}
use native.Mathlib.Omega.{arith}
use mathlib.Core.Path.{◌≡◌, sym, ap, ◌∙◌}
use mathlib.Core.List.{List}
use lib.ListN.{length, set, length-set}
use borrow.Author.Tests.{lt-ltb, le-ltb, eq-eqb, ne_eqb}
use borrow.Author.Rules.{rules}
use Rattle.limits.specs.Limits.{job_limit}
use Rattle.limits.specs.inner.Sizes.{mark_area}
use Rattle.rules.specs.State.{mainframe, State, with_marks, with_queue}
use Rattle.rules.specs.Steps.{place_behind, free_place}
use Rattle.layout.specs.Areas.{first_place, jobs_place, state_in}
use Rattle.layout.specs.inner.Marks.{first_mark, jobs_mark}
use Rattle.layout.proofs.QueueLaws.{first_read, jobs_read, first_written, jobs_written}
use Rattle.queue_marks.specs.inner.Needed.{RoomThere, JobThere}
use Rattle.queue_marks.specs.inner.Effects.{FreePlace, job_added, job_removed, JobAdded, JobRemoved}

-- ---- the free place

module _ (m : List ℕ) (first jobs : ℕ) (h : RoomThere m) (f : (first ≡ first_mark m) × (first < 256)) (j : (jobs ≡ jobs_mark m) × (jobs < 256)) where
  -- it lies before the end of the ring
  pub free_before_end : first + jobs < job_limit → FreePlace m (first + jobs)
  unfolding free_place mainframe
  free_before_end l =
      record {
        within = l;
        is = λ c w r. rw (first_read c w r m, jobs_read c w r m, ← f.0, ← j.0, lt-ltb (first + jobs) job_limit l);
      }

  -- or behind it, and so at its beginning
  pub free_behind_end : job_limit ≤ first + jobs → FreePlace m (first + jobs - job_limit)
  unfolding free_place mainframe
  free_behind_end l =
      record {
        within = omega (arith, f.0, j.0, h.first, h.room, l);
        is = λ c w r. rw (first_read c w r m, jobs_read c w r m, ← f.0, ← j.0, le-ltb (first + jobs) job_limit l);
      }

-- ---- the place behind another

-- behind the last
pub behind_last : (k : ℕ) → k + 1 ≡ job_limit → 0 ≡ place_behind mainframe k
unfolding place_behind mainframe
behind_last k e = rw (← add-one k, eq-eqb (k + 1) job_limit e)

-- behind another
pub behind_other : (k : ℕ) → (k + 1 ≡ job_limit → ⊥) → k + 1 ≡ place_behind mainframe k
unfolding place_behind mainframe
behind_other k e = rw (← add-one k, ne_eqb (k + 1) job_limit e)

-- ---- a job added

module _ (m : List ℕ) (h : RoomThere m) (jobs : ℕ) (j : (jobs ≡ jobs_mark m) × (jobs < 256)) where
  -- one more waits
  pub job_added_lem : (m' : List ℕ) → m' ≡ set m (jobs_place mainframe) (jobs + 1) → JobAdded m m'
  unfolding job_added
  job_added_lem m' e =
      record {
        marks = ap length e ∙ length-set m (jobs_place mainframe) (jobs + 1) ∙ h.marks;
        is = λ c w r.
            let s = state_in mainframe c w r m in
            ap (state_in mainframe c w r) e ∙ jobs_written c w r m (jobs + 1) h.marks
            ∙ ap (λ (x : ℕ). with_marks s (with_queue s.marks s.marks.first (x + 1))) (j.0 ∙ sym (jobs_read c w r m));
      }

-- ---- the oldest job removed

module _ (m : List ℕ) (h : JobThere m) where
  module _ (m₁ : List ℕ) (next : ℕ) (e₁ : m₁ ≡ set m (first_place mainframe) next) where
    long : length m₁ ≡ mark_area
    long = ap length e₁ ∙ length-set m (first_place mainframe) next ∙ h.marks

    -- the one behind it is the oldest
    pub job_removed_lem : (m₂ : List ℕ) (first jobs : ℕ) → m₂ ≡ set m₁ (jobs_place mainframe) (jobs - 1) → next ≡ place_behind mainframe first → first ≡ first_mark m → jobs ≡ jobs_mark m
        → JobRemoved m m₂
    unfolding job_removed
    job_removed_lem m₂ first jobs e₂ b f j =
        record {
          marks = ap length e₂ ∙ length-set m₁ (jobs_place mainframe) (jobs - 1) ∙ long;
          is = λ c w r.
              let s = state_in mainframe c w r m in
              ap (state_in mainframe c w r) e₂ ∙ jobs_written c w r m₁ (jobs - 1) long
              ∙ ap (λ (t : State). with_marks t (with_queue t.marks t.marks.first (jobs - 1))) (ap (state_in mainframe c w r) e₁ ∙ first_written c w r m next h.marks)
              ∙ ap (λ (x : ℕ). with_marks s (with_queue s.marks x (jobs - 1))) (b ∙ ap (place_behind mainframe) (f ∙ sym (first_read c w r m)))
              ∙ ap (λ (x : ℕ). with_marks s (with_queue s.marks (place_behind mainframe s.marks.first) (x - 1))) (j ∙ sym (jobs_read c w r m));
        }

pub ruleset ring_laws = (free_before_end, free_behind_end, behind_last, behind_other, job_added_lem, job_removed_lem, rules)
