-- What a forecast shows of the state in order that it foretells, and what the functions may so ask of the marks. Rests on Foretold of the crate
-- rules. Assumes nothing.
use Prim.Native.Nat.{ℕ, zero, suc, ◌+◌, ◌-◌, ◌≤◌, ◌<◌}
use native.Mathlib.Omega.{arith}
use mathlib.Core.Path.{◌≡◌, ap}
use mathlib.Core.Bool.{true, false}
use mathlib.Core.Logic.{◌⊎◌, inl, inr}
use mathlib.Core.List.{List, [], ◌∷◌}
use lib.ListN.{get_or}
use Rattle.limits.specs.Limits.{job_limit}
use Rattle.rules.specs.InOrder.{present, present_holder, dirty_pages}
use Rattle.rules.specs.Close.{closed}
use Rattle.rules.specs.Lines.{waits}
use Rattle.rules.specs.State.{Limits, mainframe, Applied, dirty_at, Marks, State, own, clock, with_marks, has_arrived}
use Rattle.rules.specs.Forecast.{Forecast, bare, own_for, dirty_for, closed_for, marks_for}
use Rattle.rules.proofs.Foretold.{seen_in, close_foretold}
use Rattle.rules.proofs.inorder.Accepted.{present_when}
use Rattle.rules.proofs.inorder.Facts.{InOrder, LinesInOrder}
use Rattle.rules.proofs.inorder.KeptClose.{closed_keeps}
use Rattle.rules.proofs.inorder.KeptParts.{own_in}
use Rattle.layout.specs.Areas.{marks_in, state_in}
use Rattle.layout.specs.inner.Marks.{first_mark, jobs_mark}
use Rattle.refusals.specs.inner.Needed.{MarksCountable, PagesOf}
use Rattle.refusals.specs.inner.Parts.{seen}
use Rattle.barrier_marks.specs.inner.Needed.{AbsentAway}
use Rattle.barrier_marks.proofs.Counting.{absent_away}
use Rattle.forecast_step.specs.Memory.{forecast_in}
use Rattle.forecast_step.specs.inner.Needed.{Foreseen}
use Rattle.forecast_step.specs.inner.Parts.{ActsForeseen, Shows}

-- ---- a forecast of a state in order

-- what "in order" says of the parts that a forecast keeps
pub record ForecastInOrder (lim : Limits) (f : Forecast) : Type 0 where
  pub processors_fit : f.counts.processors ≤ lim.processors
  pub pages_fit : f.counts.pages ≤ lim.pages
  pub locks_fit : f.counts.locks ≤ lim.locks
  pub absent_clean : (p g : ℕ) → present_holder (bare f) (Applied p g) ≡ false → dirty_at (bare f).pages p g ≡ false
  pub absent_not_arrived : (p : ℕ) → 1 ≤ p → present (bare f) p ≡ false → has_arrived (bare f) p ≡ false
  pub absent_awake : (p : ℕ) → 1 ≤ p → present (bare f) p ≡ false → waits f.marks p ≡ false
  pub lines : LinesInOrder f.counts f.marks
  pub first_there : (lim.jobs ≡ 0) ⊎ (f.marks.first < lim.jobs)
  pub few_jobs : f.marks.jobs ≤ lim.jobs
  pub room : f.standing + dirty_for f ≤ lim.records
  pub own_fits_lem : (p : ℕ) → own_for f p ≤ lim.intervals

seen_in_order : (lim : Limits) (s : State) (e : List ℕ) → InOrder lim s → ((p : ℕ) → own_in s.clocks p ≡ get_or e p 0) → ForecastInOrder lim (seen_in s e)
unfolding seen_in bare present_holder present dirty_at has_arrived dirty_for dirty_pages own_for own clock
seen_in_order lim s e o owns =
    record {
      processors_fit = o.processors_fit;
      pages_fit = o.pages_fit;
      locks_fit = o.locks_fit;
      absent_clean = o.absent_clean;
      absent_not_arrived = o.absent_not_arrived;
      absent_awake = o.absent_awake;
      lines = o.lines;
      first_there = o.first_there;
      few_jobs = o.few_jobs;
      room = o.room;
      own_fits_lem = λ p. rw (← owns p) (o.own_fits_lem p);
    }

-- ---- the forecast in memory

-- the own entry of a processor lies one place before its number
pub entry_at : (own : List ℕ) (p : ℕ) → 1 ≤ p → get_or own (p - 1) 0 ≡ get_or (0 ∷ own) p 0
entry_at own zero h = absurd (omega (arith, h))
entry_at own (suc k) h = let place : suc k - 1 ≡ k = omega arith in rw place

module _ (own m : List ℕ) (h : Foreseen own m) where
  -- the counts are those of the state
  pub counts_seen : (seen m).counts ≡ h.state.counts
  unfolding forecast_in seen_in seen
  counts_seen = ap (λ (f : Forecast). f.counts) h.foretold.same

  -- and so are the marks
  pub marks_seen : (seen m).marks ≡ h.state.marks
  unfolding forecast_in seen_in seen
  marks_seen = ap (λ (f : Forecast). f.marks) h.foretold.same

  -- what "in order" says of that state
  pub foreseen_in_order : ForecastInOrder mainframe (forecast_in own m)
  foreseen_in_order = rw h.foretold.same (seen_in_order mainframe h.state (forecast_in own m).entries h.in_order h.foretold.own_entries_lem)

  -- the marks count what they may
  pub counted_foreseen : MarksCountable m
  unfolding forecast_in seen_in bare seen state_in mainframe present_holder present dirty_at
  counted_foreseen =
      let o = foreseen_in_order in
      record { marks = h.marks; processors = o.processors_fit; pages = o.pages_fit; locks = o.locks_fit; absent_clean = record { clean = o.absent_clean } }

  -- the oldest job has a place, and no more jobs wait than there are places
  pub first_foreseen : first_mark m < job_limit
  unfolding forecast_in seen_in state_in marks_in mainframe
  first_foreseen = go foreseen_in_order.first_there
    where
      go : (job_limit ≡ 0) ⊎ (first_mark m < job_limit) → first_mark m < job_limit
      go (inl e) = absurd (omega (arith, e))
      go (inr l) = l

  pub jobs_foreseen : jobs_mark m ≤ job_limit
  unfolding forecast_in seen_in state_in marks_in mainframe
  jobs_foreseen = foreseen_in_order.few_jobs

  -- nobody who is absent has arrived
  pub away_foreseen : AbsentAway m
  unfolding forecast_in seen_in bare seen state_in mainframe present has_arrived
  away_foreseen = absent_away [] [] [] m h.marks foreseen_in_order.processors_fit foreseen_in_order.absent_not_arrived

-- ---- a processor that acts

module _ (own m : List ℕ) (p : ℕ) (a : ActsForeseen own m p) where
  -- it has marks
  pub pages_foreseen : PagesOf m p
  pages_foreseen =
      let o = counted_foreseen own m a.foreseen in
      record { counted = o; from = a.from; to = omega (arith, a.to, o.processors) }

  -- and is present
  pub present_foreseen : present (seen m) p ≡ true
  unfolding seen state_in
  present_foreseen = present_when (seen m) p a.from a.to

  -- its closing leaves the forecast of a state in order
  pub closed_foreseen : (own₁ m₁ : List ℕ) → Shows own₁ m₁ (closed_for (forecast_in own m) p) → Foreseen own₁ m₁
  unfolding present
  closed_foreseen own₁ m₁ k =
      let s = a.foreseen.state in
      record {
        entries = k.entries;
        marks = k.marks;
        state = closed s p;
        in_order = closed_keeps mainframe s p (rw (← counts_seen own m a.foreseen) present_foreseen) a.foreseen.in_order;
        foretold = rw k.is (close_foretold s (forecast_in own m) p a.foreseen.foretold a.from);
      }

-- ---- other marks

-- marks stored anew are those of the forecast
pub marks_shown : (own m m' : List ℕ) (k : Marks) → seen m' ≡ with_marks (seen m) k → forecast_in own m' ≡ marks_for (forecast_in own m) k
unfolding forecast_in seen_in marks_for seen
marks_shown own m m' k e = ap (λ (s : State). seen_in s (0 ∷ own)) e
