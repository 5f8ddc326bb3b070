-- Enqueue and dequeue by the marks and the own entries, put together from closing and the marks of the queue: one law for each way of the code, and
-- `queue_laws`. Rests on Foreseeing. Assumes nothing.
use Prim.Native.Nat.{ℕ, ◌+◌, ◌-◌}
use mathlib.Core.Path.{◌≡◌, ap, ◌∙◌}
use mathlib.Core.List.{List, []}
use borrow.Author.Rules.{rules}
use Rattle.rules.specs.State.{mainframe, with_queue}
use Rattle.rules.specs.Steps.{place_behind}
use Rattle.rules.specs.Refusals.{Enqueue, Dequeue}
use Rattle.rules.specs.Forecast.{Forecast, closed_for, marks_for, forecast_after}
use Rattle.rules.proofs.Foretold.{seen_in}
use Rattle.layout.specs.Areas.{marks_in, state_in}
use Rattle.layout.specs.inner.Marks.{first_mark, jobs_mark}
use Rattle.refusals.specs.inner.Parts.{seen}
use Rattle.queue_marks.specs.inner.Needed.{RoomThere, JobThere}
use Rattle.queue_marks.specs.inner.Effects.{job_added, job_removed, JobAdded, JobRemoved}
use Rattle.forecast_step.specs.Memory.{forecast_in}
use Rattle.forecast_step.specs.inner.Parts.{RoomForeseen, JobForeseen, Shows}
use Rattle.forecast_step.proofs.Foreseeing.{marks_shown}

-- once the interval is closed
module _ (own m own₁ m₁ : List ℕ) (p : ℕ) (k : Shows own₁ m₁ (closed_for (forecast_in own m) p)) where
  -- the queue is as it was
  first_stays : first_mark m₁ ≡ first_mark m
  unfolding closed_for forecast_in seen_in state_in marks_in mainframe
  first_stays = ap (λ (f : Forecast). f.marks.first) k.is

  jobs_stay : jobs_mark m₁ ≡ jobs_mark m
  unfolding closed_for forecast_in seen_in state_in marks_in mainframe
  jobs_stay = ap (λ (f : Forecast). f.marks.jobs) k.is

  -- so there is room for a job
  pub room_stays : RoomForeseen own m p → RoomThere m₁
  room_stays h = record { marks = k.marks; first = rw first_stays h.queue.first; room = rw jobs_stay h.queue.room }

  -- or a job waits
  pub job_stays : JobForeseen own m p → JobThere m₁
  job_stays h = record { marks = k.marks; first = rw first_stays h.queue.first; some = rw jobs_stay h.queue.some; few = rw jobs_stay h.queue.few }

  -- one was added
  pub added_shown : (m₂ : List ℕ) → JobAdded m₁ m₂ → Shows own₁ m₂ (forecast_after mainframe (forecast_in own m) p (Enqueue 0))
  unfolding forecast_after forecast_in seen_in seen state_in job_added
  added_shown m₂ t =
      record {
        entries = k.entries;
        marks = t.marks;
        is =
            marks_shown own₁ m₁ m₂ _ (t.is [] [] [])
            ∙ ap (λ (f : Forecast). marks_for f (with_queue f.marks f.marks.first (f.marks.jobs + 1))) k.is;
      }

  -- or the oldest removed
  pub removed_shown : (m₂ : List ℕ) → JobRemoved m₁ m₂ → Shows own₁ m₂ (forecast_after mainframe (forecast_in own m) p Dequeue)
  unfolding forecast_after forecast_in seen_in seen state_in job_removed
  removed_shown m₂ t =
      record {
        entries = k.entries;
        marks = t.marks;
        is =
            marks_shown own₁ m₁ m₂ _ (t.is [] [] [])
            ∙ ap (λ (f : Forecast). marks_for f (with_queue f.marks (place_behind mainframe f.marks.first) (f.marks.jobs - 1))) k.is;
      }

pub ruleset queue_laws = (room_stays, job_stays, added_shown, removed_shown, rules)
