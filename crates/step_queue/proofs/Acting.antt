-- Enqueue and dequeue, put together from closing and their own parts: one law for each way of the code, and `act_laws`. Assumes nothing.
use Prim.Native.Nat.{ℕ, ◌<◌}
use native.Mathlib.Omega.{arith}
use mathlib.Core.Path.{◌≡◌, sym, ap, ◌∙◌}
use mathlib.Core.Logic.{◌⊎◌, inl, inr}
use mathlib.Core.List.{List}
use lib.ListN.{get_or}
use borrow.Author.Rules.{rules}
use Rattle.limits.specs.Limits.{job_limit}
use Rattle.rules.specs.Close.{closed}
use Rattle.rules.specs.State.{mainframe, State}
use Rattle.rules.specs.Steps.{enqueue, dequeue}
use Rattle.layout.specs.Areas.{state_in}
use Rattle.layout.specs.inner.Marks.{first_mark, jobs_mark}
use Rattle.layout.specs.inner.Needed.{Acts, Holds}
use Rattle.layout.proofs.Rows.{acting_within}
use Rattle.layout.proofs.QueueLaws.{first_read, jobs_read}
use Rattle.step_queue.specs.inner.Needed.{ActsWithRoom, ActsOnJob, RoomFor, JobFor}
use Rattle.step_queue.specs.inner.Effects.{job_laid_at, job_laid, job_taken_at, job_taken, JobLaid, JobTaken, Dequeued}

-- once the interval is closed the marks of the queue are as they were
module _ (c w r m : List ℕ) (p : ℕ) (a : Acts c w r m p) (c' r' m' : List ℕ) (h : Holds c' w r' m' (closed (state_in mainframe c w r m) p)) where
  jobs_stay : jobs_mark m' ≡ (state_in mainframe c w r m).marks.jobs
  unfolding closed
  jobs_stay = sym (jobs_read c' w r' m') ∙ ap (λ (s : State). s.marks.jobs) h.is

  first_stays : first_mark m' ≡ (state_in mainframe c w r m).marks.first
  unfolding closed
  first_stays = sym (first_read c' w r' m') ∙ ap (λ (s : State). s.marks.first) h.is

  first_within : first_mark m' < job_limit
  unfolding mainframe
  first_within = go a.in_order.first_there
    where
      go : (job_limit ≡ 0) ⊎ ((state_in mainframe c w r m).marks.first < job_limit) → first_mark m' < job_limit
      go (inl z) = absurd (omega (arith, z))
      go (inr l) = omega (arith, l, first_stays)

module _ (c w r m : List ℕ) (p : ℕ) where
  -- who adds or removes a job acts
  pub adder_acts : ActsWithRoom c w r m p → Acts c w r m p
  adder_acts a = a.acts

  pub remover_acts : ActsOnJob c w r m p → Acts c w r m p
  remover_acts a = a.acts

  module _ (c' r' m' : List ℕ) (h : Holds c' w r' m' (closed (state_in mainframe c w r m) p)) where
    -- then there is room for a job
    pub closed_room : ActsWithRoom c w r m p → RoomFor c' w m' p
    closed_room a =
        record {
          clocks = h.lent.clocks;
          words = h.lent.words;
          from = a.acts.from;
          to = acting_within c w r m p a.acts;
          queue =
              record {
                marks = h.lent.marks;
                first = first_within c w r m p a.acts c' r' m' h;
                room = omega (arith, a.room, jobs_stay c w r m p a.acts c' r' m' h);
              };
        }

    -- or a job
    pub closed_job : ActsOnJob c w r m p → JobFor c' w m' p
    unfolding mainframe
    closed_job a =
        let stays = jobs_stay c w r m p a.acts c' r' m' h in
        record {
          clocks = h.lent.clocks;
          words = h.lent.words;
          from = a.acts.from;
          to = acting_within c w r m p a.acts;
          queue =
              record {
                marks = h.lent.marks;
                first = first_within c w r m p a.acts c' r' m' h;
                some = omega (arith, a.some, stays);
                few = omega (arith, a.acts.in_order.few_jobs, stays);
              };
        }

module _ (s : State) (p : ℕ) (c w r m : List ℕ) (h : Holds c w r m (closed s p)) where
  -- the job added
  pub enqueued : (v : ℕ) (c' w' m' : List ℕ) → JobLaid c w m c' w' m' p v → Holds c' w' r m' (enqueue mainframe s p v)
  unfolding enqueue job_laid job_laid_at
  enqueued v c' w' m' t =
      record {
        lent = record { clocks = t.clocks; words = t.words; records = h.lent.records; marks = t.marks };
        is = t.is r ∙ ap (λ (u : State). job_laid u p v) h.is;
      }

  -- or removed
  pub dequeued : (v : ℕ) (c' m' : List ℕ) → JobTaken c w m c' m' p v → Dequeued s p v c' w r m'
  unfolding dequeue job_taken job_taken_at
  dequeued v c' m' t =
      record {
        answer = t.value r ∙ ap (λ (u : State). get_or u.shared.values u.marks.first 0) h.is;
        areas =
            record {
              lent = record { clocks = t.clocks; words = h.lent.words; records = h.lent.records; marks = t.marks };
              is = t.is r ∙ ap (λ (u : State). job_taken u p) h.is;
            };
      }

pub ruleset act_laws = (adder_acts, remover_acts, enqueued, dequeued, rules)
