-- A job laid at the free place, and the oldest one taken: what this leaves of clocks, words and marks, one law for each way of the code, and
-- `queue_laws`. Assumes nothing.
use Prim.Native.Nat.{ℕ, ◌+◌, ◌*◌, ◌%◌, ◌<◌}
use native.Mathlib.Omega.{arith}
use mathlib.Core.Path.{◌≡◌, sym, ap, ◌∙◌}
use mathlib.Core.List.{List}
use lib.ListN.{length, get_or, set, length-set}
use lib.Seq.{sets, length-sets}
use borrow.Author.Rules.{rules}
use Rattle.limits.specs.Limits.{job_limit, word_values}
use Rattle.limits.specs.inner.Sizes.{clock_row_limit, clock_width, first_job_value}
use Rattle.clock.specs.Clocks.{joined}
use Rattle.rules.specs.State.{mainframe, Processor, Job, Clocks, clock_of, with_clock, State, with_clocks}
use Rattle.rules.specs.Steps.{learned}
use Rattle.rules.proofs.inorder.Facts.{Within}
use Rattle.layout.specs.Areas.{job_row, clock_row, value_place, clocks_in, state_in}
use Rattle.layout.specs.Layout.{row_of}
use Rattle.layout.specs.inner.Marks.{first_mark}
use Rattle.layout.specs.inner.Needed.{RowThere, TwoRows}
use Rattle.layout.proofs.ClockLaws.{clock_read, clock_written}
use Rattle.layout.proofs.TallyLaws.{value_at_lem}
use Rattle.layout.proofs.QueueLaws.{first_read, value_read, value_written}
use Rattle.layout.proofs.RowLaws.{length_row}
use Rattle.layout.proofs.Learning.{learned_clock}
use Rattle.queue_marks.specs.inner.Needed.{RoomThere, JobThere}
use Rattle.queue_marks.specs.inner.Effects.{FreePlace, job_added, job_removed, JobAdded, JobRemoved}
use Rattle.step_queue.specs.inner.Needed.{RoomFor, JobFor, JobClocks}
use Rattle.step_queue.specs.inner.Effects.{job_laid_at, job_laid, job_taken_at, job_taken, JobLaid, JobTaken}

-- ---- the clock of a job

module _ (c : List ℕ) (p k : ℕ) (h : JobClocks c p k) where
  -- the processor's clock has its row
  pub own_row_there : RowThere clock_width c p
  own_row_there = record { within = omega (arith, h.to, h.clocks) }

  -- so has the job's
  pub job_place : k < job_limit
  job_place = h.place

  pub job_row_there : (row : ℕ) → (row ≡ job_row mainframe k) × (row < clock_row_limit) → RowThere clock_width c row
  job_row_there row at = record { within = omega (arith, at.1, h.clocks) }

-- it is laid in its row
pub job_told : (c c' own : List ℕ) (p k row : ℕ) → (row ≡ job_row mainframe k) × (row < clock_row_limit) → own ≡ row_of clock_width c p → c' ≡ sets c (clock_width * row) own
    → c' ≡ sets c (clock_width * job_row mainframe k) (row_of clock_width c p)
job_told c c' own p k row at eo e = e ∙ rw (eo, at.0)

-- ---- a job laid

module _ (c w m : List ℕ) (p : ℕ) (h : RoomFor c w m p) where
  -- the marks have room for it
  pub room_there : RoomThere m
  room_there = h.queue

  module _ (k : ℕ) (free : FreePlace m k) where
    -- its value has a place
    pub value_place_there : first_job_value + k < length w
    value_place_there = omega (arith, h.words, free.within)

    -- so has its clock
    pub job_clocks_there : JobClocks c p k
    job_clocks_there = record { clocks = h.clocks; to = h.to; place = free.within }

    module _ (v : ℕ) (c' w' m' : List ℕ) (ew : w' ≡ set w (first_job_value + k) v) (small : v < 4294967296)
        (ec : c' ≡ sets c (clock_width * job_row mainframe k) (row_of clock_width c p)) (added : JobAdded m m') where
      stored : w' ≡ set w (value_place mainframe k) (v % word_values)
      stored =
          let bits : v ≡ v % word_values = omega (arith, small) in
          ew ∙ ap (λ (j : ℕ). set w j v) (sym (value_at_lem k)) ∙ ap (λ (x : ℕ). set w (value_place mainframe k) x) bits

      told : clocks_in mainframe c' ≡ with_clock (clocks_in mainframe c) (Job k) (clock_of (clocks_in mainframe c) (Processor p))
      unfolding clock_row mainframe Within
      told =
          ap (clocks_in mainframe) ec
          ∙ clock_written c (row_of clock_width c p) (Job k) h.clocks free.within (length_row clock_width c p (omega (arith, h.to, h.clocks)))
          ∙ ap (λ (x : List ℕ). with_clock (clocks_in mainframe c) (Job k) x) (sym (clock_read c (Processor p) (h.from, h.to)))

      -- value and clock are laid there, and one job more waits
      pub job_laid_lem : JobLaid c w m c' w' m' p v
      unfolding job_laid job_laid_at job_added state_in
      job_laid_lem =
          record {
            clocks = ap length ec ∙ length-sets c (clock_width * job_row mainframe k) (row_of clock_width c p) ∙ h.clocks;
            words = ap length ew ∙ length-set w (first_job_value + k) v ∙ h.words;
            marks = added.marks;
            is = λ r.
                added.is c' w' r
                ∙ ap (λ (x : Clocks). job_added (with_clocks (state_in mainframe c w' r m) x)) told
                ∙ ap (λ (s : State). job_added (with_clocks s (with_clock (clocks_in mainframe c) (Job k) (clock_of (clocks_in mainframe c) (Processor p)))))
                (ap (λ (x : List ℕ). state_in mainframe c x r m) stored ∙ value_written c w r m k (v % word_values) h.words free.within)
                ∙ ap (λ (j : ℕ). job_laid_at (state_in mainframe c w r m) p v j) (free.is c w r);
          }

-- ---- the oldest job taken

module _ (c w m : List ℕ) (p : ℕ) (h : JobFor c w m p) where
  -- the marks have a job
  pub job_there : JobThere m
  job_there = h.queue

  module _ (k : ℕ) (f : (k ≡ first_mark m) × (k < 256)) where
    within : k < job_limit
    within = omega (arith, f.0, h.queue.first)

    -- it has a place
    pub oldest_place : k < job_limit
    oldest_place = within

    -- its value has one
    pub oldest_value_there : first_job_value + k < length w
    oldest_value_there = omega (arith, h.words, within)

    module _ (row : ℕ) (at : (row ≡ job_row mainframe k) × (row < clock_row_limit)) where
      -- its clock has a row
      pub oldest_rows : TwoRows c p row
      oldest_rows = record { clocks = h.clocks; to_there = omega (arith, h.to); from_there = at.1 }

      -- the processor knows its clock, and it is removed
      pub job_taken_lem : (c' m' : List ℕ) → c' ≡ sets c (clock_width * p) (joined (row_of clock_width c p) (row_of clock_width c row)) → JobRemoved m m'
          → JobTaken c w m c' m' p (get_or w (first_job_value + k) 0)
      unfolding job_taken job_taken_at job_removed state_in clock_row mainframe Within
      job_taken_lem c' m' e removed =
          let joins : c' ≡ sets c (clock_width * p) (joined (row_of clock_width c p) (row_of clock_width c (job_row mainframe k))) = rw at.0 at e in
          let knows : clocks_in mainframe c' ≡ learned (clocks_in mainframe c) (Processor p) (Job k)
          = ap (clocks_in mainframe) joins ∙ learned_clock c (Processor p) (Job k) h.clocks (h.from, h.to) within in
          record {
            clocks = ap length joins ∙ length-sets c (clock_width * p) (joined (row_of clock_width c p) (row_of clock_width c (job_row mainframe k))) ∙ h.clocks;
            marks = removed.marks;
            is = λ r.
                removed.is c' w r
                ∙ ap (λ (x : Clocks). job_removed (with_clocks (state_in mainframe c w r m) x)) knows
                ∙ ap (λ (j : ℕ). job_removed (with_clocks (state_in mainframe c w r m) (learned (clocks_in mainframe c) (Processor p) (Job j)))) (f.0 ∙ sym (first_read c w r m));
            value = λ r.
                ap (λ (j : ℕ). get_or w j 0) (sym (value_at_lem k)) ∙ sym (value_read c w r m k within)
                ∙ ap (λ (j : ℕ). get_or (state_in mainframe c w r m).shared.values j 0) (f.0 ∙ sym (first_read c w r m));
          }

pub ruleset queue_laws = (own_row_there, job_place, job_row_there, job_told, room_there, value_place_there, job_clocks_there, job_laid_lem, job_there, oldest_place, oldest_value_there, oldest_rows, job_taken_lem, rules)
