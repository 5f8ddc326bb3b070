-- Document 02, L8, "Space forecast": what a forecast keeps of a state, "no page contents and no values", which refusal it gives a step, and what
-- an accepted step does to it. Assumes nothing.
use Rattle.std.specs.Prelude.{ℕ, suc, ◌+◌, max, cond, List, [], ◌∷◌, map, get_or, replicate, eqb}
use Rattle.lists.specs.Tables.{put, put_cell, total}
use Rattle.rules.specs.State.{Limits, Counts, dirty_at, Marks, with_arrived, with_wanted, State}
use Rattle.rules.specs.InOrder.{dirty_pages}
use Rattle.rules.specs.Lines.{lock_asked, lock_handed}
use Rattle.rules.specs.Opening.{zero_pages, zero_marks}
use Rattle.rules.specs.Close.{any_dirty, cleaned}
use Rattle.rules.specs.Steps.{page_of_word, all_arrived, wants_collection, with_new_job, without_oldest}
use Rattle.rules.specs.Refusals.{Step, Action, Read, Write, Acquire, Release, Arrive, Want, TallyAdd, TallyRead, Enqueue, Dequeue, Unknown, action_of, refusal_by, answer, next}

-- the counts, the own entry of each processor (by its number), which pages are dirty, how many records stand, and the marks
pub record Forecast : Type 0 where
  pub counts : Counts
  pub entries : List ℕ
  pub dirty : List (List ℕ)
  pub standing : ℕ
  pub marks : Marks

-- a state of which only these are known: no clock, no page, no record, no tally and no job has anything in it
unfoldable pub bare : Forecast → State
bare f =
    record {
      counts = f.counts;
      clocks = record { processors = []; locks = []; barrier = []; applied = []; intervals = []; jobs = [] };
      pages = record { copies = []; twins = []; dirty = f.dirty };
      records = record { standing = f.standing; slots = [] };
      marks = f.marks;
      shared = record { posted = []; adds = []; values = [] };
    }

-- the own entry of a processor
unfoldable pub own_for : Forecast → ℕ → ℕ
own_for f p = get_or f.entries p 0

-- the refusal of a step: the rules' own rows
unfoldable pub forecast_refusal : Limits → Forecast → Step → ℕ
forecast_refusal lim f t = refusal_by lim (bare f) (own_for f t.processor) t

-- "the dirty pages"
unfoldable pub dirty_for : Forecast → ℕ
dirty_for f = dirty_pages (bare f)

-- ---- the parts of steps

-- close: an interval where a page is dirty, a record for each dirty page, and the pages are clean
unfoldable pub closed_for : Forecast → ℕ → Forecast
closed_for f p =
    record {
      counts = f.counts;
      entries = cond (any_dirty (bare f) p) (put 0 f.entries p (own_for f p + 1)) f.entries;
      dirty = (cleaned (bare f).pages p).dirty;
      standing = f.standing + total f.counts.pages (λ g. cond (dirty_at (bare f).pages p g) 1 0);
      marks = f.marks;
    }

-- other marks
unfoldable pub marks_for : Forecast → Marks → Forecast
marks_for f m = record { counts = f.counts; entries = f.entries; dirty = f.dirty; standing = f.standing; marks = m }

-- a write makes its page dirty
unfoldable pub written_for : Limits → Forecast → ℕ → ℕ → Forecast
written_for lim f p w =
    record {
      counts = f.counts;
      entries = f.entries;
      dirty = cond (dirty_at (bare f).pages p (page_of_word lim w)) f.dirty (put_cell 0 f.dirty p (page_of_word lim w) 1);
      standing = f.standing;
      marks = f.marks;
    }

-- a round is completed: the arrived marks clear
unfoldable pub round_for : Forecast → Forecast
round_for f = marks_for f (with_arrived f.marks (map (λ mark. 0) f.marks.arrived))

-- a collection: no record stands, every own entry is 0, and the wish clears
unfoldable pub collected_for : Forecast → Forecast
collected_for f =
    record { counts = f.counts; entries = map (λ e. 0) f.entries; dirty = f.dirty; standing = 0; marks = with_wanted f.marks 0 }

-- ---- the steps

-- "When the last card arrives", and "if collection is wanted"
unfoldable pub completed_for : Forecast → Forecast
completed_for f = cond (all_arrived (bare f)) (cond (wants_collection (bare f)) (collected_for (round_for f)) (round_for f)) f

-- the mark of an arrival
unfoldable pub barrier_for : Forecast → ℕ → Forecast
barrier_for f p = marks_for f (with_arrived f.marks (put 0 f.marks.arrived p 1))

-- what an accepted step leaves
unfoldable pub forecast_after : Limits → Forecast → ℕ → Action → Forecast
forecast_after lim f p (Read w) = f
forecast_after lim f p (Write w v) = written_for lim f p w
forecast_after lim f p (Acquire l) = let f₁ = closed_for f p in marks_for f₁ (lock_asked f₁.counts.processors f₁.marks l p)
forecast_after lim f p (Release l) = let f₁ = closed_for f p in marks_for f₁ (lock_handed f₁.counts.processors f₁.marks l)
forecast_after lim f p Arrive = completed_for (barrier_for (closed_for f p) p)
forecast_after lim f p Want = marks_for f (with_wanted f.marks (cond (wants_collection (bare f)) f.marks.wanted 1))
forecast_after lim f p (TallyAdd t v) = f
forecast_after lim f p (TallyRead t) = f
forecast_after lim f p (Enqueue v) = let f₁ = closed_for f p in marks_for f₁ (with_new_job f₁.marks)
forecast_after lim f p Dequeue = let f₁ = closed_for f p in marks_for f₁ (without_oldest lim f₁.marks)
forecast_after lim f p Unknown = f

-- what a step leaves, refused or not
unfoldable pub forecast_next : Limits → Forecast → Step → Forecast
forecast_next lim f t = cond (eqb (forecast_refusal lim f t) 0) (forecast_after lim f t.processor (action_of t)) f

-- the forecast of an opening
unfoldable pub opened_for : Limits → Counts → Forecast
opened_for lim c = record { counts = c; entries = replicate (suc lim.processors) 0; dirty = (zero_pages lim).dirty; standing = 0; marks = zero_marks lim }

-- ---- the figures of a list of steps: "its refusal, the records standing and the dirty pages after it"

pub record Figures : Type 0 where
  pub refusal : ℕ
  pub standing : ℕ
  pub dirty : ℕ

-- "what the run itself has"
unfoldable pub run_figures : Limits → State → List Step → List Figures
run_figures lim s [] = []
run_figures lim s (t ∷ ts) =
    let s₁ = next lim s t in record { refusal = (answer lim s t).refusal; standing = s₁.records.standing; dirty = dirty_pages s₁ } ∷ run_figures lim s₁ ts

-- what a forecast has
unfoldable pub forecast_figures : Limits → Forecast → List Step → List Figures
forecast_figures lim f [] = []
forecast_figures lim f (t ∷ ts) =
    let f₁ = forecast_next lim f t in record { refusal = forecast_refusal lim f t; standing = f₁.standing; dirty = dirty_for f₁ } ∷ forecast_figures lim f₁ ts

-- "the largest sum of records and dirty pages on its lines, 0 if all are 0"
unfoldable pub most_of : List Figures → ℕ
most_of [] = 0
most_of (x ∷ rest) = max (x.standing + x.dirty) (most_of rest)
