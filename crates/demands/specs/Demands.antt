-- The three demands of document 01 together. Open this first.
--
-- What the code does is said by definitions: the contract of each public function says that its answer, and every byte of lent memory afterwards,
-- are what these definitions give, for every input; that each call comes to an end is part of what the checker proves of a function.
--   `open_mainframe`   open_refusal, areas_opened          `apply`   apply_refusal, page_after
--   `step`             answer_of, areas_after              `write`   write_refusal, written, out_after
--   `run`              run_answers, run_areas              `feed`    feed_answer, feed_lines, feed_areas
-- What is demanded of these definitions stands here, in plain words above each field. proofs/Demanded.antt proves all of it. What the requests of
-- document 02 claim beyond it stands in Requests.antt.
-- Assumes nothing.
use Rattle.std.specs.Prelude.{ℕ, ◌+◌, ◌*◌, ◌≤◌, ◌<◌, ◌≡◌, true, false, List, ◌++◌, ◌↔◌, length, take}
use Rattle.limits.specs.Limits.{page_width, interval_limit, record_limit, word_values}
use Rattle.limits.specs.Files.{file_record_width}
use Rattle.diff.specs.Format.{Below, written}
use Rattle.diff.specs.Reading.{read_refusal, settings, applied}
use Rattle.diff.specs.Answers.{apply_refusal, apply_words, page_after}
use Rattle.diff_writer.specs.Answers.{write_refusal, out_after}
use Rattle.rules.specs.Demand.{ReadsJudged}
use Rattle.rules.specs.InOrder.{present, dirty_pages, is_in_order}
use Rattle.rules.specs.Opening.{opening_refusal, opened}
use Rattle.rules.specs.Refusals.{Step, Write, action_of, refused_with, answer, next}
use Rattle.rules.specs.Rows.{NoRowApplies}
use Rattle.rules.specs.Runs.{words_moved}
use Rattle.rules.specs.Lines.{waits}
use Rattle.rules.specs.State.{mainframe, dirty_at, own, has_arrived}
use Rattle.rules.specs.Steps.{page_of_word}
use Rattle.layout.specs.Areas.{Areas, held_state, right_sizes}
use Rattle.opening.specs.Promises.{opening_of, open_refusal, areas_opened}
use Rattle.engine.specs.Promises.{answer_of, areas_after}
use Rattle.lines.specs.Lines.{refusal_line}
use Rattle.stepfile.specs.Files.{answer_lines, end_line, step_answers, file_lines}
use Rattle.stepfile.specs.Promises.{feed_answer, feed_lines, feed_areas}
use Rattle.stepfile.specs.declared.Progress.{Progress}
use Rattle.demands.specs.Answered.{OfAnswers}

-- the areas have their sizes and hold a state in order
pub record Sound (a : Areas) : Type 0 where
  pub sizes : right_sizes a ≡ true
  pub in_order : is_in_order mainframe (held_state a) ≡ true

-- a write of v to word w, on areas in order, that no row above 9 of the table of refusals refuses
pub record WriteComes (a : Areas) (t : Step) (w v : ℕ) : Type 0 where
  pub sound : Sound a
  pub action : action_of t ≡ Write w v
  pub processor_present : present (held_state a) t.processor ≡ true
  pub word_present : w < (held_state a).counts.pages * page_width
  pub not_arrived : has_arrived (held_state a) t.processor ≡ false
  pub not_waiting : waits (held_state a).marks t.processor ≡ false

-- ---- demand 1: "A bad one is refused by its number, with value 0, count 0 and all lent memory unchanged. A write is refused for lack of space
-- only when it must be"

pub record DemandOne : Type 0 where
  -- a refused step answers value 0 and count 0, and moves no word, ..
  pub refused_answer : (a : Areas) (t : Step) → ((answer_of a t).refusal ≡ 0 → ⊥) → answer_of a t ≡ refused_with (answer_of a t).refusal
  -- .. and leaves every area as it was, whatever it held
  pub refused_step : (a : Areas) (t : Step) → ((answer_of a t).refusal ≡ 0 → ⊥) → areas_after a t ≡ a
  -- a refused opening leaves every area as it was
  pub refused_opening : (bytes : List ℕ) (a : Areas) → (open_refusal bytes a ≡ 0 → ⊥) → areas_opened bytes a ≡ a
  -- bytes that are refused as a diff set no word, and leave the page as it was
  pub refused_words : (bytes page : List ℕ) → (apply_refusal page_width bytes page ≡ 0 → ⊥) → apply_words page_width bytes page ≡ 0
  pub refused_diff : (bytes page : List ℕ) → (apply_refusal page_width bytes page ≡ 0 → ⊥) → page_after page_width bytes page ≡ page
  -- a diff that is not written leaves its destination as it was
  pub refused_write : (old new out : List ℕ) → (write_refusal page_width old new out ≡ 0 → ⊥) → out_after page_width old new out ≡ out
  -- a chunk of a file that is not fed leaves the bytes lent for lines and every area as they were
  pub refused_lines : (p : Progress) (chunk out : List ℕ) (a : Areas) → (feed_answer p chunk (length out) a).fed ≡ false → feed_lines p chunk out a ≡ out
  pub refused_areas : (p : Progress) (chunk : List ℕ) (room : ℕ) (a : Areas) → (feed_answer p chunk room a).fed ≡ false → feed_areas p chunk room a ≡ a
  -- "the first that applies is given, and only then": a step is accepted exactly when the areas are in order and no other row of the table applies
  pub accepted : (a : Areas) (t : Step) → (answer_of a t).refusal ≡ 0 ↔ (Sound a × NoRowApplies mainframe (held_state a) t)
  -- 9 exactly when the page is clean and the processor has made all its intervals
  pub nine : (a : Areas) (t : Step) (w v : ℕ) → WriteComes a t w v
      → (answer_of a t).refusal ≡ 9
      ↔ ((dirty_at (held_state a).pages t.processor (page_of_word mainframe w) ≡ false) × (own (held_state a) t.processor ≡ interval_limit))
  -- 10 exactly when the page is clean, 9 does not apply, and records plus dirty pages are as many as can stand
  pub ten : (a : Areas) (t : Step) (w v : ℕ) → WriteComes a t w v
      → (answer_of a t).refusal ≡ 10
      ↔ ((dirty_at (held_state a).pages t.processor (page_of_word mainframe w) ≡ false)
      × (own (held_state a) t.processor ≡ interval_limit → ⊥)
      × ((held_state a).records.standing + dirty_pages (held_state a) ≡ record_limit))

-- ---- demand 2: "Step for step it does what the lazy invalidate rules say. Changes are written in one form, exactly that form is read, and what is
-- written from two pages turns the first into the second"

-- two pages of words of 32 bits from which a byte string is written
pub record FromPages (bytes : List ℕ) : Type 0 where
  pub old : List ℕ
  pub new : List ℕ
  pub old_whole : length old ≡ page_width
  pub new_whole : length new ≡ page_width
  pub old_words : Below word_values old
  pub new_words : Below word_values new
  pub is : written old new ≡ bytes

pub record DemandTwo : Type 0 where
  -- an accepted opening leaves the opened state, in order, whatever the areas held
  pub opened_state : (bytes : List ℕ) (a : Areas) → open_refusal bytes a ≡ 0 → held_state (areas_opened bytes a) ≡ opened mainframe (opening_of bytes).counts
  pub opened_sound : (bytes : List ℕ) (a : Areas) → open_refusal bytes a ≡ 0 → Sound (areas_opened bytes a)
  -- a step on areas in order answers what the rules say, ..
  pub step_answer : (a : Areas) (t : Step) → Sound a → answer_of a t ≡ answer mainframe (held_state a) t
  -- .. leaves the rules' next state, ..
  pub step_state : (a : Areas) (t : Step) → Sound a → held_state (areas_after a t) ≡ next mainframe (held_state a) t
  -- .. and keeps them in order
  pub step_sound : (a : Areas) (t : Step) → Sound a → Sound (areas_after a t)
  -- what is written from two pages turns the first into the second
  pub written_applied : (old new : List ℕ) → length old ≡ page_width → length new ≡ page_width → Below word_values new → applied page_width (written old new) old ≡ new
  -- a byte string is read exactly when it is written from some two pages
  pub read_exactly : (bytes : List ℕ) → Below 256 bytes → read_refusal page_width bytes ≡ 0 ↔ FromPages bytes
  -- one form: two byte strings that are read and set the same words to the same values are the same
  pub one_form : (bytes other : List ℕ) → Below 256 bytes → Below 256 other → read_refusal page_width bytes ≡ 0 → read_refusal page_width other ≡ 0
      → settings page_width bytes ≡ settings page_width other → bytes ≡ other
  -- "At most 131 bytes arise"
  pub at_most_131 : (old new : List ℕ) → length old ≡ page_width → length new ≡ page_width → length (written old new) ≤ 131

-- ---- demand 3: "For every list of steps from an accepted opening: happens-before-1, made from the accepted steps alone, judges every accepted read"

pub record DemandThreeHolds : Type 0 where
  -- of every list of steps by the rules, of every list of calls of `step`, of `run` and of every file
  pub judged : OfAnswers (λ c ts answered. ReadsJudged c.processors ts answered)
  -- and the answers of a file are those that its lines print
  pub file_lines_lem : (file : List ℕ) → file_record_width ≤ length file → opening_refusal mainframe (opening_of (take file_record_width file)) ≡ 0
      → file_lines file
      ≡ refusal_line 0 0 ++ (answer_lines 1 (step_answers file) ++ end_line file (words_moved (step_answers file)))

-- all three
pub record Demands : Type 0 where
  pub one : DemandOne
  pub two : DemandTwo
  pub three : DemandThreeHolds
