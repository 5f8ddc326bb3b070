-- What the requests of document 02 that have landed claim, a record a request: each sentence that claims something of steps, lists or files is a field,
-- with the sentence above it. Open this after Demands.antt, beside document 02.
--
-- A claim about answers is made of everything that answers, by `OfAnswers` (Answered.antt): lists by the rules, calls of `step`, `run` and files. A claim
-- about one step is made of every state in order; by demand 2 a step on lent areas leaves and answers what the rules say there. proofs/Requested.antt proves
-- all of it. Sentences that have no field, and why, are in docs/DECISIONS.md, "What the requests claim". Assumes nothing.
use Rattle.std.specs.Prelude.{ℕ, suc, ◌%◌, ◌≤◌, ◌<◌, ◌≡◌, true, false, List, [], ◌∷◌, ◌++◌, map, ◌↔◌, ◌⊎◌, length, get_or, take}
use Rattle.limits.specs.Limits.{page_width}
use Rattle.limits.specs.Files.{file_record_width, step_limit}
use Rattle.diff.specs.Format.{set_words}
use Rattle.diff.specs.Reading.{settings}
use Rattle.diff.specs.Answers.{apply_refusal, apply_words}
use Rattle.rules.specs.State.{mainframe, Counts, Shared, copy_of, dirty_at, posted_of, State, with_shared, own, standing, holder, has_arrived}
use Rattle.rules.specs.InOrder.{present, is_in_order}
use Rattle.rules.specs.Lines.{waits}
use Rattle.rules.specs.Tallies.{tally_total, total_after}
use Rattle.rules.specs.Opening.{Opening, opening_refusal, opened}
use Rattle.rules.specs.Close.{closed}
use Rattle.rules.specs.Fetch.{due, applied_all, fetched}
use Rattle.rules.specs.Steps.{page_of_word, at_barrier, all_arrived, collected}
use Rattle.rules.specs.Refusals.{Step, Action, Read, Write, Acquire, Release, Arrive, TallyAdd, TallyRead, Enqueue, Dequeue, action_of, effect, Answer, refusal}
use Rattle.rules.specs.Runs.{answers, state_after, words_moved}
use Rattle.rules.specs.Order.{Event, events, Took, Returns, Before}
use Rattle.rules.specs.Demand.{Synchronized, value_at, ReadsJudged}
use Rattle.rules.specs.Rows.{Addressed, Comes, HoldsOne}
use Rattle.rules.specs.Noted.{ClosingNotes, outline, without_value, refusals_of}
use Rattle.rules.specs.Waiting.{line_in, events_in, WaitsInLine, GoesTo, LinesAsClaimed, InTurn, HandsTo, refusal_at, ServedInTurn}
use Rattle.rules.specs.TallyTotals.{posted_due, TalliesJudged, taken_up, taken_down}
use Rattle.rules.specs.Moved.{Skips, StepsMove, EffectsTold}
use Rattle.rules.specs.LocksFree.{FindsLocksFree}
use Rattle.rules.specs.Jobs.{Queued, queue_in, QueueAsClaimed, AddsJob, RemovesJob, LeavesJobs, FirstInFirstOut, QueueRefuses, PrecedesBy, TakesItsJob, LearnsItsClock}
use Rattle.rules.specs.Forecast.{opened_for, Figures, run_figures, forecast_figures}
use Rattle.rules.specs.Bench.{mainframe_with, answering, accepted, listing, listing_answers, steps_under_lock, answers_under_lock, StoredValues, steps_f, equal_stores, set_to_what_it_was, two_pages, two_pages_figures, one_job, one_job_answers, no_other_job, no_other_job_answers, collected_job, collected_job_answers, full_twice, full_twice_answers, jobs_forecast, jobs_figures}
use Rattle.step_close.specs.Sequence.{closed_in_sequence}
use Rattle.opening.specs.Promises.{opening_of}
use Rattle.lines.specs.Lines.{words_line, refusal_line, most_line}
use Rattle.step_fields.specs.Records.{step_count}
use Rattle.stepfile.specs.Files.{answer_lines, step_answers, file_lines}
use Rattle.stepfile.specs.ListingA.{listing_bytes, listing_lines}
use Rattle.forecast_file.specs.Files.{forecast_lines}
use Rattle.demands.specs.Answered.{OfAnswers, AnswersAs}
use Rattle.demands.specs.SideBySide.{printed, heads, largest_sum, run_rows, forecast_rows, words_behind, StopsWith, listing_rows, cut_file, cut_rows}

-- ---- L1. Wait for a held lock

pub record WaitForAHeldLock : Type 0 where
  -- "An acquire of a lock held by another card is now accepted: the asker's interval closes and the card waits"
  pub asking : (s : State) (t : Step) (l : ℕ) → is_in_order mainframe s ≡ true → Comes mainframe s t → action_of t ≡ Acquire l → (holder s l ≡ 0 → ⊥)
      → (holder s l ≡ t.processor → ⊥) → WaitsInLine mainframe s t l
  -- "At a release the lock goes to the longest waiter, which becomes holder and learns the lock's clock in that same step"
  pub releasing : (s : State) (t : Step) (l q : ℕ) (rest : List ℕ) → is_in_order mainframe s ≡ true → refusal mainframe s t ≡ 0 → action_of t ≡ Release l
      → line_in s l ≡ q ∷ rest → GoesTo mainframe s t l q rest
  -- "A state in order has only present cards in lines, each card at most once in all, no line at a free lock, and no waiter that has arrived or
  -- holds the lock it waits for"
  pub in_order : (s : State) → is_in_order mainframe s ≡ true → LinesAsClaimed s
  -- "In listing A line 4 now shows 0 and line 6 shows 7": L7 has the whole listing
  pub line_4 : OfAnswers (λ c ts answered. c ≡ mainframe_with 2 1 1 → ts ≡ listing → refusal_at answered 3 ≡ 0)
  pub line_6 : OfAnswers (λ c ts answered. c ≡ mainframe_with 2 1 1 → ts ≡ listing → refusal_at answered 5 ≡ 7)
  -- "A card with k waiters before it becomes holder at that lock's release numbered k + 1 from then, and no steps of others change that": the list is
  -- any list of steps
  pub in_turn : (s : State) → is_in_order mainframe s ≡ true → (q l k : ℕ) → 1 ≤ q → get_or (line_in s l) k 0 ≡ q → (ts : List Step) → InTurn mainframe s ts q l k
  -- the same as far as answers show it: the accepted releases of a lock are by those who acquired it, in the order in which they did, and who waits
  -- takes no step
  pub served : OfAnswers (λ c ts answered. ServedInTurn ts answered)
  -- "In happens-before-1 the release precedes the waiter's next step": the waiter that the list names, and so each later step of it ..
  pub precedes : (n : ℕ) (es : List Event) (l i p q j : ℕ) (b : Action) → HandsTo es l i p q → Took es j q b → i < j → Before n es i j
  -- .. and the list names exactly the one to which the release hands the lock; "and reads are judged with it" is demand 3
  pub granted : (o : Opening) → opening_refusal mainframe o ≡ 0 → (ts : List Step) (l i p q : ℕ) → 1 ≤ q
      → Took (events_in mainframe (opened mainframe o.counts) ts) i p (Release l)
      → holder (state_after mainframe (opened mainframe o.counts) (take (suc i) ts)) l ≡ q
      ↔ HandsTo (events_in mainframe (opened mainframe o.counts) ts) l i p q
  -- "17, a step by a waiting card, after 6"
  pub seventeen : (s : State) (t : Step) → is_in_order mainframe s ≡ true → Addressed mainframe s t → refusal mainframe s t ≡ 17 ↔ waits s.marks t.processor ≡ true
  -- "7 remains for the holder's own acquire"
  pub seven : (s : State) (t : Step) (l : ℕ) → is_in_order mainframe s ≡ true → Comes mainframe s t → action_of t ≡ Acquire l
      → refusal mainframe s t ≡ 7 ↔ holder s l ≡ t.processor

-- ---- L2. Storing the same value counts as a store

pub record StoringTheSame : Type 0 where
  -- "A page is noted once it has been written, as its twin shows, though no word differs": whatever is written, the page is dirty after it
  pub written : (s : State) (p w v : ℕ) → dirty_at (effect mainframe s p (Write w v)).after.pages p (page_of_word mainframe w) ≡ true
  -- "So each dirty page now gets a record at closing, with the change that is the single byte 0 where nothing differs, and an interval is made for
  -- any dirty page"
  pub noted : (s : State) (p : ℕ) → is_in_order mainframe s ≡ true → present s p ≡ true → ClosingNotes s p
  -- "Case F becomes: one interval, one record"
  pub case_f : OfAnswers (AnswersAs (mainframe_with 1 1 1) steps_f (accepted ∷ accepted ∷ accepted ∷ []))
  pub one_interval : own (state_after mainframe (opened mainframe (mainframe_with 1 1 1)) steps_f) 1 ≡ 1
  pub one_record_lem : standing (state_after mainframe (opened mainframe (mainframe_with 1 1 1)) steps_f) ≡ record { processor = 1; interval = 1; page = 0; diff = 0 ∷ [] } ∷ []
  -- "over the same accepted steps the value of a read that meets demand 3's premise .. is untouched": by any two rules that demand 3 judges
  pub ordered_reads : (n : ℕ) (ts : List Step) (a b : List Answer) → ReadsJudged n ts a → ReadsJudged n ts b → events ts a ≡ events ts b
      → (j p w : ℕ) → Took (events ts a) j p (Read w) → Synchronized n (events ts a) w j → value_at a j ≡ value_at b j
  -- "a store that alters nothing now uses up numbers and records, so 9 and 10 can come sooner": after 63 stores of the 0 that the word has, each
  -- released, 9 comes
  pub sooner : OfAnswers (λ c ts answered. c ≡ mainframe_with 1 1 1 → ts ≡ equal_stores → refusal_at answered 190 ≡ 9)

-- ---- L3. Closing in the thesis's sequence

pub record ClosingInSequence : Type 0 where
  -- "Let the code that makes a change take the same steps in the order of that text. Nothing that a card or a step file can observe may tell the old code
  -- from the new": the sequence, which the functions of `step_close` take part by part, comes to the rules' close in every state in order
  pub nothing_tells : (s : State) (p : ℕ) → is_in_order mainframe s ≡ true → present s p ≡ true → closed_in_sequence s p ≡ closed s p

-- ---- L4. Tallies

pub record TalliesCount : Type 0 where
  -- "there are 16 tallies of 32 bits, numbered from 0"
  pub sixteen : mainframe.tallies ≡ 16
  pub of_32_bits : (h : Shared) (p t : ℕ) → tally_total h p t < 4294967296
  -- "A card reads the total posted at the last completed round plus its own adds since", "wrapped, as its value"
  pub reads : OfAnswers (λ c ts answered. TalliesJudged c.processors ts answered)
  -- "The posted total is the sum of all accepted adds of finished rounds, ..
  pub posted : (o : Opening) → opening_refusal mainframe o ≡ 0 → (ts : List Step) (j t : ℕ) → t < mainframe.tallies
      → posted_of (state_after mainframe (opened mainframe o.counts) (take j ts)).shared t
      ≡ posted_due o.counts.processors (events_in mainframe (opened mainframe o.counts) ts) t j
  -- .. whichever card's adds are taken first: taking the cards downwards gives the same word as taking them upwards"
  pub upwards : (h : Shared) (n t : ℕ) → taken_up h t n ≡ total_after h n t
  pub downwards : (h : Shared) (n t : ℕ) → taken_down h t n ≡ total_after h n t
  -- "Collection keeps totals"
  pub kept : (s : State) → (collected mainframe s).after.shared ≡ s.shared
  -- "Tallies order nothing among ordinary words": an add changes nothing but the tallies, a read of one nothing at all
  pub adds_alone : (s : State) (p t v : ℕ) → (effect mainframe s p (TallyAdd t v)).after ≡ with_shared s (effect mainframe s p (TallyAdd t v)).after.shared
  pub reads_alone : (s : State) (p t : ℕ) → (effect mainframe s p (TallyRead t)).after ≡ s
  -- "an absent tally is 5, ..
  pub five : (s : State) (t : Step) → is_in_order mainframe s ≡ true → (t.kind ≡ 8) ⊎ (t.kind ≡ 9) → present s t.processor ≡ true → 16 ≤ t.object
      → refusal mainframe s t ≡ 5
  -- .. and kinds 8 and 9 leave the reach of 3"
  pub not_three : (s : State) (t : Step) → (t.kind ≡ 8) ⊎ (t.kind ≡ 9) → refusal mainframe s t ≡ 3 → ⊥

-- ---- L5. Do not apply what the next record replaces

pub record NotApplyingReplaced : Type 0 where
  -- "a record each of whose words is set again by later records of that fetch is skipped; a record with no words is always skipped. The copy afterwards must
  -- equal the one that applying all would give, races or not"
  pub skips : Skips page_width
  -- the same of a fetch: its copy is the one that applying all pending records gives
  pub same_copy : (s : State) (p g : ℕ) → is_in_order mainframe s ≡ true → present s p ≡ true → g < mainframe.pages
      → copy_of (fetched mainframe s p g).pages p g ≡ applied_all page_width (due s p g) (copy_of s.pages p g)
  -- "The count becomes the records applied": L6's `handed_on` and `told`
  -- "in case D, where both cards write word 0, card 3 counts 1"
  pub case_d : (u v : ℕ) → StoredValues u v → OfAnswers (AnswersAs (mainframe_with 3 1 1) (steps_under_lock 1 u 2 v) (answers_under_lock v))

-- ---- L6. How many words moved

pub record WordsTold : Type 0 where
  -- "Applying a change now also reports the number of words it set"
  pub applying : (bytes page : List ℕ) → apply_refusal page_width bytes page ≡ 0 → apply_words page_width bytes page ≡ length (set_words (settings page_width bytes))
  -- "and fetch, read, write and the collecting arrival hand on their sums"
  pub handed_on : (s : State) (p : ℕ) → StepsMove mainframe s p
  pub told : OfAnswers (λ c ts answered. EffectsTold c ts answered)
  -- "A run that did not stop at 2, 15 or 16 ends with one extra line, "words", a space and the total"
  pub last_line : (file : List ℕ) → file_record_width ≤ length file → opening_refusal mainframe (opening_of (take file_record_width file)) ≡ 0
      → length file % file_record_width ≡ 0 → step_count file ≤ step_limit
      → file_lines file ≡ refusal_line 0 0 ++ (answer_lines 1 (step_answers file) ++ words_line (words_moved (step_answers file)))
  -- "in listing A it is "words 1"": the last of its lines
  pub listing_a : file_lines listing_bytes ≡ listing_lines
  -- "A word that is set to the value it had counts"
  pub what_it_was : OfAnswers
      (AnswersAs (mainframe_with 3 1 1) set_to_what_it_was
      (accepted ∷ accepted ∷ accepted ∷ accepted ∷ accepted ∷ answering 0 7 1 ∷ answering 0 7 1 ∷ answering 0 7 1 ∷ []))

-- ---- L7. No arriving with a lock in hand

pub record NoArrivingWithALock : Type 0 where
  -- "Such an arrival was accepted so far and is refused from now on"; "18, an arrival by a holder, after 17"
  pub eighteen : (s : State) (t : Step) → is_in_order mainframe s ≡ true → Comes mainframe s t → action_of t ≡ Arrive
      → refusal mainframe s t ≡ 18 ↔ HoldsOne s t.processor
  -- "the run prints the refusal on that line and continues, and the lines after it are those of the new rule": demand 3's `file_lines_lem` has a line for each
  -- step. "line 12 of listing A becomes 12 18 0 0"
  pub listing : OfAnswers (AnswersAs (mainframe_with 2 1 1) listing listing_answers)
  pub listing_lines_lem : file_lines listing_bytes ≡ listing_lines
  -- "A state that has an arrived card holding a lock is no longer in order"
  pub out_of_order : (s : State) (l q : ℕ) → 1 ≤ q → holder s l ≡ q → has_arrived s q ≡ true → is_in_order mainframe s ≡ false
  -- "Two technicians hung a mainframe when a card sat at the barrier with a lock others were waiting for": an arrival that completes a round finds every lock
  -- free and every line empty, and leaves them so
  pub no_hang : (o : Opening) → opening_refusal mainframe o ≡ 0 → (ts : List Step) (t : Step)
      → refusal mainframe (state_after mainframe (opened mainframe o.counts) ts) t ≡ 0 → action_of t ≡ Arrive
      → all_arrived (at_barrier (state_after mainframe (opened mainframe o.counts) ts) t.processor) ≡ true
      → FindsLocksFree mainframe (state_after mainframe (opened mainframe o.counts) ts) t

-- ---- L8. Space forecast

pub record SpaceForecast : Type 0 where
  -- "A second program reads a step file and, keeping no page contents and no values, prints": what it keeps (`Forecast`) has, of every list of steps, the
  -- figures that the run has, ..
  pub foretold : (o : Opening) → opening_refusal mainframe o ≡ 0 → (ts : List Step)
      → forecast_figures mainframe (opened_for mainframe o.counts) ts ≡ run_figures mainframe (opened mainframe o.counts) ts
  -- .. and the same of lists that are alike but for their values
  pub no_values : (c : Counts) (ts ts' : List Step) → map without_value ts ≡ map without_value ts'
      → forecast_figures mainframe (opened_for mainframe c) ts ≡ forecast_figures mainframe (opened_for mainframe c) ts'
  -- "for each record its number, its refusal, the records standing and the dirty pages after it. These must equal what the run itself has, for every file",
  -- "It stops where the run stops": line by line the numbers and refusals are those that the run prints; the figures of `forecast_rows` are the run's
  pub side_by_side : (file : List ℕ) → heads (forecast_rows file) ≡ heads (run_rows file)
  pub run_lines : (file : List ℕ) → file_lines file ≡ printed (run_rows file) ++ words_behind file
  -- "Its last line, always printed, is "most", a space and the largest sum of records and dirty pages on its lines, 0 if all are 0"
  pub forecast_lines_lem : (file : List ℕ) → forecast_lines file ≡ printed (forecast_rows file) ++ most_line (largest_sum (forecast_rows file))
  -- its refusals are those of everything that answers
  pub refusals : OfAnswers (λ c ts answered. refusals_of answered ≡ map (λ (x : Figures). x.refusal) (forecast_figures mainframe (opened_for mainframe c) ts))
  -- "since L2 no refusal depends on a stored value": lists alike but for their values are refused alike, ..
  pub refused_alike : OfAnswers
      (λ c ts answered. (ts' : List Step) → map without_value ts ≡ map without_value ts' → refusals_of answered ≡ refusals_of (answers mainframe (opened mainframe c) ts'))
  -- .. and also from two states that are alike but for what words, twins and diffs hold
  pub states_alike : (s s' : State) (ts ts' : List Step) → is_in_order mainframe s ≡ true → is_in_order mainframe s' ≡ true → outline s ≡ outline s'
      → map without_value ts ≡ map without_value ts' → refusals_of (answers mainframe s ts) ≡ refusals_of (answers mainframe s' ts')
  -- "on a line of 2, 15 or 16 both figures are those before it, ..
  pub at_15 : (file : List ℕ) → file_record_width ≤ length file → opening_refusal mainframe (opening_of (take file_record_width file)) ≡ 0 → step_count file ≤ step_limit
      → (length file % file_record_width ≡ 0 → ⊥) → StopsWith 15 (forecast_rows file)
  pub at_16 : (file : List ℕ) → file_record_width ≤ length file → opening_refusal mainframe (opening_of (take file_record_width file)) ≡ 0 → step_limit < step_count file
      → StopsWith 16 (forecast_rows file)
  -- .. or 0 and 0 before an accepted opening"
  pub unopened : (file : List ℕ) → length file < file_record_width → forecast_lines file ≡ refusal_line 0 15 ++ most_line 0
  pub at_2 : (file : List ℕ) → file_record_width ≤ length file → (opening_refusal mainframe (opening_of (take file_record_width file)) ≡ 0 → ⊥)
      → forecast_lines file ≡ refusal_line 0 2 ++ most_line 0
  -- Listing A, a file that is cut, and a run on two pages
  pub listing : forecast_rows listing_bytes ≡ listing_rows
  pub cut : forecast_rows cut_file ≡ cut_rows
  pub two_pages_lem : run_figures mainframe (opened mainframe (mainframe_with 2 2 1)) two_pages ≡ two_pages_figures

-- ---- L9. Task queue

pub record TaskQueue : Type 0 where
  -- "One queue holds up to 32 jobs, ..
  pub thirty_two : mainframe.jobs ≡ 32
  -- .. first in first out, ..
  pub first_out : OfAnswers (λ c ts answered. FirstInFirstOut ts answered)
  -- .. and space is used again after each removal": 32 jobs, two of them removed, two added, and all removed
  pub used_again : OfAnswers (AnswersAs (mainframe_with 2 1 1) full_twice full_twice_answers)
  -- "Kind 10 closes the card's interval and adds the value with the card's clock; ..
  pub adds : (s : State) (t : Step) (v : ℕ) → is_in_order mainframe s ≡ true → refusal mainframe s t ≡ 0 → action_of t ≡ Enqueue v → AddsJob mainframe s t v
  -- .. kind 11 closes, removes the oldest job, learns its clock and answers its value"
  pub removes : (s : State) (t : Step) (job : Queued) (rest : List Queued) → is_in_order mainframe s ≡ true → refusal mainframe s t ≡ 0 → action_of t ≡ Dequeue
      → queue_in mainframe s ≡ job ∷ rest → RemovesJob mainframe s t job rest
  -- "An enqueue precedes in happens-before-1 the dequeue that returns its job, ..
  pub precedes : (n : ℕ) (es : List Event) (i p v j q : ℕ) → Returns es i p v j q → Before n es i j
  pub one_job_lem : OfAnswers (AnswersAs (mainframe_with 3 1 1) one_job one_job_answers)
  -- .. and of itself no other": what it precedes, it precedes by a later step of its card or by that dequeue, which is one; other dequeues are told nothing
  pub no_other_way : (n : ℕ) (es : List Event) (i p v j : ℕ) → Took es i p (Enqueue v) → Before n es i j → PrecedesBy n es i p v j
  pub one_dequeue : (es : List Event) (i p v j j' q q' : ℕ) → Returns es i p v j q → Returns es i p v j' q' → j ≡ j'
  pub one_enqueue : (es : List Event) (i i' p p' v v' j q : ℕ) → Returns es i p v j q → Returns es i' p' v' j q → i ≡ i'
  pub no_other : OfAnswers (AnswersAs (mainframe_with 3 1 1) no_other_job no_other_job_answers)
  -- the list names exactly the job that the dequeue takes from the state, and the clock that it learns
  pub returned : (o : Opening) → opening_refusal mainframe o ≡ 0 → (ts : List Step) (i p v j q : ℕ)
      → Took (events_in mainframe (opened mainframe o.counts) ts) i p (Enqueue v) → Took (events_in mainframe (opened mainframe o.counts) ts) j q Dequeue
      → TakesItsJob mainframe (opened mainframe o.counts) ts i j ↔ Returns (events_in mainframe (opened mainframe o.counts) ts) i p v j q
  pub learned : (o : Opening) → opening_refusal mainframe o ≡ 0 → (ts : List Step) (i p v j q : ℕ)
      → Returns (events_in mainframe (opened mainframe o.counts) ts) i p v j q → LearnsItsClock mainframe (opened mainframe o.counts) ts i p j q
  -- "A state in order has at most 32 jobs, and their clocks keep the bound of every clock"
  pub in_order : (s : State) → is_in_order mainframe s ≡ true → QueueAsClaimed mainframe s
  -- "Demand 3 is judged by that wider order": `Before` has the edge, and demand 3 is `Demands.three`
  -- "A collecting round sets the clocks of queued jobs to zeros", and no other step of another kind changes a job
  pub leaves : (s : State) (t : Step) → is_in_order mainframe s ≡ true → (t.kind ≡ 10 → ⊥) → (t.kind ≡ 11 → ⊥) → LeavesJobs mainframe s t
  pub collected_job_lem : OfAnswers (AnswersAs (mainframe_with 2 1 1) collected_job collected_job_answers)
  -- "The object of both kinds is 0, and kind 11 has no value field in use"
  pub object_five : (s : State) (t : Step) → is_in_order mainframe s ≡ true → (t.kind ≡ 10) ⊎ (t.kind ≡ 11) → present s t.processor ≡ true → 0 < t.object
      → refusal mainframe s t ≡ 5
  pub value_five : (s : State) (t : Step) → is_in_order mainframe s ≡ true → t.kind ≡ 11 → present s t.processor ≡ true → 0 < t.value → refusal mainframe s t ≡ 5
  -- "The forecast covers both kinds": L8's fields are of lists of steps of every kind; both close
  pub forecast : run_figures mainframe (opened mainframe (mainframe_with 2 1 1)) jobs_forecast ≡ jobs_figures
  -- "19, enqueue with 32 jobs waiting; 20, dequeue with none; both after 18": in every state in order, and in every list by its answers
  pub nineteen : (s : State) (t : Step) (v : ℕ) → is_in_order mainframe s ≡ true → Comes mainframe s t → action_of t ≡ Enqueue v
      → refusal mainframe s t ≡ 19 ↔ s.marks.jobs ≡ 32
  pub twenty : (s : State) (t : Step) → is_in_order mainframe s ≡ true → Comes mainframe s t → action_of t ≡ Dequeue → refusal mainframe s t ≡ 20 ↔ s.marks.jobs ≡ 0
  pub refuses : OfAnswers (λ c ts answered. QueueRefuses mainframe c ts answered)
  -- "kinds 10 and 11 leave the reach of 3"
  pub not_three : (s : State) (t : Step) → (t.kind ≡ 10) ⊎ (t.kind ≡ 11) → refusal mainframe s t ≡ 3 → ⊥

-- ---- all that have landed

pub record Requests : Type 0 where
  pub L1 : WaitForAHeldLock
  pub L2 : StoringTheSame
  pub L3 : ClosingInSequence
  pub L4 : TalliesCount
  pub L5 : NotApplyingReplaced
  pub L6 : WordsTold
  pub L7 : NoArrivingWithALock
  pub L8 : SpaceForecast
  pub L9 : TaskQueue
