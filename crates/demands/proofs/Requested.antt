-- What the landed requests claim holds. Rests on the theorems that README names. Assumes nothing.
use Prim.Native.Nat.{ℕ, ◌%◌, ◌≤◌, ◌<◌}
use native.Mathlib.Omega.{arith}
use mathlib.Core.Path.{◌≡◌, refl, sym, ap, ◌∙◌}
use mathlib.Core.Bool.{true}
use mathlib.Core.List.{List, [], ◌∷◌, ◌++◌, map}
use mathlib.Core.Logic.{◌↔◌}
use lib.ListN.{length, take}
use borrow.Author.Tests.{eq-eqb, ne_eqb, lt-ltb, le-ltb}
use Rattle.limits.specs.Limits.{page_width}
use Rattle.limits.specs.Files.{file_record_width, step_limit}
use Rattle.diff.specs.Format.{set_words}
use Rattle.diff.specs.Reading.{settings}
use Rattle.diff.specs.Answers.{apply_refusal, apply_words}
use Rattle.diff.proofs.Theorems.{words_with_a_setting}
use Rattle.rules.specs.State.{mainframe, Counts, State}
use Rattle.rules.specs.InOrder.{is_in_order}
use Rattle.rules.specs.Lines.{waits}
use Rattle.rules.specs.Tallies.{tally_total}
use Rattle.rules.specs.Opening.{opening_refusal, opened}
use Rattle.rules.specs.Steps.{collected, emptied}
use Rattle.rules.specs.Refusals.{Step, effect, Answer, refusal_in_order, refusal}
use Rattle.rules.specs.Runs.{answers, words_moved}
use Rattle.rules.specs.Order.{Event, Returns, Before, granted, job}
use Rattle.rules.specs.Waiting.{refusal_at, ServedInTurn}
use Rattle.rules.specs.TallyTotals.{TalliesJudged}
use Rattle.rules.specs.Moved.{EffectsTold}
use Rattle.rules.specs.Jobs.{FirstInFirstOut, QueueRefuses}
use Rattle.rules.specs.Bench.{mainframe_with, answering, accepted, listing, listing_answers, steps_under_lock, answers_under_lock, steps_f, equal_stores, set_to_what_it_was, one_job, one_job_answers, no_other_job, no_other_job_answers, collected_job, collected_job_answers, full_twice, full_twice_answers}
use Rattle.rules.specs.Noted.{without_value, refusals_of}
use Rattle.rules.specs.Forecast.{opened_for, Figures, forecast_figures}
use Rattle.rules.proofs.Foretold.{forecast_is_the_run}
use Rattle.rules.proofs.NoValues.{foreseen_without_values, refusals_foreseen, refused_without_values}
use Rattle.rules.proofs.ForecastCases.{two_pages_figures_lem, jobs_figures_lem}
use Rattle.rules.proofs.InOrderRuns.{refusal_is_not_one}
use Rattle.rules.proofs.inorder.InOrderSays.{in_order_says}
use Rattle.rules.proofs.inorder.Accepted.{present_says}
use Rattle.rules.proofs.state.Fetches.{all_fetched_shared}
use Rattle.rules.proofs.state.Skipping.{skips}
use Rattle.rules.proofs.word.FetchedWord.{fetched_copy}
use Rattle.rules.proofs.RowsExactly.{seven_exactly_when, seventeen_exactly_when, eighteen_exactly_when, absent_tally_is_5, tally_never_3}
use Rattle.rules.proofs.WaitsItsTurn.{waits_its_turn}
use Rattle.rules.proofs.WaitingSteps.{waits_in_line, goes_to, lines_as_claimed}
use Rattle.rules.proofs.GrantsTold.{grants_exactly, locks_served}
use Rattle.rules.proofs.LocksFree.{arrived_holder_out, round_finds_locks_free}
use Rattle.rules.proofs.StoresNoted.{ordered_reads_by_events, closing_notes, written_is_dirty, refusals_alike, nine_sooner}
use Rattle.rules.proofs.TallyReads.{posting_any_order, posted_totals, tally_reads}
use Rattle.rules.proofs.WordsMoved.{steps_move, effects_told, what_it_was}
use Rattle.rules.proofs.FirstOut.{one_enqueue, one_dequeue, first_in_first_out}
use Rattle.rules.proofs.QueueSpace.{nineteen_exactly_when, twenty_exactly_when, job_never_3, job_object_is_5, dequeue_value_is_5, queue_refuses}
use Rattle.rules.proofs.QueueSteps.{queue_as_claimed, adds_job_lem, removes_job_lem, leaves_jobs}
use Rattle.rules.proofs.JobsTold.{precedes_no_other, returns_exactly, learns_its_clock}
use Rattle.rules.proofs.QueueCases.{queue_cases}
use Rattle.rules.proofs.Cases.{bench_cases}
use Rattle.rules.proofs.runs.FromStart.{listing_a_lem}
use Rattle.rules.proofs.runs.Listing.{start}
use Rattle.step_close.proofs.InSequence.{sequence_closes}
use Rattle.opening.specs.Promises.{opening_of}
use Rattle.lines.specs.Lines.{words_line, refusal_line, most_line}
use Rattle.step_fields.specs.Records.{step_count}
use Rattle.stepfile.specs.Files.{answer_lines, end_line, step_answers}
use Rattle.stepfile.proofs.Judged.{accepted_lines}
use Rattle.stepfile.proofs.Cases.{listing_file}
use Rattle.forecast_file.specs.Files.{forecast_lines}
use Rattle.demands.specs.Answered.{OfAnswers, AnswersAs}
use Rattle.demands.specs.Requests.{WaitForAHeldLock, StoringTheSame, ClosingInSequence, TalliesCount, NotApplyingReplaced, WordsTold, NoArrivingWithALock, SpaceForecast, TaskQueue, Requests}
use Rattle.demands.proofs.Lifted.{lifted, case_lifted}
use Rattle.demands.proofs.SideBySide.{side_by_side, forecast_printed, run_printed, stops_at_15, stops_at_16, listing_rows_lem, cut_rows_lem}

-- a page has words
words_there : 0 < mainframe.words
unfolding mainframe
words_there = omega arith

-- in a state in order the refusal is that of the table
by_table : (s : State) (t : Step) (n : ℕ) (P : Type 0) → is_in_order mainframe s ≡ true → refusal_in_order mainframe s t ≡ n ↔ P → refusal mainframe s t ≡ n ↔ P
by_table s t n P ordered h = rw (refusal_is_not_one mainframe s t ordered) h

-- the run of a bench case, from its start or from the opened state
from_start : (p g l : ℕ) → opened mainframe (mainframe_with p g l) ≡ start p g l
unfolding start
from_start p g l = refl

-- what one answer of a bench case refuses
refused_at : (c : Counts) (ts : List Step) (k n : ℕ) → refusal_at (answers mainframe (opened mainframe c) ts) k ≡ n
    → OfAnswers (λ counts steps answered. counts ≡ c → steps ≡ ts → refusal_at answered k ≡ n)
refused_at c ts k n h =
    lifted (λ counts steps answered. counts ≡ c → steps ≡ ts → refusal_at answered k ≡ n)
    (λ o e steps same steps-same.
    ap (λ (x : Counts). refusal_at (answers mainframe (opened mainframe x) steps) k) same
    ∙ ap (λ (x : List Step). refusal_at (answers mainframe (opened mainframe c) x) k) steps-same
    ∙ h)

-- Listing A by the rules
listing_answered : answers mainframe (opened mainframe (mainframe_with 2 1 1)) listing ≡ listing_answers
listing_answered = rw (from_start 2 1 1) listing_a_lem

-- ---- L1

wait_for_a_held_lock : WaitForAHeldLock
wait_for_a_held_lock =
    record {
      asking = λ s t l ordered comes is held another. waits_in_line mainframe s t ordered l comes is held another;
      releasing = λ s t l q rest ordered e is line. goes_to mainframe s t ordered l q rest e is line;
      in_order = lines_as_claimed mainframe;
      line_4 = refused_at (mainframe_with 2 1 1) listing 3 0 (rw listing_answered (unfold refusal_at listing_answers in refl));
      line_6 = refused_at (mainframe_with 2 1 1) listing 5 7 (rw listing_answered (unfold refusal_at listing_answers in refl));
      in_turn = λ s ordered q l k from there ts. waits_its_turn mainframe s ordered q l k from there ts;
      served = lifted (λ c ts answered. ServedInTurn ts answered) (λ o e ts. locks_served mainframe o words_there e ts);
      precedes = λ n es l i p q j b h took later. granted p q l h.place b h.serves took later;
      granted = λ o e ts l i p q from took. grants_exactly mainframe o words_there e ts l i p q from took;
      seventeen = λ s t ordered h. by_table s t 17 (waits s.marks t.processor ≡ true) ordered (seventeen_exactly_when mainframe s t h);
      seven = λ s t l ordered h is. rw (refusal_is_not_one mainframe s t ordered) (seven_exactly_when mainframe s t l h is);
    }

-- ---- L2

storing_the_same : StoringTheSame
storing_the_same =
    record {
      written = written_is_dirty mainframe;
      noted = closing_notes mainframe;
      case_f = case_lifted (mainframe_with 1 1 1) steps_f (accepted ∷ accepted ∷ accepted ∷ []) (rw (from_start 1 1 1) bench_cases.F.answered);
      one_interval = rw (from_start 1 1 1) bench_cases.F.own_entry;
      one_record_lem = rw (from_start 1 1 1) bench_cases.F.records;
      ordered_reads = ordered_reads_by_events;
      sooner = refused_at (mainframe_with 1 1 1) equal_stores 190 9 (rw (from_start 1 1 1) nine_sooner);
    }

-- ---- L3

closing_in_sequence : ClosingInSequence
closing_in_sequence = record { nothing_tells = sequence_closes mainframe }

-- ---- L4

tallies_count : TalliesCount
unfolding mainframe effect
tallies_count =
    record {
      sixteen = refl;
      of_32_bits = λ h p t. unfold tally_total in omega arith;
      reads = lifted (λ c ts answered. TalliesJudged c.processors ts answered) (λ o e ts. tally_reads mainframe o words_there e ts);
      posted = λ o e ts j t there. posted_totals mainframe o words_there e ts j t there;
      upwards = λ h n t. (posting_any_order h n t).0;
      downwards = λ h n t. (posting_any_order h n t).1;
      kept = λ s. unfold collected emptied in all_fetched_shared mainframe s;
      adds_alone = λ s p t v. refl;
      reads_alone = λ s p t. refl;
      five = λ s t ordered tally here absent. absent_tally_is_5 mainframe s t tally ordered here absent;
      not_three = tally_never_3 mainframe;
    }

-- ---- L5

not_applying_replaced : NotApplyingReplaced
unfolding mainframe
not_applying_replaced =
    record {
      skips = skips page_width;
      same_copy = λ s p g ordered here page.
          let o = in_order_says mainframe s ordered in
          let b = present_says s p here in
          fetched_copy mainframe s p g (o.sized.copy p g b.0 (omega (arith, b.1, o.processors_fit)) page);
      case_d = λ u v h. case_lifted (mainframe_with 3 1 1) (steps_under_lock 1 u 2 v) (answers_under_lock v) (rw (from_start 3 1 1) (bench_cases.D u v h));
    }

-- ---- L6

-- the words that an applied diff reports are those that it sets
words_reported : (bytes page : List ℕ) → apply_refusal page_width bytes page ≡ 0 → apply_words page_width bytes page ≡ length (set_words (settings page_width bytes))
unfolding apply_words
words_reported bytes page e = rw (eq-eqb (apply_refusal page_width bytes page) 0 e) (words_with_a_setting page_width bytes)

-- a file that ends with a whole record, and not with one too many, ends with the words moved
words_end : (file : List ℕ) (n : ℕ) → length file % file_record_width ≡ 0 → step_count file ≤ step_limit → end_line file n ≡ words_line n
unfolding end_line
words_end file n whole few = rw (le-ltb step_limit (step_count file) few, eq-eqb (length file % file_record_width) 0 whole)

words_told : WordsTold
words_told =
    record {
      applying = words_reported;
      handed_on = steps_move mainframe;
      told = lifted (λ c ts answered. EffectsTold c ts answered) effects_told;
      last_line = λ file long e whole few.
          accepted_lines file long e
          ∙ ap (λ (x : List ℕ). refusal_line 0 0 ++ (answer_lines 1 (step_answers file) ++ x)) (words_end file (words_moved (step_answers file)) whole few);
      listing_a = listing_file;
      what_it_was =
          case_lifted (mainframe_with 3 1 1) set_to_what_it_was
          (accepted ∷ accepted ∷ accepted ∷ accepted ∷ accepted ∷ answering 0 7 1 ∷ answering 0 7 1 ∷ answering 0 7 1 ∷ []) (rw (from_start 3 1 1) what_it_was);
    }

-- ---- L7

no_arriving_with_a_lock : NoArrivingWithALock
no_arriving_with_a_lock =
    record {
      eighteen = λ s t ordered h is. rw (refusal_is_not_one mainframe s t ordered) (eighteen_exactly_when mainframe s t (in_order_says mainframe s ordered) h is);
      listing = case_lifted (mainframe_with 2 1 1) listing listing_answers listing_answered;
      listing_lines_lem = listing_file;
      out_of_order = arrived_holder_out mainframe;
      no_hang = round_finds_locks_free mainframe;
    }

-- ---- L8

-- a file that ends before its opening
unopened_forecast : (file : List ℕ) → length file < file_record_width → forecast_lines file ≡ refusal_line 0 15 ++ most_line 0
unfolding forecast_lines
unopened_forecast file short = rw (lt-ltb (length file) file_record_width short) refl

-- one whose opening is refused
refused_forecast : (file : List ℕ) → file_record_width ≤ length file → (opening_refusal mainframe (opening_of (take file_record_width file)) ≡ 0 → ⊥)
    → forecast_lines file ≡ refusal_line 0 2 ++ most_line 0
unfolding forecast_lines
refused_forecast file long refused =
    rw (le-ltb (length file) file_record_width long, ne_eqb (opening_refusal mainframe (opening_of (take file_record_width file))) 0 refused) refl

space_forecast : SpaceForecast
space_forecast =
    record {
      foretold = λ o e ts. sym (forecast_is_the_run mainframe o e ts);
      no_values = λ c ts ts' same. foreseen_without_values mainframe (opened_for mainframe c) ts ts' same;
      side_by_side = side_by_side;
      run_lines = run_printed;
      forecast_lines_lem = forecast_printed;
      refusals =
          lifted (λ c ts answered. refusals_of answered ≡ map (λ (x : Figures). x.refusal) (forecast_figures mainframe (opened_for mainframe c) ts)) (λ o e ts. refusals_foreseen mainframe o e ts);
      refused_alike =
          lifted (λ c ts answered. (ts' : List Step) → map without_value ts ≡ map without_value ts' → refusals_of answered ≡ refusals_of (answers mainframe (opened mainframe c) ts'))
          (λ o e ts ts' same. refused_without_values mainframe o e ts ts' same);
      states_alike = refusals_alike mainframe;
      at_15 = λ file long e few cut. stops_at_15 file long e few cut;
      at_16 = λ file long e many. stops_at_16 file long e many;
      unopened = unopened_forecast;
      at_2 = refused_forecast;
      listing = listing_rows_lem;
      cut = cut_rows_lem;
      two_pages_lem = two_pages_figures_lem;
    }

-- ---- L9

-- a job is returned to the dequeue of its number, which the order has as an edge
job_precedes : (n : ℕ) (es : List Event) (i p v j q : ℕ) → Returns es i p v j q → Before n es i j
job_precedes n es i p v j q h = job p v q h

-- a run of the queue's cases
queue_case : (p g l : ℕ) (ts : List Step) (expected : List Answer) → answers mainframe (start p g l) ts ≡ expected → OfAnswers (AnswersAs (mainframe_with p g l) ts expected)
queue_case p g l ts expected h = case_lifted (mainframe_with p g l) ts expected (rw (from_start p g l) h)

task_queue : TaskQueue
unfolding mainframe
task_queue =
    record {
      thirty_two = refl;
      first_out = lifted (λ c ts answered. FirstInFirstOut ts answered) (λ o e ts. first_in_first_out mainframe o words_there e ts);
      used_again = queue_case 2 1 1 full_twice full_twice_answers queue_cases.full_twice_lem;
      adds = λ s t v ordered e is. adds_job_lem mainframe s t ordered v e is;
      removes = λ s t first rest ordered e is line. removes_job_lem mainframe s t ordered first rest e is line;
      precedes = job_precedes;
      one_job_lem = queue_case 3 1 1 one_job one_job_answers queue_cases.one_job_lem;
      no_other_way = precedes_no_other;
      one_dequeue = one_dequeue;
      one_enqueue = one_enqueue;
      no_other = queue_case 3 1 1 no_other_job no_other_job_answers queue_cases.no_other_job_lem;
      returned = λ o e ts i p v j q a d. returns_exactly mainframe o words_there e ts i p v j q a d;
      learned = λ o e ts i p v j q h. learns_its_clock mainframe o words_there e ts i p v j q h;
      in_order = queue_as_claimed mainframe;
      leaves = λ s t ordered a b. leaves_jobs mainframe s t ordered a b;
      collected_job_lem = queue_case 2 1 1 collected_job collected_job_answers queue_cases.collected_job_lem;
      object_five = λ s t ordered is there big. job_object_is_5 mainframe s t is ordered there big;
      value_five = λ s t ordered is there big. dequeue_value_is_5 mainframe s t is ordered there big;
      forecast = jobs_figures_lem;
      nineteen = λ s t v ordered h is. by_table s t 19 (s.marks.jobs ≡ 32) ordered (nineteen_exactly_when mainframe s t v h is);
      twenty = λ s t ordered h is. by_table s t 20 (s.marks.jobs ≡ 0) ordered (twenty_exactly_when mainframe s t h is);
      refuses = lifted (λ c ts answered. QueueRefuses mainframe c ts answered) (λ o e ts. queue_refuses mainframe o words_there e ts);
      not_three = λ s t is. job_never_3 mainframe s t is;
    }

-- all of them
pub requests : Requests
requests =
    record {
      L1 = wait_for_a_held_lock;
      L2 = storing_the_same;
      L3 = closing_in_sequence;
      L4 = tallies_count;
      L5 = not_applying_replaced;
      L6 = words_told;
      L7 = no_arriving_with_a_lock;
      L8 = space_forecast;
      L9 = task_queue;
    }
