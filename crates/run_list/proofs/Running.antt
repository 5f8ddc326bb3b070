-- A run: no record, a refused opening, or the opening and the steps behind it; and demand 3 of the answers laid. Rests on Laying. One law for
-- each way of the code, and `running_laws`. Assumes nothing.
use Prim.Native.Nat.{ℕ, zero, suc, ◌-◌, ◌*◌, ◌/◌, ◌≤◌, ◌<◌, min}
use native.Mathlib.Omega.{arith}
use mathlib.Core.Path.{◌≡◌, refl, sym, ap, ◌∙◌}
use mathlib.Core.Bool.{Bool, true, false, cond}
use mathlib.Core.List.{List, [], ◌∷◌}
use lib.ListN.{length, take, drop}
use lib.Seq.{sets, length-sets}
use lib.Dec.{eqb}
use borrow.Author.Tests.{eq-eqb, ne_eqb}
use borrow.Author.Rules.{rules}
use Rattle.std.specs.Prelude.{Result, Ok, Err, is_err}
use Rattle.limits.specs.Files.{file_record_width, answer_width}
use Rattle.limits.specs.declared.Refusal.{Refusal}
use Rattle.limits.specs.Refused.{refusal_in}
use Rattle.limits.proofs.Refused.{number_of_pos}
use Rattle.rules.specs.Demand.{ReadsJudged, DemandThree}
use Rattle.rules.specs.Opening.{opened}
use Rattle.rules.specs.Refusals.{Answer, Step, refused_with, next_in_order}
use Rattle.rules.specs.Runs.{answers, state_after, answers_in_order, state_in_order}
use Rattle.rules.specs.State.{Limits, mainframe, State}
use Rattle.rules.proofs.InOrderRuns.{answers_in_order_lem, state_in_order_lem}
use Rattle.rules.proofs.DemandThree.{demand_three}
use Rattle.rules.proofs.InOrderRuns.{run_stays_in_order}
use Rattle.layout.specs.Areas.{state_in, Areas, areas, holding}
use Rattle.layout.specs.inner.Needed.{Ready}
use Rattle.layout.proofs.Encoding.{holding_is}
use Rattle.opening.specs.Promises.{opening_of, open_refusal, areas_opened}
use Rattle.opening.proofs.Following.{opened_holds, opened_ready, accepted_opening}
use Rattle.step_fields.specs.Records.{steps_in}
use Rattle.step_record.specs.Answers.{answer_words, answers_in}
use Rattle.run_list.specs.Runs.{records_run, first_refusal, first_state, run_answers, run_areas, Ran}
use Rattle.run_list.specs.inner.Needed.{CountIs, RecordsThere, OpeningThere, OpeningLaid, StepsThere, StepsLaid}
use Rattle.run_list.proofs.Laying.{laid_behind, laid_read_back}

apart : true ≡ false → ⊥
apart e = let z : ◌≡◌ {A = ℕ} 0 1 = cc in omega (arith, z)

-- ---- how many records

module _ (bytes words : ℕ) where
  pub count_is : (n : ℕ) → n ≡ min (bytes / file_record_width) (words / answer_width) → CountIs bytes words n
  unfolding records_run
  count_is n e = record { is = e }

-- ---- an opening refused or not

-- a refused one has a number
pub is_refused : (y : Result (Unit {0}) Refusal) → true ≡ is_err y → refusal_in y ≡ 0 → ⊥
is_refused (Ok x) e z = apart e
is_refused (Err r) e z = number_of_pos r z

-- an accepted one has 0
pub is_accepted : (y : Result (Unit {0}) Refusal) → false ≡ is_err y → refusal_in y ≡ 0
is_accepted (Ok x) e = refl
is_accepted (Err r) e = absurd (apart (sym e))

-- ---- a step has one answer

length_steps : (n : ℕ) (bs : List ℕ) → length (steps_in n bs) ≡ n
unfolding steps_in
length_steps zero bs = refl
length_steps (suc n) bs = ap suc (length_steps n (drop file_record_width bs))

length_answers : (lim : Limits) (s : State) (ts : List Step) → length (answers_in_order lim s ts) ≡ length ts
unfolding answers_in_order
length_answers lim s [] = refl
length_answers lim s (t ∷ ts) = ap suc (length_answers lim (next_in_order lim s t) ts)

-- a page has words
words_there : 0 < mainframe.words
unfolding mainframe
words_there = omega arith

-- ---- the opening

pub opening_laid : (bs out c w r m : List ℕ) (refusal n : ℕ) (out' c' w' r' m' : List ℕ) → refusal ≡ open_refusal (take file_record_width bs) (areas c w r m)
    → areas c' w' r' m' ≡ areas_opened (take file_record_width bs) (areas c w r m) → n ≡ refusal → out' ≡ sets out 0 (n ∷ 0 ∷ 0 ∷ 0 ∷ [])
    → OpeningLaid bs out (areas c w r m) refusal out' (areas c' w' r' m')
unfolding first_refusal answer_words refused_with
opening_laid bs out c w r m refusal n out' c' w' r' m' e a same l =
    record { refusal = e; laid = l ∙ ap (λ (x : ℕ). sets out 0 (x ∷ 0 ∷ 0 ∷ 0 ∷ [])) same; areas = a }

-- ---- no record

module _ (bs out : List ℕ) (n : ℕ) (h : CountIs (length bs) (length out) n) where
  -- nothing is touched
  pub none_run : (a : Areas) → n ≡ 0 → Ran bs out a 0 out a
  unfolding run_answers run_areas answer_words
  none_run a z =
      record {
        done = ap (λ (k : ℕ). length (run_answers k bs a)) e;
        answers = ap (λ (k : ℕ). sets out 0 (answer_words (run_answers k bs a))) e;
        areas = ap (λ (k : ℕ). run_areas k bs a) e;
        judged = λ l. absurd (omega (arith, l));
      }
    where
      e : 0 ≡ records_run (length bs) (length out)
      e = sym z ∙ h.is

  pub some_there : (n ≡ 0 → ⊥) → RecordsThere bs out n
  some_there some = record { count = h.is; opening = omega (arith, some) }

-- ---- some records

module _ (bs out : List ℕ) (n : ℕ) (h : RecordsThere bs out n) where
  bytes_there : file_record_width * n ≤ length bs
  unfolding records_run
  bytes_there = omega (arith, h.count)

  room_there : answer_width * n ≤ length out
  unfolding records_run
  room_there = omega (arith, h.count)

  pub opening_there : OpeningThere bs out
  opening_there = record { there = omega (arith, h.opening, bytes_there); room = omega (arith, h.opening, room_there) }

  -- the first record is the opening
  opening_first : suc (n - 1) ≡ records_run (length bs) (length out)
  opening_first = omega (arith, h.opening) ∙ h.count

  module _ (a : Areas) (refusal : ℕ) (out' : List ℕ) (a' : Areas) (o : OpeningLaid bs out a refusal out' a') where
    -- the answers and the areas by the opening's refusal
    answers_by_opening : run_answers (records_run (length bs) (length out)) bs a
        ≡ refused_with refusal ∷ cond (eqb refusal 0) (answers mainframe (first_state bs) (steps_in (n - 1) (drop file_record_width bs))) []
    unfolding run_answers
    answers_by_opening = rw (← opening_first, ← o.refusal)

    areas_by_opening : run_areas (records_run (length bs) (length out)) bs a
        ≡ cond (eqb refusal 0) (holding (state_after mainframe (first_state bs) (steps_in (n - 1) (drop file_record_width bs)))) a
    unfolding run_areas
    areas_by_opening = rw (← opening_first, ← o.refusal)

    -- a refused opening is answered, and the areas are as they were
    pub refused_run : (refusal ≡ 0 → ⊥) → Ran bs out a 1 out' a'
    unfolding areas_opened first_refusal
    refused_run z =
        record {
          done = sym (ap length all);
          answers = o.laid ∙ ap (λ (l : List Answer). sets out 0 (answer_words l)) (sym all);
          areas =
              o.areas
              ∙ ap (λ (b : Bool). cond b (holding (opened mainframe (opening_of (take file_record_width bs)).counts)) a)
              (ap (λ (x : ℕ). eqb x 0) (sym o.refusal) ∙ ne_eqb refusal 0 z)
              ∙ sym (areas_by_opening ∙ ap (λ (b : Bool). cond b (holding (state_after mainframe (first_state bs) (steps_in (n - 1) (drop file_record_width bs)))) a) (ne_eqb refusal 0 z));
          judged = λ l e. absurd (z (o.refusal ∙ e));
        }
      where
        all : run_answers (records_run (length bs) (length out)) bs a ≡ refused_with refusal ∷ []
        all = answers_by_opening
            ∙ ap (λ (b : Bool). refused_with refusal ∷ cond b (answers mainframe (first_state bs) (steps_in (n - 1) (drop file_record_width bs))) []) (ne_eqb refusal 0 z)

  -- ---- the steps behind an accepted opening

  module _ (c w r m : List ℕ) (refusal : ℕ) (out' c' w' r' m' : List ℕ) (o : OpeningLaid bs out (areas c w r m) refusal out' (areas c' w' r' m')) (z : refusal ≡ 0) where
    ready : Ready c' w' r' m'
    unfolding first_refusal
    ready = opened_ready (take file_record_width bs) c w r m c' w' r' m' (sym o.refusal ∙ z) o.areas

    -- the areas hold the opened state
    opened_held : state_in mainframe c' w' r' m' ≡ first_state bs
    unfolding first_state areas_opened first_refusal
    opened_held =
        (opened_holds (take file_record_width bs) c' w' r' m'
        (o.areas ∙ ap (λ (k : ℕ). cond (eqb k 0) (holding (opened mainframe (opening_of (take file_record_width bs)).counts)) (areas c w r m)) (sym o.refusal ∙ z))
        ).is

    pub steps_there : StepsThere bs n out' c' w' r' m'
    steps_there =
        record { ready = ready; opening = h.opening; there = bytes_there; room = rw (o.laid, length-sets) room_there }

    steps : List Step
    steps = steps_in (n - 1) (drop file_record_width bs)

    answered : List Answer
    answered = answers_in_order mainframe (state_in mainframe c' w' r' m') steps

    -- the answers of the steps are those of the rules' run
    answered_is : answers mainframe (first_state bs) steps ≡ answered
    unfolding answered
    answered_is =
        ap (λ (s : State). answers mainframe s steps) (sym opened_held)
        ∙ answers_in_order_lem mainframe (state_in mainframe c' w' r' m') steps ready.in_order

    state_is : state_after mainframe (first_state bs) steps ≡ state_in_order mainframe (state_in mainframe c' w' r' m') steps
    state_is =
        ap (λ (s : State). state_after mainframe s steps) (sym opened_held)
        ∙ state_in_order_lem mainframe (state_in mainframe c' w' r' m') steps ready.in_order

    all_answers : run_answers (records_run (length bs) (length out)) bs (areas c w r m) ≡ refused_with refusal ∷ answered
    unfolding steps
    all_answers =
        answers_by_opening (areas c w r m) refusal out' (areas c' w' r' m') o
        ∙ ap (λ (b : Bool). refused_with refusal ∷ cond b (answers mainframe (first_state bs) steps) []) (eq-eqb refusal 0 z)
        ∙ ap (λ (l : List Answer). refused_with refusal ∷ l) answered_is

    all_areas : run_areas (records_run (length bs) (length out)) bs (areas c w r m) ≡ holding (state_in_order mainframe (state_in mainframe c' w' r' m') steps)
    unfolding steps
    all_areas =
        areas_by_opening (areas c w r m) refusal out' (areas c' w' r' m') o
        ∙ ap (λ (b : Bool). cond b (holding (state_after mainframe (first_state bs) steps)) (areas c w r m)) (eq-eqb refusal 0 z)
        ∙ ap (λ (s : State). holding s) state_is

    as_many : length answered ≡ n - 1
    unfolding answered steps
    as_many = length_answers mainframe (state_in mainframe c' w' r' m') steps ∙ length_steps (n - 1) (drop file_record_width bs)

    -- demand 3 of the rules' answers
    answered_judged : ReadsJudged (opening_of (take file_record_width bs)).counts.processors steps answered
    unfolding DemandThree first_state first_refusal
    answered_judged =
        rw (← answered_is)
        (demand_three mainframe (opening_of (take file_record_width bs)) words_there (accepted_opening (take file_record_width bs) (areas c w r m) (sym o.refusal ∙ z)) steps)

    -- all records are run
    pub all_run : (out'' c'' w'' r'' m'' : List ℕ) → StepsLaid bs n (state_in mainframe c' w' r' m') out' out'' c'' w'' r'' m''
        → Ran bs out (areas c w r m) n out'' (areas c'' w'' r'' m'')
    unfolding steps answered
    all_run out'' c'' w'' r'' m'' d =
        record {
          done = sym (ap length all_answers ∙ count);
          answers = all_laid ∙ ap (λ (l : List Answer). sets out 0 (answer_words l)) (sym all_answers);
          areas = holding_is c'' w'' r'' m'' (state_in_order mainframe (state_in mainframe c' w' r' m') steps) d.areas (run_stays_in_order mainframe (state_in mainframe c' w' r' m') steps ready.in_order) ∙ sym all_areas;
          judged = λ l e. rw read_back answered_judged;
        }
      where
        count : suc (length answered) ≡ n
        count = omega (arith, h.opening, as_many)

        all_laid : out'' ≡ sets out 0 (answer_words (refused_with refusal ∷ answered))
        all_laid = laid_behind out (refused_with refusal) answered out' out'' o.laid d.laid

        read_back : answers_in (n - 1) (drop answer_width out'') ≡ answered
        read_back =
            ap (λ (l : List ℕ). answers_in (n - 1) (drop answer_width l)) all_laid
            ∙ ap (λ (k : ℕ). answers_in k (drop answer_width (sets out 0 (answer_words (refused_with refusal ∷ answered))))) (sym as_many)
            ∙ laid_read_back out (refused_with refusal) answered (omega (arith, count, room_there))

pub ruleset running_laws = (count_is, opening_laid, none_run, some_there, opening_there, refused_run, steps_there, all_run, rules)
