-- The steps behind the opening: one record, and the loop over all. One law for each way of the code, and `stepping_laws`. Assumes nothing.
use Prim.Native.Nat.{ℕ, suc, ◌+◌, ◌-◌, ◌*◌, ◌≤◌, ◌<◌}
use native.Mathlib.Omega.{arith}
use mathlib.Core.Path.{◌≡◌, refl, sym, ap, ◌∙◌}
use mathlib.Core.List.{List, [], ◌∷◌}
use lib.ListN.{length, drop}
use lib.Seq.{sets, length-sets, drop-drop}
use borrow.Author.Rules.{rules}
use Rattle.limits.specs.Files.{file_record_width, answer_width}
use Rattle.limits.specs.inner.Sizes.{mark_area}
use Rattle.rules.specs.Refusals.{Answer, Step, next_in_order}
use Rattle.rules.specs.Runs.{answers_in_order, state_in_order}
use Rattle.rules.specs.State.{mainframe, State}
use Rattle.rules.proofs.inorder.Kept.{next_keeps_order}
use Rattle.layout.specs.Areas.{state_in}
use Rattle.fetch_index.specs.inner.Index.{unranked}
use Rattle.fetch_index.proofs.Kept.{new_kept}
use Rattle.step_collect.specs.inner.Needed.{ReadyKept}
use Rattle.step_act.specs.Telling.{Outcome, told}
use Rattle.engine.specs.inner.Needed.{SteppedKept}
use Rattle.step_fields.specs.Records.{step_from, steps_in}
use Rattle.step_record.specs.Answers.{answer_words}
use Rattle.step_record.specs.inner.Needed.{StepThere}
use Rattle.run_list.specs.inner.Needed.{RecordReady, StepLaid, StepsThere, StepsLaid}

-- ---- one record

pub step_there : (bs : List ℕ) (i : ℕ) (out c w r m x : List ℕ) → RecordReady bs i out c w r m x → StepThere bs (file_record_width * i) c w r m x
step_there bs i out c w r m x h = record { ready = h.ready; there = h.there }

-- the outcome of a step tells the rules' answer
pub step_laid : (bs : List ℕ) (i : ℕ) (s : State) (y : Outcome) (out out' c w r m x : List ℕ) → SteppedKept s (step_from (drop (file_record_width * i) bs)) y c w r m x
    → (answer : List ℕ) → answer ≡ answer_words (told y ∷ []) → out' ≡ sets out (answer_width * i) answer → StepLaid bs i s out out' c w r m x
step_laid bs i s y out out' c w r m x k answer is l =
    let d = k.stepped in
    record {
      laid =
          l
          ∙ ap (sets out (answer_width * i)) is
          ∙ ap (λ (a : Answer). sets out (answer_width * i) (answer_words (a ∷ [])))
          d.outcome.numbers;
      areas = d.areas;
      kept = k.kept;
    }

-- ---- the loop

-- before record i of n: the areas are in order, the index is kept, and the records from i on, run on the state that they hold, bring the words and the state to
-- where all the steps bring them from the words out₀ and the state s₀
pub record StepsLeft (bs : List ℕ) (n : ℕ) (s₀ : State) (out₀ out c w r m x : List ℕ) (i : ℕ) : Type 0 where
  pub ready : ReadyKept c w r m x
  pub upto : i ≤ n
  pub there : file_record_width * n ≤ length bs
  pub room : answer_width * n ≤ length out
  pub as_long : length out ≡ length out₀
  pub laid : sets out (answer_width * i) (answer_words (answers_in_order mainframe (state_in mainframe c w r m) (steps_in (n - i) (drop (file_record_width * i) bs))))
      ≡ sets out₀ answer_width (answer_words (answers_in_order mainframe s₀ (steps_in (n - 1) (drop file_record_width bs))))
  pub state : state_in_order mainframe (state_in mainframe c w r m) (steps_in (n - i) (drop (file_record_width * i) bs)) ≡ state_in_order mainframe s₀ (steps_in (n - 1) (drop file_record_width bs))

-- the marks have their size
pub steps_marks : (bs : List ℕ) (n : ℕ) (out c w r m : List ℕ) → StepsThere bs n out c w r m → length m ≡ mark_area
steps_marks bs n out c w r m h = h.ready.lent.marks

-- none is run yet, and the index is new
pub steps_begin : (bs : List ℕ) (n : ℕ) (out c w r m x : List ℕ) → x ≡ unranked m → StepsThere bs n out c w r m
    → StepsLeft bs n (state_in mainframe c w r m) out out c w r m x 1
steps_begin bs n out c w r m x e h = record { ready = record { ready = h.ready; kept = new_kept c r m x e }; upto = h.opening; there = h.there; room = h.room; as_long = refl; laid = refl; state = refl }

-- the steps from record i on are its own and those from the next record on
steps_from : (bs : List ℕ) (n i : ℕ) → i < n → steps_in (n - i) (drop (file_record_width * i) bs) ≡ step_from (drop (file_record_width * i) bs) ∷ steps_in (n - (i + 1)) (drop (file_record_width * (i + 1)) bs)
unfolding steps_in
steps_from bs n i l =
    ap (λ (k : ℕ). steps_in k (drop (file_record_width * i) bs)) e
    ∙ ap (λ (t : List ℕ). step_from (drop (file_record_width * i) bs) ∷ steps_in (n - (i + 1)) t) (drop-drop file_record_width (file_record_width * i) bs ∙ ap (λ (k : ℕ). drop k bs) f)
  where
    e : n - i ≡ suc (n - (i + 1))
    e = omega arith

    f : file_record_width * i + file_record_width ≡ file_record_width * (i + 1)
    f = omega arith

module _ (bs : List ℕ) (n : ℕ) (s₀ : State) (out₀ out c w r m x : List ℕ) (i : ℕ) (h : StepsLeft bs n s₀ out₀ out c w r m x i) where
  pub record_there : i < n → RecordReady bs i out c w r m x
  record_there l = record { ready = h.ready; there = omega (arith, h.there, l); room = omega (arith, h.room, l) }

  module _ (out' c' w' r' m' x' : List ℕ) (l : i < n) (d : StepLaid bs i (state_in mainframe c w r m) out out' c' w' r' m' x') where
    s : State
    s = state_in mainframe c w r m

    t : Step
    t = step_from (drop (file_record_width * i) bs)

    rest : List Step
    rest = steps_in (n - (i + 1)) (drop (file_record_width * (i + 1)) bs)

    -- the answers from record i on: its own is laid, and the others behind it
    one_laid : sets out (answer_width * i) (answer_words (answers_in_order mainframe s (steps_in (n - i) (drop (file_record_width * i) bs))))
        ≡ sets out' (answer_width * (i + 1)) (answer_words (answers_in_order mainframe (state_in mainframe c' w' r' m') rest))
    unfolding answer_words answers_in_order s t rest
    one_laid =
        ap (λ (ts : List Step). sets out (answer_width * i) (answer_words (answers_in_order mainframe s ts))) (steps_from bs n i l)
        ∙ ap (λ (ws : List ℕ). sets ws (suc (suc (suc (suc (answer_width * i))))) (answer_words (answers_in_order mainframe (next_in_order mainframe s t) rest))) (sym d.laid)
        ∙ ap (λ (k : ℕ). sets out' k (answer_words (answers_in_order mainframe (next_in_order mainframe s t) rest))) e
        ∙ ap (λ (x : State). sets out' (answer_width * (i + 1)) (answer_words (answers_in_order mainframe x rest))) (sym d.areas.is)
      where
        e : suc (suc (suc (suc (answer_width * i)))) ≡ answer_width * (i + 1)
        e = omega arith

    one_taken : state_in_order mainframe s (steps_in (n - i) (drop (file_record_width * i) bs)) ≡ state_in_order mainframe (state_in mainframe c' w' r' m') rest
    unfolding state_in_order s t rest
    one_taken =
        ap (λ (ts : List Step). state_in_order mainframe s ts) (steps_from bs n i l) ∙ ap (λ (x : State). state_in_order mainframe x rest) (sym d.areas.is)

    pub steps_more : StepsLeft bs n s₀ out₀ out' c' w' r' m' x' (i + 1)
    unfolding s t rest
    steps_more =
        record {
          ready =
              record {
                ready = record { lent = d.areas.lent; in_order = rw d.areas.is (next_keeps_order mainframe s t h.ready.ready.in_order) };
                kept = d.kept;
              };
          upto = omega (arith, l);
          there = h.there;
          room = rw (d.laid, length-sets) h.room;
          as_long = rw (d.laid, length-sets) h.as_long;
          laid = sym one_laid ∙ h.laid;
          state = sym one_taken ∙ h.state;
        }

  pub steps_all : n ≤ i → StepsLaid bs n s₀ out₀ out c w r m
  unfolding steps_in answers_in_order answer_words state_in_order
  steps_all l = record { laid = rw e at h.laid; areas = record { lent = h.ready.ready.lent; is = rw e at h.state } }
    where
      e : n - i ≡ 0
      e = omega arith

pub ruleset stepping_laws = (step_there, step_laid, steps_marks, steps_begin, record_there, steps_more, steps_all, rules)
