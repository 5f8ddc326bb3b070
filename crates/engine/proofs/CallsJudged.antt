-- Demand 3 of calls: happens-before-1 judges the answers of every list of calls of `step`.
--
-- Lend four areas to `open_mainframe`, with any bytes as the opening, and let it answer 0. Then call `step` on these areas as often as you
-- like, with any fields, and let nobody else write the areas meanwhile. For every accepted read of a word w among the calls, look at the
-- accepted writes to w that were called earlier:
--   * if every two of them by different processors are ordered by happens-before-1, and each of them is before the read, then the value
--     answered is the value field of the last of them, or 0 if there are none;
--   * in each case the value answered is 0 or the value field of one of them.
-- happens-before-1 is made from the number of processors, the fields of the calls and which of them were refused. What is judged are the
-- answers by the definitions that the contract of `step` cites (`answer_of`, `areas_after`), call after call (specs/Calls.antt), and the
-- numbers of the outcomes that calls which meet that contract have returned.
-- Rests on Carried and on rules' DemandThree. Assumes nothing.
use Prim.Native.Nat.{ℕ, ◌<◌}
use native.Mathlib.Omega.{arith}
use mathlib.Core.Path.{◌≡◌, refl, ap, ◌∙◌}
use mathlib.Core.List.{List, [], ◌∷◌, map}
use lib.Dec.{eqb}
use mathlib.Core.Bool.{cond}
use Rattle.rules.specs.Demand.{ReadsJudged, DemandThree}
use Rattle.rules.specs.Opening.{opened}
use Rattle.rules.specs.Refusals.{Step, Answer, answer, next}
use Rattle.rules.specs.Runs.{answers, state_after}
use Rattle.rules.specs.State.{mainframe, State}
use Rattle.rules.proofs.DemandThree.{demand_three}
use Rattle.layout.specs.Areas.{Areas, holding}
use Rattle.opening.specs.Promises.{opening_of, open_refusal, areas_opened}
use Rattle.opening.proofs.Following.{accepted_opening}
use Rattle.step_act.specs.Telling.{Outcome}
use Rattle.step_act.specs.Telling.{told}
use Rattle.engine.specs.Promises.{answer_of, areas_after}
use Rattle.engine.specs.Calls.{answers_of_calls, areas_after_calls, Returned}
use Rattle.engine.proofs.Carried.{Carried, opened_carried, next_carried, carried_answer, carried_after}

-- ---- calls on the areas of a state are the rules' steps

-- they answer as the rules' list of steps
calls_answer : (s : State) (ts : List Step) → Carried s → answers_of_calls (holding s) ts ≡ answers mainframe s ts
unfolding answers_of_calls answers
calls_answer s [] h = refl
calls_answer s (t ∷ ts) h =
    ap (λ (a : Answer). a ∷ answers_of_calls (areas_after (holding s) t) ts) (carried_answer s h t)
    ∙ ap (λ (b : Areas). answer mainframe s t ∷ answers_of_calls b ts) (carried_after s h t)
    ∙ ap (λ (l : List Answer). answer mainframe s t ∷ l) (calls_answer (next mainframe s t) ts (next_carried s t h))

-- and leave the areas of the state that it leaves
calls_leave : (s : State) (ts : List Step) → Carried s → areas_after_calls (holding s) ts ≡ holding (state_after mainframe s ts)
unfolding areas_after_calls state_after
calls_leave s [] h = refl
calls_leave s (t ∷ ts) h =
    ap (λ (b : Areas). areas_after_calls b ts) (carried_after s h t) ∙ calls_leave (next mainframe s t) ts (next_carried s t h)

-- what the calls returned tells what they answer
pub returned_tells : (a : Areas) (ts : List Step) (os : List Outcome) → Returned a ts os → map told os ≡ answers_of_calls a ts
unfolding Returned answers_of_calls
returned_tells a [] [] h = refl
returned_tells a [] (o ∷ os) h = absurd h
returned_tells a (t ∷ ts) [] h = absurd h
returned_tells a (t ∷ ts) (o ∷ os) h =
    ap (λ (x : Answer). x ∷ map told os) h.0.numbers ∙ ap (λ (l : List Answer). answer_of a t ∷ l) (returned_tells (areas_after a t) ts os h.1)

-- ---- from an accepted opening

module _ (opening : List ℕ) (lent : Areas) (accepted : open_refusal opening lent ≡ 0) (calls : List Step) where
  -- the state of the opened mainframe
  first : State
  first = opened mainframe (opening_of opening).counts

  first_carried : Carried first
  unfolding first
  first_carried = opened_carried (opening_of opening) (accepted_opening opening lent accepted)

  -- the opening leaves its areas
  first_held : areas_opened opening lent ≡ holding first
  unfolding areas_opened first
  first_held = ap (λ (n : ℕ). cond (eqb n 0) (holding (opened mainframe (opening_of opening).counts)) lent) accepted

  -- a page has words
  words_there : 0 < mainframe.words
  unfolding mainframe
  words_there = omega arith

  -- the calls answer as the rules' list of steps from the opened state
  pub calls_follow_rules : answers_of_calls (areas_opened opening lent) calls ≡ answers mainframe (opened mainframe (opening_of opening).counts) calls
  unfolding first
  calls_follow_rules = ap (λ (a : Areas). answers_of_calls a calls) first_held ∙ calls_answer first calls first_carried

  -- and leave the areas of the state that it leaves
  pub calls_leave_rules : areas_after_calls (areas_opened opening lent) calls ≡ holding (state_after mainframe (opened mainframe (opening_of opening).counts) calls)
  unfolding first
  calls_leave_rules = ap (λ (a : Areas). areas_after_calls a calls) first_held ∙ calls_leave first calls first_carried

  -- "happens-before-1 judges every accepted read" of the calls, by the value in its answer
  pub calls_judged : ReadsJudged (opening_of opening).counts.processors calls (answers_of_calls (areas_opened opening lent) calls)
  unfolding DemandThree
  calls_judged = rw calls_follow_rules (demand_three mainframe (opening_of opening) words_there (accepted_opening opening lent accepted) calls)

  -- and by the value in the outcome that the call returned
  pub returned_judged : (outcomes : List Outcome) → Returned (areas_opened opening lent) calls outcomes → ReadsJudged (opening_of opening).counts.processors calls (map told outcomes)
  returned_judged outcomes h = rw (returned_tells (areas_opened opening lent) calls outcomes h) calls_judged
