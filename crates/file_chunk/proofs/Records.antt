-- One record taken: the opening, a step, or one too many. Rests on file_record's and the engine's laws. Assumes nothing.
use Prim.Native.Nat.{◌*◌, ◌+◌, ◌<◌, ◌≤◌, ℕ}
use native.Mathlib.Omega.{arith}
use native.Mathlib.Numerals.{add-one}
use mathlib.Core.Path.{◌∙◌, ◌≡◌, ap, refl, sym}
use mathlib.Core.Bool.{Bool, false, true}
use mathlib.Core.List.{List, ◌++◌}
use lib.ListN.{drop, take}
use borrow.Author.Tests.{eq-eqb, le-leb, lt-leb, ne_eqb}
use Rattle.limits.specs.Files.{file_record_width, step_limit}
use Rattle.limits.specs.Limits.{word_values}
use Rattle.limits.specs.declared.Refusal.TheVariants.{NotInOrder}
use Rattle.std.specs.Prelude.{Err}
use Rattle.rules.specs.Refusals.{Answer, Step}
use Rattle.rules.specs.State.{mainframe}
use Rattle.layout.specs.Areas.{state_in, areas}
use Rattle.inorder.specs.Areas.{OrderIs}
use Rattle.step_act.specs.Telling.{Outcome, told}
use Rattle.engine.specs.Promises.{answer_of, areas_after}
use Rattle.engine.specs.inner.Needed.{SteppedAs}
use Rattle.engine.proofs.Answering.{in_order_after, in_order_answered, out_of_order, out_of_order_untouched, ready_when_fine}
use Rattle.engine.proofs.Stepping.{stepped_ready}
use Rattle.step_fields.specs.Records.{step_from}
use Rattle.step_fields.proofs.Reading.{step_of_eight}
use Rattle.lines.specs.Lines.{line_bytes, refusal_line}
use Rattle.file_record.specs.Records.{opening_taken, record_taken, step_taken, too_many_taken}
use Rattle.file_record.specs.declared.Stand.{Stand}
use Rattle.file_lines.specs.inner.Needed.{LinePut}
use Rattle.file_record.specs.inner.Needed.{StoppedAt, Takeable, RecordTaken, WordsAdded, reply_of, outcome_line, stands_at}
use Rattle.file_record.proofs.Taking.{line_told, ready_order, stands, words_told}

-- ---- the answer of a step

-- the step t has this outcome and leaves these areas; ready says whether they are in order
pub record Answered (t : Step) (c w r m : List ℕ) (o : Outcome) (ready : Bool) (c' w' r' m' : List ℕ) : Type 0 where
  pub outcome : told o ≡ answer_of (areas c w r m) t
  pub left : areas c' w' r' m' ≡ areas_after (areas c w r m) t
  pub order : OrderIs ready c' w' r' m'

module _ (t : Step) (c w r m : List ℕ) where
  -- 1: "not in order"
  pub answered_out_of_order : OrderIs false c w r m → Answered t c w r m (Err NotInOrder) false c w r m
  answered_out_of_order h =
      record {
        outcome = (out_of_order c w r m false h t refl).numbers;
        left = out_of_order_untouched c w r m false h t refl;
        order = h;
      }

  pub answered_in_order : OrderIs true c w r m → (o : Outcome) (c' w' r' m' : List ℕ) → SteppedAs (state_in mainframe c w r m) t o c' w' r' m'
      → Answered t c w r m o true c' w' r' m'
  answered_in_order h o c' w' r' m' d =
      record {
        outcome = (in_order_answered c w r m true h refl t o c' w' r' m' d).numbers;
        left = in_order_after c w r m true h refl t o c' w' r' m' d;
        order = ready_order c' w' r' m' (stepped_ready c w r m t o c' w' r' m' (ready_when_fine c w r m true h refl) d);
      }

-- ---- which record it is

module _ (s : Stand) (bytes : List ℕ) (from : ℕ) (out c w r m : List ℕ) where
  -- the first is the opening
  pub opening_record : (s' : Stand) (out' c' w' r' m' : List ℕ) → s.number ≡ 0
      → RecordTaken (opening_taken (stands_at s out (areas c w r m)) (take file_record_width (drop from bytes))) s out s' out' c' w' r' m'
      → RecordTaken (record_taken (stands_at s out (areas c w r m)) (take file_record_width (drop from bytes))) s out s' out' c' w' r' m'
  unfolding record_taken stands_at
  opening_record s' out' c' w' r' m' z h = rw (eq-eqb s.number 0 z) h

  -- the next 1,000,000 are steps
  pub step_record : (o : Outcome) (c' w' r' m' out' : List ℕ) (end moved : ℕ) → 1 ≤ s.number → s.number ≤ step_limit → s.words ≤ word_values * s.number
      → Answered (step_from (drop from bytes)) c w r m o s.ready c' w' r' m'
      → LinePut out s.at (outcome_line s.number (reply_of o)) out' end → WordsAdded s.words (reply_of o) moved
      → RecordTaken (record_taken (stands_at s out (areas c w r m)) (take file_record_width (drop from bytes))) s out (record { number = s.number + 1; stopped = false; ready = s.ready; at = end; words = moved }) out' c' w' r' m'
  unfolding record_taken step_taken stands_at
  step_record o c' w' r' m' out' end moved z l bound a p k =
      let t : step_from (drop from bytes) ≡ step_from (take file_record_width (drop from bytes)) = sym (step_of_eight (drop from bytes)) in
      rw (ne_eqb s.number 0 (λ e. omega (arith, z, e)), le-leb s.number step_limit l)
      (record {
        is =
            stands (s.number + 1) false s.ready end moved out' (areas c' w' r' m') _ _
            (p.lines ∙ ap (λ (l : List ℕ). take s.at out ++ l) (line_told s.number o) ∙ ap (λ (x : Answer). take s.at out ++ line_bytes s.number x.refusal x.value x.count) (a.outcome ∙ ap (λ (y : Step). answer_of (areas c w r m) y) t))
            (a.left ∙ ap (λ (y : Step). areas_after (areas c w r m) y) t)
            ∙ rw (add-one s.number, k.is ∙ ap (λ (n : ℕ). s.words + n) (words_told o) ∙ ap (λ (x : Answer). s.words + x.words) (a.outcome ∙ ap (λ (y : Step). answer_of (areas c w r m) y) t));
        few = omega (arith, l);
        total = omega (arith, k.is, k.few, bound);
        kept = p.kept;
        near = p.near;
        order = a.order;
      })

  -- one more is too many
  pub too_many_record : (s' : Stand) (out' : List ℕ) → Takeable s bytes from out c w r m → step_limit < s.number → StoppedAt s out s' out'
      → RecordTaken (record_taken (stands_at s out (areas c w r m)) (take file_record_width (drop from bytes))) s out s' out' c w r m
  unfolding record_taken stands_at too_many_taken refusal_line
  too_many_record s' out' h l d =
      record {
        is =
            ap (λ (x : Stand). stands_at x out' (areas c w r m)) d.is
            ∙ stands s.number true s.ready s'.at s.words out' (areas c w r m) _ _ d.put.lines refl
            ∙ sym (rw (ne_eqb s.number 0 (λ e. omega (arith, l, e)), lt-leb s.number step_limit l));
        few = omega (arith, ap (λ (x : Stand). x.number) d.is, h.few);
        total = omega (arith, ap (λ (x : Stand). x.number) d.is, ap (λ (x : Stand). x.words) d.is, h.total);
        kept = d.put.kept;
        near = d.put.near;
        order = rw (ap (λ (x : Stand). x.ready) d.is) h.order;
      }
