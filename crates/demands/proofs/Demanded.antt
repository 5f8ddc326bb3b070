-- The three demands hold. Rests on the theorems that README names. Assumes nothing.
use Prim.Native.Nat.{ℕ, ◌+◌, ◌<◌}
use native.Mathlib.Omega.{arith}
use mathlib.Core.Path.{◌≡◌, refl, sym, ap, ◌∙◌}
use mathlib.Core.Bool.{Bool, true, false, cond, ◌&&◌, false≢true}
use mathlib.Core.List.{List}
use mathlib.Core.Option.{Option, none}
use mathlib.Core.Logic.{◌↔◌}
use lib.ListN.{length, get_or}
use lib.Seq.{sets}
use lib.Dec.{eqb}
use borrow.Author.Tests.{ne_eqb}
use Rattle.limits.specs.Limits.{page_width, interval_limit, record_limit}
use Rattle.diff.specs.Format.{written}
use Rattle.diff.specs.Reading.{read_refusal, applied}
use Rattle.diff.specs.Answers.{apply_refusal, apply_words, page_after}
use Rattle.diff.specs.inner.Settings.{setting_at}
use Rattle.diff.proofs.Theorems.{applying_what_is_written, WrittenFromPages, exactly_the_written_form, one_form, at_most_131_bytes}
use Rattle.diff_writer.specs.Answers.{write_refusal, out_after}
use Rattle.rules.specs.Demand.{ReadsJudged, DemandThree}
use Rattle.rules.specs.InOrder.{dirty_pages, is_in_order}
use Rattle.rules.specs.Opening.{opened}
use Rattle.rules.specs.Rows.{NoRowApplies}
use Rattle.rules.specs.Refusals.{Step, action_of, Answer, accepted_as, refused_with, effect, refusal_in_order, answer_in_order, refusal, answer, next}
use Rattle.rules.specs.State.{mainframe, State, dirty_at, own}
use Rattle.rules.specs.Steps.{page_of_word}
use Rattle.rules.proofs.DemandThree.{demand_three}
use Rattle.rules.proofs.InOrderRuns.{refused_leaves_state, refusal_is_not_one}
use Rattle.rules.proofs.inorder.InOrderSays.{in_order_says}
use Rattle.rules.proofs.inorder.InOrderWhen.{in_order_when}
use Rattle.rules.proofs.demand.ListRuns.{answer_refusal}
use Rattle.rules.proofs.RowsExactly.{accepted_exactly_when}
use Rattle.rules.proofs.Space.{WriteSoFar, nine_exactly_when, ten_exactly_when}
use Rattle.layout.specs.Areas.{Areas, areas, held_state, holding, right_sizes, state_in, marks_in}
use Rattle.inorder.specs.Areas.{areas_in_order}
use Rattle.layout.proofs.Encoding.{holding_is, right_lent}
use Rattle.opening.specs.Promises.{opening_of, open_refusal, areas_opened}
use Rattle.opening.proofs.Following.{accepted_opening}
use Rattle.engine.specs.Promises.{answer_of, areas_after}
use Rattle.engine.proofs.Carried.{Carried, opened_carried, next_carried, carried_sizes, carried_held}
use Rattle.file_chunk.specs.Bytes.{bytes_taken}
use Rattle.stepfile.specs.Promises.{feed_at, progress_of, feedable, left_untaken, feed_answer, feed_lines, feed_areas}
use Rattle.stepfile.specs.declared.Progress.{Progress}
use Rattle.stepfile.proofs.Judged.{accepted_lines}
use Rattle.demands.specs.Demands.{Sound, WriteComes, DemandOne, FromPages, DemandTwo, DemandThreeHolds, Demands}
use Rattle.demands.proofs.Lifted.{lifted}

-- ---- refused answers

-- an answer of the rules is refused as its refusal says
refused_as_ruled : (s : State) (t : Step) → ((answer mainframe s t).refusal ≡ 0 → ⊥) → answer mainframe s t ≡ refused_with (answer mainframe s t).refusal
unfolding answer answer_in_order refused_with
refused_as_ruled s t h = go (is_in_order mainframe s) (eqb (refusal_in_order mainframe s t) 0) refl refl
  where
    out : Bool → Bool → Answer
    out a b =
        cond a
        (cond b
        (accepted_as (effect mainframe s t.processor (action_of t)))
        (refused_with (refusal_in_order mainframe s t)))
        (refused_with 1)

    go : (a b : Bool) → is_in_order mainframe s ≡ a → eqb (refusal_in_order mainframe s t) 0 ≡ b → out a b ≡ refused_with (out a b).refusal
    go false b p q = refl
    go true false p q = refl
    go true true p q = absurd (h (rw (p, q) refl))

-- the refusal in an answer of the rules
ruled_refusal : (s : State) (t : Step) → (answer mainframe s t).refusal ≡ refusal mainframe s t
unfolding answer refusal refused_with
ruled_refusal s t = go (is_in_order mainframe s)
  where
    go : (a : Bool) → ◌≡◌ {A = ℕ} (cond a (answer_in_order mainframe s t) (refused_with 1)).refusal (cond a (refusal_in_order mainframe s t) 1)
    go true = answer_refusal mainframe s t
    go false = refl

-- ---- areas

-- areas in order are those that their state gives
again : (a : Areas) → Sound a → holding (held_state a) ≡ a
unfolding right_sizes held_state areas
again a h =
    sym (holding_is a.clocks a.words a.records a.marks (held_state a)
    (record { lent = right_lent a.clocks a.words a.records a.marks h.sizes; is = refl }) (in_order_says mainframe (held_state a) h.in_order))

-- areas in order hold a state that steps carry on
carried : (a : Areas) → Sound a → Carried (held_state a)
unfolding held_state state_in marks_in
carried a h = record { in_order = in_order_says mainframe (held_state a) h.in_order; nobody = record { arrived = refl; awaited = refl; turn = refl } }

-- the areas after a step on areas in order
after_held : (a : Areas) (t : Step) → Sound a → areas_after a t ≡ holding (next mainframe (held_state a) t)
unfolding areas_after areas_in_order right_sizes held_state next
after_held a t h = rw (h.sizes, h.in_order)

-- areas that are not in order stay as they are
left_alone : (a : Areas) (t : Step) → (right_sizes a && is_in_order mainframe (held_state a)) ≡ false → areas_after a t ≡ a
unfolding areas_after areas_in_order right_sizes held_state
left_alone a t e = rw e

-- the answer of a step
answer_held : (a : Areas) (t : Step) → right_sizes a ≡ true → answer_of a t ≡ answer mainframe (held_state a) t
unfolding answer_of
answer_held a t e = ap (λ (b : Bool). cond b (answer mainframe (held_state a) t) (refused_with 1)) e

-- a state that is carried on is in order where it is laid out
laid_sound : (s : State) → Carried s → Sound (holding s)
laid_sound s h =
    record { sizes = carried_sizes s h; in_order = ap (is_in_order mainframe) (carried_held s h) ∙ in_order_when mainframe s h.in_order }

-- the areas after an accepted opening
opened_held : (bytes : List ℕ) (a : Areas) → open_refusal bytes a ≡ 0 → areas_opened bytes a ≡ holding (opened mainframe (opening_of bytes).counts)
unfolding areas_opened
opened_held bytes a e = ap (λ (n : ℕ). cond (eqb n 0) (holding (opened mainframe (opening_of bytes).counts)) a) e

-- the opened state is carried on
first_carried : (bytes : List ℕ) (a : Areas) → open_refusal bytes a ≡ 0 → Carried (opened mainframe (opening_of bytes).counts)
first_carried bytes a e = opened_carried (opening_of bytes) (accepted_opening bytes a e)

-- ---- demand 1

refused_answer : (a : Areas) (t : Step) → ((answer_of a t).refusal ≡ 0 → ⊥) → answer_of a t ≡ refused_with (answer_of a t).refusal
unfolding answer_of refused_with
refused_answer a t = go (right_sizes a)
  where
    go : (b : Bool)
        → ((cond b (answer mainframe (held_state a) t) (refused_with 1)).refusal ≡ 0 → ⊥)
        → cond b (answer mainframe (held_state a) t) (refused_with 1) ≡ refused_with (cond b (answer mainframe (held_state a) t) (refused_with 1)).refusal
    go true h = refused_as_ruled (held_state a) t h
    go false h = refl

refused_step : (a : Areas) (t : Step) → ((answer_of a t).refusal ≡ 0 → ⊥) → areas_after a t ≡ a
refused_step a t h = go (right_sizes a) (is_in_order mainframe (held_state a)) refl refl
  where
    go : (b d : Bool) → right_sizes a ≡ b → is_in_order mainframe (held_state a) ≡ d → areas_after a t ≡ a
    go false d e f = left_alone a t (rw e)
    go true false e f = left_alone a t (rw (e, f))
    go true true e f =
        let fine : Sound a = record { sizes = e; in_order = f } in
        after_held a t fine
        ∙ ap (λ (s : State). holding s)
        (refused_leaves_state mainframe (held_state a) t (λ z. h (ap (λ (x : Answer). x.refusal) (answer_held a t e) ∙ ruled_refusal (held_state a) t ∙ z)))
        ∙ again a fine

-- where a number is not 0 the second of two is chosen
not_chosen : {A : Type 0} (n : ℕ) (x y : A) → (n ≡ 0 → ⊥) → cond (eqb n 0) x y ≡ y
not_chosen n x y h = rw (ne_eqb n 0 h) refl

refused_opening : (bytes : List ℕ) (a : Areas) → (open_refusal bytes a ≡ 0 → ⊥) → areas_opened bytes a ≡ a
unfolding areas_opened
refused_opening bytes a h = not_chosen (open_refusal bytes a) (holding (opened mainframe (opening_of bytes).counts)) a h

refused_words : (bytes page : List ℕ) → (apply_refusal page_width bytes page ≡ 0 → ⊥) → apply_words page_width bytes page ≡ 0
unfolding apply_words
refused_words bytes page h = rw (ne_eqb (apply_refusal page_width bytes page) 0 h)

refused_diff : (bytes page : List ℕ) → (apply_refusal page_width bytes page ≡ 0 → ⊥) → page_after page_width bytes page ≡ page
unfolding page_after
refused_diff bytes page h = not_chosen (apply_refusal page_width bytes page) (applied page_width bytes page) page h

refused_write : (old new out : List ℕ) → (write_refusal page_width old new out ≡ 0 → ⊥) → out_after page_width old new out ≡ out
unfolding out_after
refused_write old new out h = not_chosen (write_refusal page_width old new out) (sets out 0 (written old new)) out h

-- a chunk that is not fed is one that cannot be
not_fed : (p : Progress) (chunk : List ℕ) (room : ℕ) (a : Areas) → (feed_answer p chunk room a).fed ≡ false → feedable p (length chunk) room ≡ false
unfolding feed_answer left_untaken
not_fed p chunk room a = go (feedable p (length chunk) room)
  where
    go : (b : Bool)
        → (cond b (record { progress = progress_of (bytes_taken (feed_at p a) chunk); fed = true; written = length (bytes_taken (feed_at p a) chunk).lines }) (left_untaken p)).fed ≡ false
        → b ≡ false
    go false e = refl
    go true e = absurd (false≢true (sym e))

refused_lines : (p : Progress) (chunk out : List ℕ) (a : Areas) → (feed_answer p chunk (length out) a).fed ≡ false → feed_lines p chunk out a ≡ out
unfolding feed_lines
refused_lines p chunk out a e = rw (not_fed p chunk (length out) a e) refl

refused_areas : (p : Progress) (chunk : List ℕ) (room : ℕ) (a : Areas) → (feed_answer p chunk room a).fed ≡ false → feed_areas p chunk room a ≡ a
unfolding feed_areas
refused_areas p chunk room a e = rw (not_fed p chunk room a e) refl

-- a step that is not refused begins in order
accepted_sound : (a : Areas) (t : Step) → (answer_of a t).refusal ≡ 0 → Sound a
unfolding answer_of answer refused_with
accepted_sound a t = go (right_sizes a) (is_in_order mainframe (held_state a)) refl refl
  where
    go : (b d : Bool) → right_sizes a ≡ b → is_in_order mainframe (held_state a) ≡ d → (cond b (cond d (answer_in_order mainframe (held_state a) t) (refused_with 1)) (refused_with 1)).refusal ≡ 0 → Sound a
    go true true e f z = record { sizes = e; in_order = f }
    go true false e f z = absurd (omega (arith, z))
    go false d e f z = absurd (omega (arith, z))

-- the refusal of a step on areas in order is that of the table
refused_by_rows : (a : Areas) (t : Step) → Sound a → (answer_of a t).refusal ≡ refusal_in_order mainframe (held_state a) t
refused_by_rows a t h =
    ap (λ (x : Answer). x.refusal) (answer_held a t h.sizes) ∙ ruled_refusal (held_state a) t ∙ refusal_is_not_one mainframe (held_state a) t h.in_order

accepted : (a : Areas) (t : Step) → (answer_of a t).refusal ≡ 0 ↔ (Sound a × NoRowApplies mainframe (held_state a) t)
accepted a t = (
  λ e.
      let fine = accepted_sound a t e in
      (fine, (accepted_exactly_when mainframe (held_state a) t (in_order_says mainframe (held_state a) fine.in_order)).0 (sym (refused_by_rows a t fine) ∙ e)),
  λ h. refused_by_rows a t h.0 ∙ (accepted_exactly_when mainframe (held_state a) t (in_order_says mainframe (held_state a) h.0.in_order)).1 h.1,
)

module _ (a : Areas) (t : Step) (w v : ℕ) (h : WriteComes a t w v) where
  -- the same of the state
  so_far : WriteSoFar mainframe (held_state a) t w v
  unfolding mainframe
  so_far = record { action = h.action; processor_present = h.processor_present; word_present = h.word_present; not_arrived = h.not_arrived; not_waiting = h.not_waiting }

  nine : (answer_of a t).refusal ≡ 9
      ↔ ((dirty_at (held_state a).pages t.processor (page_of_word mainframe w) ≡ false) × (own (held_state a) t.processor ≡ interval_limit))
  unfolding mainframe
  nine = rw (refused_by_rows a t h.sound) (nine_exactly_when mainframe (held_state a) t w v so_far)

  ten : (answer_of a t).refusal ≡ 10
      ↔ ((dirty_at (held_state a).pages t.processor (page_of_word mainframe w) ≡ false)
      × (own (held_state a) t.processor ≡ interval_limit → ⊥)
      × ((held_state a).records.standing + dirty_pages (held_state a) ≡ record_limit))
  unfolding mainframe
  ten = rw (refused_by_rows a t h.sound) (ten_exactly_when mainframe (held_state a) t w v so_far)

demand_one : DemandOne
demand_one =
    record {
      refused_answer = refused_answer;
      refused_step = refused_step;
      refused_opening = refused_opening;
      refused_words = refused_words;
      refused_diff = refused_diff;
      refused_write = refused_write;
      refused_lines = refused_lines;
      refused_areas = refused_areas;
      accepted = accepted;
      nine = nine;
      ten = ten;
    }

-- ---- demand 2

-- two pages, named as the theorems of the format name them
from_pages : (bytes : List ℕ) → read_refusal page_width bytes ≡ 0 ↔ WrittenFromPages page_width bytes → read_refusal page_width bytes ≡ 0 ↔ FromPages bytes
from_pages bytes e = (
  λ r.
      let p = e.0 r in
      record { old = p.old; new = p.new; old_whole = p.old_whole; new_whole = p.new_whole; old_words = p.old_words; new_words = p.new_words; is = p.is },
  λ p.
      e.1
      (record { old = p.old; new = p.new; old_whole = p.old_whole; new_whole = p.new_whole; old_words = p.old_words; new_words = p.new_words; is = p.is }),
)

demand_two : DemandTwo
unfolding setting_at
demand_two =
    record {
      opened_state = λ bytes a e. ap held_state (opened_held bytes a e) ∙ carried_held (opened mainframe (opening_of bytes).counts) (first_carried bytes a e);
      opened_sound =
          λ bytes a e. rw (opened_held bytes a e) (laid_sound (opened mainframe (opening_of bytes).counts) (first_carried bytes a e));
      step_answer = λ a t h. answer_held a t h.sizes;
      step_state =
          λ a t h. ap held_state (after_held a t h) ∙ carried_held (next mainframe (held_state a) t) (next_carried (held_state a) t (carried a h));
      step_sound = λ a t h. rw (after_held a t h) (laid_sound (next mainframe (held_state a) t) (next_carried (held_state a) t (carried a h)));
      written_applied = applying_what_is_written page_width;
      read_exactly = λ bytes b. from_pages bytes (exactly_the_written_form page_width bytes b);
      one_form = λ bytes other b c r s same. one_form page_width bytes other b c r s (λ i h. ap (λ (d : List (Option ℕ)). get_or d i none) same);
      at_most_131 = at_most_131_bytes;
    }

-- ---- demand 3

-- a page has words
words_there : 0 < mainframe.words
unfolding mainframe
words_there = omega arith

demand_three_holds : DemandThreeHolds
unfolding DemandThree
demand_three_holds =
    record {
      judged = lifted (λ c ts answered. ReadsJudged c.processors ts answered) (λ o e ts. demand_three mainframe o words_there e ts);
      file_lines_lem = accepted_lines;
    }

-- all three demands hold
pub demands : Demands
demands = record { one = demand_one; two = demand_two; three = demand_three_holds }
