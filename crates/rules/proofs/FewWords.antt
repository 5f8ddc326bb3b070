-- Document 02, L6: how many words a step can move, from any state in order: at most a page for each record that stands, on each page of each processor.
-- So a number of 32 bits says them, and one of 64 bits those of a whole file. Rests on WordsMoved and the laws of order. Assumes nothing.
use Prim.Native.Nat.{ℕ, zero, suc, ◌*◌, ◌≤◌, ◌<◌}
use native.Mathlib.Omega.{arith}
use mathlib.Core.Path.{◌≡◌, refl, ap, ◌∙◌}
use mathlib.Core.Bool.{Bool, true, false, cond}
use mathlib.Core.List.{List, [], map}
use lib.ListN.{length, get_or, take, length-map, get_or-map}
use lib.Seq.{length-take-le, get_or-take}
use lib.Dec.{eqb}
use borrow.Author.Tests.{eqb-true}
use Rattle.lists.specs.Tables.{select, sort_by}
use Rattle.lists.proofs.Selected.{Each, each_when, each_select, each_sort, select_few, length_sort}
use Rattle.limits.specs.Limits.{page_limit, page_width, processor_limit, record_limit, word_values}
use Rattle.diff.specs.Reading.{read_refusal}
use Rattle.rules.specs.State.{mainframe, Record, record_in, records_of, State, standing}
use Rattle.rules.specs.Fetch.{is_pending, earlier, due, unreplaced, applying, fetched, fetch_words}
use Rattle.rules.specs.InOrder.{is_in_order, present, record_at}
use Rattle.rules.specs.Steps.{page_of_word, read, write, at_barrier, all_arrived, round_done, none_fetched, pages_fetched, all_fetched, collected, wants_collection, arrive, dequeue}
use Rattle.rules.specs.Refusals.{Step, Action, Read, Write, Acquire, Release, Arrive, Want, TallyAdd, TallyRead, Enqueue, Dequeue, Unknown, action_of, effect, refusal_in_order, refused_with, accepted_as, answer_in_order, answer}
use Rattle.rules.proofs.inorder.Facts.{InOrder, slots_enough}
use Rattle.rules.proofs.inorder.InOrderSays.{in_order_says}
use Rattle.rules.proofs.inorder.KeptParts.{parts_of, in_order_of}
use Rattle.rules.proofs.inorder.KeptBarrier.{round_parts}
use Rattle.rules.proofs.inorder.Accepted.{accepted_says}
use Rattle.rules.proofs.state.Skipping.{each_unreplaced, unreplaced_few}
use Rattle.rules.proofs.WordsMoved.{at_most_a_page_each}

-- a page for each record that can stand: what one fetch can move
abbrev pub fetch_word_limit : ℕ
fetch_word_limit = page_width * record_limit

-- and that for every page of every processor: what one step can move
abbrev pub step_word_limit : ℕ
step_word_limit = processor_limit * page_limit * fetch_word_limit

-- ---- the records that stand

-- they are at most 128, and their diffs are legal
record FewLegal (s : State) : Type 0 where
  pub legal : Each (λ r. read_refusal page_width r.diff ≡ 0) (standing s)
  pub few : length (standing s) ≤ record_limit

-- in a state in order they are
few_legal : (s : State) → InOrder mainframe s → FewLegal s
unfolding standing records_of record_at mainframe
few_legal s o =
    let n : ℕ = s.records.standing in
    let first : length (take n s.records.slots) ≡ n = length-take-le n s.records.slots (slots_enough mainframe s o) in
    let long : length (map record_in (take n s.records.slots)) ≡ n = length-map (take n s.records.slots) record_in ∙ first in
    record {
      legal =
          each_when (λ r. read_refusal page_width r.diff ≡ 0) (record_in []) (map record_in (take n s.records.slots))
          (λ i h.
          let b : i < n = omega (arith, h, long) in
          let here : get_or (map record_in (take n s.records.slots)) i (record_in []) ≡ record_in (get_or s.records.slots i []) =
          get_or-map record_in (take n s.records.slots) i [] ∙ ap record_in (get_or-take n s.records.slots i [] b) in
          rw here (o.record_sound_lem i b).legal);
      few = omega (arith, long, o.sized.few_standing);
    }

-- ---- one fetch

-- the records that a fetch applies are some of those that stand
fetch_few : (s : State) (p g : ℕ) → FewLegal s → fetch_words mainframe s p g ≤ fetch_word_limit
unfolding fetch_words applying due mainframe
fetch_few s p g h =
    let pending : List Record = select (is_pending s.clocks p g) (standing s) in
    let rs : List Record = sort_by (earlier s.clocks) pending in
    omega (
      arith,
      at_most_a_page_each page_width (unreplaced page_width rs)
          (each_unreplaced (λ r. read_refusal page_width r.diff ≡ 0) page_width rs
          (each_sort (λ r. read_refusal page_width r.diff ≡ 0) (earlier s.clocks) pending
          (each_select (λ r. read_refusal page_width r.diff ≡ 0) (λ r. read_refusal page_width r.diff ≡ 0) (is_pending s.clocks p g) (standing s) (λ r t e. e) h.legal))),
      unreplaced_few page_width rs,
      length_sort (earlier s.clocks) pending,
      select_few (is_pending s.clocks p g) (standing s),
      h.few,
    )

-- ---- fetches of several pages

-- a fetch leaves the records that stand
still_legal : (s : State) (p g : ℕ) → FewLegal s → FewLegal (fetched mainframe s p g)
unfolding fetched standing
still_legal s p g h = record { legal = h.legal; few = h.few }

record FewFetched (s : State) (words most : ℕ) : Type 0 where
  pub after : FewLegal s
  pub few : words ≤ fetch_word_limit * most

pages_few : (s : State) (p n : ℕ) → FewLegal s → FewFetched (pages_fetched mainframe s p n).after (pages_fetched mainframe s p n).words n
unfolding pages_fetched
pages_few s p zero h = record { after = h; few = omega arith }
pages_few s p (suc g) h =
    let q = pages_few s p g h in
    record { after = still_legal (pages_fetched mainframe s p g).after p g q.after; few = omega (arith, q.few, fetch_few (pages_fetched mainframe s p g).after p g q.after) }

all_few : (s : State) (k : ℕ) → FewLegal s → s.counts.pages ≤ page_limit → FewFetched (all_fetched mainframe s k).after (all_fetched mainframe s k).words (page_limit * k)
unfolding all_fetched
all_few s zero h c = record { after = h; few = omega arith }
all_few s (suc k) h c =
    let q = all_few s k h c in
    let r = pages_few (all_fetched mainframe s k).after (suc k) s.counts.pages q.after in
    record { after = r.after; few = omega (arith, q.few, r.few, c) }

collected_few : (s : State) → InOrder mainframe s → (collected mainframe s).words ≤ step_word_limit
unfolding collected mainframe
collected_few s o = omega (arith, (all_few s s.counts.processors (few_legal s o) o.pages_fit).few, o.processors_fit)

arrive_few : (s : State) (p : ℕ) → InOrder mainframe s → present s p ≡ true → (arrive mainframe s p).words ≤ step_word_limit
unfolding arrive present
arrive_few s p o h = go (all_arrived (at_barrier s p)) (wants_collection (at_barrier s p))
  where
    go : (a b : Bool)
        → (cond a (cond b (collected mainframe (round_done (at_barrier s p))) (none_fetched (round_done (at_barrier s p)))) (none_fetched (at_barrier s p))).words ≤ step_word_limit
    go true true =
        collected_few (round_done (at_barrier s p)) (in_order_of mainframe (round_done (at_barrier s p)) (round_parts mainframe s p (parts_of mainframe s o) h))
    go true false = omega arith
    go false b = omega arith

-- ---- a step

effect_few : (s : State) (p : ℕ) (a : Action) → InOrder mainframe s → present s p ≡ true → (effect mainframe s p a).words ≤ step_word_limit
unfolding effect read write dequeue
effect_few s p (Read w) o h = omega (arith, fetch_few s p (page_of_word mainframe w) (few_legal s o))
effect_few s p (Write w v) o h = omega (arith, fetch_few s p (page_of_word mainframe w) (few_legal s o))
effect_few s p (Acquire l) o h = omega arith
effect_few s p (Release l) o h = omega arith
effect_few s p Arrive o h = arrive_few s p o h
effect_few s p Want o h = omega arith
effect_few s p (TallyAdd t v) o h = omega arith
effect_few s p (TallyRead t) o h = omega arith
effect_few s p (Enqueue t) o h = omega arith
effect_few s p Dequeue o h = omega arith
effect_few s p Unknown o h = omega arith

-- no step moves more, in any state; on a state not in order it moves none
pub few_words : (s : State) (t : Step) → (answer mainframe s t).words ≤ step_word_limit
unfolding answer answer_in_order refused_with
few_words s t = go (is_in_order mainframe s) (eqb (refusal_in_order mainframe s t) 0) refl refl
  where
    go : (a b : Bool) → is_in_order mainframe s ≡ a → eqb (refusal_in_order mainframe s t) 0 ≡ b
        → (cond a (cond b (accepted_as (effect mainframe s t.processor (action_of t))) (refused_with (refusal_in_order mainframe s t))) (refused_with 1)).words ≤ step_word_limit
    go true true e h =
        effect_few s t.processor (action_of t) (in_order_says mainframe s e) (accepted_says mainframe s t (eqb-true (refusal_in_order mainframe s t) 0 h)).processor_present
    go true false e h = omega arith
    go false b e h = omega arith

-- so fewer than a number of 32 bits can say
pub words_in_32_bits : (s : State) (t : Step) → (answer mainframe s t).words < word_values
words_in_32_bits s t = omega (arith, few_words s t)
