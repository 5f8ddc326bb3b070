-- Document 02, L4, the theorems about tallies.
--
-- The total that a completed round posts is the same "whichever card's adds are taken first" (`posting_any_order`). And, over every list (`tally_reads`):
-- take any limits with pages of at least one word, any opening that they accept, and any list of steps with any fields, in any order, refused ones too.
-- An accepted read of tally t by processor p answers the sum, wrapped at 4,294,967,296, of the value fields of the accepted adds to t that stand earlier in
-- the list and were made in a round that is completed before the read, or by p itself; and the total posted is that of the rounds completed (`posted_totals`).
-- Rests on WrappedSums, TalliesAfter, Rounds, StrictOrder and ListRuns. Assumes nothing.
use Prim.Native.Nat.{ℕ, zero, suc, ◌+◌, ◌%◌, ◌≤◌, ◌<◌}
use native.Mathlib.Omega.{arith}
use mathlib.Core.Path.{◌≡◌, refl, sym, ap, ap₂, ◌∙◌}
use mathlib.Core.Logic.{◌⊎◌, inl, inr}
use mathlib.Core.Bool.{Bool, true, false, cond, ◌&&◌}
use mathlib.Core.List.{List}
use lib.ListN.{length, take, get_or}
use lib.Dec.{ltb, eqb}
use borrow.Author.Tests.{eqb-true, eqb-false, eq-eqb, ne_eqb}
use Rattle.lists.specs.Tables.{total, cell}
use Rattle.lists.proofs.Tables.{total_same}
use Rattle.limits.specs.Limits.{word_values}
use Rattle.rules.specs.State.{Limits, Counts, Shared, posted_of, adds_of, State}
use Rattle.rules.specs.Tallies.{tally_added, tally_total, total_after, posting}
use Rattle.rules.specs.Opening.{Opening, opening_refusal, opened}
use Rattle.rules.specs.Steps.{enqueue}
use Rattle.rules.specs.Close.{closed}
use Rattle.rules.specs.Refusals.{Step, Action, Read, Write, Acquire, Release, Arrive, Want, TallyAdd, TallyRead, Enqueue, Dequeue, Unknown, action_of, effect}
use Rattle.rules.specs.Runs.{answers, state_after}
use Rattle.rules.specs.Order.{Event, events, event_at, Took, rounds}
use Rattle.rules.specs.Demand.{value_field}
use Rattle.rules.specs.TallyTotals.{is_add_to, counts_for, tally_due, posted_due, TalliesJudged, taken_up, taken_from, taken_down}
use Rattle.rules.proofs.state.WrappedSums.{wrap_first, wrap_second, wrap_both, wrap_onto, added_before, added_since, before_same_round, since_same_round, before_new_round, since_new_round, before_and_since, before_and_all}
use Rattle.rules.proofs.inorder.OpenedInOrder.{opened_no_adds, opened_none_posted, opened_in_order, opening_counts}
use Rattle.rules.proofs.InOrderRuns.{answers_in_order_lem, state_in_order_lem}
use Rattle.rules.proofs.StrictOrder.{rounds_never_fall}
use Rattle.rules.proofs.order.Timeline.{Timeline, Moment, Refused, Taken, moment, took_accepted, counts_stay}
use Rattle.rules.proofs.order.Ghosts.{completes}
use Rattle.rules.proofs.order.ActionKinds.{arrives_by}
use Rattle.rules.proofs.order.Allowed.{took_allowed}
use Rattle.rules.proofs.order.Rounds.{rounds_after_step, rounds_after_refusal}
use Rattle.rules.proofs.order.TalliesAfter.{shared_after, shared_after_lem, posted_added, adds_added, posted_posted, adds_posted, adds_by, kind_adds, total_there}
use Rattle.rules.proofs.demand.ListRuns.{events_of, timeline, state_at, step_answer}

-- ---- "taking the cards downwards gives the same word as taking them upwards"

up_is_total : (h : Shared) (n t : ℕ) → taken_up h t n ≡ total_after h n t
unfolding taken_up total_after total
up_is_total h zero t = omega arith
up_is_total h (suc n) t =
    ap (λ (x : ℕ). (x + adds_of h (suc n) t) % word_values) (up_is_total h n t)
    ∙ wrap_first (posted_of h t + total n (λ k. adds_of h (suc k) t)) (adds_of h (suc n) t)
    ∙ ap (λ (y : ℕ). y % word_values) (omega arith)

from_is_total : (h : Shared) (n t x : ℕ) → taken_from h t n (x % word_values) ≡ (x + total n (λ k. adds_of h (suc k) t)) % word_values
unfolding taken_from total
from_is_total h zero t x = omega arith
from_is_total h (suc n) t x =
    ap (taken_from h t n) (wrap_first x (adds_of h (suc n) t))
    ∙ from_is_total h n t (x + adds_of h (suc n) t)
    ∙ ap (λ (y : ℕ). y % word_values) (omega arith)

-- both are the total that a round of n processors posts
pub posting_any_order : (h : Shared) (n t : ℕ) → (taken_up h t n ≡ total_after h n t) × (taken_down h t n ≡ total_after h n t)
unfolding taken_down total_after
posting_any_order h n t = (up_is_total h n t, from_is_total h n t (posted_of h t))

-- so the two are equal
pub down_is_up : (h : Shared) (n t : ℕ) → taken_down h t n ≡ taken_up h t n
down_is_up h n t = (posting_any_order h n t).1 ∙ sym (posting_any_order h n t).0

-- ---- the run

-- what the step at place i adds to tally t
unfoldable added_at : List Event → ℕ → ℕ → ℕ
added_at es t i = cond (is_add_to (event_at es i) t) (value_field (event_at es i).step.value) 0

-- a refused step adds nothing
refused_adds : (es : List Event) (t i : ℕ) → (event_at es i).accepted ≡ false → added_at es t i ≡ 0
unfolding added_at is_add_to
refused_adds es t i e = rw e

-- an accepted one what its action adds
took_adds : (es : List Event) (t i p : ℕ) (a : Action) → Took es i p a → added_at es t i ≡ adds_by t a
unfolding added_at is_add_to
took_adds es t i p a took = rw took.accepted (kind_adds t (event_at es i).step) ∙ ap (adds_by t) took.action

-- a number that counts when two tests pass
both_tests : (a b : Bool) (x : ℕ) → cond b (cond a x 0) 0 ≡ cond (a && b) x 0
both_tests true b x = refl
both_tests false true x = refl
both_tests false false x = refl

module _ (lim : Limits) (c : Counts) (es : List Event) (r : Timeline lim c es) (t : ℕ) (present : t < lim.tallies) where
  -- the number of processors; the round of each place, what is added there to t, and by whom
  abbrev n : ℕ
  n = c.processors

  abbrev round : ℕ → ℕ
  round i = rounds c.processors es i

  abbrev added : ℕ → ℕ
  added i = added_at es t i

  abbrev who : ℕ → ℕ
  who i = (event_at es i).step.processor

  abbrev before : ℕ → ℕ
  before j = added_before round added who j

  abbrev since : ℕ → ℕ → ℕ
  since q j = added_since round added who q j

  -- the tally at place j: posted is what was added in the rounds before, and what each processor has added is its adds of the open round
  record Tallied (j : ℕ) (h : Shared) : Type 0 where
    posted : posted_of h t ≡ before j % word_values
    adds : (q : ℕ) → adds_of h q t ≡ since q j % word_values

  -- only processors that are there add
  adders : (i : ℕ) → (added i ≡ 0) ⊎ ((1 ≤ who i) × (who i ≤ n))
  adders i = go (event_at es i).accepted refl
    where
      go : (b : Bool) → (event_at es i).accepted ≡ b → (added i ≡ 0) ⊎ ((1 ≤ who i) × (who i ≤ n))
      go true e =
          let al = took_allowed lim c es r i (who i) (action_of (event_at es i).step) (record { accepted = e; processor = refl; action = refl }) in
          inr (al.from, al.to)
      go false e = inl (refused_adds es t i e)

  -- a step that adds nothing and completes no round
  quiet : (j : ℕ) (h : Shared) → round (suc j) ≡ round j → added j ≡ 0 → Tallied j h → Tallied (suc j) h
  quiet j h e z ih =
      record {
        posted = ih.posted ∙ ap (λ (x : ℕ). x % word_values) (sym (before_same_round round added who j e));
        adds = λ q. ih.adds q ∙ ap (λ (x : ℕ). x % word_values) (sym (since_same_round round added who q j e ∙ none (eqb (who j) q) (since q j) (added j) z));
      }
    where
      none : (b : Bool) (x y : ℕ) → y ≡ 0 → x + cond b y 0 ≡ x
      none true x y z = omega (arith, z)
      none false x y z = omega arith

  -- an add
  adding : (j : ℕ) (h : Shared) (p u v : ℕ) → round (suc j) ≡ round j → who j ≡ p → added j ≡ cond (eqb u t) (value_field v) 0 → Tallied j h → Tallied (suc j) (tally_added h p u v)
  unfolding value_field
  adding j h p u v e w z ih =
      record {
        posted = posted_added h p u v t ∙ ih.posted ∙ ap (λ (x : ℕ). x % word_values) (sym (before_same_round round added who j e));
        adds = λ q.
            adds_added h p u v q t
            ∙ go q (eqb q p) (eqb t u) refl refl
            ∙ ap (λ (x : ℕ). x % word_values) (sym (since_same_round round added who q j e));
      }
    where
      go : (q : ℕ) (a b : Bool) → eqb q p ≡ a → eqb t u ≡ b
          → cond (a && b) ((adds_of h p u + v) % word_values) (adds_of h q t) ≡ (since q j + cond (eqb (who j) q) (added j) 0) % word_values
      go q true true d k =
          let same : q ≡ p = eqb-true q p d in
          let tally : t ≡ u = eqb-true t u k in
          rw (w, z, eq-eqb p q (sym same), eq-eqb u t (sym tally))
          (ap (λ (x : ℕ). (x + v) % word_values) (rw (← same, ← tally) (ih.adds q)) ∙ wrap_first (since q j) v ∙ sym (wrap_second (since q j) v))
      go q true false d k = rw (z, ne_eqb u t (λ y. eqb-false t u k (sym y))) (ih.adds q ∙ ap (λ (x : ℕ). x % word_values) (none (eqb (who j) q) (since q j)))
        where
          none : (b : Bool) (x : ℕ) → x ≡ x + cond b 0 0
          none true x = omega arith
          none false x = omega arith
      go q false b d k = rw (w, ne_eqb p q (λ y. eqb-false q p d (sym y))) (ih.adds q ∙ ap (λ (x : ℕ). x % word_values) (none (since q j)))
        where
          none : (x : ℕ) → x ≡ x + 0
          none x = omega arith

  -- an arrival that completes the round
  turning : (j : ℕ) (h : Shared) → round (suc j) ≡ round j + 1 → added j ≡ 0 → length h.posted ≡ lim.tallies → Tallied j h → Tallied (suc j) (posting h n)
  unfolding total_after total
  turning j h e z long ih =
      record {
        posted =
            posted_posted h n t (rw long present)
            ∙ ap₂ (λ (x y : ℕ). (x + y) % word_values) ih.posted (total_same n (λ k. adds_of h (suc k) t) (λ k. since (suc k) j % word_values) (λ k l. ih.adds (suc k)))
            ∙ wrap_onto (before j) n (λ k. since (suc k) j)
            ∙ ap (λ (x : ℕ). x % word_values) (before_and_all round added who n j (λ i l. adders i) ∙ omega (arith, z) ∙ sym (before_new_round round added who j e up));
        adds = λ q. adds_posted h n q t ∙ ap (λ (x : ℕ). x % word_values) (sym (since_new_round round added who q j e up));
      }
    where
      up : (i : ℕ) → i ≤ j → round i ≤ round j
      up i l = rounds_never_fall n es i j l

  -- shared values with the same tallies
  same_tallies : (j : ℕ) (h h' : Shared) → h'.posted ≡ h.posted → h'.adds ≡ h.adds → Tallied j h → Tallied j h'
  unfolding posted_of adds_of
  same_tallies j h h' a b ih = record { posted = ap (λ (l : List ℕ). get_or l t 0) a ∙ ih.posted; adds = λ q. ap (λ (l : List (List ℕ)). cell 0 l q t) b ∙ ih.adds q }

  -- an accepted step, by its action
  stepped : (j p : ℕ) (a : Action) → Took es j p a → Tallied j (r.state j).shared → Tallied (suc j) (shared_after lim (r.state j) p a)
  unfolding shared_after adds_by arrives_by
  stepped j p (Read w) took ih = quiet j (r.state j).shared (rounds_after_step lim c es r j p (Read w) took) (took_adds es t j p (Read w) took) ih
  stepped j p (Write w v) took ih = quiet j (r.state j).shared (rounds_after_step lim c es r j p (Write w v) took) (took_adds es t j p (Write w v) took) ih
  stepped j p (Acquire l) took ih = quiet j (r.state j).shared (rounds_after_step lim c es r j p (Acquire l) took) (took_adds es t j p (Acquire l) took) ih
  stepped j p (Release l) took ih = quiet j (r.state j).shared (rounds_after_step lim c es r j p (Release l) took) (took_adds es t j p (Release l) took) ih
  stepped j p Arrive took ih = go (completes (r.state j) p) (rounds_after_step lim c es r j p Arrive took)
    where
      go : (b : Bool) → round (suc j) ≡ cond b (round j + 1) (round j)
          → Tallied (suc j) (cond b (posting (r.state j).shared (r.state j).counts.processors) (r.state j).shared)
      go true e =
          rw (ap (λ (k : Counts). k.processors) (counts_stay lim c es r j))
          (turning j (r.state j).shared e (took_adds es t j p Arrive took) (r.ordered j).sized.posted ih)
      go false e = quiet j (r.state j).shared e (took_adds es t j p Arrive took) ih
  stepped j p Want took ih = quiet j (r.state j).shared (rounds_after_step lim c es r j p Want took) (took_adds es t j p Want took) ih
  stepped j p (TallyAdd u v) took ih =
      adding j (r.state j).shared p u v (rounds_after_step lim c es r j p (TallyAdd u v) took) took.processor (took_adds es t j p (TallyAdd u v) took) ih
  stepped j p (TallyRead u) took ih = quiet j (r.state j).shared (rounds_after_step lim c es r j p (TallyRead u) took) (took_adds es t j p (TallyRead u) took) ih
  stepped j p (Enqueue u) took ih = same_tallies (suc j) (r.state j).shared (enqueue lim (r.state j) p u).shared (unfold enqueue closed in refl) (unfold enqueue closed in refl) (quiet j (r.state j).shared (rounds_after_step lim c es r j p (Enqueue u) took) (took_adds es t j p (Enqueue u) took) ih)
  stepped j p Dequeue took ih = quiet j (r.state j).shared (rounds_after_step lim c es r j p Dequeue took) (took_adds es t j p Dequeue took) ih
  stepped j p Unknown took ih = quiet j (r.state j).shared (rounds_after_step lim c es r j p Unknown took) (took_adds es t j p Unknown took) ih

  -- so it is at every place of the list
  tallied : (j : ℕ) → Tallied j (r.state j).shared
  unfolding opened added_before added_since total
  tallied zero =
      record {
        posted = ap (λ (s : State). posted_of s.shared t) r.starts ∙ opened_none_posted lim t;
        adds = λ q. ap (λ (s : State). adds_of s.shared q t) r.starts ∙ opened_no_adds lim q t;
      }
  tallied (suc j) = go (moment lim c es r j) (tallied j)
    where
      go : Moment lim es j (r.state j) (r.state (suc j)) → Tallied j (r.state j).shared → Tallied (suc j) (r.state (suc j)).shared
      go (Refused e k) ih = rw k (quiet j (r.state j).shared (rounds_after_refusal lim c es r j e) (refused_adds es t j e) ih)
      go (Taken p a took acc k) ih = rw (k, shared_after_lem lim (r.state j) p a) (stepped j p a took ih)

  -- the posted total is what is due of the rounds completed
  posted_is_due : (j : ℕ) → posted_of (r.state j).shared t ≡ posted_due n es t j
  unfolding posted_due added_before added_at
  posted_is_due j =
      (tallied j).posted
      ∙ ap (λ (x : ℕ). x % word_values)
      (total_same j (λ i. cond (ltb (round i) (round j)) (added i) 0) (λ i. cond (is_add_to (event_at es i) t && ltb (round i) (round j)) (value_field (event_at es i).step.value) 0)
      (λ i l. both_tests (is_add_to (event_at es i) t) (ltb (round i) (round j)) (value_field (event_at es i).step.value)))

  -- and a processor's posted total and adds come to what is due
  total_is_due : (j p : ℕ) → tally_total (r.state j).shared p t ≡ tally_due n es p t j
  unfolding tally_total tally_due counts_for added_at
  total_is_due j p =
      let h = tallied j in
      ap₂ (λ (x y : ℕ). (x + y) % word_values) h.posted (h.adds p)
      ∙ wrap_both (before j) (since p j)
      ∙ ap (λ (x : ℕ). x % word_values)
      (before_and_since round added who p j
      ∙ total_same j (λ i. cond (counts_for n es p j i) (added i) 0) (λ i. cond (is_add_to (event_at es i) t && counts_for n es p j i) (value_field (event_at es i).step.value) 0)
      (λ i l. both_tests (is_add_to (event_at es i) t) (counts_for n es p j i) (value_field (event_at es i).step.value)))

-- ---- the theorems, over every list of steps from an accepted opening

-- the total posted after the first j steps
pub posted_totals : (lim : Limits) (o : Opening) → 0 < lim.words → opening_refusal lim o ≡ 0 → (ts : List Step) (j t : ℕ) → t < lim.tallies
    → posted_of (state_after lim (opened lim o.counts) (take j ts)).shared t ≡ posted_due o.counts.processors (events ts (answers lim (opened lim o.counts) ts)) t j
posted_totals lim o words_there accepted ts j t present =
    let in-range = opening_counts lim o accepted in
    let start = opened_in_order lim o.counts in-range in
    rw (answers_in_order_lem lim (opened lim o.counts) ts start, state_in_order_lem lim (opened lim o.counts) (take j ts) start, ← state_at lim o.counts in-range words_there ts j)
    (posted_is_due lim o.counts (events_of lim (opened lim o.counts) ts) (timeline lim o.counts in-range words_there ts) t present j)

-- every accepted read of a tally
pub tally_reads : (lim : Limits) (o : Opening) → 0 < lim.words → opening_refusal lim o ≡ 0 → (ts : List Step)
    → TalliesJudged o.counts.processors ts (answers lim (opened lim o.counts) ts)
unfolding effect
tally_reads lim o words_there accepted ts =
    rw (answers_in_order_lem lim (opened lim o.counts) ts (opened_in_order lim o.counts (opening_counts lim o accepted)))
    (record {
      totals = λ j p t took.
          let es : List Event = events_of lim (opened lim o.counts) ts in
          let r : Timeline lim o.counts es = timeline lim o.counts (opening_counts lim o accepted) words_there ts in
          step_answer lim o.counts (opening_counts lim o accepted) words_there ts j p (TallyRead t) took
          ∙ total_is_due lim o.counts es r t (total_there lim (r.state j) (event_at es j).step t took.action (took_accepted lim o.counts es r j p (TallyRead t) took)) j p;
    })
