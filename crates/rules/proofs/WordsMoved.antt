-- Document 02, L6: how many words move. A diff counts the words of the page that it sets, a fetch those of the records that it applies and none of those
-- that it skips; which steps move words; and the totals of runs, computed. Rests on SkippingCases, StoredCases. Assumes nothing.
use Prim.Native.Nat.{ℕ, zero, suc, ◌+◌, ◌*◌, ◌≤◌}
use native.Mathlib.Omega.{arith}
use mathlib.Core.Path.{◌≡◌, refl, ap, ap₂, ◌∙◌}
use mathlib.Core.Bool.{Bool, true, false, cond}
use mathlib.Core.List.{List, [], ◌∷◌}
use lib.ListN.{length, take}
use lib.Dec.{eqb}
use borrow.Author.Tests.{eqb-true}
use Rattle.diff.specs.Format.{set_words}
use Rattle.diff.specs.Reading.{read_refusal, words_set, settings}
use Rattle.diff.proofs.Legal.{few_words_set}
use Rattle.diff.proofs.Theorems.{words_with_a_setting}
use Rattle.lists.specs.Tables.{total}
use Rattle.lists.proofs.Selected.{Each}
use Rattle.rules.specs.State.{Limits, mainframe, Record, State}
use Rattle.rules.specs.Fetch.{due, replaced, unreplaced, skipped, words_in, applying, fetch_count, fetch_words}
use Rattle.rules.specs.InOrder.{is_in_order, in_range, counts_in_range}
use Rattle.rules.specs.Opening.{Opening, opening_refusal, opened}
use Rattle.rules.specs.Steps.{read, write, at_barrier, all_arrived, round_done, none_fetched, pages_fetched, all_fetched, collected, arrive, dequeue}
use Rattle.rules.specs.Refusals.{Step, Arrive, action_of, effect, refusal_in_order, refusal, refused_with, accepted_as, answer_in_order, answer}
use Rattle.rules.specs.Runs.{answers, words_moved, answers_in_order}
use Rattle.rules.specs.Moved.{BringsNothing, ArrivalBrings, StepsMove, EffectsTold}
use Rattle.rules.specs.Bench.{listing, listing_answers, StoredValues, steps_under_lock, answers_under_lock, set_to_what_it_was}
use Rattle.rules.proofs.inorder.OpenedInOrder.{opened_in_order, opening_counts}
use Rattle.rules.proofs.InOrderRuns.{answers_in_order_lem, state_in_order_lem}
use Rattle.rules.proofs.demand.ListRuns.{state_at, step_effect, refused_answer_of}
use Rattle.rules.proofs.runs.Listing.{reads, writes, acquires, releases, start, answering}
use Rattle.rules.proofs.runs.FromStart.{answers_from_start, listing_a_lem}
use Rattle.rules.proofs.runs.StoredCases.{accepted, case_d}
use Rattle.rules.proofs.SkippingCases.{partly, together, in_collection, skipping_cases}

-- ---- "the number of words it set"

-- a record counts the words of a page of w words that its diff sets, each once
pub record_counts_its_words : (w : ℕ) (r : Record) (rs : List Record) → words_in (r ∷ rs) ≡ length (set_words (settings w r.diff)) + words_in rs
unfolding words_in
record_counts_its_words w r rs = ap (λ (n : ℕ). n + words_in rs) (words_with_a_setting w r.diff)

-- the words of applied and of skipped records are together those of all
applied_and_skipped_words : (w : ℕ) (rs : List Record) → words_in (unreplaced w rs) + words_in (skipped w rs) ≡ words_in rs
unfolding unreplaced skipped words_in
applied_and_skipped_words w [] = refl
applied_and_skipped_words w (r ∷ rs) = go (replaced w r rs) (applied_and_skipped_words w rs)
  where
    go : (b : Bool) → words_in (unreplaced w rs) + words_in (skipped w rs) ≡ words_in rs
        → words_in (cond b (unreplaced w rs) (r ∷ unreplaced w rs)) + words_in (cond b (r ∷ skipped w rs) (skipped w rs)) ≡ words_set r.diff + words_in rs
    go true e = omega (arith, e)
    go false e = omega (arith, e)

-- so a fetch moves the words of its pending records but for those that it skips
pub fetch_moves : (lim : Limits) (s : State) (p g : ℕ) → fetch_words lim s p g + words_in (skipped lim.words (due s p g)) ≡ words_in (due s p g)
unfolding fetch_words applying
fetch_moves lim s p g = applied_and_skipped_words lim.words (due s p g)

-- legal diffs set at most a page each
pub at_most_a_page_each : (w : ℕ) (rs : List Record) → Each (λ r. read_refusal w r.diff ≡ 0) rs → words_in rs ≤ w * length rs
unfolding words_in
at_most_a_page_each w [] h = omega arith
at_most_a_page_each w (r ∷ rs) h = omega (arith, few_words_set w r.diff h.0, at_most_a_page_each w rs h.1)

-- ---- "fetch, read, write and the collecting arrival hand on their sums"

-- one processor's fetches of the pages below n bring the sums
pages_sum : (lim : Limits) (s : State) (p n : ℕ)
    → ((pages_fetched lim s p n).count ≡ total n (λ g. fetch_count lim (pages_fetched lim s p g).after p g))
    × ((pages_fetched lim s p n).words ≡ total n (λ g. fetch_words lim (pages_fetched lim s p g).after p g))
unfolding pages_fetched total
pages_sum lim s p zero = (refl, refl)
pages_sum lim s p (suc g) =
    let e = pages_sum lim s p g in
    let f : State = (pages_fetched lim s p g).after in
    (ap (λ (n : ℕ). n + fetch_count lim f p g) e.0, ap (λ (n : ℕ). n + fetch_words lim f p g) e.1)

-- and those of the first n processors
all_sum : (lim : Limits) (s : State) (n : ℕ)
    → ((all_fetched lim s n).count
    ≡ total n (λ k. total s.counts.pages (λ g. fetch_count lim (pages_fetched lim (all_fetched lim s k).after (suc k) g).after (suc k) g)))
    × ((all_fetched lim s n).words
    ≡ total n (λ k. total s.counts.pages (λ g. fetch_words lim (pages_fetched lim (all_fetched lim s k).after (suc k) g).after (suc k) g)))
unfolding all_fetched total
all_sum lim s zero = (refl, refl)
all_sum lim s (suc k) =
    let e = all_sum lim s k in
    let h = pages_sum lim (all_fetched lim s k).after (suc k) s.counts.pages in
    (ap₂ ◌+◌ e.0 h.0, ap₂ ◌+◌ e.1 h.1)

-- an arrival brings what its collection brings
arrival_moves : (lim : Limits) (s : State) (p : ℕ) → ArrivalBrings lim s p (effect lim s p Arrive)
unfolding effect arrive collected
arrival_moves lim s p =
    record {
      collecting = λ a b. rw (a, b) (record { count = (all_sum lim (round_done (at_barrier s p)) s₁.counts.processors).0; words = (all_sum lim (round_done (at_barrier s p)) s₁.counts.processors).1 });
      not_wanted = λ b. rw b (not_wanted (all_arrived (at_barrier s p)));
      not_last = λ a. rw a (record { count = refl; words = refl });
    }
  where
    s₁ : State
    s₁ = round_done (at_barrier s p)

    not_wanted : (a : Bool) → BringsNothing (record {
      after = (cond a (none_fetched (round_done (at_barrier s p))) (none_fetched (at_barrier s p))).after;
      value = 0;
      count = (cond a (none_fetched (round_done (at_barrier s p))) (none_fetched (at_barrier s p))).count;
      words = (cond a (none_fetched (round_done (at_barrier s p))) (none_fetched (at_barrier s p))).words;
    })
    not_wanted true = record { count = refl; words = refl }
    not_wanted false = record { count = refl; words = refl }

pub steps_move : (lim : Limits) (s : State) (p : ℕ) → StepsMove lim s p
unfolding effect read write
steps_move lim s p =
    record {
      by_read = λ w. record { count = refl; words = refl };
      by_write = λ w v. record { count = refl; words = refl };
      by_acquire = λ l. record { count = refl; words = refl };
      by_release = λ l. record { count = refl; words = refl };
      by_arrival = arrival_moves lim s p;
      by_want = record { count = refl; words = refl };
      by_add = λ t v. record { count = refl; words = refl };
      by_total = λ t. record { count = refl; words = refl };
      by_enqueue = λ v. record { count = refl; words = refl };
      by_dequeue = unfold dequeue in record { count = refl; words = refl };
    }

-- a refused step moves none
pub refused_moves_nothing : (lim : Limits) (s : State) (t : Step) → (refusal lim s t ≡ 0 → ⊥) → (answer lim s t).words ≡ 0
unfolding refusal answer answer_in_order refused_with
refused_moves_nothing lim s t = go (is_in_order lim s) (eqb (refusal_in_order lim s t) 0) refl
  where
    go : (a b : Bool) → eqb (refusal_in_order lim s t) 0 ≡ b → (cond a (refusal_in_order lim s t) 1 ≡ 0 → ⊥)
        → (cond a (cond b (accepted_as (effect lim s t.processor (action_of t))) (refused_with (refusal_in_order lim s t))) (refused_with 1)).words ≡ 0
    go true true e h = absurd (h (eqb-true (refusal_in_order lim s t) 0 e))
    go true false e h = refl
    go false b e h = refl

-- every step of a list answers its effect on the state that the steps before it left
pub effects_told : (o : Opening) → opening_refusal mainframe o ≡ 0 → (ts : List Step) → EffectsTold o.counts ts (answers mainframe (opened mainframe o.counts) ts)
unfolding mainframe
effects_told o accepted ts =
    let in-range = opening_counts mainframe o accepted in
    let start = opened_in_order mainframe o.counts in-range in
    rw (answers_in_order_lem mainframe (opened mainframe o.counts) ts start)
    (record {
      taken = λ j p a took.
          rw (state_in_order_lem mainframe (opened mainframe o.counts) (take j ts) start, ← state_at mainframe o.counts in-range (omega arith) ts j)
          (step_effect mainframe o.counts in-range (omega arith) ts j p a took);
      refused = λ j e. refused_answer_of mainframe (opened mainframe o.counts) ts j e;
    })

-- ---- totals of runs

-- 1 and 2 store equal values under a lock: 2's record has no words
unfoldable pub same_value : List Step
same_value = acquires 1 0 ∷ writes 1 0 9 ∷ releases 1 0 ∷ acquires 2 0 ∷ writes 2 0 9 ∷ releases 2 0 ∷ acquires 1 0 ∷ reads 1 0 ∷ []

pub record WordsCases : Type 0 where
  -- "in listing A it is "words 1""
  pub listing : words_moved (answers mainframe (start 2 1 1) listing) ≡ 1
  pub opening : words_moved (answers mainframe (start 3 1 1) []) ≡ 0
  -- case D: of two records that set the same word the first is skipped where 3 reads
  pub case_d : (u v : ℕ) → StoredValues u v → words_moved (answers mainframe (start 3 1 1) (steps_under_lock 1 u 2 v)) ≡ 2
  -- 2 + 3: a word that a later record of the same fetch sets again counts for both
  pub partly : words_moved (answers mainframe (start 3 1 1) partly) ≡ 5
  pub together : words_moved (answers mainframe (start 4 1 1) together) ≡ 7
  pub collection : words_moved (answers mainframe (start 3 2 1) in_collection) ≡ 5
  pub same_value_lem : words_moved (answers mainframe (start 2 1 1) same_value) ≡ 1
  -- "A word that is set to the value it had counts"
  pub set_to_what_it_was_lem : words_moved (answers mainframe (start 3 1 1) set_to_what_it_was) ≡ 3

computed_same_value : answers_in_order mainframe (start 2 1 1) same_value
    ≡ accepted ∷ accepted ∷ accepted ∷ accepted ∷ answering 0 0 1 ∷ accepted ∷ accepted ∷ answering 0 9 0 ∷ []
unfolding start same_value
computed_same_value = refl

computed_what_it_was : answers_in_order mainframe (start 3 1 1) set_to_what_it_was
    ≡ accepted ∷ accepted ∷ accepted ∷ accepted ∷ accepted ∷ answering 0 7 1 ∷ answering 0 7 1 ∷ answering 0 7 1 ∷ []
unfolding start set_to_what_it_was
computed_what_it_was = refl

pub what_it_was : answers mainframe (start 3 1 1) set_to_what_it_was
    ≡ accepted ∷ accepted ∷ accepted ∷ accepted ∷ accepted ∷ answering 0 7 1 ∷ answering 0 7 1 ∷ answering 0 7 1 ∷ []
unfolding counts_in_range in_range mainframe
what_it_was = answers_from_start 3 1 1 refl set_to_what_it_was ∙ computed_what_it_was

pub words_cases : WordsCases
unfolding counts_in_range in_range mainframe words_moved answers listing_answers answers_under_lock
words_cases =
    record {
      listing = ap words_moved listing_a_lem;
      opening = refl;
      case_d = λ u v h. ap words_moved (answers_from_start 3 1 1 refl (steps_under_lock 1 u 2 v) ∙ case_d u v h);
      partly = ap words_moved skipping_cases.partly;
      together = ap words_moved skipping_cases.together;
      collection = ap words_moved skipping_cases.in_collection_lem;
      same_value_lem = ap words_moved (answers_from_start 2 1 1 refl same_value ∙ computed_same_value);
      set_to_what_it_was_lem = ap words_moved what_it_was;
    }
