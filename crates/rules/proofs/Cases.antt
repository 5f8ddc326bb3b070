-- Document 01, "Bench cases (starred ones proved)": one table, a field for each starred case, and the theorem that they all hold of the rules.
-- Assumes nothing.
use Prim.Native.Nat.{ℕ, ◌-◌, ◌%◌}
use native.Mathlib.Omega.{arith}
use mathlib.Core.Path.{◌≡◌, refl, sym, ap, ◌∙◌}
use mathlib.Core.Bool.{Bool, true, false, cond}
use mathlib.Core.List.{List, [], ◌∷◌, ◌++◌}
use lib.ListN.{length}
use Rattle.limits.specs.Limits.{processor_limit, word_values}
use Rattle.clock.specs.Clocks.{zeros}
use Rattle.diff.specs.Format.{written}
use Rattle.diff.specs.Reading.{read_refusal}
use Rattle.diff.proofs.Cases.{CaseG, case_g, case_h, case_i, case_j, case_k, case_l}
use Rattle.rules.specs.State.{mainframe, dirty_at, State, clock, own, standing, has_arrived}
use Rattle.rules.specs.InOrder.{in_range, counts_in_range, is_in_order}
use Rattle.rules.specs.Fetch.{fetched}
use Rattle.rules.specs.Steps.{page_of_word, word_of, write}
use Rattle.rules.specs.Refusals.{Step, Answer, action_of, effect, refusal_in_order, next_in_order, refusal, next}
use Rattle.rules.specs.Runs.{answers, state_after, answers_in_order, state_in_order}
use Rattle.rules.specs.Bench.{StoredValues, steps_under_lock, answers_under_lock, steps_f}
use Rattle.rules.specs.Order.{events, event_at, is_arrival, counted_off, groups_before, rounds}
use Rattle.rules.proofs.inorder.Facts.{InOrder}
use Rattle.rules.proofs.inorder.InOrderSays.{in_order_says}
use Rattle.rules.proofs.inorder.InOrderWhen.{in_order_when}
use Rattle.rules.proofs.InOrderRuns.{refusal_is_not_one, state_in_order_lem}
use Rattle.rules.proofs.runs.Listing.{writes, releases, arrives, start, answering}
use Rattle.rules.proofs.runs.BenchFaults.{steps_c, computed_c, computed_clock_of_3}
use Rattle.rules.proofs.runs.FromStart.{answers_from_start, state_from_start}
use Rattle.rules.proofs.runs.OneInterval.{NoInterval, OneInterval, page_fetched, page_stored, release_without_store, store_and_release, equal_store}
use Rattle.rules.proofs.runs.StoredCases.{accepted, steps_b, case_b, case_d, case_e}

-- "C: 1 writes 5 under lock 0; 2 takes and frees lock 0, then lock 1; 3 takes lock 1 and reads 5, count 1. Card 3's clock is 1, 0, 0"
pub record CaseC : Type 0 where
  pub answered : answers mainframe (start 3 1 2) steps_c
      ≡ accepted ∷ accepted ∷ accepted ∷ accepted ∷ accepted ∷ accepted ∷ accepted ∷ accepted ∷ answering 0 5 1 ∷ []
  pub clock_of_3 : clock (state_after mainframe (start 3 1 2) steps_c) 3 ≡ 1 ∷ 0 ∷ 0 ∷ zeros (processor_limit - 3)

-- F, "storing 0 over 0 and releasing", by document 02, L2: "one interval, one record", with the one byte 0 for its diff. From the opening; and in
-- any state where the processor's pages are clean, for a store of any value. A release with nothing dirty makes none
pub record CaseF : Type 0 where
  pub answered : answers mainframe (start 1 1 1) steps_f ≡ accepted ∷ accepted ∷ accepted ∷ []
  pub own_entry : own (state_after mainframe (start 1 1 1) steps_f) 1 ≡ 1
  pub records : standing (state_after mainframe (start 1 1 1) steps_f) ≡ record { processor = 1; interval = 1; page = 0; diff = 0 ∷ [] } ∷ []
  pub in_any_state : (s : State) (p w v l : ℕ) → ((g : ℕ) → dirty_at s.pages p g ≡ false) → refusal mainframe s (writes p w v) ≡ 0
      → refusal mainframe (next mainframe s (writes p w v)) (releases p l) ≡ 0
      → OneInterval s (state_after mainframe s (writes p w v ∷ releases p l ∷ [])) p (page_of_word mainframe w) (written (page_fetched mainframe s p w) (page_stored mainframe s p w v))
  pub same_value_lem : (s : State) (p w v : ℕ) → word_of mainframe (fetched mainframe s p (page_of_word mainframe w)) p w ≡ v % word_values
      → written (page_fetched mainframe s p w) (page_stored mainframe s p w v) ≡ 0 ∷ []
  pub nothing_dirty : (s : State) (p l : ℕ) → ((g : ℕ) → dirty_at s.pages p g ≡ false) → NoInterval s (next mainframe s (releases p l))

-- "M: one card's arrival completes its round": its mark is clear, the round is counted, and it may arrive again
pub record CaseM : Type 0 where
  pub answered : answers mainframe (start 1 1 1) (arrives 1 ∷ arrives 1 ∷ []) ≡ accepted ∷ accepted ∷ []
  pub mark : has_arrived (state_after mainframe (start 1 1 1) (arrives 1 ∷ [])) 1 ≡ false
  pub counted : rounds 1 (events (arrives 1 ∷ []) (answers mainframe (start 1 1 1) (arrives 1 ∷ []))) 1 ≡ 1

-- the table
pub record BenchCases : Type 0 where
  -- "cards 1 and 2 write words 0 and 1, both arrive; card 1 reads word 1: card 2's value, count 1; then word 0, its own, count 0"
  pub B : (u v : ℕ) → StoredValues u v
      → answers mainframe (start 2 1 1) (steps_b u v) ≡ accepted ∷ accepted ∷ accepted ∷ accepted ∷ answering 0 v 1 ∷ answering 0 u 0 ∷ []
  pub C : CaseC
  -- "under one lock 1 writes word 0, then 2 does (count 1); 3 takes it and reads 2's value, count 2"; L5: "card 3 counts 1"
  pub D : (u v : ℕ) → StoredValues u v → answers mainframe (start 3 1 1) (steps_under_lock 1 u 2 v) ≡ answers_under_lock v
  -- "as D, 2 before 1; the value is 1's"
  pub E : (u v : ℕ) → StoredValues u v → answers mainframe (start 3 1 1) (steps_under_lock 2 v 1 u) ≡ answers_under_lock u
  pub F : CaseF
  -- "words 0, 1 and 31 differ: 17 bytes, starting 2, 0, 2, 31, 1"
  pub G : (a b c x y z : ℕ) (middle : List ℕ) → length middle ≡ 29 → (a ≡ x → ⊥) → (b ≡ y → ⊥) → (c ≡ z → ⊥)
      → CaseG (written (a ∷ b ∷ middle ++ c ∷ []) (x ∷ y ∷ middle ++ z ∷ []))
  -- "equal pages: the byte 0"
  pub H : (page : List ℕ) → written page page ≡ 0 ∷ []
  -- "pairs (0,1), (1,1): 12"
  pub I : (words : List ℕ) → read_refusal 32 (2 ∷ 0 ∷ 1 ∷ 1 ∷ 1 ∷ words) ≡ 12
  -- "(0,2), (3,1): fine"
  pub J : (words : List ℕ) → length words ≡ 12 → read_refusal 32 (2 ∷ 0 ∷ 2 ∷ 3 ∷ 1 ∷ words) ≡ 0
  -- "(31,2): 12"
  pub K : (words : List ℕ) → read_refusal 32 (1 ∷ 31 ∷ 2 ∷ words) ≡ 12
  -- "(31,1): fine"
  pub L : (words : List ℕ) → length words ≡ 4 → read_refusal 32 (1 ∷ 31 ∷ 1 ∷ words) ≡ 0
  pub M : CaseM

-- ---- the runs, computed

computed_f : answers_in_order mainframe (start 1 1 1) steps_f ≡ accepted ∷ accepted ∷ accepted ∷ []
unfolding start steps_f
computed_f = refl

computed_own_entry : own (state_in_order mainframe (start 1 1 1) steps_f) 1 ≡ 1
unfolding start steps_f
computed_own_entry = refl

computed_records : standing (state_in_order mainframe (start 1 1 1) steps_f) ≡ record { processor = 1; interval = 1; page = 0; diff = 0 ∷ [] } ∷ []
unfolding start steps_f
computed_records = refl

computed_m : answers_in_order mainframe (start 1 1 1) (arrives 1 ∷ arrives 1 ∷ []) ≡ accepted ∷ accepted ∷ []
unfolding start
computed_m = refl

computed_mark : has_arrived (state_in_order mainframe (start 1 1 1) (arrives 1 ∷ [])) 1 ≡ false
unfolding start
computed_mark = refl

computed_counted : rounds 1 (events (arrives 1 ∷ []) (answers_in_order mainframe (start 1 1 1) (arrives 1 ∷ []))) 1 ≡ 1
unfolding start rounds groups_before counted_off events event_at is_arrival
computed_counted = refl

-- ---- the cases

case_c : CaseC
unfolding counts_in_range in_range mainframe
case_c =
    record {
      answered = answers_from_start 3 1 2 refl steps_c ∙ computed_c;
      clock_of_3 = ap (λ (s : State). clock s 3) (state_from_start 3 1 2 refl steps_c) ∙ computed_clock_of_3;
    }

-- a step that is not refused begins in order
accepted_in_order : (s : State) (t : Step) → refusal mainframe s t ≡ 0 → InOrder mainframe s
unfolding refusal
accepted_in_order s t e = go (is_in_order mainframe s) refl e
  where
    go : (b : Bool) → is_in_order mainframe s ≡ b → cond {A = ℕ} b (refusal_in_order mainframe s t) 1 ≡ 0 → InOrder mainframe s
    go true i f = in_order_says mainframe s i
    go false i f = absurd (omega (arith, f))

-- a store of any value and a release, both accepted
stored_and_released : (s : State) (p w v l : ℕ) → ((g : ℕ) → dirty_at s.pages p g ≡ false) → refusal mainframe s (writes p w v) ≡ 0
    → refusal mainframe (next mainframe s (writes p w v)) (releases p l) ≡ 0
    → OneInterval s (state_after mainframe s (writes p w v ∷ releases p l ∷ [])) p (page_of_word mainframe w) (written (page_fetched mainframe s p w) (page_stored mainframe s p w v))
stored_and_released s p w v l clean e f =
    let o = accepted_in_order s (writes p w v) e in
    let fine : refusal_in_order mainframe s (writes p w v) ≡ 0 = sym (refusal_is_not_one mainframe s (writes p w v) (in_order_when mainframe s o)) ∙ e in
    rw (state_in_order_lem mainframe s (writes p w v ∷ releases p l ∷ []) o) (store_and_release mainframe s p w v o clean fine l (released o fine))
  where
    released : InOrder mainframe s → refusal_in_order mainframe s (writes p w v) ≡ 0 → refusal_in_order mainframe (write mainframe s p w v).after (releases p l) ≡ 0
    released o fine =
        let kept = accepted_in_order (next mainframe s (writes p w v)) (releases p l) f in
        let is : next mainframe s (writes p w v) ≡ (write mainframe s p w v).after = unfold next next_in_order action_of effect in rw (in_order_when mainframe s o, fine) refl in
        rw is at (sym (refusal_is_not_one mainframe (next mainframe s (writes p w v)) (releases p l) (in_order_when mainframe (next mainframe s (writes p w v)) kept)) ∙ f)

-- a release with nothing dirty
released_clean : (s : State) (p l : ℕ) → ((g : ℕ) → dirty_at s.pages p g ≡ false) → NoInterval s (next mainframe s (releases p l))
unfolding next
released_clean s p l clean = go (is_in_order mainframe s) refl
  where
    go : (b : Bool) → is_in_order mainframe s ≡ b → NoInterval s (cond b (next_in_order mainframe s (releases p l)) s)
    go true e = release_without_store mainframe s p l (in_order_says mainframe s e) clean
    go false e = record { own_entries_lem = λ q. refl; intervals = refl; records = refl }

case_f : CaseF
unfolding counts_in_range in_range mainframe
case_f =
    record {
      answered = answers_from_start 1 1 1 refl steps_f ∙ computed_f;
      own_entry = ap (λ (s : State). own s 1) (state_from_start 1 1 1 refl steps_f) ∙ computed_own_entry;
      records = ap standing (state_from_start 1 1 1 refl steps_f) ∙ computed_records;
      in_any_state = stored_and_released;
      same_value_lem = equal_store mainframe;
      nothing_dirty = released_clean;
    }

case_m : CaseM
unfolding counts_in_range in_range mainframe
case_m =
    record {
      answered = answers_from_start 1 1 1 refl (arrives 1 ∷ arrives 1 ∷ []) ∙ computed_m;
      mark = ap (λ (s : State). has_arrived s 1) (state_from_start 1 1 1 refl (arrives 1 ∷ [])) ∙ computed_mark;
      counted =
          ap (λ (answered : List Answer). rounds 1 (events (arrives 1 ∷ []) answered) 1) (answers_from_start 1 1 1 refl (arrives 1 ∷ [])) ∙ computed_counted;
    }

-- every starred bench case holds of the rules
pub bench_cases : BenchCases
unfolding counts_in_range in_range mainframe
bench_cases =
    record {
      B = λ u v h. answers_from_start 2 1 1 refl (steps_b u v) ∙ case_b u v h;
      C = case_c;
      D = λ u v h. answers_from_start 3 1 1 refl (steps_under_lock 1 u 2 v) ∙ case_d u v h;
      E = λ u v h. answers_from_start 3 1 1 refl (steps_under_lock 2 v 1 u) ∙ case_e u v h;
      F = case_f;
      G = case_g;
      H = case_h;
      I = case_i;
      J = case_j;
      K = case_k;
      L = case_l;
      M = case_m;
    }
