-- Document 02, L8: a forecast is what the run itself has: of every state in order it gives each step the refusal that the rules give it, and after
-- the step it has the rules' own entries, dirty pages, records and marks. Rests on OwnEntries and Accepted. Assumes nothing.
use Prim.Native.Nat.{ℕ, zero, suc, ◌+◌, ◌≤◌, ◌<◌}
use native.Mathlib.Omega.{arith}
use native.Mathlib.Decide.{ℕ_discrete}
use mathlib.Core.Path.{◌≡◌, refl, sym, ap, ◌∙◌}
use mathlib.Core.Bool.{Bool, true, false, cond}
use mathlib.Core.List.{List, [], ◌∷◌}
use lib.ListN.{get_or, replicate}
use lib.Dec.{eqb}
use borrow.Author.Tests.{eqb-true, eq-eqb, ne_eqb}
use Rattle.lists.specs.Tables.{put, total}
use Rattle.lists.proofs.Tables.{get_put, get_map}
use Rattle.rules.specs.State.{Limits, Counts, Processor, clock_of, with_clock, dirty_at, Marks, with_arrived, appended, State, clock, own, holder, has_arrived}
use Rattle.rules.specs.InOrder.{present, dirty_pages}
use Rattle.rules.specs.Lines.{lock_asked, lock_handed}
use Rattle.rules.specs.Close.{any_dirty, ticked, new_record, recorded, cleaned, closed}
use Rattle.rules.specs.Fetch.{with_copy, fetched}
use Rattle.rules.specs.Steps.{page_of_word, read, new_twin, twin_taken, stored, write, acquire, release, at_barrier, all_arrived, round_done, all_fetched, none_fetched, emptied, collected, wants_collection, arrive, want, with_new_job, without_oldest, enqueue, dequeue}
use Rattle.rules.specs.Refusals.{Step, Action, Read, Write, Acquire, Release, Arrive, Want, TallyAdd, TallyRead, Unknown, action_of, object_bound, fits, holds_any, late_refusal, refusal_by, refusal_in_order, effect, answer_in_order, next_in_order, answer, next, Enqueue, Dequeue}
use Rattle.rules.specs.Opening.{opened, Opening, opening_refusal}
use Rattle.rules.specs.Forecast.{Forecast, bare, own_for, forecast_refusal, dirty_for, closed_for, marks_for, written_for, round_for, collected_for, completed_for, barrier_for, forecast_after, forecast_next, opened_for, Figures, run_figures, forecast_figures}
use Rattle.rules.proofs.state.Fetches.{all_fetched_keep, all_fetched_counts, all_fetched_marks}
use Rattle.rules.proofs.inorder.Facts.{InOrder}
use Rattle.rules.proofs.inorder.KeptParts.{present_among, among_says, own_in, Parts, parts_of}
use Rattle.rules.proofs.inorder.KeptRounds.{own_ticked_same, own_ticked_other, entry_all_cleared}
use Rattle.rules.proofs.inorder.OwnEntries.{acquired_own, released_own, enqueued_own, dequeued_own, round_own, arrived_own}
use Rattle.rules.proofs.inorder.OpenedInOrder.{opened_own, opened_in_order, opening_counts}
use Rattle.rules.proofs.inorder.InOrderWhen.{in_order_when}
use Rattle.rules.proofs.inorder.Kept.{next_keeps_order}
use Rattle.rules.proofs.demand.ListRuns.{answer_refusal}
use Rattle.rules.proofs.inorder.Accepted.{Accepted, accepted_says, acquire_there, release_there, late_enqueue, late_dequeue}

-- what a forecast keeps of a state, with own entries as a list
unfoldable pub seen_in : State → List ℕ → Forecast
seen_in s e = record { counts = s.counts; entries = e; dirty = s.pages.dirty; standing = s.records.standing; marks = s.marks }

-- a forecast has what a state has
pub record Foretells (s : State) (f : Forecast) : Type 0 where
  pub same : f ≡ seen_in s f.entries
  pub own_entries_lem : (p : ℕ) → own_in s.clocks p ≡ get_or f.entries p 0

-- what is foretold of a state is foretold of what follows by the same step
goes_on : (s s' : State) (f : Forecast) (step : Forecast → Forecast) → Foretells s f
    → ((e : List ℕ) → ((p : ℕ) → own_in s.clocks p ≡ get_or e p 0) → Foretells s' (step (seen_in s e))) → Foretells s' (step f)
goes_on s s' f step h k = rw h.same (k f.entries h.own_entries_lem)

-- ---- refusals

module _ (lim : Limits) (s : State) (e : List ℕ) where
  bound_foretold : (a : Action) → object_bound lim s a ≡ object_bound lim (bare (seen_in s e)) a
  unfolding object_bound bare seen_in
  bound_foretold (Read w) = refl
  bound_foretold (Write w v) = refl
  bound_foretold (Acquire l) = refl
  bound_foretold (Release l) = refl
  bound_foretold Arrive = refl
  bound_foretold Want = refl
  bound_foretold (TallyAdd j x) = refl
  bound_foretold (TallyRead j) = refl
  bound_foretold (Enqueue v) = refl
  bound_foretold Dequeue = refl
  bound_foretold Unknown = refl

  late_foretold : (o p : ℕ) (a : Action) → late_refusal lim s o p a ≡ late_refusal lim (bare (seen_in s e)) o p a
  unfolding late_refusal holds_any dirty_pages dirty_at holder bare seen_in
  late_foretold o p (Read w) = refl
  late_foretold o p (Write w v) = refl
  late_foretold o p (Acquire l) = refl
  late_foretold o p (Release l) = refl
  late_foretold o p Arrive = refl
  late_foretold o p Want = refl
  late_foretold o p (TallyAdd j x) = refl
  late_foretold o p (TallyRead j) = refl
  late_foretold o p (Enqueue v) = refl
  late_foretold o p Dequeue = refl
  late_foretold o p Unknown = refl

  -- the table, given an own entry, looks at nothing else
  pub refusal_seen : (o : ℕ) (t : Step) → refusal_by lim s o t ≡ refusal_by lim (bare (seen_in s e)) o t
  unfolding refusal_by fits present has_arrived bare seen_in
  refusal_seen o t = rw (bound_foretold (action_of t), late_foretold o t.processor (action_of t)) refl

-- "its refusal ... must equal what the run itself has"
pub refusal_foretold : (lim : Limits) (s : State) (f : Forecast) (t : Step) → Foretells s f → refusal_in_order lim s t ≡ forecast_refusal lim f t
unfolding refusal_in_order forecast_refusal own_for own clock
refusal_foretold lim s f t h =
    refusal_seen lim s f.entries (own s t.processor) t
    ∙ ap (λ (o : ℕ). refusal_by lim (bare (seen_in s f.entries)) o t) (h.own_entries_lem t.processor)
    ∙ ap (λ (g : Forecast). refusal_by lim (bare g) (own_for f t.processor) t) (sym h.same)

-- "the records standing and the dirty pages after it"
pub standing_foretold : (s : State) (f : Forecast) → Foretells s f → s.records.standing ≡ f.standing
unfolding seen_in
standing_foretold s f h = sym (ap (λ (g : Forecast). g.standing) h.same)

pub dirty_foretold : (s : State) (f : Forecast) → Foretells s f → dirty_pages s ≡ dirty_for f
unfolding seen_in dirty_for dirty_pages dirty_at bare
dirty_foretold s f h = sym (ap dirty_for h.same)

-- ---- closing

pub recorded_standing : (s : State) (p n : ℕ) → (recorded s p n).standing ≡ s.records.standing + total n (λ g. cond (dirty_at s.pages p g) 1 0)
unfolding recorded total
recorded_standing s p zero = omega arith
recorded_standing s p (suc g) = go (dirty_at s.pages p g) (recorded_standing s p g)
  where
    go : (b : Bool) → (recorded s p g).standing ≡ s.records.standing + total g (λ i. cond (dirty_at s.pages p i) 1 0)
        → (cond b (appended (recorded s p g) (new_record s p g)) (recorded s p g)).standing ≡ s.records.standing + (total g (λ i. cond (dirty_at s.pages p i) 1 0) + cond b 1 0)
    go true k = unfold appended in omega (arith, k)
    go false k = omega (arith, k)

closed_foretold : (s : State) (e : List ℕ) (p : ℕ) → ((q : ℕ) → own_in s.clocks q ≡ get_or e q 0) → 1 ≤ p → Foretells (closed s p) (closed_for (seen_in s e) p)
unfolding closed closed_for seen_in bare any_dirty dirty_at cleaned own_for
closed_foretold s e p owns from =
    record {
      same = ap (λ (k : ℕ). record { counts = s.counts; entries = entries; dirty = (cleaned s.pages p).dirty; standing = k; marks = s.marks }) (sym (recorded_standing s p s.counts.pages));
      own_entries_lem = λ q. go q (any_dirty s p) (ℕ_discrete q p);
    }
  where
    entries : List ℕ
    entries = cond (any_dirty s p) (put 0 e p (get_or e p 0 + 1)) e

    go : (q : ℕ) (b : Bool) → Dec (q ≡ p) → own_in (cond b (ticked s p) s.clocks) q ≡ get_or (cond b (put 0 e p (get_or e p 0 + 1)) e) q 0
    go q true (yes d) = rw (d, get_put 0 e p p (get_or e p 0 + 1), eq-eqb p p refl) (omega (arith, own_ticked_same s p from, owns p))
    go q true (no d) = rw (get_put 0 e p q (get_or e p 0 + 1), ne_eqb q p d) (own_ticked_other s p q d ∙ owns q)
    go q false d = owns q

-- closing is foretold
pub close_foretold : (s : State) (f : Forecast) (p : ℕ) → Foretells s f → 1 ≤ p → Foretells (closed s p) (closed_for f p)
close_foretold s f p h from = goes_on s (closed s p) f (λ g. closed_for g p) h (λ e owns. closed_foretold s e p owns from)

-- ---- other clocks and marks

-- marks, and clocks that leave the own entries
moved_foretold : (s s' : State) (e : List ℕ) (m : Marks) → ((q : ℕ) → own_in s'.clocks q ≡ get_or e q 0) → seen_in s' e ≡ marks_for (seen_in s e) m → Foretells s' (marks_for (seen_in s e) m)
unfolding marks_for seen_in
moved_foretold s s' e m owns k = record { same = sym k; own_entries_lem = owns }

written_foretold : (lim : Limits) (s : State) (e : List ℕ) (p w v : ℕ) → ((q : ℕ) → own_in s.clocks q ≡ get_or e q 0) → Foretells (write lim s p w v).after (written_for lim (seen_in s e) p w)
unfolding write stored with_copy twin_taken new_twin fetched written_for seen_in bare dirty_at with_clock clock_of
written_foretold lim s e p w v owns = go (dirty_at s.pages p (page_of_word lim w))
  where
    go : (b : Bool)
        → Foretells
        (record { counts = s.counts; clocks = (fetched lim s p (page_of_word lim w)).clocks; pages = stored lim (cond b (fetched lim s p (page_of_word lim w)).pages (new_twin (fetched lim s p (page_of_word lim w)).pages p (page_of_word lim w))) p w v; records = s.records; marks = s.marks; shared = s.shared })
        (record { counts = s.counts; entries = e; dirty = cond b s.pages.dirty (new_twin s.pages p (page_of_word lim w)).dirty; standing = s.records.standing; marks = s.marks })
    go true = record { same = refl; own_entries_lem = owns }
    go false = record { same = refl; own_entries_lem = owns }

-- ---- locks

module _ (lim : Limits) (s : State) (p l : ℕ) (f : Parts lim s) (a : present_among s.counts p ≡ true) (there : l < s.counts.locks) where
  acquire_foretold : (e : List ℕ) → ((q : ℕ) → own_in s.clocks q ≡ get_or e q 0) → Foretells (acquire s p l) (forecast_after lim (seen_in s e) p (Acquire l))
  unfolding forecast_after acquire
  acquire_foretold e owns =
      goes_on (closed s p) (acquire s p l) (closed_for (seen_in s e) p) (λ g. marks_for g (lock_asked g.counts.processors g.marks l p)) (closed_foretold s e p owns (among_says s.counts p a).0)
      (λ e₁ owns₁. unfold seen_in marks_for in moved_foretold (closed s p) (acquire s p l) e₁ (lock_asked (closed s p).counts.processors (closed s p).marks l p) (λ q. acquired_own lim s p l f a there q ∙ owns₁ q) refl)

  release_foretold : (e : List ℕ) → ((q : ℕ) → own_in s.clocks q ≡ get_or e q 0) → Foretells (release s p l) (forecast_after lim (seen_in s e) p (Release l))
  unfolding forecast_after release
  release_foretold e owns =
      goes_on (closed s p) (release s p l) (closed_for (seen_in s e) p) (λ g. marks_for g (lock_handed g.counts.processors g.marks l)) (closed_foretold s e p owns (among_says s.counts p a).0)
      (λ e₁ owns₁. unfold seen_in marks_for in moved_foretold (closed s p) (release s p l) e₁ (lock_handed (closed s p).counts.processors (closed s p).marks l) (λ q. released_own lim s p l f a there q ∙ owns₁ q) refl)

-- ---- the queue

module _ (lim : Limits) (s : State) (p : ℕ) (f : Parts lim s) (a : present_among s.counts p ≡ true) where
  enqueue_foretold : (v : ℕ) (e : List ℕ) → s.marks.jobs < lim.jobs → ((q : ℕ) → own_in s.clocks q ≡ get_or e q 0) → Foretells (enqueue lim s p v) (forecast_after lim (seen_in s e) p (Enqueue v))
  unfolding forecast_after enqueue
  enqueue_foretold v e room owns =
      goes_on (closed s p) (enqueue lim s p v) (closed_for (seen_in s e) p) (λ g. marks_for g (with_new_job g.marks)) (closed_foretold s e p owns (among_says s.counts p a).0)
      (λ e₁ owns₁. unfold seen_in marks_for in moved_foretold (closed s p) (enqueue lim s p v) e₁ (with_new_job (closed s p).marks) (λ q. enqueued_own lim s p f a v room q ∙ owns₁ q) refl)

  dequeue_foretold : (e : List ℕ) → 0 < lim.jobs → ((q : ℕ) → own_in s.clocks q ≡ get_or e q 0) → Foretells (dequeue lim s p).after (forecast_after lim (seen_in s e) p Dequeue)
  unfolding forecast_after dequeue
  dequeue_foretold e some owns =
      goes_on (closed s p) (dequeue lim s p).after (closed_for (seen_in s e) p) (λ g. marks_for g (without_oldest lim g.marks)) (closed_foretold s e p owns (among_says s.counts p a).0)
      (λ e₁ owns₁. unfold seen_in marks_for in moved_foretold (closed s p) (dequeue lim s p).after e₁ (without_oldest lim (closed s p).marks) (λ q. dequeued_own lim s p f a some q ∙ owns₁ q) refl)

-- ---- the barrier

module _ (lim : Limits) (s : State) (p : ℕ) (f : Parts lim s) (a : present_among s.counts p ≡ true) where
  barrier_foretold : (e : List ℕ) → ((q : ℕ) → own_in s.clocks q ≡ get_or e q 0) → Foretells (at_barrier s p) (barrier_for (closed_for (seen_in s e) p) p)
  unfolding at_barrier
  barrier_foretold e owns =
      goes_on (closed s p) (at_barrier s p) (closed_for (seen_in s e) p) (λ g. barrier_for g p) (closed_foretold s e p owns (among_says s.counts p a).0)
      (λ e₁ owns₁. unfold seen_in marks_for barrier_for in moved_foretold (closed s p) (at_barrier s p) e₁ (with_arrived (closed s p).marks (put 0 (closed s p).marks.arrived p 1)) (λ q. arrived_own lim s p f a q ∙ owns₁ q) refl)

-- a completed round leaves the own entries as they were
round_foretold : (s : State) (e : List ℕ) → ((q : ℕ) → own_in s.clocks q ≡ get_or e q 0) → ((q : ℕ) → own_in (round_done s).clocks q ≡ own_in s.clocks q)
    → Foretells (round_done s) (round_for (seen_in s e))
unfolding round_done round_for marks_for seen_in
round_foretold s e owns kept = record { same = refl; own_entries_lem = λ q. kept q ∙ owns q }

all_fetched_dirty : (lim : Limits) (s : State) → (all_fetched lim s s.counts.processors).after.pages.dirty ≡ s.pages.dirty
unfolding fetched with_copy
all_fetched_dirty lim s = all_fetched_keep lim s (λ u. u.pages.dirty ≡ s.pages.dirty) (λ u p g h k l z. z) refl

collected_foretold : (lim : Limits) (s : State) (e : List ℕ) → Foretells (collected lim s).after (collected_for (seen_in s e))
unfolding collected emptied collected_for seen_in
collected_foretold lim s e =
    record {
      same = rw (all_fetched_counts lim s, all_fetched_marks lim s, all_fetched_dirty lim s) refl;
      own_entries_lem = λ q. entry_all_cleared (all_fetched lim s s.counts.processors).after.clocks (Processor q) q ∙ sym (get_map {B = ℕ} (λ x. 0) 0 e q);
    }

-- an arrival, its round completed or not
arrive_foretold : (lim : Limits) (s : State) (p : ℕ) → Parts lim s → present_among s.counts p ≡ true → (e : List ℕ) → ((q : ℕ) → own_in s.clocks q ≡ get_or e q 0)
    → Foretells (arrive lim s p).after (forecast_after lim (seen_in s e) p Arrive)
unfolding forecast_after arrive
arrive_foretold lim s p f a e owns =
    goes_on b (cond (all_arrived b) (cond (wants_collection b) (collected lim (round_done b)) (none_fetched (round_done b))) (none_fetched b)).after (barrier_for (closed_for (seen_in s e) p) p) completed_for
    (barrier_foretold lim s p f a e owns) (λ e₁ owns₁. unfold completed_for all_arrived has_arrived wants_collection bare seen_in in go e₁ owns₁ (all_arrived b) (wants_collection b))
  where
    b : State
    b = at_barrier s p

    go : (e₁ : List ℕ) → ((q : ℕ) → own_in b.clocks q ≡ get_or e₁ q 0) → (x y : Bool)
        → Foretells (cond x (cond y (collected lim (round_done b)) (none_fetched (round_done b))) (none_fetched b)).after
        (cond x (cond y (collected_for (round_for (seen_in b e₁))) (round_for (seen_in b e₁))) (seen_in b e₁))
    go e₁ owns₁ true true =
        goes_on (round_done b) (collected lim (round_done b)).after (round_for (seen_in b e₁)) collected_for (round_foretold b e₁ owns₁ (round_own lim s p f a)) (λ e₂ owns₂. collected_foretold lim (round_done b) e₂)
    go e₁ owns₁ true false = round_foretold b e₁ owns₁ (round_own lim s p f a)
    go e₁ owns₁ false y = record { same = unfold seen_in in refl; own_entries_lem = unfold seen_in in owns₁ }

-- ---- every step

effect_foretold : (lim : Limits) (s : State) (t : Step) (x : Action) → action_of t ≡ x → Parts lim s → Accepted lim s t → (e : List ℕ) → ((q : ℕ) → own_in s.clocks q ≡ get_or e q 0)
    → Foretells (effect lim s t.processor x).after (forecast_after lim (seen_in s e) t.processor x)
unfolding effect forecast_after present
effect_foretold lim s t (Read w) k f acc e owns = unfold read fetched with_copy with_clock clock_of seen_in in record { same = refl; own_entries_lem = owns }
effect_foretold lim s t (Write w v) k f acc e owns = written_foretold lim s e t.processor w v owns
effect_foretold lim s t (Acquire l) k f acc e owns = unfold forecast_after in acquire_foretold lim s t.processor l f acc.processor_present (acquire_there lim s t l k acc) e owns
effect_foretold lim s t (Release l) k f acc e owns = unfold forecast_after in release_foretold lim s t.processor l f acc.processor_present (release_there lim s t l k acc) e owns
effect_foretold lim s t Arrive k f acc e owns = unfold forecast_after in arrive_foretold lim s t.processor f acc.processor_present e owns
effect_foretold lim s t Want k f acc e owns = unfold want wants_collection marks_for bare seen_in in record { same = refl; own_entries_lem = owns }
effect_foretold lim s t (TallyAdd j v) k f acc e owns = unfold seen_in in record { same = refl; own_entries_lem = owns }
effect_foretold lim s t (TallyRead j) k f acc e owns = unfold seen_in in record { same = refl; own_entries_lem = owns }
effect_foretold lim s t (Enqueue v) k f acc e owns = unfold forecast_after in enqueue_foretold lim s t.processor f acc.processor_present v e (omega (arith, f.marks.few_jobs, late_enqueue lim s (own s t.processor) t.processor v (rw k at acc.not_late))) owns
effect_foretold lim s t Dequeue k f acc e owns = unfold forecast_after in dequeue_foretold lim s t.processor f acc.processor_present e (omega (arith, f.marks.few_jobs, late_dequeue lim s (own s t.processor) t.processor (rw k at acc.not_late))) owns
effect_foretold lim s t Unknown k f acc e owns = unfold seen_in in record { same = refl; own_entries_lem = owns }

-- what a forecast foretells of a state in order, it foretells of the next
pub next_foretold : (lim : Limits) (s : State) (f : Forecast) (t : Step) → InOrder lim s → Foretells s f → Foretells (next_in_order lim s t) (forecast_next lim f t)
unfolding next_in_order forecast_next
next_foretold lim s f t o h = rw (sym (refusal_foretold lim s f t h)) (go (eqb (refusal_in_order lim s t) 0) refl)
  where
    go : (b : Bool) → eqb (refusal_in_order lim s t) 0 ≡ b
        → Foretells (cond b (effect lim s t.processor (action_of t)).after s) (cond b (forecast_after lim f t.processor (action_of t)) f)
    go true z =
        goes_on s (effect lim s t.processor (action_of t)).after f (λ g. forecast_after lim g t.processor (action_of t)) h
        (effect_foretold lim s t (action_of t) refl (parts_of lim s o) (accepted_says lim s t (eqb-true (refusal_in_order lim s t) 0 z)))
    go false z = h

-- ---- every list of steps

-- a line's figures and those behind it, equal one by one
line_equal : (a b c a' b' c' : ℕ) (l l' : List Figures) → a ≡ a' → b ≡ b' → c ≡ c' → l ≡ l'
    → ◌≡◌ {A = List Figures} (record { refusal = a; standing = b; dirty = c } ∷ l) (record { refusal = a'; standing = b'; dirty = c' } ∷ l')
line_equal a b c a' b' c' l l' e f g h = rw (e, f, g, h) refl

figures_foretold : (lim : Limits) (s : State) (f : Forecast) (ts : List Step) → InOrder lim s → Foretells s f → run_figures lim s ts ≡ forecast_figures lim f ts
unfolding run_figures forecast_figures answer next
figures_foretold lim s f [] o h = refl
figures_foretold lim s f (t ∷ ts) o h =
    let k = next_foretold lim s f t o h in
    rw (in_order_when lim s o)
    (line_equal (answer_in_order lim s t).refusal (next_in_order lim s t).records.standing (dirty_pages (next_in_order lim s t)) (forecast_refusal lim f t)
    (forecast_next lim f t).standing (dirty_for (forecast_next lim f t)) (run_figures lim (next_in_order lim s t) ts) (forecast_figures lim (forecast_next lim f t) ts)
    (answer_refusal lim s t ∙ refusal_foretold lim s f t h) (standing_foretold (next_in_order lim s t) (forecast_next lim f t) k)
    (dirty_foretold (next_in_order lim s t) (forecast_next lim f t) k)
    (figures_foretold lim (next_in_order lim s t) (forecast_next lim f t) ts (next_keeps_order lim s t o) k))

-- a row of zeros has 0 at every place
zero_entries : (n p : ℕ) → get_or (replicate {A = ℕ} n 0) p 0 ≡ 0
zero_entries zero p = refl
zero_entries (suc n) zero = refl
zero_entries (suc n) (suc p) = zero_entries n p

pub opened_foretold : (lim : Limits) (c : Counts) → Foretells (opened lim c) (opened_for lim c)
unfolding opened opened_for seen_in
opened_foretold lim c = record { same = refl; own_entries_lem = λ p. none p ∙ sym (zero_entries (suc lim.processors) p) }
  where
    none : (p : ℕ) → own_in (opened lim c).clocks p ≡ 0
    none p = unfold own clock in opened_own lim c p

-- "These must equal what the run itself has, for every file": of every accepted opening and every list of steps
pub forecast_is_the_run : (lim : Limits) (o : Opening) → opening_refusal lim o ≡ 0 → (ts : List Step) → run_figures lim (opened lim o.counts) ts ≡ forecast_figures lim (opened_for lim o.counts) ts
forecast_is_the_run lim o accepted ts =
    figures_foretold lim (opened lim o.counts) (opened_for lim o.counts) ts (opened_in_order lim o.counts (opening_counts lim o accepted)) (opened_foretold lim o.counts)
