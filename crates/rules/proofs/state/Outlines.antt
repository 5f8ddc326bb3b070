-- What is left of a state without the contents of words, twins and diffs, and of a step without the value that its kind uses: every refusal, and the same of
-- the state after a step, depend on that alone. Assumes nothing.
use Prim.Native.Nat.{ℕ, zero, suc, ◌+◌, ◌-◌}
use mathlib.Core.Path.{◌≡◌, refl, sym, ap, ◌∙◌}
use mathlib.Core.Bool.{Bool, true, false, cond}
use mathlib.Core.List.{[]}
use lib.Dec.{eqb}
use Rattle.lists.specs.Tables.{put}
use Rattle.rules.specs.State.{Limits, Processor, Lock, Barrier, with_arrived, Pages, dirty_at, appended, State, with_clocks, with_pages, with_marks, clock, own, holder, has_arrived, Job, clock_of, with_clock, with_queue}
use Rattle.rules.specs.InOrder.{present, dirty_pages}
use Rattle.rules.specs.Lines.{first_in_line, lock_asked, lock_handed}
use Rattle.rules.specs.Close.{any_dirty, ticked, new_record, recorded, cleaned, closed}
use Rattle.rules.specs.Fetch.{with_copy, fetched}
use Rattle.rules.specs.Steps.{page_of_word, read, new_twin, twin_taken, stored, write, learned, acquire, lock_told, waiter_told, release, at_barrier, all_arrived, round_done, pages_fetched, all_fetched, none_fetched, emptied, collected, wants_collection, arrive, want, tally_add, place_behind, free_place, enqueue, dequeue}
use Rattle.rules.proofs.state.WithoutValue.{without_value_lem}
use Rattle.rules.specs.Noted.{Outline, outline, without_value}
use Rattle.rules.specs.Refusals.{Step, step_of, Action, Read, Write, Acquire, Release, Arrive, Want, TallyAdd, TallyRead, Enqueue, Dequeue, Unknown, action_of, object_bound, uses_value, fits, holds_any, late_refusal, refusal_by, refusal_in_order, effect, next_in_order}

-- a state with an outline, and nothing in its pages and slots
unfoldable blank : Outline → State
blank o =
    record {
      counts = o.counts;
      clocks = o.clocks;
      pages = record { copies = []; twins = []; dirty = o.dirty };
      records = record { standing = o.standing; slots = [] };
      marks = o.marks;
      shared = record { posted = []; adds = []; values = [] };
    }

-- a change of states that reads outlines alone
abbrev ByOutline : (State → State) → Type 0
ByOutline f = (s : State) → outline (f s) ≡ outline (f (blank (outline s)))

both_by_outline : (f g : State → State) (s : State) → outline (f s) ≡ outline (f (blank (outline s))) → ByOutline g → outline (g (f s)) ≡ outline (g (f (blank (outline s))))
both_by_outline f g s e h = h (f s) ∙ ap (λ (o : Outline). outline (g (blank o))) e ∙ sym (h (f (blank (outline s))))

-- ---- what steps are made of

fetched_by_outline : (lim : Limits) (p g : ℕ) → ByOutline (λ s. fetched lim s p g)
unfolding outline blank fetched with_copy clock
fetched_by_outline lim p g s = refl

recorded_standing : (s : State) (p n : ℕ) → (recorded s p n).standing ≡ (recorded (blank (outline s)) p n).standing
unfolding recorded outline blank dirty_at
recorded_standing s p zero = refl
recorded_standing s p (suc g) = go (dirty_at s.pages p g) (recorded_standing s p g)
  where
    go : (b : Bool) → (recorded s p g).standing ≡ (recorded (blank (outline s)) p g).standing
        → (cond b (appended (recorded s p g) (new_record s p g)) (recorded s p g)).standing
        ≡ (cond b (appended (recorded (blank (outline s)) p g) (new_record (blank (outline s)) p g)) (recorded (blank (outline s)) p g)).standing
    go true e = unfold appended in ap (λ (k : ℕ). k + 1) e
    go false e = e

closed_by_outline : (p : ℕ) → ByOutline (λ s. closed s p)
unfolding outline blank closed any_dirty ticked clock own cleaned dirty_at
closed_by_outline p s =
    ap (λ (k : ℕ). record { counts = s.counts; clocks = (closed s p).clocks; dirty = (closed s p).pages.dirty; standing = k; marks = s.marks })
    (recorded_standing s p s.counts.pages)

written_by_outline : (lim : Limits) (p w v : ℕ) → ByOutline (λ s. with_pages s (stored lim (twin_taken s.pages p (page_of_word lim w)) p w v))
unfolding outline blank stored with_copy twin_taken new_twin dirty_at
written_by_outline lim p w v s = go (dirty_at s.pages p (page_of_word lim w))
  where
    empty : Pages
    empty = record { copies = []; twins = []; dirty = s.pages.dirty }

    go : (b : Bool)
        → ◌≡◌ {A = Outline} (record { counts = s.counts; clocks = s.clocks; dirty = (cond b s.pages (new_twin s.pages p (page_of_word lim w))).dirty; standing = s.records.standing; marks = s.marks })
        (record { counts = s.counts; clocks = s.clocks; dirty = (cond b empty (new_twin empty p (page_of_word lim w))).dirty; standing = s.records.standing; marks = s.marks })
    go true = refl
    go false = unfold new_twin in refl

pages_by_outline : (lim : Limits) (p n : ℕ) → ByOutline (λ s. (pages_fetched lim s p n).after)
unfolding pages_fetched
pages_by_outline lim p zero s = unfold outline blank in refl
pages_by_outline lim p (suc g) s = both_by_outline (λ x. (pages_fetched lim x p g).after) (λ x. fetched lim x p g) s (pages_by_outline lim p g s) (fetched_by_outline lim p g)

all_by_outline : (lim : Limits) (n : ℕ) → ByOutline (λ s. (all_fetched lim s n).after)
unfolding all_fetched outline blank
all_by_outline lim zero s = refl
all_by_outline lim (suc k) s = both_by_outline (λ x. (all_fetched lim x k).after) (λ x. (pages_fetched lim x (suc k) s.counts.pages).after) s (all_by_outline lim k s) (pages_by_outline lim (suc k) s.counts.pages)

emptied_by_outline : ByOutline emptied
unfolding outline blank emptied
emptied_by_outline s = refl

collected_by_outline : (lim : Limits) → ByOutline (λ s. (collected lim s).after)
unfolding collected outline blank
collected_by_outline lim s = both_by_outline (λ x. (all_fetched lim x s.counts.processors).after) emptied s (all_by_outline lim s.counts.processors s) emptied_by_outline

-- ---- the steps

round_by_outline : ByOutline round_done
unfolding outline blank round_done
round_by_outline s = refl

-- when the barrier has learned and the mark is set
module _ (lim : Limits) where
  unfoldable completed : State → State
  completed s = cond (all_arrived s) (cond (wants_collection s) (collected lim (round_done s)).after (round_done s)) s

  completed_by_outline : ByOutline completed
  unfolding completed all_arrived has_arrived wants_collection outline blank
  completed_by_outline s = go (all_arrived s) (wants_collection s)
    where
      go : (a b : Bool)
          → outline (cond a (cond b (collected lim (round_done s)).after (round_done s)) s)
          ≡ outline (cond a (cond b (collected lim (round_done (blank (outline s)))).after (round_done (blank (outline s)))) (blank (outline s)))
      go true true = both_by_outline round_done (λ x. (collected lim x).after) s (round_by_outline s) (collected_by_outline lim)
      go true false = round_by_outline s
      go false b = unfold outline blank in refl

after_acquire : (l p : ℕ) → ByOutline (λ s. acquire s p l)
unfolding acquire holder outline blank
after_acquire l p s =
    both_by_outline (λ x. closed x p)
    (λ x. with_clocks (with_marks x (lock_asked x.counts.processors x.marks l p)) (cond (eqb (holder x l) 0) (learned x.clocks (Processor p) (Lock l)) x.clocks)) s
    (closed_by_outline p s) (λ x. refl)

after_release : (l p : ℕ) → ByOutline (λ s. release s p l)
unfolding release outline blank
after_release l p s =
    both_by_outline (λ x. closed x p)
    (λ x. with_clocks (with_marks x (lock_handed x.counts.processors x.marks l)) (waiter_told (lock_told x.clocks p l) (first_in_line x.counts.processors x.marks l) l)) s
    (closed_by_outline p s) (λ x. refl)

after_barrier : (p : ℕ) → ByOutline (λ s. at_barrier s p)
unfolding at_barrier outline blank
after_barrier p s =
    both_by_outline (λ x. closed x p)
    (λ x. with_marks (with_clocks x (learned x.clocks Barrier (Processor p))) (with_arrived x.marks (put 0 x.marks.arrived p 1))) s
    (closed_by_outline p s) (λ x. refl)

arrive_completed : (lim : Limits) (s : State) (p : ℕ) → (arrive lim s p).after ≡ completed lim (at_barrier s p)
unfolding arrive completed
arrive_completed lim s p = go (all_arrived (at_barrier s p)) (wants_collection (at_barrier s p))
  where
    go : (a b : Bool)
        → (cond a (cond b (collected lim (round_done (at_barrier s p))) (none_fetched (round_done (at_barrier s p)))) (none_fetched (at_barrier s p))).after
        ≡ cond a (cond b (collected lim (round_done (at_barrier s p))).after (round_done (at_barrier s p))) (at_barrier s p)
    go true true = refl
    go true false = refl
    go false b = refl

after_arrive : (lim : Limits) (p : ℕ) → ByOutline (λ s. (arrive lim s p).after)
after_arrive lim p s = rw (arrive_completed lim s p, arrive_completed lim (blank (outline s)) p) (both_by_outline (λ x. at_barrier x p) (completed lim) s (after_barrier p s) (completed_by_outline lim))

after_enqueue : (lim : Limits) (v p : ℕ) → ByOutline (λ s. enqueue lim s p v)
unfolding enqueue free_place outline blank
after_enqueue lim v p s =
    both_by_outline (λ x. closed x p)
    (λ x. with_marks (with_clocks x (with_clock x.clocks (Job (free_place lim x)) (clock_of x.clocks (Processor p)))) (with_queue x.marks x.marks.first (x.marks.jobs + 1))) s
    (closed_by_outline p s) (λ x. refl)

after_dequeue : (lim : Limits) (p : ℕ) → ByOutline (λ s. (dequeue lim s p).after)
unfolding dequeue outline blank
after_dequeue lim p s =
    both_by_outline (λ x. closed x p)
    (λ x. with_marks (with_clocks x (learned x.clocks (Processor p) (Job x.marks.first))) (with_queue x.marks (place_behind lim x.marks.first) (x.marks.jobs - 1))) s
    (closed_by_outline p s) (λ x. refl)

effect_by_outline : (lim : Limits) (p : ℕ) (a : Action) → ByOutline (λ s. (effect lim s p a).after)
unfolding effect
effect_by_outline lim p (Read w) s = unfold read in fetched_by_outline lim p (page_of_word lim w) s
effect_by_outline lim p (Write w v) s = unfold write in both_by_outline (λ x. fetched lim x p (page_of_word lim w)) (λ x. with_pages x (stored lim (twin_taken x.pages p (page_of_word lim w)) p w v)) s (fetched_by_outline lim p (page_of_word lim w) s) (written_by_outline lim p w v)
effect_by_outline lim p (Acquire l) s = after_acquire l p s
effect_by_outline lim p (Release l) s = after_release l p s
effect_by_outline lim p Arrive s = after_arrive lim p s
effect_by_outline lim p Want s = unfold want wants_collection outline blank in refl
effect_by_outline lim p (TallyAdd j x) s = unfold want wants_collection outline blank in refl
effect_by_outline lim p (TallyRead j) s = unfold want wants_collection outline blank in refl
effect_by_outline lim p (Enqueue j) s = after_enqueue lim j p s
effect_by_outline lim p Dequeue s = after_dequeue lim p s
effect_by_outline lim p Unknown s = unfold outline blank in refl

-- ---- the refusals

late_by_outline : (lim : Limits) (s : State) (e p : ℕ) (a : Action) → late_refusal lim s e p a ≡ late_refusal lim (blank (outline s)) e p a
unfolding late_refusal holds_any dirty_pages dirty_at holder outline blank
late_by_outline lim s e p (Read w) = refl
late_by_outline lim s e p (Write w v) = refl
late_by_outline lim s e p (Acquire l) = refl
late_by_outline lim s e p (Release l) = refl
late_by_outline lim s e p Arrive = refl
late_by_outline lim s e p Want = refl
late_by_outline lim s e p (TallyAdd j x) = refl
late_by_outline lim s e p (TallyRead j) = refl
late_by_outline lim s e p (Enqueue j) = refl
late_by_outline lim s e p Dequeue = refl
late_by_outline lim s e p Unknown = refl

bound_by_outline : (lim : Limits) (s : State) (a : Action) → object_bound lim s a ≡ object_bound lim (blank (outline s)) a
unfolding object_bound outline blank
bound_by_outline lim s (Read w) = refl
bound_by_outline lim s (Write w v) = refl
bound_by_outline lim s (Acquire l) = refl
bound_by_outline lim s (Release l) = refl
bound_by_outline lim s Arrive = refl
bound_by_outline lim s Want = refl
bound_by_outline lim s (TallyAdd j x) = refl
bound_by_outline lim s (TallyRead j) = refl
bound_by_outline lim s (Enqueue j) = refl
bound_by_outline lim s Dequeue = refl
bound_by_outline lim s Unknown = refl

refused_by_outline : (lim : Limits) (s : State) (t : Step) → refusal_in_order lim s t ≡ refusal_in_order lim (blank (outline s)) t
unfolding refusal_in_order refusal_by fits present has_arrived own clock outline blank
refused_by_outline lim s t = rw (bound_by_outline lim s (action_of t), late_by_outline lim s (own s t.processor) t.processor (action_of t)) refl

-- ---- alike

-- states alike but for words, twins and diffs refuse every step alike
pub refused_alike : (lim : Limits) (s s' : State) (t : Step) → outline s ≡ outline s' → refusal_in_order lim s t ≡ refusal_in_order lim s' t
refused_alike lim s s' t e = refused_by_outline lim s t ∙ ap (λ (o : Outline). refusal_in_order lim (blank o) t) e ∙ sym (refused_by_outline lim s' t)

-- and are alike after it
pub next_alike : (lim : Limits) (s s' : State) (t : Step) → outline s ≡ outline s' → outline (next_in_order lim s t) ≡ outline (next_in_order lim s' t)
unfolding next_in_order
next_alike lim s s' t e = rw (refused_alike lim s s' t e) (go (eqb (refusal_in_order lim s' t) 0))
  where
    go : (b : Bool) → outline (cond b (effect lim s t.processor (action_of t)).after s) ≡ outline (cond b (effect lim s' t.processor (action_of t)).after s')
    go true =
        effect_by_outline lim t.processor (action_of t) s ∙ ap (λ (o : Outline). outline (effect lim (blank o) t.processor (action_of t)).after) e
        ∙ sym (effect_by_outline lim t.processor (action_of t) s')
    go false = e

-- ---- the value of a step

module _ (lim : Limits) (s : State) where
  write_refused : (p w v : ℕ) → refusal_in_order lim s (step_of 2 p w v) ≡ refusal_in_order lim s (step_of 2 p w 0)
  unfolding step_of refusal_in_order refusal_by fits uses_value action_of object_bound late_refusal
  write_refused p w v = refl

  add_refused : (p t v : ℕ) → refusal_in_order lim s (step_of 8 p t v) ≡ refusal_in_order lim s (step_of 8 p t 0)
  unfolding step_of refusal_in_order refusal_by fits uses_value action_of object_bound late_refusal
  add_refused p t v = refl

  enqueue_refused : (p o v : ℕ) → refusal_in_order lim s (step_of 10 p o v) ≡ refusal_in_order lim s (step_of 10 p o 0)
  unfolding step_of refusal_in_order refusal_by fits uses_value action_of object_bound late_refusal
  enqueue_refused p o v = refl

  write_alike : (p w v : ℕ) → outline (next_in_order lim s (step_of 2 p w v)) ≡ outline (next_in_order lim s (step_of 2 p w 0))
  unfolding next_in_order step_of action_of effect
  write_alike p w v = rw (write_refused p w v) (go (eqb (refusal_in_order lim s (step_of 2 p w 0)) 0))
    where
      go : (b : Bool) → outline (cond b (write lim s p w v).after s) ≡ outline (cond b (write lim s p w 0).after s)
      go true = unfold outline write stored with_copy in refl
      go false = refl

  add_alike : (p t v : ℕ) → outline (next_in_order lim s (step_of 8 p t v)) ≡ outline (next_in_order lim s (step_of 8 p t 0))
  unfolding next_in_order step_of action_of effect
  add_alike p t v = rw (add_refused p t v) (go (eqb (refusal_in_order lim s (step_of 8 p t 0)) 0))
    where
      go : (b : Bool) → outline (cond b (tally_add s p t v) s) ≡ outline (cond b (tally_add s p t 0) s)
      go true = unfold outline in refl
      go false = refl

  enqueue_alike : (p o v : ℕ) → outline (next_in_order lim s (step_of 10 p o v)) ≡ outline (next_in_order lim s (step_of 10 p o 0))
  unfolding next_in_order step_of action_of effect
  enqueue_alike p o v = rw (enqueue_refused p o v) (go (eqb (refusal_in_order lim s (step_of 10 p o 0)) 0))
    where
      go : (b : Bool) → outline (cond b (enqueue lim s p v) s) ≡ outline (cond b (enqueue lim s p 0) s)
      go true = unfold outline enqueue in refl
      go false = refl

  -- a step is refused like the one without its value
  pub value_refused : (t : Step) → refusal_in_order lim s t ≡ refusal_in_order lim s (without_value t)
  value_refused = without_value_lem (refusal_in_order lim s) write_refused add_refused enqueue_refused

  -- and leaves a state alike
  pub value_alike : (t : Step) → outline (next_in_order lim s t) ≡ outline (next_in_order lim s (without_value t))
  value_alike = without_value_lem (λ t. outline (next_in_order lim s t)) write_alike add_alike enqueue_alike
