-- Every accepted step keeps the state in order, from every state in order. Of the Kept files read this one first. Rests on Accepted and
-- KeptBarrier. Assumes nothing.
use Prim.Native.Nat.{ℕ, ◌+◌, ◌≤◌, ◌<◌}
use native.Mathlib.Omega.{arith}
use mathlib.Core.Path.{◌≡◌, refl, sym, ◌∙◌}
use mathlib.Core.Bool.{Bool, true, false, cond, false≢true}
use lib.Dec.{eqb}
use borrow.Author.Tests.{eqb-true, eqb-false}
use Rattle.rules.specs.State.{Limits, dirty_at, State, clock, own, holder, has_arrived}
use Rattle.rules.specs.InOrder.{present, dirty_pages}
use Rattle.rules.specs.Steps.{page_of_word, read}
use Rattle.rules.specs.Refusals.{Step, Action, Read, Write, Acquire, Release, Arrive, Want, TallyAdd, TallyRead, Enqueue, Dequeue, Unknown, action_of, late_refusal, refusal_in_order, effect, next_in_order}
use Rattle.rules.proofs.inorder.Facts.{InOrder}
use Rattle.rules.proofs.inorder.KeptParts.{Parts, parts_of, in_order_of}
use Rattle.rules.proofs.inorder.Accepted.{add_there, Accepted, accepted_says, read_on_page, write_on_page, acquire_there, release_there, late_acquire, late_arrive, late_enqueue, late_dequeue}
use Rattle.rules.proofs.inorder.KeptQueue.{enqueue_parts, dequeue_parts}
use Rattle.rules.specs.Tallies.{tally_added}
use Rattle.rules.proofs.inorder.KeptShared.{shared_changed, added_in_order}
use Rattle.rules.proofs.inorder.KeptFetch.{fetched_parts, MayDirty, write_parts}
use Rattle.rules.proofs.inorder.KeptLocks.{acquire_parts, release_parts, want_parts}
use Rattle.rules.proofs.inorder.KeptBarrier.{arrive_parts}

-- a write that is refused neither for intervals nor for room
may_dirty : (lim : Limits) (s : State) (p w v : ℕ) → Parts lim s → late_refusal lim s (own s p) p (Write w v) ≡ 0 → MayDirty lim s p (page_of_word lim w)
unfolding late_refusal own clock dirty_pages
may_dirty lim s p w v f e = go (dirty_at s.pages p (page_of_word lim w)) (eqb (own s p) lim.intervals) (eqb (s.records.standing + dirty_pages s) lim.records) refl refl refl e
  where
    go : (a b c : Bool) → dirty_at s.pages p (page_of_word lim w) ≡ a → eqb (own s p) lim.intervals ≡ b → eqb (s.records.standing + dirty_pages s) lim.records ≡ c
        → ◌≡◌ {A = ℕ} (cond a 0 (cond b 9 (cond c 10 0))) 0 → MayDirty lim s p (page_of_word lim w)
    go true b c x y z e = record { interval_left = λ d. absurd (both d x); room_left = λ d. absurd (both d x) }
      where
        both : dirty_at s.pages p (page_of_word lim w) ≡ false → dirty_at s.pages p (page_of_word lim w) ≡ true → ⊥
        both d x = let t : ◌≡◌ {A = Bool} false true = sym d ∙ x in false≢true t
    go false true c x y z e = absurd (omega arith)
    go false false true x y z e = absurd (omega arith)
    go false false false x y z e =
        let no_interval = eqb-false (own s p) lim.intervals y in
        let no_room = eqb-false (s.records.standing + dirty_pages s) lim.records z in
        record {
          interval_left = λ d. lt_of_le_of_ne (f.clocks.own_fits_lem p) no_interval;
          room_left = λ d. lt_of_le_of_ne f.room no_room;
        }
      where
        lt_of_le_of_ne : {a b : ℕ} → a ≤ b → (a ≡ b → ⊥) → a < b
        lt_of_le_of_ne h k = omega (arith, h, k)

effect_parts : (lim : Limits) (s : State) (t : Step) (a : Action) → action_of t ≡ a → Parts lim s → Accepted lim s t → Parts lim (effect lim s t.processor a).after
unfolding effect read present
effect_parts lim s t (Read w) e f acc =
    fetched_parts lim s t.processor (page_of_word lim w) f (record { counts = f.counts; processor = acc.processor_present; page = read_on_page lim s t w e acc })
effect_parts lim s t (Write w v) e f acc =
    write_parts lim s t.processor w v f (record { counts = f.counts; processor = acc.processor_present; page = write_on_page lim s t w v e acc })
    (may_dirty lim s t.processor w v f (rw e at acc.not_late))
effect_parts lim s t (Acquire i) e f acc =
    acquire_parts lim s t.processor i f acc.processor_present (acquire_there lim s t i e acc) acc.not_waiting (unfold has_arrived in acc.not_arrived)
    (unfold holder in late_acquire lim s (own s t.processor) t.processor i (rw e at acc.not_late))
effect_parts lim s t (Release i) e f acc = release_parts lim s t.processor i f acc.processor_present (release_there lim s t i e acc)
effect_parts lim s t Arrive e f acc =
    arrive_parts lim s t.processor f acc.processor_present acc.not_waiting (late_arrive lim s (own s t.processor) t.processor (rw e at acc.not_late))
effect_parts lim s t Want e f acc = want_parts lim s f
effect_parts lim s t (TallyAdd j v) e f acc =
    shared_changed lim s (tally_added s.shared t.processor j v) f
    (added_in_order lim s.counts s.shared t.processor j v f.counts f.shared acc.processor_present (add_there lim s t j v e acc))
effect_parts lim s t (TallyRead j) e f acc = f
effect_parts lim s t (Enqueue j) e f acc = enqueue_parts lim s t.processor j f acc.processor_present (late_enqueue lim s (own s t.processor) t.processor j (rw e at acc.not_late))
effect_parts lim s t Dequeue e f acc = dequeue_parts lim s t.processor f acc.processor_present (late_dequeue lim s (own s t.processor) t.processor (rw e at acc.not_late))
effect_parts lim s t Unknown e f acc = f

-- what an accepted step does keeps order
pub effect_keeps_order : (lim : Limits) (s : State) (t : Step) → InOrder lim s → refusal_in_order lim s t ≡ 0 → InOrder lim (effect lim s t.processor (action_of t)).after
effect_keeps_order lim s t f e =
    in_order_of lim (effect lim s t.processor (action_of t)).after (effect_parts lim s t (action_of t) refl (parts_of lim s f) (accepted_says lim s t e))

-- every step, accepted or refused, keeps order
pub next_keeps_order : (lim : Limits) (s : State) (t : Step) → InOrder lim s → InOrder lim (next_in_order lim s t)
unfolding next_in_order
next_keeps_order lim s t f = go (eqb (refusal_in_order lim s t) 0) refl
  where
    go : (b : Bool) → eqb (refusal_in_order lim s t) 0 ≡ b → InOrder lim (cond b (effect lim s t.processor (action_of t)).after s)
    go true e = effect_keeps_order lim s t f (eqb-true (refusal_in_order lim s t) 0 e)
    go false e = f
