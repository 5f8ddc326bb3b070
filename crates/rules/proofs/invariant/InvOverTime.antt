-- The invariant at every time of a run whose writes to w are ordered. Rests on NumbersFollow, WordsFit, InvWrite, InvArrive and InvClose.
-- Assumes nothing.
use Prim.Native.Nat.{ℕ, zero, suc, ◌≤◌, ◌<◌}
use native.Mathlib.Omega.{arith}
use native.Mathlib.Decide.{ℕ_discrete}
use native.Mathlib.Nat.{mod-lt}
use mathlib.Core.Path.{◌≡◌, refl, sym, ap, subst}
use mathlib.Core.Bool.{false}
use mathlib.Core.Logic.{inl, inr}
use mathlib.Core.List.{List}
use lib.ListN.{length}
use borrow.Author.Tests.{eq-eqb, ne_eqb}
use Rattle.clock.specs.Clocks.{entry_of}
use Rattle.rules.specs.State.{Limits, Counts, Processor, Applied, clock_of, copy_of, records_of, State, standing}
use Rattle.rules.specs.Lines.{waits}
use Rattle.rules.specs.Opening.{opened}
use Rattle.rules.specs.Close.{closed}
use Rattle.rules.specs.Fetch.{fetched}
use Rattle.rules.specs.Steps.{page_of_word, offset_of_word, read, write, want}
use Rattle.rules.specs.Tallies.{tally_added}
use Rattle.rules.specs.Refusals.{Action, Read, Write, Acquire, Release, Arrive, Want, Unknown, effect, TallyAdd, TallyRead, Enqueue, Dequeue}
use Rattle.rules.specs.Order.{Event, event_at, Took, Before, Ordered}
use Rattle.rules.specs.Demand.{value_field, EarlierWrite}
use Rattle.rules.proofs.inorder.KindsOfSteps.{known_action}
use Rattle.rules.proofs.inorder.Facts.{whole_copy}
use Rattle.rules.proofs.inorder.OpenedInOrder.{opened_word, opened_clean}
use Rattle.rules.proofs.inorder.Accepted.{Accepted, read_on_page, write_on_page, acquire_there, release_there}
use Rattle.rules.proofs.order.Timeline.{Timeline, Moment, Refused, Taken, moment, counts_stay}
use Rattle.rules.proofs.order.Ghosts.{Ghost, no_ghost, closed_ghost, ghost_after, ghost_at, ghost_refused, ghost_taken}
use Rattle.rules.proofs.StrictOrder.{before_goes_forward}
use Rattle.rules.proofs.order.ActionKinds.{write_no_acquire, write_no_dequeue}
use Rattle.rules.proofs.order.MarksAfter.{rests_in, rests}
use Rattle.rules.proofs.order.Allowed.{Allowed, took_allowed}
use Rattle.rules.proofs.order.Numbers.{knowing, known_at_most_writes}
use Rattle.rules.proofs.order.NumbersFollow.{knows_all_writes}
use Rattle.rules.proofs.word.FetchedWord.{fetched_length, fetched_current}
use Rattle.rules.proofs.word.WordsFit.{copy_words_fit}
use Rattle.rules.proofs.invariant.Invariant.{Inv}
use Rattle.rules.proofs.invariant.InvSame.{shared_aside}
use Rattle.rules.proofs.invariant.InvEmpty.{inv_without_records}
use Rattle.rules.proofs.invariant.InvFetch.{fetch_keeps}
use Rattle.rules.proofs.invariant.InvWrite.{store_elsewhere_keeps, store_there_keeps}
use Rattle.rules.proofs.invariant.InvLocks.{acquire_keeps, release_keeps}
use Rattle.rules.proofs.invariant.InvQueue.{enqueue_keeps, dequeue_keeps}
use Rattle.rules.proofs.invariant.InvArrive.{arrive_keeps}
use Rattle.rules.proofs.invariant.InvClose.{close_keeps}

-- ---- at the opening

opened_inv : (lim : Limits) (c : Counts) (g o : ℕ) → Inv lim.words g o (opened lim c) no_ghost
unfolding standing records_of opened
opened_inv lim c g o =
    inv_without_records lim.words g o (opened lim c) no_ghost refl refl refl (λ q h k. opened_clean lim q g) (λ q h k. opened_word lim q g o)

-- ---- fields of an accepted read or write

pub offset_in_page : (lim : Limits) (x : ℕ) → 0 < lim.words → offset_of_word lim x < lim.words
unfolding offset_of_word
offset_in_page lim x h = mod-lt x h

module _ (lim : Limits) (c : Counts) (es : List Event) (r : Timeline lim c es) (w : ℕ) where
  abbrev g : ℕ
  g = page_of_word lim w

  abbrev o : ℕ
  o = offset_of_word lim w

  abbrev ghost : ℕ → Ghost
  ghost t = ghost_at lim c es r w t

  in_page : o < lim.words
  in_page = offset_in_page lim w r.words_there

  -- the invariant at time t
  abbrev pub InvAt : ℕ → Type 0
  InvAt t = Inv lim.words (page_of_word lim w) (offset_of_word lim w) (r.state t) (ghost_at lim c es r w t)

  -- every two writes to w before j by different processors are ordered
  abbrev pub WritesOrdered : ℕ → Type 0
  WritesOrdered j = (i k p q u v : ℕ) → EarlierWrite es w j i p u → EarlierWrite es w j k q v → (p ≡ q → ⊥) → Ordered c.processors es i k

  -- so an earlier write by another is before a write
  write_before_write : (j t p v : ℕ) → WritesOrdered j → t < j → Took es t p (Write w v) → (i q u : ℕ) → EarlierWrite es w t i q u → (q ≡ p → ⊥)
      → Before c.processors es i t
  unfolding Ordered
  write_before_write j t p v ordered less took i q u e d =
      forward (ordered i t q p u v (record { wrote = e.wrote; earlier = omega (arith, e.earlier, less) }) (record { wrote = took; earlier = less }) d)
    where
      forward : Ordered c.processors es i t → Before c.processors es i t
      forward (inl b) = b
      forward (inr b) = absurd (omega (arith, before_goes_forward c.processors es t i b, e.earlier))

  -- ---- one step

  module _ (t p : ℕ) (h : 1 ≤ p) (k : p ≤ (r.state t).counts.processors) (inv : InvAt t) where
    abbrev s : State
    s = r.state t

    -- after the fetch of a page the applied clock is the processor's
    current : (x : ℕ) (q : ℕ) → entry_of (clock_of (fetched lim s p x).clocks (Applied p x)) q ≡ entry_of (clock_of (fetched lim s p x).clocks (Processor p)) q
    current x q = ap (λ (v : List ℕ). entry_of v q) (fetched_current lim s p x)

    pub read_keeps : (x : ℕ) → page_of_word lim x < s.counts.pages → Inv lim.words g o (effect lim s p (Read x)).after (ghost_after w s p (Read x) (ghost t))
    unfolding effect read ghost_after
    read_keeps x l = fetch_keeps lim g o s (ghost t) (r.ordered t) in_page inv p (page_of_word lim x) h k l

    pub write_keeps : (x v : ℕ) → page_of_word lim x < s.counts.pages → rests s p ≡ false → (x ≡ w → (ghost t).known (Processor p) ≡ (ghost t).writes)
        → Inv lim.words g o (effect lim s p (Write x v)).after (ghost_after w s p (Write x v) (ghost t))
    unfolding effect write ghost_after value_field fetched
    write_keeps x v l awake all = go (ℕ_discrete x w)
      where
        after_fetch : Inv lim.words g o (fetched lim s p (page_of_word lim x)) (ghost t)
        after_fetch = fetch_keeps lim g o s (ghost t) (r.ordered t) in_page inv p (page_of_word lim x) h k l

        long : x ≡ w → o < length (copy_of (fetched lim s p (page_of_word lim x)).pages p g)
        long e =
            rw (fetched_length lim s p (page_of_word lim x) p g, whole_copy lim s (r.ordered t) p g h k (page_of_w e))
            in_page
          where
            page_of_w : x ≡ w → g < s.counts.pages
            page_of_w e = rw (← e) l

        go : Dec (x ≡ w) → Inv lim.words g o (write lim s p x v).after (ghost_after w s p (Write x v) (ghost t))
        go (yes e) =
            rw (eq-eqb x w e)
            (store_there_keeps lim w (fetched lim s p (page_of_word lim x)) (ghost t) p x v after_fetch h k awake (current (page_of_word lim x)) (all e) (known_at_most_writes lim c es r w t) e (long e))
        go (no d) =
            rw (ne_eqb x w d) (store_elsewhere_keeps lim w (fetched lim s p (page_of_word lim x)) (ghost t) p x v after_fetch h k awake (current (page_of_word lim x)) d)

    pub want_keeps : Inv lim.words g o (effect lim s p Want).after (ghost_after w s p Want (ghost t))
    unfolding effect want ghost_after standing rests_in waits
    want_keeps = record { clocks = inv.clocks; page = inv.page; closed_value = inv.closed_value; resting_clean = inv.resting_clean }

    -- the steps that close first
    module _ (l : g < s.counts.pages) where
      closing : Inv lim.words g o (closed s p) (closed_ghost (ghost t) p)
      closing =
          close_keeps lim g o s (ghost t) p (r.ordered t) in_page l h k
          (copy_words_fit lim c es r t p g h (rw (counts_stay lim c es r t) at k) (rw (counts_stay lim c es r t) at l)) inv

      pub acquire_kept : (x : ℕ) → x < s.counts.locks → Inv lim.words g o (effect lim s p (Acquire x)).after (ghost_after w s p (Acquire x) (ghost t))
      acquire_kept x there = acquire_keeps lim g o s (ghost t) p h k closing (known_at_most_writes lim c es r w t) w x there

      pub release_kept : (x : ℕ) → x < s.counts.locks → Inv lim.words g o (effect lim s p (Release x)).after (ghost_after w s p (Release x) (ghost t))
      release_kept x there = release_keeps lim g o s (ghost t) p h k closing (known_at_most_writes lim c es r w t) x there w

      pub enqueue_kept : (v : ℕ) → Inv lim.words g o (effect lim s p (Enqueue v)).after (ghost_after w s p (Enqueue v) (ghost t))
      enqueue_kept v = enqueue_keeps lim g o s (ghost t) p h k closing (known_at_most_writes lim c es r w t) (r.ordered t).sized.jobs w v

      pub dequeue_kept : Inv lim.words g o (effect lim s p Dequeue).after (ghost_after w s p Dequeue (ghost t))
      dequeue_kept = dequeue_keeps lim g o s (ghost t) p h k closing (known_at_most_writes lim c es r w t) (r.ordered t).sized.jobs w

      pub arrive_kept : Inv lim.words g o (effect lim s p Arrive).after (ghost_after w s p Arrive (ghost t))
      arrive_kept = arrive_keeps lim g o s (ghost t) p h k (r.ordered t) in_page closing (rw (counts_stay lim c es r t) (knowing lim c es r w t)) w

  -- ---- every time up to j

  by_action : (j t p : ℕ) (a : Action) → WritesOrdered j → g < (r.state t).counts.pages → t < j → Took es t p a → Accepted lim (r.state t) (event_at es t).step
      → Allowed (r.state t).counts.processors (r.state t) p a → InvAt t → Inv lim.words g o (effect lim (r.state t) p a).after (ghost_after w (r.state t) p a (ghost t))
  by_action j t p (Read x) ordered l less took acc ok ih =
      read_keeps t p ok.from ok.to ih x (read_on_page lim (r.state t) (event_at es t).step x took.action acc)
  by_action j t p (Write x v) ordered l less took acc ok ih =
      write_keeps t p ok.from ok.to ih x v (write_on_page lim (r.state t) (event_at es t).step x v took.action acc) ok.not_resting
      (λ e. knows_all_writes lim c es r w t p (Write w v) (rw e at took) (write_no_acquire w v) (write_no_dequeue w v) (write_before_write j t p v ordered less (rw e at took)))
  by_action j t p (Acquire x) ordered l less took acc ok ih = acquire_kept t p ok.from ok.to ih l x (acquire_there lim (r.state t) (event_at es t).step x took.action acc)
  by_action j t p (Release x) ordered l less took acc ok ih = release_kept t p ok.from ok.to ih l x (release_there lim (r.state t) (event_at es t).step x took.action acc)
  by_action j t p Arrive ordered l less took acc ok ih = arrive_kept t p ok.from ok.to ih l
  by_action j t p Want ordered l less took acc ok ih = want_keeps t p ok.from ok.to ih
  by_action j t p (TallyAdd x v) ordered l less took acc ok ih = unfold effect ghost_after in shared_aside lim.words g o (r.state t) (ghost t) (tally_added (r.state t).shared p x v) ih
  by_action j t p (TallyRead x) ordered l less took acc ok ih = unfold effect ghost_after in ih
  by_action j t p (Enqueue x) ordered l less took acc ok ih = enqueue_kept t p ok.from ok.to ih l x
  by_action j t p Dequeue ordered l less took acc ok ih = dequeue_kept t p ok.from ok.to ih l
  by_action j t p Unknown ordered l less took acc ok ih = absurd (known_action (event_at es t).step acc.known_kind_lem took.action)

  pub inv_at : (j : ℕ) → WritesOrdered j → g < c.pages → (t : ℕ) → t ≤ j → InvAt t
  unfolding ghost_at
  inv_at j ordered l zero less = rw r.starts (opened_inv lim c g o)
  inv_at j ordered l (suc t) less = go (moment lim c es r t) (inv_at j ordered l t (omega arith))
    where
      go : Moment lim es t (r.state t) (r.state (suc t)) → InvAt t → InvAt (suc t)
      go (Refused e k) ih = rw (k, ghost_refused lim c es r w t e) ih
      go (Taken p a took acc k) ih =
          rw (k, ghost_taken lim c es r w t p a took)
          (by_action j t p a ordered (rw (counts_stay lim c es r t) l) less took acc
          (subst (λ (n : Counts). Allowed n.processors (r.state t) p a) (sym (counts_stay lim c es r t)) (took_allowed lim c es r t p a took)) ih)
