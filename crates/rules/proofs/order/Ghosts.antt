-- What is counted beside a run, for one word w, to prove what its reads answer; none of it is in the state. Rests on Holders and Timeline.
-- Assumes nothing.
use Prim.Native.Nat.{ℕ, zero, suc, ◌+◌, ◌≤◌, max, ◌-◌}
use native.Mathlib.Omega.{arith}
use mathlib.Core.Path.{◌≡◌, refl, sym, ap, ◌∙◌}
use mathlib.Core.Bool.{Bool, true, false, cond, ◌&&◌}
use mathlib.Core.List.{List}
use lib.ListN.{length}
use lib.Dec.{eqb, ltb}
use borrow.Author.Tests.{eqb-false, ne_eqb}
use Rattle.rules.specs.State.{Limits, Counts, Holder, Processor, Lock, Barrier, Applied, Interval, Job, State, holder}
use Rattle.rules.specs.Lines.{first_in_line}
use Rattle.rules.specs.Steps.{at_barrier, all_arrived, wants_collection, free_place}
use Rattle.rules.specs.Refusals.{Action, Read, Write, Acquire, Release, Arrive, Want, TallyAdd, TallyRead, Enqueue, Dequeue, Unknown, action_of}
use Rattle.rules.specs.Order.{Event, event_at, Took}
use Rattle.rules.specs.Demand.{value_field}
use Rattle.rules.proofs.state.Holders.{same_holder}
use Rattle.rules.proofs.order.Timeline.{Timeline}

-- the writes to w so far; the value of the last, 0 before any; that value at the last collection; the processor that stored to w since it
-- last closed, or 0; and for each holder of a clock how many of the writes, the first ones, it knows
pub record Ghost : Type 0 where
  pub writes : ℕ
  pub last : ℕ
  pub base : ℕ
  pub writer : ℕ
  pub known : Holder → ℕ

abbrev pub no_ghost : Ghost
no_ghost = record { writes = 0; last = 0; base = 0; writer = 0; known = λ h. 0 }

-- the numbers with that of one holder replaced
unfoldable pub with_number : (Holder → ℕ) → Holder → ℕ → Holder → ℕ
with_number f h n k = cond (same_holder h k) n (f k)

-- the numbers once `to` has learned what `from` knows
abbrev pub learned_numbers : (Holder → ℕ) → Holder → Holder → Holder → ℕ
learned_numbers f to from = with_number f to (max (f to) (f from))

-- after a completed round each processor knows what the barrier knew, and the barrier knows nothing
unfoldable pub round_numbers : (Holder → ℕ) → Holder → ℕ
round_numbers f (Processor p) = max (f (Processor p)) (f Barrier)
round_numbers f (Lock l) = f (Lock l)
round_numbers f Barrier = 0
round_numbers f (Applied p g) = 0
round_numbers f (Interval p i) = 0
round_numbers f (Job k) = f (Job k)

-- whether the arrival of p completes the round, and whether the round then collects
unfoldable pub completes : State → ℕ → Bool
completes s p = all_arrived (at_barrier s p)

unfoldable pub collects : State → ℕ → Bool
collects s p = completes s p && wants_collection s

-- the processor with stores to w that no interval has yet, once p has closed
unfoldable pub writer_closed : Ghost → ℕ → ℕ
writer_closed γ p = cond (eqb γ.writer p) 0 γ.writer

-- the counts once p has closed
unfoldable pub closed_ghost : Ghost → ℕ → Ghost
closed_ghost γ p = record { writes = γ.writes; last = γ.last; base = γ.base; writer = writer_closed γ p; known = γ.known }

unfoldable pub arrived_numbers : Ghost → ℕ → Holder → ℕ
arrived_numbers γ p = learned_numbers γ.known Barrier (Processor p)

-- the numbers once the lock knows what p knew, which frees it
abbrev pub freed_numbers : Ghost → ℕ → ℕ → Holder → ℕ
freed_numbers γ p l = with_number γ.known (Lock l) (γ.known (Processor p))

-- and once q, if it is not nobody, has learned what the lock knows
unfoldable pub granted_numbers : (Holder → ℕ) → ℕ → ℕ → Holder → ℕ
granted_numbers f q l = cond (eqb q 0) f (learned_numbers f (Processor q) (Lock l))

-- the free place of the queue, by the clocks of its places
unfoldable pub ghost_place : State → ℕ
ghost_place s = let k = s.marks.first + s.marks.jobs in cond (ltb k (length s.clocks.jobs)) k (k - length s.clocks.jobs)

-- it is that of the rules where the table of clocks has its size
pub ghost_place_lem : (lim : Limits) (s : State) → length s.clocks.jobs ≡ lim.jobs → ghost_place s ≡ free_place lim s
unfolding ghost_place free_place
ghost_place_lem lim s e = ap (λ (m : ℕ). cond (ltb (s.marks.first + s.marks.jobs) m) (s.marks.first + s.marks.jobs) (s.marks.first + s.marks.jobs - m)) e

-- what an accepted step of processor p, taken in the state s, does to the counts for the word w
unfoldable pub ghost_after : ℕ → State → ℕ → Action → Ghost → Ghost
ghost_after w s p (Read x) γ = γ
ghost_after w s p (Write x v) γ =
    record {
      writes = cond (eqb x w) (γ.writes + 1) γ.writes;
      last = cond (eqb x w) (value_field v) γ.last;
      base = γ.base;
      writer = cond (eqb x w) p γ.writer;
      known = cond (eqb x w) (with_number γ.known (Processor p) (γ.writes + 1)) γ.known;
    }
ghost_after w s p (Acquire l) γ =
    record { writes = γ.writes; last = γ.last; base = γ.base; writer = writer_closed γ p; known = cond (eqb (holder s l) 0) (learned_numbers γ.known (Processor p) (Lock l)) γ.known }
ghost_after w s p (Release l) γ =
    record { writes = γ.writes; last = γ.last; base = γ.base; writer = writer_closed γ p; known = granted_numbers (freed_numbers γ p l) (first_in_line s.counts.processors s.marks l) l }
ghost_after w s p Arrive γ =
    record {
      writes = γ.writes;
      last = γ.last;
      base = cond (collects s p) γ.last γ.base;
      writer = writer_closed γ p;
      known = cond (completes s p) (round_numbers (arrived_numbers γ p)) (arrived_numbers γ p);
    }
ghost_after w s p Want γ = γ
ghost_after w s p (TallyAdd j x) γ = γ
ghost_after w s p (TallyRead j) γ = γ
ghost_after w s p (Enqueue j) γ =
    record { writes = γ.writes; last = γ.last; base = γ.base; writer = writer_closed γ p; known = with_number γ.known (Job (ghost_place s)) (γ.known (Processor p)) }
ghost_after w s p Dequeue γ =
    record { writes = γ.writes; last = γ.last; base = γ.base; writer = writer_closed γ p; known = learned_numbers γ.known (Processor p) (Job s.marks.first) }
ghost_after w s p Unknown γ = γ

module _ (lim : Limits) (c : Counts) (es : List Event) (r : Timeline lim c es) (w : ℕ) where
  -- the counts before the step at time t
  unfoldable pub ghost_at : ℕ → Ghost
  ghost_at zero = no_ghost
  ghost_at (suc t) =
      cond (event_at es t).accepted (ghost_after w (r.state t) (event_at es t).step.processor (action_of (event_at es t).step) (ghost_at t)) (ghost_at t)

  pub ghost_refused : (t : ℕ) → (event_at es t).accepted ≡ false → ghost_at (suc t) ≡ ghost_at t
  unfolding ghost_at
  ghost_refused t e = rw e

  pub ghost_taken : (t p : ℕ) (a : Action) → Took es t p a → ghost_at (suc t) ≡ ghost_after w (r.state t) p a (ghost_at t)
  unfolding ghost_at
  ghost_taken t p a k = rw (k.accepted, k.processor, k.action)

-- ---- who has stores without an interval once a processor has closed

-- the writer after closing is who it was, unless that is the processor that closed
pub writer_was : (γ : Ghost) (p q : ℕ) → 1 ≤ q → writer_closed γ p ≡ q → (γ.writer ≡ q) × (q ≡ p → ⊥)
unfolding writer_closed
writer_was γ p q h e = go (eqb γ.writer p) refl e
  where
    go : (b : Bool) → eqb γ.writer p ≡ b → cond b 0 γ.writer ≡ q → (γ.writer ≡ q) × (q ≡ p → ⊥)
    go true d e = absurd (omega (arith, e, h))
    go false d e = (e, λ z. eqb-false γ.writer p d (e ∙ z))

pub writer_stays : (γ : Ghost) (p q : ℕ) → (q ≡ p → ⊥) → γ.writer ≡ q → writer_closed γ p ≡ q
unfolding writer_closed
writer_stays γ p q d e = rw (ne_eqb γ.writer p (λ z. d (sym e ∙ z))) e
