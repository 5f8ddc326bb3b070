-- The numbers of known writes (ghosts) follow happens-before-1, so a processor whose step every earlier write to w is before knows all of
-- them. Rests on Carrying and Numbers. Assumes nothing.
use Prim.Native.Nat.{ℕ, zero, suc, ◌≤◌, ◌<◌}
use native.Mathlib.Omega.{arith}
use native.Mathlib.Decide.{ℕ_discrete}
use mathlib.Core.Path.{◌≡◌, refl, sym, ap, ◌∙◌}
use mathlib.Core.Bool.{Bool, true, false, cond, not, false≢true}
use mathlib.Core.Logic.{◌⊎◌, inl, inr}
use mathlib.Core.List.{List}
use lib.ListN.{get_or}
use lib.Dec.{eqb}
use borrow.Author.Tests.{eq-eqb}
use Rattle.lists.proofs.Tables.{get_put}
use Rattle.rules.specs.State.{Limits, Counts, Processor, Lock, Marks, with_holder, State, holder}
use Rattle.rules.specs.Lines.{waits, first_in_line, without_waiter, lock_handed}
use Rattle.rules.specs.Refusals.{Action, Read, Write, Acquire, Release, Arrive, Want, TallyAdd, TallyRead, Enqueue, Dequeue, Unknown}
use Rattle.rules.specs.Order.{Event, event_at, Took, Serves, Before}
use Rattle.rules.specs.Demand.{value_field, last_written, EarlierWrite}
use Rattle.rules.proofs.state.Holders.{same_holder}
use Rattle.rules.proofs.state.Waiters.{awaits, turn_at, waiter_waits}
use Rattle.rules.proofs.order.Timeline.{Timeline, course_of, Moment, Refused, Taken, moment, effect_of, counts_stay}
use Rattle.rules.proofs.order.Ghosts.{Ghost, with_number, freed_numbers, ghost_after, ghost_at, ghost_refused, ghost_taken}
use Rattle.rules.proofs.order.ActionKinds.{is_acquire, writes_to, stored_by, writes_to_is, took_write, refused_write, took_value}
use Rattle.rules.proofs.order.MarksAfter.{awake_not_waiting, line_marks_after, lines_after}
use Rattle.rules.proofs.order.Allowed.{took_allowed}
use Rattle.rules.proofs.order.Turns.{waits_or_holds}
use Rattle.rules.proofs.order.Grants.{waits_behind, served_holds}
use Rattle.rules.proofs.order.NumbersAfter.{with_number_same, learner_knows, granted_grows, granted_at_lock, writes_after, writer_knows}
use Rattle.rules.proofs.order.Numbers.{knowing, known_at_most_writes, processor_never_falls, lock_never_falls, round_tells}
use Rattle.rules.proofs.order.Jobs.{job_tells}
use Rattle.rules.proofs.order.Carrying.{Telling, told_at_once, carries_strictly, Told}

-- ---- who waits

-- processor q, one of the n, waits for lock l
record Awaits (n : ℕ) (m : Marks) (q l : ℕ) : Type 0 where
  place : ℕ
  is : q ≡ suc place
  there : place < n
  for_lock : awaits m place ≡ suc l

-- of its own steps only an acquire makes a processor wait
awake_after : (s : State) (p : ℕ) (a : Action) → is_acquire a ≡ false → waits s.marks p ≡ false → waits (line_marks_after s p a) p ≡ false
unfolding line_marks_after is_acquire waits lock_handed with_holder without_waiter
awake_after s p (Read x) e h = h
awake_after s p (Write x v) e h = h
awake_after s p (Acquire l) e h = absurd (false≢true (sym e))
awake_after s p (Release l) e h = rw (get_put 0 s.marks.awaited (first_in_line s.counts.processors s.marks l) p 0) (go (eqb p (first_in_line s.counts.processors s.marks l)))
  where
    go : (b : Bool) → not (eqb (cond b 0 (get_or s.marks.awaited p 0)) 0) ≡ false
    go true = refl
    go false = h
awake_after s p Arrive e h = h
awake_after s p Want e h = h
awake_after s p (TallyAdd j x) e h = h
awake_after s p (TallyRead j) e h = h
awake_after s p (Enqueue j) e h = h
awake_after s p Dequeue e h = h
awake_after s p Unknown e h = h

-- ---- what a release and an acquire hand on

module _ (w : ℕ) (s : State) (p : ℕ) (γ : Ghost) where
  release_hands_on : (l : ℕ) → (ghost_after w s p (Release l) γ).known (Processor p) ≤ (ghost_after w s p (Release l) γ).known (Lock l)
  unfolding ghost_after
  release_hands_on l =
      omega (
        arith,
        granted_at_lock (freed_numbers γ p l) (first_in_line s.counts.processors s.marks l) l p mine,
        granted_grows (freed_numbers γ p l) (first_in_line s.counts.processors s.marks l) l (Lock l),
      )
    where
      mine : freed_numbers γ p l (Processor p) ≤ freed_numbers γ p l (Lock l)
      mine = unfold with_number same_holder in omega (arith, with_number_same γ.known (Lock l) (γ.known (Processor p)))

  acquire_takes_over : (l : ℕ) → holder s l ≡ 0 → γ.known (Lock l) ≤ (ghost_after w s p (Acquire l) γ).known (Processor p)
  unfolding ghost_after
  acquire_takes_over l e = rw (eq-eqb (holder s l) 0 e) (learner_knows γ.known (Processor p) (Lock l))

  -- the last value after a step
  last_after : (a : Action) → (ghost_after w s p a γ).last ≡ cond (writes_to w a) (value_field (stored_by a)) γ.last
  unfolding ghost_after writes_to stored_by
  last_after (Read x) = refl
  last_after (Write x v) = refl
  last_after (Acquire l) = refl
  last_after (Release l) = refl
  last_after Arrive = refl
  last_after Want = refl
  last_after (TallyAdd j x) = refl
  last_after (TallyRead j) = refl
  last_after (Enqueue j) = refl
  last_after Dequeue = refl
  last_after Unknown = refl

module _ (lim : Limits) (c : Counts) (es : List Event) (r : Timeline lim c es) (w : ℕ) where
  -- ---- what the order carries

  -- what a processor and a lock know at a time
  abbrev known : ℕ → ℕ → ℕ
  known t q = (ghost_at lim c es r w t).known (Processor q)

  abbrev lock_known : ℕ → ℕ → ℕ
  lock_known t l = (ghost_at lim c es r w t).known (Lock l)

  -- whether a processor waits then, and for which lock
  abbrev waits_at : ℕ → ℕ → Bool
  waits_at t q = waits (r.state t).marks q

  abbrev WaitsFor : ℕ → ℕ → ℕ → Type 0
  WaitsFor t q l = Awaits c.processors (r.state t).marks q l

  -- the holder of a lock knows what the lock knows
  holder_told : (t q l : ℕ) → 1 ≤ q → holder (r.state t) l ≡ q → lock_known t l ≤ known t q
  holder_told t q l from e = rw e at ((knowing lim c es r w t).holder_knows l (λ z. omega (arith, z, e, from)))

  stays_awake : (t p : ℕ) (a : Action) → Took es t p a → is_acquire a ≡ false → waits_at (suc t) p ≡ false
  unfolding waits
  stays_awake t p a took e =
      rw (effect_of lim es r.state (course_of lim c es r) t p a took, (lines_after lim (r.state t) p a).awaited)
      (awake_after (r.state t) p a e (awake_not_waiting (r.state t) p (took_allowed lim c es r t p a took).not_resting))

  release_tells : (t p l : ℕ) → Took es t p (Release l) → known (suc t) p ≤ lock_known (suc t) l
  release_tells t p l took = rw (known, lock_known, ghost_taken lim c es r w t p (Release l) took) (release_hands_on w (r.state t) p (ghost_at lim c es r w t) l)

  acquire_told : (t q l : ℕ) → Took es t q (Acquire l) → WaitsFor (suc t) q l ⊎ (lock_known t l ≤ known (suc t) q)
  acquire_told t zero l took = absurd (omega (arith, (took_allowed lim c es r t zero (Acquire l) took).from))
  acquire_told t (suc k) l took = go (ℕ_discrete (holder (r.state t) l) 0)
    where
      go : Dec (holder (r.state t) l ≡ 0) → WaitsFor (suc t) (suc k) l ⊎ (lock_known t l ≤ known (suc t) (suc k))
      go (yes e) = inr (rw (known, lock_known, ghost_taken lim c es r w t (suc k) (Acquire l) took) (acquire_takes_over w (r.state t) (suc k) (ghost_at lim c es r w t) l e))
      go (no e) =
          inl
          (record {
            place = k;
            is = refl;
            there = (took_allowed lim c es r t (suc k) (Acquire l) took).to;
            for_lock = (waits_behind lim c es r l t k took (unfold holder in e)).for_lock;
          })

  waiting_told : (t q l : ℕ) → WaitsFor t q l → WaitsFor (suc t) q l ⊎ (lock_known t l ≤ known (suc t) q)
  waiting_told t q l v = go (waits_or_holds lim es r.state (course_of lim c es r) l v.place t (turn_at (r.state t).marks v.place) there (record { for_lock = v.for_lock; turn = refl }))
    where
      there : v.place < (r.state 0).counts.processors
      there = rw (ap (λ (k : Counts). k.processors) (counts_stay lim c es r 0)) v.there

      go : (awaits (r.state (suc t)).marks v.place ≡ suc l) ⊎ (holder (r.state (suc t)) l ≡ suc v.place) → WaitsFor (suc t) q l ⊎ (lock_known t l ≤ known (suc t) q)
      go (inl e) = inl (record { place = v.place; is = v.is; there = v.there; for_lock = e })
      go (inr e) =
          inr (omega (arith, lock_never_falls lim c es r w l t (suc t) (omega arith), holder_told (suc t) q l (omega (arith, v.is)) (e ∙ sym v.is)))

  grant_tells : (i p a q l : ℕ) → Serves es l i p a q → known (suc i) p ≤ known (suc i) q
  grant_tells i p a q l serves =
      omega (
        arith,
        release_tells i p l serves.release,
        holder_told (suc i) q l (took_allowed lim c es r a q (Acquire l) serves.acquire).from (served_holds lim c es r l i p a q serves),
      )

  -- the numbers of known writes are told along the order
  numbers_tell : Telling c.processors es known lock_known waits_at WaitsFor
  numbers_tell =
      record {
        grows = λ q t. processor_never_falls lim c es r w q t (suc t) (omega arith);
        lock_grows = λ l t. lock_never_falls lim c es r w l t (suc t) (omega arith);
        acts_awake = λ t p a took. awake_not_waiting (r.state t) p (took_allowed lim c es r t p a took).not_resting;
        stays_awake = stays_awake;
        release_tells = release_tells;
        acquire_told = acquire_told;
        waiting_told = waiting_told;
        waits_for_lem = λ t q l v. ap (waits (r.state t).marks) v.is ∙ waiter_waits (r.state t).marks v.place l v.for_lock;
        grant_tells = grant_tells;
        job_tells = job_tells lim c es r w;
        round_tells = round_tells lim c es r w;
      }

  -- ---- the last write to w

  -- an earlier write after which its processor knew all the writes that there are at time t
  record LastWrite (t : ℕ) : Type 0 where
    place : ℕ
    processor : ℕ
    value : ℕ
    write : EarlierWrite es w t place processor value
    knew : (ghost_at lim c es r w (suc place)).known (Processor processor) ≡ (ghost_at lim c es r w t).writes

  no_write_or_last : (t : ℕ) → ((ghost_at lim c es r w t).writes ≡ 0) ⊎ LastWrite t
  unfolding ghost_at
  no_write_or_last zero = inl refl
  no_write_or_last (suc t) = go (moment lim c es r t) (no_write_or_last t)
    where
      kept : (ghost_at lim c es r w (suc t)).writes ≡ (ghost_at lim c es r w t).writes → ((ghost_at lim c es r w t).writes ≡ 0) ⊎ LastWrite t
          → ((ghost_at lim c es r w (suc t)).writes ≡ 0) ⊎ LastWrite (suc t)
      kept e (inl z) = inl (e ∙ z)
      kept e (inr l) =
          inr
          (record {
            place = l.place;
            processor = l.processor;
            value = l.value;
            write = record { wrote = l.write.wrote; earlier = omega (arith, l.write.earlier) };
            knew = l.knew ∙ sym e;
          })

      taken : (p : ℕ) (a : Action) → Took es t p a → (b : Bool) → writes_to w a ≡ b → ((ghost_at lim c es r w t).writes ≡ 0) ⊎ LastWrite t
          → ((ghost_at lim c es r w (suc t)).writes ≡ 0) ⊎ LastWrite (suc t)
      taken p a took true e ih =
          inr
          (record {
            place = t;
            processor = p;
            value = stored_by a;
            write =
                record {
                  wrote = record { accepted = took.accepted; processor = took.processor; action = took.action ∙ writes_to_is w a e };
                  earlier = omega arith;
                };
            knew = rw (ghost_taken lim c es r w t p a took) (writer_knows c.processors w (r.state t) p (ghost_at lim c es r w t) a e);
          })
      taken p a took false e ih =
          kept (rw (ghost_taken lim c es r w t p a took) (writes_after c.processors w (r.state t) p (ghost_at lim c es r w t) a e)) ih

      go : Moment lim es t (r.state t) (r.state (suc t)) → ((ghost_at lim c es r w t).writes ≡ 0) ⊎ LastWrite t
          → ((ghost_at lim c es r w (suc t)).writes ≡ 0) ⊎ LastWrite (suc t)
      go (Refused e k) ih = kept (ap (λ (γ : Ghost). γ.writes) (ghost_refused lim c es r w t e)) ih
      go (Taken p a took acc k) ih = taken p a took (writes_to w a) refl ih

  -- a processor whose step, no acquire and no dequeue, every earlier write to w by another is before knows all writes; its own it knows in any order
  pub knows_all_writes : (j p : ℕ) (a : Action) → Took es j p a → ((l : ℕ) → a ≡ Acquire l → ⊥) → (a ≡ Dequeue → ⊥)
      → ((i q v : ℕ) → EarlierWrite es w j i q v → (q ≡ p → ⊥) → Before c.processors es i j)
      → (ghost_at lim c es r w j).known (Processor p) ≡ (ghost_at lim c es r w j).writes
  knows_all_writes j p a took none-acquired none-removed before = go (no_write_or_last j)
    where
      most : (ghost_at lim c es r w j).known (Processor p) ≤ (ghost_at lim c es r w j).writes
      most = known_at_most_writes lim c es r w j (Processor p)

      go : ((ghost_at lim c es r w j).writes ≡ 0) ⊎ LastWrite j → (ghost_at lim c es r w j).known (Processor p) ≡ (ghost_at lim c es r w j).writes
      go (inl e) = omega (arith, most, e)
      go (inr l) = omega (arith, most, least (ℕ_discrete l.processor p))
        where
          x : ℕ
          x = (ghost_at lim c es r w j).writes

          told : Told known waits_at x l.place l.processor
          told = told_at_once numbers_tell x l.place l.processor (omega (arith, l.knew))

          least : Dec (l.processor ≡ p) → x ≤ (ghost_at lim c es r w j).known (Processor p)
          least (yes e) = (rw e at told).at j l.write.earlier (numbers_tell.acts_awake j p a took)
          least (no e) =
              rw took.processor at
              (carries_strictly numbers_tell l.place j (before l.place l.processor l.value l.write e) (λ k e. none-acquired k (sym took.action ∙ e))
              (λ e. none-removed (sym took.action ∙ e)) x
              (rw l.write.wrote.processor told))

  -- the ghost's last value is the value field of the last write
  pub last_is_last_written : (j : ℕ) → (ghost_at lim c es r w j).last ≡ last_written es w j
  unfolding ghost_at last_written
  last_is_last_written zero = refl
  last_is_last_written (suc t) = go (moment lim c es r t) (last_is_last_written t)
    where
      taken : (p : ℕ) (a : Action) → Took es t p a → (ghost_at lim c es r w t).last ≡ last_written es w t → (b : Bool) → writes_to w a ≡ b
          → cond b (value_field (stored_by a)) (ghost_at lim c es r w t).last ≡ cond b (value_field (event_at es t).step.value) (last_written es w t)
      taken p a took ih true e = ap value_field (sym (took_value es t w p a took e))
      taken p a took ih false e = ih

      go : Moment lim es t (r.state t) (r.state (suc t)) → (ghost_at lim c es r w t).last ≡ last_written es w t
          → (ghost_at lim c es r w (suc t)).last ≡ last_written es w (suc t)
      go (Refused e k) ih =
          ap (λ (γ : Ghost). γ.last) (ghost_refused lim c es r w t e)
          ∙ ih
          ∙ ap (λ (b : Bool). cond b (value_field (event_at es t).step.value) (last_written es w t)) (sym (refused_write es t w e))
      go (Taken p a took acc k) ih =
          ap (λ (γ : Ghost). γ.last) (ghost_taken lim c es r w t p a took)
          ∙ last_after w (r.state t) p (ghost_at lim c es r w t) a
          ∙ taken p a took ih (writes_to w a) refl
          ∙ ap (λ (b : Bool). cond b (value_field (event_at es t).step.value) (last_written es w t)) (sym (took_write es t w p a took))
