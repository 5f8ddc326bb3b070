-- Acquiring and releasing a lock, and wanting collection, keep a state in order. Rests on KeptClose and KeptFetch. Assumes nothing.
use Prim.Native.Nat.{ℕ, zero, suc, ◌-◌, ◌≤◌, ◌<◌}
use native.Mathlib.Omega.{arith}
use native.Mathlib.Decide.{ℕ_discrete}
use mathlib.Core.Path.{◌≡◌, refl, sym, ap, ◌∙◌}
use mathlib.Core.Bool.{Bool, true, false, cond, not, false≢true}
use mathlib.Core.Logic.{◌⊎◌, inl, inr}
use lib.ListN.{get_or}
use lib.Dec.{ltb, eqb}
use borrow.Author.Tests.{ltb-false, eqb-true, eqb-false, eq-eqb, ne_eqb}
use Rattle.lists.specs.Tables.{put}
use Rattle.lists.proofs.Tables.{get_put_same, get_put_other, get_put, length_put_within}
use Rattle.lists.proofs.Counting.{first_within}
use Rattle.rules.specs.State.{Limits, Counts, Processor, Lock, Clocks, with_clock, Marks, with_wanted, with_holder, State, holder}
use Rattle.rules.specs.Lines.{waits, turn_of, in_line, waiter_at, first_in_line, with_waiter, lock_asked, without_waiter, lock_handed}
use Rattle.rules.specs.Close.{closed}
use Rattle.rules.specs.Steps.{learned, acquire, lock_told, waiter_told, release, wants_collection, want}
use Rattle.rules.proofs.state.Holders.{lock_carries}
use Rattle.rules.proofs.state.Waiters.{holder_in, awake_says, found_stands, moved_up_at, length_moved_up}
use Rattle.rules.proofs.inorder.Facts.{LinesInOrder}
use Rattle.rules.proofs.inorder.KeptParts.{present_among, among_says, among_when, arrived_in, CountsInOrder, ClocksInOrder, MarksInOrder, Parts}
use Rattle.rules.proofs.inorder.KeptLines.{taken_lines, waiter_lines, handed_in_order, wanted_lines}
use Rattle.rules.proofs.inorder.KeptMoves.{OwnKept, kept_again, lock_within}
use Rattle.rules.proofs.inorder.KeptRounds.{processor_learned, carrier_handed}
use Rattle.rules.proofs.inorder.KeptClose.{closed_parts}
use Rattle.rules.proofs.inorder.KeptFetch.{marks_changed, moved_parts}

-- the holders when a present lock gets a present holder, or none
module _ (lim : Limits) (n : Counts) (k : Marks) (f : MarksInOrder lim n k) (l q : ℕ) (h : l < n.locks) (held : (q ≡ 0) ⊎ (present_among n q ≡ true)) where
  absent_free : (i : ℕ) → ltb i n.locks ≡ false → get_or (put 0 k.holders l q) i 0 ≡ 0
  absent_free i e = get_put_other 0 k.holders l i q (λ d. omega (arith, ltb-false i n.locks e, d)) ∙ f.absent_not_held i e

  present_holds : (i : ℕ) → (get_or (put 0 k.holders l q) i 0 ≡ 0) ⊎ (present_among n (get_or (put 0 k.holders l q) i 0) ≡ true)
  present_holds i = go (ℕ_discrete i l)
    where
      go : Dec (i ≡ l) → (get_or (put 0 k.holders l q) i 0 ≡ 0) ⊎ (present_among n (get_or (put 0 k.holders l q) i 0) ≡ true)
      go (yes e) = rw (e, get_put_same 0 k.holders l q) held
      go (no e) = rw (get_put_other 0 k.holders l i q e) (f.holder_present i)

-- no holder has arrived when a lock gets a holder that has not, or none
away_holds : (lim : Limits) (n : Counts) (k : Marks) → MarksInOrder lim n k → (l q : ℕ) → (q ≡ 0) ⊎ (arrived_in k q ≡ false)
    → (i : ℕ) → (get_or (put 0 k.holders l q) i 0 ≡ 0) ⊎ (arrived_in k (get_or (put 0 k.holders l q) i 0) ≡ false)
away_holds lim n k f l q away i = go (ℕ_discrete i l)
  where
    go : Dec (i ≡ l) → (get_or (put 0 k.holders l q) i 0 ≡ 0) ⊎ (arrived_in k (get_or (put 0 k.holders l q) i 0) ≡ false)
    go (yes e) = rw (e, get_put_same 0 k.holders l q) away
    go (no e) = rw (get_put_other 0 k.holders l i q e) (f.holder_away i)

module _ (lim : Limits) (n : Counts) (c : CountsInOrder lim n) where
  -- the holder of a present lock is replaced, and the lines stay lines
  holder_set : (k : Marks) (l q : ℕ) → MarksInOrder lim n k → l < n.locks → (q ≡ 0) ⊎ (present_among n q ≡ true) → (q ≡ 0) ⊎ (arrived_in k q ≡ false) → LinesInOrder n (with_holder k l q) → MarksInOrder lim n (with_holder k l q)
  unfolding with_holder waits turn_of
  holder_set k l q f h held away lines =
      record {
        holders = length_put_within 0 k.holders l q (omega (arith, f.holders, c.locks_fit)) ∙ f.holders;
        arrived = f.arrived;
        awaited = f.awaited;
        turns = f.turns;
        absent_not_arrived = f.absent_not_arrived;
        absent_not_held = absent_free lim n k f l q h held;
        absent_awake = f.absent_awake;
        absent_turn = f.absent_turn;
        holder_present = present_holds lim n k f l q h held;
        someone_missing_lem = f.someone_missing_lem;
        lines = lines;
        holder_away = away_holds lim n k f l q away;
        first_there = f.first_there;
        few_jobs = f.few_jobs;
      }

  -- a present processor that neither waits nor has arrived asks for a lock that it does not hold
  asked_marks : (k : Marks) (l p : ℕ) → MarksInOrder lim n k → l < n.locks → present_among n p ≡ true → waits k p ≡ false → arrived_in k p ≡ false
      → (holder_in k l ≡ p → ⊥) → MarksInOrder lim n (lock_asked n.processors k l p)
  unfolding with_waiter waits turn_of
  asked_marks k l zero f h a awake missing other = absurd (omega (arith, (among_says n zero a).0))
  asked_marks k l (suc p) f h a awake missing other = unfold lock_asked in go (eqb (holder_in k l) 0) refl
    where
      b : (1 ≤ suc p) × (suc p ≤ n.processors)
      b = among_says n (suc p) a

      elsewhere : (q : ℕ) → present_among n q ≡ false → q ≡ suc p → ⊥
      elsewhere q e d = let z : ◌≡◌ {A = Bool} false true = sym e ∙ ap (present_among n) d ∙ a in false≢true z

      x : ℕ
      x = in_line n.processors k l

      waits_now : (holder_in k l ≡ 0 → ⊥) → MarksInOrder lim n (with_waiter k l (suc p) x)
      waits_now held =
          record {
            holders = f.holders;
            arrived = f.arrived;
            awaited = length_put_within 0 k.awaited (suc p) (suc l) (omega (arith, f.awaited, b.1, c.processors_fit)) ∙ f.awaited;
            turns = length_put_within 0 k.turns (suc p) x (omega (arith, f.turns, b.1, c.processors_fit)) ∙ f.turns;
            absent_not_arrived = f.absent_not_arrived;
            absent_not_held = f.absent_not_held;
            absent_awake = λ q i e. ap (λ (y : ℕ). not (eqb y 0)) (get_put_other 0 k.awaited (suc p) q (suc l) (elsewhere q e)) ∙ f.absent_awake q i e;
            absent_turn = λ q i e. get_put_other 0 k.turns (suc p) q x (elsewhere q e) ∙ f.absent_turn q i e;
            holder_present = f.holder_present;
            someone_missing_lem = f.someone_missing_lem;
            lines = waiter_lines n k f.lines l p (omega (arith, b.1)) h (awake_says k p awake) missing held other;
            holder_away = f.holder_away;
            first_there = f.first_there;
            few_jobs = f.few_jobs;
          }

      go : (d : Bool) → eqb (holder_in k l) 0 ≡ d → MarksInOrder lim n (cond d (with_holder k l (suc p)) (with_waiter k l (suc p) (in_line n.processors k l)))
      go true e = holder_set k l (suc p) f h (inr a) (inr missing) (taken_lines n k f.lines l (suc p) (eqb-true (holder_in k l) 0 e))
      go false e = waits_now (eqb-false (holder_in k l) 0 e)

  -- the first of a line is a present processor, where there is one
  pub first_present : (k : Marks) (l : ℕ) → (first_in_line n.processors k l ≡ 0) ⊎ (present_among n (first_in_line n.processors k l) ≡ true)
  unfolding first_in_line
  first_present k l = go (waiter_at n.processors k l 0) refl
    where
      go : (q : ℕ) → waiter_at n.processors k l 0 ≡ q → (q ≡ 0) ⊎ (present_among n q ≡ true)
      go zero e = inl refl
      go (suc h) e = inr (among_when n (suc h) (omega arith) (found_stands n.processors k l 0 h e).0)

  -- and has not arrived
  pub first_away : (k : Marks) (l : ℕ) → LinesInOrder n k → (first_in_line n.processors k l ≡ 0) ⊎ (arrived_in k (first_in_line n.processors k l) ≡ false)
  unfolding first_in_line
  first_away k l f = go (waiter_at n.processors k l 0) refl
    where
      go : (q : ℕ) → waiter_at n.processors k l 0 ≡ q → (q ≡ 0) ⊎ (arrived_in k q ≡ false)
      go zero e = inl refl
      go (suc h) e =
          let s = found_stands n.processors k l 0 h e in
          inr (f.not_arrived h l (omega (arith, s.0)) s.1)

  -- a lock is handed on
  handed_marks : (k : Marks) (l : ℕ) → MarksInOrder lim n k → l < n.locks → MarksInOrder lim n (lock_handed n.processors k l)
  unfolding lock_handed with_holder without_waiter waits turn_of first_in_line waiter_at
  handed_marks k l f h =
      let q : ℕ = first_in_line n.processors k l in
      record {
        holders = length_put_within 0 k.holders l q (omega (arith, f.holders, c.locks_fit)) ∙ f.holders;
        arrived = f.arrived;
        awaited = length_put_within 0 k.awaited q 0 (omega (arith, f.awaited, first_at_most, c.processors_fit)) ∙ f.awaited;
        turns = length_moved_up l k.awaited k.turns ∙ f.turns;
        absent_not_arrived = f.absent_not_arrived;
        absent_not_held = absent_free lim n k f l q h (first_present k l);
        absent_awake = λ p i e. ap (λ (x : ℕ). not (eqb x 0)) (get_put 0 k.awaited q p 0) ∙ left p (eqb p q) (f.absent_awake p i e);
        absent_turn = λ p i e. moved_up_at l k.awaited k.turns p ∙ stays p (eqb (get_or k.awaited p 0) (suc l)) (f.absent_turn p i e);
        holder_present = present_holds lim n k f l q h (first_present k l);
        someone_missing_lem = f.someone_missing_lem;
        lines = unfold lock_handed with_holder without_waiter in handed_in_order n k f.lines l;
        holder_away = away_holds lim n k f l q (first_away k l f.lines);
        first_there = f.first_there;
        few_jobs = f.few_jobs;
      }
    where
      first_at_most : first_in_line n.processors k l ≤ n.processors
      first_at_most = first_within n.processors _

      left : (p : ℕ) (b : Bool) → not (eqb (get_or k.awaited p 0) 0) ≡ false → not (eqb (cond b 0 (get_or k.awaited p 0)) 0) ≡ false
      left p true e = refl
      left p false e = e

      stays : (p : ℕ) (b : Bool) → get_or k.turns p 0 ≡ 0 → cond b (get_or k.turns p 0 - 1) (get_or k.turns p 0) ≡ 0
      stays p true e = omega (arith, e)
      stays p false e = e

-- an acquire of a present lock that the processor does not hold, by one that neither waits nor has arrived
pub acquire_parts : (lim : Limits) (s : State) (p l : ℕ) → Parts lim s → present_among s.counts p ≡ true → l < s.counts.locks → waits s.marks p ≡ false
    → arrived_in s.marks p ≡ false → (holder_in s.marks l ≡ p → ⊥) → Parts lim (acquire s p l)
unfolding acquire closed holder
acquire_parts lim s p l f a h awake missing other =
    moved_parts lim (closed s p) (cond (eqb (holder_in s.marks l) 0) (learned (closed s p).clocks (Processor p) (Lock l)) (closed s p).clocks) (lock_asked s.counts.processors s.marks l p)
    (closed_parts lim s p f a) (learns (eqb (holder_in s.marks l) 0)) (asked_marks lim s.counts f.counts s.marks l p f.marks h a awake missing other)
  where
    in_order : ClocksInOrder lim s.counts (closed s p).clocks
    in_order = (closed_parts lim s p f a).clocks

    learns : (b : Bool) → OwnKept lim s.counts (closed s p).clocks (cond b (learned (closed s p).clocks (Processor p) (Lock l)) (closed s p).clocks)
    learns true = processor_learned lim s.counts (closed s p).clocks p (Lock l) f.counts in_order a (lock_within lim s.counts f.counts l h)
    learns false = record { in_order = in_order; own_kept = λ q. refl }

-- the clocks of a release: the lock's becomes the processor's, and the longest waiter learns it; no own entry rises
pub release_moves : (lim : Limits) (s : State) (p l : ℕ) → Parts lim s → present_among s.counts p ≡ true → l < s.counts.locks
    → OwnKept lim s.counts (closed s p).clocks (release s p l).clocks
unfolding release closed lock_told waiter_told
release_moves lim s p l f a h = kept_again freed (learns (first_in_line s.counts.processors s.marks l) (first_present lim s.counts f.counts s.marks l))
  where
    c : Clocks
    c = lock_told (closed s p).clocks p l

    freed : OwnKept lim s.counts (closed s p).clocks c
    freed = carrier_handed lim s.counts (closed s p).clocks (Lock l) p f.counts (closed_parts lim s p f a).clocks (lock_carries s.counts l h) (lock_within lim s.counts f.counts l h) a

    learns : (q : ℕ) → (q ≡ 0) ⊎ (present_among s.counts q ≡ true) → OwnKept lim s.counts c (waiter_told c q l)
    learns q (inl e) = rw (eq-eqb q 0 e) (record { in_order = freed.in_order; own_kept = λ i. refl })
    learns q (inr e) =
        rw (ne_eqb q 0 (λ z. omega (arith, z, (among_says s.counts q e).0)))
        (processor_learned lim s.counts c q (Lock l) f.counts freed.in_order e (lock_within lim s.counts f.counts l h))

-- a release of a present lock
pub release_parts : (lim : Limits) (s : State) (p l : ℕ) → Parts lim s → present_among s.counts p ≡ true → l < s.counts.locks → Parts lim (release s p l)
unfolding release closed
release_parts lim s p l f a h =
    moved_parts lim (closed s p) (release s p l).clocks (lock_handed s.counts.processors s.marks l) (closed_parts lim s p f a) (release_moves lim s p l f a h)
    (handed_marks lim s.counts f.counts s.marks l f.marks h)

-- no clock of an interval changes then
pub release_intervals : (s : State) (p l : ℕ) → (release s p l).clocks.intervals ≡ (closed s p).clocks.intervals
unfolding release lock_told waiter_told learned with_clock
release_intervals s p l = go (eqb (first_in_line (closed s p).counts.processors (closed s p).marks l) 0)
  where
    c : Clocks
    c = lock_told (closed s p).clocks p l

    go : (b : Bool) → (cond b c (learned c (Processor (first_in_line (closed s p).counts.processors (closed s p).marks l)) (Lock l))).intervals ≡ (closed s p).clocks.intervals
    go true = refl
    go false = refl

-- the wish is in no condition
pub wish_set : (lim : Limits) (n : Counts) (k : Marks) (w : ℕ) → MarksInOrder lim n k
    → MarksInOrder lim n (with_wanted k w)
wish_set lim n k w f =
    record {
      holders = f.holders;
      arrived = f.arrived;
      awaited = f.awaited;
      turns = f.turns;
      absent_not_arrived = f.absent_not_arrived;
      absent_not_held = f.absent_not_held;
      absent_awake = unfold waits in f.absent_awake;
      absent_turn = unfold turn_of in f.absent_turn;
      holder_present = f.holder_present;
      someone_missing_lem = f.someone_missing_lem;
      lines = wanted_lines n k f.lines w;
      holder_away = f.holder_away;
      first_there = f.first_there;
      few_jobs = f.few_jobs;
    }

-- wanting collection
pub want_parts : (lim : Limits) (s : State) → Parts lim s → Parts lim (want s)
unfolding want
want_parts lim s f =
    let w : ℕ = cond (wants_collection s) s.marks.wanted 1 in
    marks_changed lim s (with_wanted s.marks w) f (wish_set lim s.counts s.marks w f.marks)
