-- Arriving at the barrier keeps a state in order: when it completes no round, when it completes one, and when garbage is collected then.
-- Rests on Fetches and KeptLocks. Assumes nothing.
use Prim.Native.Nat.{ℕ, suc, ◌<◌}
use native.Mathlib.Omega.{arith}
use mathlib.Core.Path.{◌≡◌, refl, sym, ap, ◌∙◌}
use mathlib.Core.Bool.{Bool, true, false, cond, not, false≢true}
use mathlib.Core.Logic.{◌⊎◌, inl, inr}
use mathlib.Core.List.{List, map}
use lib.ListN.{length, get_or, length-map, get_or-eq_default}
use lib.Dec.{ltb, eqb}
use borrow.Author.Tests.{ltb-true, ltb-false, eq-eqb}
use Rattle.lists.specs.Tables.{put}
use Rattle.lists.proofs.Tables.{get_put_other, length_put_within, get_map, Passes, every_fails, any_holds}
use Rattle.rules.specs.State.{Limits, Counts, Processor, Barrier, Clocks, with_clock, cleared, Marks, with_arrived, State, holder, has_arrived, with_clocks, with_marks}
use Rattle.rules.specs.Lines.{waits, turn_of}
use Rattle.rules.specs.Close.{closed}
use Rattle.rules.specs.Fetch.{fetched}
use Rattle.rules.specs.Steps.{learned, at_barrier, all_arrived, all_learned, round_done, all_fetched, none_fetched, emptied, collected, wants_collection, arrive}
use Rattle.rules.specs.Refusals.{holds_any}
use Rattle.rules.proofs.state.Holders.{barrier_carries}
use Rattle.rules.proofs.state.Fetches.{all_fetched_keep}
use Rattle.rules.proofs.state.Waiters.{waiter_waits}
use Rattle.rules.proofs.inorder.Facts.{Within}
use Rattle.rules.proofs.inorder.KeptParts.{present_among, among_says, among_when, arrived_in, CountsInOrder, MarksInOrder, Parts}
use Rattle.rules.proofs.inorder.KeptLines.{arrived_lines, cleared_lines}
use Rattle.rules.proofs.inorder.KeptMoves.{OwnKept, kept_again}
use Rattle.rules.proofs.inorder.KeptRounds.{carrier_learned, round_clocks, entry_all_cleared, all_cleared_in_order}
use Rattle.rules.proofs.inorder.KeptClose.{closed_parts}
use Rattle.rules.specs.Tallies.{posting}
use Rattle.rules.proofs.inorder.KeptShared.{shared_changed, posted_in_order}
use Rattle.rules.proofs.inorder.KeptFetch.{moved_parts, fetched_parts}
use Rattle.rules.proofs.inorder.KeptLocks.{wish_set}

-- ---- marks

-- a present processor that neither waits nor holds a lock is marked, and one is still missing
arrived_set : (lim : Limits) (n : Counts) (k : Marks) (p : ℕ) → CountsInOrder lim n → MarksInOrder lim n k → present_among n p ≡ true → waits k p ≡ false
    → ((l : ℕ) → get_or k.holders l 0 ≡ p → ⊥) → Passes n.processors (λ i. not (arrived_in (with_arrived k (put 0 k.arrived p 1)) (suc i))) → MarksInOrder lim n (with_arrived k (put 0 k.arrived p 1))
arrived_set lim n k p c f a awake free missing =
    let b = among_says n p a in
    record {
      holders = f.holders;
      arrived = length_put_within 0 k.arrived p 1 (omega (arith, f.arrived, b.1, c.processors_fit)) ∙ f.arrived;
      awaited = f.awaited;
      turns = f.turns;
      absent_not_arrived = λ q h e.
          ap (λ (x : ℕ). not (eqb x 0)) (get_put_other 0 k.arrived p q 1 (λ d. let z : ◌≡◌ {A = Bool} false true = sym e ∙ ap (present_among n) d ∙ a in false≢true z))
          ∙ f.absent_not_arrived q h e;
      absent_not_held = f.absent_not_held;
      absent_awake = unfold waits in f.absent_awake;
      absent_turn = unfold turn_of in f.absent_turn;
      holder_present = f.holder_present;
      someone_missing_lem = missing;
      lines = arrived_lines n k f.lines p (λ i l h e d. false≢true (sym awake ∙ ap (waits k) d ∙ waiter_waits k i l e));
      holder_away = λ l. away l (f.holder_away l);
      first_there = f.first_there;
      few_jobs = f.few_jobs;
    }
  where
    away : (l : ℕ) → (get_or k.holders l 0 ≡ 0) ⊎ (arrived_in k (get_or k.holders l 0) ≡ false)
        → (get_or k.holders l 0 ≡ 0) ⊎ (arrived_in (with_arrived k (put 0 k.arrived p 1)) (get_or k.holders l 0) ≡ false)
    away l (inl e) = inl e
    away l (inr e) = inr (ap (λ (x : ℕ). not (eqb x 0)) (get_put_other 0 k.arrived p (get_or k.holders l 0) 1 (free l)) ∙ e)

-- all marks clear
arrived_cleared : (lim : Limits) (n : Counts) (k : Marks) (marks : List ℕ) → CountsInOrder lim n → MarksInOrder lim n k → length marks ≡ suc lim.processors
    → MarksInOrder lim n (with_arrived k (map (λ mark. 0) marks))
arrived_cleared lim n k marks c f l =
    record {
      holders = f.holders;
      arrived = length-map marks (λ (mark : ℕ). 0) ∙ l;
      awaited = f.awaited;
      turns = f.turns;
      absent_not_arrived = λ q h e. clear q;
      absent_not_held = f.absent_not_held;
      absent_awake = unfold waits in f.absent_awake;
      absent_turn = unfold turn_of in f.absent_turn;
      holder_present = f.holder_present;
      someone_missing_lem = record { at = 0; below = c.some_processor; passes = ap not (clear 1) };
      lines = cleared_lines n k f.lines marks;
      holder_away = λ l. inr (clear (get_or k.holders l 0));
      first_there = f.first_there;
      few_jobs = f.few_jobs;
    }
  where
    clear : (q : ℕ) → not (eqb (get_or (map (λ mark. 0) marks) q 0) 0) ≡ false
    clear q = ap (λ (x : ℕ). not (eqb x 0)) (get_map (λ (mark : ℕ). 0) 0 marks q)

-- ---- arriving

-- the barrier has learned the clock of a processor that has closed
barrier_learned : (lim : Limits) (s : State) (p : ℕ) → Parts lim s → present_among s.counts p ≡ true
    → OwnKept lim s.counts (closed s p).clocks (learned (closed s p).clocks Barrier (Processor p))
unfolding closed
barrier_learned lim s p f a = carrier_learned lim s.counts (closed s p).clocks Barrier p f.counts (closed_parts lim s p f a).clocks (barrier_carries s.counts) (unfold Within in tt) a

-- whoever holds no lock is the holder of none
holds_none : (lim : Limits) (s : State) (p : ℕ) → Parts lim s → present_among s.counts p ≡ true → holds_any lim s p ≡ false → (l : ℕ) → get_or s.marks.holders l 0 ≡ p → ⊥
unfolding holds_any holder
holds_none lim s p f a free l e = go (ltb l lim.locks) refl
  where
    go : (b : Bool) → ltb l lim.locks ≡ b → ⊥
    go true h = false≢true (sym free ∙ any_holds lim.locks (λ i. eqb (get_or s.marks.holders i 0) p) l (ltb-true l lim.locks h) (eq-eqb _ _ e))
    go false h =
        let none : get_or s.marks.holders l 0 ≡ 0 = get_or-eq_default s.marks.holders 0 (omega (arith, f.marks.holders, ltb-false l lim.locks h)) in
        omega (arith, none, e, (among_says s.counts p a).0)

-- no round is complete
pub waiting_parts : (lim : Limits) (s : State) (p : ℕ) → Parts lim s → present_among s.counts p ≡ true → waits s.marks p ≡ false → holds_any lim s p ≡ false
    → all_arrived (at_barrier s p) ≡ false → Parts lim (at_barrier s p)
unfolding at_barrier closed all_arrived has_arrived
waiting_parts lim s p f a awake free e =
    moved_parts lim (closed s p) (learned (closed s p).clocks Barrier (Processor p)) (with_arrived s.marks (put 0 s.marks.arrived p 1)) (closed_parts lim s p f a)
    (barrier_learned lim s p f a)
    (arrived_set lim s.counts s.marks p f.counts f.marks a awake (holds_none lim s p f a free) (every_fails s.counts.processors (λ i. has_arrived (at_barrier s p) (suc i)) e))

-- a round is complete
pub round_parts : (lim : Limits) (s : State) (p : ℕ) → Parts lim s → present_among s.counts p ≡ true → Parts lim (round_done (at_barrier s p))
unfolding round_done at_barrier closed
round_parts lim s p f a =
    let b = among_says s.counts p a in
    let c : Clocks = learned (closed s p).clocks Barrier (Processor p) in
    let told : OwnKept lim s.counts (closed s p).clocks c = barrier_learned lim s p f a in
    let marks : List ℕ = put 0 s.marks.arrived p 1 in
    let turned = moved_parts lim (closed s p) (with_clock (all_learned c s.counts.processors) Barrier (cleared c.barrier)) (with_arrived s.marks (map (λ mark. 0) marks)) (closed_parts lim s p f a)
    (kept_again told (round_clocks lim s.counts c f.counts told.in_order))
    (arrived_cleared lim s.counts s.marks marks f.counts f.marks
    (length_put_within 0 s.marks.arrived p 1 (omega (arith, f.marks.arrived, b.1, f.counts.processors_fit)) ∙ f.marks.arrived)) in
    shared_changed lim (with_marks (with_clocks (closed s p) (with_clock (all_learned c s.counts.processors) Barrier (cleared c.barrier))) (with_arrived s.marks (map (λ mark. 0) marks)))
    (posting s.shared s.counts.processors) turned (posted_in_order lim s.counts s.shared s.counts.processors f.shared)

-- ---- collection

-- parts in order, with the counts as they were
pub record PartsWith (lim : Limits) (n : Counts) (s : State) : Type 0 where
  pub parts : Parts lim s
  pub same_counts : s.counts ≡ n

page_fetched_parts : (lim : Limits) (n : Counts) (s : State) (p g : ℕ) → PartsWith lim n s → present_among n p ≡ true → g < n.pages → PartsWith lim n (fetched lim s p g)
page_fetched_parts lim n s p g r a h =
    record {
      parts =
          fetched_parts lim s p g r.parts
          (record { counts = r.parts.counts; processor = ap (λ (x : Counts). present_among x p) r.same_counts ∙ a; page = rw r.same_counts h });
      same_counts = unfold fetched in r.same_counts;
    }

all_fetched_parts : (lim : Limits) (s : State) → Parts lim s → PartsWith lim s.counts (all_fetched lim s s.counts.processors).after
all_fetched_parts lim s f =
    all_fetched_keep lim s (PartsWith lim s.counts) (λ u p g h k l r. page_fetched_parts lim s.counts u p g r (among_when s.counts p h k) l)
    (record { parts = f; same_counts = refl })

-- no records, and all clocks zeros
pub emptied_parts : (lim : Limits) (s : State) → Parts lim s → Parts lim (emptied s)
unfolding emptied
emptied_parts lim s f =
    record {
      counts = f.counts;
      clocks = all_cleared_in_order lim s.counts s.clocks f.clocks;
      pages = f.pages;
      records =
          record {
            slots = f.records.slots;
            slot = f.records.slot;
            few_standing = omega arith;
            sound = λ i l. absurd (omega (arith, l));
            distinct = λ i j l m. absurd (omega (arith, l));
          };
      marks = wish_set lim s.counts s.marks 0 f.marks;
      shared = f.shared;
      room = omega (arith, f.room);
      dirty_has_interval = λ p g d. omega (arith, entry_all_cleared s.clocks (Processor p) p, f.dirty_has_interval p g d);
    }

-- every processor fetched every page, then all was emptied
pub collected_parts : (lim : Limits) (s : State) → Parts lim s → Parts lim (collected lim s).after
unfolding collected
collected_parts lim s f = emptied_parts lim (all_fetched lim s s.counts.processors).after (all_fetched_parts lim s f).parts

-- every arrival
pub arrive_parts : (lim : Limits) (s : State) (p : ℕ) → Parts lim s → present_among s.counts p ≡ true → waits s.marks p ≡ false → holds_any lim s p ≡ false
    → Parts lim (arrive lim s p).after
unfolding arrive
arrive_parts lim s p f a awake free = go (all_arrived (at_barrier s p)) (wants_collection (at_barrier s p)) refl
  where
    go : (b c : Bool) → all_arrived (at_barrier s p) ≡ b
        → Parts lim
        (cond b (cond c (collected lim (round_done (at_barrier s p))) (none_fetched (round_done (at_barrier s p)))) (none_fetched (at_barrier s p))).after
    go true true e = collected_parts lim (round_done (at_barrier s p)) (round_parts lim s p f a)
    go true false e = round_parts lim s p f a
    go false c e = waiting_parts lim s p f a awake free e
