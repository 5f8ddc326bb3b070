-- Space (document 01, demand 1: no "9 or 10 while space remains"): exactly when a write is refused for want of an interval or of room, that
-- every closing finds room, and that collection frees all of it. Rests on KeptClose. Assumes nothing.
use Prim.Native.Nat.{ℕ, ◌+◌, ◌*◌, ◌≤◌, ◌<◌}
use native.Mathlib.Omega.{arith}
use mathlib.Core.Path.{◌≡◌, refl, sym, ap, ◌∙◌}
use mathlib.Core.Bool.{Bool, true, false, cond, false≢true}
use mathlib.Core.Logic.{◌↔◌, ◌⊎◌, inl, inr}
use lib.Dec.{eqb}
use borrow.Author.Tests.{eqb-true, eqb-false, lt-ltb, ne_eqb}
use Rattle.clock.specs.Clocks.{entry_of}
use Rattle.rules.specs.State.{Limits, Processor, Job, clock_of, dirty_at, State, clock, own, has_arrived}
use Rattle.rules.specs.Lines.{waits}
use Rattle.rules.specs.InOrder.{present, dirty_pages}
use Rattle.rules.specs.Close.{any_dirty, ticked, recorded}
use Rattle.rules.specs.Steps.{page_of_word, all_fetched, emptied, collected}
use Rattle.rules.specs.Refusals.{Step, Write, action_of, known_kind, object_bound, uses_value, fits, late_refusal, refusal_by, refusal_in_order}
use Rattle.rules.proofs.inorder.KindsOfSteps.{kind_of, kind_of_lem, object_in, object_in_lem}
use Rattle.rules.proofs.inorder.Facts.{InOrder}
use Rattle.rules.proofs.inorder.KeptParts.{own_in, parts_of}
use Rattle.rules.proofs.inorder.KeptRounds.{entry_all_cleared}
use Rattle.rules.proofs.inorder.KeptNewRecords.{recorded_below}
use Rattle.rules.proofs.inorder.KeptClose.{closing_has_interval, closing_ready}

-- a write of v to word w that no row above 9 refuses
pub record WriteSoFar (lim : Limits) (s : State) (t : Step) (w v : ℕ) : Type 0 where
  pub action : action_of t ≡ Write w v
  pub processor_present : present s t.processor ≡ true
  pub word_present : w < s.counts.pages * lim.words
  pub not_arrived : has_arrived s t.processor ≡ false
  pub not_waiting : waits s.marks t.processor ≡ false

-- it is refused as rows 9 and 10 say
pub refusal_of_write : (lim : Limits) (s : State) (t : Step) (w v : ℕ) → WriteSoFar lim s t w v → refusal_in_order lim s t ≡ late_refusal lim s (own s t.processor) t.processor (Write w v)
unfolding refusal_in_order refusal_by known_kind fits uses_value object_bound kind_of object_in
refusal_of_write lim s t w v h =
    let kind : t.kind ≡ 2 = kind_of_lem t (Write w v) h.action (λ e. let z : ◌≡◌ {A = ℕ} 2 0 = ap kind_of e in omega arith) in
    let word : t.object ≡ w = sym (object_in_lem t) ∙ ap (object_in t.object) h.action in
    rw (h.action, kind, word, h.processor_present, lt-ltb w (s.counts.pages * lim.words) h.word_present, h.not_arrived, h.not_waiting)

-- 9 is answered if and only if the page is clean and the processor's own entry is the highest there is
pub nine_exactly_when : (lim : Limits) (s : State) (t : Step) (w v : ℕ) → WriteSoFar lim s t w v
    → refusal_in_order lim s t ≡ 9 ↔ ((dirty_at s.pages t.processor (page_of_word lim w) ≡ false) × (own s t.processor ≡ lim.intervals))
unfolding late_refusal
nine_exactly_when lim s t w v h =
    rw (refusal_of_write lim s t w v h)
    (go (dirty_at s.pages p g) (eqb (own s p) lim.intervals) (eqb (s.records.standing + dirty_pages s) lim.records) refl refl)
  where
    p : ℕ
    p = t.processor

    g : ℕ
    g = page_of_word lim w

    go : (a b c : Bool) → dirty_at s.pages p g ≡ a → eqb (own s p) lim.intervals ≡ b
        → (◌≡◌ {A = ℕ} (cond a 0 (cond b 9 (cond c 10 0))) 9) ↔ ((a ≡ false) × (own s p ≡ lim.intervals))
    go true b c x y = (λ e. absurd (omega (arith, e)), λ e. let z : ◌≡◌ {A = Bool} false true = sym e.0 in absurd (false≢true z))
    go false true c x y = (λ e. (refl, eqb-true (own s p) lim.intervals y), λ e. refl)
    go false false true x y = (λ e. absurd (omega (arith, e)), λ e. absurd (eqb-false (own s p) lim.intervals y e.1))
    go false false false x y = (λ e. absurd (omega (arith, e)), λ e. absurd (eqb-false (own s p) lim.intervals y e.1))

-- 10 is answered if and only if the page is clean, 9 does not apply, and records plus dirty pages are as many as can stand
pub ten_exactly_when : (lim : Limits) (s : State) (t : Step) (w v : ℕ) → WriteSoFar lim s t w v
    → refusal_in_order lim s t ≡ 10
    ↔ ((dirty_at s.pages t.processor (page_of_word lim w) ≡ false) × (own s t.processor ≡ lim.intervals → ⊥) × (s.records.standing + dirty_pages s ≡ lim.records))
unfolding late_refusal
ten_exactly_when lim s t w v h =
    rw (refusal_of_write lim s t w v h)
    (go (dirty_at s.pages p g) (eqb (own s p) lim.intervals) (eqb (s.records.standing + dirty_pages s) lim.records) refl refl refl)
  where
    p : ℕ
    p = t.processor

    g : ℕ
    g = page_of_word lim w

    go : (a b c : Bool) → dirty_at s.pages p g ≡ a → eqb (own s p) lim.intervals ≡ b → eqb (s.records.standing + dirty_pages s) lim.records ≡ c
        → (◌≡◌ {A = ℕ} (cond a 0 (cond b 9 (cond c 10 0))) 10)
        ↔ ((a ≡ false) × (own s p ≡ lim.intervals → ⊥) × (s.records.standing + dirty_pages s ≡ lim.records))
    go true b c x y z = (λ e. absurd (omega (arith, e)), λ e. let k : ◌≡◌ {A = Bool} false true = sym e.0 in absurd (false≢true k))
    go false true c x y z = (λ e. absurd (omega (arith, e)), λ e. absurd (e.1 (eqb-true (own s p) lim.intervals y)))
    go false false true x y z =
        (λ e. (refl, eqb-false (own s p) lim.intervals y, eqb-true (s.records.standing + dirty_pages s) lim.records z), λ e. refl)
    go false false false x y z = (λ e. absurd (omega (arith, e)), λ e. absurd (eqb-false (s.records.standing + dirty_pages s) lim.records z e.2))

-- a write is accepted where the page is dirty, or where an interval is left and there is room for one record more
pub accepted_while_space_remains : (lim : Limits) (s : State) (t : Step) (w v : ℕ) → WriteSoFar lim s t w v
    → (dirty_at s.pages t.processor (page_of_word lim w) ≡ true) ⊎ ((own s t.processor < lim.intervals) × (s.records.standing + dirty_pages s < lim.records))
    → refusal_in_order lim s t ≡ 0
unfolding late_refusal
accepted_while_space_remains lim s t w v h space = rw (refusal_of_write lim s t w v h) (go space)
  where
    go : (dirty_at s.pages t.processor (page_of_word lim w) ≡ true) ⊎ ((own s t.processor < lim.intervals) × (s.records.standing + dirty_pages s < lim.records))
        → ◌≡◌ {A = ℕ}
        (cond (dirty_at s.pages t.processor (page_of_word lim w)) 0
        (cond (eqb (own s t.processor) lim.intervals) 9 (cond (eqb (s.records.standing + dirty_pages s) lim.records) 10 0)))
        0
    go (inl dirty) = rw dirty refl
    go (inr left) =
        rw (
          ne_eqb (own s t.processor) lim.intervals (λ e. omega (arith, e, left.0)),
          ne_eqb (s.records.standing + dirty_pages s) lim.records (λ e. omega (arith, e, left.1)),
        )
        (either (dirty_at s.pages t.processor (page_of_word lim w)))
      where
        either : (b : Bool) → ◌≡◌ {A = ℕ} (cond b 0 0) 0
        either true = refl
        either false = refl

-- every closing finds room for its records, and an interval if it makes one
pub record RoomToClose (lim : Limits) (s : State) (p : ℕ) : Type 0 where
  pub records_fit : (recorded s p s.counts.pages).standing ≤ lim.records
  pub interval_fits : any_dirty s p ≡ true → own s p + 1 ≤ lim.intervals

-- it does in every state in order
pub closing_finds_room : (lim : Limits) (s : State) (p : ℕ) → InOrder lim s → present s p ≡ true → RoomToClose lim s p
unfolding present own clock
closing_finds_room lim s p f a =
    let k = parts_of lim s f in
    record {
      records_fit = (recorded_below lim s p (own_in (ticked s p)) s.counts.pages (closing_ready lim s p k a) (omega arith)).in_order.few_standing;
      interval_fits = λ e. omega (arith, closing_has_interval lim s p k e);
    }

-- "Space freed serves later writes": after a collection no record stands and every processor has all its intervals left
pub record AllFreed (s : State) : Type 0 where
  pub no_records : s.records.standing ≡ 0
  pub no_intervals : (p : ℕ) → own s p ≡ 0
  -- L9: "sets the clocks of queued jobs to zeros"
  pub jobs_know_nothing : (k q : ℕ) → entry_of (clock_of s.clocks (Job k)) q ≡ 0

-- it does after every collection
pub collection_frees : (lim : Limits) (s : State) → AllFreed (collected lim s).after
unfolding collected emptied own clock
collection_frees lim s =
    let c = (all_fetched lim s s.counts.processors).after.clocks in
    record { no_records = refl; no_intervals = λ p. entry_all_cleared c (Processor p) p; jobs_know_nothing = λ k q. entry_all_cleared c (Job k) q }
