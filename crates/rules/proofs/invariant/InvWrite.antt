-- A write keeps the invariant, once its page is fetched: one to another word, and one to w by a processor that knows of every write. Rests
-- on InvSame and InvStore. Assumes nothing.
use Prim.Native.Nat.{ℕ, ◌+◌, ◌*◌, ◌/◌, ◌%◌, ◌≤◌, ◌<◌}
use native.Mathlib.Omega.{arith}
use native.Mathlib.Decide.{ℕ_discrete}
use native.Mathlib.Nat.{div-add-mod}
use mathlib.Core.Path.{◌≡◌, refl, sym, ap, ap₂, ◌∙◌}
use mathlib.Core.Bool.{Bool, true, false, cond, false≢true}
use mathlib.Core.List.{List}
use lib.ListN.{length, get_or}
use borrow.Author.Tests.{ne_eqb}
use Rattle.limits.specs.Limits.{word_values}
use Rattle.clock.specs.Clocks.{entry_of}
use Rattle.rules.specs.State.{Limits, Holder, Processor, Applied, clock_of, copy_of, dirty_at, State, with_pages, standing}
use Rattle.rules.specs.Steps.{page_of_word, offset_of_word, twin_taken, stored}
use Rattle.rules.proofs.state.Holders.{same_holder, same_holder_refl, same_holder_lem, Knows}
use Rattle.rules.proofs.order.Ghosts.{Ghost, with_number}
use Rattle.rules.proofs.order.MarksAfter.{rests}
use Rattle.rules.proofs.invariant.Invariant.{Informed, ClockInv, PageInv, Inv}
use Rattle.rules.proofs.invariant.InvSame.{page_inv_same}
use Rattle.rules.proofs.invariant.InvStore.{Elsewhere, stored_copy_elsewhere, stored_dirty_elsewhere, stored_twin_elsewhere, store_beside, store_there}

-- a word is where its page and its offset say
pub word_from_place : (n x w : ℕ) → x / n ≡ w / n → x % n ≡ w % n → x ≡ w
word_from_place n x w d m = sym (div-add-mod x n) ∙ ap₂ ◌+◌ (ap (λ (k : ℕ). n * k) d) m ∙ div-add-mod w n

module _ (lim : Limits) (w : ℕ) (s : State) (γ : Ghost) (p x v : ℕ) where
  abbrev g : ℕ
  g = page_of_word lim w

  abbrev o : ℕ
  o = offset_of_word lim w

  -- the state after the store, where s is the state after the fetch
  abbrev s' : State
  s' = with_pages s (stored lim (twin_taken s.pages p (page_of_word lim x)) p x v)

  module _ (inv : Inv lim.words g o s γ) (h : 1 ≤ p) (k : p ≤ s.counts.processors) (awake : rests s p ≡ false)
      (current : (q : ℕ) → entry_of (clock_of s.clocks (Applied p (page_of_word lim x))) q ≡ entry_of (clock_of s.clocks (Processor p)) q) where
    -- a page of which nothing was stored
    page_elsewhere : (q : ℕ) → 1 ≤ q → q ≤ s.counts.processors → Elsewhere lim s.pages p x v q g
        → PageInv lim.words g o q s.clocks s'.pages (standing s) γ.writer γ.last γ.base
    page_elsewhere q hq kq e =
        page_inv_same lim.words g o q s.clocks s.clocks s.pages s'.pages (standing s) γ.writer γ.last γ.base (λ r. refl) refl (λ z. refl)
        (ap (λ (t : List ℕ). get_or t o 0) (stored_copy_elsewhere lim s.pages p x v q g e)) (ap (λ (t : List ℕ). get_or t o 0) (stored_twin_elsewhere lim s.pages p x v q g e))
        (stored_dirty_elsewhere lim s.pages p x v q g e) (inv.page q hq kq)

    -- who rests has stored nothing
    still_clean : (q : ℕ) → 1 ≤ q → q ≤ s.counts.processors → rests s q ≡ true → dirty_at s'.pages q g ≡ false
    still_clean q hq kq e =
        stored_dirty_elsewhere lim s.pages p x v q g (λ d z. false≢true (sym awake ∙ ap (rests s) (sym d) ∙ e))
        ∙ inv.resting_clean q hq kq e

    pub store_elsewhere_keeps : (x ≡ w → ⊥) → Inv lim.words g o s' γ
    unfolding standing page_of_word offset_of_word
    store_elsewhere_keeps d =
        record {
          clocks = inv.clocks;
          page = λ q hq kq. go q hq kq (ℕ_discrete q p) (ℕ_discrete g (page_of_word lim x));
          closed_value = inv.closed_value;
          resting_clean = still_clean;
        }
      where
        go : (q : ℕ) → 1 ≤ q → q ≤ s.counts.processors → Dec (q ≡ p) → Dec (g ≡ page_of_word lim x)
            → PageInv lim.words g o q s.clocks s'.pages (standing s) γ.writer γ.last γ.base
        go q hq kq (yes e) (yes same) =
            rw (e, same)
            (store_beside lim o s.clocks s.pages (standing s) p x v γ.writer γ.last γ.base current (rw same at (inv.page p h k))
            (λ off. d (word_from_place lim.words x w (sym same) (sym off))))
        go q hq kq (yes e) (no other) = page_elsewhere q hq kq (λ a z. other z)
        go q hq kq (no e) b = page_elsewhere q hq kq (λ a z. e a)

    -- the counts after a store to w
    abbrev γ' : Ghost
    γ' = record { writes = γ.writes + 1; last = v % word_values; base = γ.base; writer = p; known = with_number γ.known (Processor p) (γ.writes + 1) }

    module _ (all : γ.known (Processor p) ≡ γ.writes) (few : (y : Holder) → γ.known y ≤ γ.writes) where
      -- no other processor has stores to w that no interval has
      sole_writer : (q : ℕ) → 1 ≤ q → (q ≡ p → ⊥) → γ.writer ≡ q → ⊥
      unfolding Knows same_holder
      sole_writer q hq d e =
          let some_writer : γ.writer ≡ 0 → ⊥ = λ z. omega (arith, z, e, hq) in
          let behind = inv.clocks.others_behind some_writer (Processor p) (h, k) (ne_eqb p γ.writer (λ z. d (sym e ∙ sym z))) in
          omega (arith, all, behind)

      clocks_after : ClockInv lim.words g o s.counts s.clocks (standing s) (γ.writes + 1) p (with_number γ.known (Processor p) (γ.writes + 1))
      unfolding with_number Knows
      clocks_after =
          record {
            none_yet = λ z i hi. omega (arith, z);
            informed = λ y ky. go y ky (same_holder (Processor p) y) refl;
            rising = inv.clocks.rising;
            writer_present = λ z. (h, k);
            writer_knows = λ z. rw (same_holder_refl (Processor p));
            others_behind = λ z y ky other. rw other (omega (arith, few y));
          }
        where
          covers : (y : Holder) → Knows s.counts y → γ.known y ≡ γ.writes → (n : ℕ) → Informed lim.words g o s.clocks (standing s) (γ.writes + 1) (clock_of s.clocks y) n
          covers y ky e n =
              let i = inv.clocks.informed y ky in
              record { covers_hits = λ z. i.covers_hits e; bounded = i.bounded; downward = i.downward }

          behind : (y : Holder) → Knows s.counts y → Informed lim.words g o s.clocks (standing s) (γ.writes + 1) (clock_of s.clocks y) (γ.known y)
          behind y ky =
              let i = inv.clocks.informed y ky in
              record { covers_hits = λ z. absurd (omega (arith, z, few y)); bounded = i.bounded; downward = i.downward }

          go : (y : Holder) → Knows s.counts y → (b : Bool) → same_holder (Processor p) y ≡ b
              → Informed lim.words g o s.clocks (standing s) (γ.writes + 1) (clock_of s.clocks y) (cond (same_holder (Processor p) y) (γ.writes + 1) (γ.known y))
          go y ky true e = rw e (covers y ky (rw (← (same_holder_lem (Processor p) y e)) all) (γ.writes + 1))
          go y ky false e = rw e (behind y ky)

      pub store_there_keeps : x ≡ w → o < length (copy_of s.pages p g) → Inv lim.words g o s' γ'
      unfolding standing
      store_there_keeps d long =
          record {
            clocks = clocks_after;
            page = λ q hq kq. go q hq kq (ℕ_discrete q p);
            closed_value = λ z. absurd (omega (arith, z, h));
            resting_clean = still_clean;
          }
        where
          other : (q : ℕ) → 1 ≤ q → q ≤ s.counts.processors → (q ≡ p → ⊥) → PageInv lim.words g o q s.clocks s'.pages (standing s) p (v % word_values) γ.base
          other q hq kq e =
              let i = page_elsewhere q hq kq (λ a z. e a) in
              record {
                fresh_up = i.fresh_up;
                dirty_applied = i.dirty_applied;
                clean_copy = i.clean_copy;
                dirty_twin = i.dirty_twin;
                dirty_copy = λ dirty z. i.dirty_copy dirty (sole_writer q hq e);
                writer_dirty = λ z. absurd (e (sym z));
                writer_copy = λ z. absurd (e (sym z));
              }

          go : (q : ℕ) → 1 ≤ q → q ≤ s.counts.processors → Dec (q ≡ p) → PageInv lim.words g o q s.clocks s'.pages (standing s) p (v % word_values) γ.base
          go q hq kq (yes e) =
              rw (e, ← d)
              (store_there lim (offset_of_word lim x) s.clocks s.pages (standing s) p x v γ.writer γ.last γ.base current (rw (← d) at (inv.page p h k)) refl (rw d long))
          go q hq kq (no e) = other q hq kq e
