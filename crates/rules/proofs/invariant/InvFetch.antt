-- A fetch keeps the invariant: the copy then has what every known interval stored. Rests on Fetching and InvSame. Assumes nothing.
use Prim.Native.Nat.{ℕ, ◌≤◌, ◌<◌}
use native.Mathlib.Omega.{arith}
use native.Mathlib.Decide.{ℕ_discrete}
use native.Mathlib.Nat.{lt_of_not-le}
use mathlib.Core.Path.{◌≡◌, refl, sym, ap, ◌∙◌}
use mathlib.Core.Bool.{Bool, true, not}
use mathlib.Core.List.{List}
use lib.ListN.{get_or}
use Rattle.lists.specs.Tables.{select}
use Rattle.clock.specs.Clocks.{entry_of}
use Rattle.rules.specs.State.{Limits, Counts, Holder, Processor, Applied, clock_of, copy_of, twin_of, dirty_at, Record, State, clock, own, standing}
use Rattle.rules.specs.Fetch.{sum_at, applied_all, with_copy, fetched, applying, unreplaced}
use Rattle.rules.proofs.state.Holders.{other_holder, Knows, knows_no_applied}
use Rattle.rules.proofs.inorder.Facts.{InOrder, whole_copy}
use Rattle.rules.proofs.inorder.Everywhere.{entries_covered}
use Rattle.rules.proofs.order.Ghosts.{Ghost}
use Rattle.rules.proofs.word.WordOfRecords.{nth, word_after, HitAt, FreshUp}
use Rattle.rules.proofs.word.FetchedWord.{above, fetched_applying, fetched_elsewhere, fetched_sum, fetched_clock, fetched_applied, fetched_applied_elsewhere, fetched_word}
use Rattle.rules.proofs.Fetching.{nothing_pending_when_covered}
use Rattle.rules.proofs.invariant.Invariant.{Covered, seen, PageInv, Inv}
use Rattle.rules.proofs.invariant.InvSame.{interval_known, above_says, above_when, above_same, clock_inv_same, fresh_up_same, page_inv_same}

-- ---- what a fetch leaves as it was

module _ (lim : Limits) (s : State) (p g₁ : ℕ) where
  pub fetched_knower : (n : Counts) (h : Holder) → Knows n h → clock_of (fetched lim s p g₁).clocks h ≡ clock_of s.clocks h
  fetched_knower n h k = fetched_clock lim s p g₁ h (other_holder (Applied p g₁) h (λ d. knows_no_applied n h p g₁ k (sym d)))

-- where the applied clock is the processor's, a fetch changes no copy
pub fetch_of_current : (lim : Limits) (s : State) (p g : ℕ) → ((q : ℕ) → entry_of (clock_of s.clocks (Applied p g)) q ≡ entry_of (clock s p) q)
    → copy_of (fetched lim s p g).pages p g ≡ copy_of s.pages p g
unfolding applied_all applying unreplaced
fetch_of_current lim s p g e =
    fetched_applying lim s p g
    ∙ ap (λ (rs : List Record). applied_all lim.words (unreplaced lim.words rs) (copy_of s.pages p g))
    (nothing_pending_when_covered s p g (entries_covered (clock_of s.clocks (Applied p g)) (clock s p) (λ q. omega (arith, e q))))

module _ (lim : Limits) (g o : ℕ) (s : State) (γ : Ghost) (ord : InOrder lim s) (in_page : o < lim.words) (inv : Inv lim.words g o s γ) where
  -- records above the processor's own clock: a later one than an unknown one is unknown
  unknown_up : (p : ℕ) → 1 ≤ p → p ≤ s.counts.processors → FreshUp lim.words g o (sum_at s.clocks) (above p (clock s p)) (standing s)
  unfolding Knows clock own
  unknown_up p h k = record { up = λ i j hi hj less e. later i j hi hj less (above_says p (clock s p) (nth (standing s) i) e) }
    where
      later : (i j : ℕ) → HitAt lim.words g o (standing s) i → HitAt lim.words g o (standing s) j
          → sum_at s.clocks (nth (standing s) i) < sum_at s.clocks (nth (standing s) j)
          → ((nth (standing s) i).processor ≡ p → ⊥) × (entry_of (clock s p) (nth (standing s) i).processor < (nth (standing s) i).interval)
          → above p (clock s p) (nth (standing s) j) ≡ true
      later i j hi hj less e =
          above_when p (clock s p) (nth (standing s) j) (λ q. not_covered (own_record q)) (lt_of_not-le not_covered)
        where
          not_covered : Covered (clock s p) (nth (standing s) j) → ⊥
          not_covered v = omega (arith, e.1, (inv.clocks.informed (Processor p) (h, k)).downward i j hi hj less v)

          own_record : (nth (standing s) j).processor ≡ p → Covered (clock s p) (nth (standing s) j)
          own_record q = rw q (rw q at (interval_known lim s ord j hj.within))

  -- the page that is fetched
  fetched_page : (p : ℕ) → 1 ≤ p → p ≤ s.counts.processors → g < s.counts.pages
      → PageInv lim.words g o p s.clocks s.pages (standing s) γ.writer γ.last γ.base
      → PageInv lim.words g o p (fetched lim s p g).clocks (fetched lim s p g).pages (standing s) γ.writer γ.last γ.base
  unfolding seen Knows clock clock_of fetched with_copy dirty_at twin_of
  fetched_page p h k l old =
      record {
        fresh_up = rw (fetched_applied lim s p g) (fresh_up_same lim.words g o s.clocks (fetched lim s p g).clocks (above p (clock s p)) (standing s) (fetched_sum lim s p g) (unknown_up p h k));
        dirty_applied = λ e q. rw (fetched_applied lim s p g, own_clock) refl;
        clean_copy = λ e. rw (fetched_applied lim s p g)
            (fetched_word lim s p g o γ.base (whole_copy lim s ord p g h k l) in_page
            inv.clocks.rising old.fresh_up (λ q. ord.applied_known_lem p g q) (old.clean_copy e));
        dirty_twin = λ e. rw (fetched_applied lim s p g) (old.dirty_twin e ∙ seen_stays e);
        dirty_copy = λ e d. rw (fetched_applied lim s p g) (ap (λ (page : List ℕ). get_or page o 0) (copy_stays e) ∙ old.dirty_copy e d ∙ seen_stays e);
        writer_dirty = λ e. old.writer_dirty e;
        writer_copy = λ e. ap (λ (page : List ℕ). get_or page o 0) (copy_stays (old.writer_dirty e)) ∙ old.writer_copy e;
      }
    where
      own_clock : clock_of (fetched lim s p g).clocks (Processor p) ≡ clock s p
      own_clock = fetched_knower lim s p g s.counts (Processor p) (h, k)

      seen_stays : dirty_at s.pages p g ≡ true
          → word_after lim.words g o (select (λ (r : Record). not (above p (clock_of s.clocks (Applied p g)) r)) (standing s)) γ.base
          ≡ word_after lim.words g o (select (λ (r : Record). not (above p (clock s p) r)) (standing s)) γ.base
      seen_stays e =
          ap (λ (f : Record → Bool). word_after lim.words g o (select (λ (r : Record). not (f r)) (standing s)) γ.base)
          (above_same p (clock_of s.clocks (Applied p g)) (clock s p) (old.dirty_applied e))

      copy_stays : dirty_at s.pages p g ≡ true → copy_of (fetched lim s p g).pages p g ≡ copy_of s.pages p g
      copy_stays e = fetch_of_current lim s p g (old.dirty_applied e)

  -- a page that is not fetched
  untouched : (p g₁ q : ℕ) → 1 ≤ q → q ≤ s.counts.processors → clock_of (fetched lim s p g₁).clocks (Applied q g) ≡ clock_of s.clocks (Applied q g)
      → copy_of (fetched lim s p g₁).pages q g ≡ copy_of s.pages q g
      → PageInv lim.words g o q (fetched lim s p g₁).clocks (fetched lim s p g₁).pages (standing s) γ.writer γ.last γ.base
  unfolding Knows fetched with_copy dirty_at twin_of
  untouched p g₁ q h k ea ec =
      page_inv_same lim.words g o q s.clocks (fetched lim s p g₁).clocks s.pages (fetched lim s p g₁).pages (standing s) γ.writer γ.last γ.base
      (fetched_sum lim s p g₁) ea (λ e. fetched_knower lim s p g₁ s.counts (Processor q) (h, k)) (ap (λ (page : List ℕ). get_or page o 0) ec) refl refl (inv.page q h k)

  pub fetch_keeps : (p g₁ : ℕ) → 1 ≤ p → p ≤ s.counts.processors → g₁ < s.counts.pages → Inv lim.words g o (fetched lim s p g₁) γ
  unfolding standing fetched with_copy dirty_at
  fetch_keeps p g₁ h k l =
      record {
        clocks = clock_inv_same lim.words g o s.counts s.clocks (fetched lim s p g₁).clocks (standing s) γ.writes γ.writer γ.known
            (fetched_knower lim s p g₁ s.counts) (fetched_sum lim s p g₁) inv.clocks;
        page = λ q hq kq. go q hq kq (ℕ_discrete q p) (ℕ_discrete g g₁);
        closed_value = inv.closed_value;
        resting_clean = inv.resting_clean;
      }
    where
      go : (q : ℕ) → 1 ≤ q → q ≤ s.counts.processors → Dec (q ≡ p) → Dec (g ≡ g₁)
          → PageInv lim.words g o q (fetched lim s p g₁).clocks (fetched lim s p g₁).pages (standing s) γ.writer γ.last γ.base
      go q hq kq (yes e) (yes d) = rw (e, ← d) (fetched_page p h k (rw d l) (inv.page p h k))
      go q hq kq (yes e) (no d) =
          rw e (untouched p g₁ p h k (fetched_applied_elsewhere lim s p g₁ p g (λ a b. d b)) (fetched_elsewhere lim s p g₁ p g (λ a b. d b)))
      go q hq kq (no e) d = untouched p g₁ q hq kq (fetched_applied_elsewhere lim s p g₁ q g (λ a b. e a)) (fetched_elsewhere lim s p g₁ q g (λ a b. e a))
