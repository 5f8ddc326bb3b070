-- The strong half of demand 3 at one read: who knows every write reads the last value. Rests on SelectedRecords and InvFetch. Assumes
-- nothing.
use Prim.Native.Nat.{ℕ, ◌≤◌, ◌<◌}
use native.Mathlib.Omega.{arith}
use native.Mathlib.Decide.{ℕ_discrete}
use mathlib.Core.Path.{◌≡◌, refl, sym, ap, ◌∙◌}
use mathlib.Core.Bool.{Bool, true, false, not}
use mathlib.Core.List.{List}
use lib.ListN.{get_or}
use borrow.Author.Tests.{ne_eqb}
use Rattle.clock.specs.Clocks.{entry_of}
use Rattle.rules.specs.State.{Limits, Processor, Applied, clock_of, copy_of, dirty_at, State, standing}
use Rattle.rules.specs.Fetch.{fetched}
use Rattle.rules.proofs.state.Holders.{same_holder, Knows}
use Rattle.rules.proofs.inorder.Facts.{InOrder}
use Rattle.rules.proofs.order.Ghosts.{Ghost}
use Rattle.rules.proofs.word.WordOfRecords.{nth, word_after, HitAt}
use Rattle.rules.proofs.word.SelectedRecords.{all_selected}
use Rattle.rules.proofs.word.FetchedWord.{above, fetched_current}
use Rattle.rules.proofs.invariant.Invariant.{Informed, seen, PageInv, Inv}
use Rattle.rules.proofs.invariant.InvSame.{above_says}
use Rattle.rules.proofs.invariant.InvFetch.{fetch_keeps}

module _ (lim : Limits) (g o : ℕ) (s : State) (γ : Ghost) (p : ℕ) (ord : InOrder lim s) (in_page : o < lim.words) (h : 1 ≤ p) (k : p ≤ s.counts.processors)
    (l : g < s.counts.pages) (inv : Inv lim.words g o s γ) (all : γ.known (Processor p) ≡ γ.writes) where
  abbrev s' : State
  s' = fetched lim s p g

  after : Inv lim.words g o s' γ
  after = fetch_keeps lim g o s γ ord in_page inv p g h k l

  page : PageInv lim.words g o p s'.clocks s'.pages (standing s') γ.writer γ.last γ.base
  unfolding fetched
  page = after.page p h k

  informed_here : Informed lim.words g o s'.clocks (standing s') γ.writes (clock_of s'.clocks (Processor p)) (γ.known (Processor p))
  unfolding fetched Knows
  informed_here = after.clocks.informed (Processor p) (h, k)

  -- another processor with stores that no interval has would know more
  behind : (γ.writer ≡ p → ⊥) → (γ.writer ≡ 0 → ⊥) → γ.known (Processor p) < γ.writes
  unfolding fetched Knows same_holder
  behind d z = after.clocks.others_behind z (Processor p) (h, k) (ne_eqb p γ.writer (λ e. d (sym e)))

  -- the processor has fetched every record that sets the word
  saw_all : seen lim.words g o p s'.clocks (standing s') γ.base ≡ word_after lim.words g o (standing s') γ.base
  unfolding seen Knows
  saw_all =
      all_selected lim.words g o (λ r. not (above p (clock_of s'.clocks (Applied p g)) r)) (standing s') γ.base
      (λ i hi. ap not (not_above i hi (above p (clock_of s'.clocks (Applied p g)) (nth (standing s') i)) refl))
    where
      not_above : (i : ℕ) → HitAt lim.words g o (standing s') i → (b : Bool) → above p (clock_of s'.clocks (Applied p g)) (nth (standing s') i) ≡ b → b ≡ false
      not_above i hi false e = refl
      not_above i hi true e =
          let q : ℕ = (nth (standing s') i).processor in
          let known-one = informed_here.covers_hits all i hi in
          let current : entry_of (clock_of s'.clocks (Applied p g)) q ≡ entry_of (clock_of s'.clocks (Processor p)) q = ap (λ (v : List ℕ). entry_of v q) (fetched_current lim s p g) in
          absurd (omega (arith, (above_says p (clock_of s'.clocks (Applied p g)) (nth (standing s') i) e).1, known-one, current))

  -- what it then reads is the last value
  pub reads_last : get_or (copy_of s'.pages p g) o 0 ≡ γ.last
  reads_last = go (ℕ_discrete γ.writer p)
    where
      nobody : (γ.writer ≡ p → ⊥) → Dec (γ.writer ≡ 0) → γ.writer ≡ 0
      nobody d (yes z) = z
      nobody d (no z) = absurd (omega (arith, all, behind d z))

      by_mark : (γ.writer ≡ p → ⊥) → (b : Bool) → dirty_at s'.pages p g ≡ b → get_or (copy_of s'.pages p g) o 0 ≡ seen lim.words g o p s'.clocks (standing s') γ.base
      by_mark d true e = page.dirty_copy e d
      by_mark d false e = page.clean_copy e

      go : Dec (γ.writer ≡ p) → get_or (copy_of s'.pages p g) o 0 ≡ γ.last
      go (yes e) = page.writer_copy e
      go (no d) = by_mark d (dirty_at s'.pages p g) refl ∙ saw_all ∙ after.closed_value (nobody d (ℕ_discrete γ.writer 0))
