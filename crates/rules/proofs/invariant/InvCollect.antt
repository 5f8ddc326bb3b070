-- Garbage collection keeps the invariant: every processor fetches every page, then all records go and all clocks become zeros. Rests on
-- KeptFetch, SelectedRecords, InvEmpty and InvFetch. Assumes nothing.
use Prim.Native.Nat.{ℕ, zero, suc, ◌≤◌, ◌<◌}
use native.Mathlib.Omega.{arith}
use native.Mathlib.Decide.{ℕ_discrete}
use mathlib.Core.Path.{◌≡◌, refl, sym, ap, ◌∙◌}
use mathlib.Core.Bool.{Bool, true, false, not}
use mathlib.Core.List.{List}
use lib.ListN.{get_or}
use Rattle.clock.specs.Clocks.{entry_of}
use Rattle.rules.specs.State.{Limits, Counts, Processor, Applied, clock_of, copy_of, dirty_at, Record, records_of, State, standing}
use Rattle.rules.specs.Fetch.{with_copy, fetched}
use Rattle.rules.specs.Steps.{pages_fetched, all_fetched, emptied, collected}
use Rattle.rules.proofs.state.Holders.{same_holder, Knows}
use Rattle.rules.proofs.state.Fetches.{all_fetched_keep}
use Rattle.rules.proofs.inorder.Facts.{InOrder}
use Rattle.rules.proofs.inorder.KeptParts.{among_when, Parts, in_order_of}
use Rattle.rules.proofs.inorder.KeptFetch.{fetched_parts}
use Rattle.rules.proofs.order.Ghosts.{Ghost}
use Rattle.rules.proofs.word.WordOfRecords.{nth, HitAt, hit_page}
use Rattle.rules.proofs.word.SelectedRecords.{all_selected}
use Rattle.rules.proofs.word.FetchedWord.{above, fetched_clock, fetched_current, fetched_applied_elsewhere}
use Rattle.rules.proofs.invariant.Invariant.{seen, Inv}
use Rattle.rules.proofs.invariant.InvEmpty.{inv_without_records}
use Rattle.rules.proofs.invariant.InvSame.{nth_standing, above_says}
use Rattle.rules.proofs.invariant.InvFetch.{fetch_keeps}

-- the counts after it
unfoldable pub collected_ghost : Ghost → Ghost
collected_ghost γ = record { writes = γ.writes; last = γ.last; base = γ.last; writer = γ.writer; known = γ.known }

-- ---- the state once nothing is left to fetch

module _ (words g o : ℕ) (s : State) (γ : Ghost) (inv : Inv words g o s γ) (no-writer : γ.writer ≡ 0)
    (clean : (q : ℕ) → 1 ≤ q → q ≤ s.counts.processors → dirty_at s.pages q g ≡ false)
    (nothing-fresh : (q : ℕ) → 1 ≤ q → q ≤ s.counts.processors → (i : ℕ) → HitAt words g o (standing s) i
    → above q (clock_of s.clocks (Applied q g)) (nth (standing s) i) ≡ false) where
  -- every copy has the value of the last write
  copy_is_last : (q : ℕ) → 1 ≤ q → q ≤ s.counts.processors → get_or (copy_of s.pages q g) o 0 ≡ γ.last
  unfolding seen
  copy_is_last q h k =
      (inv.page q h k).clean_copy (clean q h k)
      ∙ all_selected words g o (λ (r : Record). not (above q (clock_of s.clocks (Applied q g)) r)) (standing s) γ.base (λ i hit. ap not (nothing-fresh q h k i hit))
      ∙ inv.closed_value no-writer

  -- the records go, the clocks become zeros, and the value of the last write is the base
  emptied_keeps : Inv words g o (emptied s) (collected_ghost γ)
  unfolding collected_ghost emptied standing records_of
  emptied_keeps = inv_without_records words g o (emptied s) (collected_ghost γ) refl no-writer refl clean copy_is_last

-- ---- the fetches

-- the applied clock of the page is its processor's clock
abbrev Current : State → ℕ → ℕ → Type 0
Current s q g = clock_of s.clocks (Applied q g) ≡ clock_of s.clocks (Processor q)

module _ (lim : Limits) (s : State) (p g₁ : ℕ) where
  fetch_keeps_current : (q g : ℕ) → Current s q g → Current (fetched lim s p g₁) q g
  unfolding same_holder
  fetch_keeps_current q g e = go (ℕ_discrete q p) (ℕ_discrete g g₁)
    where
      other : (q ≡ p → g ≡ g₁ → ⊥) → Current (fetched lim s p g₁) q g
      other d = fetched_applied_elsewhere lim s p g₁ q g d ∙ e ∙ sym (fetched_clock lim s p g₁ (Processor q) refl)

      go : Dec (q ≡ p) → Dec (g ≡ g₁) → Current (fetched lim s p g₁) q g
      go (yes a) (yes b) = rw (a, b) (fetched_current lim s p g₁)
      go (yes a) (no b) = other (λ x y. b y)
      go (no a) b = other (λ x y. a x)

pages_keep_current : (lim : Limits) (s : State) (p n q g : ℕ) → Current s q g → Current (pages_fetched lim s p n).after q g
unfolding pages_fetched
pages_keep_current lim s p zero q g e = e
pages_keep_current lim s p (suc k) q g e = fetch_keeps_current lim (pages_fetched lim s p k).after p k q g (pages_keep_current lim s p k q g e)

pages_make_current : (lim : Limits) (s : State) (p n g : ℕ) → g < n → Current (pages_fetched lim s p n).after p g
unfolding pages_fetched
pages_make_current lim s p zero g h = absurd (omega arith)
pages_make_current lim s p (suc k) g h = go (ℕ_discrete g k) (pages_make_current lim s p k g)
  where
    go : Dec (g ≡ k) → (g < k → Current (pages_fetched lim s p k).after p g) → Current (fetched lim (pages_fetched lim s p k).after p k) p g
    go (yes e) r = rw e (fetched_current lim (pages_fetched lim s p k).after p k)
    go (no e) r = fetch_keeps_current lim (pages_fetched lim s p k).after p k p g (r (omega arith))

-- the first n processors have every page current
all_current : (lim : Limits) (s : State) (n q g : ℕ) → 1 ≤ q → q ≤ n → g < s.counts.pages → Current (all_fetched lim s n).after q g
unfolding all_fetched
all_current lim s zero q g h k l = absurd (omega arith)
all_current lim s (suc n) q g h k l = go (ℕ_discrete q (suc n)) (all_current lim s n q g h)
  where
    go : Dec (q ≡ suc n) → (q ≤ n → g < s.counts.pages → Current (all_fetched lim s n).after q g)
        → Current (pages_fetched lim (all_fetched lim s n).after (suc n) s.counts.pages).after q g
    go (yes e) r = rw e (pages_make_current lim (all_fetched lim s n).after (suc n) s.counts.pages g l)
    go (no e) r = pages_keep_current lim (all_fetched lim s n).after (suc n) s.counts.pages q g (r (omega arith) l)

module _ (lim : Limits) (n : Counts) (g o : ℕ) (γ : Ghost) (in_page : o < lim.words) where
  -- what holds between the fetches
  record Collecting (s : State) : Type 0 where
    parts : Parts lim s
    same_counts : s.counts ≡ n
    inv : Inv lim.words g o s γ
    clean : (q : ℕ) → 1 ≤ q → q ≤ n.processors → dirty_at s.pages q g ≡ false

  fetch_keeps_all : (s : State) (p g₁ : ℕ) → 1 ≤ p → p ≤ n.processors → g₁ < n.pages → Collecting s → Collecting (fetched lim s p g₁)
  unfolding fetched with_copy dirty_at
  fetch_keeps_all s p g₁ h k l f =
      let k₁ : p ≤ s.counts.processors = rw f.same_counts k in
      let l₁ : g₁ < s.counts.pages = rw f.same_counts l in
      record {
        parts = fetched_parts lim s p g₁ f.parts (record { counts = f.parts.counts; processor = among_when s.counts p h k₁; page = l₁ });
        same_counts = f.same_counts;
        inv = fetch_keeps lim g o s γ (in_order_of lim s f.parts) in_page f.inv p g₁ h k₁ l₁;
        clean = f.clean;
      }

-- ---- collection

module _ (lim : Limits) (g o : ℕ) (s : State) (γ : Ghost) (parts : Parts lim s) (in_page : o < lim.words) (inv : Inv lim.words g o s γ) (no-writer : γ.writer ≡ 0)
    (clean : (q : ℕ) → 1 ≤ q → q ≤ s.counts.processors → dirty_at s.pages q g ≡ false)
    (knows : (q : ℕ) → γ.known (Processor q) ≡ γ.writes) where
  after_fetches : State
  after_fetches = (all_fetched lim s s.counts.processors).after

  still : Collecting lim s.counts g o γ in_page after_fetches
  unfolding after_fetches
  still =
      all_fetched_keep lim s (Collecting lim s.counts g o γ in_page) (fetch_keeps_all lim s.counts g o γ in_page)
      (record { parts = parts; same_counts = refl; inv = inv; clean = clean })

  -- every clock covers the records that set the word, so none is left to fetch
  none_above : (q : ℕ) → 1 ≤ q → q ≤ after_fetches.counts.processors → (i : ℕ) → HitAt lim.words g o (standing after_fetches) i
      → above q (clock_of after_fetches.clocks (Applied q g)) (nth (standing after_fetches) i) ≡ false
  unfolding Knows after_fetches
  none_above q h k i hit = go (above q (clock_of after_fetches.clocks (Applied q g)) (nth (standing after_fetches) i)) refl
    where
      same_counts : after_fetches.counts ≡ s.counts
      same_counts = still.same_counts

      ord : InOrder lim after_fetches
      ord = in_order_of lim after_fetches still.parts

      page_there : g < s.counts.pages
      page_there =
          let e = nth_standing lim after_fetches ord i hit.within in
          omega (
            arith,
            (ord.record_sound_lem i e.0).page,
            ap (λ (r : Record). r.page) e.1,
            hit_page lim.words g o (nth (standing after_fetches) i) hit.hit,
            ap (λ (c : Counts). c.pages) same_counts,
          )

      current : clock_of after_fetches.clocks (Applied q g) ≡ clock_of after_fetches.clocks (Processor q)
      current = all_current lim s s.counts.processors q g h (rw same_counts at k) page_there

      go : (b : Bool) → above q (clock_of after_fetches.clocks (Applied q g)) (nth (standing after_fetches) i) ≡ b → b ≡ false
      go true e =
          absurd
          (omega (
            arith,
            (above_says q (clock_of after_fetches.clocks (Applied q g)) (nth (standing after_fetches) i) e).1,
            (still.inv.clocks.informed (Processor q) (h, k)).covers_hits (knows q) i hit,
            ap (λ (v : List ℕ). entry_of v (nth (standing after_fetches) i).processor) current,
          ))
      go false e = refl

  -- the invariant after the collection
  pub collect_keeps : Inv lim.words g o (collected lim s).after (collected_ghost γ)
  unfolding collected after_fetches
  collect_keeps = emptied_keeps lim.words g o after_fetches γ still.inv no-writer (λ q h k. still.clean q h (rw still.same_counts at k)) none_above
